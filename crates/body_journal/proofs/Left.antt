-- For the layers above: what a crash may leave between two calls, and that a body keeps its number.
use Rattle.std.proofs.Common.{◌≡◌, ℕ, ◌-◌, List, [], ◌++◌, Some, Option, sym, subst}
use Rattle.std.proofs.lemmas.List.{append_assoc, append-nil}
use Rattle.disk_core.specs.Files.{IsImage}
use Rattle.disk_core.specs.Moments.{Told}
use Rattle.disk_core.proofs.Going.{same_but_same}
use Rattle.record_log.specs.Items.{Decides}
use Rattle.record_log.proofs.Items.{carried_items}
use Rattle.body_journal.specs.declared.journal.BodyJournal.{BodyJournal}
use Rattle.body_journal.specs.Groups.{group_bytes}
use Rattle.body_journal.specs.Journals.{IsAt, LeavesBodies}
use Rattle.body_journal.specs.Stores.{Stores}
use Rattle.body_journal.proofs.Families.{state_leaves}
use Rattle.body_journal.proofs.Lists.{get_front}
use Rattle.body_journal.proofs.Storing.{decides_grown}

pub at_longer : (bodies more : List (List ℕ)) (number : ℕ) (body : List ℕ) → IsAt bodies number body → IsAt (bodies ++ more) number body
at_longer bodies more number body at = record { numbered = at.numbered; named = get_front bodies more (number - 1) body at.named }

pub stores_leaves : (told : Told) (room : BodyJournal) (bodies : List (List ℕ)) → Stores (Some told) room bodies → LeavesBodies bodies told.now
stores_leaves told room bodies stores =
    subst (λ (all : List (List ℕ)). LeavesBodies all told.now) (sym stores.bodies_are)
    (state_leaves stores.older room.journals stores.groups (Decides stores.groups stores.waiting) told.now stores.place stores.few stores.kept stores.fresh
    (decides_grown stores.groups stores.waiting stores.are stores.coming) told.now (
      same_but_same _ told.now,
      λ image is_image. carried_items group_bytes room.log (Some told) stores.groups stores.waiting stores.carried image
          (subst (λ (n : ℕ). IsImage (told.now n) image) (sym stores.file) is_image),
    ))

-- two flushes, one after the other
pub both_stored : (between new_told : Option Told) (mid new : BodyJournal) (bodies : List (List ℕ)) (first second : ℕ) (one other : List ℕ)
    → (more : List (List ℕ)) × Stores between mid (bodies ++ more) × IsAt (bodies ++ more) first one
    → ((all : List (List ℕ)) → Stores between mid all → (more : List (List ℕ)) × Stores new_told new (all ++ more) × IsAt (all ++ more) second other)
    → (more : List (List ℕ)) × Stores new_told new (bodies ++ more) × (IsAt (bodies ++ more) first one × IsAt (bodies ++ more) second other)
both_stored between new_told mid new bodies first second one other (more, stores, at) goes =
    let next : (rest : List (List ℕ)) × Stores new_told new ((bodies ++ more) ++ rest) × IsAt ((bodies ++ more) ++ rest) second other = goes (bodies ++ more) stores in
    let same : (bodies ++ more) ++ next.0 ≡ bodies ++ (more ++ next.0) = append_assoc bodies more next.0 in (
      more ++ next.0,
      subst (λ (all : List (List ℕ)). Stores new_told new all) same next.1,
      (
        subst (λ (all : List (List ℕ)). IsAt all first one) same (at_longer (bodies ++ more) next.0 first one at),
        subst (λ (all : List (List ℕ)). IsAt all second other) same next.2,
      ),
    )

pub none_more : (told : Option Told) (room : BodyJournal) (bodies : List (List ℕ)) → Stores told room bodies → Stores told room (bodies ++ [])
none_more told room bodies stores = subst (λ (all : List (List ℕ)). Stores told room all) (sym (append-nil bodies)) stores
