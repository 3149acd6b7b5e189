-- For the layers above: images of all disks hold a history, from what the log's images spell and from what the homes' disks hold.
use Rattle.std.proofs.Common.{◌≡◌, ◌<◌, ◌-◌, ℕ, List, [], ◌∷◌, ◌++◌, map, length, Option, Some, None, refl, sym, subst, ◌∙◌, inl, inr}
use Rattle.std.proofs.lemmas.Option.{slice_get_within}
use Rattle.change_model.proofs.Members.{slice_get-append}
use Rattle.std.specs.List.{AllByRecursion}
use Rattle.record_log.specs.Items.{Decides, IsMidway, LogsItems}
use Rattle.commit_core.specs.Holds.{Holds, AreHeld, IsHeldIn, MayBeHeld, HeldHistoryLaw, HaveBodies, IsNamed, NamedHeldLaw}
use Rattle.commit_core.specs.Records.{Recorded, record_bytes, committed_in}

each_more : (services : ℕ) (images : ℕ → ℕ → List ℕ) (entries : List Recorded) (entry : Recorded) → AllByRecursion (IsHeldIn services images) entries → IsHeldIn services images entry
    → AllByRecursion (IsHeldIn services images) (entries ++ entry ∷ [])
each_more services images [] entry held one = (one, tt)
each_more services images (first ∷ entries) entry held one = (held.0, each_more services images entries entry held.1 one)

-- whether or not it comes in, all are held
pub held_decides : (services : ℕ) (images : ℕ → ℕ → List ℕ) (entries : List Recorded) (waiting : Option Recorded) (found : List Recorded) → AreHeld services images entries
    → MayBeHeld services images waiting → Decides entries waiting found → AreHeld services images found
held_decides services images entries waiting found held may (inl same) = subst (λ l. AreHeld services images l) (sym same) held
held_decides services images entries None found held may (inr same) = subst (λ l. AreHeld services images l) (sym same) held
held_decides services images entries (Some entry) found held may (inr same) =
    subst (λ l. AreHeld services images l) (sym same) (record { journals = held.journals; held = each_more services images entries entry held.held may })

-- and so at each moment of a commit
pub held_midway : (services : ℕ) (images : ℕ → ℕ → List ℕ) (entries : List Recorded) (waiting coming : Option Recorded) (found : List Recorded) → AreHeld services images entries
    → MayBeHeld services images waiting → MayBeHeld services images coming → IsMidway entries waiting coming found → AreHeld services images found
held_midway services images entries waiting coming found held may_wait may_come midway =
    held_decides services images midway.decided coming found (held_decides services images entries waiting midway.decided held may_wait midway.first) may_come midway.second

-- An image of the log spells some of these entries. If the homes' disks hold all of them, the images hold the history of those that it spells.
pub log_holds : (services : ℕ) (images : ℕ → ℕ → List ℕ) (Are : List Recorded → Type 0) → LogsItems record_bytes Are (images 0 0)
    → ((found : List Recorded) → Are found → AreHeld services images found) → (found : List Recorded) × Are found × Holds services images (map committed_in found)
log_holds services images Are (found, are, log) held = (found, are, record { entries = found; changes = refl; commits = log; are_held = held found are })

pub held_history : HeldHistoryLaw
held_history services images entries waiting coming held may_wait may_come spelled =
    log_holds services images (IsMidway entries waiting coming) spelled (λ found midway. held_midway services images entries waiting coming found held may_wait may_come midway)

-- an entry that is named among the bodies is held
named_held : (services : ℕ) (images : ℕ → ℕ → List ℕ) (bodies : ℕ → List (List ℕ)) (entry : Recorded) → HaveBodies services images bodies → IsNamed services bodies entry
    → IsHeldIn services images entry
named_held services images bodies entry have named =
    let found = have entry.home named.first named.last in
    let own = bodies entry.home in
    let within = slice_get_within own (entry.number - 1) named.body named.at.named in
    record {
      first = named.first;
      last = named.last;
      bodies = own ++ found.0;
      has = found.1;
      numbered = named.at.numbered;
      fits = named.fits;
      body = named.body;
      named = slice_get-append own found.0 (entry.number - 1) within ∙ named.at.named;
      spells = named.spells;
      has_spelling = named.has_spelling;
    }

each_held : (services : ℕ) (images : ℕ → ℕ → List ℕ) (bodies : ℕ → List (List ℕ)) (entries : List Recorded) → HaveBodies services images bodies
    → AllByRecursion (IsNamed services bodies) entries → AllByRecursion (IsHeldIn services images) entries
each_held services images bodies [] have named = tt
each_held services images bodies (entry ∷ entries) have named = (named_held services images bodies entry have named.0, each_held services images bodies entries have named.1)

pub named_are_held : NamedHeldLaw
named_are_held services images bodies entries have named = record {
  journals = λ disk first last. let found = have disk first last in (bodies disk ++ found.0, found.1);
  held = each_held services images bodies entries have named;
}
