-- The files of a disk hold the bodies of older journals, and behind them those of the last one.
use Rattle.std.proofs.Common.{◌≡◌, ℕ, zero, suc, ◌-◌, ◌*◌, ◌^◌, ◌<◌, ◌≤◌, List, [], ◌++◌, length, map, Bool, true, false, nat_lt, if◌then◌else◌, Option, Some, None, refl, sym, ◌∙◌, ap, subst, arith, inl}
use Rattle.std.proofs.lemmas.Bool.{lt-ltb, le-ltb, ltb-true, ltb-false}
use Rattle.std.proofs.lemmas.List.{append_assoc}
use Rattle.std.proofs.lemmas.List.Concat.{flat_map-append}
use Rattle.std.specs.List.{AllByRecursion}
use Rattle.disk_core.specs.Files.{FileState, IsImage}
use Rattle.disk_core.specs.Moments.{Told, State, Images, EachImage, SameBut}
use Rattle.disk_core.proofs.Going.{goes_weaker, goes_to, same_but_same}
use Rattle.record_log.specs.Devices.{MomentsHave}
use Rattle.record_log.specs.Items.{LogsItems}
use Rattle.record_log.specs.Records.{IsLog}
use Rattle.body_journal.specs.Groups.{IsGroup, group_bytes}
use Rattle.body_journal.specs.Journals.{IsJournal, HasBodies, LeavesBodies, KeepsJournals, AreFreshBehind, bodies_in, bodies_upto}
use Rattle.body_journal.specs.Stores.{MomentsKeep}

-- the groups of the older journals, and these of the last
abbrev family : (ℕ → List (List (List ℕ))) → ℕ → List (List (List ℕ)) → ℕ → List (List (List ℕ))
family older last found j = if nat_lt j last then older j else (if nat_lt last j then [] else found)

family_below : (older : ℕ → List (List (List ℕ))) (last : ℕ) (found : List (List (List ℕ))) (j : ℕ) → j < last → family older last found j ≡ older j
family_below older last found j below = ap (λ (b : Bool). if b then older j else (if nat_lt last j then [] else found)) (lt-ltb j last below)

family_last : (older : ℕ → List (List (List ℕ))) (last : ℕ) (found : List (List (List ℕ))) → family older last found last ≡ found
family_last older last found = ap (λ (b : Bool). if b then older last else (if b then [] else found)) (le-ltb last last (omega arith))

family_behind : (older : ℕ → List (List (List ℕ))) (last : ℕ) (found : List (List (List ℕ))) (j : ℕ) → last < j → family older last found j ≡ []
family_behind older last found j behind =
    ap (λ (b : Bool). if b then older j else (if nat_lt last j then [] else found)) (le-ltb j last (omega (arith, behind)))
    ∙ ap (λ (b : Bool). if b then [] else found) (lt-ltb last j behind)

upto_below : (older : ℕ → List (List (List ℕ))) (last : ℕ) (found : List (List (List ℕ))) (n : ℕ) → n < last → bodies_upto (family older last found) n ≡ bodies_upto older n
upto_below older last found zero below = refl
upto_below older last found (suc n) below =
    ap (λ (front : List (List ℕ)). front ++ bodies_in (family older last found (suc n))) (upto_below older last found n (omega (arith, below)))
    ∙ ap (λ (groups : List (List (List ℕ))). bodies_upto older n ++ bodies_in groups) (family_below older last found (suc n) below)

upto_last : (older : ℕ → List (List (List ℕ))) (last : ℕ) (found : List (List (List ℕ))) (n : ℕ) → last ≡ suc n
    → bodies_upto (family older last found) last ≡ bodies_upto older n ++ bodies_in found
upto_last older last found n is =
    ap (λ (m : ℕ). bodies_upto (family older last found) m) is
    ∙ ap (λ (front : List (List ℕ)). front ++ bodies_in (family older last found (suc n))) (upto_below older last found n (omega (arith, is)))
    ∙ ap (λ (groups : List (List (List ℕ))). bodies_upto older n ++ bodies_in groups) (ap (λ (m : ℕ). family older last found m) (sym is) ∙ family_last older last found)

each_by : (images : ℕ → List ℕ) (older : ℕ → List (List (List ℕ))) (last : ℕ) (found : List (List (List ℕ))) (j : ℕ) (below behind : Bool) → nat_lt j last ≡ below → nat_lt last j ≡ behind
    → (j < last → IsJournal (images (2 * j)) (older j)) → IsJournal (images (2 * last)) found → (last < j → length (images (2 * j)) ≤ 1)
    → IsJournal (images (2 * j)) (if below then older j else (if behind then [] else found))
each_by images older last found j true behind is_below is_behind before at short = before (ltb-true j last is_below)
each_by images older last found j false true is_below is_behind before at short = record { log = inl (short (ltb-true last j is_behind), refl); are = tt }
each_by images older last found j false false is_below is_behind before at short =
    let same : last ≡ j = omega (arith, ltb-false j last is_below, ltb-false last j is_behind) in
    subst (λ (k : ℕ). IsJournal (images (2 * k)) found) same at

has_bodies : (images : ℕ → List ℕ) (older : ℕ → List (List (List ℕ))) (last : ℕ) (found : List (List (List ℕ))) → 0 < last → last ≤ 2 ^ 62
    → ((j : ℕ) → 0 < j → j < last → IsJournal (images (2 * j)) (older j)) → IsJournal (images (2 * last)) found
    → ((j : ℕ) → last < j → j ≤ 2 ^ 62 → length (images (2 * j)) ≤ 1) → HasBodies images (bodies_upto older (last - 1) ++ bodies_in found)
has_bodies images older last found place few before at short =
    record {
      journals = last;
      few = few;
      groups = family older last found;
      each = λ j positive bounded. each_by images older last found j (nat_lt j last) (nat_lt last j) refl refl (λ below. before j positive below) at (λ after. short j after bounded);
      behind = λ j after. family_behind older last found j after;
      bodies_are = sym (upto_last older last found (last - 1) (omega (arith, place)));
    }

-- a state in which only the last journal differs
state_has : (older : ℕ → List (List (List ℕ))) (last : ℕ) (old state : State) (found : List (List (List ℕ))) (images : ℕ → List ℕ) → 0 < last → last ≤ 2 ^ 62
    → KeepsJournals old older last → AreFreshBehind old last → SameBut (2 * last) old state → AllByRecursion IsGroup found → Images state images
    → IsLog (images (2 * last)) (map group_bytes found) → HasBodies images (bodies_upto older (last - 1) ++ bodies_in found)
state_has older last old state found images place few kept fresh same are is_images is_log =
    has_bodies images older last found place few
    (λ j positive below. kept j positive below (images (2 * j)) (subst (λ (now : FileState). IsImage now (images (2 * j))) (same (2 * j) (omega (arith, below))) (is_images (2 * j))))
    (record { log = is_log; are = are })
    (λ j after bounded.
    let image : IsImage (old (2 * j)) (images (2 * j)) = subst (λ (now : FileState). IsImage now (images (2 * j))) (same (2 * j) (omega (arith, after))) (is_images (2 * j)) in
    omega (arith, image.not_longer, fresh j after bounded))

-- these groups, and more of them
pub record IsGrown (groups found : List (List (List ℕ))) : Type 0 where
  pub extra : List (List (List ℕ))
  pub found_is : found ≡ groups ++ extra
  pub are : AllByRecursion IsGroup found

grown_bodies : (upto : List (List ℕ)) (groups extra : List (List (List ℕ))) → upto ++ bodies_in (groups ++ extra) ≡ (upto ++ bodies_in groups) ++ bodies_in extra
grown_bodies upto groups extra =
    ap (λ (bodies : List (List ℕ)). upto ++ bodies) (flat_map-append (λ (group : List (List ℕ)). group) groups extra)
    ∙ sym (append_assoc upto (bodies_in groups) (bodies_in extra))

pub state_leaves : (older : ℕ → List (List (List ℕ))) (last : ℕ) (groups : List (List (List ℕ))) (Are : List (List (List ℕ)) → Type 0) (old : State) → 0 < last → last ≤ 2 ^ 62
    → KeepsJournals old older last → AreFreshBehind old last → ((found : List (List (List ℕ))) → Are found → IsGrown groups found)
    → (state : State) → SameBut (2 * last) old state × EachImage (2 * last) (LogsItems group_bytes Are) state → LeavesBodies (bodies_upto older (last - 1) ++ bodies_in groups) state
state_leaves older last groups Are old place few kept fresh grows state has images is_images =
    let logs : LogsItems group_bytes Are (images (2 * last)) = has.1 (images (2 * last)) (is_images (2 * last)) in
    let grown : IsGrown groups logs.0 = grows logs.0 logs.1 in (
      bodies_in grown.extra,
      subst (HasBodies images)
          (ap (λ (found : List (List (List ℕ))). bodies_upto older (last - 1) ++ bodies_in found) grown.found_is ∙ grown_bodies (bodies_upto older (last - 1)) groups grown.extra)
          (state_has older last old state logs.0 images place few kept fresh has.0 grown.are is_images logs.2),
    )

-- a call of the log in the last journal
pub moments_leave : (older : ℕ → List (List (List ℕ))) (last : ℕ) (groups : List (List (List ℕ))) (Are : List (List (List ℕ)) → Type 0) (old : Told) (new : Option Told) (file : ℕ) → 0 < last → last ≤ 2 ^ 62
    → KeepsJournals old.now older last → AreFreshBehind old.now last → ((found : List (List (List ℕ))) → Are found → IsGrown groups found) → file ≡ 2 * last
    → MomentsHave file (LogsItems group_bytes Are) (Some old) new → MomentsKeep (bodies_upto older (last - 1) ++ bodies_in groups) (Some old) new
moments_leave older last groups Are old None file place few kept fresh grows is goes = absurd goes
moments_leave older last groups Are old (Some new) file place few kept fresh grows is goes =
    goes_weaker (λ state. SameBut (2 * last) old.now state × EachImage (2 * last) (LogsItems group_bytes Are) state) (LeavesBodies (bodies_upto older (last - 1) ++ bodies_in groups))
    (state_leaves older last groups Are old.now place few kept fresh grows) old new
    (subst (λ (n : ℕ). MomentsHave n (LogsItems group_bytes Are) (Some old) (Some new)) is goes)

-- and all other files are as they were
pub same_others : (file : ℕ) (P : List ℕ → Type 0) (old new : Told) → MomentsHave file P (Some old) (Some new) → SameBut file old.now new.now
same_others file P old new goes =
    goes_to (SameBut file old.now) old new
    (goes_weaker (λ state. SameBut file old.now state × EachImage file P state) (SameBut file old.now) (λ state has. has.0) old new goes)
    (same_but_same file old.now)

pub kept_still : (older : ℕ → List (List (List ℕ))) (last : ℕ) (old new : State) → SameBut (2 * last) old new → KeepsJournals old older last → KeepsJournals new older last
kept_still older last old new same kept j positive below image is_image =
    kept j positive below image (subst (λ (now : FileState). IsImage now image) (same (2 * j) (omega (arith, below))) is_image)

pub fresh_still : (last : ℕ) (old new : State) → SameBut (2 * last) old new → AreFreshBehind old last → AreFreshBehind new last
fresh_still last old new same fresh j after bounded = subst (λ (now : FileState). now.longest ≤ 1) (sym (same (2 * j) (omega (arith, after)))) (fresh j after bounded)
