-- A body that is stored and not yet asked for stays so.
use Rattle.std.proofs.Common.{◌≡◌, ◌≢◌, ℕ, ◌+◌, ◌-◌, ◌^◌, min, List, [], ◌∷◌, map, Bool, true, false, cond, not, ◌&&◌, ◌==◌, nat_lt, Result, Ok, Err, refl, sym, ◌∙◌, ap, subst, inl, inr}
use Rattle.std.proofs.lemmas.Bool.{ne_eqb}
use Rattle.std.specs.List.{filter}
use Rattle.record_log.specs.declared.fault.LogFault.{LogFault}
use Rattle.body_journal.specs.declared.fault.JournalFault.{JournalFault}
use Rattle.body_journal.specs.declared.fault.JournalFault.TheVariants.{NoMemory, DiskFault, Full}
use Rattle.body_journal.specs.declared.held.Held.{Held}
use Rattle.body_journal.specs.declared.held.Stage.{Stage}
use Rattle.body_journal.specs.declared.held.Stage.TheVariants.{InGroup, Stored}
use Rattle.body_journal.specs.Held.{HasMember, is_waiting, is_other, is_kept, decided, decided_held, mark_one, next_place, marked, IsStoredAs, HasStored}
use Rattle.body_journal.specs.Marks.{AreDecidedUnless, IsDecidedBy, is_failed, held_left}

still_stored : (stored : ℕ) (is_in : Bool) (stage : Stage) (before : ℕ) → stage ≡ Stored before → decided stored is_in stage ≡ Stored before
still_stored stored is_in stage before is = ap (λ (s : Stage). decided stored is_in s) is

pub decided_has : (stored : ℕ) (is_in : Bool) (helds : List Held) (serial : ℕ) (body : List ℕ) (before : ℕ) → HasStored helds serial body before
    → HasStored (map (decided_held stored is_in) helds) serial body before
decided_has stored is_in [] serial body before has = absurd has
decided_has stored is_in (held ∷ helds) serial body before (inl is) =
    inl (record { serial_is = is.serial_is; bytes = is.bytes; stage = still_stored stored is_in held.stage before is.stage })
decided_has stored is_in (held ∷ helds) serial body before (inr has) = inr (decided_has stored is_in helds serial body before has)

-- what is stored isn't marked
other_no : (held : Held) (serial before : ℕ) → held.stage ≡ Stored before → is_other serial held ≡ false
other_no held serial before is = ap (λ (s : Stage). is_waiting s && not (held.serial == serial)) is

and_false : (a : Bool) → a && false ≡ false
and_false true = refl
and_false false = refl

unmarked_stored : (serial count place : ℕ) (held : Held) (before : ℕ) → held.stage ≡ Stored before → mark_one serial count place held ≡ held
unmarked_stored serial count place held before is =
    ap (λ (b : Bool). cond (nat_lt place count && b) (record held { stage = InGroup place }) held) (other_no held serial before is)
    ∙ ap (λ (b : Bool). cond b (record held { stage = InGroup place }) held) (and_false (nat_lt place count))

pub marked_has : (serial count place : ℕ) (helds : List Held) (other : ℕ) (body : List ℕ) (before : ℕ) → HasStored helds other body before
    → HasStored (marked serial count place helds) other body before
marked_has serial count place [] other body before has = absurd has
marked_has serial count place (held ∷ helds) other body before (inl is) =
    inl (subst (λ (one : Held). IsStoredAs one other body before) (sym (unmarked_stored serial count place held before is.stage)) is)
marked_has serial count place (held ∷ helds) other body before (inr has) = inr (marked_has serial count (next_place serial count place held) helds other body before has)

not_same : (a b : ℕ) → a ≢ b → not (a == b) ≡ true
not_same a b differs = ap not (ne_eqb a b differs)

kept_step : (held : Held) (rest : List Held) (other : ℕ) (body : List ℕ) (before : ℕ) (keeps : Bool) → HasStored rest other body before → HasStored (cond keeps (held ∷ rest) rest) other body before
kept_step held rest other body before true has = inr has
kept_step held rest other body before false has = has

pub kept_has : (serial : ℕ) (helds : List Held) (other : ℕ) (body : List ℕ) (before : ℕ) → other ≢ serial → HasStored helds other body before → HasStored (filter (is_kept serial) helds) other body before
kept_has serial [] other body before differs has = absurd has
kept_has serial (held ∷ helds) other body before differs (inl is) =
    let keeps : is_kept serial held ≡ true = ap (λ (n : ℕ). not (n == serial)) is.serial_is ∙ not_same other serial differs in
    subst (λ (b : Bool). HasStored (cond b (held ∷ filter (is_kept serial) helds) (filter (is_kept serial) helds)) other body before) (sym keeps) (inl is)
kept_has serial (held ∷ helds) other body before differs (inr has) =
    kept_step held (filter (is_kept serial) helds) other body before (is_kept serial held) (kept_has serial helds other body before differs has)

unless_has : (failed : Bool) (stored grouped : ℕ) (marks now_helds : List Held) (now_stored now_grouped : ℕ) (other : ℕ) (body : List ℕ) (before : ℕ)
    → AreDecidedUnless failed stored grouped marks now_stored now_grouped now_helds → HasStored marks other body before → HasStored now_helds other body before
unless_has true stored grouped marks now_helds now_stored now_grouped other body before done has = subst (λ (list : List Held). HasStored list other body before) (sym done.held_is) has
unless_has false stored grouped marks now_helds now_stored now_grouped other body before done has =
    subst (λ (list : List Held). HasStored list other body before) (sym done.held_is) (decided_has stored false marks other body before has)

-- what is done with the marks after a put
pub after_has : (result : Result ℕ LogFault) (stored grouped : ℕ) (marks now_helds : List Held) (now_stored now_grouped : ℕ) (other : ℕ) (body : List ℕ) (before : ℕ)
    → IsDecidedBy result stored grouped marks now_stored now_grouped now_helds → HasStored marks other body before → HasStored now_helds other body before
after_has (Ok x) stored grouped marks now_helds now_stored now_grouped other body before done has =
    subst (λ (list : List Held). HasStored list other body before) (sym done.held_is) (decided_has stored true marks other body before has)
after_has (Err fault) stored grouped marks now_helds now_stored now_grouped other body before done has =
    unless_has (is_failed fault) stored grouped marks now_helds now_stored now_grouped other body before done has

left_by_fault : (fault : JournalFault) (serial : ℕ) (helds : List Held) (other : ℕ) (body : List ℕ) (before : ℕ) → other ≢ serial → HasStored helds other body before
    → HasStored (held_left fault serial helds) other body before
left_by_fault NoMemory serial helds other body before differs has = has
left_by_fault (DiskFault disk count) serial helds other body before differs has = kept_has serial helds other body before differs has
left_by_fault (Full disk) serial helds other body before differs has = kept_has serial helds other body before differs has

pub left_has : (fault : JournalFault) (serial : ℕ) (helds now_helds : List Held) (other : ℕ) (body : List ℕ) (before : ℕ) → now_helds ≡ held_left fault serial helds → other ≢ serial
    → HasStored helds other body before → HasStored now_helds other body before
left_has fault serial helds now_helds other body before is differs has =
    subst (λ (list : List Held). HasStored list other body before) (sym is) (left_by_fault fault serial helds other body before differs has)

-- ---- members of a group that was undecided

member_stored : (stored : ℕ) (is_in : Bool) (stage : Stage) (place : ℕ) → is_in ≡ true → stage ≡ InGroup place → decided stored is_in stage ≡ Stored (min (stored + place) (2 ^ 64 - 1))
member_stored stored is_in stage place taken is =
    ap (λ (s : Stage). decided stored is_in s) is ∙ ap (λ (b : Bool). decided stored b (InGroup place)) taken

pub member_has : (stored : ℕ) (is_in : Bool) (helds : List Held) (serial : ℕ) (body : List ℕ) (place : ℕ) → is_in ≡ true → HasMember helds serial body place
    → HasStored (map (decided_held stored is_in) helds) serial body (min (stored + place) (2 ^ 64 - 1))
member_has stored is_in [] serial body place taken has = absurd has
member_has stored is_in (held ∷ helds) serial body place taken (inl is) =
    inl (record { serial_is = is.serial_is; bytes = is.bytes; stage = member_stored stored is_in held.stage place taken is.stage })
member_has stored is_in (held ∷ helds) serial body place taken (inr has) = inr (member_has stored is_in helds serial body place taken has)
