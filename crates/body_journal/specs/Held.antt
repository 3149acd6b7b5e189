-- The bodies that a service has and that nobody has asked for yet.
use Rattle.std.specs.Prelude.{◌≡◌, ℕ, ◌+◌, ◌-◌, ◌^◌, min, List, [], ◌∷◌, ◌++◌, map, Bool, true, false, not, ◌&&◌, ◌==◌, nat_lt, if◌then◌else◌, ◌⊎◌}
use Rattle.std.specs.List.{filter}
use Rattle.std.specs.Arc.{arc_value}
use Rattle.body_journal.specs.declared.held.Held.{Held}
use Rattle.body_journal.specs.declared.held.Stage.{Stage}
use Rattle.body_journal.specs.declared.held.Stage.TheVariants.{Waiting, InGroup, Stored}
use Rattle.body_journal.specs.Groups.{body_field}

abbrev pub is_waiting : Stage → Bool
is_waiting Waiting = true
is_waiting (InGroup place) = false
is_waiting (Stored before) = false

abbrev pub is_grouped : Stage → Bool
is_grouped Waiting = false
is_grouped (InGroup place) = true
is_grouped (Stored before) = false

-- it waits to be stored
abbrev pub is_queued : Stage → Bool
is_queued Waiting = true
is_queued (InGroup place) = true
is_queued (Stored before) = false

abbrev pub bytes_of : Held → List ℕ
bytes_of held = arc_value held.body

-- a body by its serial
pub record Queued : Type 0 where
  pub serial : ℕ
  pub bytes : List ℕ

abbrev pub queued : Held → Queued
queued held = record { serial = held.serial; bytes = bytes_of held }

-- it waits still, once the undecided group was taken in or left out
abbrev pub is_left : Bool → Stage → Bool
is_left is_in Waiting = true
is_left is_in (InGroup place) = not is_in
is_left is_in (Stored before) = false

abbrev pub is_left_other : Bool → ℕ → Held → Bool
is_left_other is_in serial held = is_left is_in held.stage && not (held.serial == serial)

-- it waits, and has another serial
abbrev pub is_other : ℕ → Held → Bool
is_other serial held = is_waiting held.stage && not (held.serial == serial)

abbrev pub others_in : ℕ → List Held → List (List ℕ)
others_in serial helds = map bytes_of (filter (is_other serial) helds)

-- the bodies that are marked as members of a group
abbrev pub grouped_in : List Held → List (List ℕ)
grouped_in helds = map bytes_of (filter (λ (held : Held). is_grouped held.stage) helds)

-- it has another serial
abbrev pub is_kept : ℕ → Held → Bool
is_kept serial held = not (held.serial == serial)

-- it has this serial and these bytes, and is stored behind so many bodies
pub record IsStoredAs (held : Held) (serial : ℕ) (body : List ℕ) (before : ℕ) : Type 0 where
  pub serial_is : held.serial ≡ serial
  pub bytes : bytes_of held ≡ body
  pub stage : held.stage ≡ Stored before

-- one of them is so
abbrev pub HasStored : List Held → ℕ → List ℕ → ℕ → Type 0
HasStored [] serial body before = ⊥
HasStored (held ∷ helds) serial body before = IsStoredAs held serial body before ⊎ HasStored helds serial body before

-- it has this serial and these bytes, and is a member of the undecided group, where so many stand before it
pub record IsMemberAs (held : Held) (serial : ℕ) (body : List ℕ) (place : ℕ) : Type 0 where
  pub serial_is : held.serial ≡ serial
  pub bytes : bytes_of held ≡ body
  pub stage : held.stage ≡ InGroup place

-- one of them is so
abbrev pub HasMember : List Held → ℕ → List ℕ → ℕ → Type 0
HasMember [] serial body place = ⊥
HasMember (held ∷ helds) serial body place = IsMemberAs held serial body place ⊎ HasMember helds serial body place

-- ---- a group is decided

-- its members are stored, or wait as before; so many bodies are stored before the group
abbrev pub decided : ℕ → Bool → Stage → Stage
decided stored is_in Waiting = Waiting
decided stored true (InGroup place) = Stored (min (stored + place) (2 ^ 64 - 1))
decided stored false (InGroup place) = Waiting
decided stored is_in (Stored before) = Stored before

abbrev pub decided_held : ℕ → Bool → Held → Held
decided_held stored is_in held = record held { stage = decided stored is_in held.stage }

-- ---- a group is marked

abbrev pub is_marked : ℕ → ℕ → ℕ → Held → Bool
is_marked serial count place held = nat_lt place count && is_other serial held

abbrev pub mark_one : ℕ → ℕ → ℕ → Held → Held
mark_one serial count place held = if is_marked serial count place held then record held { stage = InGroup place } else held

abbrev pub next_place : ℕ → ℕ → ℕ → Held → ℕ
next_place serial count place held = if is_marked serial count place held then place + 1 else place

-- the others that wait get the places from this one on, up to the count
abbrev pub marked : ℕ → ℕ → ℕ → List Held → List Held
marked serial count place [] = []
marked serial count place (held ∷ helds) = mark_one serial count place held ∷ marked serial count (next_place serial count place held) helds

-- the field of one is appended, if it is marked
abbrev pub fields_with : List ℕ → Held → List ℕ
fields_with bytes held = if is_grouped held.stage then bytes ++ body_field (bytes_of held) else bytes
