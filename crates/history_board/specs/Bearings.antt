-- Histories and their beginnings, and the sessions that views bear.
use Rattle.std.specs.Prelude.{◌≡◌, ℕ, ◌<◌, ◌≤◌, ◌==◌, ◌&&◌, ◌⊎◌, not, Bool, Option, None, Some, List, [], ◌∷◌, ◌++◌, length, map, filter, slice_get, Contains, if◌then◌else◌, nat_lt}
use Rattle.std.specs.List.{list_any}
use Rattle.history_board.specs.declared.view.Bearing.{Bearing}
use Rattle.history_board.specs.declared.view.Enrolment.{Enrolment}
use Rattle.history_board.specs.declared.view.Placed.{Placed}

-- the longer of two histories
abbrev pub longer : {E : Type 0} → List E → List E → List E
longer xs ys = if nat_lt (length xs) (length ys) then ys else xs

-- how long the history was when the session was enrolled last
abbrev pub since_of : List Enrolment → ℕ → Option ℕ
since_of [] s = None
since_of (x ∷ xs) s = if x.session == s then Some x.length else since_of xs s

abbrev pub IsEnrolled : List Enrolment → ℕ → Type 0
IsEnrolled since s = (n : ℕ) × (since_of since s ≡ Some n)

module _ {E : Type 0} where
  -- the bearing of this session, and the others
  abbrev pub borne : ℕ → List (Bearing E) → List (Bearing E)
  borne s bears = filter (λ b. b.session == s) bears

  abbrev pub others : ℕ → List (Bearing E) → List (Bearing E)
  others s bears = filter (λ b. not (b.session == s)) bears

  -- one of these is of the session
  abbrev pub Bears : List (Bearing E) → ℕ → Type 0
  Bears bears s = (b : Bearing E) × Contains bears b × (b.session ≡ s)

  -- a session that was just enrolled
  abbrev pub newcomer : ℕ → Bearing E
  newcomer s = record { session = s; mine = []; unsure = [] }

  -- the session is unsure of these too
  abbrev pub unsure_of : List E → Bearing E → Bearing E
  unsure_of es b = record b { unsure = b.unsure ++ es }

  abbrev pub placed : ℕ → E → Placed E
  placed place e = record { place = place; entry = e }

module _ {E : Type 0} (session_of : E → ℕ) where
  -- the entries of the other sessions
  abbrev pub without : ℕ → List E → List E
  without s doubt = filter (λ d. not (session_of d == s)) doubt

  -- the session of the entry has made it, at this place
  abbrev pub makes : ℕ → E → Bearing E → Bearing E
  makes place e b = if b.session == session_of e then record b { mine = b.mine ++ placed place e ∷ [] } else b

module _ {E : Type 0} (session_of command_of : E → ℕ) where
  -- an entry of this session and command is in doubt
  abbrev pub is_doubted : List E → E → Bool
  is_doubted doubt e = list_any (λ d. (session_of d == session_of e) && (command_of d == command_of e)) doubt

  -- the bearings after a commit: an entry that is in doubt is no session's own
  abbrev pub bears_after : List E → ℕ → E → List (Bearing E) → List (Bearing E)
  bears_after doubt place e bears = if is_doubted doubt e then bears else map (makes session_of place e) bears

  -- the command is above each that the session made or was unsure of
  pub record IsAbove (b : Bearing E) (command : ℕ) : Type 0 where
    pub mine : (m : Placed E) → Contains b.mine m → command_of m.entry < command
    pub unsure : (e : E) → Contains b.unsure e → command_of e < command

  -- what a session made stands in the history at its place, from the place n on; and from there on each of its entries is one that it made or was unsure of
  pub record IsOwn (seen : List E) (n : ℕ) (b : Bearing E) : Type 0 where
    pub stands : (m : Placed E) → Contains b.mine m → (n ≤ m.place) × (slice_get seen m.place ≡ Some m.entry) × (session_of m.entry ≡ b.session)
    pub each : (place : ℕ) (e : E) → n ≤ place → slice_get seen place ≡ Some e → session_of e ≡ b.session → Contains b.mine (placed place e) ⊎ Contains b.unsure e

  -- the bearing is of an enrolled session, has what the session made since, and is unsure of each of its entries in doubt
  pub record IsBorne (seen : List E) (since : List Enrolment) (doubt : List E) (b : Bearing E) : Type 0 where
    pub length_then : ℕ
    pub enrolled : since_of since b.session ≡ Some length_then
    pub within : length_then ≤ length seen
    pub own : IsOwn seen length_then b
    pub doubted : (e : E) → Contains doubt e → session_of e ≡ b.session → Contains b.unsure e

  -- the entries of the history, and those in doubt, by their sessions
  pub record IsAccounted (seen : List E) (since : List Enrolment) (doubt : List E) : Type 0 where
    -- no session 0 was enrolled
    pub from_one : (s n : ℕ) → since_of since s ≡ Some n → 0 < s
    -- each entry is of the session 0 or of one that was enrolled
    pub each : (place : ℕ) (e : E) → slice_get seen place ≡ Some e → (session_of e ≡ 0) ⊎ IsEnrolled since (session_of e)
    -- no entry after an enrolment is of the session 0
    pub after : (s n place : ℕ) (e : E) → since_of since s ≡ Some n → n ≤ place → slice_get seen place ≡ Some e → 0 < session_of e
    -- the commands of a session rise after its enrolment
    pub rise : (s n place further : ℕ) (d e : E) → since_of since s ≡ Some n → n ≤ place → place < further → slice_get seen place ≡ Some d → slice_get seen further ≡ Some e → session_of d ≡ s → session_of e ≡ s → command_of d < command_of e
    -- each entry in doubt is of a session that was enrolled
    pub doubted : (e : E) → Contains doubt e → IsEnrolled since (session_of e)
