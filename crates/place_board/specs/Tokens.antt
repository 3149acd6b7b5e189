-- What contracts see of the seats and the notes of a place board.
use Rattle.std.specs.Prelude.{◌≡◌, ℕ, ◌+◌, ◌*◌, ◌<◌, ◌≤◌, List, [], ◌∷◌, ◌++◌, map}
use Rattle.std.specs.List.{range_with_len}
use Rattle.atomic_table.specs.Seated.{TableId}
use Rattle.fed_bytes.specs.declared.span.Span.{Span}
use Rattle.base_core.specs.Lists.{Has}
use Rattle.place_board.specs.declared.view.View.{View}
use Rattle.place_board.specs.declared.view.Known.{Known}
use Rattle.place_board.specs.declared.view.Counted.{Counted}
use Rattle.place_board.specs.Words.{IsService, IsOf, without, IsKnown, Agree}

-- what a token knows: its board, the numbers that were born, those that were found retired, those that it alone may have listed, those that were listed once, and the counts of faults that it saw
pub record Noted : Type 0 where
  pub board : TableId
  pub knows : List Known
  pub dead : List ℕ
  pub fresh : List ℕ
  pub once : List ℕ
  pub counts : List Counted

-- a service seat: what it knows, its service, the number that is born next, the numbers that it bears, and the count that it posted
pub record Serving : Type 0 where
  pub noted : Noted
  pub service : ℕ
  pub next : ℕ
  pub mine : List ℕ
  pub posted : ℕ

-- the list seat: what it knows, how many services have a seat, the numbers that were ever listed, and those that are listed
pub record Listing : Type 0 where
  pub noted : Noted
  pub services : ℕ
  pub ever : List ℕ
  pub listed : List ℕ

abbrev pub noted_of : TableId → View → Noted
noted_of z v = record { board = z; knows = v.knows; dead = v.dead; fresh = v.fresh; once = v.once; counts = v.counts }

abbrev pub serving_of : TableId → View → Serving
serving_of z v = record { noted = noted_of z v; service = v.service; next = v.next; mine = v.mine; posted = v.posted }

abbrev pub listing_of : TableId → View → Listing
listing_of z v = record { noted = noted_of z v; services = v.services; ever = v.ever; listed = v.listed }

-- a token that took in what another knows
abbrev pub met : Noted → Noted → Noted
met one other = record { board = one.board; knows = one.knows ++ other.knows; dead = one.dead ++ other.dead; fresh = one.fresh ++ other.fresh; once = one.once ++ other.once; counts = one.counts ++ other.counts }

abbrev pub service_met : Serving → Noted → Serving
service_met s other = record s { noted = met s.noted other }

abbrev pub list_met : Listing → Noted → Listing
list_met l other = record l { noted = met l.noted other }

-- a note of what a token knows, which has nothing fresh
abbrev pub copied : Noted → Noted
copied n = record n { fresh = [] }

-- a note of what a service knows, and of what it posted
abbrev pub service_note : Serving → Noted
service_note s = record (copied s.noted) { counts = record { service = s.service; count = s.posted } ∷ s.noted.counts }

-- a note that has one number fresh
abbrev pub fresh_note : ℕ → Serving → Noted
fresh_note n s = record (service_note s) { fresh = n ∷ [] }

-- a service once its next number is born, for this span of this index
abbrev pub service_bore : ℕ → Span → Serving → Serving
service_bore index span s = record s {
  noted = record s.noted { knows = record { number = s.next; service = s.service; index = index; span = span } ∷ s.noted.knows; fresh = without s.next (s.next ∷ s.noted.fresh) };
  mine = s.next ∷ s.mine;
  next = s.next + 1;
}

-- a service that found a number retired, and one that dropped it
abbrev pub service_saw : ℕ → Serving → Serving
service_saw n s = record s { noted = record s.noted { dead = n ∷ s.noted.dead } }

abbrev pub service_dropped : ℕ → Serving → Serving
service_dropped n s = record s { mine = without n s.mine }

-- the list once a fresh number is listed, and once a listed one is retired
abbrev pub list_listed : ℕ → Listing → Listing
list_listed n l = record l { noted = record l.noted { fresh = without n l.noted.fresh; once = n ∷ l.noted.once }; ever = n ∷ l.ever; listed = n ∷ l.listed }

abbrev pub list_retired : ℕ → Listing → Listing
list_retired n l = record l { noted = record l.noted { dead = n ∷ l.noted.dead }; listed = without n l.listed }

-- a token that knows nothing yet
abbrev pub blank : TableId → Noted
blank z = record { board = z; knows = []; dead = []; fresh = []; once = []; counts = [] }

-- the seat of the service that comes after so many, with no number born
abbrev pub new_service : TableId → ℕ → Serving
new_service z before = record { noted = blank z; service = before + 1; next = before * 2048; mine = []; posted = 0 }

-- the seats of so many services
abbrev pub new_services : TableId → ℕ → List Serving
new_services z services = map (new_service z) (range_with_len 0 services)

-- the list seat of so many services, with nothing listed
abbrev pub new_list : TableId → ℕ → Listing
new_list z services = record { noted = blank z; services = services; ever = []; listed = [] }

-- this service has borne the number
abbrev pub HasBorne : Serving → ℕ → Type 0
HasBorne s n = IsOf s.service n × (n < s.next)

-- what is so of what any token knows
pub record IsSound (n : Noted) : Type 0 where
  -- a number is known in one way, and is of its service
  pub agrees : Agree n.knows n.knows
  pub of_service : (k : Known) → Has n.knows k → IsService k.service × IsOf k.service k.number
  -- what is fresh is known, and so is what is dead
  pub fresh : (m : ℕ) → Has n.fresh m → IsKnown n.knows m
  pub dead : (m : ℕ) → Has n.dead m → IsKnown n.knows m

-- what is so of a service seat
pub record IsSoundSeat (s : Serving) : Type 0 where
  pub noted : IsSound s.noted
  pub service : IsService s.service
  -- its next number is one of its class, or the one past it
  pub next : (s.next ≤ s.service * 2048) × (s.service * 2048 ≤ s.next + 2048)
  -- of its class it knows the numbers below the next, and no other
  pub below : (n : ℕ) → HasBorne s n → IsKnown s.noted.knows n
  pub above : (n : ℕ) → IsKnown s.noted.knows n → IsOf s.service n → n < s.next
  -- it has borne those that it bears
  pub mine : (n : ℕ) → Has s.mine n → HasBorne s n
  -- each count that it saw of itself was posted
  pub counts : (c : Counted) → Has s.noted.counts c → c.service ≡ s.service → c.count ≤ s.posted

-- what is so of the list seat
pub record IsSoundList (l : Listing) : Type 0 where
  pub noted : IsSound l.noted
  pub services : l.services ≤ 16
  -- what is listed was listed once, and its own `once` has all that ever was
  pub listed : (n : ℕ) → Has l.listed n → Has l.ever n
  pub once : (n : ℕ) → Has l.noted.once n → Has l.ever n
  pub shown : (n : ℕ) → Has l.ever n → Has l.noted.once n
  -- what was ever listed is known, and is not fresh
  pub known : (n : ℕ) → Has l.ever n → IsKnown l.noted.knows n
  pub fresh : (n : ℕ) → Has l.noted.fresh n → ¬ Has l.ever n
  -- dead is exactly what was listed and is not now
  pub dead : (n : ℕ) → Has l.noted.dead n → Has l.ever n × ¬ Has l.listed n
  pub gone : (n : ℕ) → Has l.ever n → ¬ Has l.listed n → Has l.noted.dead n

-- all that the first knows, has dead, once and counted, the second has too: it stands behind it in a chain of meets
pub record Reaches (one other : Noted) : Type 0 where
  pub board : one.board ≡ other.board
  pub knows : (k : Known) → Has one.knows k → Has other.knows k
  pub dead : (n : ℕ) → Has one.dead n → Has other.dead n
  pub once : (n : ℕ) → Has one.once n → Has other.once n
  pub counts : (c : Counted) → Has one.counts c → Has other.counts c
