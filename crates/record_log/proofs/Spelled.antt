-- The bytes of a log as one list: records one behind another, and then a gate where they stop.
use Rattle.std.proofs.Common.{◌≡◌, ◌≢◌, ℕ, ◌+◌, ◌<◌, ◌^◌, List, [], ◌∷◌, ◌++◌, length, take, drop, refl, sym, ◌∙◌, ap, subst, arith}
use Rattle.std.specs.Int.{w32, from_be_bytes}
use Rattle.std.specs.List.{AllByRecursion}
use Rattle.std.proofs.lemmas.Nat.{from_be_bytes-to_be_bytes_4}
use Rattle.std.proofs.lemmas.List.{append_assoc, length-append, take_at, drop_at}
use Rattle.base_core.specs.Numbers.{length_bytes}
use Rattle.record_log.specs.Records.{IsRecord, Spells, size_of}

-- ---- lengths

pub length-length_bytes : (n : ℕ) → length (length_bytes n) ≡ 4
length-length_bytes n = refl

-- four bytes are the length of one body at the most
pub same_length : (one other : ℕ) → one < 2 ^ 32 → other < 2 ^ 32 → length_bytes one ≡ length_bytes other → one ≡ other
same_length one other short_one short_other same =
    sym (from_be_bytes-to_be_bytes_4 one short_one) ∙ ap (from_be_bytes w32) same ∙ from_be_bytes-to_be_bytes_4 other short_other

-- ---- records

-- the length of a body, and the body
abbrev pub record_bytes : List ℕ → List ℕ
record_bytes body = length_bytes (length body) ++ body

abbrev pub IsShort : List ℕ → Type 0
IsShort body = length body < 2 ^ 32

abbrev pub AreAllShort : List (List ℕ) → Type 0
AreAllShort bodies = AllByRecursion IsShort bodies

-- open gates, and behind each a record
abbrev pub spelled : List (List ℕ) → List ℕ
spelled [] = []
spelled (body ∷ bodies) = 1 ∷ (record_bytes body ++ spelled bodies)

pub length-spelled : (bodies : List (List ℕ)) → length (spelled bodies) ≡ size_of bodies
length-spelled [] = refl
length-spelled (body ∷ bodies) =
    omega (arith, length-append (record_bytes body) (spelled bodies), length-append (length_bytes (length body)) body, length-length_bytes (length body), length-spelled bodies)

pub spelled-append : (one other : List (List ℕ)) → spelled (one ++ other) ≡ spelled one ++ spelled other
spelled-append [] other = refl
spelled-append (body ∷ bodies) other =
    ap (λ (bytes : List ℕ). 1 ∷ (record_bytes body ++ bytes)) (spelled-append bodies other)
    ∙ ap (λ (bytes : List ℕ). 1 ∷ bytes) (sym (append_assoc (record_bytes body) (spelled bodies) (spelled other)))

pub size_of-append : (one other : List (List ℕ)) → size_of (one ++ other) ≡ size_of one + size_of other
size_of-append [] other = omega arith
size_of-append (body ∷ bodies) other = omega (arith, size_of-append bodies other)

pub all_short-append : (one other : List (List ℕ)) → AreAllShort one → AreAllShort other → AreAllShort (one ++ other)
all_short-append [] other first second = second
all_short-append (body ∷ bodies) other first second = (first.0, all_short-append bodies other first.1 second)

-- ---- a list with its last gate

-- the records of these bodies, and a closed gate
pub record IsSpelled (bytes : List ℕ) (bodies : List (List ℕ)) : Type 0 where
  pub gate : ℕ
  pub rest : List ℕ
  pub closed : gate ≢ 1
  pub short : AreAllShort bodies
  pub are : bytes ≡ spelled bodies ++ gate ∷ rest

pub spelled_from : (bytes : List ℕ) (bodies : List (List ℕ)) → Spells bytes bodies → IsSpelled bytes bodies
spelled_from _ _ (Spells.at_closed_gate gate rest closed) = record { gate = gate; rest = rest; closed = closed; short = tt; are = refl }
spelled_from _ _ (Spells.behind_open_gate behind body gate rest bodies is onward) =
    let then : IsSpelled (gate ∷ rest) bodies = spelled_from (gate ∷ rest) bodies onward in
    record {
      gate = then.gate;
      rest = then.rest;
      closed = then.closed;
      short = (is.short, then.short);
      are = ap (λ (bytes : List ℕ). 1 ∷ bytes)
          (is.are ∙ ap (λ (bytes : List ℕ). record_bytes body ++ bytes) then.are ∙ sym (append_assoc (record_bytes body) (spelled bodies) (then.gate ∷ then.rest)));
    }

-- records and then a gate begin with a gate
pub record Begins (bytes : List ℕ) : Type 0 where
  pub gate : ℕ
  pub rest : List ℕ
  pub are : bytes ≡ gate ∷ rest

pub begins : (bodies : List (List ℕ)) (gate : ℕ) (rest : List ℕ) → Begins (spelled bodies ++ gate ∷ rest)
begins [] gate rest = record { gate = gate; rest = rest; are = refl }
begins (body ∷ bodies) gate rest = record { gate = 1; rest = record_bytes body ++ spelled bodies ++ gate ∷ rest; are = refl }

-- what stands behind the gate of the first record
pub is_record : (body : List ℕ) (bodies : List (List ℕ)) (gate : ℕ) (rest : List ℕ) → IsShort body
    → (then : Begins (spelled bodies ++ gate ∷ rest)) → IsRecord (record_bytes body ++ spelled bodies ++ gate ∷ rest) body then.gate then.rest
is_record body bodies gate rest short then =
    record { short = short; are = append_assoc (record_bytes body) (spelled bodies) (gate ∷ rest) ∙ ap (λ (bytes : List ℕ). record_bytes body ++ bytes) then.are }

pub Spells_from : (bodies : List (List ℕ)) (gate : ℕ) (rest : List ℕ) → gate ≢ 1 → AreAllShort bodies → Spells (spelled bodies ++ gate ∷ rest) bodies
Spells_from [] gate rest closed short = Spells.at_closed_gate gate rest closed
Spells_from (body ∷ bodies) gate rest closed short =
    let then : Begins (spelled bodies ++ gate ∷ rest) = begins bodies gate rest in
    let onward : Spells (then.gate ∷ then.rest) bodies = subst (λ bytes. Spells bytes bodies) then.are (Spells_from bodies gate rest closed short.1) in
    Spells.behind_open_gate (record_bytes body ++ spelled bodies ++ gate ∷ rest) body then.gate then.rest bodies (is_record body bodies gate rest short.0 then) onward

pub Spells_from_spelled : (bytes : List ℕ) (bodies : List (List ℕ)) → IsSpelled bytes bodies → Spells bytes bodies
Spells_from_spelled bytes bodies is = subst (λ list. Spells list bodies) (sym is.are) (Spells_from bodies is.gate is.rest is.closed is.short)

-- ---- one reading at the most

-- behind this gate no record goes on
abbrev pub Stops : ℕ → List ℕ → Type 0
Stops gate rest = gate ≡ 1 → (body : List ℕ) (next : ℕ) (after : List ℕ) → ¬ IsRecord rest body next after

stops_closed : (gate : ℕ) (rest : List ℕ) → gate ≢ 1 → Stops gate rest
stops_closed gate rest closed is_open = absurd (closed is_open)

first_byte : {A : Type 0} (b c : A) (bs cs : List A) → b ∷ bs ≡ c ∷ cs → b ≡ c
first_byte b c bs cs same = cc

other_bytes : {A : Type 0} (b c : A) (bs cs : List A) → b ∷ bs ≡ c ∷ cs → bs ≡ cs
other_bytes b c bs cs same = cc

pub record SameRecord (one other : List ℕ) (rest_one rest_other : List ℕ) : Type 0 where
  pub body : one ≡ other
  pub rest : rest_one ≡ rest_other

-- a length and a body are read in one way
pub same_record : (one other rest_one rest_other : List ℕ) → IsShort one → IsShort other → record_bytes one ++ rest_one ≡ record_bytes other ++ rest_other
    → SameRecord one other rest_one rest_other
same_record one other rest_one rest_other short_one short_other same =
    let field_one : List ℕ = length_bytes (length one) in
    let field_other : List ℕ = length_bytes (length other) in
    let flat : field_one ++ (one ++ rest_one) ≡ field_other ++ (other ++ rest_other) =
    sym (append_assoc field_one one rest_one) ∙ same ∙ append_assoc field_other other rest_other in
    let fields : field_one ≡ field_other =
    sym (take_at field_one (one ++ rest_one) 4 (length-length_bytes (length one))) ∙ ap (take 4) flat
    ∙ take_at field_other (other ++ rest_other) 4 (length-length_bytes (length other)) in
    let lengths : length one ≡ length other = same_length (length one) (length other) short_one short_other fields in
    let behind : one ++ rest_one ≡ other ++ rest_other =
    sym (drop_at field_one (one ++ rest_one) 4 (length-length_bytes (length one))) ∙ ap (drop 4) flat
    ∙ drop_at field_other (other ++ rest_other) 4 (length-length_bytes (length other)) in
    record {
      body = sym (take_at one rest_one (length other) lengths) ∙ ap (take (length other)) behind ∙ take_at other rest_other (length other) refl;
      rest = sym (drop_at one rest_one (length other) lengths) ∙ ap (drop (length other)) behind ∙ drop_at other rest_other (length other) refl;
    }

-- records that stop are read in one way
pub one_reading : (one other : List (List ℕ)) (gate : ℕ) (rest : List ℕ) (gate_other : ℕ) (rest_other : List ℕ) → Stops gate rest → Stops gate_other rest_other
    → AreAllShort one → AreAllShort other → spelled one ++ gate ∷ rest ≡ spelled other ++ gate_other ∷ rest_other → one ≡ other
one_reading [] [] gate rest gate_other rest_other stops stops_other short short_other same = refl
one_reading [] (body ∷ bodies) gate rest gate_other rest_other stops stops_other short short_other same =
    let then : Begins (spelled bodies ++ gate_other ∷ rest_other) = begins bodies gate_other rest_other in
    absurd (stops (first_byte gate 1 rest _ same) body then.gate then.rest
    (subst (λ bytes. IsRecord bytes body then.gate then.rest) (sym (other_bytes gate 1 rest _ same)) (is_record body bodies gate_other rest_other short_other.0 then)))
one_reading (body ∷ bodies) [] gate rest gate_other rest_other stops stops_other short short_other same =
    let then : Begins (spelled bodies ++ gate ∷ rest) = begins bodies gate rest in
    absurd (stops_other (sym (first_byte 1 gate_other _ rest_other same)) body then.gate then.rest
    (subst (λ bytes. IsRecord bytes body then.gate then.rest) (other_bytes 1 gate_other _ rest_other same) (is_record body bodies gate rest short.0 then)))
one_reading (one ∷ ones) (other ∷ others) gate rest gate_other rest_other stops stops_other short short_other same =
    let flat : record_bytes one ++ (spelled ones ++ gate ∷ rest) ≡ record_bytes other ++ (spelled others ++ gate_other ∷ rest_other) =
    sym (append_assoc (record_bytes one) (spelled ones) (gate ∷ rest)) ∙ other_bytes 1 1 _ _ same
    ∙ append_assoc (record_bytes other) (spelled others) (gate_other ∷ rest_other) in
    let here : SameRecord one other (spelled ones ++ gate ∷ rest) (spelled others ++ gate_other ∷ rest_other) =
    same_record one other (spelled ones ++ gate ∷ rest) (spelled others ++ gate_other ∷ rest_other) short.0 short_other.0 flat in
    let onward : ones ≡ others = one_reading ones others gate rest gate_other rest_other stops stops_other short.1 short_other.1 here.rest in
    ap (λ (body : List ℕ). body ∷ ones) here.body ∙ ap (λ (bodies : List (List ℕ)). other ∷ bodies) onward

-- bytes spell one list of bodies at the most
pub same_bodies : (bytes : List ℕ) (one other : List (List ℕ)) → Spells bytes one → Spells bytes other → one ≡ other
same_bodies bytes one other spells_one spells_other =
    let first : IsSpelled bytes one = spelled_from bytes one spells_one in
    let second : IsSpelled bytes other = spelled_from bytes other spells_other in
    one_reading one other first.gate first.rest second.gate second.rest (stops_closed first.gate first.rest first.closed)
    (stops_closed second.gate second.rest second.closed) first.short second.short (sym first.are ∙ second.are)
