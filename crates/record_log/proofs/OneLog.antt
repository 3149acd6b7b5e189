-- Bytes are one log at the most, and a log isn't bad.
use Rattle.std.proofs.Common.{◌≡◌, ℕ, ◌+◌, ◌<◌, ◌≤◌, List, [], ◌∷◌, ◌++◌, length, refl, sym, ◌∙◌, ap, inl, inr, arith}
use Rattle.std.proofs.lemmas.List.{append_assoc, append_cancel_left}
use Rattle.record_log.specs.Records.{IsRecord, Spells, IsLog, size_of, IsBadFrom, IsBadLog}
use Rattle.record_log.proofs.Spelled.{record_bytes, AreAllShort, spelled, IsSpelled, spelled_from, Stops, one_reading, same_bodies}
use Rattle.record_log.proofs.Held.{spelled_size}

-- records, and then an open gate behind which there is none
record IsBad (bytes : List ℕ) (at : ℕ) : Type 0 where
  bodies : List (List ℕ)
  behind : List ℕ
  short : AreAllShort bodies
  none : (body : List ℕ) (gate : ℕ) (rest : List ℕ) → ¬ IsRecord behind body gate rest
  are : bytes ≡ spelled bodies ++ 1 ∷ behind
  place : at ≡ size_of bodies

bad_from : (bytes : List ℕ) (at : ℕ) → IsBadFrom bytes at → IsBad bytes at
bad_from _ _ (IsBadFrom.here behind none) = record { bodies = []; behind = behind; short = tt; none = none; are = refl; place = refl }
bad_from _ _ (IsBadFrom.further behind body gate rest at is onward) =
    let then : IsBad (gate ∷ rest) at = bad_from (gate ∷ rest) at onward in
    record {
      bodies = body ∷ then.bodies;
      behind = then.behind;
      short = (is.short, then.short);
      none = then.none;
      are = ap (λ (bytes : List ℕ). 1 ∷ bytes)
          (is.are ∙ ap (λ (bytes : List ℕ). record_bytes body ++ bytes) then.are ∙ sym (append_assoc (record_bytes body) (spelled then.bodies) (1 ∷ then.behind)));
      place = ap (λ (n : ℕ). 5 + length body + n) then.place;
    }

stops_bad : (bytes : List ℕ) (at : ℕ) → (is : IsBad bytes at) → Stops 1 is.behind
stops_bad bytes at is opened body next after = is.none body next after

stops_spelled : (bytes : List ℕ) (bodies : List (List ℕ)) → (is : IsSpelled bytes bodies) → Stops is.gate is.rest
stops_spelled bytes bodies is opened = absurd (is.closed opened)

-- one gate at the most is the first bad one
pub one_bad_gate : (bytes : List ℕ) (one other : ℕ) → IsBadFrom bytes one → IsBadFrom bytes other → one ≡ other
one_bad_gate bytes one other bad_one bad_other =
    let first : IsBad bytes one = bad_from bytes one bad_one in
    let second : IsBad bytes other = bad_from bytes other bad_other in
    let same : first.bodies ≡ second.bodies =
    one_reading first.bodies second.bodies 1 first.behind 1 second.behind (stops_bad bytes one first) (stops_bad bytes other second) first.short second.short
    (sym first.are ∙ second.are) in
    first.place ∙ ap size_of same ∙ sym second.place

first_byte : (b c : ℕ) (bs cs : List ℕ) → b ∷ bs ≡ c ∷ cs → b ≡ c
first_byte b c bs cs same = cc

-- what spells bodies has no bad gate
pub spelled_not_bad : (bytes : List ℕ) (bodies : List (List ℕ)) (at : ℕ) → Spells bytes bodies → IsBadFrom bytes at → ⊥
spelled_not_bad bytes bodies at spells bad =
    let first : IsSpelled bytes bodies = spelled_from bytes bodies spells in
    let second : IsBad bytes at = bad_from bytes at bad in
    let same : bodies ≡ second.bodies =
    one_reading bodies second.bodies first.gate first.rest 1 second.behind (stops_spelled bytes bodies first) (stops_bad bytes at second) first.short second.short
    (sym first.are ∙ second.are) in
    let tails : first.gate ∷ first.rest ≡ 1 ∷ second.behind =
    append_cancel_left (spelled bodies) (first.gate ∷ first.rest) (1 ∷ second.behind)
    (sym first.are ∙ second.are ∙ ap (λ (list : List (List ℕ)). spelled list ++ 1 ∷ second.behind) (sym same)) in
    first.closed (first_byte first.gate 1 first.rest second.behind tails)

-- a log of at most one byte is empty
pub empty_log : (bytes : List ℕ) (bodies : List (List ℕ)) → length bytes ≤ 1 → IsLog bytes bodies → bodies ≡ []
empty_log bytes bodies few (inl none) = none.1
empty_log bytes [] few (inr spells) = refl
empty_log bytes (body ∷ bodies) few (inr spells) = absurd (omega (arith, spelled_size bytes (body ∷ bodies) spells))

-- a longer one is spelled
pub spelled_log : (bytes : List ℕ) (bodies : List (List ℕ)) → 1 < length bytes → IsLog bytes bodies → Spells bytes bodies
spelled_log bytes bodies long (inl none) = absurd (omega (arith, none.0))
spelled_log bytes bodies long (inr spells) = spells

-- bytes are a log of one list of bodies at the most
pub one_log : (bytes : List ℕ) (one other : List (List ℕ)) → IsLog bytes one → IsLog bytes other → one ≡ other
one_log bytes one other (inl none) log = none.1 ∙ sym (empty_log bytes other none.0 log)
one_log bytes one other (inr spells) (inl none) = empty_log bytes one none.0 (inr spells) ∙ sym none.1
one_log bytes one other (inr spells) (inr others) = same_bodies bytes one other spells others

-- a log isn't a bad one
pub log_not_bad : (bytes : List ℕ) (bodies : List (List ℕ)) (at : ℕ) → IsLog bytes bodies → IsBadLog bytes at → ⊥
log_not_bad bytes bodies at log bad = spelled_not_bad bytes bodies at (spelled_log bytes bodies bad.0 log) bad.1

-- a bad log is bad at one gate
pub one_bad_log : (bytes : List ℕ) (one other : ℕ) → IsBadLog bytes one → IsBadLog bytes other → one ≡ other
one_bad_log bytes one other bad_one bad_other = one_bad_gate bytes one other bad_one.1 bad_other.1
