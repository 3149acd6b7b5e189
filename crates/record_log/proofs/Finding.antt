-- The records of a file, found gate by gate.
use Rattle.std.proofs.Common.{◌≡◌, ℕ, ◌+◌, ◌<◌, ◌≤◌, ◌^◌, suc, List, [], ◌∷◌, ◌++◌, length, map, take, drop, Option, Some, None, Err, refl, sym, ◌∙◌, ap, subst, arith}
use Rattle.std.proofs.lemmas.List.{append-nil, append_assoc, length-append, length-take, length-take-le, take-append-drop, take_at, take_all, drop_at, drop-drop}
use Rattle.disk_core.specs.Disk.{IsReadAt}
use Rattle.disk_core.specs.Moments.{Told}
use Rattle.record_log.specs.declared.fault.LogFault.{LogFault}
use Rattle.record_log.specs.declared.fault.LogFault.TheVariants.{NoMemory, Failed, NeedsMend, Full, BadRecord}
use Rattle.record_log.specs.Gates.{AreClosed, AreOpen, AreShort, AreWhole, AreFound, IsBehind}
use Rattle.record_log.specs.Devices.{ReadsFile}
use Rattle.record_log.specs.Faults.{IsStartFault}
use Rattle.base_core.specs.Numbers.{length_bytes}
use Rattle.record_log.specs.Records.{IsRecord, Spells, IsBadFrom, size_of}
use Rattle.record_log.proofs.Extents.{sizes-more}
use Rattle.record_log.proofs.Spelled.{record_bytes, IsShort, AreAllShort, spelled, spelled-append, all_short-append, size_of-append, length-length_bytes, same_length, Spells_from, Begins}

-- ---- the first bytes from a gate on

-- an open gate with four bytes behind it
pub open_head : (bytes behind rest : List ℕ) (gate n : ℕ) → bytes ≡ gate ∷ behind → gate ≡ 1 → n < 2 ^ 32 → behind ≡ length_bytes n ++ rest → AreOpen bytes n
open_head bytes behind rest gate n are opened short parts =
    record { rest = rest; short = short; are = are ∙ ap (λ (g : ℕ). g ∷ behind) opened ∙ ap (λ (list : List ℕ). 1 ∷ list) parts }

-- ---- what stands from a gate on, where its first five bytes are known

-- what a device read of a file that reads as these bytes
pub read_front : (told : Option Told) (file gate room : ℕ) (bytes front : List ℕ) → ReadsFile told file bytes → IsReadAt told file gate room front
    → front ≡ take room (drop gate bytes)
read_front None file gate room bytes front reads read = absurd reads
read_front (Some told) file gate room bytes front reads read = read ∙ ap (λ (list : List ℕ). take room (drop gate list)) reads

open_tail : (tail front : List ℕ) (n : ℕ) → front ≡ take 5 tail → AreOpen front n → AreOpen tail n
open_tail tail front n same head =
    record {
      rest = head.rest ++ drop 5 tail;
      short = head.short;
      are = sym (take-append-drop 5 tail) ∙ ap (λ (list : List ℕ). list ++ drop 5 tail) (sym same ∙ head.are)
          ∙ ap (λ (list : List ℕ). 1 ∷ list) (append_assoc (length_bytes n) head.rest (drop 5 tail));
    }

size_open : (bytes : List ℕ) (n : ℕ) → (head : AreOpen bytes n) → length bytes ≡ 5 + length head.rest
size_open bytes n head = omega (arith, ap length head.are, length-append (length_bytes n) head.rest, length-length_bytes n)

pub whole_from : (tail front : List ℕ) (n : ℕ) → front ≡ take 5 tail → AreOpen front n → 5 + n < length tail → AreWhole tail n
whole_from tail front n same head enough =
    let onward : AreOpen tail n = open_tail tail front n same head in
    record { head = onward; enough = omega (arith, size_open tail n onward) }

-- too few bytes behind a length
none_behind : (n : ℕ) (behind : List ℕ) → n < 2 ^ 32 → length behind ≤ n → (body : List ℕ) (gate : ℕ) (rest : List ℕ) → ¬ IsRecord (length_bytes n ++ behind) body gate rest
none_behind n behind short few body gate rest is =
    let field : List ℕ = length_bytes (length body) in
    let flat : length_bytes n ++ behind ≡ field ++ (body ++ gate ∷ rest) = is.are ∙ append_assoc field body (gate ∷ rest) in
    let fields : length_bytes n ≡ field =
    sym (take_at (length_bytes n) behind 4 (length-length_bytes n)) ∙ ap (take 4) flat ∙ take_at field (body ++ gate ∷ rest) 4 (length-length_bytes (length body)) in
    let same : n ≡ length body = same_length n (length body) short is.short fields in
    let after : behind ≡ body ++ gate ∷ rest =
    sym (drop_at (length_bytes n) behind 4 (length-length_bytes n)) ∙ ap (drop 4) flat ∙ drop_at field (body ++ gate ∷ rest) 4 (length-length_bytes (length body)) in
    omega (arith, ap length after, length-append body (gate ∷ rest))

bad_open : (tail : List ℕ) (n : ℕ) → (head : AreOpen tail n) → length head.rest ≤ n → IsBadFrom tail 0
bad_open tail n head few =
    subst (λ bytes. IsBadFrom bytes 0) (sym head.are) (IsBadFrom.here (length_bytes n ++ head.rest) (none_behind n head.rest head.short few))

pub cut_from : (tail front : List ℕ) (n : ℕ) → front ≡ take 5 tail → AreOpen front n → length tail ≤ 5 + n → IsBadFrom tail 0
cut_from tail front n same head few =
    let onward : AreOpen tail n = open_tail tail front n same head in bad_open tail n onward (omega (arith, size_open tail n onward))

none_short : (behind : List ℕ) → length behind < 4 → (body : List ℕ) (gate : ℕ) (rest : List ℕ) → ¬ IsRecord behind body gate rest
none_short behind few body gate rest is =
    omega (arith, ap length is.are, length-append (record_bytes body) (gate ∷ rest), length-append (length_bytes (length body)) body, length-length_bytes (length body))

pub short_from : (tail front : List ℕ) → front ≡ take 5 tail → AreShort front → IsBadFrom tail 0
short_from tail front same head =
    let few : length (take 5 tail) ≡ suc (length head.rest) = ap length (sym same ∙ head.are) in
    let all : take 5 tail ≡ tail = take_all 5 tail (omega (arith, length-take 5 tail, head.short)) in
    subst (λ bytes. IsBadFrom bytes 0) (sym head.are ∙ same ∙ all) (IsBadFrom.here head.rest (none_short head.rest head.short))

-- ---- records so far

-- the records of these bodies stand before a gate, and their sizes are known
pub record SoFar (bytes : List ℕ) (found : List ℕ) (at : ℕ) : Type 0 where
  pub bodies : List (List ℕ)
  pub short : AreAllShort bodies
  pub are : bytes ≡ spelled bodies ++ drop at bytes
  pub sizes : found ≡ map length bodies
  pub gate : at ≡ size_of bodies

pub none_so_far : (bytes : List ℕ) → SoFar bytes [] 0
none_so_far bytes = record { bodies = []; short = tt; are = refl; sizes = refl; gate = refl }

small_body : (n : ℕ) (body : List ℕ) → length body ≡ n → n < 2 ^ 32 → IsShort body
small_body n body size short = subst (λ (k : ℕ). k < 2 ^ 32) (sym size) short

-- one record more
pub more_so_far : (bytes : List ℕ) (found : List ℕ) (at n : ℕ) → SoFar bytes found at → AreWhole (drop at bytes) n
    → SoFar bytes (found ++ n ∷ []) (at + (5 + n))
more_so_far bytes found at n so_far whole =
    let rest : List ℕ = whole.head.rest in
    let body : List ℕ = take n rest in
    let size : length body ≡ n = length-take-le n rest (omega (arith, whole.enough)) in
    let field : length_bytes n ≡ length_bytes (length body) = ap length_bytes (sym size) in
    let step : 5 + n ≡ suc (4 + n) = omega arith in
    let onward : drop (at + (5 + n)) bytes ≡ drop n rest =
    sym (drop-drop (5 + n) at bytes) ∙ ap (drop (5 + n)) whole.head.are ∙ ap (λ (k : ℕ). drop k (1 ∷ (length_bytes n ++ rest))) step
    ∙ sym (drop-drop n 4 (length_bytes n ++ rest)) ∙ ap (drop n) (drop_at (length_bytes n) rest 4 (length-length_bytes n)) in
    let parts : length_bytes n ++ rest ≡ record_bytes body ++ drop n rest =
    ap (λ (list : List ℕ). length_bytes n ++ list) (sym (take-append-drop n rest)) ∙ sym (append_assoc (length_bytes n) body (drop n rest))
    ∙ ap (λ (list : List ℕ). (list ++ body) ++ drop n rest) field in
    let one : spelled (so_far.bodies ++ body ∷ []) ≡ spelled so_far.bodies ++ 1 ∷ record_bytes body =
    spelled-append so_far.bodies (body ∷ []) ∙ ap (λ (list : List ℕ). spelled so_far.bodies ++ 1 ∷ list) (append-nil (record_bytes body)) in
    record {
      bodies = so_far.bodies ++ body ∷ [];
      short = all_short-append so_far.bodies (body ∷ []) so_far.short (small_body n body size whole.head.short, tt);
      are = so_far.are ∙ ap (λ (list : List ℕ). spelled so_far.bodies ++ list) (whole.head.are ∙ ap (λ (list : List ℕ). 1 ∷ list) (parts ∙ ap (λ (list : List ℕ). record_bytes body ++ list) (sym onward)))
          ∙ sym (append_assoc (spelled so_far.bodies) (1 ∷ record_bytes body) (drop (at + (5 + n)) bytes)) ∙ ap (λ (list : List ℕ). list ++ drop (at + (5 + n)) bytes) (sym one);
      sizes = sizes-more found so_far.bodies body n so_far.sizes (sym size);
      gate = omega (arith, so_far.gate, size_of-append so_far.bodies (body ∷ []));
    }

-- a closed gate ends the records
pub found_so_far : (bytes : List ℕ) (found : List ℕ) (at : ℕ) → SoFar bytes found at → AreClosed (drop at bytes) → AreFound bytes found
found_so_far bytes found at so_far closed =
    let are : bytes ≡ spelled so_far.bodies ++ closed.gate ∷ closed.rest = so_far.are ∙ ap (λ (list : List ℕ). spelled so_far.bodies ++ list) closed.are in
    record {
      bodies = so_far.bodies;
      spelled = subst (λ list. Spells list so_far.bodies) (sym are) (Spells_from so_far.bodies closed.gate closed.rest closed.closed so_far.short);
      sizes_are = so_far.sizes;
    }

bad_begins : (bytes : List ℕ) (at : ℕ) → IsBadFrom bytes at → Begins bytes
bad_begins _ _ (IsBadFrom.here behind none) = record { gate = 1; rest = behind; are = refl }
bad_begins _ _ (IsBadFrom.further behind body gate rest at is onward) = record { gate = 1; rest = behind; are = refl }

-- a bad gate behind records
bad_behind : (bodies : List (List ℕ)) (tail : List ℕ) → AreAllShort bodies → IsBadFrom tail 0 → IsBadFrom (spelled bodies ++ tail) (size_of bodies)
bad_behind [] tail short bad = bad
bad_behind (body ∷ bodies) tail short bad =
    let onward : IsBadFrom (spelled bodies ++ tail) (size_of bodies) = bad_behind bodies tail short.1 bad in
    let gate : Begins (spelled bodies ++ tail) = bad_begins (spelled bodies ++ tail) (size_of bodies) onward in
    IsBadFrom.further (record_bytes body ++ spelled bodies ++ tail) body gate.gate gate.rest (size_of bodies)
    (record { short = short.0; are = append_assoc (record_bytes body) (spelled bodies) tail ∙ ap (λ (list : List ℕ). record_bytes body ++ list) gate.are })
    (subst (λ list. IsBadFrom list (size_of bodies)) gate.are onward)

pub bad_so_far : (bytes : List ℕ) (found : List ℕ) (at : ℕ) → SoFar bytes found at → IsBadFrom (drop at bytes) 0 → IsBadFrom bytes at
bad_so_far bytes found at so_far bad =
    subst (IsBadFrom bytes) (sym so_far.gate) (subst (λ list. IsBadFrom list (size_of so_far.bodies)) (sym so_far.are) (bad_behind so_far.bodies (drop at bytes) so_far.short bad))

-- why the search of records ends
pub fault_so_far : (bytes : List ℕ) (found : List ℕ) (at : ℕ) (fault : LogFault) → 1 < length bytes → SoFar bytes found at → IsBehind bytes at (Err fault) → IsStartFault bytes fault
fault_so_far bytes found at NoMemory long so_far behind = tt
fault_so_far bytes found at Failed long so_far behind = tt
fault_so_far bytes found at NeedsMend long so_far behind = behind
fault_so_far bytes found at Full long so_far behind = behind
fault_so_far bytes found at (BadRecord place) long so_far behind = (long, subst (IsBadFrom bytes) (sym behind.0) (bad_so_far bytes found at so_far behind.1))
