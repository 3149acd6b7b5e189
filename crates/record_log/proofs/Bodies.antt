-- The bodies of a log stand at its places.
use Rattle.std.proofs.Common.{◌≡◌, ℕ, ◌+◌, ◌<◌, ◌≤◌, zero, suc, List, [], ◌∷◌, ◌++◌, length, map, take, drop, Option, Some, None, refl, sym, ◌∙◌, ap, subst, arith}
use Rattle.std.specs.List.{slice_get}
use Rattle.std.proofs.lemmas.List.{append_assoc, length-append, length-take-le, take_all, take_at, drop_at}
use Rattle.disk_core.specs.Disk.{IsReadAt, TellsSound}
use Rattle.disk_core.specs.Moments.{Told}
use Rattle.record_log.specs.declared.log.RecordLog.{RecordLog}
use Rattle.record_log.specs.declared.extent.Stage.{Stage}
use Rattle.record_log.specs.declared.extent.Stage.TheVariants.{Settled, Begun, Opening}
use Rattle.record_log.specs.declared.extent.Place.{Place}
use Rattle.record_log.specs.Places.{places_from}
use Rattle.record_log.specs.Logs.{HasRecords, IsUndecided, IsLeft}
use Rattle.record_log.specs.Devices.{WhereTold}
use Rattle.base_core.specs.Numbers.{length_bytes}
use Rattle.record_log.proofs.Spelled.{record_bytes, spelled, length-length_bytes, IsSpelled, spelled_from}
use Rattle.record_log.proofs.Held.{IsHeld, held_from}

-- the k-th body stands at this place
pub record Stands (content : List ℕ) (bodies : List (List ℕ)) (k : ℕ) (place : Place) : Type 0 where
  pub body : List ℕ
  pub is : slice_get bodies k ≡ Some body
  pub size : length body ≡ place.size
  pub here : take place.size (drop place.start content) ≡ body

same_place : (one other : Place) → Some one ≡ Some other → one ≡ other
same_place one other same = cc

stands_first : (gate : ℕ) (front body : List ℕ) (bodies : List (List ℕ)) (tail : List ℕ) → length front ≡ gate
    → Stands (front ++ (spelled (body ∷ bodies) ++ tail)) (body ∷ bodies) 0 (record { start = gate + 5; size = length body })
stands_first gate front body bodies tail size =
    let field : List ℕ = length_bytes (length body) in
    let before : List ℕ = front ++ 1 ∷ field in
    let reach : length before ≡ gate + 5 = omega (arith, length-append front (1 ∷ field), length-length_bytes (length body)) in
    let parts : front ++ (spelled (body ∷ bodies) ++ tail) ≡ before ++ (body ++ (spelled bodies ++ tail)) =
    ap (λ (list : List ℕ). front ++ 1 ∷ list)
    (append_assoc (record_bytes body) (spelled bodies) tail ∙ append_assoc field body (spelled bodies ++ tail))
    ∙ sym (append_assoc front (1 ∷ field) (body ++ (spelled bodies ++ tail))) in
    record {
      body = body;
      is = refl;
      size = refl;
      here = ap (λ (list : List ℕ). take (length body) (drop (gate + 5) list)) parts
          ∙ ap (take (length body)) (drop_at before (body ++ (spelled bodies ++ tail)) (gate + 5) reach)
          ∙ take_at body (spelled bodies ++ tail) (length body) refl;
    }

stands_at : (gate : ℕ) (front : List ℕ) (bodies : List (List ℕ)) (tail : List ℕ) (k : ℕ) (place : Place) → length front ≡ gate
    → slice_get (places_from gate (map length bodies)) k ≡ Some place → Stands (front ++ (spelled bodies ++ tail)) bodies k place
stands_at gate front [] tail k place size there = absurd cc
stands_at gate front (body ∷ bodies) tail zero place size there =
    subst (Stands (front ++ (spelled (body ∷ bodies) ++ tail)) (body ∷ bodies) 0)
    (same_place (record { start = gate + 5; size = length body }) place there) (stands_first gate front body bodies tail size)
stands_at gate front (body ∷ bodies) tail (suc k) place size there =
    let before : List ℕ = front ++ 1 ∷ record_bytes body in
    let reach : length before ≡ gate + 5 + length body =
    omega (arith, length-append front (1 ∷ record_bytes body), length-append (length_bytes (length body)) body, length-length_bytes (length body)) in
    let onward : Stands (before ++ (spelled bodies ++ tail)) bodies k place = stands_at (gate + 5 + length body) before bodies tail k place reach there in
    let parts : front ++ (spelled (body ∷ bodies) ++ tail) ≡ before ++ (spelled bodies ++ tail) =
    ap (λ (list : List ℕ). front ++ 1 ∷ list) (append_assoc (record_bytes body) (spelled bodies) tail)
    ∙ sym (append_assoc front (1 ∷ record_bytes body) (spelled bodies ++ tail)) in
    record {
      body = onward.body;
      is = onward.is;
      size = onward.size;
      here = ap (λ (list : List ℕ). take place.size (drop place.start list)) parts ∙ onward.here;
    }

stands_in : (content tail : List ℕ) (bodies : List (List ℕ)) (k : ℕ) (place : Place) → content ≡ spelled bodies ++ tail
    → slice_get (places_from 0 (map length bodies)) k ≡ Some place → Stands content bodies k place
stands_in content tail bodies k place are there = subst (λ bytes. Stands bytes bodies k place) (sym are) (stands_at 0 [] bodies tail k place refl there)

-- what is read at a place is the body
stands_read : (content : List ℕ) (bodies : List (List ℕ)) (k : ℕ) (place : Place) (out items : List ℕ) (count len : ℕ) → Stands content bodies k place
    → length out ≡ place.size → len ≡ place.size → len ≤ count → take count out ≡ take (length out) (drop place.start content)
    → slice_get bodies k ≡ Some (take len (out ++ drop (length out) items))
stands_read content bodies k place out items count len stands room size enough read =
    let value : out ≡ stands.body =
    sym (take_all count out (omega arith)) ∙ read ∙ ap (λ (n : ℕ). take n (drop place.start content)) room ∙ stands.here in
    stands.is ∙ ap Some (sym (take_at out (drop (length out) items) len (omega arith) ∙ value))

-- and it isn't short
stands_whole : (content : List ℕ) (bodies : List (List ℕ)) (k : ℕ) (place : Place) (out : List ℕ) (count len : ℕ) → Stands content bodies k place
    → length out ≡ place.size → len ≡ place.size → count < len → take count out ≡ take (length out) (drop place.start content) → ⊥
stands_whole content bodies k place out count len stands room size short read =
    let got : length (take count out) ≡ count = length-take-le count out (omega arith) in
    let all : take count out ≡ stands.body = read ∙ ap (λ (n : ℕ). take n (drop place.start content)) room ∙ stands.here in
    omega (arith, ap length all, stands.size)

-- ---- the places of a log

has_stands : (log : RecordLog) (told : Told) (bodies : List (List ℕ)) (k : ℕ) (place : Place) → HasRecords log (Some told) bodies
    → slice_get (places_from 0 log.extent.sizes) k ≡ Some place → Stands (told.now log.file).content bodies k place
has_stands log told bodies k place has there =
    let content : List ℕ = (told.now log.file).content in
    let is : IsSpelled content bodies = spelled_from content bodies has.spelled in
    stands_in content (is.gate ∷ is.rest) bodies k place is.are (ap (λ (sizes : List ℕ). slice_get (places_from 0 sizes) k) (sym has.sizes) ∙ there)

-- records and then anything
record Front (content : List ℕ) (bodies : List (List ℕ)) : Type 0 where
  tail : List ℕ
  are : content ≡ spelled bodies ++ tail

left_front : (stage : Stage) (bodies : List (List ℕ)) (body content : List ℕ) → IsLeft stage bodies body content → Front content bodies
left_front Settled bodies body content left = absurd left
left_front (Begun size) bodies body content left =
    let is : IsSpelled content bodies = spelled_from content bodies left in record { tail = is.gate ∷ is.rest; are = is.are }
left_front (Opening size) bodies body content left =
    let is : IsHeld content bodies body = held_from content bodies body left in record { tail = is.gate ∷ (record_bytes body ++ is.next ∷ is.rest); are = is.are }

undecided_stands : (log : RecordLog) (told : Told) (bodies : List (List ℕ)) (body : List ℕ) (k : ℕ) (place : Place) → TellsSound (Some told)
    → IsUndecided log (Some told) bodies body → slice_get (places_from 0 log.extent.sizes) k ≡ Some place → Stands (told.now log.file).content bodies k place
undecided_stands log told bodies body k place sound undecided there =
    let content : List ℕ = (told.now log.file).content in
    let front : Front content bodies = left_front log.extent.stage bodies body content (undecided.left content (sound log.file).content) in
    stands_in content front.tail bodies k place front.are (ap (λ (sizes : List ℕ). slice_get (places_from 0 sizes) k) (sym undecided.sizes) ∙ there)

pub has_read : (log : RecordLog) (told : Option Told) (bodies : List (List ℕ)) (k : ℕ) (place : Place) (out items : List ℕ) (count len : ℕ)
    → HasRecords log told bodies → slice_get (places_from 0 log.extent.sizes) k ≡ Some place → length out ≡ place.size → len ≡ place.size → len ≤ count
    → IsReadAt told log.file place.start (length out) (take count out) → WhereTold told (slice_get bodies k ≡ Some (take len (out ++ drop (length out) items)))
has_read log None bodies k place out items count len has there room size enough read = tt
has_read log (Some told) bodies k place out items count len has there room size enough read =
    stands_read (told.now log.file).content bodies k place out items count len (has_stands log told bodies k place has there) room size enough read

pub has_whole : (log : RecordLog) (told : Option Told) (bodies : List (List ℕ)) (k : ℕ) (place : Place) (out : List ℕ) (count len : ℕ)
    → HasRecords log told bodies → slice_get (places_from 0 log.extent.sizes) k ≡ Some place → length out ≡ place.size → len ≡ place.size → count < len
    → IsReadAt told log.file place.start (length out) (take count out) → WhereTold told ⊥
has_whole log None bodies k place out count len has there room size short read = tt
has_whole log (Some told) bodies k place out count len has there room size short read =
    stands_whole (told.now log.file).content bodies k place out count len (has_stands log told bodies k place has there) room size short read

pub undecided_read : (log : RecordLog) (told : Option Told) (bodies : List (List ℕ)) (body : List ℕ) (k : ℕ) (place : Place) (out items : List ℕ) (count len : ℕ)
    → TellsSound told → IsUndecided log told bodies body → slice_get (places_from 0 log.extent.sizes) k ≡ Some place → length out ≡ place.size
    → len ≡ place.size → len ≤ count → IsReadAt told log.file place.start (length out) (take count out)
    → WhereTold told (slice_get bodies k ≡ Some (take len (out ++ drop (length out) items)))
undecided_read log None bodies body k place out items count len sound undecided there room size enough read = tt
undecided_read log (Some told) bodies body k place out items count len sound undecided there room size enough read =
    stands_read (told.now log.file).content bodies k place out items count len (undecided_stands log told bodies body k place sound undecided there) room size enough read

pub undecided_whole : (log : RecordLog) (told : Option Told) (bodies : List (List ℕ)) (body : List ℕ) (k : ℕ) (place : Place) (out : List ℕ) (count len : ℕ)
    → TellsSound told → IsUndecided log told bodies body → slice_get (places_from 0 log.extent.sizes) k ≡ Some place → length out ≡ place.size
    → len ≡ place.size → count < len → IsReadAt told log.file place.start (length out) (take count out) → WhereTold told ⊥
undecided_whole log None bodies body k place out count len sound undecided there room size short read = tt
undecided_whole log (Some told) bodies body k place out count len sound undecided there room size short read =
    stands_whole (told.now log.file).content bodies k place out count len (undecided_stands log told bodies body k place sound undecided there) room size short read
