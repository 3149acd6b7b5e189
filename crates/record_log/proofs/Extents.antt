-- The places of the records of a log, by their sizes.
use Rattle.std.proofs.Common.{◌≡◌, ℕ, ◌+◌, ◌-◌, ◌<◌, ◌^◌, zero, suc, List, [], ◌∷◌, ◌++◌, length, map, take, option_to_list, Option, Some, refl, sym, ◌∙◌, ap, subst, arith}
use Rattle.std.specs.List.{slice_get}
use Rattle.std.proofs.lemmas.List.{map-append}
use Rattle.record_log.specs.declared.extent.Place.{Place}
use Rattle.record_log.specs.declared.extent.Stage.{Stage}
use Rattle.record_log.specs.declared.extent.Stage.TheVariants.{Settled, Begun, Opening}
use Rattle.record_log.specs.Places.{places_from, sizes_at, AreTied}
use Rattle.record_log.specs.Records.{size_of}
use Rattle.record_log.specs.Sizes.{LogSizes, total_of, undecided_size, undecided_bytes, undecided_count, kept_in}

-- ---- sizes

pub total_of-append : (one other : List ℕ) → total_of (one ++ other) ≡ total_of one + total_of other
total_of-append [] other = omega arith
total_of-append (size ∷ sizes) other = omega (arith, total_of-append sizes other)

-- the records of bodies have as many bytes as their sizes say
pub total_of-sizes : (bodies : List (List ℕ)) → total_of (map length bodies) ≡ size_of bodies
total_of-sizes [] = refl
total_of-sizes (body ∷ bodies) = ap (λ (n : ℕ). 5 + length body + n) (total_of-sizes bodies)

pub end_from : (sizes : List ℕ) (bodies : List (List ℕ)) → sizes ≡ map length bodies → total_of sizes ≡ size_of bodies
end_from sizes bodies are = ap total_of are ∙ total_of-sizes bodies

pub sizes-more : (sizes : List ℕ) (bodies : List (List ℕ)) (body : List ℕ) (size : ℕ) → sizes ≡ map length bodies → size ≡ length body
    → sizes ++ size ∷ [] ≡ map length (bodies ++ body ∷ [])
sizes-more sizes bodies body size are is =
    ap (λ (list : List ℕ). list ++ size ∷ []) are ∙ ap (λ (n : ℕ). map length bodies ++ n ∷ []) is ∙ sym (map-append length bodies (body ∷ []))

-- ---- places

pub places_from-append : (gate : ℕ) (one other : List ℕ) → places_from gate (one ++ other) ≡ places_from gate one ++ places_from (gate + total_of one) other
places_from-append gate [] other = ap (λ place. places_from place other) (omega arith)
places_from-append gate (size ∷ sizes) other =
    ap (λ (places : List Place). record { start = gate + 5; size = size } ∷ places)
    (places_from-append (gate + 5 + size) sizes other
    ∙ ap (λ place. places_from (gate + 5 + size) sizes ++ places_from place other) (omega arith))

same_some : (one other : Place) → Some one ≡ Some other → one ≡ other
same_some one other same = cc

pub record IsPlaceOf (gate : ℕ) (sizes : List ℕ) (k : ℕ) (place : Place) : Type 0 where
  pub start : place.start ≡ gate + total_of (take k sizes) + 5
  pub size : slice_get sizes k ≡ Some place.size

-- what the place of the k-th body says
pub place_at : (gate : ℕ) (sizes : List ℕ) (k : ℕ) (place : Place) → slice_get (places_from gate sizes) k ≡ Some place → IsPlaceOf gate sizes k place
place_at gate [] k place there = absurd cc
place_at gate (size ∷ sizes) zero place there =
    let same : record { start = gate + 5; size = size } ≡ place = same_some (record { start = gate + 5; size = size }) place there in
    subst (IsPlaceOf gate (size ∷ sizes) 0) same (record { start = omega arith; size = refl })
place_at gate (size ∷ sizes) (suc k) place there =
    let onward : IsPlaceOf (gate + 5 + size) sizes k place = place_at (gate + 5 + size) sizes k place there in
    record { start = omega (arith, onward.start); size = onward.size }

same_number : (one other : ℕ) → Some one ≡ Some other → one ≡ other
same_number one other same = cc

abbrev pub with_sizes : List ℕ → ℕ → LogSizes
with_sizes sizes room = record { sizes = sizes; stage = Settled; room = room }

-- ---- what an extent keeps

last_place : (start other size : ℕ) → start ≡ other → places_from other (size ∷ []) ≡ record { start = start + 5; size = size } ∷ []
last_place start other size same = ap (λ (s : ℕ). record { start = s + 5; size = size } ∷ []) (sym same)

-- one record more
pub tied_more : (places : List Place) (end size room : ℕ) (stage : Stage) (more : ℕ) → AreTied places end stage room → end + 5 + size < 2 ^ 64
    → AreTied (places ++ record { start = end + 5; size = size } ∷ []) (end + 5 + size) Settled more
tied_more places end size room stage more tied fits =
    let sizes : List ℕ = sizes_at places in
    let front : sizes_at (places ++ record { start = end + 5; size = size } ∷ []) ≡ sizes ++ size ∷ [] =
    map-append (λ (place : Place). place.size) places (record { start = end + 5; size = size } ∷ []) in
    record {
      stand = ap (λ (list : List Place). list ++ record { start = end + 5; size = size } ∷ []) tied.stand
          ∙ ap (λ (list : List Place). places_from 0 sizes ++ list) (sym (last_place end (0 + total_of sizes) size (omega (arith, tied.last))))
          ∙ sym (places_from-append 0 sizes (size ∷ [])) ∙ ap (places_from 0) (sym front);
      last = omega (arith, ap total_of front, total_of-append sizes (size ∷ []), tied.last);
      enough = omega arith;
      fits = omega (arith, fits);
    }

-- ---- the undecided record is taken in

pub undecided_from : (stage : Stage) (size : ℕ) → undecided_size stage ≡ Some size → (undecided_bytes stage ≡ 5 + size) × (undecided_count stage ≡ 1)
undecided_from Settled size is = absurd cc
undecided_from (Begun other) size is = let same : other ≡ size = same_number other size is in (omega arith, refl)
undecided_from (Opening other) size is = let same : other ≡ size = same_number other size is in (omega arith, refl)

pub kept_view : (sizes more : List ℕ) (stage : Stage) (size room left : ℕ) → undecided_size stage ≡ Some size → more ≡ sizes ++ size ∷ [] → left ≡ room - 1
    → with_sizes more left ≡ kept_in (record { sizes = sizes; stage = stage; room = room })
kept_view sizes more stage size room left is are one =
    ap (λ (list : List ℕ). with_sizes list left) (are ∙ ap (λ (waiting : Option ℕ). sizes ++ option_to_list waiting) (sym is))
    ∙ ap (with_sizes (sizes ++ option_to_list (undecided_size stage))) (one ∙ ap (λ (n : ℕ). room - n) (sym (undecided_from stage size is).1))

-- what would not fit behind a record that was taken in did not fit before
pub kept_end : (sizes : List ℕ) (stage : Stage) → total_of (sizes ++ option_to_list (undecided_size stage)) ≡ total_of sizes + undecided_bytes stage
kept_end sizes Settled = omega (arith, total_of-append sizes [])
kept_end sizes (Begun size) = omega (arith, total_of-append sizes (size ∷ []))
kept_end sizes (Opening size) = omega (arith, total_of-append sizes (size ∷ []))
