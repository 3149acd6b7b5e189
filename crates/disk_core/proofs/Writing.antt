-- What a crash may leave while a file is written, and what the write leaves.
use Rattle.std.proofs.Common.{◌≡◌, ℕ, ◌+◌, ◌-◌, ◌<◌, ◌≤◌, min, cond, ltb, List, [], ◌∷◌, ◌++◌, length, take, drop, replicate, get_or, map, refl, sym, ◌∙◌, ap, subst, inl, inr, ◌⊎◌, arith}
use Rattle.std.specs.List.{range_with_len}
use Rattle.std.proofs.lemmas.Bool.{cases_lt, lt-ltb, le-ltb}
use Rattle.std.proofs.lemmas.List.{append-nil, append_assoc, length-append, length-take, length-drop, length-replicate, get_or_append_left, get_or-append_right, get_or-take, get_or-drop, get_or_past, get_or-replicate, ext_get_or, take_at, drop_at, drop-drop}
use Rattle.std.proofs.lemmas.List.FromFn.{length-map-range_with_len, get_or-map-range_with_len}
use Rattle.disk_core.specs.Files.{FileState, IsTouched, IsImage, IsStored, with_bytes, written, synced, IsTorn, IsTornFile}

-- ---- images

-- the bytes of one list, and within a range those of another
mixed : ℕ → ℕ → List ℕ → List ℕ → ℕ → ℕ
mixed start end outer inner place = cond (ltb place start) (get_or outer place 0) (cond (ltb place end) (get_or inner place 0) (get_or outer place 0))

mixed_before : (start end : ℕ) (outer inner : List ℕ) (place : ℕ) → place < start → mixed start end outer inner place ≡ get_or outer place 0
unfolding mixed
mixed_before start end outer inner place before = rw (lt-ltb place start before) refl

mixed_behind : (start end : ℕ) (outer inner : List ℕ) (place : ℕ) → start ≤ place → end ≤ place → mixed start end outer inner place ≡ get_or outer place 0
unfolding mixed
mixed_behind start end outer inner place behind past = rw (le-ltb place start behind, le-ltb place end past) refl

mixed_inside : (start end : ℕ) (outer inner : List ℕ) (place : ℕ) → start ≤ place → place < end → mixed start end outer inner place ≡ get_or inner place 0
unfolding mixed
mixed_inside start end outer inner place behind before = rw (le-ltb place start behind, lt-ltb place end before) refl

mixed_outside : (start end : ℕ) (outer inner : List ℕ) (place : ℕ) → (place < start) ⊎ (end ≤ place) → mixed start end outer inner place ≡ get_or outer place 0
mixed_outside start end outer inner place (inl before) = mixed_before start end outer inner place before
mixed_outside start end outer inner place (inr past) =
    elim (cases_lt place start) [ inl before ↦ mixed_before start end outer inner place before | inr behind ↦ mixed_behind start end outer inner place behind past ]

-- the same bytes as the image outside of a range, as far as the file reached: what a crash might have left before
pub record IsBefore (file : FileState) (start end : ℕ) (image before : List ℕ) : Type 0 where
  pub is_image : IsImage file before
  pub size : length before ≡ min (length image) file.longest
  pub same : (place : ℕ) → place < length before → (place < start) ⊎ (end ≤ place) → get_or before place 0 ≡ get_or image place 0

clear_too : (file new : FileState) (start end place : ℕ) → new.touched ≡ record { start = start; end = end } ∷ file.touched → (IsTouched file.touched place → ⊥)
    → (place < start) ⊎ (end ≤ place) → IsTouched new.touched place → ⊥
clear_too file new start end place touched clear apart is_touched =
    let either : ((start ≤ place) × (place < end)) ⊎ IsTouched file.touched place = subst (λ ranges. IsTouched ranges place) touched is_touched in
    elim either [ inl inside ↦ elim apart [ inl early ↦ absurd (omega (arith, inside.0)) | inr past ↦ absurd (omega (arith, inside.1)) ] | inr before ↦ clear before ]

-- where a file is as another one but for one more touched range, and no shorter
pub image_before : (file new : FileState) (start end : ℕ) (image : List ℕ) → file.shortest ≤ file.longest → new.shortest ≡ file.shortest
    → new.stored ≡ file.stored → new.touched ≡ record { start = start; end = end } ∷ file.touched → IsImage new image
    → (before : List ℕ) × IsBefore file start end image before
image_before file new start end image sound shortest stored touched is_image =
    let size : ℕ = min (length image) file.longest in
    let at : ℕ → ℕ = mixed start end image file.stored in
    let before : List ℕ = map at (range_with_len 0 size) in
    let long : length before ≡ size = length-map-range_with_len at 0 size in
    let reads : (place : ℕ) → place < length before → get_or before place 0 ≡ at place =
    λ place within. get_or-map-range_with_len at 0 size place place 0 (omega (arith, within, long)) (omega arith) in
    let outside : (place : ℕ) → place < length before → (place < start) ⊎ (end ≤ place) → get_or before place 0 ≡ get_or image place 0 =
    λ place within apart. reads place within ∙ mixed_outside start end image file.stored place apart in
    let apart_others : (place : ℕ) → place < length before → (IsTouched file.touched place → ⊥) → (place < start) ⊎ (end ≤ place) → get_or before place 0 ≡ get_or file.stored place 0 =
    λ place within clear apart. outside place within apart ∙ is_image.others place (omega (arith, within, long)) (clear_too file new start end place touched clear apart) ∙ ap (λ bytes. get_or bytes place 0) stored in
    let others : (place : ℕ) → place < length before → (IsTouched file.touched place → ⊥) → get_or before place 0 ≡ get_or file.stored place 0 =
    λ place within clear. elim (cases_lt place start) [
      | inl early ↦ apart_others place within clear (inl early)
      | inr behind ↦ elim (cases_lt place end) [
        | inl inside ↦ reads place within ∙ mixed_inside start end image file.stored place behind inside
        | inr past ↦ apart_others place within clear (inr past)
      ]
    ] in (
      before,
      record {
        is_image = record { not_shorter = omega (arith, long, is_image.not_shorter, shortest, sound); not_longer = omega (arith, long); others = others };
        size = long;
        same = outside;
      },
    )

-- after a sync a crash leaves what reads give
pub image_of_synced : (file : FileState) (image : List ℕ) → IsImage (synced file) image → image ≡ file.content
image_of_synced file image is_image =
    ext_get_or 0 image file.content (omega (arith, is_image.not_shorter, is_image.not_longer)) (λ place within. is_image.others place within (λ touched. touched))

-- and where nothing is pending
pub image_of_stored : (file : FileState) (bytes image : List ℕ) → IsStored file bytes → IsImage file image → image ≡ bytes
image_of_stored file bytes image stored is_image =
    let at_rest : FileState = record { content = bytes; stored = bytes; touched = []; shortest = length bytes; longest = length bytes } in
    image_of_synced at_rest image (subst (λ state. IsImage state image) stored is_image)

-- ---- contents

with_more_at : (front rest : List ℕ) (byte : ℕ) (bytes : List ℕ) (at : ℕ) → length front ≡ at
    → with_bytes (front ++ rest) at (byte ∷ bytes) ≡ front ++ ((byte ∷ bytes) ++ drop (length (byte ∷ bytes)) rest)
with_more_at front rest byte bytes at size =
    let no_gap : at - length (front ++ rest) ≡ 0 = omega (arith, length-append front rest) in
    let before : take at (front ++ rest) ≡ front = take_at front rest at size in
    let behind : drop (at + length (byte ∷ bytes)) (front ++ rest) ≡ drop (length (byte ∷ bytes)) rest =
    sym (drop-drop (length (byte ∷ bytes)) at (front ++ rest)) ∙ ap (drop (length (byte ∷ bytes))) (drop_at front rest at size) in
    ap (λ (gap : ℕ). ((take at (front ++ rest) ++ replicate gap 0) ++ (byte ∷ bytes)) ++ drop (at + length (byte ∷ bytes)) (front ++ rest)) no_gap
    ∙ ap (λ (list : List ℕ). ((list ++ []) ++ (byte ∷ bytes)) ++ drop (at + length (byte ∷ bytes)) (front ++ rest)) before
    ∙ ap (λ (list : List ℕ). ((front ++ []) ++ (byte ∷ bytes)) ++ list) behind
    ∙ ap (λ (list : List ℕ). (list ++ (byte ∷ bytes)) ++ drop (length (byte ∷ bytes)) rest) (append-nil front)
    ∙ append_assoc front (byte ∷ bytes) (drop (length (byte ∷ bytes)) rest)

-- what is written over the bytes from a place on
pub with_bytes_at : (front rest bytes : List ℕ) (at : ℕ) → 0 < length bytes → length front ≡ at
    → with_bytes (front ++ rest) at bytes ≡ front ++ (bytes ++ drop (length bytes) rest)
with_bytes_at front rest [] at some size = absurd (omega arith)
with_bytes_at front rest (byte ∷ bytes) at some size = with_more_at front rest byte bytes at size

-- the bytes before a place, and zeros where there are none
padded : List ℕ → ℕ → List ℕ
padded old at = take at old ++ replicate (at - length old) 0

length-padded : (old : List ℕ) (at : ℕ) → length (padded old at) ≡ at
unfolding padded
length-padded old at = omega (arith, length-append (take at old) (replicate (at - length old) 0), length-take at old, length-replicate {A = ℕ} (at - length old) 0)

get_or-padded : (old : List ℕ) (at k : ℕ) → k < at → get_or (padded old at) k 0 ≡ get_or old k 0
unfolding padded
get_or-padded old at k before =
    elim (cases_lt k (length old)) [
      | inl inside ↦ get_or_append_left (take at old) (replicate (at - length old) 0) 0 k (omega (arith, length-take at old)) ∙ get_or-take at old k 0 before
      | inr past ↦
          get_or-append_right (take at old) (replicate (at - length old) 0) (length old) k 0 (omega (arith, length-take at old)) past
          ∙ get_or-replicate (at - length old) (k - length old) 0 0 (omega arith) ∙ sym (get_or_past old k 0 past)
    ]

torn_by : (old : List ℕ) (at byte : ℕ) (bytes : List ℕ) → IsTorn old (with_bytes old at (byte ∷ bytes)) at (length (byte ∷ bytes))
unfolding padded
torn_by old at byte bytes =
    let count : ℕ = length (byte ∷ bytes) in
    let front : List ℕ = padded old at ++ (byte ∷ bytes) in
    let behind : List ℕ = drop (at + count) old in
    let reach : length front ≡ at + count = length-append (padded old at) (byte ∷ bytes) ∙ ap (λ n. n + count) (length-padded old at) in
    let size : length (front ++ behind) ≡ at + count + (length old - (at + count)) =
    omega (arith, length-append front behind, reach, length-drop (at + count) old) in
    record {
      not_shorter = omega (arith, size);
      not_longer = elim (cases_lt (at + count) (length old)) [ inl inside ↦ inl (omega (arith, size)) | inr past ↦ inr (omega (arith, size)) ];
      outside = λ k apart. elim apart [
        | inl before ↦
            get_or_append_left front behind 0 k (omega (arith, reach))
            ∙ get_or_append_left (padded old at) (byte ∷ bytes) 0 k (omega (arith, length-padded old at)) ∙ get_or-padded old at k before
        | inr past ↦
            get_or-append_right front behind (at + count) k 0 reach past ∙ get_or-drop (at + count) old (k - (at + count)) 0
            ∙ ap (λ place. get_or old place 0) (omega arith)
      ];
    }

torn_by_none : (old : List ℕ) (at : ℕ) → IsTorn old old at 0
torn_by_none old at = record { not_shorter = omega arith; not_longer = inl (omega arith); outside = λ k apart. refl }

-- a write that succeeded has left what one that failed might have left
pub torn_from_written : (file : FileState) (at : ℕ) (bytes : List ℕ) → IsTornFile at (length bytes) file (written file at bytes)
torn_from_written file at [] = (file.content, torn_by_none file.content at, refl)
torn_from_written file at (byte ∷ bytes) = (with_bytes file.content at (byte ∷ bytes), torn_by file.content at byte bytes, refl)
