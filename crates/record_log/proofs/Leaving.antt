-- What a crash may leave of a log's file while a write goes on in it.
use Rattle.std.proofs.Common.{◌≡◌, ℕ, ◌+◌, ◌<◌, ◌≤◌, min, max, List, [], ◌∷◌, ◌++◌, length, set, refl, sym, ap, subst, inl, arith}
use Rattle.disk_core.specs.Files.{FileState, IsImage, IsSound, IsTornFile, touching}
use Rattle.disk_core.proofs.Writing.{IsBefore, image_before}
use Rattle.record_log.specs.Records.{Spells, size_of}
use Rattle.record_log.proofs.Held.{Opens, spelled_size, same_front, held_from, held_size, same_opened}

-- whatever a write that has begun here may leave of a file has P
abbrev pub Leaves : FileState → ℕ → ℕ → (List ℕ → Type 0) → Type 0
Leaves file at count P = (content image : List ℕ) → IsImage (record (touching file at count) { content = content }) image → P image

abbrev pub EachOf : FileState → (List ℕ → Type 0) → Type 0
EachOf file P = (image : List ℕ) → IsImage file image → P image

pub torn_leaves : (file new : FileState) (at count : ℕ) (P : List ℕ → Type 0) → Leaves file at count P → IsTornFile at count file new → EachOf new P
torn_leaves file new at count P leaves (content, torn, is) image is_image = leaves content image (subst (λ state. IsImage state image) is is_image)

-- a write behind the last gate leaves the records
pub leaves_behind : (file : FileState) (at count : ℕ) (bodies : List (List ℕ)) → IsSound file → EachOf file (λ image. Spells image bodies)
    → at ≡ size_of bodies + 1 → Leaves file at count (λ image. Spells image bodies)
leaves_behind file at count bodies sound kept place content image is_image =
    let enough : size_of bodies < length file.content = spelled_size file.content bodies (kept file.content sound.content) in
    let start : min at (length file.content) ≡ at = omega arith in
    let reach : file.shortest ≤ file.longest = omega (arith, sound.content.not_shorter, sound.content.not_longer) in
    let new : FileState = record (touching file at count) { content = content } in
    let found : (before : List ℕ) × IsBefore file at (at + count) image before =
    image_before file new at (at + count) image reach refl refl (ap (λ (s : ℕ). record { start = s; end = at + count } ∷ file.touched) start) is_image in
    let spells : Spells found.0 bodies = kept found.0 found.1.is_image in
    let long : size_of bodies < length found.0 = spelled_size found.0 bodies spells in
    same_front bodies image found.0 spells (omega (arith, found.1.size)) (λ k within. found.1.same k (omega (arith, long)) (inl (omega arith)))

-- a write of the gate before a whole record leaves the record whole
pub leaves_opening : (file : FileState) (at : ℕ) (bodies : List (List ℕ)) (body : List ℕ) → IsSound file → EachOf file (Opens bodies body) → at ≡ size_of bodies
    → Leaves file at 1 (Opens bodies body)
leaves_opening file at bodies body sound opens place content image is_image =
    let enough : size_of bodies < length file.content = held_size file.content bodies body (held_from file.content bodies body (opens file.content sound.content)) in
    let start : min at (length file.content) ≡ at = omega arith in
    let reach : file.shortest ≤ file.longest = omega (arith, sound.content.not_shorter, sound.content.not_longer) in
    let new : FileState = record (touching file at 1) { content = content } in
    let found : (before : List ℕ) × IsBefore file at (at + 1) image before =
    image_before file new at (at + 1) image reach refl refl (ap (λ (s : ℕ). record { start = s; end = at + 1 } ∷ file.touched) start) is_image in
    let longest : length image ≤ max file.longest (at + 1) = is_image.not_longer in
    let long : length found.0 ≡ length image = omega (arith, found.1.size, sound.content.not_longer, longest) in
    let same : set found.0 at 1 ≡ set image at 1 = same_opened image found.0 at long found.1.same in
    let spells : Spells (set found.0 at 1) (bodies ++ body ∷ []) =
    subst (λ (n : ℕ). Spells (set found.0 n 1) (bodies ++ body ∷ [])) (sym place) (opens found.0 found.1.is_image) in
    subst (λ (n : ℕ). Spells (set image n 1) (bodies ++ body ∷ [])) place (subst (λ bytes. Spells bytes (bodies ++ body ∷ [])) same spells)
