-- How many bytes a group has, and that small bodies are a group.
use Rattle.std.proofs.Common.{◌≡◌, ℕ, ◌+◌, ◌*◌, ◌<◌, ◌≤◌, ◌^◌, List, [], ◌∷◌, ◌++◌, length, refl, ◌∙◌, ap, arith}
use Rattle.std.proofs.lemmas.List.{append_assoc, length-append}
use Rattle.std.specs.List.{flat_map, AllByRecursion}
use Rattle.base_core.specs.Numbers.{length_bytes}
use Rattle.body_journal.specs.Groups.{IsGroup, IsShort, body_field, group_bytes, group_size}

fields_size : (bodies : List (List ℕ)) → 4 + length (flat_map body_field bodies) ≡ group_size bodies
fields_size [] = refl
fields_size (body ∷ bodies) =
    let whole : length (body_field body ++ flat_map body_field bodies) ≡ length (body_field body) + length (flat_map body_field bodies) = length-append (body_field body) (flat_map body_field bodies) in
    let field : length (body_field body) ≡ 4 + length body = length-append (length_bytes (length body)) body in
    omega (arith, whole, field, fields_size bodies)

pub bytes_size : (bodies : List (List ℕ)) → length (group_bytes bodies) ≡ group_size bodies
bytes_size bodies = length-append (length_bytes (length bodies)) (flat_map body_field bodies) ∙ fields_size bodies

few_bodies : (bodies : List (List ℕ)) → 4 + 4 * length bodies ≤ group_size bodies
few_bodies [] = omega arith
few_bodies (body ∷ bodies) = omega (arith, few_bodies bodies)

short_bodies : (bodies : List (List ℕ)) (most : ℕ) → group_size bodies ≤ most → most < 2 ^ 32 → AllByRecursion IsShort bodies
short_bodies [] most fits small = tt
short_bodies (body ∷ bodies) most fits small = (omega (arith, fits, small), short_bodies bodies most (omega (arith, fits)) small)

pub group_is : (body : List ℕ) (bodies : List (List ℕ)) → group_size (body ∷ bodies) ≤ 2 ^ 30 → IsGroup (body ∷ bodies)
group_is body bodies fits =
    record {
      some = omega arith;
      few = omega (arith, few_bodies (body ∷ bodies), fits);
      short = short_bodies (body ∷ bodies) (2 ^ 30) fits (omega arith);
    }

pub size-append : (bodies : List (List ℕ)) (body : List ℕ) → group_size (bodies ++ body ∷ []) ≡ group_size bodies + 4 + length body
size-append [] body = omega arith
size-append (first ∷ bodies) body = omega (arith, size-append bodies body)

-- what a put writes is a group
pub record_is : (bytes body : List ℕ) (rest : List (List ℕ)) (others : ℕ) → others ≡ length rest
    → bytes ≡ length_bytes (others + 1) ++ body_field body ++ flat_map body_field rest → bytes ≡ group_bytes (body ∷ rest)
record_is bytes body rest others count is =
    let suc_is : others + 1 ≡ length (body ∷ rest) = omega (arith, count) in
    is ∙ append_assoc (length_bytes (others + 1)) (body_field body) (flat_map body_field rest)
    ∙ ap (λ (n : ℕ). length_bytes n ++ (body_field body ++ flat_map body_field rest)) suc_is
