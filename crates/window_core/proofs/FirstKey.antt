-- The first key from a key on, of a chunk of one key.
use Rattle.std.proofs.Common.{◌≡◌, ℕ, List, [], ◌∷◌, ◌++◌, length, refl, sym, ap, ◌∙◌, subst, arith, inl, inr}
use Rattle.std.specs.Prelude.{Option, Some, None}
use Rattle.std.specs.List.{slice_get}
use Rattle.base_core.specs.Lists.{Has}
use Rattle.fed_bytes.specs.Keys.{IsUpTo}
use Rattle.row_core.specs.declared.rows.Row.{Row}
use Rattle.row_core.specs.declared.rows.Chunk.{Chunk}
use Rattle.window_core.specs.Caller.{IsFirstKey, IsFirstAt}
use Rattle.row_core.specs.Rows.{AreFrom, HaveKeys, EndsAt, IsChunk, IsLast}
use Rattle.row_core.proofs.Order.{up_to_any_later}

no_keys_by : (keys : List (List ℕ)) → ((key : List ℕ) → Has keys key → ⊥) → length keys ≡ 0
no_keys_by [] f = refl
no_keys_by (key ∷ keys) f = absurd (f key (inl refl))

no_keys : (count : ℕ) → HaveKeys [] count → count ≡ 0
no_keys count (keys, are, long) = sym long ∙ no_keys_by keys (λ key there. let (row, h, is) = (are.1 key).0 there in absurd h)

none_left : (next : Option (List ℕ)) (rest : List Row) (count : ℕ) → count ≡ 0 → EndsAt next 1 count [] rest → rest ≡ []
none_left None rest count zero ends = ends.0
none_left (Some next) rest count zero ends = absurd (omega (arith, ends.1))

first_none : (rows : List Row) (key : List ℕ) (chunk : Chunk) → IsChunk rows key 1 chunk → chunk.rows ≡ [] → (row : Row) → Has rows row → IsUpTo key row.key → ⊥
first_none rows key chunk is empty row there up_to =
    let none = no_keys is.count (subst (λ list. HaveKeys list is.count) empty is.keys) in
    let left = none_left chunk.next is.rest is.count none (subst (λ list. EndsAt chunk.next 1 is.count list is.rest) empty is.ends) in
    let whole : chunk.rows ++ is.rest ≡ [] = (λ i. empty i ++ left i) in
    let Stands : List Row → Type 0 = λ list. Has list row in
    subst Stands whole ((is.from.1 row).1 (there, up_to))

first_some : (rows : List Row) (key : List ℕ) (chunk : Chunk) → IsChunk rows key 1 chunk → (first : Row) (others : List Row) → chunk.rows ≡ first ∷ others → IsFirstKey rows key first.key
first_some rows key chunk is first others begins =
    let from : AreFrom rows key ((first ∷ others) ++ is.rest) = subst (λ list. AreFrom rows key (list ++ is.rest)) begins is.from in
    let there = (from.1 first).0 (inl refl) in
    record {
      stands = (first, there.0, refl);
      from = there.1;
      least = λ row stands up_to. up_to_any_later first row (others ++ is.rest) from.0 ((from.1 row).1 (stands, up_to));
    }

empty_by : (rows : List Row) → slice_get rows 0 ≡ None → rows ≡ []
empty_by [] e = refl
empty_by (row ∷ rows) e = cc

pub found_none : (rows : List Row) (key : List ℕ) (time : ℕ) (chunk : Chunk) → IsChunk rows key 1 chunk → (seen : List Row) → seen ≡ chunk.rows → slice_get seen 0 ≡ None
    → IsFirstAt rows key time None
found_none rows key time chunk is seen same e = inl (first_none rows key chunk is (sym same ∙ empty_by seen e), refl)

begins_by : (rows : List Row) (first : Row) → slice_get rows 0 ≡ Some first → (others : List Row) × (rows ≡ first ∷ others)
begins_by [] first e = cc
begins_by (row ∷ rows) first e = let same : row ≡ first = cc in (rows, ap (λ r. r ∷ rows) same)

pub found_some : (rows : List Row) (key : List ℕ) (time : ℕ) (chunk : Chunk) → IsChunk rows key 1 chunk → (seen : List Row) → seen ≡ chunk.rows
    → (first : Row) → slice_get seen 0 ≡ Some first → (asked : List ℕ) → asked ≡ first.key → (found : Option Row) → IsLast rows asked time found → IsFirstAt rows key time found
found_some rows key time chunk is seen same first e asked own found last =
    let (others, begins) = begins_by seen first e in
    inr (first.key, first_some rows key chunk is first others (sym same ∙ begins), subst (λ k. IsLast rows k time found) own last)
