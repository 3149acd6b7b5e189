-- What is answered is within the window.
use Rattle.std.proofs.Common.{◌≡◌, ◌≤◌, ℕ, List, [], ◌∷◌, ◌++◌, length, refl, ◌∙◌, subst, arith, inl, inr}
use Rattle.std.specs.Prelude.{Option, Some, None, IfSome}
use Rattle.base_core.specs.Lists.{Has}
use Rattle.fed_bytes.specs.declared.span.Span.{Span}
use Rattle.fed_bytes.specs.Keys.{IsBefore, IsUpTo, IsBeforeEnd, IsIn}
use Rattle.fed_bytes.proofs.Orders.{up_to_before}
use Rattle.row_core.specs.declared.rows.Row.{Row}
use Rattle.row_core.specs.declared.rows.Chunk.{Chunk}
use Rattle.row_core.specs.Rows.{ComesBefore, StandInOrder, IsWithin, AreWithin, IsLast, AreFrom, HaveKeys, BeginWith, EndsAt, IsChunk}
use Rattle.window_core.specs.Windows.{IsFound, IsOnward, IsPart}
use Rattle.row_core.proofs.Lists.{of_each, each, in_front, behind}
use Rattle.row_core.proofs.Order.{front_in_order, front_before}

pub found_last : (rows : List Row) (span : Span) (from upto : ℕ) (key : List ℕ) (time : ℕ) → AreWithin span from upto rows
    → (found : Option Row) → IsLast rows key time found → IsFound span from upto key time found
found_last rows span from upto key time within None last = tt
found_last rows span from upto key time within (Some row) last = (last.1, of_each (IsWithin span from upto) rows within row last.0)

-- so many keys are some
some_key : (keys : List (List ℕ)) → 1 ≤ length keys → (key : List ℕ) × Has keys key
some_key [] h = absurd (omega arith)
some_key (key ∷ keys) h = (key, inl refl)

some_row : (rows : List Row) (count : ℕ) → HaveKeys rows count → 1 ≤ count → (row : Row) × Has rows row
some_row rows count (keys, are, long) h =
    let enough : 1 ≤ length keys = omega arith in
    let (key, there) = some_key keys enough in
    let (row, stands, is) = (are.1 key).0 there in (row, stands)

first_row : (next : List ℕ) (rest : List Row) → BeginWith next rest → (row : Row) × Has rest row × (row.key ≡ next)
first_row next [] h = absurd h
first_row next (row ∷ rest) h = (row, inl refl, h)

before_next : (one other : Row) (next : List ℕ) → other.key ≡ next → (one.key ≡ next → ⊥) → ComesBefore one other → IsBefore one.key next
before_next one other next is apart (inl before) = subst (IsBefore one.key) is before
before_next one other next is apart (inr (same, later)) = absurd (apart (same ∙ is))

-- the next key stands behind each row of a chunk
pub next_follows : (found rest : List Row) (next : List ℕ) (most count : ℕ) (one : Row) → EndsAt (Some next) most count found rest → StandInOrder (found ++ rest) → Has found one
    → IsBefore one.key next
next_follows found rest next most count one ends order there =
    let (other, stands, is) = first_row next rest ends.0 in
    before_next one other next is (ends.2 one there) (front_before found rest order one other there stands)

onward : (rows : List Row) (key : List ℕ) (most count : ℕ) (found rest : List Row) (next : Option (List ℕ)) → 1 ≤ most → AreFrom rows key (found ++ rest)
    → HaveKeys found count → EndsAt next most count found rest → IsOnward key next
onward rows key most count found rest None some from keys ends = tt
onward rows key most count found rest (Some next) some from keys ends =
    let enough : 1 ≤ count = omega (arith, ends.1) in
    let (one, there) = some_row found count keys enough in
    let up_to = ((from.1 one).0 (in_front found rest one there)).1 in
    up_to_before key one.key next up_to (next_follows found rest next most count one ends from.0 there)

before_end : (most count : ℕ) (found rest : List Row) (next : Option (List ℕ)) → EndsAt next most count found rest → StandInOrder (found ++ rest)
    → (row : Row) → Has found row → IsBeforeEnd row.key next
before_end most count found rest None ends order row there = tt
before_end most count found rest (Some next) ends order row there = next_follows found rest next most count row ends order there

next_within : (rows : List Row) (span : Span) (from upto : ℕ) (key : List ℕ) (most count : ℕ) (found rest : List Row) (next : Option (List ℕ)) → AreWithin span from upto rows
    → AreFrom rows key (found ++ rest) → EndsAt next most count found rest → IfSome next (IsIn span)
next_within rows span from upto key most count found rest None within is ends = tt
next_within rows span from upto key most count found rest (Some next) within is ends =
    let (other, stands, same) = first_row next rest ends.0 in
    subst (IsIn span) same (of_each (IsWithin span from upto) rows within other ((is.1 other).0 (behind found rest other stands)).0).key

pub part_chunk : (rows : List Row) (span : Span) (from upto : ℕ) (key : List ℕ) (most : ℕ) → 1 ≤ most → AreWithin span from upto rows
    → (chunk : Chunk) → IsChunk rows key most chunk → IsPart span from upto key chunk
part_chunk rows span from upto key most some within chunk is =
    let stands = λ (row : Row) (there : Has chunk.rows row). (is.from.1 row).0 (in_front chunk.rows is.rest row there) in
    record {
      in_order = front_in_order chunk.rows is.rest is.from.0;
      within = each (IsWithin span from upto) chunk.rows (λ row there. of_each (IsWithin span from upto) rows within row (stands row there).0);
      from_key = each (λ row. IsUpTo key row.key) chunk.rows (λ row there. (stands row there).1);
      onward = onward rows key most is.count chunk.rows is.rest chunk.next some is.from is.keys is.ends;
      before_next = each (λ row. IsBeforeEnd row.key chunk.next) chunk.rows (before_end most is.count chunk.rows is.rest chunk.next is.ends is.from.0);
      next_in = next_within rows span from upto key most is.count chunk.rows is.rest chunk.next within is.from is.ends;
    }
