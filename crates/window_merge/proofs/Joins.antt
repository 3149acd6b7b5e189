-- Two chunks of the same first key made one.
use Rattle.std.proofs.Common.{◌≡◌, ◌+◌, ◌≤◌, ℕ, List, [], ◌∷◌, ◌++◌, length, Bool, true, false, not, refl, sym, ap, ◌∙◌, subst, arith, inl, inr}
use Rattle.std.specs.Prelude.{◌⊎◌, Option, Some, None, IfSome}
use Rattle.std.specs.List.{filter}
use Rattle.std.specs.Ordering.{is_lt, nat_cmp}
use Rattle.std.specs.Cmp.Lexicographic.{slice_cmp}
use Rattle.base_core.specs.Lists.{Has, AreDistinct}
use Rattle.fed_bytes.specs.declared.span.Span.{Span}
use Rattle.fed_bytes.specs.Keys.{IsBefore, IsUpTo, IsBeforeEnd, IsIn}
use Rattle.fed_bytes.proofs.Orders.{no_answer, before_up_to, up_to_before, up_to_end}
use Rattle.row_core.specs.declared.rows.Row.{Row}
use Rattle.row_core.specs.declared.rows.Chunk.{Chunk}
use Rattle.row_core.specs.Rows.{ComesBefore, StandInOrder, IsWithin, AreFrom, HaveKeys, BeginWith, EndsAt, IsChunk}
use Rattle.window_core.specs.Runs.{IsMerge, AreRuns, all_of, merged}
use Rattle.window_core.specs.Windows.{IsOnward, IsPart}
use Rattle.row_core.proofs.Lists.{of_each, each, in_front, behind, in_one}
use Rattle.row_core.proofs.Order.{before_is_up_to, not_before_itself, up_to_is, up_to_any_later, front_in_order, back_in_order, joined_in_order}
use Rattle.window_core.proofs.Found.{next_follows}
use Rattle.row_core.proofs.Filters.{kept, passes, filter_in_order}
use Rattle.window_core.proofs.Arranging.{arranged_in_order, merged_has, are_older}
use Rattle.window_merge.specs.Merging.{AreEarlier, IsCutAt, IsJoin}
use Rattle.window_merge.specs.Parting.{IsPast}
use Rattle.window_merge.specs.Choosing.{is_before_end}
use Rattle.window_merge.proofs.Ends.{past_by}

-- ---- what is joined
-- the end of what is joined is one of both
pub of_end : (P : Option (List ℕ) → Type 0) (one other end : Option (List ℕ)) → (end ≡ one) ⊎ (end ≡ other) → P one → P other → P end
of_end P one other end (inl e) p q = subst P (sym e) p
of_end P one other end (inr e) p q = subst P (sym e) q

-- a joined row is one of both
pub row_of : (older newer chunk : Chunk) (most : ℕ) (row : Row) → IsJoin older newer most chunk → Has chunk.rows row → Has older.rows row ⊎ Has newer.rows row
row_of older newer chunk most row join there =
    let Stands : List Row → Type 0 = λ list. Has list row in
    (join.merge.has row).0 (subst Stands (sym join.cut.whole) (in_front chunk.rows join.cut.rest row there))

-- what stands before the key behind a cut stands before the end
cut_before : (end next : Option (List ℕ)) (most count : ℕ) (rest : List Row) (key : List ℕ) → IsCutAt end most count next rest → IsBeforeEnd key next → IsBeforeEnd key end
cut_before end next most count rest key (inl (at, is, begins, before, full)) h =
    up_to_end key at end (before_is_up_to key at (subst (IsBeforeEnd key) is h)) before
cut_before end next most count rest key (inr (is, under, past)) h = subst (IsBeforeEnd key) is h

pub before_both : (older newer chunk : Chunk) (most : ℕ) (key : List ℕ) → IsJoin older newer most chunk → IsBeforeEnd key chunk.next
    → IsBeforeEnd key older.next × IsBeforeEnd key newer.next
before_both older newer chunk most key join h = (join.earlier.both key).0 (cut_before join.end chunk.next most join.cut.count join.cut.rest key join.cut.ends h)

not_past : (row : Row) (end : Option (List ℕ)) → IsPast end row → IsBeforeEnd row.key end → ⊥
not_past row None past before = past
not_past row (Some end) past before = not_before_itself row.key (before_up_to row.key end row.key before past)

not_behind : (row : Row) (rest : List Row) (key : List ℕ) → StandInOrder rest → BeginWith key rest → Has rest row → IsBefore row.key key → ⊥
not_behind row [] key order begins there before = there
not_behind row (first ∷ rest) key order begins there before =
    not_before_itself row.key (before_up_to row.key key row.key before (subst (λ k. IsUpTo k row.key) begins (up_to_any_later first row rest order there)))

left_past : (end next : Option (List ℕ)) (most count : ℕ) (rest : List Row) (row : Row) → StandInOrder rest → IsCutAt end most count next rest → Has rest row → IsBeforeEnd row.key next → ⊥
left_past end next most count rest row order (inl (at, is, begins, before, full)) there h = not_behind row rest at order begins there (subst (IsBeforeEnd row.key) is h)
left_past end next most count rest row order (inr (is, under, past)) there h = not_past row end (of_each (IsPast end) rest past row there) (subst (IsBeforeEnd row.key) is h)

kept_by : (chunk : Chunk) (rest : List Row) (row : Row) → Has chunk.rows row ⊎ Has rest row → (Has rest row → ⊥) → Has chunk.rows row
kept_by chunk rest row (inl there) f = there
kept_by chunk rest row (inr there) f = absurd (f there)

-- a row of both that stands before the key behind them is joined
pub row_back : (older newer chunk : Chunk) (most : ℕ) (row : Row) → IsJoin older newer most chunk → Has older.rows row ⊎ Has newer.rows row → IsBeforeEnd row.key chunk.next
    → Has chunk.rows row
row_back older newer chunk most row join there before =
    let cut = join.cut in
    let Stands : List Row → Type 0 = λ list. Has list row in
    let order = back_in_order chunk.rows cut.rest (subst StandInOrder cut.whole join.merge.in_order) in
    kept_by chunk cut.rest row (in_one chunk.rows cut.rest row (subst Stands cut.whole ((join.merge.has row).1 there)))
    (λ stands. left_past join.end chunk.next most cut.count cut.rest row order cut.ends stands before)

pub join_order : (older newer chunk : Chunk) (most : ℕ) → IsJoin older newer most chunk → StandInOrder chunk.rows
join_order older newer chunk most join = front_in_order chunk.rows join.cut.rest (subst StandInOrder join.cut.whole join.merge.in_order)

pub join_before : (older newer chunk : Chunk) (most : ℕ) (row : Row) → IsJoin older newer most chunk → Has chunk.rows row → IsBeforeEnd row.key chunk.next
join_before older newer chunk most row join there = of_each (λ (r : Row). IsBeforeEnd r.key chunk.next) chunk.rows join.cut.before row there

-- the next key is that of a row of both, or one of both next keys
IsNextOf : Chunk → Chunk → Option (List ℕ) → Type 0
IsNextOf older newer next = ((row : Row) × (Has older.rows row ⊎ Has newer.rows row) × (next ≡ Some row.key)) ⊎ ((next ≡ older.next) ⊎ (next ≡ newer.next))

pub begun : (key : List ℕ) (rest : List Row) → BeginWith key rest → (row : Row) × Has rest row × (row.key ≡ key)
begun key [] begins = absurd begins
begun key (row ∷ rest) begins = (row, inl refl, begins)

next_by : (older newer chunk : Chunk) (most : ℕ) (join : IsJoin older newer most chunk) → IsCutAt join.end most join.cut.count chunk.next join.cut.rest → IsNextOf older newer chunk.next
unfolding IsNextOf
next_by older newer chunk most join (inl (at, is, begins, before, full)) =
    let (row, there, same) = begun at join.cut.rest begins in
    let Stands : List Row → Type 0 = λ list. Has list row in
    inl (row, (join.merge.has row).0 (subst Stands (sym join.cut.whole) (behind chunk.rows join.cut.rest row there)), is ∙ ap Some (sym same))
next_by older newer chunk most join (inr (is, under, past)) = inr (elim join.earlier.is_one [ inl e ↦ inl (is ∙ e) | inr e ↦ inr (is ∙ e) ])

next_of : (older newer chunk : Chunk) (most : ℕ) → IsJoin older newer most chunk → IsNextOf older newer chunk.next
next_of older newer chunk most join = next_by older newer chunk most join join.cut.ends

-- ---- counting keys
Parts : {A : Type 0} → List A → A → Type 0
Parts {A} xs y = (front : List A) × (back : List A) × (xs ≡ front ++ y ∷ back)

onto_parts : {A : Type 0} (x : A) (xs : List A) (y : A) → Parts xs y → Parts (x ∷ xs) y
unfolding Parts
onto_parts x xs y (front, back, whole) = (x ∷ front, back, ap (λ list. x ∷ list) whole)

parts_at : {A : Type 0} (xs : List A) (y : A) → Has xs y → Parts xs y
unfolding Parts
parts_at [] y there = absurd there
parts_at (x ∷ xs) y (inl e) = ([], xs, ap (λ z. z ∷ xs) e)
parts_at (x ∷ xs) y (inr there) = onto_parts x xs y (parts_at xs y there)

without_by : {A : Type 0} (front back : List A) (x y : A) → Has front y ⊎ Has (x ∷ back) y → (x ≡ y → ⊥) → Has (front ++ back) y
without_by front back x y (inl there) apart = in_front front back y there
without_by front back x y (inr (inl e)) apart = absurd (apart e)
without_by front back x y (inr (inr there)) apart = behind front back y there

longer : {A : Type 0} (front back : List A) (x : A) → length (front ++ x ∷ back) ≡ length (front ++ back) + 1
longer [] back x = omega arith
longer (y ∷ front) back x = let rest = longer front back x in omega (arith, rest)

fits_by : {A : Type 0} (x : A) (xs ys : List A) → AreDistinct (x ∷ xs) → ((z : A) → Has (x ∷ xs) z → Has ys z) → Parts ys x
    → ((zs : List A) → ((z : A) → Has xs z → Has zs z) → length xs ≤ length zs) → length (x ∷ xs) ≤ length ys
unfolding Parts
fits_by {A} x xs ys distinct f (front, back, whole) shorter =
    let Stands : A → List A → Type 0 = λ y list. Has list y in
    let rest = shorter (front ++ back)
    (λ y there. without_by front back x y (in_one front (x ∷ back) y (subst (Stands y) whole (f y (inr there)))) (λ e. distinct.0 (subst (Has xs) (sym e) there))) in
    subst (λ list. length (x ∷ xs) ≤ length list) (sym whole) (let more = longer front back x in omega (arith, rest, more))

-- elements, each once, of a list are no more than it has
pub fits : {A : Type 0} (xs ys : List A) → AreDistinct xs → ((x : A) → Has xs x → Has ys x) → length xs ≤ length ys
fits [] ys distinct f = omega arith
fits (x ∷ xs) ys distinct f = fits_by x xs ys distinct f (parts_at ys x (f x (inl refl))) (λ zs among. fits xs zs distinct.1 among)

-- the rows of one list are among those of another, so its keys are too
pub fewer_keys : (rows others : List Row) (count more : ℕ) → HaveKeys rows count → HaveKeys others more → ((row : Row) → Has rows row → Has others row) → count ≤ more
fewer_keys rows others count more (keys, are, long) (all, are_all, long_all) among =
    let under = fits keys all are.0
    (λ key there. let (row, stands, is) = (are.1 key).0 there in (are_all.1 key).1 (row, among row stands, is)) in
    omega (arith, under, long, long_all)

some_key : (keys : List (List ℕ)) → 1 ≤ length keys → (key : List ℕ) × Has keys key
some_key [] h = absurd (omega arith)
some_key (key ∷ keys) h = (key, inl refl)

some_row : (rows : List Row) (count : ℕ) → HaveKeys rows count → 1 ≤ count → (row : Row) × Has rows row
some_row rows count (keys, are, long) h =
    let enough : 1 ≤ length keys = omega (arith, h, long) in
    let (key, there) = some_key keys enough in
    let (row, stands, is) = (are.1 key).0 there in (row, stands)

-- ---- bounds
-- two chunks of adjacent windows
pub record ArePartsOf (span : Span) (from mid upto : ℕ) (key : List ℕ) (older newer : Chunk) : Type 0 where
  pub first : IsPart span from mid key older
  pub second : IsPart span mid upto key newer
  pub begins : from ≤ mid
  pub ends : mid ≤ upto

either_within : (span : Span) (from mid upto : ℕ) (key : List ℕ) (older newer : Chunk) (row : Row) → ArePartsOf span from mid upto key older newer
    → Has older.rows row ⊎ Has newer.rows row → IsWithin span from upto row
either_within span from mid upto key older newer row parts (inl there) =
    let was = of_each (IsWithin span from mid) older.rows parts.first.within row there in
    let low = was.above in let high = was.at_most in let ends = parts.ends in
    record { key = was.key; above = low; at_most = omega (arith, high, ends) }
either_within span from mid upto key older newer row parts (inr there) =
    let was = of_each (IsWithin span mid upto) newer.rows parts.second.within row there in
    let low = was.above in let high = was.at_most in let begins = parts.begins in
    record { key = was.key; above = omega (arith, low, begins); at_most = high }

either_from : (span : Span) (from mid upto : ℕ) (key : List ℕ) (older newer : Chunk) (row : Row) → ArePartsOf span from mid upto key older newer
    → Has older.rows row ⊎ Has newer.rows row → IsUpTo key row.key
either_from span from mid upto key older newer row parts (inl there) = of_each (λ (r : Row). IsUpTo key r.key) older.rows parts.first.from_key row there
either_from span from mid upto key older newer row parts (inr there) = of_each (λ (r : Row). IsUpTo key r.key) newer.rows parts.second.from_key row there

onward_by : (older newer chunk : Chunk) (most : ℕ) (key : List ℕ) (join : IsJoin older newer most chunk) → 1 ≤ most → IsCutAt join.end most join.cut.count chunk.next join.cut.rest
    → ((row : Row) → Has chunk.rows row → IsUpTo key row.key) → IsOnward key older.next → IsOnward key newer.next → IsOnward key chunk.next
onward_by older newer chunk most key join some (inl (at, is, begins, before, full)) from first second =
    let (row, there) = some_row chunk.rows join.cut.count join.cut.keys (omega (arith, some, full)) in
    let low = subst (IsBeforeEnd row.key) is (join_before older newer chunk most row join there) in
    subst (IsOnward key) (sym is) (up_to_before key row.key at (from row there) low)
onward_by older newer chunk most key join some (inr (is, under, past)) from first second =
    subst (IsOnward key) (sym is) (of_end (IsOnward key) older.next newer.next join.end join.earlier.is_one first second)

next_in_by : (span : Span) (from mid upto : ℕ) (key : List ℕ) (older newer : Chunk) (next : Option (List ℕ)) → ArePartsOf span from mid upto key older newer → IsNextOf older newer next
    → IfSome next (IsIn span)
unfolding IsNextOf
next_in_by span from mid upto key older newer next parts (inl (row, there, is)) =
    subst (λ n. IfSome n (IsIn span)) (sym is) (either_within span from mid upto key older newer row parts there).key
next_in_by span from mid upto key older newer next parts (inr (inl is)) = subst (λ n. IfSome n (IsIn span)) (sym is) parts.first.next_in
next_in_by span from mid upto key older newer next parts (inr (inr is)) = subst (λ n. IfSome n (IsIn span)) (sym is) parts.second.next_in

pub part_join : (span : Span) (from mid upto : ℕ) (key : List ℕ) (most : ℕ) (older newer chunk : Chunk) → 1 ≤ most → ArePartsOf span from mid upto key older newer
    → IsJoin older newer most chunk → IsPart span from upto key chunk
part_join span from mid upto key most older newer chunk some parts join =
    let from_key : (row : Row) → Has chunk.rows row → IsUpTo key row.key =
    λ row there. either_from span from mid upto key older newer row parts (row_of older newer chunk most row join there) in
    record {
      in_order = join_order older newer chunk most join;
      within = each (IsWithin span from upto) chunk.rows (λ row there. either_within span from mid upto key older newer row parts (row_of older newer chunk most row join there));
      from_key = each (λ row. IsUpTo key row.key) chunk.rows from_key;
      onward = onward_by older newer chunk most key join some join.cut.ends from_key parts.first.onward parts.second.onward;
      before_next = join.cut.before;
      next_in = next_in_by span from mid upto key older newer chunk.next parts (next_of older newer chunk most join);
    }

-- ---- chunks of known rows
-- two lists in order, the one older than the other, have a merge
pub some_merge : (older newer : List Row) → StandInOrder older → StandInOrder newer → AreEarlier older newer → (merge : List Row) × IsMerge older newer merge
some_merge older newer first second times =
    let runs = older ∷ newer ∷ [] in
    let are : AreRuns runs = (
      (first, (second, tt)),
      (
        are_older older (newer ++ []) (λ one other there later. times one other there (elim (in_one newer [] other later) [ inl h ↦ h | inr h ↦ absurd h ])),
        (are_older newer [] (λ one other there later. absurd later), tt),
      ),
    ) in (
      merged runs,
      record {
        in_order = arranged_in_order (all_of runs);
        has = λ row. (
          λ there. elim (in_one older (newer ++ []) row ((merged_has runs are row).0 there)) [
            | inl h ↦ inl h
            | inr h ↦ (elim (in_one newer [] row h) [ inl p ↦ inr p | inr p ↦ absurd p ])
          ],
          elim [
            | inl h ↦ (merged_has runs are row).1 (in_front older (newer ++ []) row h)
            | inr h ↦ (merged_has runs are row).1 (behind older (newer ++ []) row (in_front newer [] row h))
          ],
        );
      },
    )

-- a row from the key on that isn't in a chunk doesn't stand before the chunk's next key
chunk_has_by : (key : List ℕ) (most count : ℕ) (found rest : List Row) (next : Option (List ℕ)) (row : Row) → StandInOrder rest → EndsAt next most count found rest
    → Has found row ⊎ Has rest row → IsBeforeEnd row.key next → Has found row
chunk_has_by key most count found rest next row order ends (inl there) before = there
chunk_has_by key most count found rest None row order ends (inr there) before = let Stands : List Row → Type 0 = λ list. Has list row in absurd (subst Stands ends.0 there)
chunk_has_by key most count found rest (Some next) row order ends (inr there) before = absurd (not_behind row rest next order ends.0 there before)

pub chunk_has : (rows : List Row) (key : List ℕ) (most : ℕ) (chunk : Chunk) (row : Row) (is : IsChunk rows key most chunk) → Has (chunk.rows ++ is.rest) row
    → IsBeforeEnd row.key chunk.next → Has chunk.rows row
chunk_has rows key most chunk row is there before =
    chunk_has_by key most is.count chunk.rows is.rest chunk.next row (back_in_order chunk.rows is.rest is.from.0) is.ends (in_one chunk.rows is.rest row there) before

-- ---- what is left behind the joined rows
not_true : (b : Bool) → not b ≡ true → b ≡ false
not_true true e = no_answer e
not_true false e = refl

not_false : (b : Bool) → not b ≡ false → b ≡ true
not_false true e = refl
not_false false e = no_answer (sym e)

get_some : List ℕ → Option (List ℕ) → List ℕ
get_some other None = other
get_some other (Some key) = key

some_same : (one other : List ℕ) → Some one ≡ Some other → one ≡ other
unfolding get_some
some_same one other e = ap (get_some one) e

abbrev is_left : Option (List ℕ) → Row → Bool
is_left next row = not (is_before_end row.key next)

left_past_by : (next : Option (List ℕ)) (row : Row) → is_left next row ≡ true → IsPast next row
left_past_by None row e = no_answer e
left_past_by (Some next) row e = past_by row.key next (not_true (is_lt (slice_cmp nat_cmp row.key next)) e)

not_left : (next : Option (List ℕ)) (row : Row) → is_left next row ≡ false → IsBeforeEnd row.key next
not_left None row e = tt
not_left (Some next) row e = not_false (is_lt (slice_cmp nat_cmp row.key next)) e

is_left_by : (b : Bool) (next : Option (List ℕ)) (row : Row) → is_left next row ≡ b → (IsBeforeEnd row.key next → ⊥) → is_left next row ≡ true
is_left_by true next row e f = e
is_left_by false next row e f = absurd (f (not_left next row e))

before_past : (next : Option (List ℕ)) (one other : Row) → IsBeforeEnd one.key next → IsPast next other → ComesBefore one other
before_past None one other before past = absurd past
before_past (Some next) one other before past = inl (before_up_to one.key next other.key before past)

no_rows : (rows : List Row) → ((row : Row) → Has rows row → ⊥) → rows ≡ []
no_rows [] f = refl
no_rows (row ∷ rows) f = absurd (f row (inl refl))

same_key_by : (first row : Row) (key : List ℕ) → IsUpTo key first.key → IsUpTo first.key row.key → row.key ≡ key → first.key ≡ key
same_key_by first row key low high is =
    elim (up_to_is key first.key low) [
      | inl before ↦ absurd (not_before_itself key (subst (IsBefore key) is (before_up_to key first.key row.key before high)))
      | inr same ↦ sym same
    ]

begin_by : (key : List ℕ) (rest : List Row) (row : Row) → StandInOrder rest → ((one : Row) → Has rest one → IsUpTo key one.key) → Has rest row → row.key ≡ key → BeginWith key rest
begin_by key [] row order past there is = there
begin_by key (first ∷ rest) row order past there is = same_key_by first row key (past first (inl refl)) (up_to_any_later first row rest order there) is

-- ---- all of it
pub record AreChunksOf (key : List ℕ) (most : ℕ) (rows others : List Row) (older newer : Chunk) : Type 0 where
  pub first : IsChunk rows key most older
  pub second : IsChunk others key most newer
  pub times : AreEarlier rows others

module _ (key : List ℕ) (most : ℕ) (rows others : List Row) (older newer chunk : Chunk) (some : 1 ≤ most) (are : AreChunksOf key most rows others older newer) (join : IsJoin older newer most chunk) where
  olds : List Row
  olds = older.rows ++ are.first.rest

  news : List Row
  news = newer.rows ++ are.second.rest

  earlier : AreEarlier olds news
  unfolding olds news
  earlier one other there later = are.times one other ((are.first.from.1 one).0 there).0 ((are.second.from.1 other).0 later).0

  all : (merge : List Row) × IsMerge olds news merge
  unfolding olds news
  all = some_merge olds news are.first.from.0 are.second.from.0 earlier

  left : List Row
  left = filter (is_left chunk.next) all.0

  -- a row of all from the key on
  from_both : (row : Row) → Has olds row ⊎ Has news row → Has (rows ++ others) row × IsUpTo key row.key
  unfolding olds news
  from_both row (inl there) = let is = (are.first.from.1 row).0 there in (in_front rows others row is.0, is.1)
  from_both row (inr there) = let is = (are.second.from.1 row).0 there in (behind rows others row is.0, is.1)

  in_either : (row : Row) → Has rows row ⊎ Has others row → IsUpTo key row.key → Has olds row ⊎ Has news row
  unfolding olds news
  in_either row (inl there) up_to = inl ((are.first.from.1 row).1 (there, up_to))
  in_either row (inr there) up_to = inr ((are.second.from.1 row).1 (there, up_to))

  to_both : (row : Row) → Has older.rows row ⊎ Has newer.rows row → Has olds row ⊎ Has news row
  unfolding olds news
  to_both row (inl there) = inl (in_front older.rows are.first.rest row there)
  to_both row (inr there) = inr (in_front newer.rows are.second.rest row there)

  is_joined : (row : Row) → Has olds row ⊎ Has news row → IsBeforeEnd row.key chunk.next → Has chunk.rows row
  unfolding olds news
  is_joined row (inl there) before =
      row_back older newer chunk most row join (inl (chunk_has rows key most older row are.first there (before_both older newer chunk most row.key join before).0)) before
  is_joined row (inr there) before =
      row_back older newer chunk most row join (inr (chunk_has others key most newer row are.second there (before_both older newer chunk most row.key join before).1)) before

  left_is : (row : Row) → Has left row → (Has olds row ⊎ Has news row) × IsPast chunk.next row
  unfolding left
  left_is row there =
      let is = passes (is_left chunk.next) all.0 row there in ((all.1.has row).0 is.0, left_past_by chunk.next row is.1)

  left_has : (row : Row) → Has olds row ⊎ Has news row → is_left chunk.next row ≡ true → Has left row
  unfolding left
  left_has row there is = kept (is_left chunk.next) all.0 row ((all.1.has row).1 there) is

  left_order : StandInOrder left
  unfolding left
  left_order = filter_in_order (is_left chunk.next) all.0 all.1.in_order

  order : StandInOrder (chunk.rows ++ left)
  order = joined_in_order chunk.rows left (join_order older newer chunk most join) left_order
      (λ one other there later. before_past chunk.next one other (join_before older newer chunk most one join there) (left_is other later).1)

  back_by : (row : Row) (b : Bool) → is_left chunk.next row ≡ b → Has olds row ⊎ Has news row → Has (chunk.rows ++ left) row
  back_by row true e there = behind chunk.rows left row (left_has row there e)
  back_by row false e there = in_front chunk.rows left row (is_joined row there (not_left chunk.next row e))

  front_by : (row : Row) → Has chunk.rows row ⊎ Has left row → Has olds row ⊎ Has news row
  front_by row (inl there) = to_both row (row_of older newer chunk most row join there)
  front_by row (inr there) = (left_is row there).0

  from : AreFrom (rows ++ others) key (chunk.rows ++ left)
  from = (
    order,
    λ row. (
      λ there. from_both row (front_by row (in_one chunk.rows left row there)),
      λ (there, up_to). back_by row (is_left chunk.next row) refl (in_either row (in_one rows others row there) up_to),
    ),
  )

  -- where a key comes next, it is the key of a row that is left
  next_left : (next : List ℕ) (row : Row) → chunk.next ≡ Some next → Has olds row ⊎ Has news row → row.key ≡ next → Has left row
  next_left next row is there same =
      left_has row there (is_left_by (is_left chunk.next row) chunk.next row refl
      (λ before. not_before_itself next (subst (λ k. IsBefore k next) same (subst (IsBeforeEnd row.key) is before))))

  first_next : (next : List ℕ) → older.next ≡ Some next → (row : Row) × (Has olds row ⊎ Has news row) × (row.key ≡ next)
  unfolding olds news
  first_next next is =
      let ends = subst (λ n. EndsAt n most are.first.count older.rows are.first.rest) is are.first.ends in
      let (row, there, same) = begun next are.first.rest ends.0 in (row, inl (behind older.rows are.first.rest row there), same)

  second_next : (next : List ℕ) → newer.next ≡ Some next → (row : Row) × (Has olds row ⊎ Has news row) × (row.key ≡ next)
  unfolding olds news
  second_next next is =
      let ends = subst (λ n. EndsAt n most are.second.count newer.rows are.second.rest) is are.second.ends in
      let (row, there, same) = begun next are.second.rest ends.0 in (row, inr (behind newer.rows are.second.rest row there), same)

  row_next : (next : List ℕ) → chunk.next ≡ Some next → IsNextOf older newer chunk.next → (row : Row) × (Has olds row ⊎ Has news row) × (row.key ≡ next)
  unfolding IsNextOf
  row_next next is (inl (row, there, same)) = (row, to_both row there, some_same row.key next (sym same ∙ is))
  row_next next is (inr (inl same)) = first_next next (sym same ∙ is)
  row_next next is (inr (inr same)) = second_next next (sym same ∙ is)

  begins : (next : List ℕ) → chunk.next ≡ Some next → BeginWith next left
  begins next is =
      let (row, there, same) = row_next next is (next_of older newer chunk most join) in
      begin_by next left row left_order (λ one stands. subst (λ n. IsPast n one) is (left_is one stands).1) (next_left next row is there same) same

  full_first : (next : List ℕ) → chunk.next ≡ Some next → older.next ≡ Some next → most ≤ join.cut.count
  full_first next is same =
      let ends = subst (λ n. EndsAt n most are.first.count older.rows are.first.rest) same are.first.ends in
      let before = λ (row : Row) (there : Has older.rows row). next_follows older.rows are.first.rest next most are.first.count row ends are.first.from.0 there in
      let fewer = fewer_keys older.rows chunk.rows are.first.count join.cut.count are.first.keys join.cut.keys
      (λ row there. row_back older newer chunk most row join (inl there) (subst (IsBeforeEnd row.key) (sym is) (before row there))) in
      let count = ends.1 in omega (arith, fewer, count)

  full_second : (next : List ℕ) → chunk.next ≡ Some next → newer.next ≡ Some next → most ≤ join.cut.count
  full_second next is same =
      let ends = subst (λ n. EndsAt n most are.second.count newer.rows are.second.rest) same are.second.ends in
      let before = λ (row : Row) (there : Has newer.rows row). next_follows newer.rows are.second.rest next most are.second.count row ends are.second.from.0 there in
      let fewer = fewer_keys newer.rows chunk.rows are.second.count join.cut.count are.second.keys join.cut.keys
      (λ row there. row_back older newer chunk most row join (inr there) (subst (IsBeforeEnd row.key) (sym is) (before row there))) in
      let count = ends.1 in omega (arith, fewer, count)

  full_by : (next : List ℕ) → chunk.next ≡ Some next → (join.end ≡ older.next) ⊎ (join.end ≡ newer.next) → chunk.next ≡ join.end → most ≤ join.cut.count
  full_by next is (inl e) same = full_first next is (sym e ∙ sym same ∙ is)
  full_by next is (inr e) same = full_second next is (sym e ∙ sym same ∙ is)

  count_by : (next : List ℕ) → chunk.next ≡ Some next → IsCutAt join.end most join.cut.count chunk.next join.cut.rest → join.cut.count ≡ most
  count_by next is (inl (at, same, begin, before, full)) = full
  count_by next is (inr (same, under, past)) = let over = full_by next is join.earlier.is_one same in omega (arith, under, over)

  at_most_by : chunk.next ≡ None → IsCutAt join.end most join.cut.count chunk.next join.cut.rest → join.cut.count ≤ most
  at_most_by is (inl (at, same, begin, before, full)) = omega (arith, full)
  at_most_by is (inr (same, under, past)) = under

  ends_by : (next : Option (List ℕ)) → chunk.next ≡ next → EndsAt next most join.cut.count chunk.rows left
  ends_by None is = (
    no_rows left (λ row there. subst (λ n. IsPast n row) is (left_is row there).1),
    at_most_by is join.cut.ends,
  )
  ends_by (Some next) is = (
    begins next is,
    count_by next is join.cut.ends,
    λ row there same. not_before_itself next (subst (λ k. IsBefore k next) same (subst (IsBeforeEnd row.key) is (join_before older newer chunk most row join there))),
  )

  pub chunk_join : IsChunk (rows ++ others) key most chunk
  chunk_join = record { rest = left; count = join.cut.count; from = from; keys = join.cut.keys; ends = ends_by chunk.next refl }
