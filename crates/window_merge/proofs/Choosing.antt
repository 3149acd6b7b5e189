-- The values among the rows of a chunk.
use Rattle.std.proofs.Common.{◌≡◌, ◌↔◌, ◌<◌, ◌≤◌, ℕ, suc, List, [], ◌∷◌, length, Bool, true, false, cond, nat_eq, ◌&&◌, refl, sym, ap, ◌∙◌, subst, arith, inl, inr, Ordering}
use Rattle.std.specs.declared.cmp.Ordering.TheVariants.{Less, Equal, Greater}
use Rattle.std.specs.Prelude.{◌⊎◌, Option, Some, None, IfSome}
use Rattle.std.specs.List.{AllByRecursion, filter, dedup, dedup_from}
use Rattle.std.specs.Ordering.{is_lt, is_le, is_eq, nat_cmp}
use Rattle.std.specs.Cmp.Lexicographic.{pointwise, slice_cmp, nat_list_cmp_total, texts_ties}
use Rattle.std.proofs.lemmas.Cmp.{ranked, tied_itself}
use Rattle.base_core.specs.Lists.{Has, AreDistinct}
use Rattle.fed_bytes.specs.declared.span.Span.{Span}
use Rattle.fed_bytes.specs.Keys.{IsBefore, IsUpTo, IsBeforeEnd, IsIn}
use Rattle.fed_bytes.proofs.Orders.{no_answer, before_up_to}
use Rattle.row_core.specs.declared.rows.Row.{Row}
use Rattle.row_core.specs.declared.rows.Cell.{Cell}
use Rattle.row_core.specs.declared.rows.Cell.TheVariants.{Value, Deleted}
use Rattle.row_core.specs.declared.rows.Chunk.{Chunk}
use Rattle.row_core.specs.Rows.{ComesBefore, StandInOrder, IsWithin, EndsAt, IsChunk}
use Rattle.window_core.specs.Windows.{IsOnward, IsPart, ArePassed, IsPassage}
use Rattle.row_core.proofs.Lists.{of_each, each, in_front, behind}
use Rattle.row_core.proofs.Order.{before_is_up_to, not_before_itself, one_key, up_to_any_later}
use Rattle.row_core.proofs.Filters.{kept, passes, filter_in_order}
use Rattle.window_merge.specs.Choosing.{is_before_end, is_in, is_asked_at, has_one_key, is_value_cell, is_value_row, values_of, IsKeyIn}
use Rattle.window_merge.specs.Values.{IsValueCell, IsValueAt, IsPassed, IsKeyOf, AreMost, AreValuesAt, IsAskedFor, AreAskedFor}
use Rattle.window_merge.proofs.Ends.{past_by}
use Rattle.window_merge.proofs.Joins.{chunk_has, begun}

-- ---- the tests
both_true : (a b : Bool) → a && b ≡ true → (a ≡ true) × (b ≡ true)
both_true true b e = (refl, e)
both_true false b e = no_answer e

and_true : (a b : Bool) → a ≡ true → b ≡ true → a && b ≡ true
and_true true b p q = q
and_true false b p q = no_answer p

before_end_told : (key : List ℕ) (right : Option (List ℕ)) → (is_before_end key right ≡ true) → IsBeforeEnd key right
before_end_told key None e = tt
before_end_told key (Some right) e = e

before_end_is : (key : List ℕ) (right : Option (List ℕ)) → IsBeforeEnd key right → is_before_end key right ≡ true
before_end_is key None h = refl
before_end_is key (Some right) h = h

in_told : (span : Span) (key : List ℕ) → is_in span key ≡ true → IsIn span key
in_told span key e = let p = both_true (is_le (slice_cmp nat_cmp span.left key)) (is_before_end key span.right) e in (p.0, before_end_told key span.right p.1)

in_is : (span : Span) (key : List ℕ) → IsIn span key → is_in span key ≡ true
in_is span key h = and_true (is_le (slice_cmp nat_cmp span.left key)) (is_before_end key span.right) h.0 (before_end_is key span.right h.1)

at_most : (m n : ℕ) (r : Ordering) → nat_cmp m n ≡ r → is_le r ≡ true → m ≤ n
at_most m n Less is h = let lower = ranked m n Less (sym is) in omega arith
at_most m n Equal is h = let same = ranked m n Equal (sym is) in omega arith
at_most m n Greater is h = no_answer h

at_most_by : (m n : ℕ) (r : Ordering) → nat_cmp m n ≡ r → m ≤ n → is_le r ≡ true
at_most_by m n Less is h = refl
at_most_by m n Equal is h = refl
at_most_by m n Greater is h = let higher = ranked m n Greater (sym is) in absurd (omega arith)

-- the row was asked for
abbrev pub IsAsked : Span → ℕ → Row → Type 0
IsAsked span time row = (row.time ≤ time) × IsIn span row.key

asked_told : (span : Span) (time : ℕ) (row : Row) → is_asked_at span time row ≡ true → IsAsked span time row
asked_told span time row e =
    let p = both_true (is_le (nat_cmp row.time time)) (is_in span row.key) e in (at_most row.time time (nat_cmp row.time time) refl p.0, in_told span row.key p.1)

asked_is : (span : Span) (time : ℕ) (row : Row) → IsAsked span time row → is_asked_at span time row ≡ true
asked_is span time row h =
    and_true (is_le (nat_cmp row.time time)) (is_in span row.key) (at_most_by row.time time (nat_cmp row.time time) refl h.0) (in_is span row.key h.1)

value_told : (cell : Cell) → is_value_cell cell ≡ true → IsValueCell cell
value_told (Value value) e = tt
value_told Deleted e = no_answer e

value_is : (cell : Cell) → IsValueCell cell → is_value_cell cell ≡ true
value_is (Value value) h = refl
value_is Deleted h = absurd h

same_by : (a b : List ℕ) (o : Ordering) → slice_cmp nat_cmp a b ≡ o → is_eq o ≡ true → a ≡ b
same_by a b Less is e = no_answer e
same_by a b Equal is e = one_key a b is
same_by a b Greater is e = no_answer e

same_told : (a b : List ℕ) → pointwise nat_eq a b ≡ true → a ≡ b
same_told a b e = same_by a b (slice_cmp nat_cmp a b) refl (sym (texts_ties a b) ∙ e)

apart_told : (a b : List ℕ) → pointwise nat_eq a b ≡ false → a ≡ b → ⊥
apart_told a b e same = no_answer (sym e ∙ texts_ties a b ∙ ap is_eq (ap (slice_cmp nat_cmp a) (sym same) ∙ tied_itself nat_list_cmp_total a))

not_up_to : (b : Bool) → (b ≡ true → ⊥) → b ≡ false
not_up_to true f = absurd (f refl)
not_up_to false f = refl

-- what doesn't stand before a key stands at it or behind
past_not : (a b : List ℕ) → (IsBefore a b → ⊥) → IsUpTo b a
past_not a b f = past_by a b (not_up_to (is_lt (slice_cmp nat_cmp a b)) f)

before_inside : (key next : List ℕ) (right : Option (List ℕ)) → IsBefore key next → IsBeforeEnd next right → IsBeforeEnd key right
before_inside key next None low inside = tt
before_inside key next (Some right) low inside = before_up_to key next right low (before_is_up_to next right inside)

-- ---- filters
distinct_by : {A : Type 0} (test : A → Bool) (b : Bool) (x : A) (xs : List A) → (Has xs x → ⊥) → AreDistinct (filter test xs) → AreDistinct (cond b (x ∷ filter test xs) (filter test xs))
distinct_by test true x xs fresh rest = ((λ there. fresh (passes test xs x there).0), rest)
distinct_by test false x xs fresh rest = rest

distinct_filter : {A : Type 0} (test : A → Bool) (xs : List A) → AreDistinct xs → AreDistinct (filter test xs)
distinct_filter test [] distinct = tt
distinct_filter test (x ∷ xs) distinct = distinct_by test (test x) x xs distinct.0 (distinct_filter test xs distinct.1)

shorter_by : {A : Type 0} (test : A → Bool) (b : Bool) (x : A) (xs : List A) → length (filter test xs) ≤ length xs → length (cond b (x ∷ filter test xs) (filter test xs)) ≤ length (x ∷ xs)
shorter_by test true x xs h = omega (arith, h)
shorter_by test false x xs h = omega (arith, h)

shorter_filter : {A : Type 0} (test : A → Bool) (xs : List A) → length (filter test xs) ≤ length xs
shorter_filter test [] = omega arith
shorter_filter test (x ∷ xs) = shorter_by test (test x) x xs (shorter_filter test xs)

whole_filter : {A : Type 0} (test : A → Bool) (xs : List A) → ((x : A) → Has xs x → test x ≡ true) → length (filter test xs) ≡ length xs
whole_filter test [] f = refl
whole_filter test (x ∷ xs) f =
    ap (λ b. length (cond b (x ∷ filter test xs) (filter test xs))) (f x (inl refl)) ∙ ap suc (whole_filter test xs (λ y there. f y (inr there)))

-- ---- the newest of each key
-- of the rows none of the row's key is newer
abbrev pub IsNewestOf : List Row → Row → Type 0
IsNewestOf rows row = (other : Row) → Has rows other → other.key ≡ row.key → other.time ≤ row.time

fewer : (k x : Row) (xs : List Row) → StandInOrder (k ∷ x ∷ xs) → StandInOrder (k ∷ xs)
fewer k x xs order = (order.0.1, order.1.1)

older_of_key : (k x : Row) → ComesBefore k x → x.key ≡ k.key → x.time < k.time
older_of_key k x (inl before) same = absurd (not_before_itself k.key (subst (IsBefore k.key) same before))
older_of_key k x (inr (again, older)) same = older

before_other : (k x : Row) → ComesBefore k x → (x.key ≡ k.key → ⊥) → IsBefore k.key x.key
before_other k x (inl before) apart = before
before_other k x (inr (same, older)) apart = absurd (apart (sym same))

skip : (k x row : Row) (xs : List Row) → Has (k ∷ xs) row → Has (k ∷ x ∷ xs) row
skip k x row xs (inl e) = inl e
skip k x row xs (inr there) = inr (inr there)

newest_of_rest : (k x : Row) (xs : List Row) (row : Row) → IsNewestOf (k ∷ x ∷ xs) row → IsNewestOf (k ∷ xs) row
newest_of_rest k x xs row newest other there same = newest other (skip k x other xs there) same

-- the rows from x on are of later keys than k
later_keys : (k x : Row) (xs : List Row) → StandInOrder (k ∷ x ∷ xs) → (x.key ≡ k.key → ⊥) → (row : Row) → Has (x ∷ xs) row → IsBefore k.key row.key
later_keys k x xs order apart row there = before_up_to k.key x.key row.key (before_other k x order.0.0 apart) (up_to_any_later x row xs order.1 there)

not_same : (a b : List ℕ) → IsBefore a b → a ≡ b → ⊥
not_same a b before same = not_before_itself b (subst (λ k. IsBefore k b) same before)

abbrev Chosen : List Row → List Row → Row → Type 0
Chosen rows found row = Has found row → Has rows row × IsNewestOf rows row

chosen_same : (k x : Row) (xs : List Row) (row : Row) → StandInOrder (k ∷ x ∷ xs) → x.key ≡ k.key → Has (k ∷ xs) row → IsNewestOf (k ∷ xs) row → IsNewestOf (k ∷ x ∷ xs) row
chosen_same k x xs row order same there newest other (inl e) is = newest other (inl e) is
chosen_same k x xs row order same there newest other (inr (inl e)) is =
    let own : k.key ≡ row.key = sym same ∙ ap (λ (r : Row). r.key) e ∙ is in
    let high = newest k (inl refl) own in
    let low = older_of_key k x order.0.0 same in
    subst (λ (r : Row). r.time ≤ row.time) e (omega (arith, high, low))
chosen_same k x xs row order same there newest other (inr (inr h)) is = newest other (inr h) is

chosen_first : (k x : Row) (xs : List Row) → StandInOrder (k ∷ x ∷ xs) → (x.key ≡ k.key → ⊥) → (row : Row) → k ≡ row → IsNewestOf (k ∷ x ∷ xs) row
chosen_first k x xs order apart row e other (inl d) is = let same : other.time ≡ row.time = ap (λ (r : Row). r.time) (sym d ∙ e) in omega (arith, same)
chosen_first k x xs order apart row e other (inr there) is =
    absurd (not_same k.key other.key (later_keys k x xs order apart other there) (ap (λ (r : Row). r.key) e ∙ sym is))

chosen_later : (k x : Row) (xs : List Row) → StandInOrder (k ∷ x ∷ xs) → (x.key ≡ k.key → ⊥) → (row : Row) → Has (x ∷ xs) row → IsNewestOf (x ∷ xs) row → IsNewestOf (k ∷ x ∷ xs) row
chosen_later k x xs order apart row there newest other (inl e) is =
    absurd (not_same k.key row.key (later_keys k x xs order apart row there) (ap (λ (r : Row). r.key) e ∙ is))
chosen_later k x xs order apart row there newest other (inr h) is = newest other h is

chosen_by : (b : Bool) (k x : Row) (xs : List Row) (row : Row) → has_one_key x k ≡ b → StandInOrder (k ∷ x ∷ xs)
    → Chosen (k ∷ xs) (dedup_from has_one_key k xs) row → Chosen (x ∷ xs) (dedup_from has_one_key x xs) row
    → Has (cond b (dedup_from has_one_key k xs) (k ∷ dedup_from has_one_key x xs)) row → Has (k ∷ x ∷ xs) row × IsNewestOf (k ∷ x ∷ xs) row
chosen_by true k x xs row e order own later there =
    let is = own there in (skip k x row xs is.0, chosen_same k x xs row order (same_told x.key k.key e) is.0 is.1)
chosen_by false k x xs row e order own later (inl d) = (inl d, chosen_first k x xs order (apart_told x.key k.key e) row d)
chosen_by false k x xs row e order own later (inr there) =
    let is = later there in (inr is.0, chosen_later k x xs order (apart_told x.key k.key e) row is.0 is.1)

chosen_only : (k row : Row) → k ≡ row → IsNewestOf (k ∷ []) row
chosen_only k row e other (inl d) is = let same : other.time ≡ row.time = ap (λ (r : Row). r.time) (sym d ∙ e) in omega (arith, same)
chosen_only k row e other (inr h) is = absurd h

chosen_from : (k : Row) (xs : List Row) (row : Row) → StandInOrder (k ∷ xs) → Chosen (k ∷ xs) (dedup_from has_one_key k xs) row
chosen_from k [] row order (inl e) = (inl e, chosen_only k row e)
chosen_from k [] row order (inr h) = absurd h
chosen_from k (x ∷ xs) row order there =
    chosen_by (has_one_key x k) k x xs row refl order (chosen_from k xs row (fewer k x xs order)) (chosen_from x xs row order.1) there

back_same : (k x : Row) (xs : List Row) (row : Row) → StandInOrder (k ∷ x ∷ xs) → x.key ≡ k.key → Has (k ∷ x ∷ xs) row → IsNewestOf (k ∷ x ∷ xs) row → Has (k ∷ xs) row
back_same k x xs row order same (inl e) newest = inl e
back_same k x xs row order same (inr (inl e)) newest =
    let low = older_of_key k x order.0.0 same in
    let high = newest k (inl refl) (sym same ∙ ap (λ (r : Row). r.key) e) in
    let time : x.time ≡ row.time = ap (λ (r : Row). r.time) e in
    absurd (omega (arith, low, high, time))
back_same k x xs row order same (inr (inr there)) newest = inr there

back_by : (b : Bool) (k x : Row) (xs : List Row) (row : Row) → has_one_key x k ≡ b → StandInOrder (k ∷ x ∷ xs) → Has (k ∷ x ∷ xs) row → IsNewestOf (k ∷ x ∷ xs) row
    → (Has (k ∷ xs) row → IsNewestOf (k ∷ xs) row → Has (dedup_from has_one_key k xs) row) → (Has (x ∷ xs) row → IsNewestOf (x ∷ xs) row → Has (dedup_from has_one_key x xs) row)
    → Has (cond b (dedup_from has_one_key k xs) (k ∷ dedup_from has_one_key x xs)) row
back_by true k x xs row e order there newest own later = own (back_same k x xs row order (same_told x.key k.key e) there newest) (newest_of_rest k x xs row newest)
back_by false k x xs row e order (inl d) newest own later = inl d
back_by false k x xs row e order (inr there) newest own later = inr (later there (λ other h is. newest other (inr h) is))

back_from : (k : Row) (xs : List Row) (row : Row) → StandInOrder (k ∷ xs) → Has (k ∷ xs) row → IsNewestOf (k ∷ xs) row → Has (dedup_from has_one_key k xs) row
back_from k [] row order there newest = there
back_from k (x ∷ xs) row order there newest =
    back_by (has_one_key x k) k x xs row refl order there newest (back_from k xs row (fewer k x xs order)) (back_from x xs row order.1)

order_by : (b : Bool) (k x : Row) (xs : List Row) → StandInOrder (k ∷ x ∷ xs) → StandInOrder (dedup_from has_one_key k xs) → StandInOrder (dedup_from has_one_key x xs)
    → StandInOrder (cond b (dedup_from has_one_key k xs) (k ∷ dedup_from has_one_key x xs))
order_by true k x xs order own later = own
order_by false k x xs order own later =
    (each (ComesBefore k) (dedup_from has_one_key x xs) (λ row there. of_each (ComesBefore k) (x ∷ xs) order.0 row (chosen_from x xs row order.1 there).0), later)

order_from : (k : Row) (xs : List Row) → StandInOrder (k ∷ xs) → StandInOrder (dedup_from has_one_key k xs)
order_from k [] order = order
order_from k (x ∷ xs) order = order_by (has_one_key x k) k x xs order (order_from k xs (fewer k x xs order)) (order_from x xs order.1)

newest_has : (rows : List Row) (row : Row) → StandInOrder rows → (Has (dedup has_one_key rows) row ↔ (Has rows row × IsNewestOf rows row))
newest_has [] row order = (λ h. absurd h, λ h. absurd h.0)
newest_has (k ∷ xs) row order = (chosen_from k xs row order, λ h. back_from k xs row order h.0 h.1)

newest_order : (rows : List Row) → StandInOrder rows → StandInOrder (dedup has_one_key rows)
newest_order [] order = tt
newest_order (k ∷ xs) order = order_from k xs order

-- ---- the values
-- the row is the newest of its key among those that were asked for, and a value
pub record IsValueIn (rows : List Row) (span : Span) (time : ℕ) (row : Row) : Type 0 where
  pub there : Has rows row
  pub asked : IsAsked span time row
  pub newest : (other : Row) → Has rows other → IsAsked span time other → other.key ≡ row.key → other.time ≤ row.time
  pub value : IsValueCell row.cell

pub values_told : (span : Span) (time : ℕ) (rows : List Row) (row : Row) → StandInOrder rows → Has (values_of span time rows) row → IsValueIn rows span time row
values_told span time rows row order there =
    let asked = filter (is_asked_at span time) rows in
    let value = passes is_value_row (dedup has_one_key asked) row there in
    let newest = (newest_has asked row (filter_in_order (is_asked_at span time) rows order)).0 value.0 in
    let own = passes (is_asked_at span time) rows row newest.0 in
    record {
      there = own.0;
      asked = asked_told span time row own.1;
      newest = λ other stands is same. newest.1 other (kept (is_asked_at span time) rows other stands (asked_is span time other is)) same;
      value = value_told row.cell value.1;
    }

pub values_is : (span : Span) (time : ℕ) (rows : List Row) (row : Row) → StandInOrder rows → IsValueIn rows span time row → Has (values_of span time rows) row
values_is span time rows row order is =
    let asked = filter (is_asked_at span time) rows in
    kept is_value_row (dedup has_one_key asked) row
    ((newest_has asked row (filter_in_order (is_asked_at span time) rows order)).1 (
      kept (is_asked_at span time) rows row is.there (asked_is span time row is.asked),
      λ other stands same. let p = passes (is_asked_at span time) rows other stands in is.newest other p.0 (asked_told span time other p.1) same,
    ))
    (value_is row.cell is.value)

pub values_order : (span : Span) (time : ℕ) (rows : List Row) → StandInOrder rows → StandInOrder (values_of span time rows)
values_order span time rows order =
    filter_in_order is_value_row (dedup has_one_key (filter (is_asked_at span time) rows)) (newest_order (filter (is_asked_at span time) rows) (filter_in_order (is_asked_at span time) rows order))

-- ---- the next key
-- it is as it was, in the span; or it was behind the span, and there is none
abbrev pub IsNextIn : Span → Option (List ℕ) → Option (List ℕ) → Type 0
IsNextIn span next found = ((found ≡ next) × IfSome next (IsIn span)) ⊎ ((key : List ℕ) × (next ≡ Some key) × (IsIn span key → ⊥) × (found ≡ None))

pub next_in : (span : Span) (next found : Option (List ℕ)) → IsKeyIn span next found → IsNextIn span next found
next_in span None found is = inl (is, tt)
next_in span (Some key) found (inl (inside, is)) = inl (is, inside)
next_in span (Some key) found (inr (outside, is)) = inr (key, refl, outside, is)

by_next : (P : Option (List ℕ) → Type 0) (span : Span) (next found : Option (List ℕ)) → IsNextIn span next found → P next → P None → P found
by_next P span next found (inl (is, inside)) p q = subst P (sym is) p
by_next P span next found (inr (key, same, outside, is)) p q = subst P (sym is) q

next_inside : (span : Span) (next found : Option (List ℕ)) → IsNextIn span next found → IfSome found (IsIn span)
next_inside span next found (inl (is, inside)) = subst (λ n. IfSome n (IsIn span)) (sym is) inside
next_inside span next found (inr (key, same, outside, is)) = subst (λ n. IfSome n (IsIn span)) (sym is) tt

-- a key of the span stands before one behind the left end that isn't in it
before_outside : (key next : List ℕ) (right : Option (List ℕ)) → IsBeforeEnd key right → (IsBeforeEnd next right → ⊥) → IsBefore key next
before_outside key next None low outside = absurd (outside tt)
before_outside key next (Some right) low outside = before_up_to key right next low (past_not next right outside)

-- so a key of the span that stands before the answered next key stands before the chunk's
before_next_by : (span : Span) (next found : Option (List ℕ)) (key : List ℕ) → IsNextIn span next found → IsOnward span.left next → IsIn span key → IsBeforeEnd key found → IsBeforeEnd key next
before_next_by span next found key (inl (is, inside)) onward within before = subst (IsBeforeEnd key) is before
before_next_by span next found key (inr (at, same, outside, is)) onward within before =
    let low = subst (IsOnward span.left) same onward in
    subst (IsBeforeEnd key) (sym same) (before_outside key at span.right within.1 (λ inside. outside (before_is_up_to span.left at low, inside)))

-- ---- what is answered, whatever a device gave
-- the values of a chunk
pub record AreChosen (span : Span) (time : ℕ) (whole chunk : Chunk) : Type 0 where
  pub rows : chunk.rows ≡ values_of span time whole.rows
  pub next : IsNextIn span whole.next chunk.next

chosen_row : (span : Span) (time : ℕ) (whole chunk : Chunk) (row : Row) → StandInOrder whole.rows → AreChosen span time whole chunk → Has chunk.rows row → IsValueIn whole.rows span time row
chosen_row span time whole chunk row order are there =
    let Stands : List Row → Type 0 = λ list. Has list row in values_told span time whole.rows row order (subst Stands are.rows there)

pub chosen_order : (span : Span) (time : ℕ) (whole chunk : Chunk) → StandInOrder whole.rows → AreChosen span time whole chunk → StandInOrder chunk.rows
chosen_order span time whole chunk order are = subst StandInOrder (sym are.rows) (values_order span time whole.rows order)

pub chosen_each : (P : Row → Type 0) (span : Span) (time : ℕ) (whole chunk : Chunk) → StandInOrder whole.rows → AreChosen span time whole chunk → AllByRecursion P whole.rows → AllByRecursion P chunk.rows
chosen_each P span time whole chunk order are all = each P chunk.rows (λ row there. of_each P whole.rows all row (chosen_row span time whole chunk row order are there).there)

pub chosen_asked : (span : Span) (time : ℕ) (whole chunk : Chunk) → StandInOrder whole.rows → AreChosen span time whole chunk → AreAskedFor span time chunk
chosen_asked span time whole chunk order are = record {
  rows = each (IsAskedFor span time) chunk.rows
      (λ row there. let is = chosen_row span time whole chunk row order are there in record { key = is.asked.1; at_most = is.asked.0; value = is.value });
  next_in = next_inside span whole.next chunk.next are.next;
}

no_end : (rows : List Row) → AllByRecursion (λ row. IsBeforeEnd row.key None) rows
no_end rows = each (λ row. IsBeforeEnd row.key None) rows (λ row there. tt)

pub chosen_part : (all span : Span) (from upto time : ℕ) (key : List ℕ) (whole chunk : Chunk) → AreChosen span time whole chunk → IsPart all from upto key whole → IsPart all from upto key chunk
chosen_part all span from upto time key whole chunk are is = record {
  in_order = chosen_order span time whole chunk is.in_order are;
  within = chosen_each (IsWithin all from upto) span time whole chunk is.in_order are is.within;
  from_key = chosen_each (λ row. IsUpTo key row.key) span time whole chunk is.in_order are is.from_key;
  onward = by_next (IsOnward key) span whole.next chunk.next are.next is.onward tt;
  before_next = by_next (λ next. AllByRecursion (λ row. IsBeforeEnd row.key next) chunk.rows) span whole.next chunk.next are.next
      (chosen_each (λ row. IsBeforeEnd row.key whole.next) span time whole chunk is.in_order are is.before_next) (no_end chunk.rows);
  next_in = by_next (λ next. IfSome next (IsIn all)) span whole.next chunk.next are.next is.next_in tt;
}

passed_none : (most : ℕ) (keys : List (List ℕ)) (next : Option (List ℕ)) → ArePassed most keys next → ArePassed most keys None
passed_none most keys None passed = passed
passed_none most keys (Some next) passed = omega (arith, passed.0)

pub chosen_passage : (all span : Span) (time : ℕ) (key : List ℕ) (most : ℕ) (whole chunk : Chunk) → StandInOrder whole.rows → AreChosen span time whole chunk
    → IsPassage all key most whole → IsPassage all key most chunk
chosen_passage all span time key most whole chunk order are is = record {
  keys = is.keys;
  rise = is.rise;
  from_key = is.from_key;
  within = is.within;
  rows = chosen_each (λ row. Has is.keys row.key) span time whole chunk order are is.rows;
  passed = by_next (ArePassed most is.keys) span whole.next chunk.next are.next is.passed (passed_none most is.keys whole.next is.passed);
}

-- ---- what is answered of known rows
module _ (rows : List Row) (span : Span) (time most : ℕ) (whole chunk : Chunk) (is : IsChunk rows span.left most whole) (are : AreChosen span time whole chunk)
    (order : StandInOrder whole.rows) (onward : IsOnward span.left whole.next) (before : (row : Row) → Has whole.rows row → IsBeforeEnd row.key whole.next) where
  in_all : (row : Row) → Has whole.rows row → Has rows row
  in_all row there = ((is.from.1 row).0 (in_front whole.rows is.rest row there)).0

  -- a row of a passed key is in the chunk
  in_whole : (row : Row) → Has rows row → IsIn span row.key → IsBeforeEnd row.key whole.next → Has whole.rows row
  in_whole row there within low = chunk_has rows span.left most whole row is ((is.from.1 row).1 (there, within.0)) low

  passed_low : (key : List ℕ) → IsPassed span chunk.next key → IsBeforeEnd key whole.next
  passed_low key (within, low) = before_next_by span whole.next chunk.next key are.next onward within low

  low_passed : (row : Row) → Has whole.rows row → IsIn span row.key → IsPassed span chunk.next row.key
  low_passed row there within = (within, by_next (IsBeforeEnd row.key) span whole.next chunk.next are.next (before row there) tt)

  value_of : (row : Row) → IsValueIn whole.rows span time row → IsValueAt rows time row × IsPassed span chunk.next row.key
  value_of row own = (
    (
      (
        in_all row own.there,
        record { key_is = refl; at_most = own.asked.0 },
        λ other there at.
            let within = subst (IsIn span) (sym at.key_is) own.asked.1 in
            let low = subst (λ k. IsBeforeEnd k whole.next) (sym at.key_is) (before row own.there) in
            own.newest other (in_whole other there within low) (at.at_most, within) at.key_is,
      ),
      own.value,
    ),
    low_passed row own.there own.asked.1,
  )

  of_value : (row : Row) → IsValueAt rows time row × IsPassed span chunk.next row.key → IsValueIn whole.rows span time row
  of_value row ((last, value), passed) = record {
    there = in_whole row last.0 passed.0 (passed_low row.key passed);
    asked = (last.1.at_most, passed.0);
    newest = λ other there asked same. last.2 other (in_all other there) (record { key_is = same; at_most = asked.0 });
    value = value;
  }

  exactly : (row : Row) → (Has chunk.rows row ↔ (IsValueAt rows time row × IsPassed span chunk.next row.key))
  exactly row =
      let Stands : List Row → Type 0 = λ list. Has list row in (
        λ there. value_of row (values_told span time whole.rows row order (subst Stands are.rows there)),
        λ h. subst Stands (sym are.rows) (values_is span time whole.rows row order (of_value row h)),
      )

  -- the keys of the chunk that are in the span
  own_keys : List (List ℕ)
  own_keys = filter (is_in span) is.keys.0

  own_has : (key : List ℕ) → (Has own_keys key ↔ (IsKeyOf rows key × IsPassed span chunk.next key))
  unfolding own_keys
  own_has key = (
    λ there.
        let p = passes (is_in span) is.keys.0 key there in
        let (row, stands, same) = (is.keys.1.1 key).0 p.0 in
        let within = in_told span key p.1 in
        ((row, in_all row stands, same), subst (IsPassed span chunk.next) same (low_passed row stands (subst (IsIn span) (sym same) within))),
    λ ((row, there, same), passed).
        let moved = subst (IsPassed span chunk.next) (sym same) passed in
        let stands = in_whole row there moved.0 (passed_low row.key moved) in
        kept (is_in span) is.keys.0 key ((is.keys.1.1 key).1 (row, stands, same)) (in_is span key passed.0),
  )

  distinct : AreDistinct own_keys
  unfolding own_keys
  distinct = distinct_filter (is_in span) is.keys.0 is.keys.1.0

  under : length own_keys ≤ is.count
  unfolding own_keys
  under = let fewer = shorter_filter (is_in span) is.keys.0 in let long = is.keys.2 in omega (arith, fewer, long)

  -- where a key comes next in the span, all keys of the chunk are in it
  all_inside : (next : List ℕ) → whole.next ≡ Some next → IsIn span next → length own_keys ≡ is.count
  unfolding own_keys
  all_inside next ends inside =
      whole_filter (is_in span) is.keys.0 (λ key there.
      let (row, stands, same) = (is.keys.1.1 key).0 there in
      let up_to = subst (IsUpTo span.left) same ((is.from.1 row).0 (in_front whole.rows is.rest row stands)).1 in
      let low = subst (λ k. IsBefore k next) same (subst (IsBeforeEnd row.key) ends (before row stands)) in
      in_is span key (up_to, before_inside key next span.right low inside.1))
      ∙ is.keys.2

  count_at : (next : Option (List ℕ)) → whole.next ≡ next → IfSome next (IsIn span) → EndsAt next most is.count whole.rows is.rest → AreMost rows span most next (length own_keys)
  count_at None ends inside stops = let few = under in omega (arith, few, stops.1)
  count_at (Some next) ends inside stops =
      let (row, there, same) = begun next is.rest stops.0 in
      ((row, ((is.from.1 row).0 (behind whole.rows is.rest row there)).0, same), inside, all_inside next ends inside ∙ stops.1)

  count_under : (next : Option (List ℕ)) → EndsAt next most is.count whole.rows is.rest → length own_keys ≤ most
  count_under None stops = let few = under in omega (arith, few, stops.1)
  count_under (Some next) stops = let few = under in omega (arith, few, stops.1)

  ends_by : IsNextIn span whole.next chunk.next → AreMost rows span most chunk.next (length own_keys)
  ends_by (inl (same, inside)) = subst (λ n. AreMost rows span most n (length own_keys)) (sym same) (count_at whole.next refl inside is.ends)
  ends_by (inr (key, same, outside, none)) = subst (λ n. AreMost rows span most n (length own_keys)) (sym none) (count_under whole.next is.ends)

  pub chosen_values : AreValuesAt rows span time most chunk
  chosen_values = record {
    in_order = chosen_order span time whole chunk order are;
    exactly = exactly;
    keys = own_keys;
    passed = (distinct, own_has);
    ends = ends_by are.next;
  }

pub values_by_part : (rows : List Row) (all span : Span) (from upto time most : ℕ) (whole chunk : Chunk) → IsChunk rows span.left most whole → AreChosen span time whole chunk
    → IsPart all from upto span.left whole → AreValuesAt rows span time most chunk
values_by_part rows all span from upto time most whole chunk is are part =
    chosen_values rows span time most whole chunk is are part.in_order part.onward (of_each (λ (row : Row). IsBeforeEnd row.key whole.next) whole.rows part.before_next)
