-- Rows put in order, and the rows that runs have together.
use Rattle.std.proofs.Common.{◌≡◌, ◌↔◌, ◌<◌, List, [], ◌∷◌, ◌++◌, refl, sym, ap, ◌∙◌, subst, arith, inl, inr, Ordering}
use Rattle.std.specs.declared.cmp.Ordering.TheVariants.{Less, Equal, Greater}
use Rattle.std.specs.Prelude.{◌⊎◌}
use Rattle.std.specs.List.{AllByRecursion}
use Rattle.std.specs.Ordering.{ordering_reverse, match_ordering}
use Rattle.base_core.specs.Lists.{Has}
use Rattle.row_core.specs.declared.rows.Row.{Row}
use Rattle.row_core.specs.Rows.{ComesBefore, StandInOrder, row_cmp}
use Rattle.window_core.specs.Runs.{put_in, arranged, all_of, merged, AreOlder, RunsRise, AreRuns}
use Rattle.row_core.proofs.Lists.{of_each, each, each_weaker, in_front, behind, in_one}
use Rattle.row_core.proofs.Order.{row_total, comes_before, less_of, tied, comes_before-chain, not_before_own, not_before_tied, compared}

-- ---- which rows
has_by : (o : Ordering) (row first other : Row) (rows rest : List Row) → (Has rest other → (row ≡ other) ⊎ Has rows other)
    → Has (match_ordering o (row ∷ first ∷ rows) (first ∷ rows) (first ∷ rest)) other → (row ≡ other) ⊎ Has (first ∷ rows) other
has_by Less row first other rows rest f h = h
has_by Equal row first other rows rest f h = inr h
has_by Greater row first other rows rest f (inl e) = inr (inl e)
has_by Greater row first other rows rest f (inr there) = elim (f there) [ inl e ↦ inl e | inr h ↦ inr (inr h) ]

put_in_has : (row other : Row) (rows : List Row) → Has (put_in row rows) other → (row ≡ other) ⊎ Has rows other
put_in_has row other [] h = h
put_in_has row other (first ∷ rows) h = has_by (row_cmp row first) row first other rows (put_in row rows) (put_in_has row other rows) h

pub arranged_has : (rows : List Row) (other : Row) → Has (arranged rows) other → Has rows other
arranged_has [] other h = h
arranged_has (row ∷ rows) other h = elim (put_in_has row other (arranged rows) h) [ inl e ↦ inl e | inr there ↦ inr (arranged_has rows other there) ]

-- ---- in order
later_by : (row first : Row) (rows rest : List Row) → row_cmp row first ≡ Greater → AllByRecursion (ComesBefore first) rows → ((other : Row) → Has rest other → (row ≡ other) ⊎ Has rows other)
    → (other : Row) → (row ≡ other) ⊎ Has rows other → ComesBefore first other
later_by row first rows rest is all f other (inl e) =
    subst (ComesBefore first) e (comes_before first row (row_total.antisymm first row ∙ ap ordering_reverse is))
later_by row first rows rest is all f other (inr there) = of_each (ComesBefore first) rows all other there

order_by : (o : Ordering) (row first : Row) (rows rest : List Row) → row_cmp row first ≡ o → StandInOrder (first ∷ rows) → StandInOrder rest
    → ((other : Row) → Has rest other → (row ≡ other) ⊎ Has rows other) → StandInOrder (match_ordering o (row ∷ first ∷ rows) (first ∷ rows) (first ∷ rest))
order_by Less row first rows rest is order after f =
    let before = comes_before row first is in
    ((before, each_weaker (ComesBefore first) (ComesBefore row) rows (λ later. comes_before-chain row first later before) order.0), order)
order_by Equal row first rows rest is order after f = order
order_by Greater row first rows rest is order after f = (each (ComesBefore first) rest (λ other there. later_by row first rows rest is order.0 f other (f other there)), after)

put_in_order : (row : Row) (rows : List Row) → StandInOrder rows → StandInOrder (put_in row rows)
put_in_order row [] order = (tt, tt)
put_in_order row (first ∷ rows) order =
    order_by (row_cmp row first) row first rows (put_in row rows) refl order (put_in_order row rows order.1) (λ other. put_in_has row other rows)

pub arranged_in_order : (rows : List Row) → StandInOrder (arranged rows)
arranged_in_order [] = tt
arranged_in_order (row ∷ rows) = put_in_order row (arranged rows) (arranged_in_order rows)

-- ---- no row is lost, where rows of one place are one
abbrev pub OneEach : List Row → Type 0
OneEach rows = (one other : Row) → Has rows one → Has rows other → one.key ≡ other.key → one.time ≡ other.time → one ≡ other

back_by : (o : Ordering) (row first other : Row) (rows rest : List Row) → row_cmp row first ≡ o → (row.key ≡ first.key → row.time ≡ first.time → row ≡ first)
    → ((row ≡ other) ⊎ Has rows other → Has rest other) → (row ≡ other) ⊎ ((first ≡ other) ⊎ Has rows other)
    → Has (match_ordering o (row ∷ first ∷ rows) (first ∷ rows) (first ∷ rest)) other
back_by Less row first other rows rest is one f h = h
back_by Equal row first other rows rest is one f (inl e) = let same = tied row first is in inl (sym (one same.0 same.1) ∙ e)
back_by Equal row first other rows rest is one f (inr there) = there
back_by Greater row first other rows rest is one f (inl e) = inr (f (inl e))
back_by Greater row first other rows rest is one f (inr (inl e)) = inl e
back_by Greater row first other rows rest is one f (inr (inr there)) = inr (f (inr there))

put_in_back : (row other : Row) (rows : List Row) → ((one : Row) → Has rows one → row.key ≡ one.key → row.time ≡ one.time → row ≡ one) → (row ≡ other) ⊎ Has rows other
    → Has (put_in row rows) other
put_in_back row other [] one h = h
put_in_back row other (first ∷ rows) one h =
    back_by (row_cmp row first) row first other rows (put_in row rows) refl (one first (inl refl)) (put_in_back row other rows (λ r there. one r (inr there))) h

pub arranged_back : (rows : List Row) → OneEach rows → (other : Row) → Has rows other → Has (arranged rows) other
arranged_back [] one other h = h
arranged_back (row ∷ rows) one other (inl e) = put_in_back row other (arranged rows) (λ r there. one row r (inl refl) (inr (arranged_has rows r there))) (inl e)
arranged_back (row ∷ rows) one other (inr h) =
    put_in_back row other (arranged rows) (λ r there. one row r (inl refl) (inr (arranged_has rows r there))) (inr (arranged_back rows (λ x y p q. one x y (inr p) (inr q)) other h))

-- ---- rows that stand in order stay so
put_first : (row : Row) (rows : List Row) → AllByRecursion (ComesBefore row) rows → put_in row rows ≡ row ∷ rows
put_first row [] all = refl
put_first row (first ∷ rows) all = ap (λ o. match_ordering o (row ∷ first ∷ rows) (first ∷ rows) (first ∷ put_in row rows)) (less_of row first all.0)

pub arranged_same : (rows : List Row) → StandInOrder rows → arranged rows ≡ rows
arranged_same [] order = refl
arranged_same (row ∷ rows) order = ap (put_in row) (arranged_same rows order.1) ∙ put_first row rows order.0

-- ---- two lists in order that have the same rows are one
first_same : (one other : Row) (rows others : List Row) → StandInOrder (one ∷ rows) → StandInOrder (other ∷ others) → (other ≡ one) ⊎ Has others one → (one ≡ other) ⊎ Has rows other → one ≡ other
first_same one other rows others p q (inl e) there = sym e
first_same one other rows others p q (inr h) (inl e) = e
first_same one other rows others p q (inr h) (inr there) =
    absurd (not_before_own one (comes_before-chain one other one (of_each (ComesBefore one) rows p.0 other there) (of_each (ComesBefore other) others q.0 one h)))

rest_by : (one other row : Row) (rows others : List Row) → one ≡ other → AllByRecursion (ComesBefore one) rows → Has rows row → (other ≡ row) ⊎ Has others row → Has others row
rest_by one other row rows others same all there (inl e) =
    absurd (not_before_own row (subst (λ r. ComesBefore r row) (same ∙ e) (of_each (ComesBefore one) rows all row there)))
rest_by one other row rows others same all there (inr h) = h

pub one_order : (rows others : List Row) → StandInOrder rows → StandInOrder others → ((row : Row) → (Has rows row ↔ Has others row)) → rows ≡ others
one_order [] [] p q f = refl
one_order [] (other ∷ others) p q f = absurd ((f other).1 (inl refl))
one_order (one ∷ rows) [] p q f = absurd ((f one).0 (inl refl))
one_order (one ∷ rows) (other ∷ others) p q f =
    let same = first_same one other rows others p q ((f one).0 (inl refl)) ((f other).1 (inl refl)) in
    let rest = one_order rows others p.1 q.1 (λ row. (
      λ there. rest_by one other row rows others same p.0 there ((f row).0 (inr there)),
      λ there. rest_by other one row others rows (sym same) q.0 there ((f row).1 (inr there)),
    )) in
    (λ i. same i ∷ rest i)

-- ---- runs
pub older_of : (rows others : List Row) → AreOlder rows others → (one other : Row) → Has rows one → Has others other → one.time < other.time
older_of rows others older one other there later =
    of_each (λ r. one.time < r.time) others (of_each (λ row. AllByRecursion (λ r. row.time < r.time) others) rows older one there) other later

pub are_older : (rows others : List Row) → ((one other : Row) → Has rows one → Has others other → one.time < other.time) → AreOlder rows others
are_older rows others f =
    each (λ row. AllByRecursion (λ r. row.time < r.time) others) rows (λ row there. each (λ r. row.time < r.time) others (λ r later. f row r there later))

one_by : (one other : Row) → one.key ≡ other.key → one.time ≡ other.time → (one ≡ other) ⊎ (ComesBefore one other ⊎ ComesBefore other one) → one ≡ other
one_by one other same at (inl e) = e
one_by one other same at (inr (inl p)) = absurd (not_before_tied one other p same at)
one_by one other same at (inr (inr p)) = absurd (not_before_tied other one p (sym same) (sym at))

one_in_run : (run : List Row) → StandInOrder run → OneEach run
one_in_run run order one other there again same at = one_by one other same at (compared run order one other there again)

both_by : (run rest : List Row) (one other : Row) → AreOlder run rest → OneEach run → OneEach rest → Has run one ⊎ Has rest one → Has run other ⊎ Has rest other
    → one.key ≡ other.key → one.time ≡ other.time → one ≡ other
both_by run rest one other older first second (inl p) (inl q) same at = first one other p q same at
both_by run rest one other older first second (inl p) (inr q) same at = let before = older_of run rest older one other p q in absurd (omega (arith, before, at))
both_by run rest one other older first second (inr p) (inl q) same at = let before = older_of run rest older other one q p in absurd (omega (arith, before, at))
both_by run rest one other older first second (inr p) (inr q) same at = second one other p q same at

pub one_in_runs : (runs : List (List Row)) → AreRuns runs → OneEach (all_of runs)
one_in_runs [] are one other there again same at = absurd there
one_in_runs (run ∷ runs) are one other there again same at =
    both_by run (all_of runs) one other are.1.0 (one_in_run run are.0.0) (one_in_runs runs (are.0.1, are.1.1)) (in_one run (all_of runs) one there) (in_one run (all_of runs) other again) same at

-- a window has the rows of all its runs
pub merged_has : (runs : List (List Row)) → AreRuns runs → (row : Row) → (Has (merged runs) row ↔ Has (all_of runs) row)
merged_has runs are row = (arranged_has (all_of runs) row, arranged_back (all_of runs) (one_in_runs runs are) row)

pub all_of-append : (runs others : List (List Row)) (row : Row) → (Has (all_of (runs ++ others)) row ↔ (Has (all_of runs) row ⊎ Has (all_of others) row))
all_of-append [] others row = (λ h. inr h, elim [ inl h ↦ absurd h | inr h ↦ h ])
all_of-append (run ∷ runs) others row = (
  λ h. elim (in_one run (all_of (runs ++ others)) row h) [
    | inl there ↦ inl (in_front run (all_of runs) row there)
    | inr there ↦ (elim ((all_of-append runs others row).0 there) [ inl p ↦ inl (behind run (all_of runs) row p) | inr p ↦ inr p ])
  ],
  elim [
    | inl h ↦ (elim (in_one run (all_of runs) row h) [
      | inl there ↦ in_front run (all_of (runs ++ others)) row there
      | inr there ↦ behind run (all_of (runs ++ others)) row ((all_of-append runs others row).1 (inl there))
    ])
    | inr h ↦ behind run (all_of (runs ++ others)) row ((all_of-append runs others row).1 (inr h))
  ],
)

pub all_of_one : (run : List Row) (row : Row) → (Has (all_of (run ∷ [])) row ↔ Has run row)
all_of_one run row = (λ h. elim (in_one run [] row h) [ inl there ↦ there | inr there ↦ absurd there ], λ there. in_front run [] row there)

older_by : (run : List Row) (runs others : List (List Row)) (one other : Row) → AreOlder run (all_of (runs ++ others)) → (Has (all_of runs) one → one.time < other.time)
    → Has (all_of others) other → Has run one ⊎ Has (all_of runs) one → one.time < other.time
older_by run runs others one other older f later (inl there) = older_of run (all_of (runs ++ others)) older one other there ((all_of-append runs others other).1 (inr later))
older_by run runs others one other older f later (inr there) = f there

-- rows of earlier runs are older than those of later ones
pub older_runs : (runs others : List (List Row)) → RunsRise (runs ++ others) → (one other : Row) → Has (all_of runs) one → Has (all_of others) other → one.time < other.time
older_runs [] others rise one other there later = absurd there
older_runs (run ∷ runs) others rise one other there later =
    older_by run runs others one other rise.0 (λ p. older_runs runs others rise.1 one other p later) later (in_one run (all_of runs) one there)
