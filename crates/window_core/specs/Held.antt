-- Private: what a window in memory holds is one thing, however it is shown.
use Rattle.std.specs.Prelude.{◌≡◌, ℕ, ◌<◌, List, [], ◌∷◌, Option, Some, None}
use Rattle.std.specs.Ordering.{is_lt}
use Rattle.std.specs.Cmp.Lexicographic.{nat_list_cmp_total}
use Rattle.std.proofs.Common.{sym, ap, subst, inl, inr}
use Rattle.std.proofs.lemmas.Cmp.{tied_itself}
use Rattle.std.specs.Coded.{×_prop, Unit-prop}
use Rattle.std.specs.List.{AllByRecursion-prop}
use Rattle.std.proofs.Props.{props}
use Rattle.fed_bytes.specs.declared.span.Span.{Span}
use Rattle.fed_bytes.specs.Keys.{IsBefore, IsBeforeEnd}
use Rattle.row_core.specs.declared.rows.Row.{Row}
use Rattle.row_core.specs.Rows.{ComesBefore, StandInOrder, IsWithin, AreWithin}
use Rattle.window_core.specs.Runs.{all_of, AreOlder, RunsRise, AreRuns}

IsBeforeEnd-prop : (key : List ℕ) (right : Option (List ℕ)) → IsProp (IsBeforeEnd key right)
IsBeforeEnd-prop key None = Unit-prop
IsBeforeEnd-prop key (Some right) = hlevel props

IsWithin-prop : (span : Span) (from upto : ℕ) (row : Row) → IsProp (IsWithin span from upto row)
IsWithin-prop span from upto row = hlevel (props, IsBeforeEnd-prop row.key span.right)

pub AreWithin-prop : (span : Span) (from upto : ℕ) (rows : List Row) → IsProp (AreWithin span from upto rows)
AreWithin-prop span from upto rows = AllByRecursion-prop (IsWithin span from upto) (IsWithin-prop span from upto) rows

-- ---- order
not_itself : (a : List ℕ) → IsBefore a a → ⊥
not_itself a h = let same = tied_itself nat_list_cmp_total a in let none = ap is_lt same in cc

ComesBefore-prop : (one other : Row) → IsProp (ComesBefore one other)
ComesBefore-prop one other (inl p) (inl q) = let before : IsProp (IsBefore one.key other.key) = hlevel props in ap inl (before p q)
ComesBefore-prop one other (inl p) (inr q) = absurd (not_itself one.key (subst (IsBefore one.key) (sym q.0) p))
ComesBefore-prop one other (inr p) (inl q) = absurd (not_itself one.key (subst (IsBefore one.key) (sym p.0) q))
ComesBefore-prop one other (inr p) (inr q) = let later : IsProp ((one.key ≡ other.key) × (other.time < one.time)) = hlevel props in ap inr (later p q)

pub StandInOrder-prop : (rows : List Row) → IsProp (StandInOrder rows)
StandInOrder-prop [] = Unit-prop
StandInOrder-prop (row ∷ rows) = ×_prop (AllByRecursion-prop (ComesBefore row) (ComesBefore-prop row) rows) (StandInOrder-prop rows)

AreOlder-prop : (rows others : List Row) → IsProp (AreOlder rows others)
AreOlder-prop rows others = AllByRecursion-prop _ (λ row. AllByRecursion-prop _ (λ other. hlevel props) others) rows

RunsRise-prop : (runs : List (List Row)) → IsProp (RunsRise runs)
RunsRise-prop [] = Unit-prop
RunsRise-prop (run ∷ runs) = ×_prop (AreOlder-prop run (all_of runs)) (RunsRise-prop runs)

pub AreRuns-prop : (runs : List (List Row)) → IsProp (AreRuns runs)
AreRuns-prop runs = ×_prop (AllByRecursion-prop StandInOrder StandInOrder-prop runs) (RunsRise-prop runs)
