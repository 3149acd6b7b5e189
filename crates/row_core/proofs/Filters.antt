-- Filters read as sets.
use Rattle.std.proofs.Common.{◌≡◌, List, [], ◌∷◌, Bool, true, false, cond, refl, sym, ap, ◌∙◌, inl, inr}
use Rattle.std.specs.List.{filter, AllByRecursion}
use Rattle.base_core.specs.Lists.{Has}
use Rattle.fed_bytes.proofs.Orders.{no_answer}
use Rattle.row_core.specs.declared.rows.Row.{Row}
use Rattle.row_core.specs.Rows.{ComesBefore, StandInOrder}
use Rattle.row_core.proofs.Lists.{of_each, each}

kept_by : {A : Type 0} (test : A → Bool) (b : Bool) (x : A) (xs : List A) (y : A) → test x ≡ b → (Has xs y → Has (filter test xs) y)
    → Has (x ∷ xs) y → test y ≡ true → Has (cond b (x ∷ filter test xs) (filter test xs)) y
kept_by test true x xs y is f (inl e) h = inl e
kept_by test true x xs y is f (inr there) h = inr (f there)
kept_by test false x xs y is f (inl e) h = no_answer (sym is ∙ ap test e ∙ h)
kept_by test false x xs y is f (inr there) h = f there

pub kept : {A : Type 0} (test : A → Bool) (xs : List A) (y : A) → Has xs y → test y ≡ true → Has (filter test xs) y
kept test [] y there h = absurd there
kept test (x ∷ xs) y there h = kept_by test (test x) x xs y refl (λ stands. kept test xs y stands h) there h

abbrev Passes : {A : Type 0} → (A → Bool) → List A → A → Type 0
Passes test xs y = Has xs y × (test y ≡ true)

passed_by : {A : Type 0} (test : A → Bool) (b : Bool) (x : A) (xs : List A) (y : A) → test x ≡ b → (Has (filter test xs) y → Passes test xs y)
    → Has (cond b (x ∷ filter test xs) (filter test xs)) y → Passes test (x ∷ xs) y
passed_by test true x xs y is f (inl e) = (inl e, sym (ap test e) ∙ is)
passed_by test true x xs y is f (inr there) = let h = f there in (inr h.0, h.1)
passed_by test false x xs y is f there = let h = f there in (inr h.0, h.1)

pub passes : {A : Type 0} (test : A → Bool) (xs : List A) (y : A) → Has (filter test xs) y → Passes test xs y
passes test [] y there = absurd there
passes test (x ∷ xs) y there = passed_by test (test x) x xs y refl (passes test xs y) there

order_by : (test : Row → Bool) (b : Bool) (row : Row) (rows : List Row) → AllByRecursion (ComesBefore row) rows → StandInOrder (filter test rows)
    → StandInOrder (cond b (row ∷ filter test rows) (filter test rows))
order_by test true row rows all h =
    (each (ComesBefore row) (filter test rows) (λ later there. of_each (ComesBefore row) rows all later (passes test rows later there).0), h)
order_by test false row rows all h = h

pub filter_in_order : (test : Row → Bool) (rows : List Row) → StandInOrder rows → StandInOrder (filter test rows)
filter_in_order test [] h = tt
filter_in_order test (row ∷ rows) h = order_by test (test row) row rows h.0 (filter_in_order test rows h.1)
