-- The three orders, and which of them serves which bound positions.
use Rattle.std.specs.Prelude.{◌≡◌, ℕ, Option, Some, None}
use Rattle.std.specs.declared.cmp.Ordering.{Ordering}
use Rattle.std.specs.Ordering.{nat_cmp, ordering_then}
use Rattle.triple_keys.specs.declared.order.Order.{Order}
use Rattle.triple_keys.specs.declared.order.Order.TheVariants.{Spo, Pos, Osp}
use Rattle.triple_keys.specs.declared.order.Bound.{Bound}
use Rattle.triple_keys.specs.declared.key.Ids.{Ids}

-- of the values of subject, predicate and object, the one that stands first in the order, the second and the third
abbrev pub first_of : {A : Type 0} → Order → A → A → A → A
first_of Spo subject predicate object = subject
first_of Pos subject predicate object = predicate
first_of Osp subject predicate object = object

abbrev pub second_of : {A : Type 0} → Order → A → A → A → A
second_of Spo subject predicate object = predicate
second_of Pos subject predicate object = object
second_of Osp subject predicate object = subject

abbrev pub third_of : {A : Type 0} → Order → A → A → A → A
third_of Spo subject predicate object = object
third_of Pos subject predicate object = subject
third_of Osp subject predicate object = predicate

-- Ids as they stand to each other in an order: by the first ids there, where these are one by the second, and so on.
abbrev pub ids_cmp : Order → Ids → Ids → Ordering
ids_cmp order one other =
    ordering_then (nat_cmp (first_of order one.subject one.predicate one.object) (first_of order other.subject other.predicate other.object))
    (ordering_then (nat_cmp (second_of order one.subject one.predicate one.object) (second_of order other.subject other.predicate other.object))
    (nat_cmp (third_of order one.subject one.predicate one.object) (third_of order other.subject other.predicate other.object)))

-- the table of the orders, by which of subject, predicate and object are bound
abbrev pub order_by : Option ℕ → Option ℕ → Option ℕ → Order
order_by None None None = Spo
order_by (Some subject) None None = Spo
order_by (Some subject) (Some predicate) None = Spo
order_by (Some subject) (Some predicate) (Some object) = Spo
order_by None (Some predicate) None = Pos
order_by None (Some predicate) (Some object) = Pos
order_by None None (Some object) = Osp
order_by (Some subject) None (Some object) = Osp

abbrev pub order_for : Bound → Order
order_for bound = order_by bound.subject bound.predicate bound.object

-- no bound position stands behind one that is not bound
abbrev pub StandFirst : Option ℕ → Option ℕ → Option ℕ → Type 0
StandFirst None None None = Unit {0}
StandFirst None None (Some third) = ⊥
StandFirst None (Some second) third = ⊥
StandFirst (Some first) None None = Unit {0}
StandFirst (Some first) None (Some third) = ⊥
StandFirst (Some first) (Some second) third = Unit {0}

-- in the order, the bound positions stand first
abbrev pub OrderServes : Order → Bound → Type 0
OrderServes order bound =
    StandFirst (first_of order bound.subject bound.predicate bound.object) (second_of order bound.subject bound.predicate bound.object)
    (third_of order bound.subject bound.predicate bound.object)

-- the id is the bound one, if one is bound
abbrev pub Agrees : Option ℕ → ℕ → Type 0
Agrees None id = Unit {0}
Agrees (Some bound) id = bound ≡ id

abbrev pub Agree : Bound → Ids → Type 0
Agree bound ids = Agrees bound.subject ids.subject × Agrees bound.predicate ids.predicate × Agrees bound.object ids.object
