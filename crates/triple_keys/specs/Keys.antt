-- The keys of the three indexes of statements.
use Rattle.std.specs.Prelude.{◌<◌, ◌↔◌, ◌^◌, ℕ, List, [], ◌++◌, Option, Some, None}
use Rattle.fed_bytes.specs.declared.span.Span.{Span}
use Rattle.fed_bytes.specs.Keys.{IsIn}
use Rattle.base_core.specs.Numbers.{number_bytes}
use Rattle.triple_keys.specs.declared.order.Order.{Order}
use Rattle.triple_keys.specs.declared.order.Order.TheVariants.{Spo, Pos, Osp}
use Rattle.triple_keys.specs.declared.order.Bound.{Bound}
use Rattle.triple_keys.specs.declared.key.Ids.{Ids}
use Rattle.triple_keys.specs.Orders.{first_of, second_of, third_of, Agree}

abbrev pub AreIds : Ids → Type 0
AreIds ids = (ids.subject < 2 ^ 64) × (ids.predicate < 2 ^ 64) × (ids.object < 2 ^ 64)

-- the key of the ids: each in eight bytes, as they stand in the order
abbrev pub key_bytes : Order → Ids → List ℕ
key_bytes order ids =
    number_bytes (first_of order ids.subject ids.predicate ids.object)
    ++ (number_bytes (second_of order ids.subject ids.predicate ids.object) ++ number_bytes (third_of order ids.subject ids.predicate ids.object))

-- the ids that stand first, second and third in the order
abbrev pub ids_at : Order → ℕ → ℕ → ℕ → Ids
ids_at Spo first second third = record { subject = first; predicate = second; object = third }
ids_at Pos first second third = record { subject = third; predicate = first; object = second }
ids_at Osp first second third = record { subject = second; predicate = third; object = first }

-- the bytes of a bound id
abbrev pub bound_bytes : Option ℕ → List ℕ
bound_bytes None = []
bound_bytes (Some id) = number_bytes id

-- the keys of ids in the span are those whose ids agree with the bound ones
abbrev pub IsBoundSpan : Order → Bound → Span → Type 0
IsBoundSpan order bound span = (ids : Ids) → AreIds ids → (IsIn span (key_bytes order ids) ↔ Agree bound ids)
