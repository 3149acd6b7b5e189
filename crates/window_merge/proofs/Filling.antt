-- Keys that rise, filled up to a number by others.
use Rattle.std.proofs.Common.{◌≡◌, ◌+◌, ◌<◌, ◌≤◌, ℕ, zero, suc, List, [], ◌∷◌, length, refl, sym, ap, ◌∙◌, subst, arith, inl, inr, Ordering}
use Rattle.std.specs.declared.cmp.Ordering.TheVariants.{Less, Equal, Greater}
use Rattle.std.specs.Prelude.{◌⊎◌}
use Rattle.std.specs.List.{AllByRecursion}
use Rattle.std.specs.Ordering.{is_lt, nat_cmp, ordering_reverse}
use Rattle.std.specs.Cmp.Lexicographic.{slice_cmp, nat_list_cmp_total}
use Rattle.std.proofs.lemmas.Bool.{cases_lt}
use Rattle.base_core.specs.Lists.{Has}
use Rattle.fed_bytes.specs.Keys.{IsBefore}
use Rattle.fed_bytes.proofs.Orders.{before_up_to}
use Rattle.row_core.specs.Rows.{Rise}
use Rattle.row_core.proofs.Lists.{of_each, each}
use Rattle.row_core.proofs.Order.{before_is_up_to, one_key}

-- all of the keys, and as many of the others as it takes
pub record IsFilled (keys others : List (List ℕ)) (most : ℕ) (filled : List (List ℕ)) : Type 0 where
  pub rise : Rise filled
  pub has : (key : List ℕ) → Has keys key → Has filled key
  pub from : (key : List ℕ) → Has filled key → Has keys key ⊎ Has others key
  pub long : length filled ≡ most

abbrev pub HasFilled : List (List ℕ) → List (List ℕ) → ℕ → Type 0
HasFilled keys others most = (filled : List (List ℕ)) × IsFilled keys others most filled

rise_onto : (first : List ℕ) (keys others filled : List (List ℕ)) (most : ℕ) → IsFilled keys others most filled → AllByRecursion (IsBefore first) keys → AllByRecursion (IsBefore first) others
    → Rise (first ∷ filled)
rise_onto first keys others filled most is before behind = (
  each (IsBefore first) filled (λ key there. elim (is.from key there) [ inl h ↦ of_each (IsBefore first) keys before key h | inr h ↦ of_each (IsBefore first) others behind key h ]),
  is.rise,
)

-- ---- one key more
own_first : (key : List ℕ) (keys others rest : List (List ℕ)) (most : ℕ) → AllByRecursion (IsBefore key) keys → AllByRecursion (IsBefore key) others → ((k : List ℕ) → Has others k → Has rest k)
    → HasFilled keys others most → HasFilled (key ∷ keys) rest (suc most)
own_first key keys others rest most before behind among (filled, is) = (
  key ∷ filled,
  record {
    rise = rise_onto key keys others filled most is before behind;
    has = λ k. elim [ inl e ↦ inl e | inr there ↦ inr (is.has k there) ];
    from = λ k. elim [ inl e ↦ inl (inl e) | inr there ↦ (elim (is.from k there) [ inl h ↦ inl (inr h) | inr h ↦ inr (among k h) ]) ];
    long = ap suc is.long;
  },
)

other_first : (other : List ℕ) (keys others : List (List ℕ)) (most : ℕ) → AllByRecursion (IsBefore other) keys → AllByRecursion (IsBefore other) others
    → HasFilled keys others most → HasFilled keys (other ∷ others) (suc most)
other_first other keys others most before behind (filled, is) = (
  other ∷ filled,
  record {
    rise = rise_onto other keys others filled most is before behind;
    has = λ k there. inr (is.has k there);
    from = λ k. elim [ inl e ↦ inr (inl e) | inr there ↦ (elim (is.from k there) [ inl h ↦ inl h | inr h ↦ inr (inr h) ]) ];
    long = ap suc is.long;
  },
)

enough : (keys others : List (List ℕ)) (most : ℕ) → Rise keys → length keys ≡ most → HasFilled keys others most
enough keys others most rise long = (keys, record { rise = rise; has = λ k there. there; from = λ k there. inl there; long = long })

front_filled : (others : List (List ℕ)) (most : ℕ) → Rise others → most ≤ length others → HasFilled [] others most
front_filled others zero rise h = ([], record { rise = tt; has = λ k there. there; from = λ k there. inl there; long = refl })
front_filled [] (suc most) rise h = absurd (omega arith)
front_filled (other ∷ others) (suc most) rise h = other_first other [] others most tt rise.0 (front_filled others most rise.1 (omega arith))

-- ---- by the first keys of both
behind_all : (key other : List ℕ) (others : List (List ℕ)) → IsBefore key other → AllByRecursion (IsBefore other) others → AllByRecursion (IsBefore key) (other ∷ others)
behind_all key other others before rise =
    (before, each (IsBefore key) others (λ k there. before_up_to key other k before (before_is_up_to other k (of_each (IsBefore other) others rise k there))))

abbrev Fills : List (List ℕ) → List (List ℕ) → ℕ → Type 0
Fills keys others fuel = (most : ℕ) → length keys + length others ≤ fuel → Rise keys → Rise others → length keys ≤ most → most ≤ length others → HasFilled keys others most

filled_more : (key other : List ℕ) (keys others : List (List ℕ)) (most fuel : ℕ) → Rise (key ∷ keys) → Rise (other ∷ others) → IsBefore other key → suc most ≤ suc (length others)
    → length keys + suc (length others) ≤ fuel → Fills (key ∷ keys) others fuel → (length (key ∷ keys) < suc most) ⊎ (suc most ≤ length (key ∷ keys)) → length (key ∷ keys) ≤ suc most
    → HasFilled (key ∷ keys) (other ∷ others) (suc most)
filled_more key other keys others most fuel rise also before high room again (inl less) under =
    other_first other (key ∷ keys) others most (behind_all other key keys before rise.0) also.0 (again most (omega arith) rise also.1 (omega (arith, less)) (omega (arith, high)))
filled_more key other keys others most fuel rise also before high room again (inr all) under =
    enough (key ∷ keys) (other ∷ others) (suc most) rise (omega (arith, all, under))

filled_by : (o : Ordering) (key other : List ℕ) (keys others : List (List ℕ)) (most fuel : ℕ) → slice_cmp nat_cmp key other ≡ o → Rise (key ∷ keys) → Rise (other ∷ others)
    → length (key ∷ keys) ≤ suc most → suc most ≤ length (other ∷ others) → length keys + suc (length others) ≤ fuel
    → Fills keys (other ∷ others) fuel → Fills keys others fuel → Fills (key ∷ keys) others fuel → HasFilled (key ∷ keys) (other ∷ others) (suc most)
filled_by Less key other keys others most fuel e rise also low high room one both more =
    own_first key keys (other ∷ others) (other ∷ others) most rise.0 (behind_all key other others (ap is_lt e) also.0) (λ k there. there)
    (one most (omega arith) rise.1 also (omega (arith, low)) (omega (arith, high)))
filled_by Equal key other keys others most fuel e rise also low high room one both more =
    own_first key keys others (other ∷ others) most rise.0 (subst (λ k. AllByRecursion (IsBefore k) others) (sym (one_key key other e)) also.0) (λ k there. inr there)
    (both most (omega arith) rise.1 also.1 (omega (arith, low)) (omega (arith, high)))
filled_by Greater key other keys others most fuel e rise also low high room one both more =
    filled_more key other keys others most fuel rise also (ap is_lt (nat_list_cmp_total.antisymm other key ∙ ap ordering_reverse e)) high room more (cases_lt (length (key ∷ keys)) (suc most)) low

fill : (fuel : ℕ) (keys others : List (List ℕ)) → Fills keys others fuel
fill fuel [] others most room rise also low high = front_filled others most also high
fill fuel (key ∷ keys) [] most room rise also low high = absurd (omega (arith, low, high))
fill zero (key ∷ keys) (other ∷ others) most room rise also low high = absurd (omega (arith, room))
fill (suc fuel) (key ∷ keys) (other ∷ others) zero room rise also low high = absurd (omega (arith, low))
fill (suc fuel) (key ∷ keys) (other ∷ others) (suc most) room rise also low high =
    filled_by (slice_cmp nat_cmp key other) key other keys others most fuel refl rise also low high (omega (arith, room))
    (fill fuel keys (other ∷ others)) (fill fuel keys others) (fill fuel (key ∷ keys) others)

pub some_filled : (keys others : List (List ℕ)) (most : ℕ) → Rise keys → Rise others → length keys ≤ most → most ≤ length others → HasFilled keys others most
some_filled keys others most rise also low high = fill (length keys + length others) keys others most (omega arith) rise also low high
