-- The keys of rows in order, and those that a chunk of known rows has passed.
use Rattle.std.proofs.Common.{◌≡◌, ◌↔◌, ◌+◌, ◌≤◌, ℕ, List, [], ◌∷◌, ◌++◌, length, refl, sym, ap, ◌∙◌, subst, arith, inl, inr}
use Rattle.std.specs.Prelude.{◌⊎◌, Option, Some, None}
use Rattle.base_core.specs.Lists.{Has, AreDistinct}
use Rattle.fed_bytes.specs.declared.span.Span.{Span}
use Rattle.fed_bytes.specs.Keys.{IsBefore, IsUpTo, IsIn}
use Rattle.fed_bytes.proofs.Orders.{before_up_to}
use Rattle.row_core.specs.declared.rows.Row.{Row}
use Rattle.row_core.specs.declared.rows.Chunk.{Chunk}
use Rattle.row_core.specs.Rows.{ComesBefore, StandInOrder, IsWithin, AreWithin, HaveKeys, EndsAt, IsChunk, Rise}
use Rattle.window_core.specs.Windows.{ArePassed, IsPassage}
use Rattle.row_core.proofs.Lists.{of_each, each, in_front, behind, in_one}
use Rattle.row_core.proofs.Order.{not_before_itself, up_to_any_later}
use Rattle.window_core.proofs.Found.{next_follows, part_chunk}

abbrev pub Bears : List Row → List ℕ → Type 0
Bears rows key = (row : Row) × Has rows row × (row.key ≡ key)

-- the keys of the rows, in their order
pub record RisingKeys (rows : List Row) : Type 0 where
  pub keys : List (List ℕ)
  pub rise : Rise keys
  pub are : (key : List ℕ) → (Has keys key ↔ Bears rows key)

bears_first : (row : Row) (rows : List Row) (k : RisingKeys rows) (key : List ℕ) → Has (row.key ∷ k.keys) key → Bears (row ∷ rows) key
bears_first row rows k key (inl e) = (row, inl refl, e)
bears_first row rows k key (inr there) = let (one, stands, is) = (k.are key).0 there in (one, inr stands, is)

first_or_other : (row : Row) (rows : List Row) (k : RisingKeys rows) (key : List ℕ) (one : Row) → Has (row ∷ rows) one → one.key ≡ key → Has (row.key ∷ k.keys) key
first_or_other row rows k key one (inl e) is = inl (ap (λ r. r.key) e ∙ is)
first_or_other row rows k key one (inr there) is = inr ((k.are key).1 (one, there, is))

new_key : (row : Row) (rows : List Row) (k : RisingKeys rows) → ((one : Row) → Has rows one → IsBefore row.key one.key) → RisingKeys (row ∷ rows)
new_key row rows k before = record {
  keys = row.key ∷ k.keys;
  rise = (each (IsBefore row.key) k.keys (λ key there. let (one, stands, is) = (k.are key).0 there in subst (IsBefore row.key) is (before one stands)), k.rise);
  are = λ key. (bears_first row rows k key, λ (one, there, is). first_or_other row rows k key one there is);
}

own_or_other : (row next : Row) (rows : List Row) (k : RisingKeys (next ∷ rows)) → row.key ≡ next.key → (key : List ℕ) (one : Row) → Has (row ∷ next ∷ rows) one → one.key ≡ key
    → Has k.keys key
own_or_other row next rows k same key one (inl e) is = (k.are key).1 (next, inl refl, sym same ∙ ap (λ r. r.key) e ∙ is)
own_or_other row next rows k same key one (inr there) is = (k.are key).1 (one, there, is)

same_key : (row next : Row) (rows : List Row) → RisingKeys (next ∷ rows) → row.key ≡ next.key → RisingKeys (row ∷ next ∷ rows)
same_key row next rows k same = record {
  keys = k.keys;
  rise = k.rise;
  are = λ key. (λ there. let (one, stands, is) = (k.are key).0 there in (one, inr stands, is), λ (one, there, is). own_or_other row next rows k same key one there is);
}

one_more : (row next : Row) (rows : List Row) → StandInOrder (next ∷ rows) → ComesBefore row next → RisingKeys (next ∷ rows) → RisingKeys (row ∷ next ∷ rows)
one_more row next rows order (inl before) k = new_key row (next ∷ rows) k (λ one there. before_up_to row.key next.key one.key before (up_to_any_later next one rows order there))
one_more row next rows order (inr (same, later)) k = same_key row next rows k same

pub rising_keys : (rows : List Row) → StandInOrder rows → RisingKeys rows
rising_keys [] order = record { keys = []; rise = tt; are = λ key. (λ there. absurd there, λ (row, there, is). absurd there) }
rising_keys (row ∷ []) order = new_key row [] (rising_keys [] tt) (λ one there. absurd there)
rising_keys (row ∷ next ∷ rows) order = one_more row next rows order.1 order.0.0 (rising_keys (next ∷ rows) order.1)

pub rise_distinct : (keys : List (List ℕ)) → Rise keys → AreDistinct keys
rise_distinct [] rise = tt
rise_distinct (key ∷ keys) rise = (λ there. not_before_itself key (of_each (IsBefore key) keys rise.0 key there), rise_distinct keys rise.1)

-- ---- lists of the same elements, each once, are of one length
Parts : {A : Type 0} → List A → A → Type 0
Parts {A} xs y = (front : List A) × (back : List A) × (xs ≡ front ++ y ∷ back)

onto_parts : {A : Type 0} (x : A) (xs : List A) (y : A) → Parts xs y → Parts (x ∷ xs) y
unfolding Parts
onto_parts x xs y (front, back, whole) = (x ∷ front, back, ap (λ list. x ∷ list) whole)

parts_at : {A : Type 0} (xs : List A) (y : A) → Has xs y → Parts xs y
unfolding Parts
parts_at [] y there = absurd there
parts_at (x ∷ xs) y (inl e) = ([], xs, ap (λ z. z ∷ xs) e)
parts_at (x ∷ xs) y (inr there) = onto_parts x xs y (parts_at xs y there)

without_by : {A : Type 0} (front back : List A) (x y : A) → Has front y ⊎ Has (x ∷ back) y → (x ≡ y → ⊥) → Has (front ++ back) y
without_by front back x y (inl there) apart = in_front front back y there
without_by front back x y (inr (inl e)) apart = absurd (apart e)
without_by front back x y (inr (inr there)) apart = behind front back y there

longer : {A : Type 0} (front back : List A) (x : A) → length (front ++ x ∷ back) ≡ length (front ++ back) + 1
longer [] back x = omega arith
longer (y ∷ front) back x = let rest = longer front back x in omega (arith, rest)

fits_by : {A : Type 0} (x : A) (xs ys : List A) → AreDistinct (x ∷ xs) → ((z : A) → Has (x ∷ xs) z → Has ys z) → Parts ys x
    → ((zs : List A) → ((z : A) → Has xs z → Has zs z) → length xs ≤ length zs) → length (x ∷ xs) ≤ length ys
unfolding Parts
fits_by {A} x xs ys distinct f (front, back, whole) shorter =
    let Stands : A → List A → Type 0 = λ y list. Has list y in
    let rest = shorter (front ++ back)
    (λ y there. without_by front back x y (in_one front (x ∷ back) y (subst (Stands y) whole (f y (inr there)))) (λ e. distinct.0 (subst (Has xs) (sym e) there))) in
    subst (λ list. length (x ∷ xs) ≤ length list) (sym whole) (let more = longer front back x in omega (arith, rest, more))

fits : {A : Type 0} (xs ys : List A) → AreDistinct xs → ((x : A) → Has xs x → Has ys x) → length xs ≤ length ys
fits [] ys distinct f = omega arith
fits (x ∷ xs) ys distinct f = fits_by x xs ys distinct f (parts_at ys x (f x (inl refl))) (λ zs among. fits xs zs distinct.1 among)

pub keys_count : (rows : List Row) (count : ℕ) (k : RisingKeys rows) → HaveKeys rows count → length k.keys ≡ count
keys_count rows count k (keys, are, long) =
    let up = fits k.keys keys (rise_distinct k.keys k.rise) (λ key there. (are.1 key).1 ((k.are key).0 there)) in
    let down = fits keys k.keys are.0 (λ key there. (k.are key).1 ((are.1 key).0 there)) in
    omega arith

-- ---- what a chunk has passed
passed_by : (rows : List Row) (span : Span) (key : List ℕ) (most count : ℕ) (found rest : List Row) (k : RisingKeys found) → length k.keys ≡ count → (next : Option (List ℕ))
    → EndsAt next most count found rest → StandInOrder (found ++ rest) → ArePassed most k.keys next
passed_by rows span key most count found rest k long None ends order = omega (arith, ends.1)
passed_by rows span key most count found rest k long (Some next) ends order = (
  long ∙ ends.1,
  each (λ passed. IsBefore passed next) k.keys
      (λ passed there. let (one, stands, is) = (k.are passed).0 there in subst (λ p. IsBefore p next) is (next_follows found rest next most count one ends order stands)),
)

pub passage_chunk : (rows : List Row) (span : Span) (from upto : ℕ) (key : List ℕ) (most : ℕ) → 1 ≤ most → AreWithin span from upto rows
    → (chunk : Chunk) → IsChunk rows key most chunk → IsPassage span key most chunk
passage_chunk rows span from upto key most some within chunk is =
    let part = part_chunk rows span from upto key most some within chunk is in
    let k = rising_keys chunk.rows part.in_order in
    record {
      keys = k.keys;
      rise = k.rise;
      from_key = each (IsUpTo key) k.keys
          (λ passed there. let (one, stands, same) = (k.are passed).0 there in subst (IsUpTo key) same (of_each (λ row. IsUpTo key row.key) chunk.rows part.from_key one stands));
      within = each (IsIn span) k.keys
          (λ passed there. let (one, stands, same) = (k.are passed).0 there in subst (IsIn span) same (of_each (IsWithin span from upto) chunk.rows part.within one stands).key);
      rows = each (λ row. Has k.keys row.key) chunk.rows (λ row there. (k.are row.key).1 (row, there, refl));
      passed = passed_by rows span key most is.count chunk.rows is.rest k (keys_count chunk.rows is.count k is.keys) chunk.next is.ends is.from.0;
    }
