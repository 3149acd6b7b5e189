-- Keys of numbers stand as the numbers do.
use Rattle.std.proofs.Common.{◌≡◌, ℕ, zero, suc, ◌/◌, ◌%◌, ◌<◌, ◌^◌, List, [], ◌∷◌, ◌++◌, length, refl, sym, ap, ◌∙◌, arith, inl, inr}
use Rattle.std.specs.declared.cmp.Ordering.{Ordering}
use Rattle.std.specs.declared.cmp.Ordering.TheVariants.{Less, Equal, Greater}
use Rattle.std.specs.Ordering.{nat_cmp, ordering_then, MatchOrdering}
use Rattle.std.specs.Cmp.{ranks, nat_cmp_is}
use Rattle.std.specs.Cmp.Lexicographic.{slice_cmp}
use Rattle.std.specs.Int.{byte_at, bytes_high_first}
use Rattle.std.proofs.Math.Nat.{div-one, div-mul-le_self, pow-suc, div-div-eq-div-mul}
use Rattle.std.proofs.lemmas.Nat.{le-div}
use Rattle.std.proofs.lemmas.Bool.{cases_lt}
use Rattle.base_core.specs.Numbers.{number_bytes}
use Rattle.triple_keys.specs.declared.order.Order.{Order}
use Rattle.triple_keys.specs.declared.order.Order.TheVariants.{Spo, Pos, Osp}
use Rattle.triple_keys.specs.declared.key.Ids.{Ids}
use Rattle.triple_keys.specs.Orders.{ids_cmp}
use Rattle.triple_keys.specs.Keys.{AreIds, key_bytes}

-- one comparison after another
then_then : (a b c : Ordering) → ordering_then (ordering_then a b) c ≡ ordering_then a (ordering_then b c)
then_then Less b c = refl
then_then Equal b c = refl
then_then Greater b c = refl

-- lists of one length decide before what stands behind them
front_decides : (xs ys front back : List ℕ) → length xs ≡ length ys → slice_cmp nat_cmp (xs ++ front) (ys ++ back) ≡ ordering_then (slice_cmp nat_cmp xs ys) (slice_cmp nat_cmp front back)
front_decides [] [] front back long = refl
front_decides [] (y ∷ ys) front back long = absurd (omega arith)
front_decides (x ∷ xs) [] front back long = absurd (omega arith)
front_decides (x ∷ xs) (y ∷ ys) front back long =
    ap (ordering_then (nat_cmp x y)) (front_decides xs ys front back (omega arith)) ∙ sym (then_then (nat_cmp x y) (slice_cmp nat_cmp xs ys) (slice_cmp nat_cmp front back))

byte_is : (k n : ℕ) → byte_at k n ≡ n / 256 ^ k % 256
byte_is zero n = ap (λ m. m % 256) (sym (div-one n))
byte_is (suc k) n = refl

-- the number with the smaller quotient is the smaller one
quotient_below : (n m b : ℕ) → 0 < b → n / b < m / b → n < m
quotient_below n m b pos less =
    elim (cases_lt n m) [
      | inl below ↦ below
      | inr past ↦ let low = div-mul-le_self m b in let up = le-div (m / b) n b pos (omega arith) in absurd (omega arith)
    ]

-- one more byte of two numbers, whose bytes before it are the same
next_byte : (r : Ordering) (x y q p n m b : ℕ) (rest : Ordering) → MatchOrdering r (x < y) (x ≡ y) (y < x)
    → x ≡ q % 256 → y ≡ p % 256 → q / 256 ≡ p / 256 → q ≡ n / b → p ≡ m / b → 0 < b → (n / b ≡ m / b → rest ≡ nat_cmp n m)
    → ordering_then r rest ≡ nat_cmp n m
next_byte Less x y q p n m b rest is ex ey same eq ep pos next = nat_cmp_is n m Less (quotient_below n m b pos (omega arith))
next_byte Equal x y q p n m b rest is ex ey same eq ep pos next = next (omega arith)
next_byte Greater x y q p n m b rest is ex ey same eq ep pos next = nat_cmp_is n m Greater (quotient_below m n b pos (omega arith))

positive : (k : ℕ) → 0 < 256 ^ k
positive zero = omega arith
positive (suc k) = omega (arith, pow-suc 256 k, positive k)

-- the low bytes of two numbers, whose higher ones are the same
low_bytes_cmp : (k n m : ℕ) → n / 256 ^ k ≡ m / 256 ^ k → slice_cmp nat_cmp (bytes_high_first k n) (bytes_high_first k m) ≡ nat_cmp n m
low_bytes_cmp zero n m same = nat_cmp_is n m Equal (sym (div-one n) ∙ same ∙ div-one m)
low_bytes_cmp (suc k) n m same =
    let higher : (a : ℕ) → a / 256 ^ suc k ≡ a / 256 ^ k / 256 = λ a. ap (λ d. a / d) (pow-suc 256 k) ∙ sym (div-div-eq-div-mul a (256 ^ k) 256) in
    next_byte (nat_cmp (byte_at k n) (byte_at k m)) (byte_at k n) (byte_at k m) (n / 256 ^ k) (m / 256 ^ k) n m (256 ^ k) _ (ranks (byte_at k n) (byte_at k m))
    (byte_is k n) (byte_is k m) (sym (higher n) ∙ same ∙ higher m) refl refl (positive k) (low_bytes_cmp k n m)

-- numbers stand as their bytes
pub number_bytes-cmp : (n m : ℕ) → n < 2 ^ 64 → m < 2 ^ 64 → slice_cmp nat_cmp (number_bytes n) (number_bytes m) ≡ nat_cmp n m
number_bytes-cmp n m small other = low_bytes_cmp 8 n m (omega arith)

three_cmp : (a b c x y z : ℕ) → a < 2 ^ 64 → b < 2 ^ 64 → c < 2 ^ 64 → x < 2 ^ 64 → y < 2 ^ 64 → z < 2 ^ 64
    → slice_cmp nat_cmp (number_bytes a ++ (number_bytes b ++ number_bytes c)) (number_bytes x ++ (number_bytes y ++ number_bytes z))
    ≡ ordering_then (nat_cmp a x) (ordering_then (nat_cmp b y) (nat_cmp c z))
three_cmp a b c x y z sa sb sc sx sy sz =
    front_decides (number_bytes a) (number_bytes x) (number_bytes b ++ number_bytes c) (number_bytes y ++ number_bytes z) refl
    ∙ (λ i. ordering_then (number_bytes-cmp a x sa sx i)
    ((front_decides (number_bytes b) (number_bytes y) (number_bytes c) (number_bytes z) refl ∙ (λ j. ordering_then (number_bytes-cmp b y sb sy j) (number_bytes-cmp c z sc sz j))) i))

-- keys stand as their ids
pub key_bytes-cmp : (order : Order) (one other : Ids) → AreIds one → AreIds other → slice_cmp nat_cmp (key_bytes order one) (key_bytes order other) ≡ ids_cmp order one other
key_bytes-cmp Spo one other are also = three_cmp one.subject one.predicate one.object other.subject other.predicate other.object are.0 are.1 are.2 also.0 also.1 also.2
key_bytes-cmp Pos one other are also = three_cmp one.predicate one.object one.subject other.predicate other.object other.subject are.1 are.2 are.0 also.1 also.2 also.0
key_bytes-cmp Osp one other are also = three_cmp one.object one.subject one.predicate other.object other.subject other.predicate are.2 are.0 are.1 also.2 also.0 also.1
