-- Keys and ids tell each other, and what begins with the bytes of bound ids agrees with them.
use Rattle.std.proofs.Common.{◌≡◌, ◌↔◌, ◌<◌, ◌^◌, ℕ, List, [], ◌∷◌, ◌++◌, length, take, drop, refl, sym, ap, ◌∙◌, subst, arith, append_assoc, ◌-◌, length-drop}
use Rattle.std.proofs.lemmas.List.{take_all, take-append-drop, drop-drop}
use Rattle.std.specs.Prelude.{Option, Some, None, IfSome}
use Rattle.std.specs.Int.{w64, from_be_bytes}
use Rattle.std.proofs.lemmas.Nat.{from_be_bytes-to_be_bytes_8}
use Rattle.base_core.specs.Numbers.{number_bytes}
use Rattle.fed_bytes.specs.Keys.{AreBytes, BeginsWith}
use Rattle.triple_keys.specs.declared.order.Order.{Order}
use Rattle.triple_keys.specs.declared.order.Order.TheVariants.{Spo, Pos, Osp}
use Rattle.triple_keys.specs.declared.order.Bound.{Bound}
use Rattle.triple_keys.specs.declared.key.Ids.{Ids}
use Rattle.triple_keys.specs.Orders.{first_of, second_of, third_of, order_by, order_for, StandFirst, Agrees, Agree}
use Rattle.triple_keys.specs.Keys.{AreIds, key_bytes, ids_at, bound_bytes}

-- two numbers with the same bytes are the same
pub number_told : (n m : ℕ) → n < 2 ^ 64 → m < 2 ^ 64 → number_bytes n ≡ number_bytes m → n ≡ m
number_told n m small other same =
    sym (from_be_bytes-to_be_bytes_8 n small) ∙ ap (from_be_bytes w64) same ∙ from_be_bytes-to_be_bytes_8 m other

-- the first number, and what is behind it
first_number : (n m : ℕ) (xs ys : List ℕ) → number_bytes n ++ xs ≡ number_bytes m ++ ys → (number_bytes n ≡ number_bytes m) × (xs ≡ ys)
first_number n m xs ys same = (ap (take 8) same, ap (drop 8) same)

-- three numbers by their bytes
pub three_told : (a b c x y z : ℕ) → a < 2 ^ 64 → b < 2 ^ 64 → c < 2 ^ 64 → x < 2 ^ 64 → y < 2 ^ 64 → z < 2 ^ 64
    → number_bytes a ++ (number_bytes b ++ number_bytes c) ≡ number_bytes x ++ (number_bytes y ++ number_bytes z) → (a ≡ x) × (b ≡ y) × (c ≡ z)
three_told a b c x y z sa sb sc sx sy sz same =
    let one = first_number a x _ _ same in
    let two = first_number b y _ _ one.1 in
    (number_told a x sa sx one.0, number_told b y sb sy two.0, number_told c z sc sz two.1)

-- a key of 24 bytes in three parts
three_parts : (key : List ℕ) → length key ≡ 24 → key ≡ take 8 (drop 0 key) ++ (take 8 (drop 8 key) ++ take 8 (drop 16 key))
three_parts key long =
    let second : drop 8 key ≡ take 8 (drop 8 key) ++ drop 16 key = sym (take-append-drop 8 (drop 8 key)) ∙ ap (λ rest. take 8 (drop 8 key) ++ rest) (drop-drop 8 8 key) in
    let short : length (drop 16 key) ≡ 8 = length-drop 16 key ∙ ap (λ n. n - 16) long in
    let third : take 8 (drop 16 key) ≡ drop 16 key = take_all 8 (drop 16 key) (omega arith) in
    sym (take-append-drop 8 key) ∙ ap (λ rest. take 8 key ++ rest) (second ∙ ap (λ rest. take 8 (drop 8 key) ++ rest) (sym third))

-- the key of ids that stand so
key_bytes-at : (order : Order) (a b c : ℕ) → key_bytes order (ids_at order a b c) ≡ number_bytes a ++ (number_bytes b ++ number_bytes c)
key_bytes-at Spo a b c = refl
key_bytes-at Pos a b c = refl
key_bytes-at Osp a b c = refl

-- three parts of a key that spell numbers
pub spelled_ids : (order : Order) (key : List ℕ) (a b c : ℕ) (made : Ids) → length key ≡ 24
    → take 8 (drop 0 key) ≡ number_bytes a → take 8 (drop 8 key) ≡ number_bytes b → take 8 (drop 16 key) ≡ number_bytes c → made ≡ ids_at order a b c
    → key ≡ key_bytes order made
spelled_ids order key a b c made long one two three is =
    three_parts key long ∙ ap (λ x. x ++ (take 8 (drop 8 key) ++ take 8 (drop 16 key))) one
    ∙ ap (λ x. number_bytes a ++ (x ++ take 8 (drop 16 key))) two ∙ ap (λ x. number_bytes a ++ (number_bytes b ++ x)) three
    ∙ sym (key_bytes-at order a b c) ∙ ap (key_bytes order) (sym is)

-- ids as they stand in an order, put back
ids_at-of : (order : Order) (ids : Ids)
    → ids_at order (first_of order ids.subject ids.predicate ids.object) (second_of order ids.subject ids.predicate ids.object) (third_of order ids.subject ids.predicate ids.object) ≡ ids
ids_at-of Spo ids = refl
ids_at-of Pos ids = refl
ids_at-of Osp ids = refl

abbrev Small : ℕ → ℕ → ℕ → Type 0
Small a b c = (a < 2 ^ 64) × (b < 2 ^ 64) × (c < 2 ^ 64)

small_in_order : (order : Order) (ids : Ids) → AreIds ids
    → Small (first_of order ids.subject ids.predicate ids.object) (second_of order ids.subject ids.predicate ids.object) (third_of order ids.subject ids.predicate ids.object)
small_in_order Spo ids (s, p, o) = (s, p, o)
small_in_order Pos ids (s, p, o) = (p, o, s)
small_in_order Osp ids (s, p, o) = (o, s, p)

same_places : (order : Order) (a b c x y z : ℕ) → a ≡ x → b ≡ y → c ≡ z → ids_at order a b c ≡ ids_at order x y z
same_places order a b c x y z e f g = λ i. ids_at order (e i) (f i) (g i)

-- a key has no other ids than those that were read
pub told_ids : (order : Order) (key : List ℕ) (made : Ids) → AreIds made → key ≡ key_bytes order made → (ids : Ids) → AreIds ids → key ≡ key_bytes order ids → made ≡ ids
told_ids order key made fits spelled ids small again =
    let one = small_in_order order made fits in
    let other = small_in_order order ids small in
    let told = three_told _ _ _ _ _ _ one.0 one.1 one.2 other.0 other.1 other.2 (sym spelled ∙ again) in
    sym (ids_at-of order made) ∙ same_places order _ _ _ _ _ _ told.0 told.1 told.2 ∙ ids_at-of order ids

-- what begins with the bytes of a number
number_begins : (n x : ℕ) (p k : List ℕ) → n < 2 ^ 64 → x < 2 ^ 64 → BeginsWith (number_bytes n ++ p) (number_bytes x ++ k) → (n ≡ x) × BeginsWith p k
number_begins n x p k sn sx (rest, whole) = (number_told n x sn sx (sym (ap (take 8) whole)), (rest, ap (drop 8) whole))

begins_number : (n x : ℕ) (p k : List ℕ) → n ≡ x → BeginsWith p k → BeginsWith (number_bytes n ++ p) (number_bytes x ++ k)
begins_number n x p k e (rest, whole) = (rest, ap (λ m. number_bytes m ++ k) (sym e) ∙ ap (λ y. number_bytes n ++ y) whole)

last_agrees : (c : Option ℕ) (z : ℕ) → IfSome c (λ n. n < 2 ^ 64) → z < 2 ^ 64 → (BeginsWith (bound_bytes c) (number_bytes z) ↔ Agrees c z)
last_agrees None z sc sz = (λ h. tt, λ h. (number_bytes z, refl))
last_agrees (Some n) z sc sz = (λ h. (number_begins n z [] [] sc sz h).0, λ e. begins_number n z [] [] e ([], refl))

-- where the bound ones stand first, what begins with their bytes agrees with them
begins_agree : (a b c : Option ℕ) (x y z : ℕ) → StandFirst a b c
    → IfSome a (λ n. n < 2 ^ 64) → IfSome b (λ n. n < 2 ^ 64) → IfSome c (λ n. n < 2 ^ 64) → Small x y z
    → (BeginsWith (bound_bytes a ++ (bound_bytes b ++ bound_bytes c)) (number_bytes x ++ (number_bytes y ++ number_bytes z)) ↔ (Agrees a x × Agrees b y × Agrees c z))
begins_agree None None None x y z first sa sb sc (sx, sy, sz) = (λ h. (tt, tt, tt), λ h. (number_bytes x ++ (number_bytes y ++ number_bytes z), refl))
begins_agree None None (Some c) x y z first sa sb sc (sx, sy, sz) = absurd first
begins_agree None (Some b) c x y z first sa sb sc (sx, sy, sz) = absurd first
begins_agree (Some a) None None x y z first sa sb sc (sx, sy, sz) = (
  λ h. ((number_begins a x [] (number_bytes y ++ number_bytes z) sa sx h).0, tt, tt),
  λ h. begins_number a x [] (number_bytes y ++ number_bytes z) h.0 (number_bytes y ++ number_bytes z, refl),
)
begins_agree (Some a) None (Some c) x y z first sa sb sc (sx, sy, sz) = absurd first
begins_agree (Some a) (Some b) c x y z first sa sb sc (sx, sy, sz) = (
  λ h. let one = number_begins a x (number_bytes b ++ bound_bytes c) (number_bytes y ++ number_bytes z) sa sx h in
      let two = number_begins b y (bound_bytes c) (number_bytes z) sb sy one.1 in (one.0, two.0, (last_agrees c z sc sz).0 two.1),
  λ h. begins_number a x (number_bytes b ++ bound_bytes c) (number_bytes y ++ number_bytes z) h.0
      (begins_number b y (bound_bytes c) (number_bytes z) h.1 ((last_agrees c z sc sz).1 h.2)),
)

agree_in_order : (order : Order) (bound : Bound) (ids : Ids)
    → ((Agrees (first_of order bound.subject bound.predicate bound.object) (first_of order ids.subject ids.predicate ids.object)
    × Agrees (second_of order bound.subject bound.predicate bound.object) (second_of order ids.subject ids.predicate ids.object)
    × Agrees (third_of order bound.subject bound.predicate bound.object) (third_of order ids.subject ids.predicate ids.object)) ↔ Agree bound ids)
agree_in_order Spo bound ids = (λ h. h, λ h. h)
agree_in_order Pos bound ids = (λ h. (h.2, h.0, h.1), λ h. (h.1, h.2, h.0))
agree_in_order Osp bound ids = (λ h. (h.1, h.2, h.0), λ h. (h.2, h.0, h.1))

stand_first : (s p o : Option ℕ) → StandFirst (first_of (order_by s p o) s p o) (second_of (order_by s p o) s p o) (third_of (order_by s p o) s p o)
stand_first None None None = tt
stand_first None None (Some o) = tt
stand_first None (Some p) None = tt
stand_first None (Some p) (Some o) = tt
stand_first (Some s) None None = tt
stand_first (Some s) None (Some o) = tt
stand_first (Some s) (Some p) None = tt
stand_first (Some s) (Some p) (Some o) = tt

append_bytes : (xs ys : List ℕ) → AreBytes xs → AreBytes ys → AreBytes (xs ++ ys)
append_bytes [] ys hx hy = hy
append_bytes (x ∷ xs) ys hx hy = (hx.0, append_bytes xs ys hx.1 hy)

number_is_bytes : (n : ℕ) → AreBytes (number_bytes n)
number_is_bytes n = (omega arith, (omega arith, (omega arith, (omega arith, (omega arith, (omega arith, (omega arith, (omega arith, tt))))))))

key_is_bytes : (a b c : ℕ) → AreBytes (number_bytes a ++ (number_bytes b ++ number_bytes c))
key_is_bytes a b c = append_bytes (number_bytes a) (number_bytes b ++ number_bytes c) (number_is_bytes a) (append_bytes (number_bytes b) (number_bytes c) (number_is_bytes b) (number_is_bytes c))

both_ways : {A B C D : Type 0} → (A ↔ B) → (B ↔ C) → (C ↔ D) → (A ↔ D)
both_ways f g h = (λ a. h.0 (g.0 (f.0 a)), λ d. f.1 (g.1 (h.1 d)))

-- the keys in the span of these bytes are those of ids that agree
pub span_agrees : (order : Order) (bound : Bound) (a b c : Option ℕ) (prefix : List ℕ) (In : List ℕ → Type 0) → order ≡ order_for bound
    → a ≡ first_of order bound.subject bound.predicate bound.object → b ≡ second_of order bound.subject bound.predicate bound.object → c ≡ third_of order bound.subject bound.predicate bound.object
    → IfSome a (λ n. n < 2 ^ 64) → IfSome b (λ n. n < 2 ^ 64) → IfSome c (λ n. n < 2 ^ 64)
    → prefix ≡ (bound_bytes a ++ bound_bytes b) ++ bound_bytes c → ((key : List ℕ) → AreBytes key → (In key ↔ BeginsWith prefix key))
    → (ids : Ids) → AreIds ids → (In (key_bytes order ids) ↔ Agree bound ids)
span_agrees order bound a b c prefix In chosen fa fb fc sa sb sc made found ids small =
    let First : Order → Type 0 = λ o. StandFirst (first_of o bound.subject bound.predicate bound.object) (second_of o bound.subject bound.predicate bound.object) (third_of o bound.subject bound.predicate bound.object) in
    let first : First order = subst First (sym chosen) (stand_first bound.subject bound.predicate bound.object) in
    let stand : StandFirst a b c = rw (fa, fb, fc) first in
    let whole = made ∙ append_assoc (bound_bytes a) (bound_bytes b) (bound_bytes c) in
    let agree = begins_agree a b c _ _ _ stand sa sb sc (small_in_order order ids small) in
    both_ways (rw whole at found (key_bytes order ids) (key_is_bytes _ _ _)) agree (rw (fa, fb, fc) (agree_in_order order bound ids))

-- what two keys of one order share, they share in each order
parts_same : (order : Order) (one other : Ids) → key_bytes order one ≡ key_bytes order other
    → (number_bytes one.subject ≡ number_bytes other.subject) × (number_bytes one.predicate ≡ number_bytes other.predicate) × (number_bytes one.object ≡ number_bytes other.object)
parts_same Spo one other same =
    let a = first_number one.subject other.subject _ _ same in
    let b = first_number one.predicate other.predicate _ _ a.1 in (a.0, b.0, b.1)
parts_same Pos one other same =
    let a = first_number one.predicate other.predicate _ _ same in
    let b = first_number one.object other.object _ _ a.1 in (b.1, a.0, b.0)
parts_same Osp one other same =
    let a = first_number one.object other.object _ _ same in
    let b = first_number one.subject other.subject _ _ a.1 in (b.0, b.1, a.0)

same_parts : (order : Order) (one other : Ids) → number_bytes one.subject ≡ number_bytes other.subject → number_bytes one.predicate ≡ number_bytes other.predicate
    → number_bytes one.object ≡ number_bytes other.object → key_bytes order one ≡ key_bytes order other
same_parts Spo one other s p o = λ i. s i ++ (p i ++ o i)
same_parts Pos one other s p o = λ i. p i ++ (o i ++ s i)
same_parts Osp one other s p o = λ i. o i ++ (s i ++ p i)

pub key_bytes-turned : (order turned : Order) (one other : Ids) → key_bytes order one ≡ key_bytes order other → key_bytes turned one ≡ key_bytes turned other
key_bytes-turned order turned one other same = let parts = parts_same order one other same in same_parts turned one other parts.0 parts.1 parts.2
