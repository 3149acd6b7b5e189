-- The order of keys, and the ends of two spans.
use Rattle.std.proofs.Common.{◌≡◌, ◌↔◌, ℕ, List, Bool, true, false, not, refl, sym, ap, ◌∙◌, subst, Ordering}
use Rattle.std.specs.declared.cmp.Ordering.TheVariants.{Less, Equal, Greater}
use Rattle.std.specs.Prelude.{Option, Some, None, if◌then◌else◌}
use Rattle.std.specs.Ordering.{is_lt, is_le, is_gt, nat_cmp, ordering_reverse}
use Rattle.std.specs.Cmp.Lexicographic.{slice_cmp, nat_list_cmp_total}
use Rattle.std.proofs.lemmas.Cmp.{upto, tied_itself}
use Rattle.fed_bytes.specs.Keys.{IsBefore, IsUpTo, IsBeforeEnd}
use Rattle.fed_bytes.specs.Ends.{later, earlier_end}

-- a test that fails doesn't pass
pub no_answer : {A : Type 0} → false ≡ true → A
no_answer e = cc

not_greater : (r : Ordering) → is_le r ≡ true → is_gt r ≡ false
not_greater Less e = refl
not_greater Equal e = refl
not_greater Greater e = no_answer e

not_greater_is : (r : Ordering) → is_gt r ≡ false → is_le r ≡ true
not_greater_is Less e = refl
not_greater_is Equal e = refl
not_greater_is Greater e = no_answer (sym e)

reversed : (r : Ordering) → is_lt (ordering_reverse r) ≡ not (is_le r)
reversed Less = refl
reversed Equal = refl
reversed Greater = refl

-- one key stands before another exactly where the other doesn't stand up to it
pub turned : (a b : List ℕ) → is_lt (slice_cmp nat_cmp a b) ≡ not (is_le (slice_cmp nat_cmp b a))
turned a b = ap is_lt (nat_list_cmp_total.antisymm a b) ∙ reversed (slice_cmp nat_cmp b a)

pub up_to-itself : (a : List ℕ) → IsUpTo a a
up_to-itself a = ap is_le (tied_itself nat_list_cmp_total a)

pub up_to-chain : (a b c : List ℕ) → IsUpTo a b → IsUpTo b c → IsUpTo a c
up_to-chain a b c p q = not_greater_is _ (upto nat_list_cmp_total a b c (not_greater _ p) (not_greater _ q))

-- a test that fails the other way round
before_unless : (s t : Bool) → s ≡ not t → (t ≡ true → ⊥) → s ≡ true
before_unless s true e f = absurd (f refl)
before_unless s false e f = e

not_both : (s t : Bool) → s ≡ not t → s ≡ true → t ≡ true → ⊥
not_both s t e p q = cc

before_from : (a b : List ℕ) → (IsUpTo b a → ⊥) → IsBefore a b
before_from a b f = before_unless _ _ (turned a b) f

before_not : (a b : List ℕ) → IsBefore a b → IsUpTo b a → ⊥
before_not a b p q = not_both _ _ (turned a b) p q

pub up_to_before : (a b c : List ℕ) → IsUpTo a b → IsBefore b c → IsBefore a c
up_to_before a b c p q = before_from a c (λ r. before_not b c q (up_to-chain c a b r p))

pub before_up_to : (a b c : List ℕ) → IsBefore a b → IsUpTo b c → IsBefore a c
before_up_to a b c p q = before_from a c (λ r. before_not a b p (up_to-chain b c a q r))

-- an earlier key stands before the end too
pub up_to_end : (a b : List ℕ) (right : Option (List ℕ)) → IsUpTo a b → IsBeforeEnd b right → IsBeforeEnd a right
up_to_end a b None p q = tt
up_to_end a b (Some right) p q = up_to_before a b right p q

at_most_reversed : (r : Ordering) → is_le r ≡ false → is_le (ordering_reverse r) ≡ true
at_most_reversed Less e = no_answer (sym e)
at_most_reversed Equal e = no_answer (sym e)
at_most_reversed Greater e = refl

-- of two keys one stands up to the other
one_of : (a b : List ℕ) → is_le (slice_cmp nat_cmp a b) ≡ false → IsUpTo b a
one_of a b e = ap is_le (nat_list_cmp_total.antisymm b a) ∙ at_most_reversed _ e

later_by : (t : Bool) (a b key : List ℕ) → is_le (slice_cmp nat_cmp a b) ≡ t
    → (IsUpTo (if t then b else a) key ↔ (IsUpTo a key × IsUpTo b key))
later_by true a b key e = (λ p. (up_to-chain a b key e p, p), λ p. p.1)
later_by false a b key e = (λ p. (p, up_to-chain b a key (one_of a b e) p), λ p. p.0)

-- what stands from the later left end on stands from both on
pub later-both : (a b key : List ℕ) → (IsUpTo (later a b) key ↔ (IsUpTo a key × IsUpTo b key))
later-both a b key = later_by (is_le (slice_cmp nat_cmp a b)) a b key refl

earlier_by : (t : Bool) (a b key : List ℕ) → is_le (slice_cmp nat_cmp a b) ≡ t
    → (IsBeforeEnd key (if t then Some a else Some b) ↔ (IsBefore key a × IsBefore key b))
earlier_by true a b key e = (λ p. (p, before_up_to key a b p e), λ p. p.0)
earlier_by false a b key e = (λ p. (before_up_to key b a p (one_of a b e), p), λ p. p.1)

-- what stands before the earlier right end stands before both
pub earlier-both : (r s : Option (List ℕ)) (key : List ℕ) → (IsBeforeEnd key (earlier_end r s) ↔ (IsBeforeEnd key r × IsBeforeEnd key s))
earlier-both None s key = (λ p. (tt, p), λ p. p.1)
earlier-both (Some a) None key = (λ p. (p, tt), λ p. p.0)
earlier-both (Some a) (Some b) key = earlier_by (is_le (slice_cmp nat_cmp a b)) a b key refl

-- the keys between the later left end and the earlier right end are those of both
pub meet-both : (a b : List ℕ) (r s : Option (List ℕ)) (key : List ℕ)
    → ((IsUpTo (later a b) key × IsBeforeEnd key (earlier_end r s)) ↔ ((IsUpTo a key × IsBeforeEnd key r) × (IsUpTo b key × IsBeforeEnd key s)))
meet-both a b r s key = (
  λ p. let l = (later-both a b key).0 p.0 in let e = (earlier-both r s key).0 p.1 in ((l.0, e.0), (l.1, e.1)),
  λ p. ((later-both a b key).1 (p.0.0, p.1.0), (earlier-both r s key).1 (p.0.1, p.1.1)),
)

-- where the later left end isn't before the earlier right end, no key is in both
pub meet-none : (a b : List ℕ) (r s : Option (List ℕ)) (key : List ℕ) → (IsBeforeEnd (later a b) (earlier_end r s) → ⊥)
    → (IsUpTo a key × IsBeforeEnd key r) → (IsUpTo b key × IsBeforeEnd key s) → ⊥
meet-none a b r s key none one other =
    let both = (meet-both a b r s key).1 (one, other) in none (up_to_end (later a b) key (earlier_end r s) both.0 both.1)

-- a span whose ends are these
pub meet_span : (a b left : List ℕ) (r s right : Option (List ℕ)) → left ≡ later a b → right ≡ earlier_end r s → (key : List ℕ)
    → ((IsUpTo left key × IsBeforeEnd key right) ↔ ((IsUpTo a key × IsBeforeEnd key r) × (IsUpTo b key × IsBeforeEnd key s)))
meet_span a b left r s right from to key = rw (from, to) (meet-both a b r s key)

-- a test that fails says that no key is in both
pub meet_empty : (a b left : List ℕ) (r s right : Option (List ℕ)) (t : Bool) → left ≡ later a b → right ≡ earlier_end r s
    → (IsBeforeEnd left right → t ≡ true) → t ≡ false → (key : List ℕ) → (IsUpTo a key × IsBeforeEnd key r) → (IsUpTo b key × IsBeforeEnd key s) → ⊥
meet_empty a b left r s right t from to tested failed key one other =
    let Before : List ℕ → Option (List ℕ) → Type 0 = λ l e. IsBeforeEnd l e in
    meet-none a b r s key
    (λ h. no_answer (sym failed ∙ tested (subst (λ e. Before left e) (sym to) (subst (λ l. Before l (earlier_end r s)) (sym from) h)))) one other

-- a left end before the right end is in the span
pub meet_left : (left tested : List ℕ) (right end : Option (List ℕ)) → left ≡ tested → right ≡ end → IsBeforeEnd tested end
    → (IsUpTo left left × IsBeforeEnd left right)
meet_left left tested right end same ended h = (up_to-itself left, rw (same, ended) h)
