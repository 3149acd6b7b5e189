-- Ranks that are given to texts in their order compare as the texts do.
use Rattle.std.proofs.Common.{◌≡◌, ◌≢◌, ℕ, ◌<◌, ◌≤◌, ◌+◌, Bool, true, false, List, [], ◌∷◌, length, get_or, Option, Some, None, ◌⊎◌, inl, inr, refl, sym, ap, subst, ◌∙◌, arith}
use Rattle.std.specs.declared.cmp.Ordering.{Ordering}
use Rattle.std.specs.declared.cmp.Ordering.TheVariants.{Less, Equal, Greater}
use Rattle.std.specs.Ordering.{nat_cmp, is_lt, is_gt, ordering_reverse, MatchOrdering}
use Rattle.std.specs.Cmp.{IsTotalOrder}
use Rattle.std.specs.Cmp.Lexicographic.{slice_cmp}
use Rattle.std.specs.List.{All, Contains, range_with_len}
use Rattle.std.specs.List.Sorted.{IsPermutation, IsSortedByKey}
use Rattle.std.proofs.Math.ListN.{set}
use Rattle.std.proofs.lemmas.Bool.{cases_eq, cases_lt, lt-ltb, cond-true}
use Rattle.std.proofs.lemmas.Cmp.{ranked, tied_itself, nat_cmp_total, nat_list_cmp_total}
use Rattle.std.proofs.lemmas.Grind.{get_or-set_at, get_or_default_zero}
use Rattle.std.proofs.lemmas.List.{get_or-set_other, get_or_past, length-set}
use Rattle.std.proofs.lemmas.List.FromFn.{length-range_with_len, get_or-range_with_len}
use Rattle.std.proofs.lemmas.List.Sorted.{All-permutation, Contains-permutation, ranks_by, sorted_far}
use Rattle.bgp_model.specs.Table.{text_at, rank_at, AreRanks}
use Rattle.bgp_model.proofs.Lines.{equal_lists, less_number}

-- ---- orderings

gt_back : (o : Ordering) → is_gt (ordering_reverse o) ≡ is_lt o
gt_back Less = refl
gt_back Equal = refl
gt_back Greater = refl

not_gt : {K : Type 0} {R : K → K → Ordering} (total : IsTotalOrder R) → (x y : K) → is_lt (R y x) ≡ false → is_gt (R x y) ≡ false
not_gt {R} total x y h = ap is_gt (total.antisymm x y) ∙ gt_back (R y x) ∙ h

then_below : {K : Type 0} {R : K → K → Ordering} (total : IsTotalOrder R) → (x y z : K) → (o : Ordering) → R x y ≡ o → is_gt o ≡ false → R y z ≡ Less → R x z ≡ Less
then_below total x y z Less is upto less = total.trans x y z is less
then_below total x y z Equal is upto less = total.congr x y z is ∙ less
then_below total x y z Greater is upto less = absurd cc

upto_ranked : (a b : ℕ) (o : Ordering) → MatchOrdering o (a < b) (a ≡ b) (b < a) → is_gt o ≡ false → a ≤ b
upto_ranked a b Less is upto = omega arith
upto_ranked a b Equal is upto = omega arith
upto_ranked a b Greater is upto = absurd cc

upto_number : (a b : ℕ) → is_gt (nat_cmp a b) ≡ false → a ≤ b
upto_number a b h = upto_ranked a b (nat_cmp a b) (ranked a b (nat_cmp a b) refl) h

nil_first : (text : List ℕ) → is_gt (slice_cmp nat_cmp [] text) ≡ false
nil_first [] = refl
nil_first (b ∷ text) = refl

same_numbers : (a b c d : ℕ) → a ≡ c → b ≡ d → nat_cmp a b ≡ nat_cmp c d
same_numbers a b c d p q = ap (λ (x : ℕ). nat_cmp x b) p ∙ ap (nat_cmp c) q

same_texts : (a b c d : List ℕ) → a ≡ c → b ≡ d → slice_cmp nat_cmp a b ≡ slice_cmp nat_cmp c d
same_texts a b c d p q = ap (λ (x : List ℕ). slice_cmp nat_cmp x b) p ∙ ap (slice_cmp nat_cmp c) q

-- ---- ranks so far

-- the number stands among the first of the list; where a variable is unbound there is nothing to do
abbrev pub IsDone : List ℕ → ℕ → Option ℕ → Type 0
IsDone numbers index None = Unit {0}
IsDone numbers index (Some number) = (k : ℕ) × (k < index) × (get_or numbers k 0 ≡ number)

-- the first of the numbers have ranks, and these are the rank and the text of the last of them
pub record Ranked (texts : List (List ℕ)) (numbers ranks : List ℕ) (index rank : ℕ) (last : List ℕ) : Type 0 where
  pub agree : (one other : Option ℕ) → IsDone numbers index one → IsDone numbers index other
      → nat_cmp (rank_at ranks one) (rank_at ranks other) ≡ slice_cmp nat_cmp (text_at texts one) (text_at texts other)
  pub place : Option ℕ
  pub done : IsDone numbers index place
  pub rank_is : rank ≡ rank_at ranks place
  pub last_is : last ≡ text_at texts place
  pub upto : (one : Option ℕ) → IsDone numbers index one → is_gt (slice_cmp nat_cmp (text_at texts one) last) ≡ false
  pub low : rank ≤ index
  pub long : length ranks ≡ length texts

none_agree : (texts : List (List ℕ)) (numbers ranks : List ℕ) (one other : Option ℕ) → IsDone numbers 0 one → IsDone numbers 0 other
    → nat_cmp (rank_at ranks one) (rank_at ranks other) ≡ slice_cmp nat_cmp (text_at texts one) (text_at texts other)
none_agree texts numbers ranks None None p q = refl
none_agree texts numbers ranks None (Some n) p (k, low, is) = absurd (omega arith)
none_agree texts numbers ranks (Some n) other (k, low, is) q = absurd (omega arith)

none_upto : (texts : List (List ℕ)) (numbers : List ℕ) (one : Option ℕ) → IsDone numbers 0 one → is_gt (slice_cmp nat_cmp (text_at texts one) []) ≡ false
none_upto texts numbers None p = refl
none_upto texts numbers (Some n) (k, low, is) = absurd (omega arith)

pub Ranked-start : (texts : List (List ℕ)) (numbers ranks : List ℕ) → length ranks ≡ length texts → Ranked texts numbers ranks 0 0 []
Ranked-start texts numbers ranks long = record {
  agree = none_agree texts numbers ranks;
  place = None;
  done = tt;
  rank_is = refl;
  last_is = refl;
  upto = none_upto texts numbers;
  low = omega arith;
  long = long;
}

-- ---- one more

abbrev IsByText : List (List ℕ) → List ℕ → Type 0
IsByText texts numbers = IsSortedByKey (λ number. text_at texts (Some number)) (slice_cmp nat_cmp) numbers

-- no text that is done stands behind the next one
far : (texts : List (List ℕ)) (numbers : List ℕ) (index : ℕ) (text : List ℕ) → IsByText texts numbers → index < length numbers
    → text ≡ text_at texts (Some (get_or numbers index 0)) → (one : Option ℕ) → IsDone numbers index one → is_gt (slice_cmp nat_cmp (text_at texts one) text) ≡ false
far texts numbers index text up low is None done = nil_first text
far texts numbers index text up low is (Some n) (k, before, at) =
    let behind : is_lt (slice_cmp nat_cmp (text_at texts (Some (get_or numbers index 0))) (text_at texts (Some (get_or numbers k 0)))) ≡ false =
    sorted_far (λ x y. is_lt (slice_cmp nat_cmp (text_at texts (Some x)) (text_at texts (Some y)))) (ranks_by nat_list_cmp_total (λ x. text_at texts (Some x)))
    numbers up k index 0 (omega arith) low in
    not_gt nat_list_cmp_total (text_at texts (Some n)) text
    (ap is_lt (same_texts text (text_at texts (Some n)) (text_at texts (Some (get_or numbers index 0))) (text_at texts (Some (get_or numbers k 0))) is
    (ap (λ (m : ℕ). text_at texts (Some m)) (sym at))) ∙ behind)

-- the rank of the next text agrees with those that are done
next_agrees : (texts : List (List ℕ)) (numbers ranks : List ℕ) (index rank next : ℕ) (last text : List ℕ) → Ranked texts numbers ranks index rank last
    → (text ≡ last → next ≡ rank) → (text ≢ last → next ≡ rank + 1)
    → (o : Ordering) → slice_cmp nat_cmp last text ≡ o → is_gt o ≡ false
    → (one : Option ℕ) → IsDone numbers index one → nat_cmp (rank_at ranks one) next ≡ slice_cmp nat_cmp (text_at texts one) text
next_agrees texts numbers ranks index rank next last text so_far same other Less is upto one done =
    let apart : text ≢ last = λ e.
    let clash : Equal ≡ Less = sym (tied_itself nat_list_cmp_total last) ∙ ap (slice_cmp nat_cmp last) (sym e) ∙ is in absurd cc in
    let was : nat_cmp (rank_at ranks one) rank ≡ slice_cmp nat_cmp (text_at texts one) last =
    ap (nat_cmp (rank_at ranks one)) so_far.rank_is ∙ so_far.agree one so_far.place done so_far.done ∙ ap (slice_cmp nat_cmp (text_at texts one)) (sym so_far.last_is) in
    let upto_rank : rank_at ranks one ≤ rank = upto_number (rank_at ranks one) rank (ap is_gt was ∙ so_far.upto one done) in
    less_number (rank_at ranks one) next (omega (arith, other apart))
    ∙ sym (then_below nat_list_cmp_total (text_at texts one) last text (slice_cmp nat_cmp (text_at texts one) last) refl (so_far.upto one done) is)
next_agrees texts numbers ranks index rank next last text so_far same other Equal is upto one done =
    let equal : text ≡ last = sym (equal_lists last text is) in
    ap (nat_cmp (rank_at ranks one)) (same equal ∙ so_far.rank_is) ∙ so_far.agree one so_far.place done so_far.done
    ∙ ap (slice_cmp nat_cmp (text_at texts one)) (sym so_far.last_is ∙ sym equal)
next_agrees texts numbers ranks index rank next last text so_far same other Greater is upto one done = absurd cc

-- what is done with one more is new, or was done and has the rank that it had
abbrev IsNew : List (List ℕ) → List ℕ → ℕ → List ℕ → Option ℕ → Type 0
IsNew texts new next text one = (rank_at new one ≡ next) × (text_at texts one ≡ text)

abbrev IsOld : List ℕ → List ℕ → List ℕ → ℕ → Option ℕ → Type 0
IsOld numbers ranks new index one = IsDone numbers index one × (rank_at new one ≡ rank_at ranks one)

new_or_old : (texts : List (List ℕ)) (numbers ranks new : List ℕ) (index next number : ℕ) (text : List ℕ)
    → number ≡ get_or numbers index 0 → number < length ranks → text ≡ text_at texts (Some number) → new ≡ set ranks number next
    → (one : Option ℕ) → IsDone numbers (index + 1) one → IsNew texts new next text one ⊎ IsOld numbers ranks new index one
new_or_old texts numbers ranks new index next number text at low is written None done = inr (tt, refl)
new_or_old texts numbers ranks new index next number text at low is written (Some m) (k, before, there) =
    elim (cases_eq m number) [
      | inl same ↦ inl (
        ap (λ (r : List ℕ). get_or r m 0) written ∙ get_or-set_at ranks number m next 0 same low,
        ap (λ (n : ℕ). text_at texts (Some n)) same ∙ sym is,
      )
      | inr other ↦ inr (
        (k, earlier numbers index k m number before there at other, there),
        ap (λ (r : List ℕ). get_or r m 0) written ∙ get_or-set_other ranks number m next 0 other,
      )
    ]
  where
    earlier : (ns : List ℕ) (i j a n : ℕ) → j < i + 1 → get_or ns j 0 ≡ a → n ≡ get_or ns i 0 → (a ≡ n → ⊥) → j < i
    earlier ns i j a n before is at other =
        elim (cases_eq j i) [
          | inl same ↦ absurd (other (sym is ∙ ap (λ (p : ℕ). get_or ns p 0) same ∙ sym at))
          | inr apart ↦ omega arith
        ]

pub Ranked-more : (texts : List (List ℕ)) (numbers ranks new : List ℕ) (index rank next number : ℕ) (last text : List ℕ)
    → Ranked texts numbers ranks index rank last → IsByText texts numbers → index < length numbers
    → number ≡ get_or numbers index 0 → number < length ranks → text ≡ text_at texts (Some number)
    → (text ≡ last → next ≡ rank) → (text ≢ last → next ≡ rank + 1) → new ≡ set ranks number next → Ranked texts numbers new (index + 1) next text
Ranked-more texts numbers ranks new index rank next number last text so_far up inside at low is same other written =
    let text_is : text ≡ text_at texts (Some (get_or numbers index 0)) = is ∙ ap (λ (n : ℕ). text_at texts (Some n)) at in
    let behind : (one : Option ℕ) → IsDone numbers index one → is_gt (slice_cmp nat_cmp (text_at texts one) text) ≡ false = far texts numbers index text up inside text_is in
    let last_upto : is_gt (slice_cmp nat_cmp last text) ≡ false =
    ap (λ (t : List ℕ). is_gt (slice_cmp nat_cmp t text)) so_far.last_is ∙ behind so_far.place so_far.done in
    let agrees : (one : Option ℕ) → IsDone numbers index one → nat_cmp (rank_at ranks one) next ≡ slice_cmp nat_cmp (text_at texts one) text =
    next_agrees texts numbers ranks index rank next last text so_far same other (slice_cmp nat_cmp last text) refl last_upto in
    let parts : (one : Option ℕ) → IsDone numbers (index + 1) one → IsNew texts new next text one ⊎ IsOld numbers ranks new index one =
    new_or_old texts numbers ranks new index next number text at low is written in
    record {
      agree = λ one two p q. both texts numbers ranks new index next text so_far.agree agrees one two (parts one p) (parts two q);
      place = Some number;
      done = (index, omega arith, sym at);
      rank_is = sym (ap (λ (r : List ℕ). get_or r number 0) written ∙ get_or-set_at ranks number number next 0 refl low);
      last_is = is;
      upto = λ one p. upto_both texts numbers ranks new index next text behind one (parts one p);
      low = low_next next rank index text last same other so_far.low;
      long = ap length written ∙ length-set ranks number next ∙ so_far.long;
    }
  where
    both : (ts : List (List ℕ)) (ns rs after : List ℕ) (i r : ℕ) (t : List ℕ)
        → ((one two : Option ℕ) → IsDone ns i one → IsDone ns i two → nat_cmp (rank_at rs one) (rank_at rs two) ≡ slice_cmp nat_cmp (text_at ts one) (text_at ts two))
        → ((one : Option ℕ) → IsDone ns i one → nat_cmp (rank_at rs one) r ≡ slice_cmp nat_cmp (text_at ts one) t)
        → (one two : Option ℕ) → IsNew ts after r t one ⊎ IsOld ns rs after i one → IsNew ts after r t two ⊎ IsOld ns rs after i two
        → nat_cmp (rank_at after one) (rank_at after two) ≡ slice_cmp nat_cmp (text_at ts one) (text_at ts two)
    both ts ns rs after i r t old new one two (inl p) (inl q) =
        same_numbers _ _ r r p.0 q.0 ∙ tied_itself nat_cmp_total r ∙ sym (tied_itself nat_list_cmp_total t) ∙ sym (same_texts _ _ t t p.1 q.1)
    both ts ns rs after i r t old new one two (inl p) (inr q) =
        same_numbers _ _ r (rank_at rs two) p.0 q.1 ∙ nat_cmp_total.antisymm r (rank_at rs two) ∙ ap ordering_reverse (new two q.0)
        ∙ sym (nat_list_cmp_total.antisymm t (text_at ts two)) ∙ sym (same_texts _ _ t (text_at ts two) p.1 refl)
    both ts ns rs after i r t old new one two (inr p) (inl q) =
        same_numbers _ _ (rank_at rs one) r p.1 q.0 ∙ new one p.0 ∙ sym (same_texts _ _ (text_at ts one) t refl q.1)
    both ts ns rs after i r t old new one two (inr p) (inr q) = same_numbers _ _ (rank_at rs one) (rank_at rs two) p.1 q.1 ∙ old one two p.0 q.0

    upto_both : (ts : List (List ℕ)) (ns rs after : List ℕ) (i r : ℕ) (t : List ℕ)
        → ((one : Option ℕ) → IsDone ns i one → is_gt (slice_cmp nat_cmp (text_at ts one) t) ≡ false)
        → (one : Option ℕ) → IsNew ts after r t one ⊎ IsOld ns rs after i one → is_gt (slice_cmp nat_cmp (text_at ts one) t) ≡ false
    upto_both ts ns rs after i r t behind one (inl p) = ap is_gt (same_texts _ _ t t p.1 refl ∙ tied_itself nat_list_cmp_total t)
    upto_both ts ns rs after i r t behind one (inr p) = behind one p.0

    low_next : (r rank i : ℕ) (t l : List ℕ) → (t ≡ l → r ≡ rank) → (t ≢ l → r ≡ rank + 1) → rank ≤ i → r ≤ i + 1
    low_next r rank i t l same other low = next_low (slice_cmp nat_cmp t l) refl
      where
        next_low : (o : Ordering) → slice_cmp nat_cmp t l ≡ o → r ≤ i + 1
        next_low Less e = omega (arith, other (λ p. let clash : Equal ≡ Less = sym (tied_itself nat_list_cmp_total t) ∙ ap (slice_cmp nat_cmp t) p ∙ e in absurd cc))
        next_low Equal e = omega (arith, same (equal_lists t l e))
        next_low Greater e = omega (arith, other (λ p. let clash : Equal ≡ Greater = sym (tied_itself nat_list_cmp_total t) ∙ ap (slice_cmp nat_cmp t) p ∙ e in absurd cc))

-- ---- all

-- each place has the rank and the text of one that is done
record IsSettled (texts : List (List ℕ)) (numbers ranks : List ℕ) (one : Option ℕ) : Type 0 where
  place : Option ℕ
  done : IsDone numbers (length numbers) place
  rank_is : rank_at ranks one ≡ rank_at ranks place
  text_is : text_at texts one ≡ text_at texts place

settled : (texts : List (List ℕ)) (numbers ranks : List ℕ) → length ranks ≡ length texts → IsPermutation (range_with_len 0 (length texts)) numbers
    → (one : Option ℕ) → IsSettled texts numbers ranks one
settled texts numbers ranks long moved None = record { place = None; done = tt; rank_is = refl; text_is = refl }
settled texts numbers ranks long moved (Some n) =
    let all = range_with_len 0 (length texts) in
    elim (cases_lt n (length texts)) [
      | inl low ↦
          let there : Contains all n = (n, omega (arith, length-range_with_len 0 (length texts)), get_or-range_with_len 0 (length texts) n n low ∙ omega arith) in
          let (k, inside, at) = Contains-permutation all numbers n moved there in
          record { place = Some n; done = (k, inside, sym (get_or_default_zero numbers k n inside) ∙ at); rank_is = refl; text_is = refl }
      | inr past ↦ record {
        place = None;
        done = tt;
        rank_is = get_or_past ranks n 0 (omega arith);
        text_is = get_or_past texts n [] past;
      }
    ]

-- ranks that all numbers have
pub ranks_of_all : (texts : List (List ℕ)) (numbers ranks : List ℕ) (index rank : ℕ) (last : List ℕ) → index ≡ length numbers
    → IsPermutation (range_with_len 0 (length texts)) numbers → Ranked texts numbers ranks index rank last → AreRanks texts ranks
ranks_of_all texts numbers ranks index rank last all moved so_far one other =
    let agree : (p q : Option ℕ) → IsDone numbers (length numbers) p → IsDone numbers (length numbers) q
    → nat_cmp (rank_at ranks p) (rank_at ranks q) ≡ slice_cmp nat_cmp (text_at texts p) (text_at texts q) =
    subst (λ (i : ℕ). (p q : Option ℕ) → IsDone numbers i p → IsDone numbers i q
    → nat_cmp (rank_at ranks p) (rank_at ranks q) ≡ slice_cmp nat_cmp (text_at texts p) (text_at texts q)) all so_far.agree in
    let a = settled texts numbers ranks so_far.long moved one in
    let b = settled texts numbers ranks so_far.long moved other in
    same_numbers _ _ (rank_at ranks a.place) (rank_at ranks b.place) a.rank_is b.rank_is ∙ agree a.place b.place a.done b.done
    ∙ sym (same_texts _ _ (text_at texts a.place) (text_at texts b.place) a.text_is b.text_is)

-- each number is that of a text
pub numbers_inside : (texts : List (List ℕ)) (numbers : List ℕ) → IsPermutation (range_with_len 0 (length texts)) numbers → (index : ℕ) → index < length numbers
    → get_or numbers index 0 < length texts
numbers_inside texts numbers moved index low =
    let all = range_with_len 0 (length texts) in
    let each : All (λ n. n < length texts) all = λ k d inside.
    let short : k < length texts = omega (arith, length-range_with_len 0 (length texts)) in
    let is = get_or-range_with_len 0 (length texts) k d short in omega arith in
    All-permutation (λ n. n < length texts) all numbers moved each index 0 low
