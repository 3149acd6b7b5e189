-- Spans that are cut: into one, or at a key into two; and a whole span for each index. For callers.
use Rattle.std.proofs.Common.{◌≡◌, ℕ, Bool, true, false, not, List, [], ◌∷◌, map, refl, sym, ap, ◌∙◌, subst, inl, inr}
use Rattle.std.specs.Prelude.{Some, None}
use Rattle.std.specs.Ordering.{is_le, nat_cmp}
use Rattle.std.specs.Cmp.Lexicographic.{slice_cmp}
use Rattle.base_core.specs.Lists.{Has}
use Rattle.fed_bytes.specs.declared.span.Span.{Span}
use Rattle.fed_bytes.specs.Keys.{IsBefore, IsUpTo, IsBeforeEnd, IsIn}
use Rattle.fed_bytes.proofs.Orders.{no_answer, turned, up_to-itself, up_to-chain, up_to_end}
use Rattle.row_core.specs.declared.rows.Index.{Index}
use Rattle.row_core.specs.declared.rows.Index.TheVariants.{T2i, I2t, Spo, Pos, Osp}
use Rattle.place_board.specs.declared.view.Known.{Known}
use Rattle.place_board.specs.Tokens.{Listing, IsSoundList}
use Rattle.place_core.specs.declared.shards.Line.{Line}
use Rattle.place_core.specs.declared.shards.Born.{Born}
use Rattle.place_core.specs.Shown.{place_of, known_as}
use Rattle.place_core.specs.Places.{Placing, IsPlace, CoverEveryKeyOnce, HaveLeftEnds, AreCutFrom, AreCutOf, line_of}
use Rattle.place_core.proofs.Orders.{before_turned, before_up_to_too}

-- what is cut from what is known of a number in one way is cut from all that is known of it
pub cut_of_known : (list : Listing) → IsSoundList list → (k : Known) → Has list.noted.knows k → (born : List Born) → AreCutFrom k.index k.span (map line_of born)
    → AreCutOf list.noted.knows k.number born
cut_of_known list is k h born cut = λ known has same.
    subst (λ (k : Known). AreCutFrom k.index k.span (map line_of born)) (is.noted.agrees k known h has (sym same)) cut

-- what is cut from the span of a line is cut from what is known of its number
pub cut_of_line : (p : Placing) → IsPlace p → (line : Line) → Has p.lines line → (born : List Born) → AreCutFrom (place_of line.index) line.span (map line_of born)
    → AreCutOf p.list.noted.knows line.number born
cut_of_line p is line h born cut = cut_of_known p.list is.sound (known_as line.number line.service line.index line.span) (is.shown line h) born cut

one_is : (line other : Line) → Has (line ∷ []) other → line ≡ other
one_is line other (inl same) = same
one_is line other (inr none) = absurd none

-- one shard of the same span
pub cut_in_one : (line : Line) (whole : Span) → line.span ≡ whole → IsIn whole whole.left → AreCutFrom (place_of line.index) whole (line ∷ [])
cut_in_one line whole same left = record {
  index = λ other h. ap (λ (l : Line). place_of l.index) (sym (one_is line other h));
  some = λ key h. (line, inl refl, subst (λ s. IsIn s key) (sym same) h);
  within = λ other key h has. subst (λ s. IsIn s key) (ap (λ (l : Line). l.span) (sym (one_is line other h)) ∙ same) has;
  one = λ key a b ha hb p q. sym (one_is line a ha) ∙ one_is line b hb;
  left = λ other h. subst (λ (s : Span). IsIn s s.left) (sym same ∙ ap (λ (l : Line). l.span) (one_is line other h)) left;
}

not_both : (a b : List ℕ) → IsBefore a b → IsUpTo b a → ⊥
not_both a b before upto = no_answer (sym (failed _ _ (turned a b) upto) ∙ before) where
  failed : (s t : Bool) → s ≡ not t → t ≡ true → s ≡ false
  failed s t e is = e ∙ ap not is

module _ (place : ℕ) (front back : Line) (whole : Span) (key : List ℕ) (of_front : place_of front.index ≡ place) (of_back : place_of back.index ≡ place)
    (front_is : front.span ≡ record { left = whole.left; right = Some key }) (back_is : back.span ≡ record { left = key; right = whole.right })
    (before : IsBefore whole.left key) (inside : IsBeforeEnd key whole.right) where
  in_front : (k : List ℕ) → (IsIn front.span k → IsUpTo whole.left k × IsBefore k key) × (IsUpTo whole.left k × IsBefore k key → IsIn front.span k)
  in_front k = (λ h. subst (λ s. IsIn s k) front_is h, λ h. subst (λ s. IsIn s k) (sym front_is) h)

  in_back : (k : List ℕ) → (IsIn back.span k → IsUpTo key k × IsBeforeEnd k whole.right) × (IsUpTo key k × IsBeforeEnd k whole.right → IsIn back.span k)
  in_back k = (λ h. subst (λ s. IsIn s k) back_is h, λ h. subst (λ s. IsIn s k) (sym back_is) h)

  some_by : (t : Bool) (k : List ℕ) → is_le (slice_cmp nat_cmp key k) ≡ t → IsIn whole k → (line : Line) × Has (front ∷ back ∷ []) line × IsIn line.span k
  some_by true k is h = (back, inr (inl refl), (in_back k).1 (is, h.1))
  some_by false k is h = (front, inl refl, (in_front k).1 (h.0, before_turned key k is))

  within_by : (line : Line) (k : List ℕ) → Has (front ∷ back ∷ []) line → IsIn line.span k → IsIn whole k
  within_by line k (inl same) h =
      let f = (in_front k).0 (subst (λ (l : Line). IsIn l.span k) (sym same) h) in (f.0, up_to_end k key whole.right (before_up_to_too k key f.1) inside)
  within_by line k (inr (inl same)) h =
      let b = (in_back k).0 (subst (λ (l : Line). IsIn l.span k) (sym same) h) in (up_to-chain whole.left key k (before_up_to_too whole.left key before) b.0, b.1)
  within_by line k (inr (inr none)) h = absurd none

  apart_by : (k : List ℕ) → IsIn front.span k → IsIn back.span k → ⊥
  apart_by k f b = not_both k key ((in_front k).0 f).1 ((in_back k).0 b).0

  one_by : (k : List ℕ) (line other : Line) → Has (front ∷ back ∷ []) line → Has (front ∷ back ∷ []) other → IsIn line.span k → IsIn other.span k → line ≡ other
  one_by k line other (inl a) (inl b) h ho = sym a ∙ b
  one_by k line other (inl a) (inr (inl b)) h ho = absurd (apart_by k (subst (λ (l : Line). IsIn l.span k) (sym a) h) (subst (λ (l : Line). IsIn l.span k) (sym b) ho))
  one_by k line other (inl a) (inr (inr none)) h ho = absurd none
  one_by k line other (inr (inl a)) (inl b) h ho = absurd (apart_by k (subst (λ (l : Line). IsIn l.span k) (sym b) ho) (subst (λ (l : Line). IsIn l.span k) (sym a) h))
  one_by k line other (inr (inl a)) (inr (inl b)) h ho = sym a ∙ b
  one_by k line other (inr (inl a)) (inr (inr none)) h ho = absurd none
  one_by k line other (inr (inr none)) b h ho = absurd none

  index_by : (line : Line) → Has (front ∷ back ∷ []) line → place_of line.index ≡ place
  index_by line (inl same) = ap (λ (l : Line). place_of l.index) (sym same) ∙ of_front
  index_by line (inr (inl same)) = ap (λ (l : Line). place_of l.index) (sym same) ∙ of_back
  index_by line (inr (inr none)) = absurd none

  left_by : (line : Line) → Has (front ∷ back ∷ []) line → IsIn line.span line.span.left
  left_by line (inl same) = subst (λ (s : Span). IsIn s s.left) (sym front_is ∙ ap (λ (l : Line). l.span) same) (up_to-itself whole.left, before)
  left_by line (inr (inl same)) = subst (λ (s : Span). IsIn s s.left) (sym back_is ∙ ap (λ (l : Line). l.span) same) (up_to-itself key, inside)
  left_by line (inr (inr none)) = absurd none

  cut_by : AreCutFrom place whole (front ∷ back ∷ [])
  cut_by = record {
    index = index_by;
    some = λ k h. some_by (is_le (slice_cmp nat_cmp key k)) k refl h;
    within = within_by;
    one = one_by;
    left = left_by;
  }

-- two shards, before a key of the span and from it on; the key is not the left end
pub cut_in_two : (place : ℕ) (front back : Line) (whole : Span) (key : List ℕ) → place_of front.index ≡ place → place_of back.index ≡ place
    → front.span ≡ record { left = whole.left; right = Some key } → back.span ≡ record { left = key; right = whole.right }
    → IsBefore whole.left key → IsBeforeEnd key whole.right → AreCutFrom place whole (front ∷ back ∷ [])
cut_in_two place front back whole key of_front of_back front_is back_is before inside = cut_by place front back whole key of_front of_back front_is back_is before inside

-- the span of all keys
abbrev pub all_keys : Span
all_keys = record { left = []; right = None }

from_first : (key : List ℕ) → IsUpTo [] key
from_first [] = refl
from_first (b ∷ key) = refl

pub in_all : (key : List ℕ) → IsIn all_keys key
in_all key = (from_first key, tt)

module _ (a b c d e : Line) (a_is : a.index ≡ T2i) (b_is : b.index ≡ I2t) (c_is : c.index ≡ Spo) (d_is : d.index ≡ Pos) (e_is : e.index ≡ Osp)
    (a_all : a.span ≡ all_keys) (b_all : b.span ≡ all_keys) (c_all : c.span ≡ all_keys) (d_all : d.span ≡ all_keys) (e_all : e.span ≡ all_keys) where
  abbrev five : List Line
  five = a ∷ b ∷ c ∷ d ∷ e ∷ []

  abbrev of_index : Index → Line
  of_index T2i = a
  of_index I2t = b
  of_index Spo = c
  of_index Pos = d
  of_index Osp = e

  has_index : (index : Index) → Has five (of_index index)
  has_index T2i = inl refl
  has_index I2t = inr (inl refl)
  has_index Spo = inr (inr (inl refl))
  has_index Pos = inr (inr (inr (inl refl)))
  has_index Osp = inr (inr (inr (inr (inl refl))))

  index_is : (index : Index) → (of_index index).index ≡ index
  index_is T2i = a_is
  index_is I2t = b_is
  index_is Spo = c_is
  index_is Pos = d_is
  index_is Osp = e_is

  span_is : (index : Index) → (of_index index).span ≡ all_keys
  span_is T2i = a_all
  span_is I2t = b_all
  span_is Spo = c_all
  span_is Pos = d_all
  span_is Osp = e_all

  that_one : (line : Line) → Has five line → (index : Index) × (of_index index ≡ line)
  that_one line (inl same) = (T2i, same)
  that_one line (inr (inl same)) = (I2t, same)
  that_one line (inr (inr (inl same))) = (Spo, same)
  that_one line (inr (inr (inr (inl same)))) = (Pos, same)
  that_one line (inr (inr (inr (inr (inl same))))) = (Osp, same)
  that_one line (inr (inr (inr (inr (inr none))))) = absurd none

  of_its_index : (line : Line) → Has five line → of_index line.index ≡ line
  of_its_index line h =
      let one = that_one line h in
      ap of_index (sym (ap (λ (l : Line). l.index) one.1) ∙ index_is one.0) ∙ one.1

  cover_five : CoverEveryKeyOnce five
  cover_five = record {
    some = λ index key. (of_index index, has_index index, (index_is index, subst (λ s. IsIn s key) (sym (span_is index)) (in_all key)));
    one = λ index key line other h ho has hos. sym (of_its_index line h) ∙ ap of_index (has.0 ∙ sym hos.0) ∙ of_its_index other ho;
  }

  left_five : HaveLeftEnds five
  left_five = λ line h. let one = that_one line h in subst (λ (s : Span). IsIn s s.left) (sym (span_is one.0) ∙ ap (λ (l : Line). l.span) one.1) (in_all [])

-- a shard of all keys for each index
pub whole_cover : (a b c d e : Line) → a.index ≡ T2i → b.index ≡ I2t → c.index ≡ Spo → d.index ≡ Pos → e.index ≡ Osp
    → a.span ≡ all_keys → b.span ≡ all_keys → c.span ≡ all_keys → d.span ≡ all_keys → e.span ≡ all_keys
    → CoverEveryKeyOnce (a ∷ b ∷ c ∷ d ∷ e ∷ []) × HaveLeftEnds (a ∷ b ∷ c ∷ d ∷ e ∷ [])
whole_cover a b c d e p q r s t p' q' r' s' t' = (cover_five a b c d e p q r s t p' q' r' s' t', left_five a b c d e p q r s t p' q' r' s' t')
