-- What a loop collects.
use Rattle.std.proofs.Common.{◌≡◌, ℕ, zero, suc, ◌<◌, ◌≤◌, ◌+◌, List, [], ◌∷◌, ◌++◌, length, take, get_or, Some, ◌⊎◌, inl, inr, ◌↔◌, refl, sym, ◌∙◌, ap, subst, arith}
use Rattle.std.proofs.lemmas.List.{take_more, take_all}
use Rattle.base_core.specs.Lists.{Has, AreDistinct}
use Rattle.fed_bytes.specs.declared.span.Span.{Span}
use Rattle.fed_bytes.specs.Keys.{IsIn}
use Rattle.triple_keys.specs.declared.key.Ids.{Ids}
use Rattle.triple_keys.specs.declared.order.Order.{Order}
use Rattle.triple_keys.specs.Keys.{AreIds, key_bytes}
use Rattle.row_core.specs.declared.rows.Row.{Row}
use Rattle.row_core.specs.Rows.{StandInOrder}
use Rattle.change_model.specs.Laws.{IsValue}
use Rattle.bigfed.specs.Indexed.{IsShownIn}
use Rattle.bigfed.specs.Shown.{IsKept, firsts}
use Rattle.bigfed.proofs.Chunks.{firsts_are, ByKey, firsts_by_key}
use Rattle.pattern_core.proofs.Members.{AllPairs}
use Rattle.fed_bytes.specs.Keys.{IsBefore}
use Rattle.row_core.proofs.Order.{not_before_itself}
use Rattle.change_model.proofs.Members.{Has-append, AreDistinct-push}

-- what stood there, and what the elements that are done have brought
abbrev pub Collected : {A B : Type 0} → (A → B → Type 0) → List A → List B → List B → Type 0
Collected {A} {B} R done start out = (b : B) → (Has out b ↔ (Has start b ⊎ ((a : A) × Has done a × R a b)))

pub nothing_yet : {A B : Type 0} (R : A → B → Type 0) (start : List B) → Collected R [] start start
nothing_yet R start b = (λ h. inl h, λ h. elim h [ inl was ↦ was | inr none ↦ absurd none.1 ])

-- one more element is done
one_more : {A B : Type 0} (R : A → B → Type 0) (done : List A) (a : A) (start out new : List B) → Collected R done start out
    → ((b : B) → Has new b ↔ (Has out b ⊎ R a b)) → Collected R (done ++ a ∷ []) start new
one_more R done a start out new so_far step b = (
  λ h. elim ((step b).0 h) [
    | inl old ↦ elim ((so_far b).0 old) [
      | inl was ↦ inl was
      | inr more ↦ inr (more.0, (Has-append done (a ∷ []) more.0).1 (inl more.1), more.2)
    ]
    | inr here ↦ inr (a, (Has-append done (a ∷ []) a).1 (inr (inl refl)), here)
  ],
  λ h. (step b).1 (elim h [
    | inl was ↦ inl ((so_far b).1 (inl was))
    | inr more ↦ elim ((Has-append done (a ∷ []) more.0).0 more.1) [
      | inl before ↦ inl ((so_far b).1 (inr (more.0, before, more.2)))
      | inr last ↦ elim last [ inl same ↦ inr (subst (λ x. R x b) (sym same) more.2) | inr none ↦ absurd none ]
    ]
  ]),
)

pub turned_one : {A B : Type 0} (R : A → B → Type 0) (all : List A) (i : ℕ) (a : A) (start out new : List B) → i < length all → a ≡ get_or all i a
    → Collected R (take i all) start out → ((b : B) → Has new b ↔ (Has out b ⊎ R a b)) → Collected R (take (i + 1) all) start new
turned_one R all i a start out new below is so_far step =
    subst (λ done. Collected R done start new) (sym (take_more all i a below ∙ ap (λ x. take i all ++ x ∷ []) (sym is)))
    (one_more R (take i all) a start out new so_far step)

pub all_done : {A B : Type 0} (R : A → B → Type 0) (all : List A) (i : ℕ) (start out : List B) → length all ≤ i → Collected R (take i all) start out → Collected R all start out
all_done R all i start out past so_far = subst (λ done. Collected R done start out) (take_all i all past) so_far

at_read : {A : Type 0} (xs : List A) (i : ℕ) (x : A) → i < length xs → x ≡ get_or xs i x → Has xs x
at_read [] i x below is = absurd (omega arith)
at_read (first ∷ xs) zero x below is = inl (sym is)
at_read (first ∷ xs) (suc i) x below is = inr (at_read xs i x (omega arith) is)

-- ---- ids of rows

-- a row that is kept
pub kept_one : (order : Order) (span : Span) (row : Row) (old new : List Ids) (one : Ids) → new ≡ old ++ one ∷ [] → AreIds one → IsIn span row.key
    → row.key ≡ key_bytes order one → ((ids : Ids) → AreIds ids → row.key ≡ key_bytes order ids → one ≡ ids) → IsValue (Some row)
    → (ids : Ids) → Has new ids ↔ (Has old ids ⊎ IsKept order span row ids)
kept_one order span row old new one is small within spelled again value ids =
    let both = Has-append old (one ∷ []) ids in
    let kept : IsKept order span row one = record { ids_are = small; within = within; key_is = spelled; value = value } in (
      λ h. elim (both.0 (subst (λ all. Has all ids) is h)) [
        | inl before ↦ inl before
        | inr last ↦ elim last [ inl same ↦ inr (subst (IsKept order span row) same kept) | inr none ↦ absurd none ]
      ],
      λ h. subst (λ all. Has all ids) (sym is) (both.1 (elim h [
        | inl before ↦ inl before
        | inr here ↦ inr (inl (again ids here.ids_are here.key_is))
      ])),
    )

-- a row that is kept shows its ids, if it is the first of its key
shown_one : (order : Order) (span : Span) (rows : List Row) (row : Row) (ids : Ids) → StandInOrder rows → Has (firsts rows) row → IsKept order span row ids
    → IsShownIn rows order span ids
shown_one order span rows row ids in_order there kept =
    let newest = (firsts_are rows in_order row).0 there in
    record {
      ids_are = kept.ids_are;
      within = subst (IsIn span) kept.key_is kept.within;
      value = record {
        row = row;
        stands = newest.stands;
        key_is = kept.key_is;
        newest = λ other stands same. newest.newest other stands (same ∙ sym kept.key_is);
        value = kept.value;
      };
    }

-- ids that weren't there leave nothing twice
pub kept_once : (old new : List Ids) (one : Ids) → new ≡ old ++ one ∷ [] → AreDistinct old → (Has old one → ⊥) → AreDistinct new
kept_once old new one is distinct apart = subst AreDistinct (sym is) (AreDistinct-push old one distinct apart)

-- of rows in order the first ones of their keys are those that show ids
pub kept_all : (rows : List Row) (order : Order) (span : Span) (start found : List Ids) → StandInOrder rows → Collected (IsKept order span) (firsts rows) start found
    → (ids : Ids) → Has found ids ↔ (Has start ids ⊎ IsShownIn rows order span ids)
kept_all rows order span start found in_order collected ids = (
  λ h. elim ((collected ids).0 h) [
    | inl was ↦ inl was
    | inr more ↦ inr (shown_one order span rows more.0 ids in_order more.1 more.2)
  ],
  λ h. (collected ids).1 (elim h [
    | inl was ↦ inl was
    | inr shown ↦ let has = shown.value in inr (
      has.row,
      (firsts_are rows in_order has.row).1 (record { stands = has.stands; newest = λ other there same. has.newest other there (same ∙ has.key_is) }),
      record { ids_are = shown.ids_are; within = subst (IsIn span) (sym has.key_is) shown.within; key_is = has.key_is; value = has.value },
    )
  ]),
)

-- the rows that are done have other keys than the next
pairs_take : {A : Type 0} (R : A → A → Type 0) (xs : List A) (i : ℕ) (x y : A) → AllPairs R xs → i < length xs → x ≡ get_or xs i x → Has (take i xs) y → R y x
pairs_take R [] i x y pairs below is has = absurd (omega arith)
pairs_take R (first ∷ xs) zero x y pairs below is has = absurd has
pairs_take {A} R (first ∷ xs) (suc i) x y pairs below is has =
    elim has [
      | inl same ↦ subst (λ (z : A). R z x) same (pairs.0 x (at_read xs i x (omega arith) is))
      | inr later ↦ pairs_take R xs i x y pairs.1 (omega arith) is later
    ]

-- so the ids of the next are new
pub kept_new : (order : Order) (span : Span) (rows all : List Row) (i : ℕ) (row : Row) (start found : List Ids) → StandInOrder rows → all ≡ firsts rows
    → i < length all → row ≡ get_or all i row → Collected (IsKept order span) (take i all) start found
    → ((ids : Ids) → Has start ids → ¬ IsShownIn rows order span ids)
    → (ids : Ids) → Has found ids → ¬ IsKept order span row ids
kept_new order span rows all i row start found in_order are below is collected apart ids has kept =
    elim ((collected ids).0 has) [
      | inl was ↦ apart ids was (shown_one order span rows row ids in_order (subst (λ some. Has some row) are (at_read all i row below is)) kept)
      | inr more ↦
          let (other, there, also) = more in
          let before = pairs_take ByKey all i row other (subst (AllPairs ByKey) (sym are) (firsts_by_key rows in_order)) below is there in
          not_before_itself row.key (subst (λ key. IsBefore key row.key) (also.key_is ∙ sym kept.key_is) before)
    ]
