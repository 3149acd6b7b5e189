-- The ids that entries give to terms.
use Rattle.std.proofs.Common.{◌≡◌, ℕ, zero, suc, ◌+◌, ◌<◌, ◌≤◌, ◌^◌, true, List, [], ◌∷◌, ◌++◌, map, length, take, get_or, Option, Some, None, inl, inr, refl, sym, ◌∙◌, ap, subst, arith, MatchOption, IfSome}
use Rattle.std.specs.declared.cmp.Ordering.{Ordering}
use Rattle.std.specs.declared.cmp.Ordering.TheVariants.{Less, Equal, Greater}
use Rattle.std.specs.Ordering.{nat_cmp, is_lt, is_le, ordering_index}
use Rattle.std.specs.Cmp.Lexicographic.{slice_cmp, nat_list_cmp_total}
use Rattle.std.specs.List.{slice_get, AllByRecursion, AllZip}
use Rattle.std.specs.List.Sorted.{IsNonDecreasingBy, IsPartitionPoint}
use Rattle.std.proofs.lemmas.Bool.{false≢true, cases_lt}
use Rattle.std.proofs.lemmas.Cmp.{tied_itself}
use Rattle.std.proofs.lemmas.List.{take_more, take_all, map_more}
use Rattle.std.proofs.lemmas.Option.{same_Some, slice_get_within}
use Rattle.std.proofs.lemmas.Slice.Zip.{all_zipped_more}
use Rattle.base_core.specs.Lists.{Has}
use Rattle.base_core.specs.Numbers.{number_bytes}
use Rattle.fed_bytes.specs.Keys.{IsUpTo}
use Rattle.fed_bytes.proofs.Orders.{up_to_before}
use Rattle.term_core.specs.declared.term.Term.{Term}
use Rattle.term_core.specs.Spelling.{spelling}
use Rattle.term_core.specs.Term.{IsTerm}
use Rattle.term_core.proofs.Spelling.{spelling_same}
use Rattle.row_core.specs.declared.rows.Row.{Row}
use Rattle.row_core.specs.declared.rows.Cell.TheVariants.{Value}
use Rattle.row_core.specs.Rows.{ComesBefore, StandInOrder, AreChanges}
use Rattle.row_core.proofs.Order.{one_key, up_to_later, compared, not_before_tied}
use Rattle.change_model.specs.declared.entry.Entry.{Entry}
use Rattle.change_model.specs.History.{bound_term}
use Rattle.change_model.specs.Known.{GiveId, GiveNoId, HaveNotKey, EntriesGiveId, AreTold}
use Rattle.change_model.specs.Numbering.{HasIdIn, IsIdIn, AreIdsAt}
use Rattle.change_model.proofs.Members.{slice_get-append, place_of, at_place, each_of, Has-map}
use Rattle.change_model.proofs.EntryNumbering.{each_push}

-- ---- a search by key

-- of keys that rise the comparisons with a key rise
index_up : (o p : Ordering) → (p ≡ Less → o ≡ Less) → (p ≡ Equal → is_le o ≡ true) → ordering_index o ≤ ordering_index p
index_up Less p less same = omega arith
index_up Equal Less less same = absurd (false≢true (ap is_lt (less refl)))
index_up Equal Equal less same = omega arith
index_up Equal Greater less same = omega arith
index_up Greater Less less same = absurd (false≢true (ap is_lt (less refl)))
index_up Greater Equal less same = absurd (false≢true (same refl))
index_up Greater Greater less same = omega arith

lt_less : (o : Ordering) → is_lt o ≡ true → o ≡ Less
lt_less Less e = refl
lt_less Equal e = absurd (false≢true e)
lt_less Greater e = absurd (false≢true e)

abbrev pub place_by : List ℕ → Row → Ordering
place_by key row = slice_cmp nat_cmp row.key key

compared_up : (a b key : List ℕ) → IsUpTo a b → ordering_index (slice_cmp nat_cmp a key) ≤ ordering_index (slice_cmp nat_cmp b key)
compared_up a b key up =
    index_up (slice_cmp nat_cmp a key) (slice_cmp nat_cmp b key)
    (λ less. lt_less (slice_cmp nat_cmp a key) (up_to_before a b key up (ap is_lt less)))
    (λ same. subst (λ (k : List ℕ). is_le (slice_cmp nat_cmp a k) ≡ true) (one_key b key same) up)

got_has : {A : Type 0} (xs : List A) (k : ℕ) (d : A) → k < length xs → Has xs (get_or xs k d)
got_has [] k d below = absurd (omega arith)
got_has (x ∷ xs) zero d below = inl refl
got_has (x ∷ xs) (suc k) d below = inr (got_has xs k d (omega arith))

pub keys_rise : (rows : List Row) (key : List ℕ) → StandInOrder rows → IsNonDecreasingBy (λ row. ordering_index (place_by key row)) rows
keys_rise [] key order i j d up below = absurd (omega arith)
keys_rise (row ∷ rows) key order zero zero d up below = omega arith
keys_rise (row ∷ rows) key order zero (suc j) d up below =
    let low : j < length rows = omega arith in
    let other = get_or rows j d in
    compared_up row.key other.key key (up_to_later row other (each_of (ComesBefore row) rows other order.0 (got_has rows j d low)))
keys_rise (row ∷ rows) key order (suc i) zero d up below = absurd (omega arith)
keys_rise (row ∷ rows) key order (suc i) (suc j) d up below = keys_rise rows key order.1 i j d (omega arith) (omega arith)

got_is : {A : Type 0} (xs : List A) (k : ℕ) (y : A) → slice_get xs k ≡ Some y → get_or xs k y ≡ y
got_is [] k y e = refl
got_is (x ∷ xs) zero y e = same_Some x y e
got_is (x ∷ xs) (suc k) y e = got_is xs k y e

not_less : Less ≡ Equal → ⊥
not_less e = false≢true (sym (ap is_lt e))

not_greater : Greater ≡ Equal → ⊥
not_greater e = false≢true (ap is_le e)

-- where a search ends at a gap no row has the key
pub none_at : (rows : List Row) (key : List ℕ) (place : ℕ)
    → (IsNonDecreasingBy (λ row. ordering_index (place_by key row)) rows → IsPartitionPoint (λ row. place_by key row ≡ Less) (λ row. place_by key row ≡ Greater) rows place)
    → HaveNotKey rows key
none_at rows key place parted time row changes has same =
    let parts = parted (keys_rise rows key changes.in_order) in
    let (at, there) = place_of rows row has in
    let below : at < length rows = slice_get_within rows at row there in
    let it : get_or rows at row ≡ row = got_is rows at row there in
    let tied : place_by key row ≡ Equal = ap (λ k. slice_cmp nat_cmp k key) same ∙ tied_itself nat_list_cmp_total key in
    elim (cases_lt at place) [
      | inl before ↦ not_less (sym (subst (λ (r : Row). place_by key r ≡ Less) it (parts.0 at row (omega arith) before)) ∙ tied)
      | inr past ↦ not_greater (sym (subst (λ (r : Row). place_by key r ≡ Greater) it (parts.1 at row past below)) ∙ tied)
    ]

-- and one that is found has it
pub found_at : (rows : List Row) (key : List ℕ) (place : ℕ) (row : Row) → place < length rows → row ≡ get_or rows place row → ((d : Row) → place_by key (get_or rows place d) ≡ Equal)
    → Has rows row × (row.key ≡ key)
found_at rows key place row below is equal = (
  subst (Has rows) (sym is) (got_has rows place row below),
  one_key row.key key (subst (λ (r : Row). place_by key r ≡ Equal) (sym is) (equal row)),
)

-- ---- what rows and entries give

one_row : (time : ℕ) (rows : List Row) (one other : Row) → AreChanges time rows → Has rows one → Has rows other → one.key ≡ other.key → one ≡ other
one_row time rows one other changes has there same =
    let at : one.time ≡ other.time = each_of (λ row. row.time ≡ time) rows one changes.times has ∙ sym (each_of (λ row. row.time ≡ time) rows other changes.times there) in
    elim (compared rows changes.in_order one other has there) [
      | inl it ↦ it
      | inr apart ↦ elim apart [
        | inl before ↦ absurd (not_before_tied one other before same at)
        | inr behind ↦ absurd (not_before_tied other one behind (sym same) (sym at))
      ]
    ]

pub id_of_row : (rows : List Row) (key : List ℕ) (row : Row) (id : Option ℕ) → Has rows row × (row.key ≡ key)
    → MatchOption id ((n : ℕ) → row.cell ≡ Value (number_bytes n) → ⊥) (λ n. row.cell ≡ Value (number_bytes n))
    → MatchOption id (GiveNoId rows key) (GiveId rows key)
id_of_row rows key row (Some id) at is = (row, at.0, at.1, is)
id_of_row rows key row None at none = λ time id changes gives.
    let it : row ≡ gives.0 = one_row time rows row gives.0 changes at.0 gives.1 (at.1 ∙ sym gives.2) in
    none id (ap (λ (r : Row). r.cell) it ∙ gives.3)

module _ {A : Type 0} (entry_of : A → Entry) (key : List ℕ) where
  -- one more entry gives none
  pub none_more : (later : List A) (i : ℕ) (item : A) (rows : List Row) → i < length later → item ≡ get_or later i item → rows ≡ (entry_of item).t2i
      → AllByRecursion (λ entry. GiveNoId entry.t2i key) (map entry_of (take i later)) → GiveNoId rows key → AllByRecursion (λ entry. GiveNoId entry.t2i key) (map entry_of (take (i + 1) later))
  none_more later i item rows below is rows_are so_far none =
      let P = λ (entry : Entry). GiveNoId entry.t2i key in
      let here : P (entry_of item) = subst (λ (rs : List Row). GiveNoId rs key) rows_are none in
      let last : P (entry_of (get_or later i item)) = subst (λ (a : A). P (entry_of a)) is here in
      subst (AllByRecursion P) (sym (map_more entry_of later i item below)) (each_push P (map entry_of (take i later)) (entry_of (get_or later i item)) so_far last)

  pub none_all : (later : List A) (i : ℕ) → length later ≤ i → AllByRecursion (λ entry. GiveNoId entry.t2i key) (map entry_of (take i later))
      → AllByRecursion (λ entry. GiveNoId entry.t2i key) (map entry_of later)
  none_all later i end all = subst (λ (xs : List A). AllByRecursion (λ entry. GiveNoId entry.t2i key) (map entry_of xs)) (take_all i later end) all

  -- the entry at a place gives one
  pub one_gives : (later : List A) (i : ℕ) (item : A) (rows : List Row) (id : ℕ) → i < length later → item ≡ get_or later i item → rows ≡ (entry_of item).t2i
      → GiveId rows key id → EntriesGiveId (map entry_of later) key id
  one_gives later i item rows id below is rows_are gives =
      let there : Has (map entry_of later) (entry_of item) = Has-map entry_of later item (subst (Has later) (sym is) (got_has later i item below)) in
      (entry_of item, there, subst (λ (rs : List Row). GiveId rs key id) rows_are gives)

-- ---- the ids of terms

-- a term without an early id has the one that an entry gave
pub id_later : (time : ℕ) (early base : List Term) (entries : List Entry) (term : Term) (key : List ℕ) (id : Option ℕ) → AreTold time early base entries → IsTerm term → key ≡ spelling term
    → ((n : ℕ) → HasIdIn early term n → ⊥) → MatchOption id (AllByRecursion (λ entry. GiveNoId entry.t2i key) entries) (EntriesGiveId entries key) → IfSome id (λ n. n < 2 ^ 64)
    → IsIdIn base term id
id_later time early base entries term key (Some id) is rule spelled new gives fits =
    let since = (is.told key id fits).0 gives in
    let known = each_of IsTerm base since.term is.rules (at_place base since.has.0 since.term since.has.1) in
    let same : since.term ≡ term = spelling_same since.term term known rule (sym since.key_is ∙ spelled) in
    subst (λ (t : Term). HasIdIn base t id) same since.has
id_later time early base entries term key None is rule spelled new none fits = λ id has.
    let low : has.0 < length base = slice_get_within base has.0 term has.1 in
    let small = is.fits in
    let n = has.2 in
    elim (cases_lt (length early) id) [
      | inl fresh ↦
          let gives = (is.told key id (omega arith)).1 (record { term = term; has = has; new = fresh; key_is = spelled }) in
          let never = each_of (λ entry. GiveNoId entry.t2i key) entries gives.0 none gives.1 in
          never gives.0.time id (each_of (λ entry. AreChanges entry.time entry.t2i) entries gives.0 is.changes gives.1) gives.2
      | inr old ↦
          let early_place : has.0 < length early = omega arith in
          new id (has.0, sym (slice_get-append early is.grown.0 has.0 early_place) ∙ ap (λ ts. slice_get ts has.0) (sym is.grown.1) ∙ has.1, n)
    ]

-- one term more has its id
pub known_more : (time : ℕ) (base terms : List Term) (i : ℕ) (term : Term) (known all : List (Option ℕ)) (id : Option ℕ) → i < length terms → term ≡ get_or terms i term
    → AreIdsAt time base (take i terms) known → IsIdIn base (bound_term time term) id → all ≡ known ++ (id ∷ []) → AreIdsAt time base (take (i + 1) terms) all
known_more time base terms i term known all id below is so_far here pushed =
    let more : take (i + 1) terms ≡ take i terms ++ (term ∷ []) = take_more terms i term below ∙ ap (λ t. take i terms ++ (t ∷ [])) (sym is) in
    let R = λ (t : Term) (o : Option ℕ). IsIdIn base (bound_term time t) o in
    let new : AllZip R (take i terms ++ (term ∷ [])) (known ++ (id ∷ [])) = all_zipped_more R (take i terms) known term id so_far here in
    subst (AllZip R (take (i + 1) terms)) (sym pushed) (subst (λ (ts : List Term). AllZip R ts (known ++ (id ∷ []))) (sym more) new)
