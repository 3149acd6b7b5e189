-- The rows of an entry are those of the history's last change.
use Rattle.std.proofs.Common.{◌≡◌, ℕ, suc, ◌+◌, ◌<◌, ◌^◌, List, [], ◌∷◌, ◌++◌, map, length, get_or, Option, Some, None, ◌⊎◌, inl, inr, ◌↔◌, refl, sym, ◌∙◌, ap, subst, arith, length-append}
use Rattle.std.specs.declared.cmp.Ordering.TheVariants.{Less}
use Rattle.std.specs.Ordering.{nat_cmp, is_lt}
use Rattle.std.specs.Cmp.{nat_cmp_is}
use Rattle.std.specs.Cmp.Lexicographic.{slice_cmp}
use Rattle.std.specs.List.{slice_get, filter_map, cons_option, AllByRecursion}
use Rattle.std.proofs.lemmas.Option.{none-some, same_Some}
use Rattle.term_core.specs.declared.term.Term.{Term}
use Rattle.term_core.specs.declared.statement.Statement.{Statement}
use Rattle.base_core.specs.Lists.{Has, AreDistinct}
use Rattle.term_core.specs.Term.{IsTerm}
use Rattle.term_core.specs.Spelling.{spelling}
use Rattle.base_core.specs.Numbers.{number_bytes}
use Rattle.triple_keys.specs.declared.key.Ids.{Ids}
use Rattle.triple_keys.specs.declared.order.Order.{Order}
use Rattle.triple_keys.proofs.Ordering.{number_bytes-cmp}
use Rattle.row_core.specs.declared.rows.Row.{Row}
use Rattle.row_core.specs.Rows.{ComesBefore, StandInOrder}
use Rattle.change_model.specs.declared.history.Committed.{Committed}
use Rattle.change_model.specs.declared.numbering.NewTerm.{NewTerm}
use Rattle.change_model.specs.declared.vocabulary.Places.{Places}
use Rattle.change_model.specs.History.{History, bound_term, bound_at}
use Rattle.change_model.specs.Lexicon.{lexicon_at, HaveIds}
use Rattle.change_model.specs.IndexRows.{AppearsAt, StandsIn, CellAt, cell_of, IsTermRow, IsIdRow, IsStatementRow}
use Rattle.change_model.specs.Entries.{IsPlaced, ArePlaced}
use Rattle.change_model.specs.EntryRows.{HaveOwnKeys, term_row, id_row, statement_row}
use Rattle.change_model.specs.Numbering.{HasIdIn, IsIdIn, AreIdsAt, new_terms, IsNumbering, three_ids, ids_at}
use Rattle.change_model.proofs.Members.{one_place, Has-map, Has-from_map}
use Rattle.term_core.proofs.Spelling.{spelling_same}
use Rattle.change_model.proofs.EntryNumbering.{brought_told}
use Rattle.change_model.proofs.EntryGiven.{zip_got}

-- a term has one id
one_id : (known : List Term) (term : Term) (id other : ℕ) → AreDistinct known → HasIdIn known term id → HasIdIn known term other → id ≡ other
one_id known term id other apart has also = has.2 ∙ ap suc (one_place known has.0 also.0 term apart has.1 also.1) ∙ sym also.2

-- ---- keys

-- terms have keys of their own where their spellings tell them apart
no_key : (number time : ℕ) (terms : List Term) (term : Term) → IsTerm term → AllByRecursion IsTerm terms → (Has terms term → ⊥)
    → Has (map (λ (r : Row). r.key) (map (term_row time) (new_terms number terms))) (spelling term) → ⊥
no_key number time [] term rule rules apart h = h
no_key number time (first ∷ terms) term rule rules apart (inl same) = apart (inl (spelling_same first term rules.0 rule same))
no_key number time (first ∷ terms) term rule rules apart (inr more) = no_key (suc number) time terms term rule rules.1 (λ h. apart (inr h)) more

new_keys : (number time : ℕ) (terms : List Term) → AreDistinct terms → AllByRecursion IsTerm terms → HaveOwnKeys (map (term_row time) (new_terms number terms))
new_keys number time [] apart rules = tt
new_keys number time (term ∷ terms) apart rules = (no_key (suc number) time terms term rules.0 rules.1 apart.0, new_keys (suc number) time terms apart.1 rules.1)

distinct_behind : (xs ys : List Term) → AreDistinct (xs ++ ys) → AreDistinct ys
distinct_behind [] ys apart = apart
distinct_behind (x ∷ xs) ys apart = distinct_behind xs ys apart.1

rules_behind : (xs ys : List Term) → AllByRecursion IsTerm (xs ++ ys) → AllByRecursion IsTerm ys
rules_behind [] ys all = all
rules_behind (x ∷ xs) ys all = rules_behind xs ys all.1

pub term_rows_own : (base known : List Term) (number time : ℕ) (brought : List NewTerm) → AreDistinct known → IsNumbering base known number brought
    → HaveOwnKeys (map (term_row time) brought)
term_rows_own base known number time brought apart is =
    let new = is.grown.0 in
    subst (λ (es : List NewTerm). HaveOwnKeys (map (term_row time) es)) (sym is.entries)
    (new_keys (length base) time new (distinct_behind base new (subst AreDistinct is.grown.1 apart)) (rules_behind base new (subst (AllByRecursion IsTerm) is.grown.1 is.rules)))

-- the ids of brought terms ascend, so their rows stand in order
above : (time low number : ℕ) (terms : List Term) (key : List ℕ) → low < suc number → number + length terms < 2 ^ 64
    → AllByRecursion (ComesBefore (id_row time (record { key = key; id = low }))) (map (id_row time) (new_terms number terms))
above time low number [] key under small = tt
above time low number (term ∷ terms) key under small =
    let less : nat_cmp low (suc number) ≡ Less = sym (nat_cmp_is low (suc number) Less under) in
    let before : slice_cmp nat_cmp (number_bytes low) (number_bytes (suc number)) ≡ Less = number_bytes-cmp low (suc number) (omega arith) (omega arith) ∙ less in
    (inl (ap is_lt before), above time low (suc number) terms key (omega arith) (omega arith))

new_order : (time number : ℕ) (terms : List Term) → number + length terms < 2 ^ 64 → StandInOrder (map (id_row time) (new_terms number terms))
new_order time number [] small = tt
new_order time number (term ∷ terms) small = (above time (suc number) (suc number) terms (spelling term) (omega arith) (omega arith), new_order time (suc number) terms (omega arith))

pub id_rows_order : (base known : List Term) (number time : ℕ) (brought : List NewTerm) → length known < 2 ^ 64 → IsNumbering base known number brought
    → StandInOrder (map (id_row time) brought)
id_rows_order base known number time brought small is =
    let low : length base + length is.grown.0 < 2 ^ 64 = omega (arith, ap length is.grown.1, length-append base is.grown.0) in
    subst (λ (es : List NewTerm). StandInOrder (map (id_row time) es)) (sym is.entries) (new_order time (length base) is.grown.0 low)

-- ---- the rows of terms

-- a row of a term that first appears after the first k changes
record IsMadeRow (f : ℕ → NewTerm → Row) (history : History) (row : Row) : Type 0 where
  k : ℕ
  term : Term
  id : ℕ
  appears : AppearsAt history k term id
  row_is : row ≡ f (suc k) (record { key = spelling term; id = id })

-- what the entries of a numbering say
module _ (f : ℕ → NewTerm → Row) (timed : (t : ℕ) (e : NewTerm) → (f t e).time ≡ t) (longer : History) (n number : ℕ) (entries : List NewTerm)
    (is : IsNumbering (lexicon_at longer n) (lexicon_at longer (suc n)) number entries) where
  made_to : (row : Row) → Has (map (f (suc n)) entries) row → IsMadeRow f longer row × (row.time ≡ suc n)
  made_to row h =
      let from = Has-from_map (f (suc n)) entries row h in
      let b = (brought_told _ _ number entries is from.0).0 from.1 in (
        record {
          k = n;
          term = b.term;
          id = from.0.id;
          appears = record { has = b.has; new = b.new };
          row_is = sym from.2 ∙ (λ i. f (suc n) (record { key = b.spelled i; id = from.0.id }));
        },
        ap (λ (r : Row). r.time) (sym from.2) ∙ timed (suc n) from.0,
      )

  made_from : (row : Row) → IsMadeRow f longer row → row.time ≡ suc n → Has (map (f (suc n)) entries) row
  made_from row made time =
      let new : NewTerm = record { key = spelling made.term; id = made.id } in
      let times : suc made.k ≡ suc n = sym (timed (suc made.k) new) ∙ ap (λ (r : Row). r.time) (sym made.row_is) ∙ time in
      let at : made.k ≡ n = omega arith in
      let appears : AppearsAt longer n made.term made.id = subst (λ k. AppearsAt longer k made.term made.id) at made.appears in
      let entry : Has entries new =
      (brought_told _ _ number entries is new).1 (record { term = made.term; has = appears.has; new = appears.new; spelled = refl }) in
      subst (Has (map (f (suc n)) entries)) (ap (λ t. f t new) (sym times) ∙ sym made.row_is) (Has-map (f (suc n)) entries new entry)

pub term_rows_exactly : (longer : History) (n number : ℕ) (entries : List NewTerm) → IsNumbering (lexicon_at longer n) (lexicon_at longer (suc n)) number entries
    → (row : Row) → (Has (map (term_row (suc n)) entries) row ↔ (IsTermRow longer row × (row.time ≡ suc n)))
term_rows_exactly longer n number entries is row = (
  λ h. let to = made_to term_row (λ t e. refl) longer n number entries is row h in
      (record { k = to.0.k; term = to.0.term; id = to.0.id; appears = to.0.appears; row_is = to.0.row_is }, to.1),
  λ w. made_from term_row (λ t e. refl) longer n number entries is row
      (record { k = w.0.k; term = w.0.term; id = w.0.id; appears = w.0.appears; row_is = w.0.row_is }) w.1,
)

pub id_rows_exactly : (longer : History) (n number : ℕ) (entries : List NewTerm) → IsNumbering (lexicon_at longer n) (lexicon_at longer (suc n)) number entries
    → (row : Row) → (Has (map (id_row (suc n)) entries) row ↔ (IsIdRow longer row × (row.time ≡ suc n)))
id_rows_exactly longer n number entries is row = (
  λ h. let to = made_to id_row (λ t e. refl) longer n number entries is row h in
      (record { k = to.0.k; term = to.0.term; id = to.0.id; appears = to.0.appears; row_is = to.0.row_is }, to.1),
  λ w. made_from id_row (λ t e. refl) longer n number entries is row
      (record { k = w.0.k; term = w.0.term; id = w.0.id; appears = w.0.appears; row_is = w.0.row_is }) w.1,
)

-- ---- statements

three_told : (a b c : Option ℕ) (ids : Ids) → three_ids a b c ≡ Some ids → (a ≡ Some ids.subject) × (b ≡ Some ids.predicate) × (c ≡ Some ids.object)
three_told None b c ids e = absurd (none-some ids e)
three_told (Some s) None c ids e = absurd (none-some ids e)
three_told (Some s) (Some p) None ids e = absurd (none-some ids e)
three_told (Some s) (Some p) (Some o) ids e =
    let same = same_Some _ ids e in
    (ap (λ (i : Ids). Some i.subject) same, ap (λ (i : Ids). Some i.predicate) same, ap (λ (i : Ids). Some i.object) same)

three_made : (a b c : Option ℕ) (ids : Ids) → a ≡ Some ids.subject → b ≡ Some ids.predicate → c ≡ Some ids.object → three_ids a b c ≡ Some ids
three_made a b c ids e f g = λ i. three_ids (e i) (f i) (g i)

from_cons : {B : Type 0} (o : Option B) (rest : List B) (y : B) → Has (cons_option o rest) y → (o ≡ Some y) ⊎ Has rest y
from_cons None rest y h = inr h
from_cons (Some b) rest y (inl same) = inl (ap Some same)
from_cons (Some b) rest y (inr more) = inr more

onto_cons : {B : Type 0} (o : Option B) (rest : List B) (y : B) → (o ≡ Some y) ⊎ Has rest y → Has (cons_option o rest) y
onto_cons None rest y (inl e) = absurd (none-some y e)
onto_cons None rest y (inr h) = h
onto_cons (Some b) rest y (inl e) = inl (same_Some b y e)
onto_cons (Some b) rest y (inr h) = inr h

Has-from_filter_map : {A B : Type 0} (f : A → Option B) (xs : List A) (y : B) → Has (filter_map f xs) y → (x : A) × Has xs x × (f x ≡ Some y)
Has-from_filter_map f [] y h = absurd h
Has-from_filter_map f (x ∷ xs) y h =
    elim (from_cons (f x) (filter_map f xs) y h) [ inl e ↦ (x, inl refl, e) | inr more ↦ let rest = Has-from_filter_map f xs y more in (rest.0, inr rest.1, rest.2) ]

Has-filter_map : {A B : Type 0} (f : A → Option B) (xs : List A) (x : A) (y : B) → Has xs x → f x ≡ Some y → Has (filter_map f xs) y
Has-filter_map f [] x y h e = absurd h
Has-filter_map f (first ∷ xs) x y (inl same) e = onto_cons (f first) (filter_map f xs) y (inl (ap f same ∙ e))
Has-filter_map f (first ∷ xs) x y (inr more) e = onto_cons (f first) (filter_map f xs) y (inr (Has-filter_map f xs x y more e))

-- each statement has its places, and each places their statement
places_of : (terms : List Term) (statements : List Statement) (places : List Places) (s : Statement) → ArePlaced terms statements places → Has statements s
    → (p : Places) × Has places p × IsPlaced terms s p
places_of terms [] [] s placed h = absurd h
places_of terms [] (p ∷ places) s placed h = absurd h
places_of terms (first ∷ statements) [] s placed h = absurd placed
places_of terms (first ∷ statements) (p ∷ places) s placed (inl same) = (p, inl refl, subst (λ (x : Statement). IsPlaced terms x p) same placed.0)
places_of terms (first ∷ statements) (p ∷ places) s placed (inr more) = let rest = places_of terms statements places s placed.1 more in (rest.0, inr rest.1, rest.2)

statement_of : (terms : List Term) (statements : List Statement) (places : List Places) (p : Places) → ArePlaced terms statements places → Has places p
    → (s : Statement) × Has statements s × IsPlaced terms s p
statement_of terms [] [] p placed h = absurd h
statement_of terms [] (first ∷ places) p placed h = absurd placed
statement_of terms (s ∷ statements) [] p placed h = absurd h
statement_of terms (s ∷ statements) (first ∷ places) p placed (inl same) = (s, inl refl, subst (IsPlaced terms s) same placed.0)
statement_of terms (s ∷ statements) (first ∷ places) p placed (inr more) = let rest = statement_of terms statements places p placed.1 more in (rest.0, inr rest.1, rest.2)

the_id : (known : List Term) (term : Term) (o : Option ℕ) (id : ℕ) → AreDistinct known → IsIdIn known term o → HasIdIn known term id → o ≡ Some id
the_id known term None id apart is has = absurd (is id has)
the_id known term (Some other) id apart is has = ap Some (one_id known term other id apart is has)

-- what the ids of a change's terms say of its statements
module _ (order : Order) (longer : History) (n : ℕ) (c : Committed) (terms : List Term) (places : List Places) (ids : List (Option ℕ))
    (at : slice_get longer n ≡ Some c) (placed : ArePlaced terms c.change.statements places) (are : AreIdsAt (suc n) (lexicon_at longer (suc n)) terms ids) where
  its_id : (t : Term) (place : ℕ) → slice_get terms place ≡ Some t → IsIdIn (lexicon_at longer (suc n)) (bound_term (suc n) t) (get_or ids place None)
  its_id t place e = zip_got (λ x o. IsIdIn (lexicon_at longer (suc n)) (bound_term (suc n) x) o) terms ids place t None are e

  statement_to : (row : Row) → Has (map (statement_row order c.change.kind (suc n)) (filter_map (ids_at ids) places)) row → IsStatementRow order longer row × (row.time ≡ suc n)
  statement_to row h =
      let from = Has-from_map (statement_row order c.change.kind (suc n)) (filter_map (ids_at ids) places) row h in
      let got = Has-from_filter_map (ids_at ids) places from.0 from.1 in
      let here = statement_of terms c.change.statements places got.0 placed got.1 in
      let three = three_told _ _ _ from.0 got.2 in
      let time : row.time ≡ suc n = sym (ap (λ (r : Row). r.time) from.2) in
      let Own = λ (t : Term) (o : Option ℕ). IsIdIn (lexicon_at longer (suc n)) (bound_term (suc n) t) o in (
        record {
          k = n;
          statement = bound_at (suc n) here.0;
          ids = from.0;
          stands = subst (λ o. StandsIn o n (bound_at (suc n) here.0)) (sym at) (Has-map (bound_at (suc n)) c.change.statements here.0 here.1);
          have = record {
            subject = subst (Own here.0.subject) three.0 (its_id here.0.subject got.0.subject here.2.subject);
            predicate = subst (Own here.0.predicate) three.1 (its_id here.0.predicate got.0.predicate here.2.predicate);
            object = subst (Own here.0.object) three.2 (its_id here.0.object got.0.object here.2.object);
          };
          cell_is = subst (λ o. CellAt o row.cell) (sym at) (sym (ap (λ (r : Row). r.cell) from.2));
          key_is = sym (ap (λ (r : Row). r.key) from.2);
          time_is = time;
        },
        time,
      )

  statement_from : AreDistinct (lexicon_at longer (suc n)) → (row : Row) → IsStatementRow order longer row → row.time ≡ suc n
      → Has (map (statement_row order c.change.kind (suc n)) (filter_map (ids_at ids) places)) row
  statement_from apart row w time =
      let same : w.k ≡ n = let e = w.time_is in omega arith in
      let stands : Has (map (bound_at (suc n)) c.change.statements) w.statement =
      subst (λ o. StandsIn o n w.statement) at (subst (λ k. StandsIn (slice_get longer k) k w.statement) same w.stands) in
      let have : HaveIds longer (suc n) w.statement w.ids = subst (λ k. HaveIds longer (suc k) w.statement w.ids) same w.have in
      let cell : row.cell ≡ cell_of c.change.kind = subst (λ o. CellAt o row.cell) at (subst (λ k. CellAt (slice_get longer k) row.cell) same w.cell_is) in
      let from = Has-from_map (bound_at (suc n)) c.change.statements w.statement stands in
      let here = places_of terms c.change.statements places from.0 placed from.1 in
      let Has_id = λ (t : Term) (id : ℕ). HasIdIn (lexicon_at longer (suc n)) t id in
      let subject : get_or ids here.0.subject None ≡ Some w.ids.subject = the_id (lexicon_at longer (suc n)) (bound_term (suc n) from.0.subject) _ w.ids.subject apart
      (its_id from.0.subject here.0.subject here.2.subject) (subst (λ (t : Term). Has_id t w.ids.subject) (sym (ap (λ (s : Statement). s.subject) from.2)) have.subject) in
      let predicate : get_or ids here.0.predicate None ≡ Some w.ids.predicate = the_id (lexicon_at longer (suc n)) (bound_term (suc n) from.0.predicate) _ w.ids.predicate apart
      (its_id from.0.predicate here.0.predicate here.2.predicate) (subst (λ (t : Term). Has_id t w.ids.predicate) (sym (ap (λ (s : Statement). s.predicate) from.2)) have.predicate) in
      let object : get_or ids here.0.object None ≡ Some w.ids.object = the_id (lexicon_at longer (suc n)) (bound_term (suc n) from.0.object) _ w.ids.object apart
      (its_id from.0.object here.0.object here.2.object) (subst (λ (t : Term). Has_id t w.ids.object) (sym (ap (λ (s : Statement). s.object) from.2)) have.object) in
      let listed = Has-filter_map (ids_at ids) places here.0 w.ids here.1 (three_made _ _ _ w.ids subject predicate object) in
      let made : statement_row order c.change.kind (suc n) w.ids ≡ row = λ i. record { key = (sym w.key_is) i; time = (sym time) i; cell = (sym cell) i } in
      subst (Has (map (statement_row order c.change.kind (suc n)) (filter_map (ids_at ids) places))) made
      (Has-map (statement_row order c.change.kind (suc n)) (filter_map (ids_at ids) places) w.ids listed)

pub statement_rows_exactly : (order : Order) (longer : History) (n : ℕ) (c : Committed) (terms : List Term) (places : List Places) (ids : List (Option ℕ))
    → slice_get longer n ≡ Some c → ArePlaced terms c.change.statements places → AreIdsAt (suc n) (lexicon_at longer (suc n)) terms ids → AreDistinct (lexicon_at longer (suc n))
    → (row : Row) → (Has (map (statement_row order c.change.kind (suc n)) (filter_map (ids_at ids) places)) row ↔ (IsStatementRow order longer row × (row.time ≡ suc n)))
statement_rows_exactly order longer n c terms places ids at placed are apart row =
    (statement_to order longer n c terms places ids at placed are row, λ w. statement_from order longer n c terms places ids at placed are apart row w.0 w.1)
