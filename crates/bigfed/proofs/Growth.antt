-- The indexes of a history, as it grows by one change.
use Rattle.std.proofs.Common.{◌≡◌, ℕ, zero, suc, ◌+◌, ◌*◌, ◌<◌, ◌≤◌, ◌^◌, Bool, true, false, if◌then◌else◌, List, [], ◌∷◌, ◌++◌, length, map, Option, None, inl, inr, refl, sym, ◌∙◌, ap, subst, arith, take, get_or}
use Rattle.std.proofs.lemmas.List.{take_more, take_all, length-map}
use Rattle.std.specs.List.{AllByRecursion, list_any}
use Rattle.term_core.specs.declared.term.Term.{Term}
use Rattle.term_core.specs.declared.statement.Statement.{Statement}
use Rattle.base_core.specs.Lists.{Has}
use Rattle.term_core.specs.Spelling.{spelling}
use Rattle.term_core.specs.Term.{IsTerm, IsStatement}
use Rattle.fed_bytes.specs.declared.span.Span.{Span}
use Rattle.fed_bytes.specs.Keys.{IsUpTo, IsIn, IsBeforeEnd}
use Rattle.row_core.specs.declared.rows.Index.{Index}
use Rattle.row_core.specs.declared.rows.Index.TheVariants.{T2i, I2t, Spo, Pos, Osp}
use Rattle.row_core.specs.declared.rows.Row.{Row}
use Rattle.window_core.specs.declared.live.LiveWindow.{LiveWindow}
use Rattle.row_core.specs.Rows.{AreExtended}
use Rattle.row_core.proofs.Lists.{of_each, each}
use Rattle.change_model.specs.declared.entry.Entry.{Entry}
use Rattle.change_model.specs.declared.history.Kind.{Kind}
use Rattle.change_model.specs.declared.history.Kind.TheVariants.{Add, Remove}
use Rattle.change_model.specs.declared.history.Committed.{Committed}
use Rattle.change_model.specs.declared.history.Origin.{Origin}
use Rattle.change_model.specs.declared.vocabulary.Vocabulary.{Vocabulary}
use Rattle.change_model.specs.History.{History, bound_at}
use Rattle.change_model.specs.Lexicon.{lexicon_at, same_term, with_term, with_terms, terms_of, terms_at, brought}
use Rattle.change_model.specs.Entries.{AreRowsOf, IsLastEntry, AreIdsOf, IsIdOf, IsVocabularyOf}
use Rattle.change_model.specs.Laws.{IsWritable}
use Rattle.bigfed.specs.declared.indexes.Indexes.{Indexes}
use Rattle.bigfed.specs.Indexed.{IsIndexOf, AreIndexesOf, rows_in, upto_of, span_of}
use Rattle.bigfed.specs.Adding.{AreNextOf, IsNextOf}
use Rattle.change_model.proofs.Lexicons.{lexicon_at-append}
use Rattle.change_model.proofs.Members.{slice_get-last, length-one_more}
use Rattle.change_model.proofs.Rows.{IsRow-one_more}
use Rattle.change_model.proofs.Terms.{terms_of-each}

-- ---- the empty history

pub empty_is_writable : IsWritable []
empty_is_writable = record { statements = tt; times = omega arith; ids = omega arith }

-- ---- one more change

-- each key is in a span without ends
from_nothing : (key : List ℕ) → IsUpTo [] key
from_nothing [] = refl
from_nothing (b ∷ key) = refl

every_key : (span : Span) (key : List ℕ) → span.left ≡ [] → span.right ≡ None → IsIn span key
every_key span key left right =
    (subst (λ end. IsUpTo end key) (sym left) (from_nothing key), subst (λ end. IsBeforeEnd key end) (sym right) tt)

-- a window with the rows of the next change is an index of the longer history
pub index_grows : (index : Index) (history : History) (committed : Committed) (old new : LiveWindow) (rows : List Row) (time : ℕ)
    → IsIndexOf index history old → time ≡ length (history ++ committed ∷ []) → AreRowsOf index (history ++ committed ∷ []) time rows
    → AreExtended (span_of old) (rows_in old) rows (rows_in new) → upto_of new ≡ time → span_of new ≡ span_of old
    → IsIndexOf index (history ++ committed ∷ []) new
index_grows index history committed old new rows time was at are extended upto span = record {
  rows = λ row.
      let grown = IsRow-one_more index history committed row in
      let long : time ≡ suc (length history) = at ∙ length-one_more history committed in (
        λ h. grown.1 (elim ((extended.has row).0 h) [
          | inl before ↦ inl ((was.rows row).0 before)
          | inr new ↦ let is = (are.exactly row).0 new.0 in inr (is.0, is.1 ∙ long)
        ]),
        λ is. (extended.has row).1 (elim (grown.0 is) [
          | inl before ↦ inl ((was.rows row).1 before)
          | inr new ↦ inr ((are.exactly row).1 (new.0, new.1 ∙ sym long), every_key (span_of old) row.key was.left was.right)
        ]),
      );
  upto = upto ∙ at;
  left = ap (λ (s : Span). s.left) span ∙ was.left;
  right = ap (λ (s : Span). s.right) span ∙ was.right;
}

-- the rows of the next change change a window at the next time
next_of : (index : Index) (history : History) (committed : Committed) (window : LiveWindow) (rows : List Row) (time : ℕ)
    → IsIndexOf index history window → time ≡ length (history ++ committed ∷ []) → AreRowsOf index (history ++ committed ∷ []) time rows → AreNextOf window time rows
next_of index history committed window rows time was at are =
    let long = length-one_more history committed in
    let upto = was.upto in
    record {
      next = omega arith;
      changes = record { in_order = are.order; times = each (λ row. row.time ≡ time) rows (λ row there. ((are.exactly row).0 there).1) };
    }

pub entry_is_next : (history : History) (committed : Committed) (indexes : Indexes) (entry : Entry) → AreIndexesOf history indexes
    → IsLastEntry (history ++ committed ∷ []) entry → IsNextOf indexes entry
entry_is_next history committed indexes entry are last = record {
  t2i = next_of T2i history committed indexes.t2i entry.t2i entry.time are.t2i last.time last.t2i;
  i2t = next_of I2t history committed indexes.i2t entry.i2t entry.time are.i2t last.time last.i2t;
  spo = next_of Spo history committed indexes.spo entry.spo entry.time are.spo last.time last.spo;
  pos = next_of Pos history committed indexes.pos entry.pos entry.time are.pos last.time last.pos;
  osp = next_of Osp history committed indexes.osp entry.osp entry.time are.osp last.time last.osp;
}

-- ---- how many ids there are

with_term-length : (known : List Term) (term : Term) → length (with_term known term) ≤ length known + 1
with_term-length known term = by (list_any (same_term term) known)
  where
    by : (t : Bool) → length (if t then known else known ++ term ∷ []) ≤ length known + 1
    by true = omega arith
    by false = let long = length-one_more known term in omega arith

with_terms-length : (known terms : List Term) → length (with_terms known terms) ≤ length known + length terms
with_terms-length known [] = omega arith
with_terms-length known (term ∷ terms) =
    let one = with_term-length known term in
    let rest = with_terms-length (with_term known term) terms in omega arith

terms_of-length : (time : ℕ) (statements : List Statement) → length (terms_of (map (bound_at time) statements)) ≡ 3 * length statements
terms_of-length time [] = refl
terms_of-length time (statement ∷ statements) = let rest = terms_of-length time statements in omega arith

brought-length : (kind : Kind) (terms : List Term) → length (brought kind terms) ≤ length terms
brought-length Add terms = omega arith
brought-length Remove terms = omega arith

ids_fit : (history : History) (committed : Committed)
    → length (lexicon_at (history ++ committed ∷ []) (length (history ++ committed ∷ []))) ≤ length (lexicon_at history (length history)) + 3 * length committed.change.statements
ids_fit history committed =
    let n = length history in
    let known = lexicon_at history n in
    let time = suc n in
    let here : lexicon_at (history ++ committed ∷ []) (suc n) ≡ with_terms known (terms_at time committed.change) =
    rw (slice_get-last history committed, lexicon_at-append history (committed ∷ []) n (omega arith)) refl in
    let grown = with_terms-length known (terms_at time committed.change) in
    let few = brought-length committed.change.kind (terms_of (map (bound_at time) committed.change.statements)) in
    let three = terms_of-length time committed.change.statements in
    let long : lexicon_at (history ++ committed ∷ []) (length (history ++ committed ∷ [])) ≡ with_terms known (terms_at time committed.change) =
    ap (lexicon_at (history ++ committed ∷ [])) (length-one_more history committed) ∙ here in
    let count : length (lexicon_at (history ++ committed ∷ []) (length (history ++ committed ∷ []))) ≡ length (with_terms known (terms_at time committed.change)) = ap length long in
    omega arith

all_more : {A : Type 0} (P : A → Type 0) (xs : List A) (x : A) → AllByRecursion P xs → P x → AllByRecursion P (xs ++ x ∷ [])
all_more P [] x all h = (h, tt)
all_more P (y ∷ xs) x all h = (all.0, all_more P xs x all.1 h)

-- a longer history for which there is room is one that a store may have
pub writable_grows : (history : History) (committed : Committed) (terms : ℕ) → IsWritable history → AllByRecursion IsStatement committed.change.statements
    → terms ≡ length (lexicon_at history (length history)) → length history + 1 < 2 ^ 64 → terms + 3 * length committed.change.statements < 2 ^ 64
    → IsWritable (history ++ committed ∷ [])
writable_grows history committed terms writable are is times ids =
    let long = length-one_more history committed in
    let fit = ids_fit history committed in
    record {
      statements = all_more (λ (c : Committed). AllByRecursion IsStatement c.change.statements) history committed writable.statements are;
      times = omega arith;
      ids = omega arith;
    }

-- ---- the ids of a change's terms

ids_more : (history : History) (terms : List Term) (ids : List (Option ℕ)) (term : Term) (id : Option ℕ) → AreIdsOf history terms ids → IsIdOf history term id
    → AreIdsOf history (terms ++ term ∷ []) (ids ++ id ∷ [])
ids_more history [] [] term id are is = (is, tt)
ids_more history [] (other ∷ ids) term id are is = absurd are
ids_more history (first ∷ terms) [] term id are is = absurd are
ids_more history (first ∷ terms) (other ∷ ids) term id are is = (are.0, ids_more history terms ids term id are.1 is)

-- the id of the next term
pub ids_turn : (history : History) (all : List Term) (i : ℕ) (term : Term) (id : Option ℕ) (ids new : List (Option ℕ)) → i < length all → term ≡ get_or all i term
    → AreIdsOf history (take i all) ids → IsIdOf history term id → new ≡ ids ++ id ∷ [] → AreIdsOf history (take (i + 1) all) new
ids_turn history all i term id ids new below at are is pushed =
    let longer : take (i + 1) all ≡ take i all ++ term ∷ [] = take_more all i term below ∙ ap (λ x. take i all ++ x ∷ []) (sym at) in
    subst (AreIdsOf history (take (i + 1) all)) (sym pushed)
    (subst (λ terms. AreIdsOf history terms (ids ++ id ∷ [])) (sym longer) (ids_more history (take i all) ids term id are is))

one_keeps : (t : Bool) (known : List Term) (term : Term) → ((one : Term) → Has known one → IsTerm one) → IsTerm term
    → (one : Term) → Has (if t then known else known ++ term ∷ []) one → IsTerm one
one_keeps true known term all is one there = all one there
one_keeps false known term all is one there =
    of_each IsTerm (known ++ term ∷ []) (all_more IsTerm known term (each IsTerm known all) is) one there

with_terms-keep : (known terms : List Term) → ((one : Term) → Has known one → IsTerm one) → ((one : Term) → Has terms one → IsTerm one)
    → (one : Term) → Has (with_terms known terms) one → IsTerm one
with_terms-keep known [] all are one there = all one there
with_terms-keep known (term ∷ terms) all are one there =
    with_terms-keep (with_term known term) terms (one_keeps (list_any (same_term term) known) known term all (are term (inl refl)))
    (λ other h. are other (inr h)) one there

-- the terms of statements keep the rules on their characters
pub vocabulary_keeps : (statements : List Statement) (vocabulary : Vocabulary) → AllByRecursion IsStatement statements → IsVocabularyOf statements vocabulary
    → AllByRecursion IsTerm vocabulary.terms
vocabulary_keeps statements vocabulary are is =
    let each_term : (one : Term) → Has (terms_of statements) one → IsTerm one =
    terms_of-each IsTerm statements (λ statement there. let one = of_each IsStatement statements are statement there in (one.subject, one.predicate, one.object)) in
    subst (AllByRecursion IsTerm) (sym is.terms) (each IsTerm (with_terms [] (terms_of statements)) (with_terms-keep [] (terms_of statements) (λ one h. absurd h) each_term))

-- ---- the store

origins-one_more : (history : History) (e : Committed)
    → map (λ (committed : Committed). committed.origin) (history ++ e ∷ []) ≡ map (λ (committed : Committed). committed.origin) history ++ e.origin ∷ []
origins-one_more [] e = refl
origins-one_more (first ∷ history) e = ap (λ rest. first.origin ∷ rest) (origins-one_more history e)

pub origins_grow : (history : History) (e : Committed) (old new : List Origin) → old ≡ map (λ (committed : Committed). committed.origin) history → new ≡ old ++ e.origin ∷ []
    → new ≡ map (λ (committed : Committed). committed.origin) (history ++ e ∷ [])
origins_grow history e old new was is = is ∙ ap (λ xs. xs ++ e.origin ∷ []) was ∙ sym (origins-one_more history e)

-- ---- ids by spellings

spelled_next : (history : History) (terms : List Term) (i : ℕ) (key : List ℕ) (id : Option ℕ) (ids : List (Option ℕ)) → i < length terms
    → key ≡ get_or (map spelling terms) i key → AllByRecursion IsTerm terms → ((term : Term) → IsTerm term → key ≡ spelling term → IsIdOf history term id)
    → AreIdsOf history (take i terms) ids → AreIdsOf history (take (suc i) terms) (ids ++ id ∷ [])
spelled_next history [] i key id ids below at rules is are = absurd (omega arith)
spelled_next history (term ∷ terms) zero key id [] below at rules is are = (is term rules.0 at, tt)
spelled_next history (term ∷ terms) zero key id (first ∷ ids) below at rules is are = absurd are
spelled_next history (term ∷ terms) (suc i) key id [] below at rules is are = absurd are
spelled_next history (term ∷ terms) (suc i) key id (first ∷ ids) below at rules is are =
    (are.0, spelled_next history terms i key id ids (omega arith) at rules.1 is are.1)

-- the id of the term with the next spelling
pub spelled_turn : (history : History) (terms : List Term) (spellings : List (List ℕ)) (i : ℕ) (key : List ℕ) (id : Option ℕ) (ids new : List (Option ℕ))
    → i < length spellings → key ≡ get_or spellings i key → spellings ≡ map spelling terms → AllByRecursion IsTerm terms
    → ((term : Term) → IsTerm term → key ≡ spelling term → IsIdOf history term id)
    → AreIdsOf history (take i terms) ids → new ≡ ids ++ id ∷ [] → AreIdsOf history (take (i + 1) terms) new
spelled_turn history terms spellings i key id ids new below at spelled rules is are pushed =
    let next : i + 1 ≡ suc i = omega arith in
    let long : length spellings ≡ length terms = ap length spelled ∙ length-map terms spelling in
    let there = spelled_next history terms i key id ids (omega arith) (at ∙ ap (λ keys. get_or keys i key) spelled) rules is are in
    subst (AreIdsOf history (take (i + 1) terms)) (sym pushed) (subst (λ n. AreIdsOf history (take n terms) (ids ++ id ∷ [])) (sym next) there)

-- the ids of the terms with all spellings
pub spelled_all : (history : History) (terms : List Term) (spellings : List (List ℕ)) (i : ℕ) (ids made : List (Option ℕ)) → length spellings ≤ i
    → spellings ≡ map spelling terms → AreIdsOf history (take i terms) ids → made ≡ ids → AreIdsOf history terms made
spelled_all history terms spellings i ids made over spelled are same =
    let long : length spellings ≡ length terms = ap length spelled ∙ length-map terms spelling in
    let past : length terms ≤ i = omega (arith, over) in
    subst (AreIdsOf history terms) (sym same) (subst (λ front. AreIdsOf history front ids) (take_all i terms past) are)
