-- The entry of a change has the rows of the history that ends with it.
use Rattle.std.proofs.Common.{◌≡◌, ℕ, suc, ◌<◌, ◌+◌, ◌^◌, List, [], ◌∷◌, ◌++◌, map, length, Option, Some, ◌↔◌, sym, ◌∙◌, ap, subst, arith}
use Rattle.std.specs.List.{slice_get, AllByRecursion, filter_map}
use Rattle.term_core.specs.declared.term.Term.{Term}
use Rattle.base_core.specs.Lists.{Has, AreDistinct}
use Rattle.row_core.specs.Rows.{StandInOrder}
use Rattle.term_core.specs.Term.{IsTerm, IsStatement}
use Rattle.triple_keys.specs.declared.key.Ids.{Ids}
use Rattle.triple_keys.specs.declared.order.Order.{Order}
use Rattle.triple_keys.specs.declared.order.Order.TheVariants as order
use Rattle.row_core.specs.declared.rows.Row.{Row}
use Rattle.row_core.specs.declared.rows.Index.{Index}
use Rattle.row_core.specs.declared.rows.Index.TheVariants.{T2i, I2t, Spo, Pos, Osp}
use Rattle.change_model.specs.declared.history.Committed.{Committed}
use Rattle.change_model.specs.declared.history.Origin.{Origin}
use Rattle.change_model.specs.declared.entry.Entry.{Entry}
use Rattle.change_model.specs.declared.numbering.NewTerm.{NewTerm}
use Rattle.change_model.specs.declared.entry.Resolved.{Resolved}
use Rattle.change_model.specs.History.{History, bound_term}
use Rattle.change_model.specs.Lexicon.{with_terms, terms_of, brought, lexicon_at}
use Rattle.change_model.specs.IndexRows.{IsRow}
use Rattle.change_model.specs.Laws.{IsWritable}
use Rattle.change_model.specs.Entries.{IsVocabularyOf, IsLastEntry, AreRowsOf}
use Rattle.change_model.specs.EntryRows.{HaveOwnKeys, AreOrdered, term_row, id_row, statement_row}
use Rattle.change_model.specs.Numbering.{IsBase, BindWell, AreSpelled, AreIdsAt, IsNumbering, ids_at}
use Rattle.change_model.proofs.Members.{slice_get-last, length-one_more}
use Rattle.change_model.proofs.Lexicons.{AreWith-all, lexicon_at-append, lexicon-distinct, lexicon-terms, IsWritable-at}
use Rattle.change_model.proofs.EntryHistory.{all_from, lexicon-by_vocabulary, no_later_node, vocabulary-binds}
use Rattle.change_model.proofs.EntryExact.{term_rows_own, id_rows_order, term_rows_exactly, id_rows_exactly, statement_rows_exactly}

-- the rows of an index, by rows that are those of the history
rows_of : (index : Index) (history : History) (time : ℕ) (rows given : List Row) → AreOrdered rows given
    → ((row : Row) → (Has given row ↔ (IsRow index history row × (row.time ≡ time)))) → AreRowsOf index history time rows
rows_of index history time rows given ordered exactly = record {
  order = ordered.order;
  exactly = λ row. (λ h. (exactly row).0 ((ordered.same row).0 h), λ w. (ordered.same row).1 ((exactly row).1 w));
}

-- rows that stand in order as they are made
as_they_are : (rows given : List Row) → rows ≡ given → StandInOrder given → AreOrdered rows given
as_they_are rows given same order = subst (λ (rs : List Row). AreOrdered rs given) (sym same) (record { order = order; same = λ row. (λ h. h, λ h. h) })

-- the first terms have so many ids, and the terms of the change have these; before it they had those known
abbrev pub TellsIds : Resolved → List (Option ℕ) → ℕ → ℕ → List (Option ℕ) → Type 0
TellsIds resolved known terms time ids =
    (base : List Term) → IsBase base terms time → AreSpelled resolved.vocabulary → BindWell time resolved.vocabulary.terms → AreIdsAt time base resolved.vocabulary.terms known
    → AreIdsAt time (with_terms base (brought resolved.change.kind (map (bound_term time) resolved.vocabulary.terms))) resolved.vocabulary.terms ids

abbrev pub TellsNumbering : Resolved → List (Option ℕ) → ℕ → ℕ → ℕ → List NewTerm → Type 0
TellsNumbering resolved known terms time number entries =
    (base : List Term) → IsBase base terms time → AreSpelled resolved.vocabulary → BindWell time resolved.vocabulary.terms → AreIdsAt time base resolved.vocabulary.terms known
    → IsNumbering base (with_terms base (brought resolved.change.kind (map (bound_term time) resolved.vocabulary.terms))) number entries

-- what the parts of an entry are made of
pub record AreParts (resolved : Resolved) (known : List (Option ℕ)) (terms time : ℕ) (given : List (Option ℕ)) (entries : List NewTerm) (statements : List Ids) (entry : Entry) : Type 0 where
  pub ids : TellsIds resolved known terms time given
  pub numbering : TellsNumbering resolved known terms time entry.terms entries
  pub listed : statements ≡ filter_map (ids_at given) resolved.vocabulary.places
  pub time_is : entry.time ≡ time
  pub t2i : HaveOwnKeys (map (term_row time) entries) → AreOrdered entry.t2i (map (term_row time) entries)
  pub i2t : entry.i2t ≡ map (id_row time) entries
  pub spo : AreOrdered entry.spo (map (statement_row order.Spo resolved.change.kind time) statements)
  pub pos : AreOrdered entry.pos (map (statement_row order.Pos resolved.change.kind time) statements)
  pub osp : AreOrdered entry.osp (map (statement_row order.Osp resolved.change.kind time) statements)

last_at : (history : History) (resolved : Resolved) (before : List (Option ℕ)) (origin : Origin) (terms : ℕ) (given : List (Option ℕ)) (entries : List NewTerm) (statements : List Ids) (entry : Entry)
    → IsVocabularyOf resolved.change.statements resolved.vocabulary → AreIdsAt (suc (length history)) (lexicon_at history (length history)) resolved.vocabulary.terms before
    → IsWritable (history ++ (record { change = resolved.change; origin = origin } ∷ []))
    → terms ≡ length (lexicon_at history (length history)) → AreParts resolved before terms (suc (length history)) given entries statements entry
    → IsLastEntry (history ++ (record { change = resolved.change; origin = origin } ∷ [])) entry
last_at history resolved before origin terms given entries statements entry is ids writable count parts =
    let n = length history in
    let c : Committed = record { change = resolved.change; origin = origin } in
    let longer : History = history ++ (c ∷ []) in
    let long : length longer ≡ suc n = length-one_more history c in
    let low : suc n < 2 ^ 64 = let h = writable.times in omega arith in
    let last : slice_get longer n ≡ Some c = slice_get-last history c in
    let kept : lexicon_at longer n ≡ lexicon_at history n = lexicon_at-append history (c ∷ []) n (omega arith) in
    let rules : AllByRecursion IsTerm (lexicon_at history n) = subst (AllByRecursion IsTerm) kept (all_from IsTerm (lexicon_at longer n) (lexicon-terms longer n writable)) in
    let well : AllByRecursion IsStatement resolved.change.statements = (IsWritable-at longer n c writable last).1 in
    let base : IsBase (lexicon_at history n) terms (suc n) = record { count = count; rules = rules; earlier = no_later_node history n } in
    let binds : BindWell (suc n) resolved.vocabulary.terms = vocabulary-binds (suc n) resolved.change.statements resolved.vocabulary.terms low well is.terms in
    let spelled : AreSpelled resolved.vocabulary = record {
      apart = subst AreDistinct (sym is.terms) ((AreWith-all [] (terms_of resolved.change.statements)).distinct tt);
      spellings = is.spellings;
    } in
    let known = lexicon-by_vocabulary history c resolved.vocabulary.terms is.terms in
    let numbering : IsNumbering (lexicon_at longer n) (lexicon_at longer (suc n)) entry.terms entries =
    subst (λ (b : List Term). IsNumbering b (lexicon_at longer (suc n)) entry.terms entries) (sym kept)
    (subst (λ (k : List Term). IsNumbering (lexicon_at history n) k entry.terms entries) known (parts.numbering (lexicon_at history n) base spelled binds ids)) in
    let are : AreIdsAt (suc n) (lexicon_at longer (suc n)) resolved.vocabulary.terms given =
    subst (λ (k : List Term). AreIdsAt (suc n) k resolved.vocabulary.terms given) known (parts.ids (lexicon_at history n) base spelled binds ids) in
    let apart = lexicon-distinct longer (suc n) in
    let small : length (lexicon_at longer (suc n)) < 2 ^ 64 = subst (λ (k : ℕ). length (lexicon_at longer k) < 2 ^ 64) long writable.ids in
    let at = λ (o : Order) (rows : List Row). λ (ordered : AreOrdered rows (map (statement_row o resolved.change.kind (suc n)) statements)).
    subst (λ (xs : List Ids). AreOrdered rows (map (statement_row o resolved.change.kind (suc n)) xs)) parts.listed ordered in
    let exactly = λ (o : Order). statement_rows_exactly o longer n c resolved.vocabulary.terms resolved.vocabulary.places given last is.places are apart in
    let time = parts.time_is in
    record {
      time = time ∙ sym long;
      terms = numbering.count ∙ ap (λ k. length (lexicon_at longer k)) (sym long);
      t2i = subst (λ (t : ℕ). AreRowsOf T2i longer t entry.t2i) (sym time)
          (rows_of T2i longer (suc n) entry.t2i _ (parts.t2i (term_rows_own _ _ _ (suc n) entries apart numbering)) (term_rows_exactly longer n entry.terms entries numbering));
      i2t = subst (λ (t : ℕ). AreRowsOf I2t longer t entry.i2t) (sym time)
          (rows_of I2t longer (suc n) entry.i2t _ (as_they_are entry.i2t _ parts.i2t (id_rows_order _ _ _ (suc n) entries small numbering)) (id_rows_exactly longer n entry.terms entries numbering));
      spo = subst (λ (t : ℕ). AreRowsOf Spo longer t entry.spo) (sym time) (rows_of Spo longer (suc n) entry.spo _ (at order.Spo entry.spo parts.spo) (exactly order.Spo));
      pos = subst (λ (t : ℕ). AreRowsOf Pos longer t entry.pos) (sym time) (rows_of Pos longer (suc n) entry.pos _ (at order.Pos entry.pos parts.pos) (exactly order.Pos));
      osp = subst (λ (t : ℕ). AreRowsOf Osp longer t entry.osp) (sym time) (rows_of Osp longer (suc n) entry.osp _ (at order.Osp entry.osp parts.osp) (exactly order.Osp));
    }

pub last_entry : (history : History) (resolved : Resolved) (before : List (Option ℕ)) (origin : Origin) (terms time : ℕ) (given : List (Option ℕ)) (entries : List NewTerm) (statements : List Ids) (entry : Entry)
    → AreParts resolved before terms time given entries statements entry → IsVocabularyOf resolved.change.statements resolved.vocabulary
    → AreIdsAt time (lexicon_at history (length history)) resolved.vocabulary.terms before → IsWritable (history ++ (record { change = resolved.change; origin = origin } ∷ []))
    → terms ≡ length (lexicon_at history (length history)) → time ≡ length history + 1
    → IsLastEntry (history ++ (record { change = resolved.change; origin = origin } ∷ [])) entry
last_entry history resolved before origin terms time given entries statements entry parts is ids writable count at =
    let next : time ≡ suc (length history) = omega arith in
    last_at history resolved before origin terms given entries statements entry is
    (subst (λ (t : ℕ). AreIdsAt t (lexicon_at history (length history)) resolved.vocabulary.terms before) next ids) writable count
    (subst (λ (t : ℕ). AreParts resolved before terms t given entries statements entry) next parts)
