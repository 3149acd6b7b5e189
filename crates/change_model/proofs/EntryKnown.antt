-- The entries after a time tell the ids that terms got since.
use Rattle.std.proofs.Common.{◌≡◌, ℕ, suc, ◌+◌, ◌<◌, ◌≤◌, ◌^◌, List, [], ◌∷◌, ◌++◌, length, take, drop, Option, inl, inr, ◌↔◌, refl, sym, ◌∙◌, ap, subst, arith}
use Rattle.std.specs.List.{AllByRecursion}
use Rattle.std.proofs.lemmas.Bool.{cases_lt}
use Rattle.std.proofs.lemmas.List.{take-append-drop, length-take-le}
use Rattle.base_core.specs.Lists.{Has, AreDistinct}
use Rattle.base_core.specs.Numbers.{number_bytes}
use Rattle.term_core.specs.declared.term.Term.{Term}
use Rattle.term_core.specs.declared.statement.Statement.{Statement}
use Rattle.term_core.specs.Spelling.{spelling}
use Rattle.term_core.specs.Term.{IsTerm}
use Rattle.triple_keys.proofs.Spelling.{number_told}
use Rattle.row_core.specs.declared.rows.Row.{Row}
use Rattle.row_core.specs.declared.rows.Cell.TheVariants.{Value}
use Rattle.row_core.specs.declared.rows.Index.TheVariants.{T2i}
use Rattle.row_core.specs.Rows.{AreChanges}
use Rattle.change_model.specs.declared.entry.Entry.{Entry}
use Rattle.change_model.specs.declared.entry.Resolved.{Resolved}
use Rattle.change_model.specs.declared.history.Committed.{Committed}
use Rattle.change_model.specs.declared.history.Origin.{Origin}
use Rattle.change_model.specs.declared.vocabulary.Vocabulary.{Vocabulary}
use Rattle.change_model.specs.Entries.{AreEntriesBetween, AreEntriesAfter, IsEntryAt, IsVocabularyOf, IsResolved}
use Rattle.change_model.specs.History.{History}
use Rattle.change_model.specs.IndexRows.{AppearsAt, IsTermRow}
use Rattle.change_model.specs.Known.{GiveId, EntriesGiveId, IsNewSince, AreTold}
use Rattle.change_model.specs.Laws.{IsWritable}
use Rattle.change_model.specs.Lexicon.{terms_of, lexicon_at}
use Rattle.change_model.specs.Numbering.{AreIdsIn, AreIdsAt, AreSpelled, BindWell}
use Rattle.change_model.proofs.EntriesGrow.{changes_of, counted_entries}
use Rattle.change_model.proofs.EntryHistory.{all_from, no_later_node, ids_in, vocabulary-binds}
use Rattle.change_model.proofs.Lexicons.{AreWith-all, lexicon_at-append, lexicon-grown, lexicon-longer, lexicon-terms, HasId-at_most, HasId-fits, AppearsAt-by, IsWritable-front, IsWritable-at}
use Rattle.change_model.proofs.Members.{length-one_more, slice_get-last}
use Rattle.change_model.proofs.Newest.{appeared}
use Rattle.change_model.proofs.Rows.{IsRow-append}

value_is : (one other : List ℕ) → Value one ≡ Value other → one ≡ other
value_is one other same = cc

-- a term of this spelling got the id from the change after the first k
record AppearsAs (history : History) (k : ℕ) (key : List ℕ) (id : ℕ) : Type 0 where
  term : Term
  appears : AppearsAt history k term id
  key_is : key ≡ spelling term

-- an entry's rows of terms are the history's of its time
entry_row : (history : History) (time : ℕ) (entry : Entry) → IsEntryAt history time entry → (row : Row) → (Has entry.t2i row ↔ (IsTermRow history row × (row.time ≡ time)))
entry_row history time entry at row =
    let front = take time history in
    let long : length front ≡ time = length-take-le time history at.known in
    let timed : entry.time ≡ time = at.last.time ∙ long in
    let whole : front ++ drop time history ≡ history = take-append-drop time history in
    let same = λ (low : row.time ≤ length front). IsRow-append T2i front (drop time history) row low in (
      λ h.
          let is = (at.last.t2i.exactly row).0 h in
          let now : row.time ≡ time = is.1 ∙ timed in
          (subst (λ (hs : History). IsTermRow hs row) whole ((same (omega arith)).1 is.0), now),
      λ is.
          let now = is.1 in
          (at.last.t2i.exactly row).1 ((same (omega arith)).0 (subst (λ (hs : History). IsTermRow hs row) (sym whole) is.0), now ∙ sym timed),
    )

module _ (history : History) (writable : IsWritable history) (key : List ℕ) (id : ℕ) (fits : id < 2 ^ 64) where
  -- the row gives the id to the key where the term of this spelling got it then
  entry_gives : (k : ℕ) (entry : Entry) → IsEntryAt history (suc k) entry → (GiveId entry.t2i key id ↔ AppearsAs history k key id)
  entry_gives k entry at = (
    λ gives.
        let row = gives.0 in
        let is = (entry_row history (suc k) entry at row).0 gives.1 in
        let made = is.0 in
        let made_time : row.time ≡ suc made.k = ap (λ (r : Row). r.time) made.row_is in
        let now = is.1 in
        let then : made.k ≡ k = omega arith in
        let cell : Value (number_bytes id) ≡ Value (number_bytes made.id) = sym gives.3 ∙ ap (λ (r : Row). r.cell) made.row_is in
        let small : made.id < 2 ^ 64 = HasId-fits history (length history) made.term made.id writable (omega arith) (appeared history made.k made.term made.id made.appears) in
        let same : made.id ≡ id = sym (number_told id made.id fits small (value_is (number_bytes id) (number_bytes made.id) cell)) in
        let appears : AppearsAt history k made.term id = subst (λ (n : ℕ). AppearsAt history n made.term id) then (subst (AppearsAt history made.k made.term) same made.appears) in
        record { term = made.term; appears = appears; key_is = sym gives.2 ∙ ap (λ (r : Row). r.key) made.row_is },
    λ since_then.
        let row : Row = record { key = spelling since_then.term; time = suc k; cell = Value (number_bytes id) } in
        let is : IsTermRow history row = record { k = k; term = since_then.term; id = id; appears = since_then.appears; row_is = refl } in
        (row, (entry_row history (suc k) entry at row).1 (is, refl), sym since_then.key_is, refl),
  )

  -- one of the entries does where it was between the times
  some_gives : (from upto : ℕ) (entries : List Entry) → AreEntriesBetween history from upto entries → EntriesGiveId entries key id → (k : ℕ) × (from ≤ k) × AppearsAs history k key id
  some_gives from upto [] are gives = absurd gives.1
  some_gives from upto (entry ∷ entries) are (one, inl same, gives) = (from, omega arith, (entry_gives from entry are.0).0 (subst (λ (e : Entry). GiveId e.t2i key id) (sym same) gives))
  some_gives from upto (entry ∷ entries) are (one, inr more, gives) =
      let rest = some_gives (suc from) upto entries are.1 (one, more, gives) in
      let low = rest.1 in
      (rest.0, omega arith, rest.2)

  gives_some : (from upto k : ℕ) (entries : List Entry) → AreEntriesBetween history from upto entries → from ≤ k → k < upto → AppearsAs history k key id → EntriesGiveId entries key id
  gives_some from upto k [] are low high since_then = absurd (omega arith)
  gives_some from upto k (entry ∷ entries) are low high since_then =
      elim (cases_lt from k) [
        | inl behind ↦ let rest = gives_some (suc from) upto k entries are.1 behind high since_then in (rest.0, inr rest.1, rest.2)
        | inr here ↦
            let now : k ≡ from = omega arith in
            (entry, inl refl, (entry_gives from entry are.0).1 (subst (λ (n : ℕ). AppearsAs history n key id) now since_then))
      ]

changes_between : (history : History) (from upto : ℕ) (entries : List Entry) → AreEntriesBetween history from upto entries → AllByRecursion (λ entry. AreChanges entry.time entry.t2i) entries
changes_between history from upto [] are = tt
changes_between history from upto (entry ∷ entries) are =
    (changes_of T2i (take (suc from) history) entry.time entry.t2i are.0.last.t2i, changes_between history (suc from) upto entries are.1)

-- the lexicon of the time that was pinned
pinned_is : (history : History) (pinned : ℕ) → pinned ≤ length history → lexicon_at (take pinned history) (length (take pinned history)) ≡ lexicon_at history pinned
pinned_is history pinned within =
    let front = take pinned history in
    let long : length front ≡ pinned = length-take-le pinned history within in
    sym (lexicon_at-append front (drop pinned history) (length front) (omega arith)) ∙ ap (λ (h : History). lexicon_at h (length front)) (take-append-drop pinned history) ∙ ap (lexicon_at history) long

-- of two times, the terms that are new since the first are those that appeared between them
told_between : (history : History) (pinned : ℕ) (entries : List Entry) → IsWritable history → AreEntriesAfter history pinned entries → pinned ≤ length history
    → (key : List ℕ) (id : ℕ) → id < 2 ^ 64 → (EntriesGiveId entries key id ↔ IsNewSince (lexicon_at history pinned) (lexicon_at history (length history)) key id)
told_between history pinned entries writable are within key id fits =
    let n = length history in (
      λ gives.
          let (k, low, since_then) = some_gives history writable key id fits pinned n entries are gives in
          let longer = lexicon-longer history pinned k low in
          let new = since_then.appears.new in
          record { term = since_then.term; has = appeared history k since_then.term id since_then.appears; new = omega arith; key_is = since_then.key_is },
      λ since.
          let (k, appears, high) = AppearsAt-by history n since.term id since.has in
          let before = λ (early : suc k ≤ pinned).
          let longer = lexicon-longer history (suc k) pinned early in
          let most = (HasId-at_most history (suc k) since.term id appears.has).1 in
          let new = since.new in
          let no : ⊥ = omega arith in no in
          let low : pinned ≤ k = elim (cases_lt k pinned) [ inl early ↦ absurd (before early) | inr late ↦ late ] in
          gives_some history writable key id fits pinned n k entries are low high (record { term = since.term; appears = appears; key_is = since.key_is }),
    )

told_after : (history : History) (pinned : ℕ) (entries : List Entry) → IsWritable history → AreEntriesAfter history pinned entries → pinned ≤ length history
    → AreTold (suc (length history)) (lexicon_at history pinned) (lexicon_at history (length history)) entries
told_after history pinned entries writable are within =
    let n = length history in record {
      grown = lexicon-grown history pinned n within;
      rules = all_from IsTerm (lexicon_at history n) (lexicon-terms history n writable);
      earlier = no_later_node history n;
      fits = writable.ids;
      changes = changes_between history pinned n entries are;
      told = told_between history pinned entries writable are within;
    }

pub spelled_of : (statements : List Statement) (vocabulary : Vocabulary) → IsVocabularyOf statements vocabulary → AreSpelled vocabulary
spelled_of statements vocabulary is = record {
  apart = subst AreDistinct (sym is.terms) ((AreWith-all [] (terms_of statements)).distinct tt);
  spellings = is.spellings;
}

-- the labels of the last change are bound well
pub last_binds : (history : History) (resolved : Resolved) (origin : Origin) → IsVocabularyOf resolved.change.statements resolved.vocabulary
    → IsWritable (history ++ (record { change = resolved.change; origin = origin } ∷ [])) → BindWell (suc (length history)) resolved.vocabulary.terms
last_binds history resolved origin is writable =
    let n = length history in
    let c : Committed = record { change = resolved.change; origin = origin } in
    let long = length-one_more history c in
    let low : suc n < 2 ^ 64 = let h = writable.times in omega arith in
    vocabulary-binds (suc n) resolved.change.statements resolved.vocabulary.terms low (IsWritable-at (history ++ (c ∷ [])) n c writable (slice_get-last history c)).1 is.terms

-- what is known of the terms when the change is committed
pub known_at : (history : History) (pinned : ℕ) (resolved : Resolved) (time : ℕ) (entries : List Entry) (known : List (Option ℕ))
    → ((at : ℕ) (early base : List Term) → AreTold at early base entries → AreSpelled resolved.vocabulary → BindWell at resolved.vocabulary.terms → AreIdsIn early resolved.vocabulary.terms resolved.ids
    → AreIdsAt at base resolved.vocabulary.terms known)
    → IsResolved (take pinned history) resolved → AreEntriesAfter history pinned entries → IsWritable history → BindWell time resolved.vocabulary.terms
    → time ≡ length history + 1 → AreIdsAt time (lexicon_at history (length history)) resolved.vocabulary.terms known
known_at history pinned resolved time entries known tells is are writable binds at =
    let n = length history in
    let within : pinned ≤ n = let count = counted_entries history pinned n entries are in omega arith in
    let next : suc n ≡ time = omega arith in
    let ids : AreIdsIn (lexicon_at history pinned) resolved.vocabulary.terms resolved.ids =
    subst (λ (ts : List Term). AreIdsIn ts resolved.vocabulary.terms resolved.ids) (pinned_is history pinned within) (ids_in (take pinned history) resolved.vocabulary.terms resolved.ids is.ids) in
    tells time (lexicon_at history pinned) (lexicon_at history n)
    (subst (λ (t : ℕ). AreTold t (lexicon_at history pinned) (lexicon_at history n) entries) next (told_after history pinned entries writable are within))
    (spelled_of resolved.change.statements resolved.vocabulary is.vocabulary) binds ids

-- the same by what is known of the history with the change
pub known_at_last : (history : History) (pinned : ℕ) (resolved : Resolved) (origin : Origin) (time : ℕ) (entries : List Entry) (known : List (Option ℕ))
    → ((at : ℕ) (early base : List Term) → AreTold at early base entries → AreSpelled resolved.vocabulary → BindWell at resolved.vocabulary.terms → AreIdsIn early resolved.vocabulary.terms resolved.ids
    → AreIdsAt at base resolved.vocabulary.terms known)
    → IsResolved (take pinned history) resolved → AreEntriesAfter history pinned entries → IsWritable (history ++ (record { change = resolved.change; origin = origin } ∷ []))
    → time ≡ length history + 1 → AreIdsAt time (lexicon_at history (length history)) resolved.vocabulary.terms known
known_at_last history pinned resolved origin time entries known tells is are writable at =
    let c : Committed = record { change = resolved.change; origin = origin } in
    let next : suc (length history) ≡ time = omega arith in
    known_at history pinned resolved time entries known tells is are (IsWritable-front history (c ∷ []) writable)
    (subst (λ (t : ℕ). BindWell t resolved.vocabulary.terms) next (last_binds history resolved origin is.vocabulary writable)) at
