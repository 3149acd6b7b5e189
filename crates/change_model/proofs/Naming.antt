-- A term and its id find each other by the last rows of two indexes.
use Rattle.std.proofs.Common.{◌≡◌, ℕ, suc, ◌≤◌, List, length, Some, ◌↔◌, refl, sym, ◌∙◌, ap, subst, arith}
use Rattle.term_core.specs.declared.term.Term.{Term}
use Rattle.term_core.proofs.Spelling.{spelling_same}
use Rattle.triple_keys.proofs.Spelling.{number_told}
use Rattle.row_core.specs.declared.rows.Index.{Index}
use Rattle.row_core.specs.declared.rows.Index.TheVariants.{T2i, I2t}
use Rattle.row_core.specs.declared.rows.Row.{Row}
use Rattle.row_core.specs.declared.rows.Cell.TheVariants.{Value}
use Rattle.row_core.specs.Rows.{IsAt}
use Rattle.change_model.specs.History.{History}
use Rattle.change_model.specs.Lexicon.{HasId}
use Rattle.change_model.specs.IndexRows.{IsRow, IsLastRow}
use Rattle.change_model.specs.Laws.{LexiconLaw, IdLaw}
use Rattle.change_model.proofs.Lexicons.{HasId-grown, HasId-fits, HasId-IsTerm, AppearsAt-one, AppearsAt-by}
use Rattle.change_model.proofs.Rows.{IsMadeRow, spelling_of, bytes_of, made_of_term, made_of_id}
use Rattle.change_model.proofs.Newest.{Tells, Tells-spelling, Tells-bytes, appeared}

-- no term and id of the history but these have this key and this value
abbrev TellsBoth : (Term → ℕ → List ℕ) → (Term → ℕ → List ℕ) → History → Term → ℕ → Type 0
TellsBoth key value history term id =
    (other : Term) (second : ℕ) → HasId history (length history) other second → key other second ≡ key term id → value other second ≡ value term id
    → (other ≡ term) × (second ≡ id)

abbrev IsFound : Index → (Term → ℕ → List ℕ) → (Term → ℕ → List ℕ) → History → ℕ → Term → ℕ → Type 0
IsFound index key value history time term id = (row : Row) × IsLastRow index history (key term id) time (Some row) × (row.cell ≡ Value (value term id))

found : (index : Index) (key value : Term → ℕ → List ℕ) (history : History) (time : ℕ) (term : Term) (id : ℕ)
    → ((row : Row) → (IsRow index history row ↔ IsMadeRow key value history row))
    → time ≤ length history → Tells key history → HasId history time term id → IsFound index key value history time term id
found index key value history time term id made_of within tells has =
    let (k, appears, before) = AppearsAt-by history time term id has in
    let row : Row = record { key = key term id; time = suc k; cell = Value (value term id) } in
    let newest = λ (other : Row) (is : IsRow index history other) (at : IsAt (key term id) time other).
    let made = (made_of other).0 is in
    let key_is : other.key ≡ key made.term made.id = ap (λ (r : Row). r.key) made.row_is in
    let time_is : other.time ≡ suc made.k = ap (λ (r : Row). r.time) made.row_is in
    let told = tells made.term term made.id id (appeared history made.k made.term made.id made.appears) (appeared history k term id appears) (sym key_is ∙ at.key_is) in
    let same = AppearsAt-one history made.k k made.term term made.id id made.appears appears told.1 in
    let least : other.time ≤ suc k = omega arith in least in
    (row, ((made_of row).1 (record { k = k; term = term; id = id; appears = appears; row_is = refl }), record { key_is = refl; at_most = before }, newest), refl)

had : (index : Index) (key value : Term → ℕ → List ℕ) (history : History) (time : ℕ) (term : Term) (id : ℕ)
    → ((row : Row) → (IsRow index history row ↔ IsMadeRow key value history row))
    → TellsBoth key value history term id → IsFound index key value history time term id → HasId history time term id
had index key value history time term id made_of told (row, last, cell) =
    let made = (made_of row).0 last.0 in
    let key_is : row.key ≡ key made.term made.id = ap (λ (r : Row). r.key) made.row_is in
    let time_is : row.time ≡ suc made.k = ap (λ (r : Row). r.time) made.row_is in
    let cell_is : row.cell ≡ Value (value made.term made.id) = ap (λ (r : Row). r.cell) made.row_is in
    let values : Value (value made.term made.id) ≡ Value (value term id) = sym cell_is ∙ cell in
    let same : value made.term made.id ≡ value term id = cc in
    let (terms, ids) = told made.term made.id (appeared history made.k made.term made.id made.appears) (sym key_is ∙ last.1.key_is) same in
    let most = last.1.at_most in
    let has = HasId-grown history (suc made.k) time made.term made.id (omega arith) made.appears.has in
    subst (HasId history time term) ids (subst (λ t. HasId history time t made.id) terms has)

-- A term's id after the first so many changes is the value of its last row up to that time in the index of terms.
pub lexicon_law : LexiconLaw
lexicon_law history time term id writable within is small =
    let n = length history in (
      found T2i spelling_of bytes_of history time term id (made_of_term history) within (Tells-spelling history writable),
      had T2i spelling_of bytes_of history time term id (made_of_term history)
          (λ other second has keys values. (
            spelling_same other term (HasId-IsTerm history n other second writable has) is keys,
            number_told second id (HasId-fits history n other second writable (omega arith) has) small values,
          )),
    )

-- The term of an id after the first so many changes is spelled by its last row up to that time in the index of ids.
pub id_law : IdLaw
id_law history time term id writable within is small =
    let n = length history in (
      found I2t bytes_of spelling_of history time term id (made_of_id history) within (Tells-bytes history writable),
      had I2t bytes_of spelling_of history time term id (made_of_id history)
          (λ other second has keys values. (
            spelling_same other term (HasId-IsTerm history n other second writable has) is values,
            number_told second id (HasId-fits history n other second writable (omega arith) has) small keys,
          )),
    )
