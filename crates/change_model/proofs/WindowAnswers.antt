-- What answers for the last row of a key, and how its bounds may move.
use Rattle.std.proofs.Common.{◌≡◌, ℕ, ◌<◌, ◌≤◌, min, List, [], ◌∷◌, Option, Some, None, ◌⊎◌, inl, inr, refl, sym, ◌∙◌, subst, arith}
use Rattle.std.proofs.lemmas.Bool.{cases_lt, cases_Bool, false≢true}
use Rattle.std.proofs.lemmas.Slice.Eq.{bytes_eq-Decides}
use Rattle.base_core.specs.Lists.{Has}
use Rattle.row_core.specs.declared.rows.Index.{Index}
use Rattle.row_core.specs.declared.rows.Row.{Row}
use Rattle.row_core.specs.Rows.{IsAt, IsLast}
use Rattle.change_model.specs.History.{History}
use Rattle.change_model.specs.IndexRows.{IsRow, IsNewest}
use Rattle.change_model.specs.Laws.{IsValue}
use Rattle.change_model.specs.Windows.{IsRowAbove, IsLastAbove, MayBeFound, AnswersFor}
use Rattle.change_model.specs.WindowLaws.{LastRowLaw, FoundValueLaw}
use Rattle.change_model.proofs.Rows.{IsRow-time}
use Rattle.change_model.proofs.Newest.{IsNewest-same}

-- ---- newest rows

-- the rows of the key at or before the time are also rows of another set at or before another time
abbrev pub GoOver : (Row → Type 0) → (Row → Type 0) → List ℕ → ℕ → ℕ → Type 0
GoOver rows others key time moved = (row : Row) → rows row → IsAt key time row → others row × IsAt key moved row

-- the newest of a key is the same where the rows of the key are
pub IsNewest-moved : (rows others : Row → Type 0) (key : List ℕ) (time moved : ℕ) (found : Option Row) → GoOver rows others key time moved → GoOver others rows key moved time
    → IsNewest rows key time found → IsNewest others key moved found
IsNewest-moved rows others key time moved None over back before =
    λ row is at. let there = back row is at in before row there.0 there.1
IsNewest-moved rows others key time moved (Some found) over back before =
    let there = over found before.0 before.1 in
    (there.0, there.1, λ row is at. let other = back row is at in before.2 row other.0 other.1)

pub newest_of_last : (rows : List Row) (key : List ℕ) (time : ℕ) (found : Option Row) → IsLast rows key time found → IsNewest (Has rows) key time found
newest_of_last rows key time None last = last
newest_of_last rows key time (Some row) last = last

-- ---- a list has a last row of a key, or none

key_told : (a b : List ℕ) → (a ≡ b) ⊎ (a ≡ b → ⊥)
key_told a b =
    let same = bytes_eq-Decides a b in
    elim (cases_Bool _) [ inl yes_same ↦ inl (same.0 yes_same) | inr apart ↦ inr (λ e. false≢true (sym apart ∙ same.1 e)) ]

at_told : (key : List ℕ) (time : ℕ) (row : Row) → IsAt key time row ⊎ (IsAt key time row → ⊥)
at_told key time row =
    elim (key_told row.key key) [
      | inr other ↦ inr (λ at. other at.key_is)
      | inl same ↦ elim (cases_lt time row.time) [
        | inl late ↦ inr (λ at. let most = at.at_most in omega arith)
        | inr low ↦ inl (record { key_is = same; at_most = low })
      ]
    ]

-- behind a row that is not of the key
last_behind : (first : Row) (rows : List Row) (key : List ℕ) (time : ℕ) (found : Option Row) → (IsAt key time first → ⊥) → IsLast rows key time found → IsLast (first ∷ rows) key time found
last_behind first rows key time None other last = λ row there at. elim there [ inl same ↦ other (subst (IsAt key time) (sym same) at) | inr more ↦ last row more at ]
last_behind first rows key time (Some found) other last = (
  inr last.0,
  last.1,
  λ row there at. elim there [ inl same ↦ absurd (other (subst (IsAt key time) (sym same) at)) | inr more ↦ last.2 row more at ],
)

same_time : (one other : Row) → one ≡ other → one.time ≡ other.time
same_time one other same = λ i. (same i).time

-- behind a row of the key
last_with : (first : Row) (rows : List Row) (key : List ℕ) (time : ℕ) (found : Option Row) → IsAt key time first → IsLast rows key time found
    → (last : Option Row) × IsLast (first ∷ rows) key time last
last_with first rows key time None at last = (
  Some first,
  (inl refl, at, λ row there here. elim there [ inl same ↦ let e = same_time first row same in omega arith | inr more ↦ absurd (last row more here) ]),
)
last_with first rows key time (Some found) at last =
    elim (cases_lt found.time first.time) [
      | inl newer ↦ (
        Some first,
        (
          inl refl,
          at,
          λ row there here. elim there [
            | inl same ↦ let e = same_time first row same in omega arith
            | inr more ↦ let low = last.2 row more here in omega arith
          ],
        ),
      )
      | inr older ↦ (
        Some found,
        (
          inr last.0,
          last.1,
          λ row there here. elim there [
            | inl same ↦ let e = same_time first row same in omega arith
            | inr more ↦ last.2 row more here
          ],
        ),
      )
    ]

pub some_last : (rows : List Row) (key : List ℕ) (time : ℕ) → (found : Option Row) × IsLast rows key time found
some_last [] key time = (None, λ row there at. there)
some_last (first ∷ rows) key time =
    let rest = some_last rows key time in
    elim (at_told key time first) [
      | inl at ↦ last_with first rows key time rest.0 at rest.1
      | inr other ↦ (rest.0, last_behind first rows key time rest.0 other rest.1)
    ]

-- ---- the last row above a time

above_zero : (index : Index) (history : History) (row : Row) → IsRow index history row → IsRowAbove index history 0 row
above_zero index history row is = (is, (IsRow-time index history row is).0)

pub last_row_law : LastRowLaw
last_row_law index history key time found = (
  IsNewest-same (IsRowAbove index history 0) (IsRow index history) key time found (λ row up. (λ is. is.0, above_zero index history row)),
  IsNewest-same (IsRow index history) (IsRowAbove index history 0) key time found (λ row up. (above_zero index history row, λ is. is.0)),
)

-- ---- answers

pub found_value_law : FoundValueLaw
found_value_law from floor last (Some found) is = (λ value. subst IsValue (sym is) value, λ value. subst IsValue is value)
found_value_law from floor None None is = (λ value. value, λ value. value)
found_value_law from floor (Some last) None dropped = (
  λ value. absurd value,
  λ value. let gone = dropped.deleted in let there = value.1 in cc,
)

pub MayBeFound-itself : (from floor : ℕ) (last : Option Row) → MayBeFound from floor last last
MayBeFound-itself from floor (Some row) = refl
MayBeFound-itself from floor None = tt

MayBeFound-raised : (from floor higher : ℕ) (last found : Option Row) → floor ≤ higher → MayBeFound from floor last found → MayBeFound from higher last found
MayBeFound-raised from floor higher last (Some found) up is = is
MayBeFound-raised from floor higher None None up is = is
MayBeFound-raised from floor higher (Some last) None up dropped =
    let low = dropped.low in record { from_is = dropped.from_is; deleted = dropped.deleted; low = omega arith }

-- a higher floor
pub AnswersFor-raised : (index : Index) (history : History) (key : List ℕ) (from time floor higher : ℕ) (found : Option Row) → floor ≤ higher
    → AnswersFor index history key from time floor found → AnswersFor index history key from time higher found
AnswersFor-raised index history key from time floor higher found up is =
    record { last = is.last; last_is = is.last_is; found_is = MayBeFound-raised from floor higher is.last found up is.found_is }

-- a later time, before which the key has no more rows
pub AnswersFor-later : (index : Index) (history : History) (key : List ℕ) (from time later floor : ℕ) (found : Option Row) → time ≤ later
    → ((row : Row) → IsRow index history row → row.key ≡ key → time < row.time → row.time ≤ later → ⊥)
    → AnswersFor index history key from time floor found → AnswersFor index history key from later floor found
AnswersFor-later index history key from time later floor found up none is = record {
  last = is.last;
  last_is = IsNewest-moved (IsRowAbove index history from) (IsRowAbove index history from) key time later is.last
      (λ row above at. let most = at.at_most in (above, record { key_is = at.key_is; at_most = omega arith }))
      (λ row above at. elim (cases_lt time row.time) [
        | inl new ↦ absurd (none row above.0 at.key_is new at.at_most)
        | inr old ↦ (above, record { key_is = at.key_is; at_most = old })
      ])
      is.last_is;
  found_is = is.found_is;
}

-- a row that is found is the last
pub AnswersFor-row : (index : Index) (history : History) (key : List ℕ) (from time floor : ℕ) (row : Row)
    → AnswersFor index history key from time floor (Some row) → IsLastAbove index history key from time (Some row)
AnswersFor-row index history key from time floor row is =
    subst (IsLastAbove index history key from time) is.found_is is.last_is

-- and an earlier beginning makes no difference to it
pub AnswersFor-earlier : (index : Index) (history : History) (key : List ℕ) (from middle time floor : ℕ) (row : Row) → from ≤ middle
    → AnswersFor index history key middle time floor (Some row) → AnswersFor index history key from time floor (Some row)
AnswersFor-earlier index history key from middle time floor row up is =
    let last = AnswersFor-row index history key middle time floor row is in
    let above = last.0.1 in
    record {
      last = Some row;
      last_is = (
        (last.0.0, omega arith),
        last.1,
        λ other there at. elim (cases_lt middle other.time) [ inl new ↦ last.2 other (there.0, new) at | inr old ↦ omega arith ],
      );
      found_is = refl;
    }

none_by_zero : (index : Index) (history : History) (key : List ℕ) (from time : ℕ) (last : Option Row) → time ≤ 0 → IsLastAbove index history key from time last → last ≡ None
none_by_zero index history key from time None zero last = refl
none_by_zero index history key from time (Some row) zero last = let above = last.0.1 in let most = last.1.at_most in absurd (omega arith)

answer_by_zero : (from floor : ℕ) (last found : Option Row) → last ≡ None → MayBeFound from floor last found → found ≡ None
answer_by_zero from floor last (Some found) none is = let row = is in cc
answer_by_zero from floor None None none is = refl
answer_by_zero from floor (Some last) None none is = refl

joined_by : (index : Index) (history : History) (key : List ℕ) (from middle upto time floor : ℕ) (found last : Option Row) → from ≤ middle → middle ≤ upto
    → IsLastAbove index history key middle (min time upto) last → MayBeFound middle floor last None
    → AnswersFor index history key from (min time middle) floor found → AnswersFor index history key from (min time upto) floor found
joined_by index history key from middle upto time floor found None begins ends none is older =
    AnswersFor-later index history key from (min time middle) (min time upto) floor found (omega arith)
    (λ row is key_is above most. none row (is, omega arith) (record { key_is = key_is; at_most = most }))
    older
joined_by index history key from middle upto time floor found (Some last) begins ends last_is dropped older =
    let zero = dropped.from_is in
    let first : from ≡ 0 = omega arith in
    let same : middle ≡ from = omega arith in
    let nothing = answer_by_zero from floor older.last found (none_by_zero index history key from (min time middle) older.last (omega arith) older.last_is) older.found_is in
    record {
      last = Some last;
      last_is = subst (λ above. IsLastAbove index history key above (min time upto) (Some last)) same last_is;
      found_is = subst (MayBeFound from floor (Some last)) (sym nothing) (record { from_is = first; deleted = dropped.deleted; low = dropped.low });
    }

-- where the newer rows have none of the key, the older ones answer
pub AnswersFor-joined : (index : Index) (history : History) (key : List ℕ) (from middle upto time floor : ℕ) (found : Option Row) → from ≤ middle → middle ≤ upto
    → AnswersFor index history key middle (min time upto) floor None
    → AnswersFor index history key from (min time middle) floor found → AnswersFor index history key from (min time upto) floor found
AnswersFor-joined index history key from middle upto time floor found begins ends newer older =
    joined_by index history key from middle upto time floor found newer.last begins ends newer.last_is newer.found_is older
