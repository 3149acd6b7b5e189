-- Whatever the ids of its terms, the rows of a change are of its time, and stand by key.
use Rattle.std.proofs.Common.{◌≡◌, ℕ, suc, ◌<◌, ◌≤◌, ◌+◌, ◌^◌, List, [], ◌∷◌, ◌++◌, map, inl, refl, Result, Ok, Err, IfOk, sym, ◌∙◌, ap, subst, arith}
use Rattle.std.specs.declared.cmp.Ordering.TheVariants.{Less}
use Rattle.std.specs.Ordering.{nat_cmp, is_lt}
use Rattle.std.specs.Cmp.{nat_cmp_is}
use Rattle.std.specs.Cmp.Lexicographic.{slice_cmp}
use Rattle.std.specs.List.{AllByRecursion}
use Rattle.base_core.specs.Lists.{Has}
use Rattle.base_core.specs.Numbers.{number_bytes}
use Rattle.triple_keys.specs.declared.key.Ids.{Ids}
use Rattle.triple_keys.specs.declared.order.Order.{Order}
use Rattle.triple_keys.proofs.Ordering.{number_bytes-cmp}
use Rattle.row_core.specs.declared.rows.Row.{Row}
use Rattle.row_core.specs.Rows.{ComesBefore, StandInOrder, AreChanges}
use Rattle.change_model.specs.declared.history.Kind.{Kind}
use Rattle.change_model.specs.declared.numbering.NewTerm.{NewTerm}
use Rattle.change_model.specs.EntryRows.{AreOrdered, term_row, id_row, statement_row}
use Rattle.change_model.specs.Numbering.{AreNextTo}
use Rattle.change_model.proofs.Members.{Has-from_map}
use Rattle.change_model.proofs.EntryHistory.{all_from}

-- rows that are made of this time
of_time : {A : Type 0} (time : ℕ) (f : A → Row) → ((x : A) → (f x).time ≡ time) → (xs : List A) (rows : List Row) → ((row : Row) → Has rows row → Has (map f xs) row) → AllByRecursion (λ row. row.time ≡ time) rows
of_time time f timed xs rows from =
    all_from (λ row. row.time ≡ time) rows (λ row h. let made = Has-from_map f xs row (from row h) in ap (λ (r : Row). r.time) (sym made.2) ∙ timed made.0)

terms_change : (time : ℕ) (terms : List NewTerm) (rows given : List Row) → given ≡ map (term_row time) terms → StandInOrder rows → ((row : Row) → Has rows row → Has given row) → AreChanges time rows
terms_change time terms rows given is order from = record {
  in_order = order;
  times = of_time time (term_row time) (λ term. refl) terms rows (λ row h. subst (λ (gs : List Row). Has gs row) is (from row h));
}

pub made_changes : {E : Type 0} (time : ℕ) (terms : List NewTerm) (given : List Row) (result : Result (List Row) E) → given ≡ map (term_row time) terms
    → IfOk result StandInOrder → IfOk result (λ rows. (row : Row) → Has rows row → Has given row) → IfOk result (AreChanges time)
made_changes time terms given (Ok rows) is order from = terms_change time terms rows given is order from
made_changes time terms given (Err fault) is order from = tt

pub statements_change : (order : Order) (kind : Kind) (time : ℕ) (rows : List Row) (statements : List Ids) → AreOrdered rows (map (statement_row order kind time) statements) → AreChanges time rows
statements_change order kind time rows statements are = record {
  in_order = are.order;
  times = of_time time (statement_row order kind time) (λ ids. refl) statements rows (λ row h. (are.same row).0 h);
}

-- ---- ids that follow each other

next_pushed : (first last : ℕ) (terms : List NewTerm) (term : NewTerm) → AreNextTo first terms last → term.id ≡ suc last → term.id < 2 ^ 64 → AreNextTo first (terms ++ (term ∷ [])) term.id
next_pushed first last [] term are is fits = let begin = are.0 in let same : term.id ≡ suc first = omega arith in (same, (sym same, fits))
next_pushed first last (other ∷ terms) term are is fits = (are.0, next_pushed (suc first) last terms term are.1 is fits)

-- one more is given
pub next_given : (count id now : ℕ) (brought after : List NewTerm) (key : List ℕ) → id ≡ count + 1 → id < 2 ^ 64 → now ≡ id → after ≡ brought ++ (record { key = key; id = id } ∷ [])
    → (first : ℕ) → AreNextTo first brought count → AreNextTo first after now
next_given count id now brought after key is fits given put first are =
    let pushed = next_pushed first count brought (record { key = key; id = id }) are (omega arith) fits in
    subst (λ (n : ℕ). AreNextTo first after n) (sym given) (subst (λ (ts : List NewTerm). AreNextTo first ts id) (sym put) pushed)

pub next_none : (count : ℕ) (brought : List NewTerm) → count < 2 ^ 64 → brought ≡ [] → AreNextTo count brought count
next_none count brought fits none = subst (λ (ts : List NewTerm). AreNextTo count ts count) (sym none) (refl, fits)

next_up : (first last : ℕ) (terms : List NewTerm) → AreNextTo first terms last → first ≤ last
next_up first last [] are = let same = are.0 in omega arith
next_up first last (term ∷ terms) are = let up = next_up (suc first) last terms are.1 in omega arith

pub next_fits : (first last : ℕ) (terms : List NewTerm) → AreNextTo first terms last → last < 2 ^ 64
next_fits first last [] are = are.1
next_fits first last (term ∷ terms) are = next_fits (suc first) last terms are.1

behind : (time low first last : ℕ) (key : List ℕ) (terms : List NewTerm) → low ≤ first → last < 2 ^ 64 → AreNextTo first terms last
    → AllByRecursion (ComesBefore (id_row time (record { key = key; id = low }))) (map (id_row time) terms)
behind time low first last key [] under small are = tt
behind time low first last key (term ∷ terms) under small are =
    let is : term.id ≡ suc first = are.0 in
    let up = next_up (suc first) last terms are.1 in
    let less : nat_cmp low term.id ≡ Less = sym (nat_cmp_is low term.id Less (omega arith)) in
    let before : slice_cmp nat_cmp (number_bytes low) (number_bytes term.id) ≡ Less = number_bytes-cmp low term.id (omega arith) (omega arith) ∙ less in
    (inl (ap is_lt before), behind time low (suc first) last key terms (omega arith) small are.1)

ids_order : (time first last : ℕ) (terms : List NewTerm) → last < 2 ^ 64 → AreNextTo first terms last → StandInOrder (map (id_row time) terms)
ids_order time first last [] small are = tt
ids_order time first last (term ∷ terms) small are =
    let is : term.id ≡ suc first = are.0 in
    (behind time term.id (suc first) last term.key terms (omega arith) small are.1, ids_order time (suc first) last terms small are.1)

pub ids_change : (first last time : ℕ) (terms : List NewTerm) → AreNextTo first terms last → AreChanges time (map (id_row time) terms)
ids_change first last time terms are = record {
  in_order = ids_order time first last terms (next_fits first last terms are) are;
  times = of_time time (id_row time) (λ term. refl) terms (map (id_row time) terms) (λ row h. h);
}
