-- A change whose ids were given may be written behind the history.
use Rattle.std.proofs.Common.{◌≡◌, ℕ, suc, ◌<◌, ◌+◌, ◌^◌, List, [], ◌∷◌, ◌++◌, length, Option, sym, ◌∙◌, ap, subst, arith}
use Rattle.std.specs.List.{AllByRecursion}
use Rattle.term_core.specs.Term.{IsStatement}
use Rattle.change_model.specs.declared.entry.Resolved.{Resolved}
use Rattle.change_model.specs.declared.history.Committed.{Committed}
use Rattle.change_model.specs.declared.history.Origin.{Origin}
use Rattle.change_model.specs.declared.numbering.NewTerm.{NewTerm}
use Rattle.change_model.specs.Entries.{IsVocabularyOf}
use Rattle.change_model.specs.History.{History}
use Rattle.change_model.specs.Laws.{IsWritable}
use Rattle.change_model.specs.Lexicon.{lexicon_at}
use Rattle.change_model.specs.Numbering.{IsBase, BindWell, AreIdsAt, AreNextTo}
use Rattle.change_model.proofs.EntryChanges.{next_fits}
use Rattle.change_model.proofs.EntryHistory.{all_from, lexicon-by_vocabulary, no_later_node, vocabulary-binds}
use Rattle.change_model.proofs.EntryKnown.{spelled_of}
use Rattle.change_model.proofs.EntryLast.{TellsNumbering}
use Rattle.change_model.proofs.EntryNumbering.{each_push}
use Rattle.change_model.proofs.Lexicons.{AreStatements, lexicon-terms}
use Rattle.change_model.proofs.Members.{length-one_more}

-- the count of the ids after the change fits 64 bits, since each was given
next_at : (history : History) (resolved : Resolved) (before : List (Option ℕ)) (origin : Origin) (terms number : ℕ) (entries : List NewTerm)
    → TellsNumbering resolved before terms (suc (length history)) number entries → AreNextTo terms entries number → suc (length history) < 2 ^ 64
    → IsVocabularyOf resolved.change.statements resolved.vocabulary → AreIdsAt (suc (length history)) (lexicon_at history (length history)) resolved.vocabulary.terms before
    → IsWritable history → AllByRecursion IsStatement resolved.change.statements → terms ≡ length (lexicon_at history (length history))
    → IsWritable (history ++ (record { change = resolved.change; origin = origin } ∷ []))
next_at history resolved before origin terms number entries numbered rising low is ids writable well count =
    let n = length history in
    let c : Committed = record { change = resolved.change; origin = origin } in
    let longer : History = history ++ (c ∷ []) in
    let long : length longer ≡ suc n = length-one_more history c in
    let base : IsBase (lexicon_at history n) terms (suc n) = record { count = count; rules = all_from _ (lexicon_at history n) (lexicon-terms history n writable); earlier = no_later_node history n } in
    let binds : BindWell (suc n) resolved.vocabulary.terms = vocabulary-binds (suc n) resolved.change.statements resolved.vocabulary.terms low well is.terms in
    let numbering = numbered (lexicon_at history n) base (spelled_of resolved.change.statements resolved.vocabulary is) binds ids in
    let counted : number ≡ length (lexicon_at longer (length longer)) =
    numbering.count ∙ ap length (lexicon-by_vocabulary history c resolved.vocabulary.terms is.terms) ∙ ap (λ (k : ℕ). length (lexicon_at longer k)) (sym long) in
    record {
      statements = each_push AreStatements history c writable.statements well;
      times = subst (λ (k : ℕ). k < 2 ^ 64) (sym long) low;
      ids = subst (λ (k : ℕ). k < 2 ^ 64) counted (next_fits terms number entries rising);
    }

pub next_writable : (history : History) (resolved : Resolved) (before : List (Option ℕ)) (origin : Origin) (terms time number : ℕ) (entries : List NewTerm)
    → TellsNumbering resolved before terms time number entries → AreNextTo terms entries number → time < 2 ^ 64
    → IsVocabularyOf resolved.change.statements resolved.vocabulary → AreIdsAt time (lexicon_at history (length history)) resolved.vocabulary.terms before
    → IsWritable history → AllByRecursion IsStatement resolved.change.statements → terms ≡ length (lexicon_at history (length history)) → time ≡ length history + 1
    → IsWritable (history ++ (record { change = resolved.change; origin = origin } ∷ []))
next_writable history resolved before origin terms time number entries numbered rising low is ids writable well count at =
    let next : time ≡ suc (length history) = omega arith in
    next_at history resolved before origin terms number entries
    (subst (λ (t : ℕ). TellsNumbering resolved before terms t number entries) next numbered) rising (subst (λ (t : ℕ). t < 2 ^ 64) next low) is
    (subst (λ (t : ℕ). AreIdsAt t (lexicon_at history (length history)) resolved.vocabulary.terms before) next ids) writable well count

-- the labels of a change are bound well at the next time, if that fits
pub next_binds : (resolved : Resolved) (time : ℕ) → time < 2 ^ 64 → IsVocabularyOf resolved.change.statements resolved.vocabulary → AllByRecursion IsStatement resolved.change.statements
    → BindWell time resolved.vocabulary.terms
next_binds resolved time low is well = vocabulary-binds time resolved.change.statements resolved.vocabulary.terms low well is.terms
