-- A change that is committed.
use Rattle.std.proofs.Common.{◌≡◌, ℕ, ◌+◌, ◌*◌, ◌<◌, ◌^◌, List, [], ◌∷◌, ◌++◌, map, length, take, Global, refl, sym, ◌∙◌, ap, subst, arith}
use Rattle.std.specs.Arc.{arc_value}
use Rattle.std.specs.declared.sync.Arc.{Arc}
use Rattle.std.specs.List.{AllByRecursion}
use Rattle.std.proofs.Math.Seq.{take-length}
use Rattle.term_core.specs.Term.{IsStatement}
use Rattle.change_model.specs.declared.entry.Entry.{Entry}
use Rattle.change_model.specs.declared.entry.Resolved.{Resolved}
use Rattle.change_model.specs.declared.history.Change.{Change}
use Rattle.change_model.specs.declared.history.Committed.{Committed}
use Rattle.change_model.specs.declared.history.Origin.{Origin}
use Rattle.change_model.specs.History.{History}
use Rattle.change_model.specs.Lexicon.{lexicon_at}
use Rattle.change_model.specs.Entries.{IsLastEntry, IsResolved, AreEntriesAfter}
use Rattle.change_model.specs.Laws.{IsWritable}
use Rattle.bigfed.specs.declared.store.Store.{Store}
use Rattle.bigfed.specs.Standing.{StoreStandsFor}
use Rattle.bigfed.proofs.Growth.{writable_grows}
use Rattle.bigfed.proofs.Steps.{length-origins}

-- the longer history may be a store's, and the entry has the rows of its last change
pub record IsTold (history : History) (committed : Committed) (entry : Entry) : Type 0 where
  pub writable : IsWritable (history ++ committed ∷ [])
  pub last : IsLastEntry (history ++ committed ∷ []) entry

pub entry_told : (history : History) (store : Store) (change : Change) (origin : Origin) (resolved : Resolved) (later : List (Arc Entry Global)) (entry : Entry) (terms time : ℕ)
    → StoreStandsFor store history → AllByRecursion IsStatement change.statements → IsResolved history resolved → resolved.change ≡ change
    → length store.origins + 1 < 2 ^ 64 → store.indexes.terms + 3 * length change.statements < 2 ^ 64
    → later ≡ [] → ((before : History) (pinned : ℕ) (from : Origin) → IsResolved (take pinned before) resolved → AreEntriesAfter before pinned (map arc_value later) → IsWritable (before ++ record { change = resolved.change; origin = from } ∷ [])
    → terms ≡ length (lexicon_at before (length before)) → time ≡ length before + 1
    → IsLastEntry (before ++ record { change = resolved.change; origin = from } ∷ []) entry)
    → terms ≡ store.indexes.terms → time ≡ length store.origins + 1
    → IsTold history (record { change = change; origin = origin }) entry
entry_told history store change origin resolved later entry terms time stands are resolves same times ids none entered terms_are time_is =
    let long = length-origins store history stands in
    let committed : Committed = record { change = change; origin = origin } in
    let room : length history + 1 < 2 ^ 64 = omega arith in
    let writable = writable_grows history committed store.indexes.terms stands.indexes.writable are stands.indexes.terms room ids in
    let W : Change → Type 0 = λ made. IsWritable (history ++ record { change = made; origin = origin } ∷ []) in
    let L : Change → Type 0 = λ made. IsLastEntry (history ++ record { change = made; origin = origin } ∷ []) entry in
    let after : AreEntriesAfter history (length history) (map arc_value later) = subst (λ (xs : List (Arc Entry Global)). AreEntriesAfter history (length history) (map arc_value xs)) (sym none) refl in
    record {
      writable = writable;
      last = subst L same (entered history (length history) origin (subst (λ (h : History). IsResolved h resolved) (sym (take-length history)) resolves) after (subst W (sym same) writable) (terms_are ∙ stands.indexes.terms) (time_is ∙ ap (λ n. n + 1) long));
    }
