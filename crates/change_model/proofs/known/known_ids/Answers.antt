use Rattle.std.proofs.Common.{◌≡◌, ◌<◌, ◌≤◌, ◌∙◌, List, [], length, get_or, ap, sym, subst}
use Rattle.std.specs.List.{slice_get}
use Rattle.std.proofs.lemmas.List.{take_all}
use Rattle.term_core.specs.declared.term.Term.{Term}
use Rattle.change_model.specs.Numbering.{AreIdsAt}
use Rattle.change_model.proofs.EntryGiven.{next_rules, next_known, next_spelling}
use Rattle.change_model.proofs.LaterIds.{known_more}
use Rattle.change_model.proofs.known.known_ids.Goals as goal

pub terms-init : goal.terms-init
terms-init c time early base told spelled bind are = subst (AreIdsAt time base []) (sym c.in_ok-known.ensures.items) tt

pub terms-preserved : goal.terms-preserved
terms-preserved c time early base told spelled bind are =
    let vocabulary = c.args.vocabulary.now in
    let item = c.index-terms-place.result in
    let below : c.terms.place < length vocabulary.terms = subst (λ (ts : List Term). c.terms.place < length ts) c.items-terms.ensures c.terms-test.true in
    let at : item ≡ get_or vocabulary.terms c.terms.place item = subst (λ (ts : List Term). item ≡ get_or ts c.terms.place item) c.items-terms.ensures c.index-terms-place.is in
    let rule = next_rules time vocabulary.terms c.terms.place item bind below at in
    let key = c.key_at-spelling.ensures ∙ ap (λ keys. slice_get keys c.terms.place) c.items.ensures ∙ next_spelling vocabulary c.terms.place item spelled below at in
    let had = next_known early vocabulary.terms c.args.ids.now c.terms.place item c.id_at.result are below at c.id_at.ensures in
    known_more time base vocabulary.terms c.terms.place item c.terms.known.items c.push.new.self.items c.known_id.result below at
    (c.terms.invariant time early base told spelled bind are) (c.known_id.ensures time early base told rule key had) c.in_ok-push.ensures.items

pub returns : goal.returns
returns c time early base told spelled bind are =
    let terms = c.args.vocabulary.now.terms in
    let end : length terms ≤ c.terms.place = subst (λ (ts : List Term). length ts ≤ c.terms.place) c.items-terms.ensures c.terms-test.false in
    subst (λ (ts : List Term). AreIdsAt time base ts c.terms.known.items) (take_all c.terms.place terms end) (c.terms.invariant time early base told spelled bind are)
