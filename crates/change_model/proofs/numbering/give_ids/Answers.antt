use Rattle.std.proofs.Common.{◌≡◌, ◌<◌, ◌≤◌, List, length, get_or, ap, subst, ◌∙◌}
use Rattle.std.specs.List.{slice_get}
use Rattle.std.specs.Map.{lookup}
use Rattle.term_core.specs.declared.term.Term.{Term}
use Rattle.term_core.specs.Spelling.{spelling}
use Rattle.change_model.specs.Lexicon.{same_text}
use Rattle.change_model.specs.Numbering.{nodes_of}
use Rattle.change_model.proofs.EntryChanges.{next_none}
use Rattle.change_model.proofs.EntryGiven.{have_none, have_more, have_all, next_term, next_spelling}
use Rattle.change_model.proofs.EntryNumbering.{shown_is}
use Rattle.change_model.proofs.numbering.give_ids.Goals as goal

pub terms-init : goal.terms-init
terms-init c = (
  next_none c.args.count c.new.result.items c.ranges.count.fits c.new.ensures.items,
  λ base is spelled bind ids.
      have_none base c.args.time c.args.vocabulary.now.terms c.in_ok-given.given.items c.args.count c.new.result.items (nodes_of c.new-2.result) is c.in_ok-given.ensures.items c.new.ensures.items
      (λ label. ap (λ entries. lookup (same_text label) entries) c.new-2.ensures.empty),
)

pub terms-preserved : goal.terms-preserved
terms-preserved c = (
  c.in_ok-id.ensures.rising _ c.terms.invariant.0,
  λ base is spelled bind ids.
      let vocabulary = c.args.vocabulary.now in
      let item = c.index-terms-place.result in
      let so_far = c.terms.invariant.1 base is spelled bind ids in
      let below : c.terms.place < length vocabulary.terms = subst (λ (ts : List Term). c.terms.place < length ts) c.items-terms.ensures c.terms-test.true in
      let at : item ≡ get_or vocabulary.terms c.terms.place item = subst (λ (ts : List Term). item ≡ get_or ts c.terms.place item) c.items-terms.ensures c.index-terms-place.is in
      let next = next_term c.args.time base vocabulary c.args.ids.now c.terms.place item c.id_at.result spelled bind ids below at c.id_at.ensures in
      let key = shown_is c.key_at-spelling.result (spelling item) (c.key_at-spelling.ensures ∙ ap (λ keys. slice_get keys c.terms.place) c.items.ensures ∙ next_spelling vocabulary c.terms.place item spelled below at) in
      have_more base c.args.time vocabulary.terms c.terms.place item c.terms.given.items c.push.new.self.items c.in_ok-id.id c.id_for.new.self.count c.id_for.new.self.brought.items (nodes_of c.id_for.new.self.nodes)
      below at so_far.ids (c.in_ok-id.ensures.given base _ next key so_far.giving) c.in_ok-push.ensures.items,
)

pub returns-clause-ids : goal.returns-clause-ids
returns-clause-ids c base is spelled bind ids =
    let end : length c.args.vocabulary.now.terms ≤ c.terms.place = subst (λ (ts : List Term). length ts ≤ c.terms.place) c.items-terms.ensures c.terms-test.false in
    (have_all base c.args.time c.args.vocabulary.now.terms c.terms.place c.terms.given.items c.terms.giving.count c.terms.giving.brought.items (nodes_of c.terms.giving.nodes) end (c.terms.invariant.1 base is spelled bind ids)).0

pub returns-clause-numbering : goal.returns-clause-numbering
returns-clause-numbering c base is spelled bind ids =
    let end : length c.args.vocabulary.now.terms ≤ c.terms.place = subst (λ (ts : List Term). length ts ≤ c.terms.place) c.items-terms.ensures c.terms-test.false in
    (have_all base c.args.time c.args.vocabulary.now.terms c.terms.place c.terms.given.items c.terms.giving.count c.terms.giving.brought.items (nodes_of c.terms.giving.nodes) end (c.terms.invariant.1 base is spelled bind ids)).1

pub returns-clause-rising : goal.returns-clause-rising
returns-clause-rising c = c.terms.invariant.0
