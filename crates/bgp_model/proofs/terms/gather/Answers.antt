use Rattle.std.proofs.Common.{◌≡◌, [], ◌∷◌, ◌++◌, ap, sym, subst, ◌∙◌, rules}
use Rattle.std.specs.BTreeSet.{insert_key}
use Rattle.base_core.specs.Lists.{Has}
use Rattle.term_core.specs.contracts.term.TermOrd.TheImpl as term_ord
use Rattle.bgp_model.specs.QueryTerms.{fixed_in}
use Rattle.bgp_model.specs.GatheredTerms.{IsGathered}
use Rattle.bgp_model.proofs.Firsts.{gathered_old, gathered_new}
use Rattle.bgp_model.proofs.terms.gather.Goals as goal

pub returns-then-is_seen : goal.returns-then-is_seen
returns-then-is_seen c = λ before so_far.
    subst (λ slot. IsGathered (before ++ fixed_in slot) c.args.terms.now.items c.args.seen.now.keys) (sym c.in-Fixed.is)
    (gathered_old before _ _ c.in-Fixed.term (c.is_seen.ensures.0 c.if-is_seen.true) so_far)

pub returns : goal.returns
returns c = λ before so_far.
    let out : Has c.args.seen.now.keys c.in-Fixed.term → ⊥ = search rules in
    let pushed : c.push.new.self.items ≡ c.args.terms.now.items ++ c.in-Fixed.term ∷ [] =
    c.in_ok-push.ensures.items ∙ ap (λ t. c.args.terms.now.items ++ t ∷ []) c.in_ok-copy-2.ensures in
    let inserted : c.insert.new.self.keys ≡ insert_key (term_ord.ghosts).cmp c.args.seen.now.keys c.in-Fixed.term =
    c.in_ok-insert.ensures.keys ∙ ap (insert_key (term_ord.ghosts).cmp c.args.seen.now.keys) c.in_ok-copy.ensures in
    subst (λ slot. IsGathered (before ++ fixed_in slot) c.push.new.self.items c.insert.new.self.keys) (sym c.in-Fixed.is)
    (gathered_new before _ _ _ _ c.in-Fixed.term out pushed inserted so_far)
