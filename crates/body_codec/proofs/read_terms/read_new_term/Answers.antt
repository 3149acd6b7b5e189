use Rattle.std.proofs.Common.{◌≡◌, ◌↔◌, ◌⊎◌, ◌∙◌, ℕ, List, sym, subst}
use Rattle.std.proofs.lemmas.Result.{err_from_is_err_and}
use Rattle.base_core.specs.Lists.{Has}
use Rattle.body_codec.proofs.Steps.{spelling_short, no_term_here, term_twice}
use Rattle.body_codec.proofs.Seen.{was_seen, was_new, seen_more}
use Rattle.body_codec.proofs.read_terms.read_new_term.Goals as goal

pub returns-in_default-split_at_checked-clause-fault : goal.returns-in_default-split_at_checked-clause-fault
returns-in_default-split_at_checked-clause-fault c = λ before all are.
    spelling_short c.args.kind before c.args.bytes.now c.args.at c.in-Some.size.value c.in-Some.size.rest.now c.in-Some.ensures.cases c.in-Some.ensures.fits
    c.in_default-split_at_checked.ensures.cases

pub returns-in_err-term-clause-fault : goal.returns-in_err-term-clause-fault
returns-in_err-term-clause-fault c = λ before all are.
    let p = err_from_is_err_and c.from_residual.result c.from_residual.ensures.1 in
    rw (p.1, p.2) (no_term_here c.args.kind before c.args.bytes.now c.args.at c.in-Some.size.value c.in-Some.size.rest.now c.in-Some-split_at_checked.spelled.now c.in_err-term.field-0.0
    c.in-Some.ensures.cases c.in-Some.ensures.fits c.in-Some-split_at_checked.ensures.cases.1 c.in_err-term.ensures.fault)

pub returns-then-not-branch-clause-fault : goal.returns-then-not-branch-clause-fault
returns-then-not-branch-clause-fault c = λ before all are.
    let seen = was_seen c.args.seen.now.keys c.of.result (sym c.if-not-branch.true ∙ c.in_ok-insert.ensures.added) in
    term_twice c.args.kind before c.args.seen.now.keys c.args.bytes.now c.args.at c.in-Some.size.value c.in-Some.size.rest.now c.in-Some-split_at_checked.spelled.now
    c.in-Some.ensures.cases c.in-Some.ensures.fits c.in-Some-split_at_checked.ensures.cases.1 all are (subst (Has c.args.seen.now.keys) c.of.ensures seen)

pub returns-clause-new : goal.returns-clause-new
returns-clause-new c = λ seen.
    was_new c.args.seen.now.keys c.of.result (sym c.if-not-branch.false ∙ c.in_ok-insert.ensures.added)
    (subst (Has c.args.seen.now.keys) (sym c.in_ok-term.ensures.spelled ∙ sym c.of.ensures) seen)

pub returns-clause-seen : goal.returns-clause-seen
returns-clause-seen c = λ q.
    subst (λ (key : List ℕ). Has c.insert.new.self.keys q ↔ (Has c.args.seen.now.keys q ⊎ (key ≡ q))) (c.of.ensures ∙ c.in_ok-term.ensures.spelled)
    (seen_more c.args.seen.now.keys c.insert.new.self.keys c.of.result c.in_ok-insert.ensures.updates.0 q)
