use Rattle.std.proofs.Common.{subst, sym, ap}
use Rattle.term_core.specs.declared.term.Term.{Term}
use Rattle.term_core.specs.declared.term.Term.TheVariants.{Blank}
use Rattle.term_core.specs.Term.{IsTerm}
use Rattle.change_model.specs.History.{bound_term}
use Rattle.change_model.specs.Numbering.{HasIdIn, IsIdIn}
use Rattle.change_model.proofs.EntryNumbering.{stands, unlabelled_is}
use Rattle.change_model.proofs.known.known_id.Goals as goal

pub returns-in-Some : goal.returns-in-Some
returns-in-Some c time early base told rule spelled is id has =
    let label = c.in-Some.field-0.now in
    told.earlier label (stands base (Blank time label) id (subst (λ (t : Term). HasIdIn base t id) (ap (bound_term time) c.in-Some.ensures.1) has))

pub returns-in-None : goal.returns-in-None
returns-in-None c time early base told rule spelled is =
    let term = c.args.term.now in
    let bound = unlabelled_is time term c.in-None.ensures in
    subst (λ (t : Term). IsIdIn base t c.plain_id.result) (sym bound) (c.plain_id.ensures time early base term told (subst IsTerm bound rule) spelled is)
