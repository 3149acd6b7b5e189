use Rattle.body_codec.proofs.Elements.{IfSome-like, IfNone-like}
use Rattle.body_codec.proofs.Turns.{AreInTurn-from, AreInTurn-object, IsNext-three}
use Rattle.body_codec.proofs.read_statements.after_statement.Goals as goal

pub returns-clause-none : goal.returns-clause-none
returns-clause-none c =
    IfNone-like c.after_place-3.result (λ none before is turns.
    none _ (c.in-Some-after_place.ensures.after _ (c.in-Some.ensures.after before is)) (AreInTurn-object before c.args.places turns))
    c.after_place-3.ensures.none

pub returns-clause-turns : goal.returns-clause-turns
returns-clause-turns c =
    IfSome-like _ _ c.after_place-3.result (λ after turn before is.
    let first = c.in-Some.ensures.after before is in
    AreInTurn-from before c.args.places (c.in-Some.ensures.turn before is) (c.in-Some-after_place.ensures.turn _ first)
    (turn _ (c.in-Some-after_place.ensures.after _ first)))
    c.after_place-3.ensures.turn

pub returns-clause-after : goal.returns-clause-after
returns-clause-after c =
    IfSome-like _ _ c.after_place-3.result (λ after next before is.
    IsNext-three before c.args.places after (next _ (c.in-Some-after_place.ensures.after _ (c.in-Some.ensures.after before is))))
    c.after_place-3.ensures.after
