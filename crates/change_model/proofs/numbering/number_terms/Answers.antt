use Rattle.std.proofs.lemmas.Result.{IfOk-weaker}
use Rattle.change_model.specs.Numbering.{AreIdsAt, IsNumbering}
use Rattle.change_model.proofs.EntryChanges.{next_none}
use Rattle.change_model.proofs.EntryGiven.{add_tells, remove_ids, remove_numbering}
use Rattle.change_model.proofs.numbering.number_terms.Goals as goal

pub returns-in-Add-clause-ids : goal.returns-in-Add-clause-ids
returns-in-Add-clause-ids c =
    IfOk-weaker c.give_ids.result _ _
    (λ made tells. add_tells (λ base known. AreIdsAt c.args.time known c.args.resolved.now.vocabulary.terms made.ids.items) c.args.resolved.now.change.kind c.args.terms c.args.time
    c.args.resolved.now.vocabulary c.args.known.items c.deref.result.now c.in-Add.is c.deref.ensures.value tells)
    c.give_ids.ensures.ids

pub returns-in-Add-clause-numbering : goal.returns-in-Add-clause-numbering
returns-in-Add-clause-numbering c =
    IfOk-weaker c.give_ids.result _ _
    (λ made tells. add_tells (λ base known. IsNumbering base known made.count made.brought.items) c.args.resolved.now.change.kind c.args.terms c.args.time
    c.args.resolved.now.vocabulary c.args.known.items c.deref.result.now c.in-Add.is c.deref.ensures.value tells)
    c.give_ids.ensures.numbering

pub returns-in-Remove-clause-ids : goal.returns-in-Remove-clause-ids
returns-in-Remove-clause-ids c base is spelled bind are =
    remove_ids c.args.resolved.now.change.kind c.args.time c.args.resolved.now.vocabulary.terms c.args.known.items c.in-Remove.is base are

pub returns-in-Remove-clause-numbering : goal.returns-in-Remove-clause-numbering
returns-in-Remove-clause-numbering c base is spelled bind are =
    remove_numbering c.args.resolved.now.change.kind c.args.terms c.args.time c.args.resolved.now.vocabulary.terms c.new.result.items c.in-Remove.is c.new.ensures.items base is

pub returns-in-Remove-clause-rising : goal.returns-in-Remove-clause-rising
returns-in-Remove-clause-rising c = next_none c.args.terms c.new.result.items c.ranges.terms.fits c.new.ensures.items
