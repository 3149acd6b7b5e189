use Rattle.std.proofs.Common.{◌≡◌, option_map, sym, ap, subst}
use Rattle.record_log.specs.Logs.{IsSameLog}
use Rattle.change_model.specs.declared.history.Committed.{Committed}
use Rattle.commit_core.specs.Rooms.{Room}
use Rattle.commit_core.specs.Steps.{CommitStep, pin_back}
use Rattle.std.specs.Arc.{arc_value}
use Rattle.commit_core.specs.Ledgers.{Ledgered, room_of}
use Rattle.commit_core.specs.Resolving.{HasRows, IsResolvedFor}
use Rattle.commit_core.proofs.RowsKept.{moved, resolved_moved, planned_moved}
use Rattle.commit_core.proofs.Deciding.{step_before, step_still}
use Rattle.commit_core.proofs.Planning.{room_planned}
use Rattle.commit_core.proofs.state.CommitState.commit.Goals as goal

pub returns-clause-step : goal.returns-clause-step
returns-clause-step g c =
    let i = c.self.inside in
    let p = c.plan.new.self in
    let q = c.place.new.self in
    let old = c.args.self.now in
    let n = c.args.pin.number in
    let made : Committed = record { change = c.args.resolved.change; origin = c.args.origin } in
    let new = room_of q.ledger q.disk q.log i.most in
    let room_is : room_of p.ledger p.disk p.log i.most ≡ record (pin_back n old) { log = p.log } =
    room_planned i.parts.ledger c.release.new.self p.ledger n _ i.most i.parts.disk p.disk i.parts.log p.log old c.self.view_is c.release.ensures.is c.in_ok-planned.ensures.ledger c.in_ok-planned.ensures.disk in
    step_before g.D.Disk.fault_count (pin_back n old) new p.log c.args.seen.now c.place.new.seen made c.place.result
    (subst (λ (r : Room _). IsSameLog r.log p.log) c.self.view_is c.in_ok-planned.ensures.log) c.place.ensures.memory
    (subst (λ (r : Room _). CommitStep g.D.Disk.fault_count r new c.args.seen.now c.place.new.seen made c.place.result) room_is c.place.ensures.step)

pub returns-clause-still : goal.returns-clause-still
returns-clause-still g c =
    step_still g.D.Disk.fault_count _ _ c.args.seen.now c.place.new.seen (record { change = c.args.resolved.change; origin = c.args.origin }) c.place.result c.requires.one (returns-clause-step g c)

pub returns-clause-rows : goal.returns-clause-rows
returns-clause-rows g c = λ have resolved.
    let first = c.self.inside.parts.ledger in
    let back = c.release.new.self in
    let ready = c.plan.new.self.ledger in
    let made : Committed = record { change = c.args.resolved.change; origin = c.args.origin } in
    let entries = c.in_ok-planned.planned.entries in
    let have_first = subst (λ (r : Room _). HasRows r) (sym c.self.view_is) have in
    let resolved_first = subst (λ (r : Room _). IsResolvedFor r.seen c.args.pin.time c.args.resolved) (sym c.self.view_is) resolved in
    let seen = ap (λ (l : Ledgered). l.keeper.seen) c.release.ensures.is in
    let waits = ap (λ (l : Ledgered). l.waiting) c.release.ensures.is in
    let have_back = moved back.keeper.seen first.keeper.seen back.entries first.entries back.waiting first.waiting seen (ap (λ (l : Ledgered). l.entries) c.release.ensures.is) waits have_first in
    let resolved_back = resolved_moved back.keeper.seen first.keeper.seen c.time-pinned.result c.args.pin.time c.args.resolved
    seen c.time-pinned.ensures.time resolved_first in
    let planned = c.in_ok-planned.ensures.rows c.args.origin have_back resolved_back in
    let seen_ready = ap (λ (l : Ledgered). l.keeper.seen) c.in_ok-planned.ensures.ledger in
    let waits_ready = ap (λ (l : Ledgered). l.waiting) c.in_ok-planned.ensures.ledger in
    c.place.ensures.rows
    (moved ready.keeper.seen back.keeper.seen ready.entries back.entries ready.waiting back.waiting seen_ready (ap (λ (l : Ledgered). l.entries) c.in_ok-planned.ensures.ledger) waits_ready have_back)
    (planned_moved ready.keeper.seen back.keeper.seen ready.waiting back.waiting made (arc_value entries.alone) (option_map arc_value entries.behind) seen_ready waits_ready planned)
