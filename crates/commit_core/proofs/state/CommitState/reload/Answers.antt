use Rattle.std.proofs.Common.{◌≡◌, ◌+◌, length, None, sym, subst, arith}
use Rattle.std.specs.Arc.{arc_value}
use Rattle.change_model.specs.declared.history.Origin.{Origin}
use Rattle.change_model.specs.Entries.{IsResolved}
use Rattle.commit_core.specs.Rooms.{Room}
use Rattle.commit_core.specs.Resolving.{HasRows, committed_by}
use Rattle.commit_core.proofs.RowsKept.{found_rows}
use Rattle.commit_core.proofs.state.CommitState.reload.Goals as goal

pub returns-clause-rows : goal.returns-clause-rows
returns-clause-rows g c = λ have none resolved statements.
    let first = c.self.inside.parts.ledger in
    let seen = first.keeper.seen in
    let time_is : c.in-Some.time ≡ length seen + 1 = omega (arith, c.length.ensures.length, c.in-Some.ensures) in
    let origin : Origin = record { session = 0; command = c.command_at.result } in
    let have_first = subst (λ (r : Room _). HasRows r) (sym c.self.view_is) have in
    let next = c.in_ok-entry.ensures.rows origin have_first.entered (subst (λ (r : Room _). IsResolved r.seen c.args.resolved) (sym c.self.view_is) resolved) have_first.writable statements time_is in
    found_rows c.grown_entries_law.ensures first c.reserve.new.self c.found.new.self (committed_by c.args.resolved origin) (arc_value c.in_ok-entry.entry) _ _
    c.in_ok-reserve.ensures.same c.found.ensures.is have_first (subst (λ (r : Room _). r.undecided ≡ None) (sym c.self.view_is) none) next
