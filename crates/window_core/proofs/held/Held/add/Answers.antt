use Rattle.std.proofs.Common.{subst, arith}
use Rattle.window_core.specs.Runs.{all_of, merged, AreThoseIn}
use Rattle.window_core.proofs.Arranging.{arranged_in_order}
use Rattle.window_core.proofs.Holding.{times_rise, extended, within_later}
use Rattle.window_core.proofs.held.Held.add.Goals as goal

pub put_run-requires-clause-later : goal.put_run-requires-clause-later
put_run-requires-clause-later c =
    let taken = subst (λ rows. AreThoseIn c.args.self.now.span rows c.in_ok-run.run') c.items.ensures c.in_ok-run.ensures in
    times_rise c.args.self.now.span c.args.self.now.from c.args.self.now.upto c.args.time c.args.self.now.runs.items c.args.rows.now c.in_ok-run.run' c.args.self.now.are_runs
    c.args.self.now.within c.requires.next c.requires.changes taken

pub invariant_of-self-2 : goal.invariant_of-self-2
invariant_of-self-2 c =
    let taken = subst (λ rows. AreThoseIn c.args.self.now.span rows c.in_ok-run.run') c.items.ensures c.in_ok-run.ensures in
    let held = c.args.self.now in
    let low = held.times in
    record {
      are_runs = c.in_ok-put_run.ensures.runs;
      ordered = arranged_in_order (all_of c.put_run.new.runs.items);
      within = within_later held.span held.from held.upto c.args.time (merged held.runs.items) c.args.rows.now (merged c.put_run.new.runs.items) low c.requires.next held.within
          c.requires.changes (extended c.args.self.now.span c.args.rows.now c.in_ok-run.run' c.args.self.now.runs.items c.put_run.new.runs.items c.args.self.now.are_runs c.in_ok-put_run.ensures.runs taken c.in_ok-put_run.ensures.has);
      times = omega (arith, c.requires.next, low);
    }

pub returns-clause-rows : goal.returns-clause-rows
returns-clause-rows c =
    let taken = subst (λ rows. AreThoseIn c.args.self.now.span rows c.in_ok-run.run') c.items.ensures c.in_ok-run.ensures in
    extended c.args.self.now.span c.args.rows.now c.in_ok-run.run' c.args.self.now.runs.items c.put_run.new.runs.items c.args.self.now.are_runs c.in_ok-put_run.ensures.runs taken c.in_ok-put_run.ensures.has
