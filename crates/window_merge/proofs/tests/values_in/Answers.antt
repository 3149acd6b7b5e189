use Rattle.std.specs.Prelude.{None, []}
use Rattle.window_merge.proofs.tests.values_in.Goals as goal

pub values_at-requires-clause-adjacent : goal.values_at-requires-clause-adjacent
values_at-requires-clause-adjacent c = (record { left = []; right = None }, 0, 6, c.requires.adjacent)
