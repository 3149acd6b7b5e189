use Rattle.std.specs.Prelude.{None, []}
use Rattle.window_merge.proofs.tests.first_of.Goals as goal

pub first_value-requires-clause-adjacent : goal.first_value-requires-clause-adjacent
first_value-requires-clause-adjacent c = (record { left = []; right = None }, 0, 6, c.requires.adjacent)
