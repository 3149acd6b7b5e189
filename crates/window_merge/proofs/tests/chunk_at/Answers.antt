use Rattle.std.specs.Prelude.{None, []}
use Rattle.window_merge.proofs.tests.chunk_at.Goals as goal

pub merged_chunk-requires-clause-adjacent : goal.merged_chunk-requires-clause-adjacent
merged_chunk-requires-clause-adjacent c = (record { left = []; right = None }, 0, 6, c.requires.adjacent)
