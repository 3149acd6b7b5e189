use Rattle.shard_core.proofs.Parts.{part_changes}
use Rattle.shard_core.proofs.shard.add_part.Goals as goal

pub add-requires-clause-changes : goal.add-requires-clause-changes
add-requires-clause-changes c = part_changes c.args.time c.span.result.now c.args.rows.now c.items.result.now c.in_ok-part.part c.items.ensures c.requires.changes c.in_ok-part.ensures
