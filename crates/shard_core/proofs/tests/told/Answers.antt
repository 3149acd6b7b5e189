use Rattle.shard_core.proofs.tests.told.Goals as goal

pub read-requires-clause-floors : goal.read-requires-clause-floors
read-requires-clause-floors c = c.requires.floors c.args.t
