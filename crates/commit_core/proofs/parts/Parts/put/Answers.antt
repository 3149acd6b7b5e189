use Rattle.std.proofs.Common.{map}
use Rattle.commit_core.specs.Records.{record_bytes}
use Rattle.commit_core.proofs.Deciding.{put_leaves_items}
use Rattle.commit_core.proofs.parts.Parts.put.Goals as goal

pub returns-in-Ok-clause-leaves : goal.returns-in-Ok-clause-leaves
returns-in-Ok-clause-leaves g c = λ most entries coming body is.
    put_leaves_items entries coming _ _ _ _ c.requires.tied.file body (c.put_prepared-put.ensures.leaves (map record_bytes entries) is.carries)

pub returns-in-Err-Failed-clause-leaves : goal.returns-in-Err-Failed-clause-leaves
returns-in-Err-Failed-clause-leaves g c = λ most entries coming body is.
    put_leaves_items entries coming _ _ _ _ c.requires.tied.file body (c.put_prepared-put.ensures.leaves (map record_bytes entries) is.carries)
