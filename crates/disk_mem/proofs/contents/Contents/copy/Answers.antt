use Rattle.disk_mem.proofs.Copies.{same_bytes, copy_has_no_empty}
use Rattle.disk_mem.proofs.contents.Contents.copy.Goals as goal

pub invariant_of-result : goal.invariant_of-result
invariant_of-result c = record { no_empty = copy_has_no_empty c.args.self.now.files c.in_ok-clone.field-0 c.in_ok-clone.ensures.cases c.args.self.now.no_empty }

pub returns : goal.returns
returns c = same_bytes c.args.self.now.files c.in_ok-clone.field-0 c.in_ok-clone.ensures.cases
