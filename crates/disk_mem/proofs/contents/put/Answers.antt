use Rattle.std.proofs.Common.{arith}
use Rattle.disk_mem.proofs.Writes.{with_bytes_from}
use Rattle.disk_mem.proofs.contents.put.Goals as goal

pub returns-clause-ok : goal.returns-clause-ok
returns-clause-ok c =
    with_bytes_from c.args.held.now.items c.args.bytes.now c.grow.new.held.items c.as_mut_slice.result.now c.overwrite.new.held c.grow.new.held.len c.args.at c.in-Some.end c.requires (omega (arith, c.in-Some.ensures)) (omega arith)
    c.in_ok-grow.ensures.ok c.as_mut_slice.ensures.value c.overwrite.ensures
