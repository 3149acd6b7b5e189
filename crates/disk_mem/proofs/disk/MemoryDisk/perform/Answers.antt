use Rattle.std.proofs.Common.{arith}
use Rattle.disk_mem.specs.Contents.{bytes_in}
use Rattle.disk_mem.specs.Replay.{begun}
use Rattle.disk_mem.proofs.Replays.{pushed, steps_pushed, tied_pushed}
use Rattle.disk_mem.proofs.disk.MemoryDisk.perform.Goals as goal

pub invariant_of-self-2 : goal.invariant_of-self-2
invariant_of-self-2 c =
    let disk = c.args.self.now in
    record {
      tied = tied_pushed (begun (bytes_in disk.first.files)) disk.calls.items c.reserve.new.self.items c.push.new.self.items c.args.call disk.contents.files c.apply.new.self.files c.reserve.ensures.items
          (pushed c.push.result c.reserve.new.self.items c.push.new.self.items c.args.call c.push.ensures.items (c.push.ensures.succeeds (omega (arith, c.in_ok-reserve.ensures.ok))))
          disk.tied c.in_ok-apply.ensures.ok;
    }

pub returns-clause-ok : goal.returns-clause-ok
returns-clause-ok c =
    let disk = c.args.self.now in
    steps_pushed (begun (bytes_in disk.first.files)) disk.calls.items c.reserve.new.self.items c.push.new.self.items c.args.call c.reserve.ensures.items c.in-Ok.ensures.items
