use Rattle.disk_mem.specs.Contents.{bytes_in}
use Rattle.disk_mem.specs.Device.{told_of}
use Rattle.disk_mem.specs.Sound.{replayed_is_sound}
use Rattle.disk_mem.proofs.Images.{begun_is_left}
use Rattle.disk_mem.proofs.disk.MemoryDisk.image.Goals as goal

pub returns-clause-left : goal.returns-clause-left
returns-clause-left c =
    let disk = c.args.self.now in
    begun_is_left c.args.all (told_of disk) (told_of c.in_ok-holding.field-0) (bytes_in c.in_ok-first.first.files) (replayed_is_sound (bytes_in disk.first.files) disk.calls.items)
    c.in_ok-first.ensures c.in_ok-holding.ensures.told
