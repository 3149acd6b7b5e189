use Rattle.record_log.proofs.Moving.{unsynced}
use Rattle.record_log.proofs.through.write_through.Goals as goal

pub returns-clause-err : goal.returns-clause-err
returns-clause-err g c =
    unsynced c.sync.result c.args.file c.args.at c.args.bytes.now (g.D.Disk.told c.args.disk.now) (g.D.Disk.told c.write_at.new.self) (g.D.Disk.told c.sync.new.self)
    c.in_ok-write_at.ensures.ok c.sync.ensures.err
