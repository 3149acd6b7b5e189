use Rattle.std.proofs.Common.{ℕ, map, option_map, Ok}
use Rattle.record_log.proofs.Items.{mend_items}
use Rattle.commit_core.specs.Records.{record_bytes}
use Rattle.commit_core.specs.Ledgers.{room_of}
use Rattle.commit_core.proofs.Deciding.{room_decided, records_decided, leaves_items}
use Rattle.commit_core.proofs.parts.Parts.decide.Goals as goal

pub returns-in-Ok-clause-carries : goal.returns-in-Ok-clause-carries
returns-in-Ok-clause-carries g c = λ most entries waiting is.
    let old = c.args.self.now in
    let disk = c.mend-mended.new.disk in
    let log = c.mend-mended.new.self in
    let told = g.D.Disk.told disk in
    records_decided told (room_of old.ledger old.disk old.log most) (room_of c.decide.new.self disk log most) c.in-Ok.kept entries waiting
    (room_decided c.in-Ok.kept _ _ most old.ledger c.post.new.self c.decide.new.self old.disk disk old.log log c.post.ensures.posted c.decide.ensures.decided)
    (mend_items {E = ℕ} record_bytes log told entries waiting (Ok c.in-Ok.kept) (c.in-Ok.ensures.carries (map record_bytes entries) (option_map record_bytes waiting) is.carries))
    is.changes is.undecided

pub returns-in-Ok-clause-leaves : goal.returns-in-Ok-clause-leaves
returns-in-Ok-clause-leaves g c = λ most entries waiting is.
    leaves_items entries waiting _ _ _ c.requires.tied.file (c.mend-mended.ensures.leaves (map record_bytes entries) (option_map record_bytes waiting) is.carries)

pub returns-in-Err-clause-leaves : goal.returns-in-Err-clause-leaves
returns-in-Err-clause-leaves g c = λ most entries waiting is.
    leaves_items entries waiting _ _ _ c.requires.tied.file (c.mend-mended.ensures.leaves (map record_bytes entries) (option_map record_bytes waiting) is.carries)
