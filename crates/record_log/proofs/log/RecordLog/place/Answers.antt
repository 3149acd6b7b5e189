use Rattle.std.proofs.Common.{arith}
use Rattle.record_log.proofs.Counting.{gate_from}
use Rattle.record_log.proofs.Extents.{place_at}
use Rattle.record_log.proofs.log.RecordLog.place.Goals as goal

pub returns-clause-place : goal.returns-clause-place
returns-clause-place c =
    let place = place_at 0 c.args.self.now.extent.sizes c.args.k c.at.result c.at.ensures in
    omega (arith, place.start, c.saturating_sub.ensures)

pub returns-clause-records : goal.returns-clause-records
returns-clause-records c = λ told bodies has.
    let place = place_at 0 c.args.self.now.extent.sizes c.args.k c.at.result c.at.ensures in
    let gate = gate_from c.args.self.now.extent.sizes bodies c.args.k has.sizes in
    omega (arith, place.start, c.saturating_sub.ensures, gate)

pub returns-clause-undecided : goal.returns-clause-undecided
returns-clause-undecided c = λ told bodies body undecided.
    let place = place_at 0 c.args.self.now.extent.sizes c.args.k c.at.result c.at.ensures in
    let gate = gate_from c.args.self.now.extent.sizes bodies c.args.k undecided.sizes in
    omega (arith, place.start, c.saturating_sub.ensures, gate)
