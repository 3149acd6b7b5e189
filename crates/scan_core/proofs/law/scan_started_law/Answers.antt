use Rattle.scan_core.proofs.Scanned.{scan_started}
use Rattle.scan_core.proofs.law.scan_started_law.Goals as goal

pub returns : goal.returns
returns c = scan_started
