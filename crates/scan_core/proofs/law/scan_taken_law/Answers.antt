use Rattle.scan_core.proofs.Scanned.{scan_taken}
use Rattle.scan_core.proofs.law.scan_taken_law.Goals as goal

pub returns : goal.returns
returns c = scan_taken
