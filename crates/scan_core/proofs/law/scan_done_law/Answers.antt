use Rattle.scan_core.proofs.Scanned.{scan_done}
use Rattle.scan_core.proofs.law.scan_done_law.Goals as goal

pub returns : goal.returns
returns c = scan_done
