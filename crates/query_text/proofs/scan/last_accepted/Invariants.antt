use Rattle.std.proofs.Common.{◌≡◌, Some, None, drop}
use Rattle.query_text.specs.Scanning.{longest_from}
use Rattle.query_text.specs.declared.scan.Scan.TheVariants.{Start}
use Rattle.query_text.proofs.scan.last_accepted.Given as goal

abbrev pub invariant-characters : goal.invariant-characters
invariant-characters l = longest_from l.longest l.at (Some l.scan) (drop l.at l.text) ≡ longest_from None 0 (Some Start) l.text
