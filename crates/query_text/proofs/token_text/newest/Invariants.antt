use Rattle.std.proofs.Common.{◌≡◌, ◌-◌, take}
use Rattle.query_text.specs.Building.{newest}
use Rattle.query_text.proofs.token_text.newest.Given as goal

abbrev pub invariant-declarations : goal.invariant-declarations
invariant-declarations l = newest (take (l.count - l.newer) l.declarations) l.prefix ≡ newest l.declarations l.prefix
