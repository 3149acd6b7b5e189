use Rattle.std.proofs.Common.{◌≡◌, ◌++◌, take, drop}
use Rattle.query_text.specs.Parsing.{prefix_at, local_at}
use Rattle.query_text.proofs.class.split_name.Given as goal

abbrev pub invariant-characters : goal.invariant-characters
invariant-characters l =
    (take l.at l.name ++ prefix_at (drop l.at l.name) ≡ prefix_at l.name) × (local_at (drop l.at l.name) ≡ local_at l.name)
