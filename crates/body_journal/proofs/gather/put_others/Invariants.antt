use Rattle.std.proofs.Common.{◌≡◌, ◌++◌, drop}
use Rattle.std.specs.List.{flat_map}
use Rattle.body_journal.specs.Groups.{body_field}
use Rattle.body_journal.specs.Held.{grouped_in}
use Rattle.body_journal.proofs.gather.put_others.Given as goal

abbrev pub invariant-held : goal.invariant-held
invariant-held l = l.initial.out.items ++ flat_map body_field (grouped_in l.held) ≡ l.out.items ++ flat_map body_field (grouped_in (drop l.one-index l.held))
