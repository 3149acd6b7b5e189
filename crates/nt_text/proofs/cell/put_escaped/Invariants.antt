use Rattle.std.proofs.Common.{◌≡◌, ◌++◌, take}
use Rattle.std.specs.List.{flat_map}
use Rattle.nt_text.specs.Cell.{escaped_byte}
use Rattle.nt_text.proofs.cell.put_escaped.Given as goal

abbrev pub invariant-loop-byte : goal.invariant-loop-byte
invariant-loop-byte l = l.out.items ≡ l.initial.out.items ++ flat_map escaped_byte (take l.byte-index l.form)
