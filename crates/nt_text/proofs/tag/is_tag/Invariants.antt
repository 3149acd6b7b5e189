use Rattle.std.proofs.Common.{◌≡◌, Some, true, false, drop}
use Rattle.nt_text.specs.Reading.{is_tag_from}
use Rattle.nt_text.proofs.tag.is_tag.Given as goal

abbrev pub invariant-loop-byte : goal.invariant-loop-byte
invariant-loop-byte l = is_tag_from (Some (record { first = true; filled = false })) l.bytes ≡ is_tag_from (Some l.place) (drop l.byte-index l.bytes)
