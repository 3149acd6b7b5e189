use Rattle.std.proofs.Common.{arith, ◌+◌, ap}
use Rattle.std.specs.Char.{len_utf8}
use Rattle.query_text.proofs.Widths.{width-take, width_more}
use Rattle.query_text.proofs.place.width.Goals as goal

pub overflow_add-width : goal.overflow_add-width
overflow_add-width c =
    omega (arith, width-take (c.characters.c-index + 1) c.args.characters.now, width_more c.args.characters.now c.characters.c-index 0 (omega arith), c.c-item.is, c.len_utf8-width.ensures.value)

pub characters-preserved : goal.characters-preserved
characters-preserved c =
    omega (
      arith,
      width_more c.args.characters.now c.characters.c-index c.c-item.result c.characters-test.true,
      ap len_utf8 c.c-item.is,
      c.characters.invariant,
      c.len_utf8-width.ensures.value,
    )
