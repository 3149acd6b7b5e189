use Rattle.std.proofs.Common.{arith}
use Rattle.query_text.proofs.Widths.{width-append}
use Rattle.query_text.proofs.place.place_of.Goals as goal

pub width-requires : goal.width-requires
width-requires c = omega (arith, c.requires.within, c.requires.short, width-append c.args.token.now.characters.now c.args.token.now.behind.now)

pub overflow_sub-size : goal.overflow_sub-size
overflow_sub-size c = omega (arith, c.width.ensures, c.requires.within, width-append c.args.token.now.characters.now c.args.token.now.behind.now)

pub place_before-requires-clause-within : goal.place_before-requires-clause-within
place_before-requires-clause-within c =
    omega (arith, c.width.ensures, c.requires.within, width-append c.args.token.now.characters.now c.args.token.now.behind.now)

pub returns : goal.returns
returns c =
    omega (arith, c.width.ensures, c.requires.within, c.place_before.ensures, width-append c.args.token.now.characters.now c.args.token.now.behind.now)
