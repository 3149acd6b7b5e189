use Rattle.std.proofs.Common.{◌++◌}
use Rattle.nt_text.specs.Reading.{part_meaning}
use Rattle.nt_text.proofs.PieceTexts.{so_far_more, piece_shorter, cut_there}
use Rattle.nt_text.proofs.pieces.cut_text.Goals as goal

pub pieces-smaller : goal.pieces-smaller
pieces-smaller c = piece_shorter c.args.between c.pieces.rest.now (part_meaning c.in-Some.field-0-0, c.in-Some.behind.now) c.in-Some.ensures

pub pieces-preserved : goal.pieces-preserved
pieces-preserved c = (
  c.pieces.invariant.0 ++ part_meaning c.in-Some.field-0-0,
  so_far_more c.args.between c.args.bytes.now c.pieces.rest.now c.pieces.invariant.0 (part_meaning c.in-Some.field-0-0, c.in-Some.behind.now) c.pieces.invariant.1 c.in-Some.ensures,
)

pub returns : goal.returns
returns c =
    cut_there c.args.between c.args.bytes.now c.pieces.rest.now c.pieces.invariant.0 c.split_at.result.0.now c.split_at.result.1.now c.pieces.invariant.1 c.in_default.ensures
    c.split_at.ensures.front c.split_at.ensures.back
