use Rattle.std.proofs.Common.{◌++◌, List, ℕ, sym, ap, ◌∙◌, append_assoc}
use Rattle.nt_text.specs.Reading.{part_meaning}
use Rattle.nt_text.proofs.PieceTexts.{so_far_more, so_far_end, piece_shorter}
use Rattle.nt_text.proofs.pieces.put_text.Goals as goal

pub pieces-smaller : goal.pieces-smaller
pieces-smaller c = piece_shorter c.args.between c.pieces.rest.now (part_meaning c.in-Some.part, c.in-Some.behind.now) c.in-Some.ensures

pub pieces-preserved : goal.pieces-preserved
pieces-preserved c = (
  c.pieces.invariant.0 ++ part_meaning c.in-Some.part,
  so_far_more c.args.between c.args.raw.now c.pieces.rest.now c.pieces.invariant.0 (part_meaning c.in-Some.part, c.in-Some.behind.now) c.pieces.invariant.1 c.in-Some.ensures,
  c.in_ok-put_part.ensures ∙ ap (λ (x : List ℕ). x ++ part_meaning c.in-Some.part) c.pieces.invariant.2
      ∙ append_assoc c.args.out.now.items c.pieces.invariant.0 (part_meaning c.in-Some.part),
)

pub returns : goal.returns
returns c =
    let read = so_far_end c.args.between c.args.raw.now c.pieces.rest.now c.pieces.invariant.0 c.pieces.invariant.1 c.in_default.ensures in
    c.pieces.invariant.2 ∙ ap (λ (x : List ℕ × List ℕ). c.args.out.now.items ++ x.0) (sym read)
