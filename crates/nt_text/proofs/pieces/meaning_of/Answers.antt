use Rattle.nt_text.proofs.PieceTexts.{plain_text}
use Rattle.nt_text.proofs.pieces.meaning_of.Goals as goal

pub returns-then-is_empty : goal.returns-then-is_empty
returns-then-is_empty c =
    let same = plain_text c.args.between c.plain_class.result c.args.raw.now c.cut_run.result.1.now c.is_empty.result c.plain_class.ensures c.cut_run.ensures.behind c.is_empty.ensures
    c.if-is_empty.true in
    rw (← same) c.text_from.ensures
