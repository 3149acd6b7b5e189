use Rattle.std.proofs.Common.{◌≡◌, ◌++◌, arith, sym, ◌∙◌, ap, append_assoc}
use Rattle.std.proofs.lemmas.List.{take-append-drop}
use Rattle.work_text.specs.Outside.{IsTaken}
use Rattle.bigfed.proofs.Outsides.{IsTaken-more}
use Rattle.bigfed.proofs.sink.write_whole.Goals as goal

pub pieces-preserved : goal.pieces-preserved
pieces-preserved g c =
    let inv = c.pieces.invariant in
    let front = c.split_at.result.0.now in
    let rest = c.split_at.result.1.now in
    let cut : front ++ rest ≡ c.pieces.rest.now = rw (c.split_at.ensures.front, c.split_at.ensures.back) (take-append-drop _ _) in
    let took : IsTaken (g.K.Sink.taken c.pieces.sink) (g.K.Sink.taken c.write.new.self) front = rw c.split_at.ensures.front c.in_ok-n.ensures.ok in (
      (
        inv.0.0 ++ front,
        inv.0.1 ∙ ap (λ behind. inv.0.0 ++ behind) (sym cut) ∙ sym (append_assoc inv.0.0 front rest),
        IsTaken-more _ _ _ inv.0.0 front inv.0.2 took,
      ),
      c.in_ok-n.ensures.kept ∙ inv.1,
    )
