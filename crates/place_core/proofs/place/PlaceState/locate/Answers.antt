use Rattle.std.proofs.Common.{subst}
use Rattle.place_core.specs.Places.{Placing, IsLocated}
use Rattle.place_core.specs.Lines.{IsHeldAt}
use Rattle.place_core.proofs.Keeping.{located_by}
use Rattle.place_core.proofs.place.PlaceState.locate.Goals as goal

pub returns-clause-located : goal.returns-clause-located
returns-clause-located c =
    let p : Placing = record { list = c.self.inside.seat; lines = c.self.inside.lines.items } in
    let held = subst (λ lines. IsHeldAt lines c.args.index c.args.key.now c.holder-at.result) c.as_slice.ensures.value c.holder-at.ensures in
    subst (λ q. IsLocated q c.args.index c.args.key.now (record { number = c.index-line.result.now.number; service = c.index-line.result.now.service; index = c.args.index; span = c.in_ok-span.span; note = c.know-note.result })) c.self.view_is
    (located_by p c.self.invariant c.args.index c.args.key.now c.holder-at.result held c.index-line.result.now c.index-line.ensures c.in_ok-span.span c.in_ok-span.ensures c.know-note.result c.know-note.ensures.note)
