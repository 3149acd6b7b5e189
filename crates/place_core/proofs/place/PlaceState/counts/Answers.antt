use Rattle.std.proofs.Common.{◌<◌, length, sym, subst, arith}
use Rattle.place_core.specs.Places.{Placing}
use Rattle.place_core.proofs.Counting.{few_lines}
use Rattle.place_core.proofs.place.PlaceState.counts.Goals as goal

pub counts_of-requires : goal.counts_of-requires
counts_of-requires c =
    let p : Placing = record { list = c.self.inside.seat; lines = c.self.inside.lines.items } in
    let few = few_lines p c.self.invariant in
    record { few = subst (λ lines. length lines < 4294967296) (sym c.as_slice.ensures.value) (omega arith) }
