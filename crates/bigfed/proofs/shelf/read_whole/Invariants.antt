use Rattle.std.proofs.Common.{◌≡◌, ◌≤◌, ◌<◌, ◌-◌, ◌+◌, vec_len}
use Rattle.bigfed.specs.Reading.{IsPartly}
use Rattle.bigfed.proofs.shelf.read_whole.Given as goal

abbrev pub invariant-chunks : goal.invariant-chunks
invariant-chunks g l = record {
  partly : IsPartly (g.S.Shelf.documents l.fn.shelf) l.name l.bytes.items (g.S.Shelf.left l.shelf);
  same : g.S.Shelf.documents l.shelf ≡ g.S.Shelf.documents l.fn.shelf;
  later : g.S.Shelf.fault_count l.fn.shelf ≤ g.S.Shelf.fault_count l.shelf;
  room : 0 < vec_len l.buffer;
}

abbrev pub decreases-chunks : goal.decreases-chunks
decreases-chunks g l = l.most + 1 - vec_len l.bytes
