use Rattle.std.proofs.Common.{◌≡◌, ◌≤◌, [], take}
use Rattle.bigfed.specs.Documents.{AreGathered}
use Rattle.bigfed.specs.Program.{with_lines}
use Rattle.bigfed.proofs.shelf.gather.Given as goal
use Rattle.bigfed.specs.Limits.{largest_documents}

-- the documents of the lines so far were read, and they are not too large together
abbrev pub invariant-loop-line : goal.invariant-loop-line
invariant-loop-line g l = record {
  gathered : AreGathered (g.S.Shelf.documents l.fn.shelf) l.docs (with_lines [] (take l.line-index l.work.lines)) l.size;
  small : l.size ≤ largest_documents;
  same : g.S.Shelf.documents l.shelf ≡ g.S.Shelf.documents l.fn.shelf;
  later : g.S.Shelf.fault_count l.fn.shelf ≤ g.S.Shelf.fault_count l.shelf;
}
