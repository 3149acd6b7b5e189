use Rattle.std.proofs.Common.{subst}
use Rattle.std.proofs.lemmas.Result.{IfOk-weaker}
use Rattle.base_core.specs.Lists.{Has}
use Rattle.row_core.specs.Rows.{IsChunk}
use Rattle.window_core.specs.Runs.{all_of, merged}
use Rattle.window_core.proofs.Found.{part_chunk}
use Rattle.window_core.proofs.Holding.{none_later}
use Rattle.window_core.proofs.Passage.{passage_chunk}
use Rattle.window_core.proofs.held.Held.chunk.Goals as goal

pub chunk-requires-clause-times : goal.chunk-requires-clause-times
chunk-requires-clause-times c = λ row there.
    none_later c.args.self.now.span c.args.self.now.from c.args.self.now.upto c.args.self.now.runs.items c.args.self.now.are_runs c.args.self.now.within row
    (subst (λ runs. Has (all_of runs) row) c.as_slice.ensures.value there)

pub returns-clause-part : goal.returns-clause-part
returns-clause-part c =
    IfOk-weaker c.chunk.result _ _
    (λ chunk is. part_chunk (merged c.args.self.now.runs.items) c.args.self.now.span c.args.self.now.from c.args.self.now.upto c.args.key.now c.args.most c.requires c.args.self.now.within chunk
    (subst (λ runs. IsChunk (merged runs) c.args.key.now c.args.most chunk) c.as_slice.ensures.value is)) c.chunk.ensures

pub returns-clause-passage : goal.returns-clause-passage
returns-clause-passage c =
    IfOk-weaker c.chunk.result _ _
    (λ chunk is. passage_chunk (merged c.args.self.now.runs.items) c.args.self.now.span c.args.self.now.from c.args.self.now.upto c.args.key.now c.args.most c.requires c.args.self.now.within chunk
    (subst (λ runs. IsChunk (merged runs) c.args.key.now c.args.most chunk) c.as_slice.ensures.value is)) c.chunk.ensures
