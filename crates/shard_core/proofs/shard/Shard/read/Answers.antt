use Rattle.std.proofs.Common.{◌≤◌, sym, ap, ◌∙◌, subst, arith}
use Rattle.std.proofs.lemmas.Result.{err_from_is_err_and}
use Rattle.window_core.specs.Windows.{IsPart, IsPassage}
use Rattle.window_merge.specs.Together.{AreAdjacent, rows_of_all}
use Rattle.window_merge.specs.Values.{AreValuesAt}
use Rattle.shard_core.specs.contracts.window.AnyWindowWindow.TheImpl as any_window
use Rattle.shard_core.specs.Shards.{ShardData}
use Rattle.shard_core.specs.Reading.{shard_rows}
use Rattle.shard_core.proofs.Answering.{adjacent_by, all_stand, same_rows, last_values}
use Rattle.shard_core.proofs.shard.Shard.read.Goals as goal

pub values_at-requires-clause-adjacent : goal.values_at-requires-clause-adjacent
values_at-requires-clause-adjacent g c =
    let inside = c.self.inside in (
      inside.span,
      0,
      inside.upto,
      subst (λ list. AreAdjacent (any_window.ghosts).span (any_window.ghosts).from (any_window.ghosts).upto inside.span 0 list inside.upto) (sym c.as_slice-windows.ensures.value)
          (adjacent_by inside.span inside.windows.items 0 inside.upto c.self.invariant.adjacent c.self.invariant.over),
    )

pub returns-in_err-values_at-clause-whole : goal.returns-in_err-values_at-clause-whole
returns-in_err-values_at-clause-whole g c =
    let p = err_from_is_err_and c.from_residual.result c.from_residual.ensures.1 in
    rw (p.1, p.2) (c.in_err-values_at.ensures.whole (all_stand c.as_slice-windows.result.now (g.D.Disk.told c.args.disk.now)))

pub returns-clause-rows : goal.returns-clause-rows
returns-clause-rows g c =
    let inside = c.self.inside in
    let same = ap (rows_of_all (any_window.ghosts).rows) c.as_slice-windows.ensures.value ∙ same_rows inside.windows.items ∙ ap shard_rows c.self.view_is in
    subst (λ rows. AreValuesAt rows c.args.span.now c.args.t c.args.most c.in_ok-values_at.field-0) same
    (c.in_ok-values_at.ensures.values (all_stand c.as_slice-windows.result.now (g.D.Disk.told c.args.disk.now)))

pub returns-clause-values : goal.returns-clause-values
returns-clause-values g c = λ history floor stands writable.
    let reached : c.args.t ≤ c.args.self.now.upto = subst (λ (s : ShardData). c.args.t ≤ s.upto) c.self.view_is (omega (arith, c.if-self-t.false)) in
    last_values history floor c.args.self.now c.args.t stands writable c.requires.floors reached c.args.span.now c.args.most c.in_ok-values_at.field-0 (returns-clause-rows g c)

pub returns-clause-part : goal.returns-clause-part
returns-clause-part g c =
    let inside = c.self.inside in
    let adjacent = subst (λ list. AreAdjacent (any_window.ghosts).span (any_window.ghosts).from (any_window.ghosts).upto inside.span 0 list inside.upto) (sym c.as_slice-windows.ensures.value)
    (adjacent_by inside.span inside.windows.items 0 inside.upto c.self.invariant.adjacent c.self.invariant.over) in
    subst (λ (s : ShardData). IsPart s.span 0 s.upto c.args.span.now.left c.in_ok-values_at.field-0) c.self.view_is (c.in_ok-values_at.ensures.part inside.span 0 inside.upto adjacent)

pub returns-clause-passage : goal.returns-clause-passage
returns-clause-passage g c =
    let inside = c.self.inside in
    let adjacent = subst (λ list. AreAdjacent (any_window.ghosts).span (any_window.ghosts).from (any_window.ghosts).upto inside.span 0 list inside.upto) (sym c.as_slice-windows.ensures.value)
    (adjacent_by inside.span inside.windows.items 0 inside.upto c.self.invariant.adjacent c.self.invariant.over) in
    subst (λ (s : ShardData). IsPassage s.span c.args.span.now.left c.args.most c.in_ok-values_at.field-0) c.self.view_is (c.in_ok-values_at.ensures.passage inside.span 0 inside.upto adjacent)
