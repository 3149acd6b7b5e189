use Rattle.std.proofs.Common.{◌≡◌, ◌+◌, suc, map, refl, sym, ap, ◌∙◌, subst, arith}
use Rattle.change_model.specs.Entries.{rows_for}
use Rattle.change_model.specs.WindowLaws.{AreGivenAt}
use Rattle.shard_core.specs.Shards.{ShardData, HaveFloorsUpTo, ShardStandsFor, IsNextShard}
use Rattle.shard_core.specs.Viewing.{data_of}
use Rattle.shard_core.proofs.Next.{ends_before, next_is_shard, next_stands, next_floors}
use Rattle.shard_core.proofs.shard.Shard.apply.Goals as goal

pub extend-requires-clause-next : goal.extend-requires-clause-next
extend-requires-clause-next c =
    let inside = c.self.inside in
    ends_before (record { index = inside.index; span = inside.span; upto = inside.upto; windows = map data_of inside.windows.items }) inside.windows.items c.args.entry.now.time
    c.self.invariant refl (c.requires.next ∙ ap (λ (s : ShardData). s.upto + 1) (sym c.self.view_is))

pub invariant_of-self-2 : goal.invariant_of-self-2
invariant_of-self-2 c =
    let inside = c.self.inside in
    let next = c.requires.next ∙ ap (λ (s : ShardData). s.upto + 1) (sym c.self.view_is) in
    next_is_shard c.rows_of-rows.result.now (record { index = inside.index; span = inside.span; upto = inside.upto; windows = map data_of inside.windows.items }) c.extend.new.windows.items
    c.args.entry.now.time c.self.invariant c.in_ok-extend.ensures.ok (omega (arith, next))

pub returns-clause-stands : goal.returns-clause-stands
returns-clause-stands c = λ history floor stands known given.
    let inside = c.self.inside in
    let next = c.requires.next ∙ ap (λ (s : ShardData). s.upto + 1) (sym c.self.view_is) in
    let old : ShardData = record { index = inside.index; span = inside.span; upto = inside.upto; windows = map data_of inside.windows.items } in
    let new : ShardData = record { index = inside.index; span = inside.span; upto = c.args.entry.now.time; windows = map data_of c.extend.new.windows.items } in
    let later : c.args.entry.now.time ≡ suc inside.upto = omega (arith, next) in
    let is_next : IsNextShard c.rows_of-rows.result.now old new = record { index = refl; span = refl; upto = later; windows = c.in_ok-extend.ensures.ok } in
    let of_old = subst (λ (s : ShardData). AreGivenAt s.index history s.span c.args.entry.now.time (rows_for s.index c.args.entry.now)) (sym c.self.view_is) given in
    next_stands history floor c.rows_of-rows.result.now old new (subst (ShardStandsFor history floor) (sym c.self.view_is) stands) is_next
    (next_is_shard c.rows_of-rows.result.now old c.extend.new.windows.items c.args.entry.now.time c.self.invariant c.in_ok-extend.ensures.ok later) known
    (subst (AreGivenAt inside.index history inside.span c.args.entry.now.time) (sym c.rows_of-rows.ensures) of_old)

pub returns-clause-floors : goal.returns-clause-floors
returns-clause-floors c = λ floor low.
    let inside = c.self.inside in
    next_floors floor c.rows_of-rows.result.now (record { index = inside.index; span = inside.span; upto = inside.upto; windows = map data_of inside.windows.items })
    (record { index = inside.index; span = inside.span; upto = c.args.entry.now.time; windows = map data_of c.extend.new.windows.items }) c.in_ok-extend.ensures.ok
    (subst (HaveFloorsUpTo floor) (sym c.self.view_is) low)
