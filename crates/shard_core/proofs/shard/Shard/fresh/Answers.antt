use Rattle.std.proofs.Common.{map, refl, ap, ◌∙◌}
use Rattle.shard_core.specs.declared.window.AnyWindow.TheVariants.{Live}
use Rattle.shard_core.specs.contracts.window.AnyWindowWindow.TheImpl.Laws.{holds-law}
use Rattle.shard_core.specs.Viewing.{data_of}
use Rattle.shard_core.proofs.Next.{fresh_is_shard}
use Rattle.shard_core.proofs.shard.Shard.fresh.Goals as goal

pub invariant_of-result : goal.invariant_of-result
invariant_of-result c =
    fresh_is_shard _ (data_of (Live c.in_ok-live.live)) refl (ap (map data_of) c.in_ok-vec.ensures.items) (holds-law (Live c.in_ok-live.live))
    (c.in_ok-live.ensures.span ∙ c.in_ok-copy_span.ensures) c.in_ok-live.ensures.from c.in_ok-live.ensures.upto
