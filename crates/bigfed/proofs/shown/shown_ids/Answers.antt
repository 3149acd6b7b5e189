use Rattle.std.proofs.Common.{◌≡◌, ◌<◌, arith, Some, sym, ◌∙◌, ap, subst}
use Rattle.base_core.specs.Lists.{AreDistinct}
use Rattle.fed_bytes.specs.Keys.{IsUpTo}
use Rattle.fed_bytes.proofs.Orders.{up_to-itself}
use Rattle.bigfed.specs.Indexed.{rows_in}
use Rattle.bigfed.proofs.Chunks.{AreShown, IsFromLeft, left_from, nothing_shown, one_more_chunk, not_in_chunk, chunk_in_order, fewer_left}
use Rattle.bigfed.proofs.shown.shown_ids.Goals as goal

pub chunks-init : goal.chunks-init
chunks-init c =
    let rows = rows_in c.args.window.now in
    let span = c.args.span.now in
    record {
      shown = subst (λ found. AreShown rows c.args.order span (Some c.in_ok-copy.field-0) found) (sym c.new-found.ensures.items)
          (nothing_shown rows c.args.order span c.in_ok-copy.field-0 c.in_ok-copy.ensures);
      left = subst (IsUpTo span.left) (sym c.in_ok-copy.ensures) (up_to-itself span.left);
      distinct = subst AreDistinct (sym c.new-found.ensures.items) tt;
      some = omega arith;
    }

pub keep_shown-requires : goal.keep_shown-requires
keep_shown-requires c = chunk_in_order (rows_in c.args.window.now) c.bytes.result.now c.chunks.most c.in_ok-chunk.chunk c.in_ok-chunk.ensures.chunk

pub chunks-smaller : goal.chunks-smaller
chunks-smaller c =
    let rows = rows_in c.args.window.now in
    let same : c.chunks.next ≡ Some c.bytes.result.now = c.in-Some.is ∙ ap Some (sym c.bytes.ensures) in
    subst (λ next. left_from rows c.in_span-next.result < left_from rows next) (sym same)
    (fewer_left rows c.args.span.now c.bytes.result.now c.chunks.most c.in_ok-chunk.chunk c.in_span-next.result c.in_ok-chunk.ensures.chunk
    c.chunks.invariant.some c.in_ok-chunk.ensures.onward c.in_span-next.ensures)

pub chunks-preserved : goal.chunks-preserved
chunks-preserved c =
    let rows = rows_in c.args.window.now in
    let span = c.args.span.now in
    let same : c.chunks.next ≡ Some c.bytes.result.now = c.in-Some.is ∙ ap Some (sym c.bytes.ensures) in
    let so_far = subst (λ next. AreShown rows c.args.order span next c.chunks.found.items) same c.chunks.invariant.shown in
    let left : IsUpTo span.left c.bytes.result.now = subst (IsFromLeft span) same c.chunks.invariant.left in
    let both = one_more_chunk rows c.args.order span c.bytes.result.now c.chunks.most c.in_ok-chunk.chunk c.chunks.found.items c.keep_shown.new.found.items c.in_span-next.result
    so_far left c.in_ok-chunk.ensures.chunk c.in_ok-chunk.ensures.onward c.in_ok-keep_shown.ensures.shown c.in_span-next.ensures in
    record {
      shown = both.0;
      left = both.1;
      distinct = c.in_ok-keep_shown.ensures.distinct c.chunks.invariant.distinct
          (not_in_chunk rows c.args.order span c.bytes.result.now c.chunks.most c.in_ok-chunk.chunk c.chunks.found.items so_far c.in_ok-chunk.ensures.chunk);
      some = c.wider-most.ensures;
    }

pub chunks-smaller-in_ok-keep_shown : goal.chunks-smaller-in_ok-keep_shown
chunks-smaller-in_ok-keep_shown c =
    let rows = rows_in c.args.window.now in
    let same : c.chunks.next ≡ Some c.bytes.result.now = c.in-Some.is ∙ ap Some (sym c.bytes.ensures) in
    subst (λ next. left_from rows c.in_span-next.result < left_from rows next) (sym same)
    (fewer_left rows c.args.span.now c.bytes.result.now c.chunks.most c.in_ok-chunk.chunk c.in_span-next.result c.in_ok-chunk.ensures.chunk
    c.chunks.invariant.some c.in_ok-chunk.ensures.onward c.in_span-next.ensures)

pub chunks-preserved-in_ok-keep_shown : goal.chunks-preserved-in_ok-keep_shown
chunks-preserved-in_ok-keep_shown c =
    let rows = rows_in c.args.window.now in
    let span = c.args.span.now in
    let same : c.chunks.next ≡ Some c.bytes.result.now = c.in-Some.is ∙ ap Some (sym c.bytes.ensures) in
    let so_far = subst (λ next. AreShown rows c.args.order span next c.chunks.found.items) same c.chunks.invariant.shown in
    let left : IsUpTo span.left c.bytes.result.now = subst (IsFromLeft span) same c.chunks.invariant.left in
    let both = one_more_chunk rows c.args.order span c.bytes.result.now c.chunks.most c.in_ok-chunk.chunk c.chunks.found.items c.keep_shown.new.found.items c.in_span-next.result
    so_far left c.in_ok-chunk.ensures.chunk c.in_ok-chunk.ensures.onward c.in_ok-keep_shown.ensures.shown c.in_span-next.ensures in
    record {
      shown = both.0;
      left = both.1;
      distinct = c.in_ok-keep_shown.ensures.distinct c.chunks.invariant.distinct
          (not_in_chunk rows c.args.order span c.bytes.result.now c.chunks.most c.in_ok-chunk.chunk c.chunks.found.items so_far c.in_ok-chunk.ensures.chunk);
      some = c.wider-most.ensures;
    }
