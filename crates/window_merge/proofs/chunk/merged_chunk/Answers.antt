use Rattle.std.proofs.Common.{◌<◌, length, take, refl, sym, ap, ◌∙◌, subst, arith}
use Rattle.std.specs.Prelude.{Option, Err}
use Rattle.std.proofs.lemmas.List.{take_all}
use Rattle.std.proofs.lemmas.Result.{err_from_is_err_and}
use Rattle.disk_core.specs.Moments.{Told}
use Rattle.window_core.specs.Windows.{IsCause, IsCountedBy}
use Rattle.row_core.proofs.Lists.{of_each}
use Rattle.window_merge.proofs.Stepping.{Kind, IsReadOf, IsReadOfAll, read_none, read_earlier, read_more, has_at, taken_more, adjacent_taken, counted_after, cause_of_one, ok_is_no_err}
use Rattle.window_merge.proofs.chunk.merged_chunk.Given.{Over}
use Rattle.window_merge.proofs.chunk.merged_chunk.Goals as goal

-- the windows, over what the device tells
abbrev kind_at : (g : Over) → Option Told → Kind g.row.W.Denot
kind_at g told = record {
  span_of = g.W.Window.span;
  from_of = g.W.Window.from;
  upto_of = g.W.Window.upto;
  rows_of = g.W.Window.rows;
  stands = λ window. g.W.Window.stands window told;
  kept = λ window. g.W.Window.kept window told;
}

pub windows-init : goal.windows-init
windows-init g c =
    (refl, omega arith, read_none (kind_at g (g.D.Disk.told c.args.disk.now)) c.args.windows.now c.args.key.now c.args.most c.of.result (c.of.ensures ∙ c.new.ensures.items))

pub windows-preserved : goal.windows-preserved
windows-preserved g c =
    let inv = c.windows.invariant in
    let within : c.windows.window-index < length c.args.windows.now = omega (arith, c.windows-test.true, c.windows.auto.window-index-end) in
    let kind = kind_at g (g.D.Disk.told c.args.disk.now) in
    let there = has_at c.args.windows.now c.windows.window-index c.window-item.result within c.window-item.is in
    let (span, from, upto, adjacent) = c.requires.adjacent in
    let (mid, near) = adjacent_taken kind span from upto c.args.windows.now c.windows.window-index c.window-item.result within c.window-item.is adjacent in
    let read : IsReadOf (kind_at g (g.D.Disk.told c.windows.disk)) c.window-item.result c.args.key.now c.args.most c.in_ok-chunk.chunk =
    record { is_chunk = c.in_ok-chunk.ensures.chunk; part = c.in_ok-chunk.ensures.part; passage = c.in_ok-chunk.ensures.passage; kept = c.in_ok-chunk.ensures.kept } in
    let moved = subst (λ told. IsReadOf (kind_at g told) c.window-item.result c.args.key.now c.args.most c.in_ok-chunk.chunk) inv.0 read in
    let later = c.chunk.ensures.counted.later in
    let so_far = inv.1 in (
      c.chunk.ensures.same ∙ inv.0,
      omega (arith, later, so_far),
      subst (λ front. IsReadOfAll kind c.args.windows.now front c.args.key.now c.args.most c.in_ok-merged.merged)
          (sym (taken_more c.args.windows.now c.windows.window-index c.window-item.result within c.window-item.is))
          (read_more kind g.met.W.Window.holds c.args.windows.now (take c.windows.window-index c.args.windows.now) c.window-item.result c.args.key.now c.args.most
          c.windows.merged c.in_ok-chunk.chunk c.in_ok-merged.merged span from mid c.requires.most near there inv.2 moved c.in_ok-merged.ensures),
    )

pub returns-in_err-chunk-clause-whole : goal.returns-in_err-chunk-clause-whole
returns-in_err-chunk-clause-whole g c = λ stand.
    let p = err_from_is_err_and c.from_residual.result c.from_residual.ensures.1 in
    let inv = c.windows.invariant in
    let within : c.windows.window-index < length c.args.windows.now = omega (arith, c.windows-test.true, c.windows.auto.window-index-end) in
    let there = has_at c.args.windows.now c.windows.window-index c.window-item.result within c.window-item.is in
    let own = of_each (λ window. g.W.Window.stands window (g.D.Disk.told c.args.disk.now)) c.args.windows.now stand c.window-item.result there in
    rw (p.1, p.2) (c.in_err-chunk.ensures.whole (subst (g.W.Window.stands c.window-item.result) (sym inv.0) own))

pub returns-in_err-chunk-clause-cause : goal.returns-in_err-chunk-clause-cause
returns-in_err-chunk-clause-cause g c =
    let p = err_from_is_err_and c.from_residual.result c.from_residual.ensures.1 in
    let inv = c.windows.invariant in
    let within : c.windows.window-index < length c.args.windows.now = omega (arith, c.windows-test.true, c.windows.auto.window-index-end) in
    let there = has_at c.args.windows.now c.windows.window-index c.window-item.result within c.window-item.is in
    rw (p.1, p.2)
    (cause_of_one (λ window. g.W.Window.bad_rows window (g.D.Disk.told c.args.disk.now)) c.args.windows.now c.window-item.result there _
    (subst (λ told. IsCause (g.W.Window.bad_rows c.window-item.result told) c.in_err-chunk.field-0.0) inv.0 c.in_err-chunk.ensures.cause))

pub returns-in_err-chunk-clause-same : goal.returns-in_err-chunk-clause-same
returns-in_err-chunk-clause-same g c = c.chunk.ensures.same ∙ c.windows.invariant.0

pub returns-in_err-chunk-clause-counted : goal.returns-in_err-chunk-clause-counted
returns-in_err-chunk-clause-counted g c =
    let p = err_from_is_err_and c.from_residual.result c.from_residual.ensures.1 in
    counted_after _ _ _ c.from_residual.result c.windows.invariant.1
    (subst (IsCountedBy (g.D.Disk.fault_count c.windows.disk) (g.D.Disk.fault_count c.chunk.new.disk)) (c.in_err-chunk.was ∙ sym (p.1 ∙ ap (λ fault. Err fault) p.2)) c.chunk.ensures.counted)

pub join-requires-clause-older : goal.join-requires-clause-older
join-requires-clause-older g c = c.windows.invariant.2.in_order

pub join-requires-clause-newer : goal.join-requires-clause-newer
join-requires-clause-newer g c = c.in_ok-chunk.ensures.part.in_order

pub join-requires-clause-times : goal.join-requires-clause-times
join-requires-clause-times g c =
    let inv = c.windows.invariant in
    let within : c.windows.window-index < length c.args.windows.now = omega (arith, c.windows-test.true, c.windows.auto.window-index-end) in
    let kind = kind_at g (g.D.Disk.told c.args.disk.now) in
    let (span, from, upto, adjacent) = c.requires.adjacent in
    let (mid, near) = adjacent_taken kind span from upto c.args.windows.now c.windows.window-index c.window-item.result within c.window-item.is adjacent in
    let read : IsReadOf (kind_at g (g.D.Disk.told c.windows.disk)) c.window-item.result c.args.key.now c.args.most c.in_ok-chunk.chunk =
    record { is_chunk = c.in_ok-chunk.ensures.chunk; part = c.in_ok-chunk.ensures.part; passage = c.in_ok-chunk.ensures.passage; kept = c.in_ok-chunk.ensures.kept } in
    let moved = subst (λ told. IsReadOf (kind_at g told) c.window-item.result c.args.key.now c.args.most c.in_ok-chunk.chunk) inv.0 read in
    read_earlier kind g.met.W.Window.holds c.args.windows.now (take c.windows.window-index c.args.windows.now) c.window-item.result c.args.key.now c.args.most
    c.windows.merged c.in_ok-chunk.chunk c.in_ok-chunk.chunk span from mid near inv.2 moved

pub returns-clause-chunk : goal.returns-clause-chunk
returns-clause-chunk g c =
    let all = take_all c.windows.window-index c.args.windows.now (omega (arith, c.windows-test.false, c.windows.auto.window-index-end)) in
    (subst (λ front. IsReadOfAll (kind_at g (g.D.Disk.told c.args.disk.now)) c.args.windows.now front c.args.key.now c.args.most c.windows.merged) all c.windows.invariant.2).is_chunk

pub returns-clause-part : goal.returns-clause-part
returns-clause-part g c =
    let all = take_all c.windows.window-index c.args.windows.now (omega (arith, c.windows-test.false, c.windows.auto.window-index-end)) in
    (subst (λ front. IsReadOfAll (kind_at g (g.D.Disk.told c.args.disk.now)) c.args.windows.now front c.args.key.now c.args.most c.windows.merged) all c.windows.invariant.2).part

pub returns-clause-passage : goal.returns-clause-passage
returns-clause-passage g c =
    let all = take_all c.windows.window-index c.args.windows.now (omega (arith, c.windows-test.false, c.windows.auto.window-index-end)) in
    (subst (λ front. IsReadOfAll (kind_at g (g.D.Disk.told c.args.disk.now)) c.args.windows.now front c.args.key.now c.args.most c.windows.merged) all c.windows.invariant.2).passage

pub returns-clause-kept : goal.returns-clause-kept
returns-clause-kept g c = c.windows.invariant.2.kept

pub returns-clause-counted : goal.returns-clause-counted
returns-clause-counted g c = record { later = c.windows.invariant.1; cause = λ e. absurd (ok_is_no_err _ _ e) }
