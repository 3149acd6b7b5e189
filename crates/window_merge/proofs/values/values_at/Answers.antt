use Rattle.std.proofs.Common.{ap, ◌∙◌, subst}
use Rattle.row_core.specs.Rows.{IsChunk, IsWithin}
use Rattle.window_core.specs.Windows.{IsPart, IsPassage}
use Rattle.window_merge.specs.Choosing.{values_of}
use Rattle.window_merge.specs.Together.{IsOfOne, rows_of_all}
use Rattle.window_merge.proofs.Choosing.{AreChosen, next_in, chosen_each, chosen_asked, chosen_part, chosen_passage, values_by_part}
use Rattle.window_merge.proofs.values.values_at.Goals as goal

pub returns-clause-values : goal.returns-clause-values
returns-clause-values g c = λ stand.
    let (all, from, upto, adjacent) = c.requires.adjacent in
    let chosen : AreChosen c.args.span.now c.args.t c.in_ok-rows.field-0 (record { rows = c.of.result; next = c.key_in.result }) =
    record { rows = c.of.ensures ∙ c.values_of.ensures ∙ ap (values_of c.args.span.now c.args.t) c.into_items.ensures; next = next_in c.args.span.now c.in_ok-rows.field-0.next c.key_in.result c.key_in.ensures } in
    values_by_part (rows_of_all g.W.Window.rows c.args.windows.now) all c.args.span.now from upto c.args.t c.args.most c.in_ok-rows.field-0 (record { rows = c.of.result; next = c.key_in.result })
    (subst (λ key. IsChunk (rows_of_all g.W.Window.rows c.args.windows.now) key c.args.most c.in_ok-rows.field-0) c.bytes.ensures (c.in_ok-rows.ensures.chunk stand)) chosen
    (subst (λ key. IsPart all from upto key c.in_ok-rows.field-0) c.bytes.ensures (c.in_ok-rows.ensures.part all from upto adjacent))

pub returns-clause-part : goal.returns-clause-part
returns-clause-part g c = λ all from upto adjacent.
    let chosen : AreChosen c.args.span.now c.args.t c.in_ok-rows.field-0 (record { rows = c.of.result; next = c.key_in.result }) =
    record { rows = c.of.ensures ∙ c.values_of.ensures ∙ ap (values_of c.args.span.now c.args.t) c.into_items.ensures; next = next_in c.args.span.now c.in_ok-rows.field-0.next c.key_in.result c.key_in.ensures } in
    chosen_part all c.args.span.now from upto c.args.t c.args.span.now.left c.in_ok-rows.field-0 (record { rows = c.of.result; next = c.key_in.result }) chosen
    (subst (λ key. IsPart all from upto key c.in_ok-rows.field-0) c.bytes.ensures (c.in_ok-rows.ensures.part all from upto adjacent))

pub returns-clause-passage : goal.returns-clause-passage
returns-clause-passage g c = λ all from upto adjacent.
    let chosen : AreChosen c.args.span.now c.args.t c.in_ok-rows.field-0 (record { rows = c.of.result; next = c.key_in.result }) =
    record { rows = c.of.ensures ∙ c.values_of.ensures ∙ ap (values_of c.args.span.now c.args.t) c.into_items.ensures; next = next_in c.args.span.now c.in_ok-rows.field-0.next c.key_in.result c.key_in.ensures } in
    chosen_passage all c.args.span.now c.args.t c.args.span.now.left c.args.most c.in_ok-rows.field-0 (record { rows = c.of.result; next = c.key_in.result })
    (c.in_ok-rows.ensures.part all from upto adjacent).in_order chosen
    (subst (λ key. IsPassage all key c.args.most c.in_ok-rows.field-0) c.bytes.ensures (c.in_ok-rows.ensures.passage all from upto adjacent))

pub returns-clause-asked : goal.returns-clause-asked
returns-clause-asked g c =
    let (all, from, upto, adjacent) = c.requires.adjacent in
    let chosen : AreChosen c.args.span.now c.args.t c.in_ok-rows.field-0 (record { rows = c.of.result; next = c.key_in.result }) =
    record { rows = c.of.ensures ∙ c.values_of.ensures ∙ ap (values_of c.args.span.now c.args.t) c.into_items.ensures; next = next_in c.args.span.now c.in_ok-rows.field-0.next c.key_in.result c.key_in.ensures } in
    chosen_asked c.args.span.now c.args.t c.in_ok-rows.field-0 (record { rows = c.of.result; next = c.key_in.result }) (c.in_ok-rows.ensures.part all from upto adjacent).in_order chosen

pub returns-clause-kept : goal.returns-clause-kept
returns-clause-kept g c =
    let (all, from, upto, adjacent) = c.requires.adjacent in
    let chosen : AreChosen c.args.span.now c.args.t c.in_ok-rows.field-0 (record { rows = c.of.result; next = c.key_in.result }) =
    record { rows = c.of.ensures ∙ c.values_of.ensures ∙ ap (values_of c.args.span.now c.args.t) c.into_items.ensures; next = next_in c.args.span.now c.in_ok-rows.field-0.next c.key_in.result c.key_in.ensures } in
    chosen_each (λ row. IsOfOne (λ window. IsWithin (g.W.Window.span window) (g.W.Window.from window) (g.W.Window.upto window) row × g.W.Window.kept window (g.D.Disk.told c.args.disk.now) row) c.args.windows.now)
    c.args.span.now c.args.t c.in_ok-rows.field-0 (record { rows = c.of.result; next = c.key_in.result }) (c.in_ok-rows.ensures.part all from upto adjacent).in_order chosen c.in_ok-rows.ensures.kept
