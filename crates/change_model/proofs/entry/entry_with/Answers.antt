use Rattle.std.proofs.Common.{◌∙◌, map, ap, refl, subst, sym}
use Rattle.std.specs.List.{filter_map}
use Rattle.triple_keys.specs.declared.order.Order.TheVariants.{Spo, Pos, Osp}
use Rattle.change_model.specs.EntryRows.{id_row}
use Rattle.change_model.specs.Numbering.{ids_at}
use Rattle.row_core.specs.Rows.{AreChanges}
use Rattle.change_model.proofs.EntryFits.{next_writable}
use Rattle.change_model.proofs.EntryLast.{last_entry}
use Rattle.change_model.proofs.EntryChanges.{ids_change, statements_change}
use Rattle.change_model.proofs.entry.entry_with.Goals as goal

pub returns-clause-entry : goal.returns-clause-entry
returns-clause-entry c = record {
  time_is = refl;
  t2i = c.in_ok-t2i.ensures.changes;
  i2t = subst (AreChanges c.args.time) (sym (c.in_ok-i2t.ensures ∙ ap (map (id_row c.args.time)) c.deref-2.ensures.value)) (ids_change c.args.terms _ c.args.time c.in_ok-numbered.numbered.brought.items c.in_ok-numbered.ensures.rising);
  spo = statements_change Spo c.args.resolved.now.change.kind c.args.time _ _ c.in_ok-statements.ensures.spo;
  pos = statements_change Pos c.args.resolved.now.change.kind c.args.time _ _ c.in_ok-statements.ensures.pos;
  osp = statements_change Osp c.args.resolved.now.change.kind c.args.time _ _ c.in_ok-statements.ensures.osp;
}

pub returns-clause-last : goal.returns-clause-last
returns-clause-last c history origin is known writable count time =
    last_entry history c.args.resolved.now c.args.known.items origin c.args.terms c.args.time c.in_ok-numbered.numbered.ids.items c.in_ok-numbered.numbered.brought.items c.in_ok-ids.ids.items _
    (record {
      ids = c.in_ok-numbered.ensures.ids;
      numbering = c.in_ok-numbered.ensures.numbering;
      listed = c.in_ok-ids.ensures ∙ (λ i. filter_map (ids_at (c.deref.ensures.value i)) (c.items.ensures i));
      time_is = refl;
      t2i = c.in_ok-t2i.ensures.ordered;
      i2t = c.in_ok-i2t.ensures ∙ ap (map (id_row c.args.time)) c.deref-2.ensures.value;
      spo = c.in_ok-statements.ensures.spo;
      pos = c.in_ok-statements.ensures.pos;
      osp = c.in_ok-statements.ensures.osp;
    }) is known writable count time

pub returns-clause-fits : goal.returns-clause-fits
returns-clause-fits c history origin is known writable well count time =
    next_writable history c.args.resolved.now c.args.known.items origin c.args.terms c.args.time _ c.in_ok-numbered.numbered.brought.items
    c.in_ok-numbered.ensures.numbering c.in_ok-numbered.ensures.rising c.ranges.time.fits is known writable well count time
