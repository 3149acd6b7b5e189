use Rattle.std.proofs.Common.{ℕ, sym, ap, ◌∙◌, subst, refl}
use Rattle.atomic_table.specs.Table.{Me}
use Rattle.history_board.specs.declared.view.View.{View}
use Rattle.history_board.specs.Views.{IsKeeping, enrols}
use Rattle.history_board.proofs.Meeting.{looked}
use Rattle.history_board.proofs.keeper.Keeper.enrol.Goals as goal

pub invariant_of-self : goal.invariant_of-self
invariant_of-self g c =
    let i = c.self.invariant in
    let V : Type 0 = Me ℕ (View g.row.E.Denot) in
    let me : Me ℕ (View g.row.E.Denot) = c.self.inside.seat.me in
    let s = looked g.E.Made.session_of g.E.Made.command_of c.enrol-seat.new.seat.me c.look.new.seat.me (enrols g.E.Made.session_of c.args.session me.0) me.1 c.look.result i.2.keeper c.enrol-seat.ensures.enrols c.look.ensures.looks in (
      c.look.ensures.board ∙ c.deref-2.ensures,
      ap (λ (m : V). m.1) s.is ∙ i.1,
      subst (λ (m : V). IsKeeping m.0) (sym s.is) (record { live = i.2.live; keeper = i.2.keeper; pin = i.2.pin; olds = refl }),
      i.3 ∙ sym (ap (λ (m : V). m.0.out) s.is),
      i.4 ∙ sym (ap (λ (m : V). m.0.floor_seen) s.is),
      s.sound c.look.new.seat.table_id,
    )

pub returns-clause-sound : goal.returns-clause-sound
returns-clause-sound g c =
    let i = c.self.invariant in
    let me : Me ℕ (View g.row.E.Denot) = c.self.inside.seat.me in
    let s = looked g.E.Made.session_of g.E.Made.command_of c.enrol-seat.new.seat.me c.look.new.seat.me (enrols g.E.Made.session_of c.args.session me.0) me.1 c.look.result i.2.keeper c.enrol-seat.ensures.enrols c.look.ensures.looks in
    s.sound c.look.new.seat.table_id
