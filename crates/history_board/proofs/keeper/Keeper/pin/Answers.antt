use Rattle.std.proofs.Common.{ℕ, sym, ap, ◌∙◌, subst, refl}
use Rattle.atomic_table.specs.Table.{Me}
use Rattle.history_board.specs.declared.view.View.{View}
use Rattle.history_board.specs.Views.{IsKeeping, gives_pin}
use Rattle.history_board.specs.Pins.{put_out}
use Rattle.history_board.proofs.Meeting.{looked}
use Rattle.history_board.proofs.keeper.Keeper.pin.Goals as goal

pub invariant_of-self-2 : goal.invariant_of-self-2
invariant_of-self-2 g c =
    let i = c.self.invariant in
    let V : Type 0 = Me ℕ (View g.row.E.Denot) in
    let me : V = c.self.inside.seat.me in
    let s = looked g.E.Made.session_of g.E.Made.command_of c.give_pin-seat.new.seat.me c.look.new.seat.me (gives_pin c.in_ok-number.number c.args.t me.0) me.1 c.look.result i.2.keeper c.give_pin-seat.ensures.given c.look.ensures.looks in (
      c.look.ensures.board ∙ c.deref-2.ensures,
      ap (λ (m : V). m.1) s.is ∙ i.1,
      subst (λ (m : V). IsKeeping m.0) (sym s.is) (record { live = i.2.live; keeper = i.2.keeper; pin = i.2.pin; olds = refl }),
      c.in_ok-number.ensures.put ∙ (ap (λ l. put_out l c.in_ok-number.number c.args.t) i.3 ∙ sym (ap (λ (m : V). m.0.out) s.is)),
      i.4 ∙ sym (ap (λ (m : V). m.0.floor_seen) s.is),
      s.sound c.look.new.seat.table_id,
    )

pub returns-clause-sound : goal.returns-clause-sound
returns-clause-sound g c =
    let i = c.self.invariant in
    let me : Me ℕ (View g.row.E.Denot) = c.self.inside.seat.me in
    let s = looked g.E.Made.session_of g.E.Made.command_of c.give_pin-seat.new.seat.me c.look.new.seat.me (gives_pin c.in_ok-number.number c.args.t me.0) me.1 c.look.result i.2.keeper c.give_pin-seat.ensures.given c.look.ensures.looks in
    s.sound c.look.new.seat.table_id
