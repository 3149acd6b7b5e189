use Rattle.std.proofs.Common.{ℕ, max, sym, ap, ◌∙◌, subst, refl}
use mathlib.Core.List.{IsPrefix}
use Rattle.atomic_table.specs.Table.{Me}
use Rattle.history_board.specs.declared.view.View.{View}
use Rattle.history_board.specs.Views.{IsKeeping, joined}
use Rattle.history_board.proofs.Meeting.{looked, took}
use Rattle.history_board.proofs.keeper.Keeper.take_in.Goals as goal

pub invariant_of-self : goal.invariant_of-self
invariant_of-self g c =
    let i = c.self.invariant in
    let V : Type 0 = Me ℕ (View g.row.E.Denot) in
    let me : Me ℕ (View g.row.E.Denot) = c.self.inside.seat.me in
    let other : View g.row.E.Denot = c.note.inside.seat.me.0 in
    let s = looked g.E.Made.session_of g.E.Made.command_of c.join.new.seat.me c.look-self-inside.new.seat.me (joined me.0 other) me.1 c.look-self-inside.result i.2.keeper c.join.ensures.joined c.look-self-inside.ensures.looks in (
      c.look-self-inside.ensures.board ∙ c.deref-2.ensures,
      ap (λ (m : V). m.1) s.is ∙ i.1,
      subst (λ (m : V). IsKeeping m.0) (sym s.is) (record { live = i.2.live; keeper = i.2.keeper; pin = i.2.pin; olds = refl }),
      i.3 ∙ sym (ap (λ (m : V). m.0.out) s.is),
      c.max-self-inside.ensures ∙ (ap (λ (k : ℕ). max k c.note.inside.floor) i.4 ∙ (ap (λ (k : ℕ). max me.0.floor_seen k) c.note.invariant.2 ∙ sym (ap (λ (m : V). m.0.floor_seen) s.is))),
      s.sound c.look-self-inside.new.seat.table_id,
    )

pub returns-clause-known : goal.returns-clause-known
returns-clause-known g c =
    let i = c.self.invariant in
    let me : Me ℕ (View g.row.E.Denot) = c.self.inside.seat.me in
    let other : View g.row.E.Denot = c.note.inside.seat.me.0 in
    let p : IsPrefix other.seen me.0.seen = took g.E.Made.session_of g.E.Made.command_of c.join.new.seat.me c.look-self-inside.new.seat.me me.0 other me.1 c.look-self-inside.result i.2.keeper c.join.ensures.joined c.look-self-inside.ensures.looks in
    rw (← c.self.view_is, ← c.note.view_is) p

pub returns-clause-sound : goal.returns-clause-sound
returns-clause-sound g c =
    let i = c.self.invariant in
    let me : Me ℕ (View g.row.E.Denot) = c.self.inside.seat.me in
    let other : View g.row.E.Denot = c.note.inside.seat.me.0 in
    let s = looked g.E.Made.session_of g.E.Made.command_of c.join.new.seat.me c.look-self-inside.new.seat.me (joined me.0 other) me.1 c.look-self-inside.result i.2.keeper c.join.ensures.joined c.look-self-inside.ensures.looks in
    s.sound c.look-self-inside.new.seat.table_id
