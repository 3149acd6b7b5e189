use Rattle.std.proofs.Common.{◌≡◌, ℕ, ◌≤◌, max, sym, ap, ◌∙◌, subst, refl, arith}
use mathlib.Core.List.{IsPrefix}
use Rattle.atomic_table.specs.Table.{Me}
use Rattle.history_board.specs.declared.view.View.{View}
use Rattle.history_board.specs.Views.{IsKeeping, joined}
use Rattle.history_board.specs.Tokens.{Kept}
use Rattle.history_board.proofs.Meeting.{looked, took, whole}
use Rattle.std.specs.Prelude.{if◌then◌else◌}
use Rattle.history_board.proofs.keeper.Keeper.hand.Goals as goal

pub invariant_of-self : goal.invariant_of-self
invariant_of-self g c =
    let i = c.self.invariant in
    let V : Type 0 = Me ℕ (View g.row.E.Denot) in
    let me : Me ℕ (View g.row.E.Denot) = c.self.inside.seat.me in
    let at : Me ℕ (View g.row.E.Denot) = c.hand-bearer.new.seat.me in
    let is = c.hand-bearer.ensures.hands in
    let other : View g.row.E.Denot = c.tell-known.result.me.0 in
    let key = ap (λ (m : Me ℕ (View g.row.E.Denot)). m.0.is_keeper) is ∙ i.2.keeper in
    let s = looked g.E.Made.session_of g.E.Made.command_of c.join.new.seat.me c.look-self-inside.new.seat.me (joined at.0 other) at.1 c.look-self-inside.result key c.join.ensures.joined c.look-self-inside.ensures.looks in (
      c.look-self-inside.ensures.board ∙ c.deref-4.ensures,
      ap (λ (m : V). m.1) s.is ∙ (ap (λ (m : V). m.1) is ∙ i.1),
      subst (λ (m : V). IsKeeping m.0) (sym s.is) (record { live = ap (λ (m : V). m.0.live) is ∙ i.2.live; keeper = key; pin = ap (λ (m : V). m.0.is_pin) is ∙ i.2.pin; olds = refl }),
      i.3 ∙ (sym (ap (λ (m : V). m.0.out) is) ∙ sym (ap (λ (m : V). m.0.out) s.is)),
      c.max-self-inside.ensures
          ∙ (ap (λ (k : ℕ). max k c.seen.inside.floor) (i.4 ∙ sym (ap (λ (m : V). m.0.floor_seen) is))
          ∙ (ap (λ (k : ℕ). max at.0.floor_seen k) (c.seen.invariant.2 ∙ sym (ap (λ (m : V). m.0.floor_seen) c.tell-known.ensures.told))
          ∙ sym (ap (λ (m : V). m.0.floor_seen) s.is))),
      s.sound c.look-self-inside.new.seat.table_id,
    )

pub returns-clause-whole : goal.returns-clause-whole
returns-clause-whole g c =
    let i = c.self.invariant in
    let me : Me ℕ (View g.row.E.Denot) = c.self.inside.seat.me in
    let at : Me ℕ (View g.row.E.Denot) = c.hand-bearer.new.seat.me in
    let is = c.hand-bearer.ensures.hands in
    let other : View g.row.E.Denot = c.tell-known.result.me.0 in
    let key = ap (λ (m : Me ℕ (View g.row.E.Denot)). m.0.is_keeper) is ∙ i.2.keeper in
    let s = looked g.E.Made.session_of g.E.Made.command_of c.join.new.seat.me c.look-self-inside.new.seat.me (joined at.0 other) at.1 c.look-self-inside.result key c.join.ensures.joined c.look-self-inside.ensures.looks in
    let n : View g.row.E.Denot = c.tell-known.new.seat.me.0 in
    let same = c.tell-known.ensures.same in
    let bearer : View g.row.E.Denot = c.hand-bearer.result.me.0 in
    let all : bearer.seen ≡ me.0.seen = ap (λ (m : Me ℕ (View g.row.E.Denot)). m.0.seen) c.hand-bearer.ensures.handed in
    let p : IsPrefix other.seen at.0.seen = took g.E.Made.session_of g.E.Made.command_of c.join.new.seat.me c.look-self-inside.new.seat.me at.0 other at.1 c.look-self-inside.result key c.join.ensures.joined c.look-self-inside.ensures.looks in
    let told_seen : other.seen ≡ n.seen = ap (λ (m : Me ℕ (View g.row.E.Denot)). m.0.seen) c.tell-known.ensures.told ∙ sym (ap (λ (m : Me ℕ (View g.row.E.Denot)). m.0.seen) same) in
    let begins : IsPrefix n.seen bearer.seen = subst (λ l. IsPrefix l bearer.seen) told_seen (subst (λ l. IsPrefix other.seen l) (ap (λ (m : Me ℕ (View g.row.E.Denot)). m.0.seen) is ∙ sym all) p) in
    whole g.E.Made.session_of g.E.Made.command_of c.join-2.new.seat.me c.look.new.seat.me n bearer c.tell-known.new.seat.me.1 c.look.result (ap (λ (m : Me ℕ (View g.row.E.Denot)). m.0.is_keeper) same ∙ c.seen.invariant.1.keeper) c.join-2.ensures.joined c.look.ensures.looks begins
    ∙ (all ∙ ap (λ (k : Kept g.row.E.Denot). k.seen) c.self.view_is)

pub returns-clause-count : goal.returns-clause-count
returns-clause-count g c =
    let i = c.self.invariant in
    let me : Me ℕ (View g.row.E.Denot) = c.self.inside.seat.me in
    let at : Me ℕ (View g.row.E.Denot) = c.hand-bearer.new.seat.me in
    let is = c.hand-bearer.ensures.hands in
    let other : View g.row.E.Denot = c.tell-known.result.me.0 in
    let key = ap (λ (m : Me ℕ (View g.row.E.Denot)). m.0.is_keeper) is ∙ i.2.keeper in
    let s = looked g.E.Made.session_of g.E.Made.command_of c.join.new.seat.me c.look-self-inside.new.seat.me (joined at.0 other) at.1 c.look-self-inside.result key c.join.ensures.joined c.look-self-inside.ensures.looks in
    let n : View g.row.E.Denot = c.tell-known.new.seat.me.0 in
    let note : View g.row.E.Denot = c.seen.inside.seat.me.0 in
    let bearer : View g.row.E.Denot = c.hand-bearer.result.me.0 in
    let after : View g.row.E.Denot = c.look-self-inside.new.seat.me.0 in
    let end : View g.row.E.Denot = c.look.new.seat.me.0 in
    let e1 : end.count_seen ≡ max n.count_seen bearer.count_seen = ap (λ (m : Me ℕ (View g.row.E.Denot)). m.0.count_seen) c.look.ensures.looks.0 ∙ ap (λ (m : Me ℕ (View g.row.E.Denot)). m.0.count_seen) c.join-2.ensures.joined in
    let e2 : bearer.count_seen ≡ me.0.posted = ap (λ (m : Me ℕ (View g.row.E.Denot)). m.0.count_seen) c.hand-bearer.ensures.handed ∙ ap (λ b. if b then me.0.posted else me.0.count_seen) i.2.keeper in
    let e3 : after.count_seen ≡ max at.0.count_seen other.count_seen = ap (λ (m : Me ℕ (View g.row.E.Denot)). m.0.count_seen) s.is in
    let e4 : after.posted ≡ me.0.posted = ap (λ (m : Me ℕ (View g.row.E.Denot)). m.0.posted) s.is ∙ ap (λ (m : Me ℕ (View g.row.E.Denot)). m.0.posted) is in
    let e5 : other.count_seen ≡ note.count_seen = ap (λ (m : Me ℕ (View g.row.E.Denot)). m.0.count_seen) c.tell-known.ensures.told ∙ ap (λ b. if b then note.posted else note.count_seen) c.seen.invariant.1.keeper in
    let e6 : n.count_seen ≡ note.count_seen = ap (λ (m : Me ℕ (View g.row.E.Denot)). m.0.count_seen) c.tell-known.ensures.same in
    let within : after.count_seen ≤ after.posted = (s.sound c.look-self-inside.new.seat.table_id).count_posted in
    let posted : end.count_seen ≡ me.0.posted = omega (arith, e1, e2, e3, e4, e5, e6, within) in
    posted ∙ ap (λ (k : Kept g.row.E.Denot). k.posted) c.self.view_is

pub returns-clause-sound : goal.returns-clause-sound
returns-clause-sound g c =
    let i = c.self.invariant in
    let me : Me ℕ (View g.row.E.Denot) = c.self.inside.seat.me in
    let at : Me ℕ (View g.row.E.Denot) = c.hand-bearer.new.seat.me in
    let is = c.hand-bearer.ensures.hands in
    let other : View g.row.E.Denot = c.tell-known.result.me.0 in
    let key = ap (λ (m : Me ℕ (View g.row.E.Denot)). m.0.is_keeper) is ∙ i.2.keeper in
    let s = looked g.E.Made.session_of g.E.Made.command_of c.join.new.seat.me c.look-self-inside.new.seat.me (joined at.0 other) at.1 c.look-self-inside.result key c.join.ensures.joined c.look-self-inside.ensures.looks in
    s.sound c.look-self-inside.new.seat.table_id
