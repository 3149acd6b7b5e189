use Rattle.std.proofs.Common.{◌≡◌, ℕ, ◌+◌, ◌^◌, ◌<◌, [], ◌∷◌, ◌++◌, length, sym, ap, ◌∙◌, subst, refl, arith, rules, length-append}
use Rattle.atomic_table.specs.Table.{Me}
use Rattle.history_board.specs.declared.view.View.{View}
use Rattle.history_board.specs.Bearings.{bears_after}
use Rattle.history_board.specs.Views.{IsKeeping}
use Rattle.history_board.specs.Tokens.{Kept, kept_of, IsSound, MayCommit}
use Rattle.history_board.proofs.Committing.{bears_own, bears_doubted}
use Rattle.history_board.proofs.keeper.Keeper.commit.Goals as goal

pub append-requires-clause-may : goal.append-requires-clause-may
append-requires-clause-may g c = subst (λ (k : Kept g.row.E.Denot). MayCommit g.E.Made.session_of g.E.Made.command_of k c.args.entry.now) (sym c.self.view_is) c.requires.may

pub overflow_add-result : goal.overflow_add-result
overflow_add-result g c =
    let r = c.append.ensures.commits c.args.entry.now refl in
    let n = ap (λ k. length k.seen) c.self.view_is in
    let room = c.requires.room in
    let h : c.append.result + 1 < 2 ^ 64 = omega (arith, r.0, n, room) in search rules

pub invariant_of-self : goal.invariant_of-self
invariant_of-self g c =
    let r = c.append.ensures.commits c.args.entry.now refl in
    let i = c.self.invariant in
    let V : Type 0 = Me ℕ (View g.row.E.Denot) in (
      c.append.ensures.board ∙ c.deref.ensures,
      ap (λ (m : V). m.1) r.1 ∙ i.1,
      subst (λ (m : V). IsKeeping m.0) (sym r.1) (record { live = i.2.live; keeper = i.2.keeper; pin = i.2.pin; olds = i.2.olds }),
      i.3 ∙ sym (ap (λ (m : V). m.0.out) r.1),
      i.4 ∙ sym (ap (λ (m : V). m.0.floor_seen) r.1),
      subst (λ (m : V). IsSound g.E.Made.session_of g.E.Made.command_of (kept_of c.append.new.seat.table_id m.0)) (sym r.1) (r.2 c.append.new.seat.table_id),
    )

pub returns-clause-length : goal.returns-clause-length
returns-clause-length g c =
    let r = c.append.ensures.commits c.args.entry.now refl in
    let n = ap (λ (m : Me ℕ (View g.row.E.Denot)). length m.0.seen) r.1 in
    omega (arith, r.0, n, length-append c.self.inside.seat.me.0.seen (c.args.entry.now ∷ []))

pub returns-clause-appended : goal.returns-clause-appended
returns-clause-appended g c =
    let r = c.append.ensures.commits c.args.entry.now refl in
    ap (λ (m : Me ℕ (View g.row.E.Denot)). m.0.seen) r.1 ∙ ap (λ (k : Kept g.row.E.Denot). k.seen ++ c.args.entry.now ∷ []) c.self.view_is

pub returns-clause-own : goal.returns-clause-own
returns-clause-own g c = λ sure.
    let r = c.append.ensures.commits c.args.entry.now refl in
    let sf = g.E.Made.session_of in
    let cf = g.E.Made.command_of in
    let e = c.args.entry.now in
    let K : Type 0 = Kept g.row.E.Denot in
    let sound : IsSound sf cf c.args.self.now = subst (λ (k : K). IsSound sf cf k) c.self.view_is c.self.invariant.5 in
    ap (λ (m : Me ℕ (View g.row.E.Denot)). m.0.bears) r.1 ∙ (ap (λ (k : K). bears_after sf cf k.doubt (length k.seen) e k.bears) c.self.view_is ∙ bears_own sf cf c.args.self.now e sound c.requires.may sure)

pub returns-clause-doubted : goal.returns-clause-doubted
returns-clause-doubted g c = λ has.
    let r = c.append.ensures.commits c.args.entry.now refl in
    let sf = g.E.Made.session_of in
    let cf = g.E.Made.command_of in
    let e = c.args.entry.now in
    ap (λ (m : Me ℕ (View g.row.E.Denot)). m.0.bears) r.1 ∙ (ap (λ (k : Kept g.row.E.Denot). bears_after sf cf k.doubt (length k.seen) e k.bears) c.self.view_is ∙ bears_doubted sf cf c.args.self.now e has)

pub returns-clause-rest : goal.returns-clause-rest
returns-clause-rest g c =
    let r = c.append.ensures.commits c.args.entry.now refl in
    let K : Type 0 = Kept g.row.E.Denot in
    let me = c.append.new.seat.me in
    let before : K = kept_of c.self.inside.seat.table_id c.self.inside.seat.me.0 in
    let P : Me ℕ (View g.row.E.Denot) → Type 0 = λ m. ◌≡◌ {A = K} (kept_of c.self.inside.seat.table_id m.0) (record before { seen = m.0.seen; bears = m.0.bears }) in
    ap (λ z. kept_of z me.0) (c.append.ensures.board ∙ (c.deref.ensures ∙ sym c.self.invariant.0))
    ∙ (subst P (sym r.1) refl ∙ ap (λ (k : K). record k { seen = me.0.seen; bears = me.0.bears }) c.self.view_is)

pub returns-clause-sound : goal.returns-clause-sound
returns-clause-sound g c =
    let r = c.append.ensures.commits c.args.entry.now refl in
    subst (λ (m : Me ℕ (View g.row.E.Denot)). IsSound g.E.Made.session_of g.E.Made.command_of (kept_of c.append.new.seat.table_id m.0)) (sym r.1) (r.2 c.append.new.seat.table_id)
