use Rattle.std.proofs.Common.{sym, ◌∙◌, subst}
use Rattle.base_core.specs.Lists.{Has}
use Rattle.place_board.specs.Tokens.{Listing}
use Rattle.place_board.proofs.Members.{has_right}
use Rattle.place_board.proofs.Becoming.{lists, small_known}
use Rattle.place_board.proofs.list_seat.ListSeat.list.Goals as goal

pub enlist-requires-clause-fresh : goal.enlist-requires-clause-fresh
enlist-requires-clause-fresh c =
    let is = c.self.view_is ∙ c.meet.ensures.met in
    let has = subst (λ (l : Listing). Has l.noted.fresh c.args.n) (sym is) (has_right c.args.self.now.noted.fresh c.args.note.fresh c.args.n c.requires.fresh) in
    let s = c.self.invariant.4.noted in
    (has, small_known _ c.args.n s (s.fresh c.args.n has))

pub invariant_of-self : goal.invariant_of-self
invariant_of-self c =
    let i = c.self.invariant in
    let k = lists c.self.inside.services c.enlist.new.seat.table_id c.self.inside.seat.me _ _ c.enlist.ensures.enlists.0 i.1 (record { live = i.2.live; service = i.2.service; list = i.2.list }) i.3 in
    (c.enlist.ensures.board ∙ c.deref.ensures, k.alone, k.listing, k.services_are, k.sound)

pub returns-clause-sound : goal.returns-clause-sound
returns-clause-sound c =
    let i = c.self.invariant in
    let k = lists c.self.inside.services c.enlist.new.seat.table_id c.self.inside.seat.me _ _ c.enlist.ensures.enlists.0 i.1 (record { live = i.2.live; service = i.2.service; list = i.2.list }) i.3 in
    k.sound
