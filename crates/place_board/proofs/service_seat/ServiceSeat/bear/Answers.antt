use Rattle.std.proofs.Common.{◌≡◌, ℕ, ◌+◌, sym, ap, ◌∙◌, inl, arith}
use Rattle.atomic_table.specs.Seated.{TableId}
use Rattle.atomic_table.specs.Table.{Me}
use Rattle.place_board.specs.declared.view.View.{View}
use Rattle.place_board.specs.Views.{released}
use Rattle.place_board.specs.Tokens.{Serving, noted_of, serving_of, service_bore, fresh_note}
use Rattle.place_board.proofs.Becoming.{gave, serves, released_notes, tells_fresh, has_borne}
use Rattle.place_board.proofs.service_seat.ServiceSeat.bear.Goals as goal

pub invariant_of-self : goal.invariant_of-self
invariant_of-self c =
    let i = c.self.invariant in
    let b = gave c.self.inside.next c.self.inside.seat.me _ _ _ c.bear.ensures.bears c.release.ensures.releases in
    let k = serves c.self.inside.service (c.self.inside.next + 1) c.release.new.seat.table_id c.self.inside.seat.me _ _ b i.1 (record { live = i.2.live; service = i.2.service; list = i.2.list }) i.3 (let n = i.4 in omega arith) in
    (c.release.ensures.board.0 ∙ c.deref-2.ensures, k.alone, k.serving, k.service_is, k.next_is, k.sound)

pub invariant_of-result : goal.invariant_of-result
invariant_of-result c =
    let k = released_notes c.self.inside.next c.release.result.table_id c.self.inside.seat.me _ _ _ c.bear.ensures.bears (inl (sym c.self.invariant.4)) c.release.ensures.released in
    (k.alone, k.noting, k.sound)

pub returns-clause-born : goal.returns-clause-born
returns-clause-born c =
    let i = c.self.invariant in
    let z = c.release.new.seat.table_id in
    let v = c.self.inside.seat.me.0 in
    let b = gave c.self.inside.next c.self.inside.seat.me _ _ _ c.bear.ensures.bears c.release.ensures.releases in
    let same : z ≡ c.self.inside.seat.table_id = c.release.ensures.board.0 ∙ (c.deref-2.ensures ∙ sym i.0) in
    ap (λ (m : Me ℕ View). serving_of z m.0) b.0
    ∙ (has_borne c.self.inside.next c.args.index c.args.span.now z v i.4
    ∙ (ap (λ (y : TableId). service_bore c.args.index c.args.span.now (serving_of y v)) same
    ∙ ap (λ (s : Serving). service_bore c.args.index c.args.span.now s) c.self.view_is))

pub returns-clause-note : goal.returns-clause-note
returns-clause-note c =
    let i = c.self.invariant in
    let n = c.self.inside.next in
    let z = c.release.new.seat.table_id in
    let mid : Me ℕ View = c.bear.new.seat.me in
    let here : c.release.result.table_id ≡ z = c.release.ensures.board.1 ∙ sym c.release.ensures.board.0 in
    let key = ap (λ (m : Me ℕ View). m.0.is_service) c.bear.ensures.bears.0 ∙ i.2.service in
    ap (λ (m : Me ℕ View). noted_of c.release.result.table_id m.0) c.release.ensures.released
    ∙ (ap (λ (y : TableId). noted_of y (released n mid.0)) here
    ∙ (tells_fresh n z mid.0 key
    ∙ (sym (ap (λ (m : Me ℕ View). fresh_note n (serving_of z m.0)) c.release.ensures.releases)
    ∙ ap (λ (k : ℕ). fresh_note k (serving_of z c.release.new.seat.me.0)) (i.4 ∙ ap (λ (s : Serving). s.next) c.self.view_is))))

pub returns-clause-sound : goal.returns-clause-sound
returns-clause-sound c =
    let i = c.self.invariant in
    let b = gave c.self.inside.next c.self.inside.seat.me _ _ _ c.bear.ensures.bears c.release.ensures.releases in
    let k = serves c.self.inside.service (c.self.inside.next + 1) c.release.new.seat.table_id c.self.inside.seat.me _ _ b i.1 (record { live = i.2.live; service = i.2.service; list = i.2.list }) i.3 (let n = i.4 in omega arith) in
    k.sound
