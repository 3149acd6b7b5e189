use Rattle.std.proofs.Common.{◌≡◌, true, [], ◌∷◌, sym, ap, ◌∙◌, subst}
use Rattle.std.specs.Prelude.{Some}
use Rattle.std.specs.Ordering.{is_lt, nat_cmp}
use Rattle.std.specs.Cmp.Lexicographic.{slice_cmp}
use Rattle.place_core.specs.Shown.{place_of}
use Rattle.place_core.specs.Places.{Placing, AreCutOf, line_of, located}
use Rattle.place_core.proofs.Cuts.{cut_of_line, cut_in_two}
use Rattle.place_core.proofs.caller.cut_at.Goals as goal

pub replace-requires-clause-cut : goal.replace-requires-clause-cut
replace-requires-clause-cut c =
    let p = c.args.place.now in
    let l = c.in_ok-number.field-0 in
    let loc = c.in_ok-number.ensures.located in
    let key = c.args.key.now in
    let front = c.in_ok-front.front in
    let back = c.in_ok-back.back in
    let of_front : place_of front.index ≡ place_of l.index = ap place_of (c.in_ok-front.ensures.place.0 ∙ sym loc.has.0) in
    let of_back : place_of back.index ≡ place_of l.index = ap place_of (c.in_ok-back.ensures.place.0 ∙ sym loc.has.0) in
    let ends : c.in_ok-end.end ≡ key = c.in_ok-end.ensures in
    let starts : c.in_ok-start.start ≡ key = c.in_ok-start.ensures in
    let front_is : front.span ≡ record { left = l.span.left; right = Some key } =
    c.in_ok-front.ensures.place.1 ∙ (λ i. record { left = l.span.left; right = Some (ends i) }) in
    let back_is : back.span ≡ record { left = key; right = l.span.right } =
    c.in_ok-back.ensures.place.1 ∙ (λ i. record { left = starts i; right = l.span.right }) in
    let before : is_lt (slice_cmp nat_cmp l.span.left key) ≡ true =
    ap (λ a. is_lt (slice_cmp nat_cmp a key)) (sym c.bytes.ensures) ∙ ap is_lt (sym c.cmp.ensures) ∙ sym c.is_lt.ensures ∙ c.if-not-is_lt.false in
    let born : c.of-3.result ≡ front ∷ back ∷ [] = c.of-3.ensures ∙ c.in_ok-halves.ensures.items in
    let cut = cut_of_line p c.is_place.ensures (located l) loc.line (front ∷ back ∷ []) (cut_in_two (place_of l.index) (line_of front) (line_of back) l.span key of_front of_back front_is back_is before loc.has.1.1) in
    subst (λ b. AreCutOf c.locate.new.self.list.noted.knows l.number b) (sym born)
    (subst (λ (q : Placing). AreCutOf q.list.noted.knows l.number (front ∷ back ∷ [])) (sym c.locate.ensures.same) cut)
