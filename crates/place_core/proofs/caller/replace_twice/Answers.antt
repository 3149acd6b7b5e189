use Rattle.std.proofs.Common.{◌≡◌, ℕ, List, [], ◌∷◌, sym, ap, ◌∙◌, subst}
use Rattle.base_core.specs.Lists.{Has}
use Rattle.place_board.specs.Tokens.{Listing}
use Rattle.row_core.specs.declared.rows.Index.{Index}
use Rattle.place_core.specs.declared.shards.Line.{Line}
use Rattle.place_core.specs.declared.shards.Born.{Born}
use Rattle.place_core.specs.declared.shards.Locator.{Locator}
use Rattle.place_core.specs.Shown.{place_of, known_as}
use Rattle.place_core.specs.Places.{Placing, IsPlace, IsLocated, AreCutFrom, AreCutOf, line_of, located}
use Rattle.place_core.proofs.Listed.{knows_stays}
use Rattle.place_core.proofs.Cuts.{cut_of_line, cut_of_known, cut_in_one}
use Rattle.place_core.proofs.caller.replace_twice.Goals as goal

-- one shard of the span and the index of a located one
cut_like : (p : Placing) → IsPlace p → (index : Index) (key : List ℕ) (l : Locator) → IsLocated p index key l → (born : Born) → born.index ≡ index → born.span ≡ l.span
    → AreCutFrom (place_of l.index) l.span (line_of born ∷ [])
cut_like p is index key l loc born of same =
    subst (λ n. AreCutFrom n l.span (line_of born ∷ [])) (ap place_of (of ∙ sym loc.has.0)) (cut_in_one (line_of born) l.span same (is.left (located l) loc.line))

pub replace-requires-clause-cut : goal.replace-requires-clause-cut
replace-requires-clause-cut c =
    let p = c.args.place.now in
    let l = c.in_ok-old.old in
    let loc = c.in_ok-old.ensures.located in
    let first = c.in_ok-first.first in
    let born : c.of.result ≡ first ∷ [] = c.of.ensures ∙ c.in_ok-first-2.ensures.items in
    let like = cut_like p c.is_place.ensures c.args.index c.args.key.now l loc first c.in_ok-first.ensures.place.0 c.in_ok-first.ensures.place.1 in
    let cut = cut_of_line p c.is_place.ensures (located l) loc.line (first ∷ []) like in
    subst (λ b. AreCutOf c.locate-2.new.self.list.noted.knows l.number b) (sym born)
    (subst (λ (q : Placing). AreCutOf q.list.noted.knows l.number (first ∷ [])) (sym (c.locate-2.ensures.same ∙ c.locate.ensures.same)) cut)

pub replace-requires-2-clause-cut : goal.replace-requires-2-clause-cut
replace-requires-2-clause-cut c =
    let p = c.args.place.now in
    let is = c.is_place.ensures in
    let l = c.in_ok-old.old in
    let loc = c.in_ok-old.ensures.located in
    let again = c.in_ok-again.again in
    let loc2 : IsLocated p c.args.index c.args.key.now again = subst (λ q. IsLocated q c.args.index c.args.key.now again) c.locate.ensures.same c.in_ok-again.ensures.located in
    let second = c.in_ok-second.second in
    let born : c.of-2.result ≡ second ∷ [] = c.of-2.ensures ∙ c.in_ok-second-2.ensures.items in
    let one : located again ≡ located l = is.cover.one c.args.index c.args.key.now (located again) (located l) loc2.line loc.line loc2.has loc.has in
    let like = cut_like p is c.args.index c.args.key.now l loc second c.in_ok-second.ensures.place.0 (c.in_ok-second.ensures.place.1 ∙ ap (λ (x : Line). x.span) one) in
    let k = known_as l.number l.service l.index l.span in
    let had = subst (λ (q : Placing). Has q.list.noted.knows k) (sym (c.locate-2.ensures.same ∙ c.locate.ensures.same)) (is.shown (located l) loc.line) in
    let has = subst (λ (list : Listing). Has list.noted.knows k) (sym c.in_ok-replace.ensures.list) (knows_stays c.of.result c.locate-2.new.self.list k had) in
    let cut = cut_of_known c.replace.new.self.list c.in_ok-replace.ensures.place.sound k has (second ∷ []) like in
    subst (λ b. AreCutOf c.replace.new.self.list.noted.knows l.number b) (sym born) cut
