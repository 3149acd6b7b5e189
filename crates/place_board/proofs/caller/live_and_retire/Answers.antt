use Rattle.std.proofs.Common.{◌≡◌, ℕ, ◌++◌, refl, sym, subst, inl}
use Rattle.base_core.specs.Lists.{Has}
use Rattle.place_board.specs.declared.fault.Look.{Look}
use Rattle.place_board.specs.declared.fault.Look.TheVariants.{Live, Retired}
use Rattle.place_board.specs.Tokens.{Noted, Serving, Listing, HasBorne}
use Rattle.place_board.proofs.Members.{has_right, without_not}
use Rattle.place_board.proofs.caller.live_and_retire.Goals as goal

not_live : (found : Look) → ¬ (found ≡ Live) → found ≡ Retired
not_live Live not = absurd (not refl)
not_live Retired not = refl

pub look-found-requires : goal.look-found-requires
look-found-requires c =
    let n = c.in_ok-number.number in
    let bears = subst (λ (s : Serving). Has s.mine n) (sym c.in_ok-number.ensures.born) (inl (sym c.in_ok-number.ensures.number)) in
    subst (λ (s : Serving). HasBorne s n) (sym c.meet.ensures.met) (c.birth.ensures.sound.mine n bears)

pub drop_retired-requires : goal.drop_retired-requires
drop_retired-requires c =
    let n = c.in_ok-number.number in
    let listed = subst (λ (l : Listing). Has l.noted.dead n) (sym c.retire.ensures.retired) (inl refl) in
    let told = subst (λ (m : Noted). Has m.dead n) (sym c.know.ensures.note) listed in
    let met = subst (λ (s : Serving). Has s.noted.dead n) (sym c.meet.ensures.met) (has_right c.birth.new.self.noted.dead c.know.result.dead n told) in
    let found = not_live c.look-found.result (λ live. (c.look-found.ensures.live live).2 met) in
    subst (λ (s : Serving). Has s.noted.dead n) (sym (c.look-found.ensures.retired found)) (inl refl)

pub returns-clause-found : goal.returns-clause-found
returns-clause-found c =
    let n = c.in_ok-number.number in
    let listed = subst (λ (l : Listing). Has l.noted.dead n) (sym c.retire.ensures.retired) (inl refl) in
    let told = subst (λ (m : Noted). Has m.dead n) (sym c.know.ensures.note) listed in
    let met = subst (λ (s : Serving). Has s.noted.dead n) (sym c.meet.ensures.met) (has_right c.birth.new.self.noted.dead c.know.result.dead n told) in
    not_live c.look-found.result (λ live. (c.look-found.ensures.live live).2 met)

pub returns-clause-gone : goal.returns-clause-gone
returns-clause-gone c = λ has.
    let n = c.in_ok-number.number in
    without_not n c.look-found.new.self.mine n (subst (λ (s : Serving). Has s.mine n) c.drop_retired.ensures.dropped has) refl
