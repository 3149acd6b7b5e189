use Rattle.std.proofs.Common.{◌≡◌, sym, subst, inl}
use Rattle.base_core.specs.Lists.{Has}
use Rattle.place_board.specs.Tokens.{Serving}
use Rattle.place_board.proofs.tests.bear_one.Goals as goal

pub look-requires : goal.look-requires
look-requires c =
    let n = c.in-Ok.born.0 in
    let bears = subst (λ (s : Serving). Has s.mine n) (sym c.in-Ok.ensures.born) (inl (sym c.in-Ok.ensures.number)) in
    c.birth.ensures.sound.mine n bears
