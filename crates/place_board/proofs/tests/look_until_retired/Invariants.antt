use Rattle.place_board.specs.Tokens.{HasBorne}
use Rattle.place_board.proofs.tests.look_until_retired.Given as goal

-- the number stays one that the service has borne
abbrev pub invariant-looks : goal.invariant-looks
invariant-looks l = HasBorne l.service l.number
