use Rattle.std.proofs.Common.{refl, ap}
use Rattle.history_board.specs.Bearings.{newcomer}
use Rattle.history_board.specs.Tokens.{Seen}
use Rattle.history_board.proofs.Own.{newcomer_above}
use Rattle.change_model.specs.declared.history.Committed.{Committed}
use Rattle.commit_core.specs.Rooms.{session_of, command_of}
use Rattle.commit_core.proofs.tests.three_loads.Goals as goal

pub load_of-first-requires-clause-one : goal.load_of-first-requires-clause-one
load_of-first-requires-clause-one c =
    record { bearing = newcomer 1; only = ap (λ (s : Seen Committed). s.bears) c.enrol-one.ensures.note; session = refl; above = newcomer_above session_of command_of 1 1 }

pub load_of-second-requires-clause-one : goal.load_of-second-requires-clause-one
load_of-second-requires-clause-one c =
    record { bearing = newcomer 2; only = ap (λ (s : Seen Committed). s.bears) c.enrol-two.ensures.note; session = refl; above = newcomer_above session_of command_of 2 1 }

pub load_of-third-requires-clause-one : goal.load_of-third-requires-clause-one
load_of-third-requires-clause-one c =
    record { bearing = newcomer 3; only = ap (λ (s : Seen Committed). s.bears) c.enrol-three.ensures.note; session = refl; above = newcomer_above session_of command_of 3 1 }
