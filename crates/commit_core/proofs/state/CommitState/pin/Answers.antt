use Rattle.std.proofs.Common.{subst}
use Rattle.commit_core.specs.Rooms.{Room}
use Rattle.commit_core.specs.Pins.{IsSameOut}
use Rattle.commit_core.proofs.state.CommitState.pin.Goals as goal

pub returns-in-Err-clause-refused : goal.returns-in-Err-clause-refused
returns-in-Err-clause-refused g c = subst (λ (r : Room _). IsSameOut r.out c.pins.new.self.keeper.out) c.self.view_is c.in-Err.ensures.refused
