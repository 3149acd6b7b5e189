use Rattle.std.proofs.Common.{rules}
use Rattle.std.proofs.lemmas.Fn.{always_returns_same}
use Rattle.change_model.proofs.LaterIds.{place_by, none_at, found_at}
use Rattle.change_model.proofs.known.row_of.Goals as goal

pub returns-in-Ok : goal.returns-in-Ok
returns-in-Ok c = found_at c.args.rows.now c.args.key.now c.in-Ok.place _ c.in-Ok.ensures.bound c.index-rows-place.is (c.in-Ok.ensures.position (place_by c.args.key.now) (always_returns_same _ _ _ (λ a r f k. search rules)))

pub returns-in-Err : goal.returns-in-Err
returns-in-Err c = none_at c.args.rows.now c.args.key.now c.in-Err.field-0 (c.in-Err.ensures.position (place_by c.args.key.now) (always_returns_same _ _ _ (λ a r f k. search rules)))
