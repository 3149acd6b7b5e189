use Rattle.std.proofs.Common.{◌≡◌, ◌∷◌, ◌++◌, [], length, sym, ap, ◌∙◌, subst, rules}
use Rattle.std.specs.List.{AllByRecursion}
use Rattle.history_board.specs.Pins.{put_out}
use Rattle.history_board.specs.Tokens.{Pinned}
use Rattle.change_model.specs.declared.history.Committed.{Committed}
use Rattle.commit_core.specs.Ledgers.{Ledgered}
use Rattle.commit_core.specs.Pins.{IsPinOf, ArePutOut}
use Rattle.commit_core.proofs.PinsOut.{put_push, all_push, all_boards, pin_of_same, out_further}
use Rattle.commit_core.proofs.ledger.Ledger.pins.Goals as goal

pub pins-preserved : goal.pins-preserved
pins-preserved c =
    let first = c.args.self.now in
    let now = c.pins.self in
    let pin = c.in-Ok.pin in
    let items : c.push_reserved.new.self.items ≡ c.pins.pins.items ++ pin ∷ [] = c.push_reserved.ensures.items in
    let time : pin.time ≡ length now.keeper.seen = ap (λ (p : Pinned Committed). p.time) c.in-Ok.ensures.pin in
    let out : c.pin.new.self.keeper.out ≡ put_out now.keeper.out pin.number pin.time =
    ap (λ (l : Ledgered). l.keeper.out) c.in-Ok.ensures.out ∙ ap (λ t. put_out now.keeper.out pin.number t) (sym time) in
    record {
      room = search rules;
      few = search rules;
      each = subst (λ l. AllByRecursion (IsPinOf first.keeper) l) (sym items)
          (all_push (IsPinOf first.keeper) c.pins.pins.items pin c.pins.invariant.each (pin_of_same first.keeper now.keeper _ pin (ap (λ (l : Ledgered). l.keeper) c.pins.invariant.is) c.in-Ok.ensures.pin));
      out = subst (λ l. ArePutOut first.keeper.out l c.pin.new.self.keeper.out) (sym items)
          (put_push first.keeper.out c.pins.pins.items pin now.keeper.out c.pin.new.self.keeper.out c.pins.invariant.out c.in-Ok.ensures.free out);
      is = out_further first now c.pin.new.self _ c.in-Ok.ensures.out c.pins.invariant.is;
      sound = c.pin.ensures.sound;
    }

pub release_all-requires-clause-each : goal.release_all-requires-clause-each
release_all-requires-clause-each c =
    let same : c.pin.new.self.keeper.board ≡ c.args.self.now.keeper.board =
    ap (λ (l : Ledgered). l.keeper.board) c.in-Err.ensures.err ∙ ap (λ (l : Ledgered). l.keeper.board) c.pins.invariant.is in
    all_boards c.args.self.now.keeper c.pin.new.self.keeper c.pins.pins.items same c.pins.invariant.each

pub returns-in-Err-clause-refused : goal.returns-in-Err-clause-refused
returns-in-Err-clause-refused c =
    c.release_all.ensures.same c.args.self.now.keeper.out
    (subst (λ o. ArePutOut c.args.self.now.keeper.out c.pins.pins.items o) (sym (ap (λ (l : Ledgered). l.keeper.out) c.in-Err.ensures.err)) c.pins.invariant.out)
