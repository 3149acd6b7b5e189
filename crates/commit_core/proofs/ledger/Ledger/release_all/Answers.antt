use Rattle.std.proofs.Common.{◌≡◌, ◌∷◌, ◌++◌, [], sym, ap, subst, rules}
use Rattle.std.specs.List.{AllByRecursion}
use Rattle.commit_core.specs.Ledgers.{Ledgered}
use Rattle.commit_core.specs.Pins.{IsOfBoard, ArePutOut, IsSameOut}
use Rattle.commit_core.proofs.PinsOut.{put_pop, back_same, all_front, same_out, out_further}
use Rattle.commit_core.proofs.ledger.Ledger.release_all.Goals as goal

pub pins-preserved : goal.pins-preserved
pins-preserved c =
    let now = c.pins.self in
    let pin = c.in-Some.pin in
    let rest = c.pop.new.self.items in
    let was : c.pins.pins.items ≡ rest ++ pin ∷ [] = c.in-Some.ensures.items in
    let board : c.release.new.self.keeper.board ≡ now.keeper.board = ap (λ (l : Ledgered). l.keeper.board) c.release.ensures.is in
    record {
      each = subst (λ b. AllByRecursion (IsOfBoard b) rest) (sym board)
          (all_front (IsOfBoard now.keeper.board) rest pin (subst (λ l. AllByRecursion (IsOfBoard now.keeper.board) l) was c.pins.invariant.each)).0;
      is = out_further c.args.self.now now c.release.new.self _ c.release.ensures.is c.pins.invariant.is;
      back = λ start put.
          let b = c.pins.invariant.back start put in
          let p = put_pop start rest pin b.0 (subst (λ l. ArePutOut start l b.0) was b.1) in (
            p.0,
            p.1,
            subst (λ o. IsSameOut p.0 o) (sym (ap (λ (l : Ledgered). l.keeper.out) c.release.ensures.is))
                (back_same p.0 now.keeper.out pin.number pin.time p.2 (subst (λ o. IsSameOut o now.keeper.out) p.3 b.2)),
          );
      sound = c.release.ensures.sound;
    }

pub returns-clause-same : goal.returns-clause-same
returns-clause-same c = λ start put.
    let b = c.pins.invariant.back start put in
    let none : c.pins.pins.items ≡ [] = search rules in
    same_out start b.0 c.pins.self.keeper.out c.pins.pins.items none b.1 b.2
