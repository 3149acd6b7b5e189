use Rattle.std.proofs.Common.{◌≡◌, ◌⊎◌, List, ◌∷◌, length, map, refl, sym, ap, ◌∙◌, subst, inl, inr, ⊎_elim, arith}
use Rattle.std.specs.Vec.Iter.{into_iter_items}
use Rattle.base_core.specs.Lists.{Has}
use Rattle.place_board.specs.Tokens.{Listing}
use Rattle.place_core.specs.declared.shards.Line.{Line}
use Rattle.place_core.specs.declared.shards.Born.{Born}
use Rattle.place_core.specs.Places.{all_listed, line_of}
use Rattle.place_core.specs.Lines.{MayBeListed}
use Rattle.place_core.proofs.Listed.{may_apart, may_next, added_next}
use Rattle.place_core.proofs.lines.list_all.Goals as goal

pub list-requires-clause-board : goal.list-requires-clause-board
list-requires-clause-board c =
    let may = subst (λ b. MayBeListed c.born.seat c.born.lines.items b) c.in-Some.ensures.steps.0 c.born.invariant.may in
    (may.fresh c.in-Some.one (inl refl)).1

pub put_line-requires-clause-apart : goal.put_line-requires-clause-apart
put_line-requires-clause-apart c =
    let may = subst (λ b. MayBeListed c.born.seat c.born.lines.items b) c.in-Some.ensures.steps.0 c.born.invariant.may in
    may_apart c.born.seat c.born.lines.items c.in-Some.one (into_iter_items c.next.new.self) may c.list.ensures.first

pub born-preserved : goal.born-preserved
born-preserved c =
    let inv = c.born.invariant in
    let seat = c.born.seat in
    let lines = c.born.lines.items in
    let after = c.put_line.new.lines.items in
    let one = c.in-Some.one in
    let rest = into_iter_items c.next.new.self in
    let is : into_iter_items c.born.one-iterator ≡ one ∷ rest = c.in-Some.ensures.steps.0 in
    let may = subst (λ b. MayBeListed seat lines b) is inv.may in
    let has = c.put_line.ensures.has in
    let longer = c.put_line.ensures.longer in
    let capacity = c.put_line.ensures.capacity in
    let long = ap length is in
    let Added : List Born → Line → Type 0 = λ b line. (Has lines line ⊎ Has (map line_of b) line → Has c.args.lines.now.items line ⊎ Has (map line_of c.args.born.items) line) × (Has c.args.lines.now.items line ⊎ Has (map line_of c.args.born.items) line → Has lines line ⊎ Has (map line_of b) line) in
    record {
      may = subst (λ s. MayBeListed s after rest) (sym c.list.ensures.listed) (may_next seat lines after one rest may c.put_line.ensures.order has);
      sound = c.list.ensures.sound;
      told = ap (λ s. all_listed rest s) c.list.ensures.listed ∙ ap (λ b. all_listed b seat) (sym is) ∙ inv.told;
      added = λ line.
          let was = subst (λ b. Added b line) is (inv.added line) in
          let step = added_next lines after one rest has line in
          (λ h. was.0 (step.0 h), λ h. step.1 (was.1 h));
      ever = λ n h. subst (λ (s : Listing). Has s.ever n) (sym c.list.ensures.listed) (inr (inv.ever n h));
      first = λ b h.
          ⊎_elim
          (λ r. ⊎_elim
          (λ e. inr (λ was. c.list.ensures.first (subst (λ n. Has seat.ever n) (sym (ap (λ (x : Born). x.number) e)) (inv.ever b.number was))))
          (λ t. inl t) (subst (λ bs. Has bs b) is r))
          (λ n. inr n) (inv.first b h);
      room = omega arith;
    }
