use Rattle.std.proofs.Common.{◌≡◌, ◌∷◌, ◌++◌, [], sym, ap, ◌∙◌, subst}
use Rattle.std.specs.List.{AllByRecursion}
use Rattle.commit_core.specs.Rooms.{Room, kept_of}
use Rattle.commit_core.specs.Pins.{IsPinOf}
use Rattle.commit_core.proofs.PinsOut.{all_front}
use Rattle.commit_core.proofs.caller.one_pin.Goals as goal

pub returns-in-Some-clause-pin : goal.returns-in-Some-clause-pin
returns-in-Some-clause-pin g c =
    let old = c.args.room.now in
    let pin = c.in-Some.pin in
    let rest = c.pop.new.self.items in
    let items : c.in_ok-pin.field-0 ≡ rest ++ pin ∷ [] = sym c.into_items-pins.ensures ∙ c.in-Some.ensures.items in
    let is = all_front (IsPinOf (kept_of old)) rest pin (subst (λ l. AllByRecursion (IsPinOf (kept_of old)) l) items c.in_ok-pin.ensures.each) in
    is.1.board ∙ sym (ap (λ (r : Room _). r.board) c.in_ok-pin.ensures.room)
