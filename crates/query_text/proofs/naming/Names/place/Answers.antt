use Rattle.std.proofs.Common.{◌≡◌, length, None, Some, rules, sym, ap, ◌∙◌}
use Rattle.query_text.specs.Building.{known_place}
use Rattle.query_text.proofs.Named.{KnowsNames-more, known_place-last}
use Rattle.query_text.proofs.naming.Names.place.Goals as goal

pub returns-clause-knows : goal.returns-clause-knows
returns-clause-knows c =
    let at : c.in-Ok.place ≡ length c.args.self.now.list.items = search rules in
    KnowsNames-more c.args.self.now.list.items _ c.args.self.now.places c.insert.new.self c.args.name _ c.in-Ok.place c.requires c.in_default.ensures.value c.in_ok-copy.ensures at
    c.in_ok-push.ensures.items c.in_ok-insert.ensures.updates.0

pub returns-clause-place : goal.returns-clause-place
returns-clause-place c =
    let at : c.in-Ok.place ≡ length c.args.self.now.list.items = search rules in
    let new : known_place c.args.self.now.list.items c.args.name ≡ None = sym (c.requires c.args.name) ∙ sym c.in_default.ensures.value in
    ap (λ ns. known_place ns c.args.name) c.in_ok-push.ensures.items ∙ known_place-last c.args.self.now.list.items c.args.name new ∙ ap Some (sym at)
