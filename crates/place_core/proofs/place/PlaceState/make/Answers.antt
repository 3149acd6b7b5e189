use Rattle.std.proofs.Common.{List, [], sym, ap, ◌∙◌, subst}
use Rattle.place_core.specs.declared.shards.Line.{Line}
use Rattle.place_core.specs.declared.shards.Born.{Born}
use Rattle.place_core.specs.Places.{all_listed, AreAdded}
use Rattle.place_core.specs.Lines.{MayBeListed}
use Rattle.place_core.proofs.Keeping.{may_make, place_made}
use Rattle.place_core.proofs.place.PlaceState.make.Goals as goal

pub list_all-requires-clause-may : goal.list_all-requires-clause-may
list_all-requires-clause-may c =
    let none = c.reserve.ensures.items ∙ c.new-lines.ensures.items in
    subst (λ lines. MayBeListed c.args.seat lines c.into_items-born.result.items) (sym none)
    (subst (λ born. MayBeListed c.args.seat [] born) (sym c.into_items-born.ensures) (may_make c.args.seat c.args.born c.requires.cover c.requires.left c.requires.fresh))

pub invariant_of-result : goal.invariant_of-result
invariant_of-result c =
    let none = c.reserve.ensures.items ∙ c.new-lines.ensures.items in
    let e = c.list_all.ensures in
    let After : List Born → List Line → Type 0 = λ born lines. AreAdded born lines c.list_all.new.lines.items in
    let added = subst (λ born. After born []) c.into_items-born.ensures (subst (λ lines. After c.into_items-born.result.items lines) none e.added) in
    place_made c.args.seat c.args.born c.list_all.new.seat c.list_all.new.lines.items c.requires.new c.is_sound.ensures c.requires.cover c.requires.left c.requires.fresh
    (e.told ∙ ap (λ born. all_listed born c.args.seat) c.into_items-born.ensures) e.sound added e.order

pub returns-clause-place : goal.returns-clause-place
returns-clause-place c =
    let none = c.reserve.ensures.items ∙ c.new-lines.ensures.items in
    let e = c.list_all.ensures in
    let After : List Born → List Line → Type 0 = λ born lines. AreAdded born lines c.list_all.new.lines.items in
    let added = subst (λ born. After born []) c.into_items-born.ensures (subst (λ lines. After c.into_items-born.result.items lines) none e.added) in
    place_made c.args.seat c.args.born c.list_all.new.seat c.list_all.new.lines.items c.requires.new c.is_sound.ensures c.requires.cover c.requires.left c.requires.fresh
    (e.told ∙ ap (λ born. all_listed born c.args.seat) c.into_items-born.ensures) e.sound added e.order
