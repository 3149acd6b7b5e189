use Rattle.std.proofs.Common.{suc, List, ◌++◌, take, drop, sym, ap, ◌∙◌, subst}
use Rattle.base_core.specs.Lists.{Has}
use Rattle.place_board.specs.Tokens.{Listing, list_retired}
use Rattle.place_core.specs.declared.shards.Line.{Line}
use Rattle.place_core.specs.declared.shards.Born.{Born}
use Rattle.place_core.specs.Places.{Placing, AreCutOf, AreFresh, WereNeverListed, AreReplaced, all_listed, AreAdded}
use Rattle.place_core.specs.Lines.{MayBeListed, IsNumberAt}
use Rattle.place_core.proofs.Listed.{listed_stays}
use Rattle.place_core.proofs.Keeping.{was_listed, may_replace, are_replaced, place_replaced}
use Rattle.place_core.proofs.place.PlaceState.replace.Goals as goal

pub list_all-requires-clause-may : goal.list_all-requires-clause-may
list_all-requires-clause-may c =
    let p : Placing = record { list = c.self.inside.seat; lines = c.self.inside.lines.items } in
    let at = c.in-Some.at in
    let number = subst (λ lines. IsNumberAt lines c.args.old at) c.as_slice.ensures.value c.in-Some.ensures.some in
    let cut = subst (λ (q : Placing). AreCutOf q.list.noted.knows c.args.old c.args.born) (sym c.self.view_is) c.requires.cut in
    let fresh = subst (λ (q : Placing). AreFresh q.list.noted c.args.born) (sym c.self.view_is) c.requires.fresh in
    let items = c.remove.ensures.items ∙ ap (λ ys. take at ys ++ drop (suc at) ys) c.reserve.ensures.items in
    subst (λ lines. MayBeListed c.self.inside.seat lines c.into_items-born.result.items) (sym items)
    (subst (λ born. MayBeListed c.self.inside.seat (take at p.lines ++ drop (suc at) p.lines) born) (sym c.into_items-born.ensures) (may_replace p c.self.invariant c.args.old at c.args.born number cut fresh))

pub retire-requires : goal.retire-requires
retire-requires c =
    let p : Placing = record { list = c.self.inside.seat; lines = c.self.inside.lines.items } in
    let at = c.in-Some.at in
    let number = subst (λ lines. IsNumberAt lines c.args.old at) c.as_slice.ensures.value c.in-Some.ensures.some in
    let cut = subst (λ (q : Placing). AreCutOf q.list.noted.knows c.args.old c.args.born) (sym c.self.view_is) c.requires.cut in
    let told = c.list_all.ensures.told ∙ ap (λ born. all_listed born c.self.inside.seat) c.into_items-born.ensures in
    subst (λ (l : Listing). Has l.listed c.args.old) (sym told) (listed_stays c.args.born c.self.inside.seat c.args.old (was_listed p c.self.invariant c.args.old at c.args.born number cut))

pub invariant_of-self-2 : goal.invariant_of-self-2
invariant_of-self-2 c =
    let p : Placing = record { list = c.self.inside.seat; lines = c.self.inside.lines.items } in
    let at = c.in-Some.at in
    let number = subst (λ lines. IsNumberAt lines c.args.old at) c.as_slice.ensures.value c.in-Some.ensures.some in
    let cut = subst (λ (q : Placing). AreCutOf q.list.noted.knows c.args.old c.args.born) (sym c.self.view_is) c.requires.cut in
    let fresh = subst (λ (q : Placing). AreFresh q.list.noted c.args.born) (sym c.self.view_is) c.requires.fresh in
    let items = c.remove.ensures.items ∙ ap (λ ys. take at ys ++ drop (suc at) ys) c.reserve.ensures.items in
    let After : List Born → List Line → Type 0 = λ born lines. AreAdded born lines c.list_all.new.lines.items in
    let added = subst (λ born. After born (take at p.lines ++ drop (suc at) p.lines)) c.into_items-born.ensures (subst (λ lines. After c.into_items-born.result.items lines) items c.list_all.ensures.added) in
    let told = c.list_all.ensures.told ∙ ap (λ born. all_listed born c.self.inside.seat) c.into_items-born.ensures in
    let never = subst (λ born. WereNeverListed born c.self.inside.seat) c.into_items-born.ensures c.list_all.ensures.first in
    place_replaced p c.self.invariant c.args.old at c.args.born number cut c.retire.new.self c.list_all.new.lines.items fresh never c.retire.ensures.sound
    (c.retire.ensures.retired ∙ ap (λ l. list_retired c.args.old l) told) added c.list_all.ensures.order

pub returns-clause-listed : goal.returns-clause-listed
returns-clause-listed c =
    let p : Placing = record { list = c.self.inside.seat; lines = c.self.inside.lines.items } in
    let at = c.in-Some.at in
    let number = subst (λ lines. IsNumberAt lines c.args.old at) c.as_slice.ensures.value c.in-Some.ensures.some in
    let cut = subst (λ (q : Placing). AreCutOf q.list.noted.knows c.args.old c.args.born) (sym c.self.view_is) c.requires.cut in
    subst (λ (q : Placing). Has q.list.listed c.args.old) c.self.view_is (was_listed p c.self.invariant c.args.old at c.args.born number cut)

pub returns-clause-lines : goal.returns-clause-lines
returns-clause-lines c =
    let p : Placing = record { list = c.self.inside.seat; lines = c.self.inside.lines.items } in
    let at = c.in-Some.at in
    let number = subst (λ lines. IsNumberAt lines c.args.old at) c.as_slice.ensures.value c.in-Some.ensures.some in
    let cut = subst (λ (q : Placing). AreCutOf q.list.noted.knows c.args.old c.args.born) (sym c.self.view_is) c.requires.cut in
    let items = c.remove.ensures.items ∙ ap (λ ys. take at ys ++ drop (suc at) ys) c.reserve.ensures.items in
    let After : List Born → List Line → Type 0 = λ born lines. AreAdded born lines c.list_all.new.lines.items in
    let added = subst (λ born. After born (take at p.lines ++ drop (suc at) p.lines)) c.into_items-born.ensures (subst (λ lines. After c.into_items-born.result.items lines) items c.list_all.ensures.added) in
    subst (λ (q : Placing). AreReplaced c.args.old c.args.born q.lines c.list_all.new.lines.items) c.self.view_is (are_replaced p c.self.invariant c.args.old at c.args.born number cut c.list_all.new.lines.items added)

pub returns-clause-place : goal.returns-clause-place
returns-clause-place c =
    let p : Placing = record { list = c.self.inside.seat; lines = c.self.inside.lines.items } in
    let at = c.in-Some.at in
    let number = subst (λ lines. IsNumberAt lines c.args.old at) c.as_slice.ensures.value c.in-Some.ensures.some in
    let cut = subst (λ (q : Placing). AreCutOf q.list.noted.knows c.args.old c.args.born) (sym c.self.view_is) c.requires.cut in
    let fresh = subst (λ (q : Placing). AreFresh q.list.noted c.args.born) (sym c.self.view_is) c.requires.fresh in
    let items = c.remove.ensures.items ∙ ap (λ ys. take at ys ++ drop (suc at) ys) c.reserve.ensures.items in
    let After : List Born → List Line → Type 0 = λ born lines. AreAdded born lines c.list_all.new.lines.items in
    let added = subst (λ born. After born (take at p.lines ++ drop (suc at) p.lines)) c.into_items-born.ensures (subst (λ lines. After c.into_items-born.result.items lines) items c.list_all.ensures.added) in
    let told = c.list_all.ensures.told ∙ ap (λ born. all_listed born c.self.inside.seat) c.into_items-born.ensures in
    let never = subst (λ born. WereNeverListed born c.self.inside.seat) c.into_items-born.ensures c.list_all.ensures.first in
    place_replaced p c.self.invariant c.args.old at c.args.born number cut c.retire.new.self c.list_all.new.lines.items fresh never c.retire.ensures.sound
    (c.retire.ensures.retired ∙ ap (λ l. list_retired c.args.old l) told) added c.list_all.ensures.order
