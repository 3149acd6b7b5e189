use Rattle.std.proofs.Common.{◌≡◌, sym, subst}
use Rattle.base_core.specs.Lists.{Has}
use Rattle.place_core.specs.declared.shards.Line.{Line}
use Rattle.place_core.specs.Places.{HasKey}
use Rattle.place_core.proofs.Standing.{has_at}
use Rattle.place_core.proofs.Keeping.{elsewhere}
use Rattle.place_core.proofs.lines.place_of_old.Goals as goal

pub returns-else-lines-at-clause-none : goal.returns-else-lines-at-clause-none
returns-else-lines-at-clause-none c =
    let lines = c.args.lines.now in
    let born = c.args.born.now in
    let first = c.in-Some.first.now in
    let held = c.index-lines-at.result in
    let item = c.in-Some.ensures.item.3 in
    let has = subst (λ one. Has born one) (sym (item.1 first)) (has_at born 0 first item.0) in
    let there = subst (λ (l : Line). Has lines l) (sym c.index-lines-at.is) (has_at lines c.holder-at.result held c.holder-at.ensures.below) in
    let keyed = subst (λ l. HasKey l first.index c.bytes.result.now) (sym c.index-lines-at.is) (c.holder-at.ensures.line held) in
    let other = subst (λ (l : Line). ¬ (l.number ≡ c.args.old)) (sym c.index-lines-at.is) c.if-lines-at.false in
    elsewhere lines c.requires c.args.old born first has held there (subst (λ key. HasKey held first.index key) c.bytes.ensures keyed) other
