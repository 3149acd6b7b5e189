use Rattle.std.proofs.Common.{◌++◌, ◌∙◌, ap}
use Rattle.change_model.specs.declared.history.Committed.{Committed}
use Rattle.bigfed.proofs.Growth.{entry_is_next, origins_grow}
use Rattle.bigfed.proofs.Commits.{entry_told}
use Rattle.bigfed.proofs.store.Store.commit.Goals as goal

pub add-requires : goal.add-requires
add-requires c =
    let (history, stands) = c.requires.standing in
    let store = c.args.self.now in
    let committed : Committed = record { change = c.args.change; origin = c.args.origin } in
    let ids = rw c.items.ensures at c.in_ok-time.ensures.ids in
    let told = entry_told history store c.args.change c.args.origin c.in_ok-resolved.resolved c.of-later.result c.in_ok-entry.entry c.terms.result c.in_ok-time.time stands
    c.requires.statements (c.in_ok-resolved.ensures.resolved history stands.indexes) c.in_ok-resolved.ensures.change c.in_ok-time.ensures.times ids
    (c.of-later.ensures ∙ c.new.ensures.items) c.in_ok-entry.ensures.last c.terms.ensures c.in_ok-time.ensures.time in
    entry_is_next history committed store.indexes c.in_ok-entry.entry stands.indexes told.last

pub returns-clause-stands : goal.returns-clause-stands
returns-clause-stands c history stands =
    let store = c.args.self.now in
    let committed : Committed = record { change = c.args.change; origin = c.args.origin } in
    let ids = rw c.items.ensures at c.in_ok-time.ensures.ids in
    let told = entry_told history store c.args.change c.args.origin c.in_ok-resolved.resolved c.of-later.result c.in_ok-entry.entry c.terms.result c.in_ok-time.time stands
    c.requires.statements (c.in_ok-resolved.ensures.resolved history stands.indexes) c.in_ok-resolved.ensures.change c.in_ok-time.ensures.times ids
    (c.of-later.ensures ∙ c.new.ensures.items) c.in_ok-entry.ensures.last c.terms.ensures c.in_ok-time.ensures.time in
    record {
      indexes = c.in_ok-add.ensures history committed stands.indexes told.writable told.last;
      origins = origins_grow history committed store.origins c.append.new.self stands.origins
          (c.in_ok-append.ensures.ok ∙ ap (λ xs. store.origins ++ xs) (c.of.ensures ∙ c.in_ok-vec.ensures.items));
    }
