use Rattle.std.proofs.Common.{◌≡◌, rules}
use borrow.Author.Tests.{tests}
use Rattle.std.specs.List.{list_all}
use Rattle.std.proofs.lemmas.Iterator.Adapters.{YieldsList-from_bytes}
use Rattle.std.proofs.lemmas.Iterator.Search.{all_from_yields_List}
use Rattle.term_core.specs.Characters.{is_lower_letter}
use Rattle.term_core.proofs.Tags.{group_of_all}
use Rattle.term_core.proofs.parts.is_language.Goals as goal

pub returns-then-not-is_empty : goal.returns-then-not-is_empty
returns-then-not-is_empty c =
    let all : c.all.result ≡ list_all is_lower_letter c.args.text.now =
    all_from_yields_List is_lower_letter _ _ c.all.result c.all.ensures.ran (YieldsList-from_bytes c.args.text.now cc) (λ x b q k. search (rules, tests)) in
    group_of_all is_lower_letter c.args.text.now c.is_empty.result c.all.result c.is_empty.ensures c.if-not-is_empty.true all
