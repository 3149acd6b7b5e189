use Rattle.std.proofs.Common.{◌≡◌, rules, sym, ◌∙◌}
use borrow.Author.Tests.{tests}
use Rattle.std.specs.List.{list_all}
use Rattle.std.specs.Str.{chars}
use Rattle.std.proofs.lemmas.Iterator.{YieldsList-from_chars}
use Rattle.std.proofs.lemmas.Iterator.Search.{all_from_yields_List}
use Rattle.term_core.specs.Characters.{is_iri_character}
use Rattle.term_core.proofs.parts.is_iri.Goals as goal

pub returns : goal.returns
returns c =
    let all : c.all.result ≡ list_all is_iri_character (chars c.args.text.now) =
    all_from_yields_List is_iri_character _ _ c.all.result c.all.ensures.ran (YieldsList-from_chars c.args.text.now c.utf8.text cc) (λ x b q k. search (rules, tests)) in
    (λ t. record { utf8 = c.utf8.text; each = sym all ∙ t }, λ h. all ∙ h.each)
