use Rattle.std.proofs.Common.{◌≡◌, rules, arith, None, Some, sym, ◌∙◌}
use borrow.Author.Tests.{tests}
use Rattle.std.specs.List.{list_all, slice_split}
use Rattle.std.proofs.lemmas.Iterator.Search.{all_from_yields_List}
use Rattle.std.proofs.lemmas.Iterator.Splits.{YieldsList-from_str_split}
use Rattle.std.proofs.lemmas.Str.Pattern.{split_parts, split_after}
use Rattle.term_core.specs.Decoding.{is_group}
use Rattle.term_core.proofs.Tags.{is_subtag_byte, is_hyphen, tag_of_language, tag_from_parts, parts_of_tag}
use Rattle.term_core.proofs.parts.is_tag.Goals as goal

pub returns-in-None : goal.returns-in-None
returns-in-None c =
    tag_of_language c.args.text.now c.is_language.result (split_parts 45 c.args.text.now None c.in-None.ensures.cases (omega arith)) c.is_language.ensures

pub returns-then-is_language : goal.returns-then-is_language
returns-then-is_language c =
    let text = c.args.text.now in
    let language = c.in-Some.language.now in
    let rest = c.in-Some.subtags.now in
    let parts = split_parts 45 text (Some (c.in-Some.language, c.in-Some.subtags)) c.in-Some.ensures.cases (omega arith) in
    let all : c.all.result ≡ list_all (is_group is_subtag_byte) (slice_split is_hyphen rest) =
    all_from_yields_List (is_group is_subtag_byte) _ _ c.all.result c.all.ensures.ran
    (YieldsList-from_str_split 45 rest (omega arith) c.split.ensures.text c.split.ensures.has_more c.split.ensures.pattern) (λ x b q k. search (rules, tests)) in (
      λ t. tag_from_parts text language rest parts.0 (sym c.is_language-in-Some.ensures ∙ c.if-is_language.true) (sym all ∙ t),
      λ h. all ∙ (parts_of_tag text language rest parts.0
          (λ xs ys e none. split_after 45 text xs ys (Some (c.in-Some.language, c.in-Some.subtags)) c.in-Some.ensures.cases (omega arith) e none) h).1,
    )

pub returns-else-is_language : goal.returns-else-is_language
returns-else-is_language c =
    let text = c.args.text.now in
    let language = c.in-Some.language.now in
    let rest = c.in-Some.subtags.now in
    let parts = split_parts 45 text (Some (c.in-Some.language, c.in-Some.subtags)) c.in-Some.ensures.cases (omega arith) in (
      λ t. let off = c.if-is_language.false in absurd cc,
      λ h. c.is_language-in-Some.ensures ∙ (parts_of_tag text language rest parts.0
          (λ xs ys e none. split_after 45 text xs ys (Some (c.in-Some.language, c.in-Some.subtags)) c.in-Some.ensures.cases (omega arith) e none) h).0,
    )
