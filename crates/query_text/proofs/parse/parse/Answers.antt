use Rattle.std.proofs.Common.{rules, ◌≡◌, ℕ, List, false, sym, subst, ◌∙◌}
use Rattle.query_text.specs.Texts.{behind_gap, BeginsWith, BeginsWithNone}
use Rattle.query_text.specs.Reading.{token_of}
use Rattle.query_text.specs.Parsing.{seen}
use Rattle.query_text.proofs.Gaps.{token_shortens}
use Rattle.query_text.specs.Ahead.{IsQuiet}
use Rattle.query_text.proofs.Alone.{quiet_start, quiet_gap, quiet_behind}
use Rattle.query_text.proofs.Steps.{nothing_yet, stays, goes, stops_at, one_more, ends_at}
use Rattle.query_text.proofs.parse.parse.Goals as goal

pub tokens-init : goal.tokens-init
tokens-init c = record {
  knows = c.begin-parser.ensures.knows;
  so_far = nothing_yet c.args.text.now (seen c.begin-parser.result) c.begin-parser.ensures.nothing;
  quiet = quiet_start c.args.text.now;
}

-- white space and comments leave what is known
pub next_token-requires : goal.next_token-requires
next_token-requires c =
    subst (IsQuiet c.tokens.quiet) (sym c.skip_gap.ensures) (quiet_gap c.tokens.rest.now false c.tokens.quiet c.tokens.invariant.quiet)

pub returns-then-not-branch : goal.returns-then-not-branch
returns-then-not-branch c =
    let token = c.in-Some.token in
    let begins : BeginsWith (behind_gap false c.tokens.rest.now) (token_of token) token.behind.now =
    subst (λ (x : List ℕ). BeginsWith x (token_of token) token.behind.now) c.skip_gap.ensures c.in-Some.ensures.first in
    let stopped : c.in_ok-take.field-0 ≡ false = search rules in
    stops_at c.args.text.now c.tokens.rest.now (seen c.tokens.parser) token c.tokens.invariant.so_far begins
    (stays (seen c.tokens.parser) (seen c.take.new.parser) token c.in_ok-take.field-0 c.in_ok-take.ensures.step stopped)

pub tokens-smaller : goal.tokens-smaller
tokens-smaller c =
    let token = c.in-Some.token in
    let begins : BeginsWith (behind_gap false c.tokens.rest.now) (token_of token) token.behind.now =
    subst (λ (x : List ℕ). BeginsWith x (token_of token) token.behind.now) c.skip_gap.ensures c.in-Some.ensures.first in
    token_shortens c.tokens.rest.now (token_of token) token.behind.now begins

pub tokens-preserved : goal.tokens-preserved
tokens-preserved c =
    let token = c.in-Some.token in
    let begins : BeginsWith (behind_gap false c.tokens.rest.now) (token_of token) token.behind.now =
    subst (λ (x : List ℕ). BeginsWith x (token_of token) token.behind.now) c.skip_gap.ensures c.in-Some.ensures.first in
    record {
      knows = c.in_ok-take.ensures.knows;
      so_far =
          one_more c.args.text.now c.tokens.rest.now (seen c.tokens.parser) (seen c.take.new.parser) token c.tokens.invariant.so_far begins
          (goes (seen c.tokens.parser) (seen c.take.new.parser) token c.in_ok-take.field-0 c.in_ok-take.ensures.step c.if-not-branch.false);
      quiet = quiet_behind c.next_token.new.quiet c.skip_gap.result.now token.characters.now token.behind.now c.in-Some.ensures.first.cut c.in-Some.ensures.quiet;
    }

pub returns : goal.returns
returns c =
    let none : BeginsWithNone c.skip_gap.result.now = c.in_default.ensures.first in
    ends_at c.args.text.now c.tokens.rest.now c.skip_gap-2.result.now (seen c.tokens.parser) c.tokens.invariant.so_far c.skip_gap-2.ensures
    (subst BeginsWithNone (c.skip_gap.ensures ∙ sym c.skip_gap-2.ensures) none)
