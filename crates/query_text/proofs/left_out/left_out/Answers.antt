use Rattle.std.proofs.Common.{◌≡◌, true, false, refl, sym, subst, ◌∙◌, arith, below_more}
use Rattle.query_text.specs.Reading.{token_of}
use Rattle.query_text.specs.Refusals.{TokenStandsFor}
use Rattle.query_text.proofs.AllWords.{every_word}
use Rattle.query_text.proofs.left_out.left_out.Goals as goal

pub words-preserved : goal.words-preserved
words-preserved c = record {
  all = refl;
  none = below_more _ _ c.words.invariant.none (λ h. let e : true ≡ false = sym (c.stands_for.ensures.1 h) ∙ c.if-stands_for.false in cc);
}

pub returns : goal.returns
returns c word h =
    let at = every_word word in
    c.words.invariant.none at.0 (omega (arith, at.1)) (subst (TokenStandsFor (token_of c.args.token.now)) (sym at.2) h)
