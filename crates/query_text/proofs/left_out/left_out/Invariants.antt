use Rattle.std.proofs.Common.{◌≡◌, ℕ, ◌<◌, get_or}
use Rattle.bgp_model.specs.declared.word.TheConstants.{WORDS}
use Rattle.bgp_model.specs.declared.word.Word.TheVariants.{Base}
use Rattle.query_text.specs.Reading.{token_of}
use Rattle.query_text.specs.Refusals.{TokenStandsFor}
use Rattle.query_text.proofs.left_out.left_out.Given as goal

-- the token stands for none of the words before
abbrev pub invariant-words : goal.invariant-words
invariant-words l = record {
  all : l.word-items ≡ WORDS;
  none : (k : ℕ) → k < l.word-index → TokenStandsFor (token_of l.token) (get_or l.word-items k Base) → ⊥;
}
