-- A token stands for one word at most.
use Rattle.std.proofs.Common.{◌≡◌, ℕ, Bool, true, false, cond, List, [], ◌∷◌, map, Option, Some, None, refl, sym, ap, subst, ◌∙◌}
use Rattle.std.specs.Char.{to_ascii_uppercase}
use Rattle.std.specs.Prelude.{nat_eq}
use Rattle.std.specs.Cmp.Lexicographic.{pointwise}
use Rattle.query_text.specs.declared.kind.TokenKind.{TokenKind}
use Rattle.query_text.specs.declared.kind.TokenKind.TheVariants as kinds
use Rattle.bgp_model.specs.declared.word.Word.{Word}
use Rattle.bgp_model.specs.declared.word.Word.TheVariants as words
use Rattle.bgp_model.specs.declared.word.TheConstants.{WORDS}
use Rattle.query_text.specs.Tokens.{Token}
use Rattle.bgp_model.specs.Words.{printed}
use Rattle.query_text.specs.Refusals.{kind_of, IsWritten, TokenStandsFor, IsLeftOut}

-- the first of the words that is printed so
abbrev printed_so : List Word → List ℕ → Word
printed_so [] text = words.Base
printed_so (word ∷ others) text = cond (pointwise nat_eq (printed word) text) word (printed_so others text)

-- the word of a kind and of how it is printed
abbrev word_of : TokenKind → List ℕ → Word
word_of kinds.Word text = printed_so WORDS text
word_of kinds.Symbol text = printed_so WORDS text
word_of kinds.Double text = words.Double
word_of kinds.Long text = words.Long
word_of _ text = words.Base

each_word : (word : Word) → word_of (kind_of word) (printed word) ≡ word
unfolding printed
each_word words.Base = refl
each_word words.Ask = refl
each_word words.Construct = refl
each_word words.Describe = refl
each_word words.Distinct = refl
each_word words.Reduced = refl
each_word words.From = refl
each_word words.Group = refl
each_word words.Having = refl
each_word words.Order = refl
each_word words.Limit = refl
each_word words.Offset = refl
each_word words.Values = refl
each_word words.Filter = refl
each_word words.Optional = refl
each_word words.Union = refl
each_word words.Minus = refl
each_word words.Graph = refl
each_word words.Service = refl
each_word words.Bind = refl
each_word words.Insert = refl
each_word words.Delete = refl
each_word words.Load = refl
each_word words.Clear = refl
each_word words.Create = refl
each_word words.Drop = refl
each_word words.Copy = refl
each_word words.Move = refl
each_word words.Add = refl
each_word words.With = refl
each_word words.Double = refl
each_word words.Long = refl
each_word words.OpeningParenthesis = refl
each_word words.OpeningBracket = refl
each_word words.Slash = refl
each_word words.Bar = refl
each_word words.Caret = refl
each_word words.Exclamation = refl
each_word words.Plus = refl
each_word words.Star = refl
each_word words.Question = refl
each_word words.Percent = refl
each_word words.Backslash = refl
each_word words.OpeningBrace = refl

-- what a kind and a writing tell
told : (kind : TokenKind) (one other characters : List ℕ) → IsWritten kind one characters → IsWritten kind other characters → word_of kind one ≡ word_of kind other
told kinds.Word one other characters a b = ap (word_of kinds.Word) (sym a ∙ b)
told kinds.Symbol one other characters a b = ap (word_of kinds.Symbol) (sym a ∙ b)
told _ one other characters a b = refl

word_same : (token : Token) (one other : Word) → TokenStandsFor token one → TokenStandsFor token other → one ≡ other
word_same token one other a b =
    let kinds_same : kind_of one ≡ kind_of other = sym a.kind ∙ b.kind in
    let written : IsWritten (kind_of one) (printed other) token.characters = subst (λ (k : TokenKind). IsWritten k (printed other) token.characters) (sym kinds_same) b.written in
    sym (each_word one) ∙ told (kind_of one) (printed one) (printed other) token.characters a.written written
    ∙ ap (λ (k : TokenKind). word_of k (printed other)) kinds_same ∙ each_word other

pub left_out_same : (token : Token) (one other : Option Word) → IsLeftOut token one → IsLeftOut token other → one ≡ other
left_out_same token None None a b = refl
left_out_same token None (Some other) a b = absurd (a other b)
left_out_same token (Some one) None a b = absurd (b one a)
left_out_same token (Some one) (Some other) a b = ap (λ (word : Word). Some word) (word_same token one other a b)
