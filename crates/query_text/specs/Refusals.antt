-- When a text is refused, at which place, and by which word.
use Rattle.std.specs.Prelude.{◌≡◌, ◌≢◌, ℕ, ◌<◌, ◌⊎◌, List, [], ◌∷◌, ◌++◌, map, length, Option, Some, None}
use Rattle.std.specs.Char.{to_ascii_uppercase}
use Rattle.std.specs.List.{AllByRecursion}
use Rattle.query_text.specs.declared.fault.QueryFault.{QueryFault}
use Rattle.query_text.specs.declared.fault.QueryFault.TheVariants as faults
use Rattle.query_text.specs.declared.kind.TokenKind.{TokenKind}
use Rattle.query_text.specs.declared.kind.TokenKind.TheVariants as kinds
use Rattle.bgp_model.specs.declared.word.Word.{Word}
use Rattle.bgp_model.specs.declared.word.Word.TheVariants as words
use Rattle.bgp_model.specs.Words.{printed}
use Rattle.query_text.specs.Tokens.{Token, IsToken}
use Rattle.query_text.specs.Texts.{BeginsWith, BeginsWithNone, IsReadTo}
use Rattle.query_text.specs.Grammar.{Written, IsQuery}
use Rattle.query_text.specs.Meaning.{IsText}
use Rattle.query_text.specs.Limits.{most_patterns}

-- the tokens are the first of some query's: some tokens, each as its rule says, complete them
pub record IsViable (tokens : List Token) : Type 0 where
  pub others : List Token
  pub query : Written
  pub are_tokens : AllByRecursion IsToken others
  pub is_query : IsQuery (tokens ++ others) query

-- ---- the words of SPARQL that are left out

-- the kind of the tokens that it stands for
abbrev pub kind_of : Word → TokenKind
kind_of words.Double = kinds.Double
kind_of words.Long = kinds.Long
kind_of words.OpeningParenthesis = kinds.Symbol
kind_of words.OpeningBracket = kinds.Symbol
kind_of words.Slash = kinds.Symbol
kind_of words.Bar = kinds.Symbol
kind_of words.Caret = kinds.Symbol
kind_of words.Exclamation = kinds.Symbol
kind_of words.Plus = kinds.Symbol
kind_of words.Star = kinds.Symbol
kind_of words.Question = kinds.Symbol
kind_of words.Percent = kinds.Symbol
kind_of words.Backslash = kinds.Symbol
kind_of words.OpeningBrace = kinds.Symbol
kind_of _ = kinds.Word

-- tokens of this kind stand for the word by how they are written: words in letters of any case, symbols as they are, and the others all
abbrev pub IsWritten : TokenKind → List ℕ → List ℕ → Type 0
IsWritten kinds.Word word characters = map to_ascii_uppercase characters ≡ word
IsWritten kinds.Symbol word characters = characters ≡ word
IsWritten _ word characters = Unit {0}

-- the token stands for the word
pub record TokenStandsFor (token : Token) (word : Word) : Type 0 where
  pub kind : token.kind ≡ kind_of word
  pub written : IsWritten (kind_of word) (printed word) token.characters

-- the word that the token stands for, if there is one
abbrev pub IsLeftOut : Token → Option Word → Type 0
IsLeftOut token None = (word : Word) → TokenStandsFor token word → ⊥
IsLeftOut token (Some word) = TokenStandsFor token word

-- ---- where reading stops

-- Why reading stops behind these tokens, which are the first of some query's: with the next token they no longer are, or no token begins there,
-- or the text ends there and they are no query. A token with which no query goes on may be a word that is left out. (Each symbol that is left
-- out is a token by itself, so that where no token begins none of them stands.)
pub data StopsReading (tokens : List Token) (rest bad : List ℕ) : Option Word → Type 0 where
  token : (next : Token) (behind : List ℕ) (word : Option Word) → BeginsWith rest next behind → (IsViable (tokens ++ next ∷ []) → ⊥)
      → IsLeftOut next word → StopsReading tokens rest bad word
  no_token : rest ++ bad ≢ [] → BeginsWithNone rest → StopsReading tokens rest bad None
  ended : rest ≡ [] → bad ≡ [] → ((query : Written) → IsQuery tokens query → ⊥) → StopsReading tokens rest bad None

-- reading stops at this place, at this word if it is one
pub record IsRefused (bytes : List ℕ) (place : ℕ) (word : Option Word) : Type 0 where
  pub tokens : List Token
  pub rest : List ℕ
  pub bad : List ℕ
  pub read : IsReadTo bytes place tokens rest bad
  pub viable : IsViable tokens
  pub stops : StopsReading tokens rest bad word

-- the text is a query of too many patterns
abbrev pub IsTooLarge : List ℕ → Type 0
IsTooLarge bytes = (query : Written) × IsText bytes query × (most_patterns < length query.triples)

abbrev pub IsNoMemory : QueryFault → Type 0
IsNoMemory faults.NoMemory = Unit {0}
IsNoMemory (faults.At place) = ⊥
IsNoMemory (faults.LeftOut place word) = ⊥
IsNoMemory faults.TooManyPatterns = ⊥

-- a place is named where reading stops there; and a query has too many patterns only where it is one
abbrev pub IsBadText : List ℕ → QueryFault → Type 0
IsBadText bytes faults.NoMemory = ⊥
IsBadText bytes (faults.At place) = IsRefused bytes place None
IsBadText bytes (faults.LeftOut place word) = IsRefused bytes place (Some word)
IsBadText bytes faults.TooManyPatterns = IsTooLarge bytes

-- want of memory comes freely
abbrev pub IsQueryFault : List ℕ → QueryFault → Type 0
IsQueryFault bytes fault = IsNoMemory fault ⊎ IsBadText bytes fault

-- want of memory, or this fault
abbrev pub IsNoMemoryOr : QueryFault → QueryFault → Type 0
IsNoMemoryOr fault found = IsNoMemory found ⊎ (found ≡ fault)
