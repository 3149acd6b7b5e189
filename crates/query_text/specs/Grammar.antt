-- The grammar of queries, over tokens (SPARQL 1.1 Query Language, section 19.8, whose rules the names follow). A rule relates the tokens before
-- it, those behind it, and what it says.
use Rattle.std.specs.Prelude.{◌≡◌, ℕ, List, [], ◌∷◌, ◌++◌, map, Option, Some, None, ◌⊎◌, nat_eq, if◌then◌else◌, codes}
use Rattle.std.specs.Char.{to_ascii_uppercase, to_ascii_lowercase}
use Rattle.std.specs.Cmp.Lexicographic.{pointwise}
use Rattle.term_core.specs.declared.term.Term.{Term}
use Rattle.term_core.specs.declared.term.Term.TheVariants as terms
use Rattle.nt_text.specs.Cell.{xsd_string}
use Rattle.query_text.specs.declared.kind.TokenKind.TheVariants as kinds
use Rattle.query_text.specs.Tokens.{Token, IsIriref, IsString, IsLangtag, IsVariable, IsLabel, IsPrefixedName, IsInteger, IsDecimal}

-- ---- single tokens

-- the word, in letters of any case
pub record IsWord (word : List ℕ) (token : Token) : Type 0 where
  pub kind : token.kind ≡ kinds.Word
  pub letters : map to_ascii_uppercase token.characters ≡ word

pub record IsSymbol (symbol : List ℕ) (token : Token) : Type 0 where
  pub kind : token.kind ≡ kinds.Symbol
  pub is : token.characters ≡ symbol

pub record IsVar (token : Token) (name : List ℕ) : Type 0 where
  pub kind : token.kind ≡ kinds.Var
  pub is : IsVariable token.characters name

pub record IsIrirefToken (token : Token) (iri : List ℕ) : Type 0 where
  pub kind : token.kind ≡ kinds.Iriref
  pub is : IsIriref token.characters iri

pub record IsPrefixedNameToken (token : Token) («prefix» local : List ℕ) : Type 0 where
  pub kind : token.kind ≡ kinds.PrefixName
  pub is : IsPrefixedName token.characters «prefix» local

pub record IsLabelToken (token : Token) (label : List ℕ) : Type 0 where
  pub kind : token.kind ≡ kinds.Label
  pub is : IsLabel token.characters label

pub record IsStringToken (token : Token) (form : List ℕ) : Type 0 where
  pub kind : token.kind ≡ kinds.Str
  pub is : IsString token.characters form

pub record IsLangtagToken (token : Token) (tag : List ℕ) : Type 0 where
  pub kind : token.kind ≡ kinds.Langtag
  pub is : IsLangtag token.characters tag

pub record IsIntegerToken (token : Token) : Type 0 where
  pub kind : token.kind ≡ kinds.Integer
  pub is : IsInteger token.characters

pub record IsDecimalToken (token : Token) : Type 0 where
  pub kind : token.kind ≡ kinds.Decimal
  pub is : IsDecimal token.characters

-- ---- what a query says

pub record Declaration : Type 0 where
  pub «prefix» : List ℕ
  pub iri : List ℕ

-- what stands in a position of a triple
pub data Node : Type 0 where
  Variable : List ℕ → Node
  Label : List ℕ → Node
  Constant : Term → Node

pub record Triple : Type 0 where
  pub subject : Node
  pub predicate : Node
  pub object : Node

abbrev pub triple : Node → Node → Node → Triple
triple subject predicate object = record { subject = subject; predicate = predicate; object = object }

pub data Columns : Type 0 where
  All : Columns
  These : List (List ℕ) → Columns

-- a query as it is written: the selected variables and the triples
pub record Written : Type 0 where
  pub columns : Columns
  pub triples : List Triple

-- ---- IRIs

abbrev pub or_else : Option (List ℕ) → Option (List ℕ) → Option (List ℕ)
or_else None other = other
or_else (Some iri) other = Some iri

-- the IRI of the newest declaration of the prefix
abbrev pub iri_for : List Declaration → List ℕ → Option (List ℕ)
iri_for [] name = None
iri_for (d ∷ declarations) name = or_else (iri_for declarations name) (if pointwise nat_eq d.«prefix» name then Some d.iri else None)

-- PrefixedName: the IRI of the prefix, followed by the local part
pub record IsResolved (declarations : List Declaration) (token : Token) (iri : List ℕ) : Type 0 where
  pub «prefix» : List ℕ
  pub local : List ℕ
  pub base : List ℕ
  pub name_is : IsPrefixedNameToken token «prefix» local
  pub declared : iri_for declarations «prefix» ≡ Some base
  pub iri_is : iri ≡ base ++ local

-- iri ::= IRIREF | PrefixedName
abbrev pub NamesIri : List Declaration → Token → List ℕ → Type 0
NamesIri declarations token iri = IsIrirefToken token iri ⊎ IsResolved declarations token iri

-- ---- nodes

unfoldable pub xsd_integer : List ℕ
xsd_integer = codes "http://www.w3.org/2001/XMLSchema#integer"

unfoldable pub xsd_decimal : List ℕ
xsd_decimal = codes "http://www.w3.org/2001/XMLSchema#decimal"

unfoldable pub xsd_boolean : List ℕ
xsd_boolean = codes "http://www.w3.org/2001/XMLSchema#boolean"

-- what the verb a stands for
unfoldable pub rdf_type : List ℕ
rdf_type = codes "http://www.w3.org/1999/02/22-rdf-syntax-ns#type"

abbrev pub iri_node : List ℕ → Node
iri_node iri = Constant (terms.Iri iri)

abbrev pub literal_node : List ℕ → List ℕ → Node
literal_node form datatype = Constant (terms.Literal form datatype)

-- VarOrTerm: a variable, an iri, a label, or a literal, where numbers keep the form in which they are written
pub data IsNode (declarations : List Declaration) : List Token → List Token → Node → Type 0 where
  NodeVar : {token : Token} {behind : List Token} {name : List ℕ} → IsVar token name → IsNode declarations (token ∷ behind) behind (Variable name)
  NodeIri : {token : Token} {behind : List Token} {iri : List ℕ} → NamesIri declarations token iri → IsNode declarations (token ∷ behind) behind (iri_node iri)
  NodeLabel : {token : Token} {behind : List Token} {label : List ℕ} → IsLabelToken token label → IsNode declarations (token ∷ behind) behind (Label label)
  NodeInteger : {token : Token} {behind : List Token} → IsIntegerToken token
      → IsNode declarations (token ∷ behind) behind (literal_node token.characters xsd_integer)
  NodeDecimal : {token : Token} {behind : List Token} → IsDecimalToken token
      → IsNode declarations (token ∷ behind) behind (literal_node token.characters xsd_decimal)
  NodeBoolean : {token : Token} {behind : List Token} → IsWord (codes "TRUE") token ⊎ IsWord (codes "FALSE") token
      → IsNode declarations (token ∷ behind) behind (literal_node (map to_ascii_lowercase token.characters) xsd_boolean)
  NodeString : {token : Token} {behind : List Token} {form : List ℕ} → IsStringToken token form
      → IsNode declarations (token ∷ behind) behind (literal_node form xsd_string)
  NodeTagged : {token mark : Token} {behind : List Token} {form tag : List ℕ} → IsStringToken token form → IsLangtagToken mark tag
      → IsNode declarations (token ∷ mark ∷ behind) behind (Constant (terms.Tagged form tag))
  NodeTyped : {token mark name : Token} {behind : List Token} {form iri : List ℕ} → IsStringToken token form → IsSymbol (codes "^^") mark → NamesIri declarations name iri
      → IsNode declarations (token ∷ mark ∷ name ∷ behind) behind (literal_node form iri)

-- Verb ::= VarOrIri | 'a', which alone is matched as it is written
pub data IsVerb (declarations : List Declaration) : List Token → List Token → Node → Type 0 where
  VerbVar : {token : Token} {behind : List Token} {name : List ℕ} → IsVar token name → IsVerb declarations (token ∷ behind) behind (Variable name)
  VerbIri : {token : Token} {behind : List Token} {iri : List ℕ} → NamesIri declarations token iri → IsVerb declarations (token ∷ behind) behind (iri_node iri)
  VerbA : {token : Token} {behind : List Token} → token.kind ≡ kinds.Word → token.characters ≡ codes "a" → IsVerb declarations (token ∷ behind) behind (iri_node rdf_type)

-- ---- triples

-- ObjectList ::= Object (',' Object)*
pub data AreObjects (declarations : List Declaration) (subject verb : Node) : List Token → List Token → List Triple → Type 0 where
  LastObject : {tokens behind : List Token} {object : Node} → IsNode declarations tokens behind object
      → AreObjects declarations subject verb tokens behind (triple subject verb object ∷ [])
  MoreObjects : {tokens rest behind : List Token} {comma : Token} {object : Node} {others : List Triple} → IsNode declarations tokens (comma ∷ rest) object
      → IsSymbol (codes ",") comma → AreObjects declarations subject verb rest behind others
      → AreObjects declarations subject verb tokens behind (triple subject verb object ∷ others)

-- Verb ObjectList
pub record AreProperties (declarations : List Declaration) (subject : Node) (tokens behind : List Token) (triples : List Triple) : Type 0 where
  pub verb : Node
  pub rest : List Token
  pub verb_is : IsVerb declarations tokens rest verb
  pub objects_are : AreObjects declarations subject verb rest behind triples

-- (';' (Verb ObjectList)?)*
pub data AreFurther (declarations : List Declaration) (subject : Node) : List Token → List Token → List Triple → Type 0 where
  NoFurther : {behind : List Token} → AreFurther declarations subject behind behind []
  EmptyFurther : {rest behind : List Token} {semicolon : Token} {others : List Triple} → IsSymbol (codes ";") semicolon
      → AreFurther declarations subject rest behind others → AreFurther declarations subject (semicolon ∷ rest) behind others
  MoreFurther : {tokens rest behind : List Token} {semicolon : Token} {first others : List Triple} → IsSymbol (codes ";") semicolon
      → AreProperties declarations subject tokens rest first → AreFurther declarations subject rest behind others
      → AreFurther declarations subject (semicolon ∷ tokens) behind (first ++ others)

-- TriplesSameSubject ::= VarOrTerm PropertyListNotEmpty
pub record HaveSameSubject (declarations : List Declaration) (tokens behind : List Token) (triples : List Triple) : Type 0 where
  pub subject : Node
  pub properties : List Token
  pub further : List Token
  pub first : List Triple
  pub others : List Triple
  pub subject_is : IsNode declarations tokens properties subject
  pub first_are : AreProperties declarations subject properties further first
  pub others_are : AreFurther declarations subject further behind others
  pub triples_are : triples ≡ first ++ others

-- TriplesBlock?, which is TriplesSameSubject ('.' TriplesBlock?)?
pub data AreTriples (declarations : List Declaration) : List Token → List Token → List Triple → Type 0 where
  NoTriples : {behind : List Token} → AreTriples declarations behind behind []
  LastTriples : {tokens behind : List Token} {triples : List Triple} → HaveSameSubject declarations tokens behind triples → AreTriples declarations tokens behind triples
  MoreTriples : {tokens rest behind : List Token} {dot : Token} {first others : List Triple} → HaveSameSubject declarations tokens (dot ∷ rest) first
      → IsSymbol (codes ".") dot → AreTriples declarations rest behind others → AreTriples declarations tokens behind (first ++ others)

-- ---- queries

-- Prologue ::= ('PREFIX' PNAME_NS IRIREF)*, in the order of the text
pub data IsPrologue : List Token → List Token → List Declaration → Type 0 where
  EndOfPrologue : {behind : List Token} → IsPrologue behind behind []
  PrefixDecl : {word name bracketed : Token} {rest behind : List Token} {«prefix» iri : List ℕ} {others : List Declaration} → IsWord (codes "PREFIX") word
      → IsPrefixedNameToken name «prefix» [] → IsIrirefToken bracketed iri → IsPrologue rest behind others
      → IsPrologue (word ∷ name ∷ bracketed ∷ rest) behind (record { «prefix» = «prefix»; iri = iri } ∷ others)

-- Var+
pub data AreVars : List Token → List Token → List (List ℕ) → Type 0 where
  LastVar : {token : Token} {behind : List Token} {name : List ℕ} → IsVar token name → AreVars (token ∷ behind) behind (name ∷ [])
  MoreVars : {token : Token} {rest behind : List Token} {name : List ℕ} {others : List (List ℕ)} → IsVar token name → AreVars rest behind others
      → AreVars (token ∷ rest) behind (name ∷ others)

-- Var+ | '*'
pub data AreColumns : List Token → List Token → Columns → Type 0 where
  Star : {star : Token} {behind : List Token} → IsSymbol (codes "*") star → AreColumns (star ∷ behind) behind All
  Vars : {tokens behind : List Token} {names : List (List ℕ)} → AreVars tokens behind names → AreColumns tokens behind (These names)

-- 'WHERE'?
pub data IsWhere : List Token → List Token → Type 0 where
  NoWhere : {behind : List Token} → IsWhere behind behind
  Where : {word : Token} {behind : List Token} → IsWord (codes "WHERE") word → IsWhere (word ∷ behind) behind

-- the tokens are this query: Prologue 'SELECT' columns 'WHERE'? '{' TriplesBlock? '}'
pub record IsQuery (tokens : List Token) (query : Written) : Type 0 where
  pub select : Token
  pub opening : Token
  pub closing : Token
  pub columns : List Token
  pub behind_columns : List Token
  pub triples : List Token
  pub declarations : List Declaration
  pub prologue_is : IsPrologue tokens (select ∷ columns) declarations
  pub select_is : IsWord (codes "SELECT") select
  pub columns_are : AreColumns columns behind_columns query.columns
  pub where_is : IsWhere behind_columns (opening ∷ triples)
  pub opening_is : IsSymbol (codes "{") opening
  pub triples_are : AreTriples declarations triples (closing ∷ []) query.triples
  pub closing_is : IsSymbol (codes "}") closing
