-- N-Triples documents (RDF 1.1 N-Triples, sections 2 and 7).
use Rattle.std.specs.Prelude.{◌≡◌, ℕ, ◌+◌, ◌⊎◌, Bool, ◌||◌, List, [], ◌∷◌, ◌++◌, map, Option, Some, None, IsTrue, ◌==◌, codes}
use Rattle.std.specs.Char.{to_ascii_lowercase}
use Rattle.std.specs.List.{list_all}
use Rattle.std.specs.Option.{option_to_list}
use Rattle.std.specs.Str.{IsUtf8}
use Rattle.base_core.specs.declared.lines.LineEnd.TheVariants.{Any}
use Rattle.term_core.specs.declared.term.Term.{Term}
use Rattle.term_core.specs.declared.term.Term.TheVariants.{Iri, Literal, Tagged, Blank}
use Rattle.term_core.specs.declared.statement.Statement.{Statement}
use Rattle.base_core.specs.Lines.{lines_of}
use Rattle.term_core.specs.Term.{IsTag, IsLabel, MayBeSubject, MayBePredicate}
use Rattle.nt_text.specs.declared.pieces.Between.TheVariants.{Brackets, Quotes}
use Rattle.nt_text.specs.Cell.{xsd_string}
use Rattle.nt_text.specs.Escapes.{IsEnclosed}

-- spaces and tabs
abbrev pub is_white : ℕ → Bool
is_white b = b == 32 || b == 9

abbrev pub IsWhite : List ℕ → Type 0
IsWhite bytes = IsTrue (list_all is_white bytes)

-- a literal with its datatype: the string, ^^ and an IRIREF, with white space before and behind ^^
pub record IsTyped (token form datatype : List ℕ) : Type 0 where
  pub string : List ℕ
  pub before : List ℕ
  pub behind : List ℕ
  pub iri : List ℕ
  pub spelled : token ≡ string ++ (before ++ (94 ∷ 94 ∷ (behind ++ iri)))
  pub white_before : IsWhite before
  pub white_behind : IsWhite behind
  pub string_is : IsEnclosed Quotes string form
  pub iri_is : IsEnclosed Brackets iri datatype

-- a literal with its language tag, which is kept in lower case: the string and @ with the tag, with white space between
pub record IsTagged (token form tag : List ℕ) : Type 0 where
  pub string : List ℕ
  pub before : List ℕ
  pub written : List ℕ
  pub spelled : token ≡ string ++ (before ++ 64 ∷ written)
  pub white_before : IsWhite before
  pub string_is : IsEnclosed Quotes string form
  pub lower : tag ≡ map to_ascii_lowercase written
  pub tag_is : IsTag tag

-- The token is this term: an IRIREF, a literal or a BLANK_NODE_LABEL. A literal alone has the datatype xsd:string.
abbrev pub IsToken : List ℕ → Term → Type 0
IsToken token (Iri iri) = IsEnclosed Brackets token iri
IsToken token (Literal form datatype) = (IsEnclosed Quotes token form × (datatype ≡ xsd_string)) ⊎ IsTyped token form datatype
IsToken token (Tagged form tag) = IsTagged token form tag
IsToken token (Blank at label) = (at ≡ 0) × IsLabel label × (token ≡ codes "_:" ++ label)

-- nothing, or # and any text
abbrev pub IsComment : List ℕ → Type 0
IsComment [] = Unit {0}
IsComment (b ∷ text) = (b ≡ 35) × IsUtf8 text

-- white space, and a comment if there is one
pub record IsEmptyRest (bytes : List ℕ) : Type 0 where
  pub white : List ℕ
  pub comment : List ℕ
  pub spelled : bytes ≡ white ++ comment
  pub white_is : IsWhite white
  pub comment_is : IsComment comment

-- Subject, predicate, object and a full stop, with white space before and between them, and a comment at most behind.
-- A label goes as far as it can: what may follow it here goes on none.
pub record IsTriple (line : List ℕ) (statement : Statement) : Type 0 where
  pub before : List ℕ
  pub subject : List ℕ
  pub between : List ℕ
  pub predicate : List ℕ
  pub behind : List ℕ
  pub object : List ℕ
  pub gap : List ℕ
  pub after : List ℕ
  pub spelled : line ≡ before ++ (subject ++ (between ++ (predicate ++ (behind ++ (object ++ (gap ++ 46 ∷ after))))))
  pub white_before : IsWhite before
  pub white_between : IsWhite between
  pub white_behind : IsWhite behind
  pub white_gap : IsWhite gap
  pub rest_is : IsEmptyRest after
  pub subject_is : IsToken subject statement.subject
  pub subject_kind : MayBeSubject statement.subject
  pub predicate_is : IsToken predicate statement.predicate
  pub predicate_kind : MayBePredicate statement.predicate
  pub object_is : IsToken object statement.object

-- the line has one of the two forms of the grammar, and brings nothing or a statement
abbrev pub Brings : List ℕ → Option Statement → Type 0
Brings line None = IsEmptyRest line
Brings line (Some statement) = IsTriple line statement

-- each line has one of the forms, and these are their statements, in order
abbrev pub AreLinesOf : List (List ℕ) → List Statement → Type 0
AreLinesOf [] statements = statements ≡ []
AreLinesOf (line ∷ lines) statements =
    (first : Option Statement) × (others : List Statement) × Brings line first × AreLinesOf lines others × (statements ≡ option_to_list first ++ others)

-- the bytes are a document of these statements, in order
abbrev pub IsDocument : List ℕ → List Statement → Type 0
IsDocument bytes statements = AreLinesOf (lines_of Any bytes) statements

-- ---- blank nodes

abbrev pub IsBlankNode : Term → Type 0
IsBlankNode (Iri iri) = ⊥
IsBlankNode (Literal form datatype) = ⊥
IsBlankNode (Tagged form tag) = ⊥
IsBlankNode (Blank at label) = Unit {0}

-- the line has a blank node
abbrev pub HasLabel : List ℕ → Type 0
HasLabel line = (statement : Statement) × IsTriple line statement × (IsBlankNode statement.subject ⊎ IsBlankNode statement.object)

-- none of the statement's terms is a blank node
abbrev pub HasNoBlankNode : Statement → Type 0
HasNoBlankNode statement = (IsBlankNode statement.subject → ⊥) × (IsBlankNode statement.object → ⊥)

-- the number of the first line that has a blank node, where the lines are numbered from this one
abbrev pub IsFirstLabel : List (List ℕ) → ℕ → Option ℕ → Type 0
IsFirstLabel [] number first = first ≡ None
IsFirstLabel (line ∷ lines) number first =
    (HasLabel line × (first ≡ Some number)) ⊎ ((HasLabel line → ⊥) × IsFirstLabel lines (number + 1) first)

-- a blank node of a document has no time yet
abbrev pub IsUntimed : Term → Type 0
IsUntimed (Iri iri) = Unit {0}
IsUntimed (Literal form datatype) = Unit {0}
IsUntimed (Tagged form tag) = Unit {0}
IsUntimed (Blank at label) = at ≡ 0

abbrev pub HasNoTimes : Statement → Type 0
HasNoTimes statement = IsUntimed statement.subject × IsUntimed statement.object
