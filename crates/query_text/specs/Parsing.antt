-- Private: how the code reads the grammar: what each token does in each phase. That this is the grammar stands in proofs/.
use Rattle.std.specs.Prelude.{◌≡◌, ℕ, Bool, true, false, ◌||◌, List, [], ◌∷◌, ◌++◌, map, Option, Some, None, nat_eq, ◌==◌, if◌then◌else◌, codes}
use Rattle.std.specs.Char.{to_ascii_uppercase}
use Rattle.std.specs.Borrow.{Bor}
use Rattle.std.specs.Ordering.{nat_cmp}
use Rattle.std.specs.BTreeSet.{BTreeSet, contains_by}
use Rattle.std.specs.Cmp.Lexicographic.{pointwise, slice_cmp}
use Rattle.query_text.specs.declared.kind.TokenKind.{TokenKind}
use Rattle.query_text.specs.declared.kind.TokenKind.TheVariants as kinds
use Rattle.query_text.specs.declared.token.Token.{Token as Found}
use Rattle.query_text.specs.declared.class.Class.{Class}
use Rattle.query_text.specs.declared.class.Class.TheVariants as classes
use Rattle.query_text.specs.declared.class.Declaration.{Declaration}
use Rattle.query_text.specs.declared.class.Declarations.{Declarations}
use Rattle.query_text.specs.declared.phase.Node.{Node}
use Rattle.query_text.specs.declared.phase.Node.TheVariants as nodes
use Rattle.query_text.specs.declared.phase.Triple.{Triple}
use Rattle.query_text.specs.declared.phase.Position.{Position}
use Rattle.query_text.specs.declared.phase.Position.TheVariants.{Subject, Object}
use Rattle.query_text.specs.declared.phase.Phase.{Phase}
use Rattle.query_text.specs.declared.phase.Phase.TheVariants as phases
use Rattle.query_text.specs.declared.phase.Said.{Said}
use Rattle.query_text.specs.declared.phase.Said.TheVariants as said
use Rattle.query_text.specs.declared.phase.Move.{Move}
use Rattle.query_text.specs.declared.parse.Parser.{Parser}
use Rattle.query_text.specs.declared.parse.Parsed.{Parsed}
use Rattle.query_text.specs.declared.parse.Parsed.TheVariants.{Refused, Read}
use Rattle.query_text.specs.Texts.{BeginsWith, BeginsWithNone}
use Rattle.query_text.specs.Reading.{token_of, AreCut}

-- ---- classes of tokens

-- a prefixed name before its first colon, and behind it
abbrev pub prefix_at : List ℕ → List ℕ
prefix_at [] = []
prefix_at (c ∷ cs) = if c == 58 then [] else c ∷ prefix_at cs

abbrev pub local_at : List ℕ → List ℕ
local_at [] = []
local_at (c ∷ cs) = if c == 58 then cs else local_at cs

abbrev pub same_characters : List ℕ → List ℕ → Bool
same_characters = pointwise nat_eq

abbrev pub is_declared : List Declaration → List ℕ → Bool
is_declared [] name = false
is_declared (d ∷ declarations) name = same_characters (prefix_at d.name.characters.now) name || is_declared declarations name

-- a prefix of these characters is in the set
abbrev pub has_prefix : BTreeSet (Bor (List ℕ)) → List ℕ → Bool
has_prefix prefixes name = contains_by (λ (other : Bor (List ℕ)). slice_cmp nat_cmp name other.now) prefixes

-- the set has the prefixes that are declared, and no other
abbrev pub KnowsPrefixes : Declarations → Type 0
KnowsPrefixes declarations = (name : List ℕ) → has_prefix declarations.prefixes name ≡ is_declared declarations.list.items name

abbrev pub is_empty : List ℕ → Bool
is_empty [] = true
is_empty (c ∷ cs) = false

abbrev pub name_class : List Declaration → List ℕ → Class
name_class declarations name = classes.PrefixName (is_empty (local_at name)) (is_declared declarations (prefix_at name))

abbrev pub is_keyword : List ℕ → List ℕ → Bool
is_keyword word keyword = pointwise nat_eq (map to_ascii_uppercase word) keyword

unfoldable pub is_a : List ℕ → Bool
is_a word = pointwise nat_eq word (codes "a")

unfoldable pub word_class : List ℕ → Class
word_class word =
    if is_a word then classes.A else (
    if is_keyword word (codes "PREFIX") then classes.PrefixWord else (
    if is_keyword word (codes "SELECT") then classes.SelectWord else (
    if is_keyword word (codes "WHERE") then classes.WhereWord else (
    if is_keyword word (codes "TRUE") || is_keyword word (codes "FALSE") then classes.Boolean else classes.Other))))

unfoldable pub lone_class : ℕ → Class
lone_class c =
    if c == 42 then classes.Star else (if c == 123 then classes.Opening else (if c == 125 then classes.Closing else (
    if c == 46 then classes.Dot else (if c == 44 then classes.Comma else (if c == 59 then classes.Semicolon else classes.Other)))))

abbrev pub symbol_class : List ℕ → Class
symbol_class [] = classes.Other
symbol_class (c ∷ []) = lone_class c
symbol_class (c ∷ d ∷ cs) = classes.Carets

abbrev pub class_by : List Declaration → TokenKind → List ℕ → Class
class_by declarations kinds.Iriref characters = classes.Iriref
class_by declarations kinds.Str characters = classes.Str
class_by declarations kinds.Langtag characters = classes.Langtag
class_by declarations kinds.Var characters = classes.Var
class_by declarations kinds.Label characters = classes.Label
class_by declarations kinds.PrefixName characters = name_class declarations characters
class_by declarations kinds.Integer characters = classes.Integer
class_by declarations kinds.Decimal characters = classes.Decimal
class_by declarations kinds.Double characters = classes.Other
class_by declarations kinds.Long characters = classes.Other
class_by declarations kinds.Word characters = word_class characters
class_by declarations kinds.Symbol characters = symbol_class characters

abbrev pub class_of : List Declaration → Found → Class
class_of declarations token = class_by declarations token.kind token.characters.now

-- ---- moves

abbrev pub move : Phase → Said → Option Move
move phase what = Some (record { phase = phase; said = what })

abbrev pub silent : Phase → Option Move
silent phase = move phase said.Nothing

abbrev pub prologue : Class → Option Move
prologue classes.PrefixWord = silent phases.Prefix
prologue classes.SelectWord = silent phases.Select
prologue _ = None

abbrev pub prefix_word : Class → Found → Option Move
prefix_word (classes.PrefixName true declared) token = silent (phases.PrefixName token)
prefix_word _ token = None

abbrev pub prefix_name : Found → Class → Found → Option Move
prefix_name name classes.Iriref token = move phases.Prologue (said.Declaration (record { name = name; iri = token }))
prefix_name name _ token = None

abbrev pub select : Class → Found → Option Move
select classes.Star token = move phases.Star said.AllColumns
select classes.Var token = move phases.Columns (said.Column token)
select _ token = None

abbrev pub star : Class → Option Move
star classes.WhereWord = silent phases.Where
star classes.Opening = silent phases.Triples
star _ = None

abbrev pub columns : Class → Found → Option Move
columns classes.Var token = move phases.Columns (said.Column token)
columns class token = star class

abbrev pub where_word : Class → Option Move
where_word classes.Opening = silent phases.Triples
where_word _ = None

abbrev pub is_iri : Class → Bool
is_iri classes.Iriref = true
is_iri (classes.PrefixName bare declared) = declared
is_iri _ = false

abbrev pub if_declared : Bool → Node → Option Node
if_declared true node = Some node
if_declared false node = None

abbrev pub node_of : Class → Found → Option Node
node_of classes.Var token = Some (nodes.Variable token)
node_of classes.Iriref token = Some (nodes.Iri token)
node_of (classes.PrefixName bare declared) token = if_declared declared (nodes.Iri token)
node_of classes.Label token = Some (nodes.Label token)
node_of classes.Integer token = Some (nodes.Integer token)
node_of classes.Decimal token = Some (nodes.Decimal token)
node_of classes.Boolean token = Some (nodes.Boolean token)
node_of _ token = None

abbrev pub verb_of : Class → Found → Option Node
verb_of classes.Var token = Some (nodes.Variable token)
verb_of classes.Iriref token = Some (nodes.Iri token)
verb_of (classes.PrefixName bare declared) token = if_declared declared (nodes.Iri token)
verb_of classes.A token = Some nodes.Type
verb_of _ token = None

abbrev pub whole_node : Position → Option Node → Option Move
whole_node position None = None
whole_node position (Some node) = silent (phases.Node position node)

abbrev pub first_of_node : Position → Class → Found → Option Move
first_of_node position classes.Str token = silent (phases.String position token)
first_of_node position class token = whole_node position (node_of class token)

abbrev pub triples : Class → Found → Option Move
triples classes.Closing token = silent phases.End
triples class token = first_of_node Subject class token

abbrev pub verb_read : Node → Option Node → Option Move
verb_read subject None = None
verb_read subject (Some verb) = silent (phases.Verb subject verb)

abbrev pub with_verb : Node → Class → Found → Option Move
with_verb subject class token = verb_read subject (verb_of class token)

abbrev pub after_separator : Triple → Class → Option Phase
after_separator t classes.Comma = Some (phases.Verb t.subject t.predicate)
after_separator t classes.Semicolon = Some (phases.Semicolon t.subject)
after_separator t classes.Dot = Some phases.Triples
after_separator t classes.Closing = Some phases.End
after_separator t _ = None

abbrev pub said_by : Triple → Option Phase → Option Move
said_by t None = None
said_by t (Some phase) = move phase (said.Triple t)

abbrev pub separated : Triple → Class → Option Move
separated t class = said_by t (after_separator t class)

abbrev pub behind_node : Position → Node → Class → Found → Option Move
behind_node Subject node class token = with_verb node class token
behind_node (Object subject verb) node class token = separated (record { subject = subject; predicate = verb; object = node }) class

abbrev pub behind_string : Position → Found → Class → Found → Option Move
behind_string position form classes.Langtag token = silent (phases.Node position (nodes.Tagged form token))
behind_string position form classes.Carets token = silent (phases.Carets position form)
behind_string position form class token = behind_node position (nodes.String form) class token

abbrev pub behind_carets : Position → Found → Class → Found → Option Move
behind_carets position form class token = if is_iri class then silent (phases.Node position (nodes.Typed form token)) else None

abbrev pub semicolon : Node → Class → Found → Option Move
semicolon subject classes.Semicolon token = silent (phases.Semicolon subject)
semicolon subject classes.Dot token = silent phases.Triples
semicolon subject classes.Closing token = silent phases.End
semicolon subject class token = with_verb subject class token

abbrev pub decide : Phase → Class → Found → Option Move
decide phases.Prologue class token = prologue class
decide phases.Prefix class token = prefix_word class token
decide (phases.PrefixName name) class token = prefix_name name class token
decide phases.Select class token = select class token
decide phases.Star class token = star class
decide phases.Columns class token = columns class token
decide phases.Where class token = where_word class
decide phases.Triples class token = triples class token
decide (phases.String position form) class token = behind_string position form class token
decide (phases.Carets position form) class token = behind_carets position form class token
decide (phases.Node position node) class token = behind_node position node class token
decide (phases.Verb subject verb) class token = first_of_node (Object subject verb) class token
decide (phases.Semicolon subject) class token = semicolon subject class token
decide phases.End class token = None

-- ---- reading all tokens

-- what has been read of a query
pub record State : Type 0 where
  pub phase : Phase
  pub declarations : List Declaration
  pub all : Bool
  pub columns : List Found
  pub triples : List Triple

abbrev pub start : State
start = record { phase = phases.Prologue; declarations = []; all = false; columns = []; triples = [] }

abbrev pub noted : State → Said → State
noted state said.Nothing = state
noted state (said.Declaration d) = record state { declarations = state.declarations ++ d ∷ [] }
noted state said.AllColumns = record state { all = true }
noted state (said.Column token) = record state { columns = state.columns ++ token ∷ [] }
noted state (said.Triple t) = record state { triples = state.triples ++ t ∷ [] }

abbrev pub applied : State → Option Move → Option State
applied state None = None
applied state (Some m) = Some (record (noted state m.said) { phase = m.phase })

abbrev pub step : State → Found → Option State
step state token = applied state (decide state.phase (class_of state.declarations token) token)

abbrev pub run : Option State → List Found → Option State
run None tokens = None
run (Some state) [] = Some state
run (Some state) (token ∷ tokens) = run (step state token) tokens

abbrev pub seen : Parser → State
seen parser = record {
  phase = parser.phase;
  declarations = parser.declarations.list.items;
  all = parser.all;
  columns = parser.columns.items;
  triples = parser.triples.items;
}

abbrev pub IsStep : State → Found → Bool → State → Type 0
IsStep state token true next = step state token ≡ Some next
IsStep state token false next = step state token ≡ None

-- the token stands in the text behind others that are read, and is not
pub record IsStopped (text : List ℕ) (token : Found) : Type 0 where
  pub front : List Found
  pub here : List ℕ
  pub state : State
  pub cut : AreCut text front here
  pub begins : BeginsWith here (token_of token) token.behind.now
  pub read : run (Some start) front ≡ Some state
  pub stopped : step state token ≡ None

-- all tokens of the text are read, and this is left
pub record IsRead (text : List ℕ) (state : State) (rest : List ℕ) : Type 0 where
  pub found : List Found
  pub cut : AreCut text found rest
  pub none : BeginsWithNone rest
  pub read : run (Some start) found ≡ Some state

abbrev pub IsParsed : List ℕ → Parsed → Type 0
IsParsed text (Refused token) = IsStopped text token
IsParsed text (Read parser rest) = IsRead text (seen parser) rest.now
