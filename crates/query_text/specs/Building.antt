-- Private: how the code makes a query of what it has read: the texts of tokens, and places given to names as they come. That this is the query of
-- specs/Meaning.antt stands in proofs/.
use Rattle.std.specs.Prelude.{◌≡◌, ℕ, suc, ◌+◌, ◌*◌, Bool, true, false, ◌&&◌, ◌||◌, List, [], ◌∷◌, ◌++◌, length, map, drop, Option, Some, None, option_map, ◌==◌, nat_eq, nat_le, nat_lt, if◌then◌else◌}
use Rattle.std.specs.Char.{encode_utf8, to_ascii_lowercase, digit_value, is_ascii_hexdigit}
use Rattle.std.specs.Str.{encode_utf8_all}
use Rattle.std.specs.List.{range_with_len}
use Rattle.std.specs.Ordering.{nat_cmp}
use Rattle.std.specs.Cmp.Lexicographic.{pointwise, slice_cmp}
use Rattle.std.specs.BTreeMap.{BTreeMap, get}
use Rattle.term_core.specs.declared.term.Term.TheVariants as terms
use Rattle.nt_text.specs.Escapes.{escaped}
use Rattle.nt_text.specs.Cell.{xsd_string}
use Rattle.bgp_model.specs.declared.query.Slot.{Slot}
use Rattle.bgp_model.specs.declared.query.Pattern.{Pattern}
use Rattle.query_text.specs.declared.kind.TokenKind.{TokenKind}
use Rattle.query_text.specs.declared.kind.TokenKind.TheVariants as kinds
use Rattle.query_text.specs.declared.token.Token.{Token as Found}
use Rattle.query_text.specs.declared.class.Declaration.{Declaration as Declared}
use Rattle.query_text.specs.declared.phase.Node.{Node as Raw}
use Rattle.query_text.specs.declared.phase.Node.TheVariants as nodes
use Rattle.query_text.specs.declared.phase.Triple.{Triple as RawTriple}
use Rattle.query_text.specs.declared.text_scan.Enclosure.{Enclosure}
use Rattle.query_text.specs.declared.text_scan.Enclosure.TheVariants.{Brackets, Quotes, Apostrophes}
use Rattle.query_text.specs.declared.text_scan.TextScan.{TextScan}
use Rattle.query_text.specs.declared.text_scan.TextScan.TheVariants as texts
use Rattle.query_text.specs.declared.naming.Scope.{Scope}
use Rattle.query_text.specs.declared.value.Value.{Value}
use Rattle.query_text.specs.declared.value.Value.TheVariants as values
use Rattle.query_text.specs.Scanning.{closing, text_advance, is_named_in}
use Rattle.query_text.specs.Grammar.{Node, Variable, Label, Constant, Triple, triple, Columns, All, These, Written, iri_node, literal_node, xsd_integer, xsd_decimal, xsd_boolean, rdf_type}
use Rattle.query_text.specs.Meaning.{slot_of, pattern_of, columns_of}
use Rattle.query_text.specs.Parsing.{State, prefix_at, local_at, same_characters}

-- ---- texts of tokens

abbrev pub name_text : List ℕ → List ℕ
name_text characters = encode_utf8_all (drop 1 characters)

abbrev pub label_text : List ℕ → List ℕ
label_text characters = encode_utf8_all (drop 2 characters)

abbrev pub lower_text : List ℕ → List ℕ
lower_text characters = encode_utf8_all (map to_ascii_lowercase characters)

-- the character of this number, where a UCHAR may name it
abbrev pub named_character : Enclosure → ℕ → Option ℕ
named_character enclosure number = if is_named_in enclosure number then Some number else None

abbrev pub character_read : Enclosure → ℕ → ℕ → Option ℕ
character_read enclosure value c = if nat_le value 0x10FFFF && is_ascii_hexdigit c then named_character enclosure (value * 16 + digit_value c) else None

-- the character that a text gains by one more that is read
abbrev pub gain : TextScan → ℕ → Option ℕ
gain (texts.Inside enclosure) c = if c == closing enclosure || c == 92 then None else Some c
gain (texts.Escape enclosure) c = if c == 117 || c == 85 then None else Some (escaped c)
gain (texts.Digits enclosure left value) c = if nat_lt 1 left then None else character_read enclosure value c
gain (texts.Opened enclosure) c = None
gain (texts.Empty enclosure) c = None
gain (texts.Closed enclosure) c = None
gain texts.Long c = None

abbrev pub encoded : Option ℕ → List ℕ
encoded None = []
encoded (Some c) = encode_utf8 c

abbrev pub gains : Option TextScan → ℕ → List ℕ
gains None c = []
gains (Some scan) c = encoded (gain scan c)

abbrev pub next : Option TextScan → ℕ → Option TextScan
next None c = None
next (Some scan) c = text_advance scan c

-- what characters behind a scan mean
abbrev pub text_read : Option TextScan → List ℕ → List ℕ
text_read scan [] = []
text_read scan (c ∷ cs) = gains scan c ++ text_read (next scan c) cs

-- what stands between the first character and the last, with its escapes
abbrev pub inner_text : Enclosure → List ℕ → List ℕ
inner_text enclosure characters = text_read (Some (texts.Inside enclosure)) (drop 1 characters)

-- what a string stands between
abbrev pub quote_of : List ℕ → Enclosure
quote_of [] = Quotes
quote_of (c ∷ cs) = if c == 39 then Apostrophes else Quotes

abbrev pub string_text : List ℕ → List ℕ
string_text characters = inner_text (quote_of characters) characters

-- ---- IRIs and nodes

abbrev pub or_found : Option Found → Option Found → Option Found
or_found None other = other
or_found (Some found) other = Some found

-- the declaration is one of this prefix
abbrev pub declares : Declared → List ℕ → Bool
declares d name = same_characters (prefix_at d.name.characters.now) name

-- the IRI of the newest declaration of the prefix
abbrev pub newest : List Declared → List ℕ → Option Found
newest [] name = None
newest (d ∷ ds) name = or_found (newest ds name) (if declares d name then Some d.iri else None)

abbrev pub base_text : Option Found → List ℕ
base_text None = []
base_text (Some iri) = inner_text Brackets iri.characters.now

abbrev pub iri_by : List Declared → TokenKind → List ℕ → List ℕ
iri_by ds kinds.PrefixName characters = base_text (newest ds (prefix_at characters)) ++ encode_utf8_all (local_at characters)
iri_by ds _ characters = inner_text Brackets characters

abbrev pub iri_text : List Declared → Found → List ℕ
iri_text ds token = iri_by ds token.kind token.characters.now

abbrev pub tagged_node : List ℕ → List ℕ → Node
tagged_node form tag = Constant (terms.Tagged form tag)

abbrev pub node_said : List Declared → Raw → Node
node_said ds (nodes.Variable t) = Variable (name_text t.characters.now)
node_said ds (nodes.Iri t) = iri_node (iri_text ds t)
node_said ds (nodes.Label t) = Label (label_text t.characters.now)
node_said ds (nodes.Integer t) = literal_node (encode_utf8_all t.characters.now) xsd_integer
node_said ds (nodes.Decimal t) = literal_node (encode_utf8_all t.characters.now) xsd_decimal
node_said ds (nodes.Boolean t) = literal_node (lower_text t.characters.now) xsd_boolean
node_said ds nodes.Type = iri_node rdf_type
node_said ds (nodes.String t) = literal_node (string_text t.characters.now) xsd_string
node_said ds (nodes.Tagged t m) = tagged_node (string_text t.characters.now) (lower_text (drop 1 m.characters.now))
node_said ds (nodes.Typed t d) = literal_node (string_text t.characters.now) (iri_text ds d)

abbrev pub triple_said : List Declared → RawTriple → Triple
triple_said ds t = triple (node_said ds t.subject) (node_said ds t.predicate) (node_said ds t.object)

abbrev pub names_said : List Found → List (List ℕ)
names_said tokens = map (λ (t : Found). name_text t.characters.now) tokens

abbrev pub columns_said : Bool → List Found → Columns
columns_said true tokens = All
columns_said false tokens = These (names_said tokens)

-- the query as it is written, by the texts of the tokens that were read
abbrev pub written_said : State → Written
written_said state = record { columns = columns_said state.all state.columns; triples = map (triple_said state.declarations) state.triples }

-- the node that a value is
abbrev pub node_in : Value → Node
node_in (values.Variable name) = Variable name
node_in (values.Label label) = Label label
node_in (values.Constant term) = Constant term

-- ---- names

-- the place of a name among names, if it is one of them
abbrev pub known_place : List (List ℕ) → List ℕ → Option ℕ
known_place [] name = None
known_place (other ∷ names) name = if pointwise nat_eq other name then Some 0 else option_map suc (known_place names name)

abbrev pub behind_known : Option ℕ → List (List ℕ) → List ℕ → List (List ℕ)
behind_known None names name = names ++ name ∷ []
behind_known (Some place) names name = names

-- the names, and behind them this one where it is new
abbrev pub with_name : List (List ℕ) → List ℕ → List (List ℕ)
with_name names name = behind_known (known_place names name) names name

abbrev pub with_names : List (List ℕ) → List (List ℕ) → List (List ℕ)
with_names names [] = names
with_names names (name ∷ more) = with_names (with_name names name) more

-- the map has the place of each of the names, and of no other
abbrev pub KnowsNames : List (List ℕ) → BTreeMap (List ℕ) ℕ → Type 0
KnowsNames names places = (name : List ℕ) → get (slice_cmp nat_cmp) places name ≡ known_place names name

abbrev pub Stand : Scope → Type 0
Stand scope = KnowsNames scope.variables.list.items scope.variables.places × KnowsNames scope.labels.list.items scope.labels.places

-- the slot is the node's, whatever names follow
abbrev pub IsSlot : List (List ℕ) → List (List ℕ) → Node → Slot → Type 0
IsSlot names labels node slot = (more others : List (List ℕ)) → slot ≡ slot_of (names ++ more) (labels ++ others) node

abbrev pub IsPattern : List (List ℕ) → List (List ℕ) → Triple → Pattern → Type 0
IsPattern names labels t pattern = (more others : List (List ℕ)) → pattern ≡ pattern_of (names ++ more) (labels ++ others) t

abbrev pub ArePatterns : List (List ℕ) → List (List ℕ) → List Triple → List Pattern → Type 0
ArePatterns names labels triples patterns = (more others : List (List ℕ)) → patterns ≡ map (pattern_of (names ++ more) (labels ++ others)) triples

-- what the positions of a triple have
abbrev pub of_triple : (Node → List (List ℕ)) → Triple → List (List ℕ)
of_triple from t = from t.subject ++ (from t.predicate ++ from t.object)

-- the columns that were chosen, or all of so many
abbrev pub chosen_or_all : Option (List ℕ) → ℕ → List ℕ
chosen_or_all None count = range_with_len 0 count
chosen_or_all (Some columns) count = columns

-- the columns, whatever names follow
abbrev pub AreChosen : List (List ℕ) → Columns → Option (List ℕ) → Type 0
AreChosen names columns chosen = (more : List (List ℕ)) → chosen_or_all chosen (length (names ++ more)) ≡ columns_of (names ++ more) columns
