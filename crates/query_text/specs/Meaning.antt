-- The query that a text says: variables and labels are numbered by first appearance.
use Rattle.std.specs.Prelude.{◌≡◌, ℕ, ◌+◌, not, List, [], ◌∷◌, ◌++◌, length, map, nat_eq, if◌then◌else◌, filter}
use Rattle.std.specs.List.{flat_map, range_with_len}
use Rattle.std.specs.Cmp.Lexicographic.{pointwise}
use Rattle.bgp_model.specs.declared.query.Slot.{Slot}
use Rattle.bgp_model.specs.declared.query.Slot.TheVariants as slots
use Rattle.bgp_model.specs.declared.query.Pattern.{Pattern}
use Rattle.bgp_model.specs.declared.query.Query.{Query}
use Rattle.term_core.specs.Term.{IsTerm}
use Rattle.query_text.specs.Tokens.{Token}
use Rattle.query_text.specs.Texts.{AreAllTokens}
use Rattle.query_text.specs.Grammar.{Node, Variable, Label, Constant, Triple, Columns, All, These, Written, IsQuery}

abbrev pub variables_of_node : Node → List (List ℕ)
variables_of_node (Variable name) = name ∷ []
variables_of_node (Label label) = []
variables_of_node (Constant term) = []

abbrev pub labels_of_node : Node → List (List ℕ)
labels_of_node (Variable name) = []
labels_of_node (Label label) = label ∷ []
labels_of_node (Constant term) = []

-- what each position of the triples has, in the order of the text
abbrev pub from_triples : (Node → List (List ℕ)) → List Triple → List (List ℕ)
from_triples from triples = flat_map (λ t. from t.subject ++ (from t.predicate ++ from t.object)) triples

abbrev pub selected : Columns → List (List ℕ)
selected All = []
selected (These names) = names

-- the names, each where it first stands
abbrev pub by_first_appearance : List (List ℕ) → List (List ℕ)
by_first_appearance [] = []
by_first_appearance (name ∷ names) = name ∷ filter (λ other. not (pointwise nat_eq other name)) (by_first_appearance names)

-- the place of a name among names, or their number where it is none of them
abbrev pub place_of : List (List ℕ) → List ℕ → ℕ
place_of [] name = 0
place_of (other ∷ names) name = if pointwise nat_eq other name then 0 else place_of names name + 1

-- the variables of the whole text, and the labels
abbrev pub names_of : Written → List (List ℕ)
names_of query = by_first_appearance (selected query.columns ++ from_triples variables_of_node query.triples)

abbrev pub labels_of : Written → List (List ℕ)
labels_of query = by_first_appearance (from_triples labels_of_node query.triples)

abbrev pub slot_of : List (List ℕ) → List (List ℕ) → Node → Slot
slot_of names labels (Variable name) = slots.Var (place_of names name)
slot_of names labels (Label label) = slots.Label (place_of labels label)
slot_of names labels (Constant term) = slots.Fixed term

abbrev pub pattern_of : List (List ℕ) → List (List ℕ) → Triple → Pattern
pattern_of names labels t = record {
  subject = slot_of names labels t.subject;
  predicate = slot_of names labels t.predicate;
  object = slot_of names labels t.object;
}

-- the selected variables as often as they are written; * stands for all variables of the triples, which then are all names
abbrev pub columns_of : List (List ℕ) → Columns → List ℕ
columns_of names All = range_with_len 0 (length names)
columns_of names (These selected) = map (place_of names) selected

abbrev pub query_of : Written → Query
query_of query = let names = names_of query in let labels = labels_of query in record {
  names = names;
  labels = length labels;
  patterns = map (pattern_of names labels) query.triples;
  columns = columns_of names query.columns;
}

-- the text is this query as it is written
abbrev pub IsText : List ℕ → Written → Type 0
IsText bytes written = (tokens : List Token) × AreAllTokens bytes tokens × IsQuery tokens written

-- the text says this query
abbrev pub ReadsQuery : List ℕ → Query → Type 0
ReadsQuery bytes query = (written : Written) × IsText bytes written × (query ≡ query_of written)

-- the terms of a pattern keep the rules on their characters
abbrev pub IsTermOrOpen : Slot → Type 0
IsTermOrOpen (slots.Fixed term) = IsTerm term
IsTermOrOpen (slots.Var name) = Unit {0}
IsTermOrOpen (slots.Label label) = Unit {0}

abbrev pub HasTerms : Pattern → Type 0
HasTerms pattern = IsTermOrOpen pattern.subject × IsTermOrOpen pattern.predicate × IsTermOrOpen pattern.object
