-- Private: what the code has read, as found tokens, says the query that the grammar speaks of.
use Rattle.std.specs.Prelude.{◌≡◌, Bool, true, false, List, [], ◌∷◌, map, ◌⊎◌, ℕ, codes}
use Rattle.std.specs.Char.{to_ascii_lowercase}
use Rattle.term_core.specs.declared.term.Term.TheVariants as terms
use Rattle.nt_text.specs.Cell.{xsd_string}
use Rattle.query_text.specs.declared.token.Token.{Token as Found}
use Rattle.query_text.specs.declared.class.Declaration.{Declaration as Declared}
use Rattle.query_text.specs.declared.phase.Node.{Node as Raw}
use Rattle.query_text.specs.declared.phase.Node.TheVariants as nodes
use Rattle.query_text.specs.declared.phase.Triple.{Triple as RawTriple}
use Rattle.query_text.specs.Grammar.{Declaration, Node, Variable, Label, Constant, Triple, Columns, All, These, Written, IsWord, IsVar, IsIrirefToken, IsPrefixedNameToken, IsLabelToken, IsStringToken, IsLangtagToken, IsIntegerToken, IsDecimalToken, NamesIri, iri_node, literal_node, xsd_integer, xsd_decimal, xsd_boolean, rdf_type}
use Rattle.query_text.specs.Reading.{token_of}
use Rattle.query_text.specs.Parsing.{State}

-- the declarations that were read are these
abbrev pub AreDeclared : List Declared → List Declaration → Type 0
AreDeclared [] [] = Unit {0}
AreDeclared [] (d ∷ ds) = ⊥
AreDeclared (r ∷ rs) [] = ⊥
AreDeclared (r ∷ rs) (d ∷ ds) = IsPrefixedNameToken (token_of r.name) d.«prefix» [] × IsIrirefToken (token_of r.iri) d.iri × AreDeclared rs ds

-- the columns that were read
abbrev pub AreNames : List Found → List (List ℕ) → Type 0
AreNames [] [] = Unit {0}
AreNames [] (n ∷ ns) = ⊥
AreNames (t ∷ ts) [] = ⊥
AreNames (t ∷ ts) (n ∷ ns) = IsVar (token_of t) n × AreNames ts ns

abbrev pub ColumnsAre : Bool → List Found → Columns → Type 0
ColumnsAre true ts columns = columns ≡ All
ColumnsAre false ts columns = (names : List (List ℕ)) × AreNames ts names × (columns ≡ These names)

-- the node that was read
abbrev pub NodeIs : List Declaration → Raw → Node → Type 0
NodeIs ds (nodes.Variable t) node = (name : List ℕ) × IsVar (token_of t) name × (node ≡ Variable name)
NodeIs ds (nodes.Iri t) node = (iri : List ℕ) × NamesIri ds (token_of t) iri × (node ≡ iri_node iri)
NodeIs ds (nodes.Label t) node = (label : List ℕ) × IsLabelToken (token_of t) label × (node ≡ Label label)
NodeIs ds (nodes.Integer t) node = IsIntegerToken (token_of t) × (node ≡ literal_node t.characters.now xsd_integer)
NodeIs ds (nodes.Decimal t) node = IsDecimalToken (token_of t) × (node ≡ literal_node t.characters.now xsd_decimal)
NodeIs ds (nodes.Boolean t) node =
    (IsWord (codes "TRUE") (token_of t) ⊎ IsWord (codes "FALSE") (token_of t)) × (node ≡ literal_node (map to_ascii_lowercase t.characters.now) xsd_boolean)
NodeIs ds nodes.Type node = node ≡ iri_node rdf_type
NodeIs ds (nodes.String t) node = (form : List ℕ) × IsStringToken (token_of t) form × (node ≡ literal_node form xsd_string)
NodeIs ds (nodes.Tagged t m) node =
    (form tag : List ℕ) × IsStringToken (token_of t) form × IsLangtagToken (token_of m) tag × (node ≡ Constant (terms.Tagged form tag))
NodeIs ds (nodes.Typed t d) node = (form iri : List ℕ) × IsStringToken (token_of t) form × NamesIri ds (token_of d) iri × (node ≡ literal_node form iri)

-- the triples that were read
abbrev pub AreTriplesOf : List Declaration → List RawTriple → List Triple → Type 0
AreTriplesOf ds [] [] = Unit {0}
AreTriplesOf ds [] (t ∷ ts) = ⊥
AreTriplesOf ds (r ∷ rs) [] = ⊥
AreTriplesOf ds (r ∷ rs) (t ∷ ts) = NodeIs ds r.subject t.subject × NodeIs ds r.predicate t.predicate × NodeIs ds r.object t.object × AreTriplesOf ds rs ts

-- what has been read is this query as it is written
pub record Says (state : State) (written : Written) : Type 0 where
  pub declarations : List Declaration
  pub declared : AreDeclared state.declarations declarations
  pub columns : ColumnsAre state.all state.columns written.columns
  pub triples : AreTriplesOf declarations state.triples written.triples
