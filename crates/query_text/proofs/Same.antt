-- What was read says one thing.
use Rattle.std.proofs.Common.{◌≡◌, ℕ, List, [], ◌∷◌, ◌++◌, Some, refl, sym, ap, ◌∙◌, inl, inr}
use Rattle.term_core.specs.declared.term.Term.TheVariants as terms
use Rattle.nt_text.specs.Cell.{xsd_string}
use Rattle.query_text.specs.declared.kind.TokenKind.{TokenKind}
use Rattle.query_text.specs.declared.kind.TokenKind.TheVariants as kinds
use Rattle.query_text.specs.declared.class.Declaration.{Declaration as Declared}
use Rattle.query_text.specs.declared.phase.Node.{Node as Raw}
use Rattle.query_text.specs.declared.phase.Node.TheVariants as nodes
use Rattle.query_text.specs.Tokens.{Token}
use Rattle.query_text.specs.Grammar.{Declaration, Node, Variable, Label, Constant, NamesIri, iri_for, iri_node, literal_node, IsResolved}
use Rattle.query_text.specs.Reading.{token_of}
use Rattle.query_text.specs.Saying.{AreDeclared, NodeIs}
use Rattle.query_text.proofs.Values.{iriref_same, string_same, variable_same, label_same, langtag_same, prefix_same}

apart : (kind : TokenKind) → kind ≡ kinds.Iriref → kind ≡ kinds.PrefixName → ⊥
apart kind a b = let wrong : kinds.Iriref ≡ kinds.PrefixName = sym a ∙ b in cc

some_same : {a b : List ℕ} → Some a ≡ Some b → a ≡ b
some_same e = cc

resolved_same : (ds : List Declaration) (token : Token) (one other : List ℕ) → IsResolved ds token one → IsResolved ds token other → one ≡ other
resolved_same ds token one other a b =
    let both = prefix_same token.characters a.«prefix» a.local b.«prefix» b.local a.name_is.is b.name_is.is in
    let base : a.base ≡ b.base = some_same (sym a.declared ∙ ap (iri_for ds) both.0 ∙ b.declared) in
    a.iri_is ∙ ap (λ (x : List ℕ). x ++ a.local) base ∙ ap (λ (x : List ℕ). b.base ++ x) both.1 ∙ sym b.iri_is

pub iri_same : (ds : List Declaration) (token : Token) (one other : List ℕ) → NamesIri ds token one → NamesIri ds token other → one ≡ other
iri_same ds token one other (inl a) (inl b) = iriref_same token.characters one other a.is b.is
iri_same ds token one other (inr a) (inr b) = resolved_same ds token one other a b
iri_same ds token one other (inl a) (inr b) = absurd (apart token.kind a.kind b.name_is.kind)
iri_same ds token one other (inr a) (inl b) = absurd (apart token.kind b.kind a.name_is.kind)

abbrev tagged_node : List ℕ → List ℕ → Node
tagged_node form tag = Constant (terms.Tagged form tag)

pub node_same : (ds : List Declaration) (raw : Raw) (one other : Node) → NodeIs ds raw one → NodeIs ds raw other → one ≡ other
node_same ds (nodes.Variable t) one other (n, a, e) (m, b, f) = e ∙ ap Variable (variable_same t.characters.now n m a.is b.is) ∙ sym f
node_same ds (nodes.Iri t) one other (n, a, e) (m, b, f) = e ∙ ap iri_node (iri_same ds (token_of t) n m a b) ∙ sym f
node_same ds (nodes.Label t) one other (n, a, e) (m, b, f) = e ∙ ap Label (label_same t.characters.now n m a.is b.is) ∙ sym f
node_same ds (nodes.Integer t) one other a b = a.1 ∙ sym b.1
node_same ds (nodes.Decimal t) one other a b = a.1 ∙ sym b.1
node_same ds (nodes.Boolean t) one other a b = a.1 ∙ sym b.1
node_same ds nodes.Type one other a b = a ∙ sym b
node_same ds (nodes.String t) one other (n, a, e) (m, b, f) =
    e ∙ ap (λ (x : List ℕ). literal_node x xsd_string) (string_same t.characters.now n m a.is b.is) ∙ sym f
node_same ds (nodes.Tagged t d) one other (n, g, a, c, e) (m, h, b, d2, f) =
    e ∙ ap (λ (x : List ℕ). tagged_node x g) (string_same t.characters.now n m a.is b.is)
    ∙ ap (λ (x : List ℕ). tagged_node m x) (langtag_same d.characters.now g h c.is d2.is) ∙ sym f
node_same ds (nodes.Typed t d) one other (n, g, a, c, e) (m, h, b, d2, f) =
    e ∙ ap (λ (x : List ℕ). literal_node x g) (string_same t.characters.now n m a.is b.is)
    ∙ ap (λ (x : List ℕ). literal_node m x) (iri_same ds (token_of d) g h c d2) ∙ sym f

declaration_same : (one other : Declaration) → one.«prefix» ≡ other.«prefix» → one.iri ≡ other.iri → one ≡ other
declaration_same one other e f =
    ap (λ (x : List ℕ). make x one.iri) e ∙ ap (λ (x : List ℕ). make other.«prefix» x) f
  where
    make : List ℕ → List ℕ → Declaration
    make name iri = record { «prefix» = name; iri = iri }

pub declared_same : (rs : List Declared) (one other : List Declaration) → AreDeclared rs one → AreDeclared rs other → one ≡ other
declared_same [] [] [] a b = refl
declared_same [] [] (o ∷ os) a b = absurd b
declared_same [] (d ∷ ds) os a b = absurd a
declared_same (r ∷ rs) [] os a b = absurd a
declared_same (r ∷ rs) (d ∷ ds) [] a b = absurd b
declared_same (r ∷ rs) (d ∷ ds) (o ∷ os) a b =
    let name = (prefix_same r.name.characters.now d.«prefix» [] o.«prefix» [] a.0.is b.0.is).0 in
    let iri = iriref_same r.iri.characters.now d.iri o.iri a.1.is b.1.is in
    ap (λ (x : Declaration). x ∷ ds) (declaration_same d o name iri) ∙ ap (λ (x : List Declaration). o ∷ x) (declared_same rs ds os a.2 b.2)
