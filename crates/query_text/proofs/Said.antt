-- What was read is written in one way, by the texts of its tokens.
use Rattle.std.proofs.Common.{◌≡◌, ℕ, Bool, true, false, cond, List, [], ◌∷◌, ◌++◌, map, Option, Some, None, refl, sym, ap, ◌∙◌, inl, inr, nat_eq}
use Rattle.std.specs.Prelude.{codes}
use Rattle.std.specs.Str.{encode_utf8_all}
use Rattle.std.specs.Cmp.Lexicographic.{pointwise}
use Rattle.nt_text.specs.Cell.{xsd_string}
use Rattle.query_text.specs.declared.kind.TokenKind.{TokenKind}
use Rattle.query_text.specs.declared.token.Token.{Token as Found}
use Rattle.query_text.specs.declared.class.Declaration.{Declaration as Declared}
use Rattle.query_text.specs.declared.phase.Node.{Node as Raw}
use Rattle.query_text.specs.declared.phase.Node.TheVariants as nodes
use Rattle.query_text.specs.declared.phase.Triple.{Triple as RawTriple}
use Rattle.query_text.specs.declared.text_scan.Enclosure.TheVariants.{Brackets}
use Rattle.query_text.specs.Grammar.{Declaration, Node, Variable, Label, Triple, triple, Columns, These, Written, NamesIri, iri_for, or_else, iri_node, literal_node, xsd_integer, xsd_decimal, xsd_boolean}
use Rattle.query_text.specs.Reading.{token_of}
use Rattle.query_text.specs.Parsing.{State, prefix_at, local_at}
use Rattle.query_text.specs.Saying.{AreDeclared, AreNames, ColumnsAre, NodeIs, AreTriplesOf, Says}
use Rattle.query_text.specs.Building.{name_text, inner_text, string_text, newest, or_found, declares, base_text, iri_by, iri_text, tagged_node, node_said, triple_said, names_said, columns_said, written_said}
use Rattle.query_text.proofs.Prefixes.{prefix_is, local_is}
use Rattle.query_text.proofs.TokenTexts.{variable_is, label_is, langtag_is, ascii_encoded, integer_ascii, decimal_ascii, word_lower, inner_is, string_is}

-- ---- IRIs

-- the newest declaration that was read is the newest that there is
abbrev base_of : Option Found → Option (List ℕ)
base_of None = None
base_of (Some iri) = Some (inner_text Brackets iri.characters.now)

newest_is : (rs : List Declared) (ds : List Declaration) (name : List ℕ) → AreDeclared rs ds → iri_for ds name ≡ base_of (newest rs name)
newest_is [] [] name h = refl
newest_is [] (d ∷ ds) name h = absurd h
newest_is (r ∷ rs) [] name h = absurd h
newest_is (r ∷ rs) (d ∷ ds) name h =
    ap (λ (o : Option (List ℕ)). or_else o (cond (pointwise nat_eq d.«prefix» name) (Some d.iri) None)) (newest_is rs ds name h.2)
    ∙ ap (λ (b : Bool). or_else (base_of (newest rs name)) (cond b (Some d.iri) None)) same
    ∙ ap (λ (i : List ℕ). or_else (base_of (newest rs name)) (cond (declares r name) (Some i) None)) (inner_is Brackets r.iri.characters.now d.iri h.1.is)
    ∙ by (newest rs name) (declares r name)
  where
    same : pointwise nat_eq d.«prefix» name ≡ declares r name
    same = ap (λ (x : List ℕ). pointwise nat_eq x name) (sym (prefix_is r.name.characters.now d.«prefix» [] h.0.is))

    by : (found : Option Found) (b : Bool)
        → or_else (base_of found) (cond b (Some (inner_text Brackets r.iri.characters.now)) None) ≡ base_of (or_found found (cond b (Some r.iri) None))
    by None true = refl
    by None false = refl
    by (Some f) b = refl

no_some : {base : List ℕ} → None ≡ Some base → ⊥
no_some e = cc

some_same : {one other : List ℕ} → Some one ≡ Some other → one ≡ other
some_same e = cc

based : (found : Option Found) (base : List ℕ) → base_of found ≡ Some base → base ≡ base_text found
based None base e = absurd (no_some e)
based (Some f) base e = sym (some_same e)

iri_is : (rs : List Declared) (ds : List Declaration) (t : Found) (iri : List ℕ) → AreDeclared rs ds → NamesIri ds (token_of t) iri → iri ≡ iri_text rs t
iri_is rs ds t iri h (inl i) = inner_is Brackets t.characters.now iri i.is ∙ ap (λ (k : TokenKind). iri_by rs k t.characters.now) (sym i.kind)
iri_is rs ds t iri h (inr r) =
    let cs = t.characters.now in
    let name : prefix_at cs ≡ r.«prefix» = prefix_is cs r.«prefix» r.local r.name_is.is in
    let found : base_of (newest rs (prefix_at cs)) ≡ Some r.base =
    ap (λ (x : List ℕ). base_of (newest rs x)) name ∙ sym (newest_is rs ds r.«prefix» h) ∙ r.declared in
    let local : r.local ≡ encode_utf8_all (local_at cs) = r.name_is.is.local_is ∙ ap encode_utf8_all (sym (local_is cs r.«prefix» r.local r.name_is.is)) in
    r.iri_is ∙ ap (λ (x : List ℕ). x ++ r.local) (based (newest rs (prefix_at cs)) r.base found)
    ∙ ap (λ (x : List ℕ). base_text (newest rs (prefix_at cs)) ++ x) local
    ∙ ap (λ (k : TokenKind). iri_by rs k cs) (sym r.name_is.kind)

-- ---- nodes

node_is : (rs : List Declared) (ds : List Declaration) (raw : Raw) (node : Node) → AreDeclared rs ds → NodeIs ds raw node → node ≡ node_said rs raw
node_is rs ds (nodes.Variable t) node h (name, is, e) = e ∙ ap Variable (variable_is t.characters.now name is.is)
node_is rs ds (nodes.Iri t) node h (iri, is, e) = e ∙ ap iri_node (iri_is rs ds t iri h is)
node_is rs ds (nodes.Label t) node h (label, is, e) = e ∙ ap Label (label_is t.characters.now label is.is)
node_is rs ds (nodes.Integer t) node h (is, e) = e ∙ ap (λ (x : List ℕ). literal_node x xsd_integer) (sym (ascii_encoded t.characters.now (integer_ascii t.characters.now is.is)))
node_is rs ds (nodes.Decimal t) node h (is, e) = e ∙ ap (λ (x : List ℕ). literal_node x xsd_decimal) (sym (ascii_encoded t.characters.now (decimal_ascii t.characters.now is.is)))
node_is rs ds (nodes.Boolean t) node h (inl is, e) = e ∙ ap (λ (x : List ℕ). literal_node x xsd_boolean) (word_lower (codes "TRUE") t.characters.now refl is.letters)
node_is rs ds (nodes.Boolean t) node h (inr is, e) = e ∙ ap (λ (x : List ℕ). literal_node x xsd_boolean) (word_lower (codes "FALSE") t.characters.now refl is.letters)
node_is rs ds nodes.Type node h e = e
node_is rs ds (nodes.String t) node h (form, is, e) = e ∙ ap (λ (x : List ℕ). literal_node x xsd_string) (string_is t.characters.now form is.is)
node_is rs ds (nodes.Tagged t m) node h (form, tag, is, mark, e) =
    e ∙ ap (λ (x : List ℕ). tagged_node x tag) (string_is t.characters.now form is.is)
    ∙ ap (λ (x : List ℕ). tagged_node (string_text t.characters.now) x) (langtag_is m.characters.now tag mark.is)
node_is rs ds (nodes.Typed t d) node h (form, iri, is, names, e) =
    e ∙ ap (λ (x : List ℕ). literal_node x iri) (string_is t.characters.now form is.is)
    ∙ ap (λ (x : List ℕ). literal_node (string_text t.characters.now) x) (iri_is rs ds d iri h names)

triples_are : (rs : List Declared) (ds : List Declaration) (raw : List RawTriple) (ts : List Triple) → AreDeclared rs ds → AreTriplesOf ds raw ts → ts ≡ map (triple_said rs) raw
triples_are rs ds [] [] h k = refl
triples_are rs ds [] (t ∷ ts) h k = absurd k
triples_are rs ds (r ∷ raw) [] h k = absurd k
triples_are rs ds (r ∷ raw) (t ∷ ts) h (s, p, o, more) =
    ap (λ (x : Node). triple x t.predicate t.object ∷ ts) (node_is rs ds r.subject t.subject h s)
    ∙ ap (λ (x : Node). triple (node_said rs r.subject) x t.object ∷ ts) (node_is rs ds r.predicate t.predicate h p)
    ∙ ap (λ (x : Node). triple (node_said rs r.subject) (node_said rs r.predicate) x ∷ ts) (node_is rs ds r.object t.object h o)
    ∙ ap (λ (x : List Triple). triple_said rs r ∷ x) (triples_are rs ds raw ts h more)

-- ---- columns

names_are : (ts : List Found) (names : List (List ℕ)) → AreNames ts names → names ≡ names_said ts
names_are [] [] h = refl
names_are [] (n ∷ ns) h = absurd h
names_are (t ∷ ts) [] h = absurd h
names_are (t ∷ ts) (n ∷ ns) h =
    ap (λ (x : List ℕ). x ∷ ns) (variable_is t.characters.now n h.0.is) ∙ ap (λ (x : List (List ℕ)). name_text t.characters.now ∷ x) (names_are ts ns h.1)

columns_are : (all : Bool) (ts : List Found) (columns : Columns) → ColumnsAre all ts columns → columns ≡ columns_said all ts
columns_are true ts columns h = h
columns_are false ts columns (names, are, e) = e ∙ ap These (names_are ts names are)

abbrev written_of : Columns → List Triple → Written
written_of columns triples = record { columns = columns; triples = triples }

pub written_is : (state : State) (written : Written) → Says state written → written ≡ written_said state
written_is state written says =
    ap (λ (x : Columns). written_of x written.triples) (columns_are state.all state.columns written.columns says.columns)
    ∙ ap (λ (x : List Triple). written_of (columns_said state.all state.columns) x)
    (triples_are state.declarations says.declarations state.triples written.triples says.declared says.triples)
