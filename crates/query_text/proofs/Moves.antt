-- The machine takes each token with which a query goes on, within its triples.
use Rattle.std.proofs.Common.{◌≡◌, ◌⊎◌, ℕ, Bool, true, List, [], ◌∷◌, map, Option, Some, None, refl, sym, ap, subst, ◌∙◌, inl, inr}
use Rattle.std.specs.Prelude.{codes}
use Rattle.std.specs.Char.{to_ascii_lowercase}
use Rattle.std.proofs.lemmas.Bool.{cond-true}
use Rattle.term_core.specs.declared.term.Term.TheVariants as terms
use Rattle.nt_text.specs.Cell.{xsd_string}
use Rattle.query_text.specs.declared.token.Token.{Token as Found}
use Rattle.query_text.specs.declared.class.Class.{Class}
use Rattle.query_text.specs.declared.class.Class.TheVariants as classes
use Rattle.query_text.specs.declared.class.Declaration.{Declaration as Declared}
use Rattle.query_text.specs.declared.phase.Node.{Node as Raw}
use Rattle.query_text.specs.declared.phase.Node.TheVariants as nodes
use Rattle.query_text.specs.declared.phase.Triple.{Triple as RawTriple}
use Rattle.query_text.specs.declared.phase.Position.{Position}
use Rattle.query_text.specs.declared.phase.Position.TheVariants as positions
use Rattle.query_text.specs.declared.phase.Phase.{Phase}
use Rattle.query_text.specs.declared.phase.Phase.TheVariants as phases
use Rattle.query_text.specs.declared.phase.Said.{Said}
use Rattle.query_text.specs.declared.phase.Said.TheVariants as said
use Rattle.query_text.specs.declared.phase.Move.{Move}
use Rattle.query_text.specs.Tokens.{Token}
use Rattle.query_text.specs.Grammar.{Declaration, Node, Variable, Label, Constant, Triple, triple, IsWord, IsSymbol, IsVar, IsLabelToken, IsStringToken, IsLangtagToken, IsIntegerToken, IsDecimalToken, NamesIri, IsNode, NodeVar, NodeIri, NodeLabel, NodeInteger, NodeDecimal, NodeBoolean, NodeString, NodeTagged, NodeTyped, IsVerb, VerbVar, VerbIri, VerbA, iri_node, literal_node, xsd_integer, xsd_decimal, xsd_boolean, rdf_type}
use Rattle.query_text.specs.Reading.{token_of}
use Rattle.query_text.specs.Parsing.{decide, first_of_node, behind_string, behind_carets, behind_node, with_verb, separated, if_declared, is_iri, whole_node, verb_read, triples, semicolon as semicolon', symbol_class}
use Rattle.query_text.specs.Saying.{AreDeclared, NodeIs}
use Rattle.query_text.proofs.Classes.{class, class_of_var, class_of_iriref, class_of_label, class_of_string, class_of_langtag, class_of_integer, class_of_decimal, class_of_name, class_of_symbol, class_of_boolean, class_of_a, closing, dot, comma, semicolon, carets}
use Rattle.query_text.proofs.Prefixes.{resolved_declared}
use Rattle.query_text.proofs.Rests.{Tail, AfterGroup, ends, goes_on, FurtherRest, SubjectRest, ObjectRest, at_comma, at_other, Place, AtSubject, AtObject, NodeRest, FirstRest, objects_first, further_first, AtSemicolon, tail_first, AtClosing}

-- ---- what the machine has read, and what completes it

abbrev pub PlaceIs : List Declaration → Position → Place → Type 0
PlaceIs ds positions.Subject AtSubject = Unit {0}
PlaceIs ds positions.Subject (AtObject s v) = ⊥
PlaceIs ds (positions.Object s v) AtSubject = ⊥
PlaceIs ds (positions.Object s v) (AtObject subject verb) = NodeIs ds s subject × NodeIs ds v verb

-- behind a string and ^^
pub record CaretsRest (ds : List Declaration) (place : Place) (t : Token) (ts : List Token) (more : List Triple) : Type 0 where
  pub form : List ℕ
  pub name : Token
  pub iri : List ℕ
  pub rest : List Token
  pub cut : ts ≡ name ∷ rest
  pub form_is : IsStringToken t form
  pub iri_is : NamesIri ds name iri
  pub goes : NodeRest ds place (literal_node form iri) rest more

-- behind a string
pub data StringRest (ds : List Declaration) (place : Place) (t : Token) (ts : List Token) (more : List Triple) : Type 0 where
  plain : (form : List ℕ) → IsStringToken t form → NodeRest ds place (literal_node form xsd_string) ts more → StringRest ds place t ts more
  tagged : (form tag : List ℕ) (mark : Token) (rest : List Token) → ts ≡ mark ∷ rest → IsStringToken t form → IsLangtagToken mark tag
      → NodeRest ds place (Constant (terms.Tagged form tag)) rest more → StringRest ds place t ts more
  typed : (mark : Token) (rest : List Token) → ts ≡ mark ∷ rest → IsSymbol (codes "^^") mark → CaretsRest ds place t rest more → StringRest ds place t ts more

-- what completes the triples from a phase
abbrev pub PhaseRest : List Declaration → Phase → List Token → List Triple → Type 0
PhaseRest ds phases.Triples ts more = Tail ds ts more
PhaseRest ds (phases.String position t) ts more = (place : Place) × PlaceIs ds position place × StringRest ds place (token_of t) ts more
PhaseRest ds (phases.Carets position t) ts more = (place : Place) × PlaceIs ds position place × CaretsRest ds place (token_of t) ts more
PhaseRest ds (phases.Node position raw) ts more = (place : Place) × (node : Node) × PlaceIs ds position place × NodeIs ds raw node × NodeRest ds place node ts more
PhaseRest ds (phases.Verb s v) ts more = (subject verb : Node) × NodeIs ds s subject × NodeIs ds v verb × FirstRest ds (AtObject subject verb) ts more
PhaseRest ds (phases.Semicolon s) ts more = (subject : Node) × NodeIs ds s subject × (FurtherRest ds subject ts more ⊎ SubjectRest ds subject ts more)
PhaseRest ds phases.End ts more = (ts ≡ []) × (more ≡ [])
PhaseRest ds _ ts more = ⊥

-- what a token says of the triples to come
abbrev pub Adds : List Declaration → Said → List Triple → List Triple → Type 0
Adds ds said.Nothing more next = more ≡ next
Adds ds (said.Triple t) more next =
    (subject predicate object : Node) × NodeIs ds t.subject subject × NodeIs ds t.predicate predicate × NodeIs ds t.object object
    × (more ≡ triple subject predicate object ∷ next)
Adds ds _ more next = ⊥

-- the machine takes a token, and the rest completes it
pub record Takes (ds : List Declaration) (made : Option Move) (ts : List Token) (more : List Triple) : Type 0 where
  pub move : Move
  pub next : List Triple
  pub is : made ≡ Some move
  pub rest : PhaseRest ds move.phase ts next
  pub adds : Adds ds move.said more next

cut_head : {x y : Token} {xs ys : List Token} → x ∷ xs ≡ y ∷ ys → x ≡ y
cut_head e = cc

cut_tail : {x y : Token} {xs ys : List Token} → x ∷ xs ≡ y ∷ ys → xs ≡ ys
cut_tail e = cc

silently : (ds : List Declaration) (made : Option Move) (phase : Phase) (ts : List Token) (more : List Triple)
    → made ≡ Some (record { phase = phase; said = said.Nothing }) → PhaseRest ds phase ts more → Takes ds made ts more
silently ds made phase ts more e rest = record { move = record { phase = phase; said = said.Nothing }; next = more; is = e; rest = rest; adds = refl }

-- ---- the first token of a node

data NodeCase (ds : List Declaration) (x : Token) (ts behind : List Token) (node : Node) : Type 0 where
  a_var : (name : List ℕ) → IsVar x name → behind ≡ ts → node ≡ Variable name → NodeCase ds x ts behind node
  an_iri : (iri : List ℕ) → NamesIri ds x iri → behind ≡ ts → node ≡ iri_node iri → NodeCase ds x ts behind node
  a_label : (label : List ℕ) → IsLabelToken x label → behind ≡ ts → node ≡ Label label → NodeCase ds x ts behind node
  an_integer : IsIntegerToken x → behind ≡ ts → node ≡ literal_node x.characters xsd_integer → NodeCase ds x ts behind node
  a_decimal : IsDecimalToken x → behind ≡ ts → node ≡ literal_node x.characters xsd_decimal → NodeCase ds x ts behind node
  a_boolean : IsWord (codes "TRUE") x ⊎ IsWord (codes "FALSE") x → behind ≡ ts → node ≡ literal_node (map to_ascii_lowercase x.characters) xsd_boolean
      → NodeCase ds x ts behind node
  a_string : (form : List ℕ) → IsStringToken x form → behind ≡ ts → node ≡ literal_node form xsd_string → NodeCase ds x ts behind node
  a_tagged : (form tag : List ℕ) (mark : Token) → IsStringToken x form → IsLangtagToken mark tag → ts ≡ mark ∷ behind → node ≡ Constant (terms.Tagged form tag)
      → NodeCase ds x ts behind node
  a_typed : (form iri : List ℕ) (mark name : Token) → IsStringToken x form → IsSymbol (codes "^^") mark → NamesIri ds name iri → ts ≡ mark ∷ name ∷ behind
      → node ≡ literal_node form iri → NodeCase ds x ts behind node

node_case : (ds : List Declaration) (x : Token) (ts behind : List Token) (node : Node) → IsNode ds (x ∷ ts) behind node → NodeCase ds x ts behind node
node_case ds x ts _ _ (NodeVar {name = name} h) = a_var name h refl refl
node_case ds x ts _ _ (NodeIri {iri = iri} h) = an_iri iri h refl refl
node_case ds x ts _ _ (NodeLabel {label = label} h) = a_label label h refl refl
node_case ds x ts _ _ (NodeInteger h) = an_integer h refl refl
node_case ds x ts _ _ (NodeDecimal h) = a_decimal h refl refl
node_case ds x ts _ _ (NodeBoolean h) = a_boolean h refl refl
node_case ds x ts _ _ (NodeString {form = form} h) = a_string form h refl refl
node_case ds x _ _ _ (NodeTagged {mark = mark} {form = form} {tag = tag} h k) = a_tagged form tag mark h k refl refl
node_case ds x _ _ _ (NodeTyped {mark = mark} {name = name} {form = form} {iri = iri} h k i) = a_typed form iri mark name h k i refl refl

moved : (ds : List Declaration) (place : Place) (node : Node) (ts behind : List Token) (more : List Triple) → behind ≡ ts → NodeRest ds place node behind more
    → NodeRest ds place node ts more
moved ds place node ts behind more e h = subst (λ (x : List Token). NodeRest ds place node x more) e h

renamed : (ds : List Declaration) (place : Place) (node other : Node) (ts : List Token) (more : List Triple) → node ≡ other → NodeRest ds place node ts more
    → NodeRest ds place other ts more
renamed ds place node other ts more e h = subst (λ (x : Node). NodeRest ds place x ts more) e h

taken_name : (rs : List Declared) (ds : List Declaration) (x : Token) (iri : List ℕ) → AreDeclared rs ds → NamesIri ds x iri → is_iri (class rs x) ≡ true
taken_name rs ds x iri h (inl i) = ap is_iri (class_of_iriref rs x iri i)
taken_name rs ds x iri h (inr r) = ap is_iri (class_of_name rs x r.«prefix» r.local r.name_is) ∙ resolved_declared rs ds x iri h r

-- an iri is taken as a node, and as a verb
iri_first : (position : Position) (c : Class) (t : Found) → is_iri c ≡ true → first_of_node position c t ≡ Some (record { phase = phases.Node position (nodes.Iri t); said = said.Nothing })
iri_first position classes.Iriref t h = refl
iri_first position (classes.PrefixName bare declared) t h = ap (λ (d : Bool). whole_node position (if_declared d (nodes.Iri t))) h
iri_first position _ t h = absurd cc

iri_verb : (subject : Raw) (c : Class) (t : Found) → is_iri c ≡ true → with_verb subject c t ≡ Some (record { phase = phases.Verb subject (nodes.Iri t); said = said.Nothing })
iri_verb subject classes.Iriref t h = refl
iri_verb subject (classes.PrefixName bare declared) t h = ap (λ (d : Bool). verb_read subject (if_declared d (nodes.Iri t))) h
iri_verb subject _ t h = absurd cc

module _ (rs : List Declared) (ds : List Declaration) (declared : AreDeclared rs ds) where
  abbrev of : Found → Class
  of t = class rs (token_of t)

  first_case : (position : Position) (place : Place) (t : Found) (ts behind : List Token) (node : Node) (more : List Triple) → PlaceIs ds position place
      → NodeCase ds (token_of t) ts behind node → NodeRest ds place node behind more → Takes ds (first_of_node position (of t) t) ts more
  first_case position place t ts behind node more p (a_var name h e n) rest =
      silently ds (first_of_node position (of t) t) (phases.Node position (nodes.Variable t)) ts more
      (ap (λ (c : Class). first_of_node position c t) (class_of_var rs (token_of t) name h)) (place, node, p, (name, h, n), moved ds place node ts behind more e rest)
  first_case position place t ts behind node more p (an_iri iri h e n) rest =
      silently ds (first_of_node position (of t) t) (phases.Node position (nodes.Iri t)) ts more
      (iri_first position (of t) t (taken_name rs ds (token_of t) iri declared h)) (place, node, p, (iri, h, n), moved ds place node ts behind more e rest)
  first_case position place t ts behind node more p (a_label label h e n) rest =
      silently ds (first_of_node position (of t) t) (phases.Node position (nodes.Label t)) ts more
      (ap (λ (c : Class). first_of_node position c t) (class_of_label rs (token_of t) label h)) (place, node, p, (label, h, n), moved ds place node ts behind more e rest)
  first_case position place t ts behind node more p (an_integer h e n) rest =
      silently ds (first_of_node position (of t) t) (phases.Node position (nodes.Integer t)) ts more
      (ap (λ (c : Class). first_of_node position c t) (class_of_integer rs (token_of t) h.kind)) (place, node, p, (h, n), moved ds place node ts behind more e rest)
  first_case position place t ts behind node more p (a_decimal h e n) rest =
      silently ds (first_of_node position (of t) t) (phases.Node position (nodes.Decimal t)) ts more
      (ap (λ (c : Class). first_of_node position c t) (class_of_decimal rs (token_of t) h.kind)) (place, node, p, (h, n), moved ds place node ts behind more e rest)
  first_case position place t ts behind node more p (a_boolean h e n) rest =
      silently ds (first_of_node position (of t) t) (phases.Node position (nodes.Boolean t)) ts more
      (ap (λ (c : Class). first_of_node position c t) (class_of_boolean rs (token_of t) h)) (place, node, p, (h, n), moved ds place node ts behind more e rest)
  first_case position place t ts behind node more p (a_string form h e n) rest =
      silently ds (first_of_node position (of t) t) (phases.String position t) ts more
      (ap (λ (c : Class). first_of_node position c t) (class_of_string rs (token_of t) form h)) (place, p, plain form h (renamed ds place node (literal_node form xsd_string) ts more n (moved ds place node ts behind more e rest)))
  first_case position place t ts behind node more p (a_tagged form tag mark h k e n) rest =
      silently ds (first_of_node position (of t) t) (phases.String position t) ts more
      (ap (λ (c : Class). first_of_node position c t) (class_of_string rs (token_of t) form h)) (place, p, tagged form tag mark behind e h k (renamed ds place node (Constant (terms.Tagged form tag)) behind more n rest))
  first_case position place t ts behind node more p (a_typed form iri mark name h k i e n) rest =
      silently ds (first_of_node position (of t) t) (phases.String position t) ts more
      (ap (λ (c : Class). first_of_node position c t) (class_of_string rs (token_of t) form h))
      (place, p, typed mark (name ∷ behind) e k (record { form = form; name = name; iri = iri; rest = behind; cut = refl; form_is = h; iri_is = i; goes = renamed ds place node (literal_node form iri) behind more n rest }))

  first_taken : (position : Position) (place : Place) (t : Found) (ts : List Token) (more : List Triple) → PlaceIs ds position place
      → FirstRest ds place (token_of t ∷ ts) more → Takes ds (first_of_node position (of t) t) ts more
  first_taken position place t ts more p r = first_case position place t ts r.behind r.node more p (node_case ds (token_of t) ts r.behind r.node r.node_is) r.rest

  -- ---- verbs

  verb_taken : (raw : Raw) (subject : Node) (t : Found) (ts : List Token) (more : List Triple) → NodeIs ds raw subject → SubjectRest ds subject (token_of t ∷ ts) more
      → Takes ds (with_verb raw (of t) t) ts more
  verb_taken raw subject t ts more is r = by r.verb_is (objects_first ds subject r.verb r.behind more r.rest)
    where
      by : {verb : Node} {behind : List Token} → IsVerb ds (token_of t ∷ ts) behind verb → FirstRest ds (AtObject subject verb) behind more
          → Takes ds (with_verb raw (of t) t) ts more
      by (VerbVar {name = name} h) rest = silently ds (with_verb raw (of t) t) (phases.Verb raw (nodes.Variable t)) ts more
          (ap (λ (c : Class). with_verb raw c t) (class_of_var rs (token_of t) name h)) (subject, Variable name, is, (name, h, refl), rest)
      by (VerbIri {iri = iri} h) rest = silently ds (with_verb raw (of t) t) (phases.Verb raw (nodes.Iri t)) ts more
          (iri_verb raw (of t) t (taken_name rs ds (token_of t) iri declared h)) (subject, iri_node iri, is, (iri, h, refl), rest)
      by (VerbA k e) rest = silently ds (with_verb raw (of t) t) (phases.Verb raw nodes.Type) ts more
          (ap (λ (c : Class). with_verb raw c t) (class_of_a rs (token_of t) k e)) (subject, iri_node rdf_type, is, refl, rest)

-- what another function makes of the same token
via : (ds : List Declaration) (made other : Option Move) (ts : List Token) (more : List Triple) → ((m : Move) → made ≡ Some m → other ≡ Some m) → Takes ds made ts more
    → Takes ds other ts more
via ds made other ts more same h = record { move = h.move; next = h.next; is = same h.move h.is; rest = h.rest; adds = h.adds }

string_node : (position : Position) (form : Found) (c : Class) (t : Found) (m : Move) → behind_node position (nodes.String form) c t ≡ Some m
    → behind_string position form c t ≡ Some m
string_node positions.Subject form classes.Langtag t m h = absurd cc
string_node (positions.Object s v) form classes.Langtag t m h = absurd cc
string_node positions.Subject form classes.Carets t m h = absurd cc
string_node (positions.Object s v) form classes.Carets t m h = absurd cc
string_node position form _ t m h = h

verb_semicolon : (subject : Raw) (c : Class) (t : Found) (m : Move) → with_verb subject c t ≡ Some m → semicolon' subject c t ≡ Some m
verb_semicolon subject classes.Semicolon t m h = absurd cc
verb_semicolon subject classes.Dot t m h = absurd cc
verb_semicolon subject classes.Closing t m h = absurd cc
verb_semicolon subject _ t m h = h

first_triples : (c : Class) (t : Found) (m : Move) → first_of_node positions.Subject c t ≡ Some m → triples c t ≡ Some m
first_triples classes.Closing t m h = absurd cc
first_triples _ t m h = h

module _ (rs : List Declared) (ds : List Declaration) (declared : AreDeclared rs ds) where
  symbol_is : (x : Token) (symbol : List ℕ) (c : Class) → IsSymbol symbol x → symbol_class symbol ≡ c → class rs x ≡ c
  symbol_is x symbol c h e = class_of_symbol rs x symbol h ∙ e

  -- behind a whole triple
  separated_taken : (raw : RawTriple) (s v o : Node) (x : Token) (ts : List Token) (more : List Triple) → NodeIs ds raw.subject s → NodeIs ds raw.predicate v
      → NodeIs ds raw.object o → ObjectRest ds s v o (x ∷ ts) more → Takes ds (separated raw (class rs x)) ts more
  separated_taken raw s v o x ts _ hs hv ho (at_comma {others = others} symbol r) = record {
    move = record { phase = phases.Verb raw.subject raw.predicate; said = said.Triple raw };
    next = others;
    is = ap (separated raw) (symbol_is x (codes ",") classes.Comma symbol comma);
    rest = (s, v, hs, hv, objects_first ds s v ts others r);
    adds = (s, v, o, hs, hv, ho, refl);
  }
  separated_taken raw s v o x ts _ hs hv ho (at_other {others = others} r) = by (further_first ds s (x ∷ ts) others r)
    where
      after : {behind : List Token} {last : List Triple} → x ∷ ts ≡ behind → others ≡ last → AfterGroup ds behind last
          → Takes ds (separated raw (class rs x)) ts (triple s v o ∷ others)
      after e f (ends {closing = y} is) =
          let same : x ≡ y = cut_head e in
          let rest : ts ≡ [] = cut_tail e in record {
            move = record { phase = phases.End; said = said.Triple raw };
            next = others;
            is = ap (separated raw) (symbol_is x (codes "}") classes.Closing (subst (IsSymbol (codes "}")) (sym same) is) closing);
            rest = (rest, f);
            adds = (s, v, o, hs, hv, ho, refl);
          }
      after e f (goes_on {dot = y} {rest = behind} {more = last} is t) =
          let same : x ≡ y = cut_head e in
          let rest : ts ≡ behind = cut_tail e in record {
            move = record { phase = phases.Triples; said = said.Triple raw };
            next = others;
            is = ap (separated raw) (symbol_is x (codes ".") classes.Dot (subst (IsSymbol (codes ".")) (sym same) is) dot);
            rest = subst (λ (z : List Token). Tail ds z others) (sym rest) (subst (λ (z : List Triple). Tail ds behind z) (sym f) t);
            adds = (s, v, o, hs, hv, ho, refl);
          }

      by : AfterGroup ds (x ∷ ts) others ⊎ AtSemicolon ds s (x ∷ ts) others → Takes ds (separated raw (class rs x)) ts (triple s v o ∷ others)
      by (inl a) = after refl refl a
      by (inr m) =
          let same : x ≡ m.semicolon = cut_head m.cut in
          let rest : ts ≡ m.rest = cut_tail m.cut in record {
            move = record { phase = phases.Semicolon raw.subject; said = said.Triple raw };
            next = others;
            is = ap (separated raw) (symbol_is x (codes ";") classes.Semicolon (subst (IsSymbol (codes ";")) (sym same) m.is) semicolon);
            rest = (s, hs, subst (λ (z : List Token). FurtherRest ds s z others ⊎ SubjectRest ds s z others) (sym rest) m.goes);
            adds = (s, v, o, hs, hv, ho, refl);
          }

  node_taken : (position : Position) (place : Place) (raw : Raw) (node : Node) (t : Found) (ts : List Token) (more : List Triple) → PlaceIs ds position place
      → NodeIs ds raw node → NodeRest ds place node (token_of t ∷ ts) more → Takes ds (behind_node position raw (class rs (token_of t)) t) ts more
  node_taken positions.Subject AtSubject raw node t ts more p is r = verb_taken rs ds declared raw node t ts more is r
  node_taken positions.Subject (AtObject s v) raw node t ts more p is r = absurd p
  node_taken (positions.Object s v) AtSubject raw node t ts more p is r = absurd p
  node_taken (positions.Object s v) (AtObject subject verb) raw node t ts more p is r =
      separated_taken (record { subject = s; predicate = v; object = raw }) subject verb node (token_of t) ts more p.0 p.1 is r

  string_taken : (position : Position) (place : Place) (form t : Found) (ts : List Token) (more : List Triple) → PlaceIs ds position place
      → StringRest ds place (token_of form) (token_of t ∷ ts) more → Takes ds (behind_string position form (class rs (token_of t)) t) ts more
  string_taken position place form t ts more p (plain text is r) =
      via ds (behind_node position (nodes.String form) (class rs (token_of t)) t) (behind_string position form (class rs (token_of t)) t) ts more
      (string_node position form (class rs (token_of t)) t)
      (node_taken position place (nodes.String form) (literal_node text xsd_string) t ts more p (text, is, refl) r)
  string_taken position place form t ts more p (tagged text tag mark rest e is is_tag r) =
      let same : token_of t ≡ mark = cut_head e in
      let behind : ts ≡ rest = cut_tail e in
      let tag_is = subst (λ (x : Token). IsLangtagToken x tag) (sym same) is_tag in
      silently ds (behind_string position form (class rs (token_of t)) t) (phases.Node position (nodes.Tagged form t)) ts more
      (ap (λ (c : Class). behind_string position form c t) (class_of_langtag rs (token_of t) tag tag_is))
      (place, Constant (terms.Tagged text tag), p, (text, tag, is, tag_is, refl), moved ds place (Constant (terms.Tagged text tag)) ts rest more (sym behind) r)
  string_taken position place form t ts more p (typed mark rest e is r) =
      let same : token_of t ≡ mark = cut_head e in
      let behind : ts ≡ rest = cut_tail e in
      silently ds (behind_string position form (class rs (token_of t)) t) (phases.Carets position form) ts more
      (ap (λ (c : Class). behind_string position form c t) (symbol_is (token_of t) (codes "^^") classes.Carets (subst (IsSymbol (codes "^^")) (sym same) is) carets))
      (place, p, subst (λ (x : List Token). CaretsRest ds place (token_of form) x more) (sym behind) r)

  carets_taken : (position : Position) (place : Place) (form t : Found) (ts : List Token) (more : List Triple) → PlaceIs ds position place
      → CaretsRest ds place (token_of form) (token_of t ∷ ts) more → Takes ds (behind_carets position form (class rs (token_of t)) t) ts more
  carets_taken position place form t ts more p r =
      let same : token_of t ≡ r.name = cut_head r.cut in
      let behind : ts ≡ r.rest = cut_tail r.cut in
      let iri_is = subst (λ (x : Token). NamesIri ds x r.iri) (sym same) r.iri_is in
      silently ds (behind_carets position form (class rs (token_of t)) t) (phases.Node position (nodes.Typed form t)) ts more
      (cond-true (is_iri (class rs (token_of t))) (Some (record { phase = phases.Node position (nodes.Typed form t); said = said.Nothing })) None
      (taken_name rs ds (token_of t) r.iri declared iri_is))
      (place, literal_node r.form r.iri, p, (r.form, r.iri, r.form_is, iri_is, refl), moved ds place (literal_node r.form r.iri) ts r.rest more (sym behind) r.goes)

  semicolon_taken : (raw : Raw) (s : Node) (t : Found) (ts : List Token) (more : List Triple) → NodeIs ds raw s
      → FurtherRest ds s (token_of t ∷ ts) more ⊎ SubjectRest ds s (token_of t ∷ ts) more → Takes ds (semicolon' raw (class rs (token_of t)) t) ts more
  semicolon_taken raw s t ts more hs (inr r) =
      via ds (with_verb raw (class rs (token_of t)) t) (semicolon' raw (class rs (token_of t)) t) ts more (verb_semicolon raw (class rs (token_of t)) t)
      (verb_taken rs ds declared raw s t ts more hs r)
  semicolon_taken raw s t ts more hs (inl r) = by (further_first ds s (token_of t ∷ ts) more r)
    where
      after : {behind : List Token} {last : List Triple} → token_of t ∷ ts ≡ behind → more ≡ last → AfterGroup ds behind last
          → Takes ds (semicolon' raw (class rs (token_of t)) t) ts more
      after e f (ends {closing = y} is) =
          let same : token_of t ≡ y = cut_head e in
          let rest : ts ≡ [] = cut_tail e in
          silently ds (semicolon' raw (class rs (token_of t)) t) phases.End ts more
          (ap (λ (c : Class). semicolon' raw c t) (symbol_is (token_of t) (codes "}") classes.Closing (subst (IsSymbol (codes "}")) (sym same) is) closing)) (rest, f)
      after e f (goes_on {dot = y} {rest = behind} {more = last} is tail) =
          let same : token_of t ≡ y = cut_head e in
          let rest : ts ≡ behind = cut_tail e in
          silently ds (semicolon' raw (class rs (token_of t)) t) phases.Triples ts more
          (ap (λ (c : Class). semicolon' raw c t) (symbol_is (token_of t) (codes ".") classes.Dot (subst (IsSymbol (codes ".")) (sym same) is) dot))
          (subst (λ (z : List Token). Tail ds z more) (sym rest) (subst (λ (z : List Triple). Tail ds behind z) (sym f) tail))

      by : AfterGroup ds (token_of t ∷ ts) more ⊎ AtSemicolon ds s (token_of t ∷ ts) more → Takes ds (semicolon' raw (class rs (token_of t)) t) ts more
      by (inl a) = after refl refl a
      by (inr m) =
          let same : token_of t ≡ m.semicolon = cut_head m.cut in
          let rest : ts ≡ m.rest = cut_tail m.cut in
          silently ds (semicolon' raw (class rs (token_of t)) t) (phases.Semicolon raw) ts more
          (ap (λ (c : Class). semicolon' raw c t) (symbol_is (token_of t) (codes ";") classes.Semicolon (subst (IsSymbol (codes ";")) (sym same) m.is) semicolon))
          (s, hs, subst (λ (z : List Token). FurtherRest ds s z more ⊎ SubjectRest ds s z more) (sym rest) m.goes)

  triples_taken : (t : Found) (ts : List Token) (more : List Triple) → Tail ds (token_of t ∷ ts) more → Takes ds (triples (class rs (token_of t)) t) ts more
  triples_taken t ts more r = by (tail_first ds (token_of t ∷ ts) more r)
    where
      by : AtClosing (token_of t ∷ ts) more ⊎ FirstRest ds AtSubject (token_of t ∷ ts) more → Takes ds (triples (class rs (token_of t)) t) ts more
      by (inl m) =
          let same : token_of t ≡ m.closing = cut_head m.cut in
          silently ds (triples (class rs (token_of t)) t) phases.End ts more
          (ap (λ (c : Class). triples c t) (symbol_is (token_of t) (codes "}") classes.Closing (subst (IsSymbol (codes "}")) (sym same) m.is) closing)) (cut_tail m.cut, m.nothing)
      by (inr f) =
          via ds (first_of_node positions.Subject (class rs (token_of t)) t) (triples (class rs (token_of t)) t) ts more (first_triples (class rs (token_of t)) t)
          (first_taken rs ds declared positions.Subject AtSubject t ts more tt f)

  -- each token with which the triples go on is taken
  pub token_taken : (phase : Phase) (t : Found) (ts : List Token) (more : List Triple) → PhaseRest ds phase (token_of t ∷ ts) more
      → Takes ds (decide phase (class rs (token_of t)) t) ts more
  token_taken phases.Triples t ts more r = triples_taken t ts more r
  token_taken (phases.String position form) t ts more r = string_taken position r.0 form t ts more r.1 r.2
  token_taken (phases.Carets position form) t ts more r = carets_taken position r.0 form t ts more r.1 r.2
  token_taken (phases.Node position raw) t ts more r = node_taken position r.0 raw r.1 t ts more r.2 r.3 r.4
  token_taken (phases.Verb s v) t ts more r = first_taken rs ds declared (positions.Object s v) (AtObject r.0 r.1) t ts more (r.2, r.3) r.4
  token_taken (phases.Semicolon s) t ts more r = semicolon_taken s r.0 t ts more r.1 r.2
  token_taken phases.End t ts more r = let wrong : token_of t ∷ ts ≡ [] = r.0 in absurd cc
  token_taken _ t ts more r = absurd r
