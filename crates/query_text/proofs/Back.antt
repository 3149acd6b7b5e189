-- The other way round, within the triples: what completes them behind a token completes them from it.
use Rattle.std.proofs.Common.{◌≡◌, ◌⊎◌, ℕ, true, false, List, [], ◌∷◌, Option, Some, None, refl, sym, ap, subst, ◌∙◌, inl, inr}
use Rattle.std.specs.Prelude.{codes}
use Rattle.term_core.specs.declared.term.Term.TheVariants as terms
use Rattle.nt_text.specs.Cell.{xsd_string}
use Rattle.query_text.specs.declared.token.Token.{Token as Found}
use Rattle.query_text.specs.declared.class.Class.{Class}
use Rattle.query_text.specs.declared.class.Class.TheVariants as classes
use Rattle.query_text.specs.declared.class.Declaration.{Declaration as Declared}
use Rattle.query_text.specs.declared.phase.Node.{Node as Raw}
use Rattle.query_text.specs.declared.phase.Node.TheVariants as nodes
use Rattle.query_text.specs.declared.phase.Triple.{Triple as RawTriple}
use Rattle.query_text.specs.declared.phase.Position.{Position}
use Rattle.query_text.specs.declared.phase.Phase.{Phase}
use Rattle.query_text.specs.declared.phase.Phase.TheVariants as phases
use Rattle.query_text.specs.declared.phase.Position.TheVariants as positions
use Rattle.query_text.specs.declared.phase.Said.{Said}
use Rattle.query_text.specs.declared.phase.Said.TheVariants as said
use Rattle.query_text.specs.declared.phase.Move.{Move}
use Rattle.query_text.specs.Tokens.{Token}
use Rattle.query_text.specs.Grammar.{Declaration, Node, Variable, Label, Constant, Triple, triple, IsSymbol, IsStringToken, IsNode, NodeVar, NodeIri, NodeLabel, NodeInteger, NodeDecimal, NodeBoolean, NodeString, NodeTagged, NodeTyped, IsVerb, VerbVar, VerbIri, VerbA, iri_node, literal_node}
use Rattle.query_text.specs.Reading.{token_of}
use Rattle.query_text.specs.Parsing.{first_of_node, with_verb, verb_of, verb_read, whole_node, said_by, after_separator, behind_node, separated, node_of, triples, semicolon, decide, behind_string, behind_carets, is_iri}
use Rattle.query_text.specs.Saying.{NodeIs}
use Rattle.query_text.proofs.Choices.{only}
use Rattle.query_text.proofs.Classes.{Says}
use Rattle.query_text.proofs.Rests.{Tail, AfterGroup, ends, goes_on, FurtherRest, SubjectRest, ObjectRest, at_comma, at_other, Place, AtSubject, AtObject, NodeRest, FirstRest, first_objects, first_tail, closing_tail, after_further, empty_further, more_further}
use Rattle.query_text.proofs.Moves.{PlaceIs, StringRest, plain, tagged, typed, PhaseRest, Adds}
use Rattle.query_text.proofs.Same.{node_same}

-- the move that was made
as_move : (P : Move → Type 0) (made move : Move) → Some made ≡ Some move → P move → P made
as_move P made move e h = let same : move ≡ made = cc in subst P same h

-- ---- a node

pub record FirstBack (ds : List Declaration) (position : Position) (x : Token) (ts : List Token) (next : List Triple) : Type 0 where
  pub place : Place
  pub place_is : PlaceIs ds position place
  pub rest : FirstRest ds place (x ∷ ts) next

abbrev Whole : List Declaration → Position → Raw → List Token → List Triple → Type 0
Whole ds position raw ts next = (place : Place) × (node : Node) × PlaceIs ds position place × NodeIs ds raw node × NodeRest ds place node ts next

whole_back : (ds : List Declaration) (position : Position) (raw : Raw) (x : Token) (ts : List Token) (next : List Triple)
    → ((node : Node) → NodeIs ds raw node → IsNode ds (x ∷ ts) ts node) → Whole ds position raw ts next → FirstBack ds position x ts next
whole_back ds position raw x ts next reads (place, node, p, is, rest) =
    record { place = place; place_is = p; rest = record { node = node; behind = ts; node_is = reads node is; rest = rest } }

string_back : (ds : List Declaration) (position : Position) (place : Place) (x : Token) (ts : List Token) (next : List Triple) → PlaceIs ds position place
    → StringRest ds place x ts next → FirstBack ds position x ts next
string_back ds position place x ts next p (plain form is r) =
    record { place = place; place_is = p; rest = record { node = literal_node form xsd_string; behind = ts; node_is = NodeString is; rest = r } }
string_back ds position place x ts next p (tagged form tag mark rest e is tag_is r) = record {
  place = place;
  place_is = p;
  rest = record {
    node = Constant (terms.Tagged form tag);
    behind = rest;
    node_is = subst (λ (z : List Token). IsNode ds (x ∷ z) rest (Constant (terms.Tagged form tag))) (sym e) (NodeTagged is tag_is);
    rest = r;
  };
}
string_back ds position place x ts next p (typed mark rest e is r) = record {
  place = place;
  place_is = p;
  rest = record {
    node = literal_node r.form r.iri;
    behind = r.rest;
    node_is = subst (λ (z : List Token). IsNode ds (x ∷ z) r.rest (literal_node r.form r.iri)) (sym (e ∙ ap (λ (z : List Token). mark ∷ z) r.cut))
        (NodeTyped r.form_is is r.iri_is);
    rest = r.goes;
  };
}

subst_node : (ds : List Declaration) (x : Token) (ts : List Token) (one other : Node) → other ≡ one → IsNode ds (x ∷ ts) ts one → IsNode ds (x ∷ ts) ts other
subst_node ds x ts one other e h = subst (IsNode ds (x ∷ ts) ts) (sym e) h

-- ---- behind a triple

pub separated_back : (ds : List Declaration) (rs : List Declared) (raw : RawTriple) (s v o : Node) (c : Class) (x : Token) (ts : List Token) (m : Move) (next : List Triple)
    → NodeIs ds raw.subject s → NodeIs ds raw.predicate v → Says rs c x → separated raw c ≡ Some m → PhaseRest ds m.phase ts next
    → ObjectRest ds s v o (x ∷ ts) (triple s v o ∷ next)
separated_back ds rs raw s v o classes.Comma x ts m next hs hv is e rest =
    let r = as_move (λ (z : Move). PhaseRest ds z.phase ts next) (record { phase = phases.Verb raw.subject raw.predicate; said = said.Triple raw }) m e rest in
    at_comma is (first_objects ds s v ts next (
    subst (λ (z : Node). FirstRest ds (AtObject z v) ts next) (node_same ds raw.subject r.0 s r.2 hs)
    (subst (λ (z : Node). FirstRest ds (AtObject r.0 z) ts next) (node_same ds raw.predicate r.1 v r.3 hv) r.4)))
separated_back ds rs raw s v o classes.Semicolon x ts m next hs hv is e rest =
    let r = as_move (λ (z : Move). PhaseRest ds z.phase ts next) (record { phase = phases.Semicolon raw.subject; said = said.Triple raw }) m e rest in
    at_other (by (subst (λ (z : Node). FurtherRest ds z ts next ⊎ SubjectRest ds z ts next) (node_same ds raw.subject r.0 s r.1 hs) r.2))
  where
    by : FurtherRest ds s ts next ⊎ SubjectRest ds s ts next → FurtherRest ds s (x ∷ ts) next
    by (inl f) = empty_further ds s x ts next is f
    by (inr f) = more_further ds s x ts next is f
separated_back ds rs raw s v o classes.Dot x ts m next hs hv is e rest =
    let r = as_move (λ (z : Move). PhaseRest ds z.phase ts next) (record { phase = phases.Triples; said = said.Triple raw }) m e rest in
    at_other (after_further ds s (x ∷ ts) next (goes_on is r))
separated_back ds rs raw s v o classes.Closing x ts m next hs hv is e rest =
    let r = as_move (λ (z : Move). PhaseRest ds z.phase ts next) (record { phase = phases.End; said = said.Triple raw }) m e rest in
    at_other (after_further ds s (x ∷ ts) next
    (subst (λ (z : List Token). AfterGroup ds (x ∷ z) next) (sym r.0) (subst (λ (z : List Triple). AfterGroup ds (x ∷ []) z) (sym r.1) (ends is))))
separated_back ds rs raw s v o _ x ts m next hs hv is e rest = absurd cc

-- ---- nodes and verbs, by the class of their first token

silent_move : Phase → Move
silent_move phase = record { phase = phase; said = said.Nothing }

module _ (ds : List Declaration) (rs : List Declared) (t : Found) (ts : List Token) (next : List Triple) where
  abbrev At : Move → Type 0
  At z = PhaseRest ds z.phase ts next

  first_whole : (position : Position) (raw : Raw) (m : Move) → ((node : Node) → NodeIs ds raw node → IsNode ds (token_of t ∷ ts) ts node)
      → Some (record { phase = phases.Node position raw; said = said.Nothing }) ≡ Some m → At m → FirstBack ds position (token_of t) ts next
  first_whole position raw m reads e rest =
      whole_back ds position raw (token_of t) ts next reads (as_move At (record { phase = phases.Node position raw; said = said.Nothing }) m e rest)

  reads_iri : (node : Node) → NodeIs ds (nodes.Iri t) node → IsNode ds (token_of t ∷ ts) ts node
  reads_iri node (iri, is, e) = subst_node ds (token_of t) ts (iri_node iri) node e (NodeIri is)

  first_back : (position : Position) (c : Class) (m : Move) → first_of_node position c t ≡ Some m → At m → FirstBack ds position (token_of t) ts next
  first_back position classes.Str m e rest =
      let r = as_move At (record { phase = phases.String position t; said = said.Nothing }) m e rest in
      string_back ds position r.0 (token_of t) ts next r.1 r.2
  first_back position classes.Var m e rest =
      first_whole position (nodes.Variable t) m (λ node h. subst_node ds (token_of t) ts (Variable h.0) node h.2 (NodeVar h.1)) e rest
  first_back position classes.Iriref m e rest = first_whole position (nodes.Iri t) m reads_iri e rest
  first_back position (classes.PrefixName bare true) m e rest = first_whole position (nodes.Iri t) m reads_iri e rest
  first_back position (classes.PrefixName bare false) m e rest = absurd cc
  first_back position classes.Label m e rest =
      first_whole position (nodes.Label t) m (λ node h. subst_node ds (token_of t) ts (Label h.0) node h.2 (NodeLabel h.1)) e rest
  first_back position classes.Integer m e rest =
      first_whole position (nodes.Integer t) m (λ node h. subst (IsNode ds (token_of t ∷ ts) ts) (sym h.1) (NodeInteger h.0)) e rest
  first_back position classes.Decimal m e rest =
      first_whole position (nodes.Decimal t) m (λ node h. subst (IsNode ds (token_of t ∷ ts) ts) (sym h.1) (NodeDecimal h.0)) e rest
  first_back position classes.Boolean m e rest =
      first_whole position (nodes.Boolean t) m (λ node h. subst (IsNode ds (token_of t ∷ ts) ts) (sym h.1) (NodeBoolean h.0)) e rest
  first_back position _ m e rest = absurd cc

  -- behind a subject
  pub record VerbBack (raw : Raw) : Type 0 where
    pub subject : Node
    pub is : NodeIs ds raw subject
    pub rest : SubjectRest ds subject (token_of t ∷ ts) next

  verb_whole : (raw verb : Raw) (m : Move) → ((node : Node) → NodeIs ds verb node → IsVerb ds (token_of t ∷ ts) ts node)
      → Some (record { phase = phases.Verb raw verb; said = said.Nothing }) ≡ Some m → At m → VerbBack raw
  verb_whole raw verb m reads e rest =
      let r = as_move At (record { phase = phases.Verb raw verb; said = said.Nothing }) m e rest in
      record { subject = r.0; is = r.2; rest = record { verb = r.1; behind = ts; verb_is = reads r.1 r.3; rest = first_objects ds r.0 r.1 ts next r.4 } }

  reads_verb : (node : Node) → NodeIs ds (nodes.Iri t) node → IsVerb ds (token_of t ∷ ts) ts node
  reads_verb node (iri, is, e) = subst (IsVerb ds (token_of t ∷ ts) ts) (sym e) (VerbIri is)

  verb_back : (raw : Raw) (c : Class) (m : Move) → Says rs c (token_of t) → with_verb raw c t ≡ Some m → At m → VerbBack raw
  verb_back raw classes.Var m is e rest =
      verb_whole raw (nodes.Variable t) m (λ node h. subst (IsVerb ds (token_of t ∷ ts) ts) (sym h.2) (VerbVar h.1)) e rest
  verb_back raw classes.Iriref m is e rest = verb_whole raw (nodes.Iri t) m reads_verb e rest
  verb_back raw (classes.PrefixName bare true) m is e rest = verb_whole raw (nodes.Iri t) m reads_verb e rest
  verb_back raw (classes.PrefixName bare false) m is e rest = absurd cc
  verb_back raw classes.A m is e rest =
      verb_whole raw nodes.Type m (λ node h. subst (IsVerb ds (token_of t ∷ ts) ts) (sym h) (VerbA is.0 is.1)) e rest
  verb_back raw _ m is e rest = absurd cc

-- ---- what a move says

said_of : (made m : Move) → Some made ≡ Some m → m.said ≡ made.said
said_of made m e = let same : m ≡ made = cc in ap (λ (z : Move). z.said) same

quiet_verb : (raw : Raw) (verb : Option Raw) (m : Move) → verb_read raw verb ≡ Some m → m.said ≡ said.Nothing
quiet_verb raw None m e = absurd cc
quiet_verb raw (Some verb) m e = said_of (record { phase = phases.Verb raw verb; said = said.Nothing }) m e

quiet_whole : (position : Position) (node : Option Raw) (m : Move) → whole_node position node ≡ Some m → m.said ≡ said.Nothing
quiet_whole position None m e = absurd cc
quiet_whole position (Some raw) m e = said_of (record { phase = phases.Node position raw; said = said.Nothing }) m e

quiet_first : (position : Position) (c : Class) (t : Found) (m : Move) → first_of_node position c t ≡ Some m → m.said ≡ said.Nothing
quiet_first position classes.Str t m e = said_of (record { phase = phases.String position t; said = said.Nothing }) m e
quiet_first position classes.Var t m e = quiet_whole position (node_of classes.Var t) m e
quiet_first position classes.Iriref t m e = quiet_whole position (node_of classes.Iriref t) m e
quiet_first position (classes.PrefixName bare declared) t m e = quiet_whole position (node_of (classes.PrefixName bare declared) t) m e
quiet_first position classes.Label t m e = quiet_whole position (node_of classes.Label t) m e
quiet_first position classes.Integer t m e = quiet_whole position (node_of classes.Integer t) m e
quiet_first position classes.Decimal t m e = quiet_whole position (node_of classes.Decimal t) m e
quiet_first position classes.Boolean t m e = quiet_whole position (node_of classes.Boolean t) m e
quiet_first position _ t m e = absurd cc

loud : (raw : RawTriple) (phase : Option Phase) (m : Move) → said_by raw phase ≡ Some m → m.said ≡ said.Triple raw
loud raw None m e = absurd cc
loud raw (Some phase) m e = said_of (record { phase = phase; said = said.Triple raw }) m e

-- ---- behind a node

-- the rest begins with the token, and so much is said by it
pub record NodeBack (ds : List Declaration) (place : Place) (node : Node) (t : Found) (ts : List Token) (m : Move) (next : List Triple) : Type 0 where
  pub more : List Triple
  pub rest : NodeRest ds place node (token_of t ∷ ts) more
  pub adds : Adds ds m.said more next

pub node_back : (ds : List Declaration) (rs : List Declared) (position : Position) (place : Place) (raw : Raw) (node : Node) (c : Class) (t : Found) (ts : List Token)
    (m : Move) (next : List Triple) → PlaceIs ds position place → NodeIs ds raw node → Says rs c (token_of t) → behind_node position raw c t ≡ Some m
    → PhaseRest ds m.phase ts next → NodeBack ds place node t ts m next
node_back ds rs positions.Subject AtSubject raw node c t ts m next p is says e rest =
    let b = verb_back ds rs t ts next raw c m says e rest in record {
      more = next;
      rest = subst (λ (z : Node). SubjectRest ds z (token_of t ∷ ts) next) (node_same ds raw b.subject node b.is is) b.rest;
      adds = subst (λ (z : Said). Adds ds z next next) (sym (quiet_verb raw (verb_of c t) m e)) refl;
    }
node_back ds rs positions.Subject (AtObject s v) raw node c t ts m next p is says e rest = absurd p
node_back ds rs (positions.Object s v) AtSubject raw node c t ts m next p is says e rest = absurd p
node_back ds rs (positions.Object s v) (AtObject subject verb) raw node c t ts m next p is says e rest =
    let whole : RawTriple = record { subject = s; predicate = v; object = raw } in record {
      more = triple subject verb node ∷ next;
      rest = separated_back ds rs whole subject verb node c (token_of t) ts m next p.0 p.1 says e rest;
      adds = subst (λ (z : Said). Adds ds z (triple subject verb node ∷ next) next) (sym (loud whole (after_separator whole c) m e))
          (subject, verb, node, p.0, p.1, is, refl);
    }

-- ---- each phase within the triples

-- what was read last has a value
abbrev pub PhaseStands : List Declaration → Phase → Type 0
PhaseStands ds phases.Triples = Unit {0}
PhaseStands ds (phases.String position t) = (place : Place) × (form : List ℕ) × PlaceIs ds position place × IsStringToken (token_of t) form
PhaseStands ds (phases.Carets position t) = (place : Place) × (form : List ℕ) × PlaceIs ds position place × IsStringToken (token_of t) form
PhaseStands ds (phases.Node position raw) = (place : Place) × (node : Node) × PlaceIs ds position place × NodeIs ds raw node
PhaseStands ds (phases.Verb s v) = (subject verb : Node) × NodeIs ds s subject × NodeIs ds v verb
PhaseStands ds (phases.Semicolon s) = (subject : Node) × NodeIs ds s subject
PhaseStands ds phases.End = Unit {0}
PhaseStands ds _ = ⊥

pub record PhaseBack (ds : List Declaration) (phase : Phase) (t : Found) (ts : List Token) (m : Move) (next : List Triple) : Type 0 where
  pub more : List Triple
  pub rest : PhaseRest ds phase (token_of t ∷ ts) more
  pub adds : Adds ds m.said more next

quietly : (ds : List Declaration) (phase : Phase) (t : Found) (ts : List Token) (m : Move) (next : List Triple) → m.said ≡ said.Nothing
    → PhaseRest ds phase (token_of t ∷ ts) next → PhaseBack ds phase t ts m next
quietly ds phase t ts m next e rest = record { more = next; rest = rest; adds = subst (λ (z : Said). Adds ds z next next) (sym e) refl }

only_subject : (ds : List Declaration) (place : Place) (ts : List Token) (next : List Triple) → PlaceIs ds positions.Subject place → FirstRest ds place ts next
    → FirstRest ds AtSubject ts next
only_subject ds AtSubject ts next p r = r
only_subject ds (AtObject s v) ts next p r = absurd p

abbrev VerbRest : List Declaration → Raw → Raw → List Token → List Triple → Type 0
VerbRest ds s v ts next = (subject verb : Node) × NodeIs ds s subject × NodeIs ds v verb × FirstRest ds (AtObject subject verb) ts next

only_object : (ds : List Declaration) (s v : Raw) (place : Place) (ts : List Token) (next : List Triple) → PlaceIs ds (positions.Object s v) place
    → FirstRest ds place ts next → VerbRest ds s v ts next
only_object ds s v AtSubject ts next p r = absurd p
only_object ds s v (AtObject subject verb) ts next p r = (subject, verb, p.0, p.1, r)

module _ (ds : List Declaration) (rs : List Declared) (t : Found) (ts : List Token) (m : Move) (next : List Triple) (rest : PhaseRest ds m.phase ts next) where
  abbrev Here : Move → Type 0
  Here z = PhaseRest ds z.phase ts next

  abbrev quiet_move : Phase → Move
  quiet_move phase = record { phase = phase; said = said.Nothing }

  after_closing : IsSymbol (codes "}") (token_of t) → (ts ≡ []) × (next ≡ []) → AfterGroup ds (token_of t ∷ ts) next
  after_closing is r =
      subst (λ (z : List Token). AfterGroup ds (token_of t ∷ z) next) (sym r.0) (subst (λ (z : List Triple). AfterGroup ds (token_of t ∷ []) z) (sym r.1) (ends is))

  triples_first : (c : Class) → first_of_node positions.Subject c t ≡ Some m → PhaseBack ds phases.Triples t ts m next
  triples_first c e =
      let b = first_back ds rs t ts next positions.Subject c m e rest in
      quietly ds phases.Triples t ts m next (quiet_first positions.Subject c t m e)
      (first_tail ds (token_of t ∷ ts) next (only_subject ds b.place (token_of t ∷ ts) next b.place_is b.rest))

  triples_back : (c : Class) → Says rs c (token_of t) → triples c t ≡ Some m → PhaseBack ds phases.Triples t ts m next
  triples_back classes.Closing is e =
      let r = as_move Here (quiet_move phases.End) m e rest in
      quietly ds phases.Triples t ts m next (said_of (quiet_move phases.End) m e)
      (subst (λ (z : List Token). Tail ds (token_of t ∷ z) next) (sym r.0) (subst (λ (z : List Triple). Tail ds (token_of t ∷ []) z) (sym r.1) (closing_tail ds (token_of t) is)))
  triples_back c is e = triples_first c e

  string_phase : (position : Position) (form : Found) (c : Class) → PhaseStands ds (phases.String position form) → Says rs c (token_of t)
      → behind_string position form c t ≡ Some m → PhaseBack ds (phases.String position form) t ts m next
  string_phase position form classes.Langtag stands is e =
      let made : Move = quiet_move (phases.Node position (nodes.Tagged form t)) in
      let r = as_move Here made m e rest in
      let text = r.3.0 in
      let tag = r.3.1 in
      quietly ds (phases.String position form) t ts m next (said_of made m e)
      (r.0, r.2, tagged text tag (token_of t) ts refl r.3.2 r.3.3 (subst (λ (z : Node). NodeRest ds r.0 z ts next) r.3.4 r.4))
  string_phase position form classes.Carets stands is e =
      let made : Move = quiet_move (phases.Carets position form) in
      let r = as_move Here made m e rest in
      quietly ds (phases.String position form) t ts m next (said_of made m e) (r.0, r.1, typed (token_of t) ts refl is r.2)
  string_phase position form c stands is e =
      let b = node_back ds rs position stands.0 (nodes.String form) (literal_node stands.1 xsd_string) c t ts m next stands.2 (stands.1, stands.3, refl) is e rest in
      record { more = b.more; rest = (stands.0, stands.2, plain stands.1 stands.3 b.rest); adds = b.adds }

  carets_phase : (position : Position) (form : Found) (c : Class) → behind_carets position form c t ≡ Some m → PhaseBack ds (phases.Carets position form) t ts m next
  carets_phase position form c e =
      let made : Move = quiet_move (phases.Node position (nodes.Typed form t)) in
      let step = only (λ (x : Option Move). x) (is_iri c) made m refl e in
      let r = as_move Here made m step.1 rest in
      quietly ds (phases.Carets position form) t ts m next (said_of made m step.1) (
        r.0,
        r.2,
        record {
          form = r.3.0;
          name = token_of t;
          iri = r.3.1;
          rest = ts;
          cut = refl;
          form_is = r.3.2;
          iri_is = r.3.3;
          goes = subst (λ (z : Node). NodeRest ds r.0 z ts next) r.3.4 r.4;
        },
      )

  semicolon_verb : (s : Raw) (c : Class) → Says rs c (token_of t) → with_verb s c t ≡ Some m → PhaseBack ds (phases.Semicolon s) t ts m next
  semicolon_verb s c is e =
      let b = verb_back ds rs t ts next s c m is e rest in
      quietly ds (phases.Semicolon s) t ts m next (quiet_verb s (verb_of c t) m e) (b.subject, b.is, inr b.rest)

  semicolon_back : (s : Raw) (c : Class) → PhaseStands ds (phases.Semicolon s) → Says rs c (token_of t) → semicolon s c t ≡ Some m
      → PhaseBack ds (phases.Semicolon s) t ts m next
  semicolon_back s classes.Semicolon stands is e =
      let r = as_move Here (quiet_move (phases.Semicolon s)) m e rest in
      quietly ds (phases.Semicolon s) t ts m next (said_of (quiet_move (phases.Semicolon s)) m e) (r.0, r.1, inl (by r.0 r.2))
    where
      by : (subject : Node) → FurtherRest ds subject ts next ⊎ SubjectRest ds subject ts next → FurtherRest ds subject (token_of t ∷ ts) next
      by subject (inl f) = empty_further ds subject (token_of t) ts next is f
      by subject (inr f) = more_further ds subject (token_of t) ts next is f
  semicolon_back s classes.Dot stands is e =
      let r = as_move Here (quiet_move phases.Triples) m e rest in
      quietly ds (phases.Semicolon s) t ts m next (said_of (quiet_move phases.Triples) m e)
      (stands.0, stands.1, inl (after_further ds stands.0 (token_of t ∷ ts) next (goes_on is r)))
  semicolon_back s classes.Closing stands is e =
      let r = as_move Here (quiet_move phases.End) m e rest in
      quietly ds (phases.Semicolon s) t ts m next (said_of (quiet_move phases.End) m e)
      (stands.0, stands.1, inl (after_further ds stands.0 (token_of t ∷ ts) next (after_closing is r)))
  semicolon_back s c stands is e = semicolon_verb s c is e

  pub phase_back : (phase : Phase) (c : Class) → PhaseStands ds phase → Says rs c (token_of t) → decide phase c t ≡ Some m → PhaseBack ds phase t ts m next
  phase_back phases.Triples c stands is e = triples_back c is e
  phase_back (phases.String position form) c stands is e = string_phase position form c stands is e
  phase_back (phases.Carets position form) c stands is e = carets_phase position form c e
  phase_back (phases.Node position raw) c stands is e =
      let b = node_back ds rs position stands.0 raw stands.1 c t ts m next stands.2 stands.3 is e rest in
      record { more = b.more; rest = (stands.0, stands.1, stands.2, stands.3, b.rest); adds = b.adds }
  phase_back (phases.Verb s v) c stands is e =
      let b = first_back ds rs t ts next (positions.Object s v) c m e rest in
      quietly ds (phases.Verb s v) t ts m next (quiet_first (positions.Object s v) c t m e)
      (only_object ds s v b.place (token_of t ∷ ts) next b.place_is b.rest)
  phase_back (phases.Semicolon s) c stands is e = semicolon_back s c stands is e
  phase_back phases.End c stands is e = absurd cc
  phase_back _ c stands is e = absurd stands

-- ---- from within the triples a move leads to within the triples

abbrev pub IsLater : Phase → Type 0
IsLater phases.Prologue = ⊥
IsLater phases.Prefix = ⊥
IsLater (phases.PrefixName n) = ⊥
IsLater phases.Select = ⊥
IsLater phases.Star = ⊥
IsLater phases.Columns = ⊥
IsLater phases.Where = ⊥
IsLater _ = Unit {0}

abbrev pub IsLaterSaid : Said → Type 0
IsLaterSaid said.Nothing = Unit {0}
IsLaterSaid (said.Triple t) = Unit {0}
IsLaterSaid _ = ⊥

abbrev pub IsLaterMove : Move → Type 0
IsLaterMove m = IsLater m.phase × IsLaterSaid m.said

later_of : (made m : Move) → Some made ≡ Some m → IsLaterMove made → IsLaterMove m
later_of made m e h = let same : made ≡ m = cc in subst IsLaterMove same h

later_verb : (raw : Raw) (verb : Option Raw) (m : Move) → verb_read raw verb ≡ Some m → IsLaterMove m
later_verb raw None m e = absurd cc
later_verb raw (Some verb) m e = later_of (record { phase = phases.Verb raw verb; said = said.Nothing }) m e (tt, tt)

later_whole : (position : Position) (node : Option Raw) (m : Move) → whole_node position node ≡ Some m → IsLaterMove m
later_whole position None m e = absurd cc
later_whole position (Some raw) m e = later_of (record { phase = phases.Node position raw; said = said.Nothing }) m e (tt, tt)

later_first : (position : Position) (c : Class) (t : Found) (m : Move) → first_of_node position c t ≡ Some m → IsLaterMove m
later_first position classes.Str t m e = later_of (record { phase = phases.String position t; said = said.Nothing }) m e (tt, tt)
later_first position classes.Var t m e = later_whole position (node_of classes.Var t) m e
later_first position classes.Iriref t m e = later_whole position (node_of classes.Iriref t) m e
later_first position (classes.PrefixName bare declared) t m e = later_whole position (node_of (classes.PrefixName bare declared) t) m e
later_first position classes.Label t m e = later_whole position (node_of classes.Label t) m e
later_first position classes.Integer t m e = later_whole position (node_of classes.Integer t) m e
later_first position classes.Decimal t m e = later_whole position (node_of classes.Decimal t) m e
later_first position classes.Boolean t m e = later_whole position (node_of classes.Boolean t) m e
later_first position _ t m e = absurd cc

later_separated : (raw : RawTriple) (c : Class) (m : Move) → separated raw c ≡ Some m → IsLaterMove m
later_separated raw classes.Comma m e = later_of (record { phase = phases.Verb raw.subject raw.predicate; said = said.Triple raw }) m e (tt, tt)
later_separated raw classes.Semicolon m e = later_of (record { phase = phases.Semicolon raw.subject; said = said.Triple raw }) m e (tt, tt)
later_separated raw classes.Dot m e = later_of (record { phase = phases.Triples; said = said.Triple raw }) m e (tt, tt)
later_separated raw classes.Closing m e = later_of (record { phase = phases.End; said = said.Triple raw }) m e (tt, tt)
later_separated raw _ m e = absurd cc

later_node : (position : Position) (raw : Raw) (c : Class) (t : Found) (m : Move) → behind_node position raw c t ≡ Some m → IsLaterMove m
later_node positions.Subject raw c t m e = later_verb raw (verb_of c t) m e
later_node (positions.Object s v) raw c t m e = later_separated (record { subject = s; predicate = v; object = raw }) c m e

later_string : (position : Position) (form : Found) (c : Class) (t : Found) (m : Move) → behind_string position form c t ≡ Some m → IsLaterMove m
later_string position form classes.Langtag t m e = later_of (record { phase = phases.Node position (nodes.Tagged form t); said = said.Nothing }) m e (tt, tt)
later_string position form classes.Carets t m e = later_of (record { phase = phases.Carets position form; said = said.Nothing }) m e (tt, tt)
later_string position form c t m e = later_node position (nodes.String form) c t m e

later_carets : (position : Position) (form : Found) (c : Class) (t : Found) (m : Move) → behind_carets position form c t ≡ Some m → IsLaterMove m
later_carets position form c t m e =
    let made : Move = record { phase = phases.Node position (nodes.Typed form t); said = said.Nothing } in
    later_of made m (only (λ (x : Option Move). x) (is_iri c) made m refl e).1 (tt, tt)

later_semicolon : (s : Raw) (c : Class) (t : Found) (m : Move) → semicolon s c t ≡ Some m → IsLaterMove m
later_semicolon s classes.Semicolon t m e = later_of (record { phase = phases.Semicolon s; said = said.Nothing }) m e (tt, tt)
later_semicolon s classes.Dot t m e = later_of (record { phase = phases.Triples; said = said.Nothing }) m e (tt, tt)
later_semicolon s classes.Closing t m e = later_of (record { phase = phases.End; said = said.Nothing }) m e (tt, tt)
later_semicolon s c t m e = later_verb s (verb_of c t) m e

later_triples : (c : Class) (t : Found) (m : Move) → triples c t ≡ Some m → IsLaterMove m
later_triples classes.Closing t m e = later_of (record { phase = phases.End; said = said.Nothing }) m e (tt, tt)
later_triples c t m e = later_first positions.Subject c t m e

pub later : (phase : Phase) (c : Class) (t : Found) (m : Move) → IsLater phase → decide phase c t ≡ Some m → IsLaterMove m
later phases.Triples c t m h e = later_triples c t m e
later (phases.String position form) c t m h e = later_string position form c t m e
later (phases.Carets position form) c t m h e = later_carets position form c t m e
later (phases.Node position raw) c t m h e = later_node position raw c t m e
later (phases.Verb s v) c t m h e = later_first (positions.Object s v) c t m e
later (phases.Semicolon s) c t m h e = later_semicolon s c t m e
later phases.End c t m h e = absurd cc
later _ c t m h e = absurd h
