-- What was read has values in each state that the machine reaches.
use Rattle.std.proofs.Common.{◌≡◌, ℕ, Bool, true, false, List, [], ◌∷◌, ◌++◌, map, Option, Some, None, refl, sym, ap, subst, ◌∙◌, inl, inr}
use Rattle.std.specs.Char.{to_ascii_lowercase}
use Rattle.std.specs.Str.{encode_utf8_all}
use Rattle.term_core.specs.declared.term.Term.TheVariants as terms
use Rattle.nt_text.specs.Cell.{xsd_string}
use Rattle.query_text.specs.declared.token.Token.{Token as Found}
use Rattle.query_text.specs.declared.class.Class.{Class}
use Rattle.query_text.specs.declared.class.Class.TheVariants as classes
use Rattle.query_text.specs.declared.class.Declaration.{Declaration as Declared}
use Rattle.query_text.specs.declared.phase.Node.{Node as Raw}
use Rattle.query_text.specs.declared.phase.Node.TheVariants as nodes
use Rattle.query_text.specs.declared.phase.Triple.{Triple as RawTriple}
use Rattle.query_text.specs.declared.phase.Position.{Position}
use Rattle.query_text.specs.declared.phase.Position.TheVariants as positions
use Rattle.query_text.specs.declared.phase.Phase.{Phase}
use Rattle.query_text.specs.declared.phase.Phase.TheVariants as phases
use Rattle.query_text.specs.declared.phase.Said.{Said}
use Rattle.query_text.specs.declared.phase.Said.TheVariants as said
use Rattle.query_text.specs.declared.phase.Move.{Move}
use Rattle.query_text.specs.Tokens.{Token, IsToken}
use Rattle.query_text.specs.Grammar.{Declaration, Node, Variable, Label, Constant, Triple, triple, Columns, All, These, NamesIri, IsPrefixedNameToken, iri_for, iri_node, literal_node, xsd_integer, xsd_decimal, xsd_boolean, rdf_type}
use Rattle.query_text.specs.Reading.{token_of}
use Rattle.query_text.specs.Parsing.{State, start, step, noted, applied, decide, first_of_node, whole_node, node_of, verb_of, verb_read, with_verb, separated, behind_node, behind_string, behind_carets, semicolon, triples, is_iri, is_empty, prefix_at, local_at}
use Rattle.query_text.specs.Saying.{AreDeclared, AreNames, AreTriplesOf, ColumnsAre, NodeIs}
use Rattle.query_text.proofs.Choices.{only}
use Rattle.query_text.proofs.Classes.{class, class_says, Says}
use Rattle.query_text.proofs.Prefixes.{iri_from, prefix_is, local_is}
use Rattle.query_text.proofs.Rests.{Place, AtSubject, AtObject}
use Rattle.query_text.proofs.Moves.{PlaceIs}
use Rattle.query_text.proofs.Headings.{IsFresh, names_push, triples_push, declared_push}
use Rattle.query_text.proofs.Back.{PhaseStands}
use Rattle.query_text.proofs.StatesBack.{after}

-- within the triples: the columns, the triples that were read, and what was read last
pub record LaterStands (ds : List Declaration) (phase : Phase) (state : State) : Type 0 where
  pub columns : Columns
  pub done : List Triple
  pub columns_are : ColumnsAre state.all state.columns columns
  pub done_are : AreTriplesOf ds state.triples done
  pub last : PhaseStands ds phase

abbrev pub StandsBy : Phase → List Declaration → State → Type 0
StandsBy phases.Prologue ds state = IsFresh state
StandsBy phases.Prefix ds state = IsFresh state
StandsBy (phases.PrefixName t) ds state = IsFresh state × ((name : List ℕ) × IsPrefixedNameToken (token_of t) name [])
StandsBy phases.Select ds state = IsFresh state
StandsBy phases.Star ds state = (state.all ≡ true) × (state.triples ≡ [])
StandsBy phases.Columns ds state = (state.all ≡ false) × (state.triples ≡ []) × ((names : List (List ℕ)) × AreNames state.columns names)
StandsBy phases.Where ds state = (state.triples ≡ []) × ((columns : Columns) × ColumnsAre state.all state.columns columns)
StandsBy phase ds state = LaterStands ds phase state

-- all that was read has a value
pub record Stands (state : State) : Type 0 where
  pub ds : List Declaration
  pub declared : AreDeclared state.declarations ds
  pub goes : StandsBy state.phase ds state

pub start_stands : Stands start
start_stands = record { ds = []; declared = tt; goes = record { all = refl; columns = refl; triples = refl } }

-- what holds of what was made holds of what was found
kept : {A : Type 0} (P : A → Type 0) (made found : A) → Some made ≡ Some found → P made → P found
kept P made found e h = let same : made ≡ found = cc in subst P same h

abbrev quiet : Phase → Move
quiet phase = record { phase = phase; said = said.Nothing }

-- ---- within the triples

abbrev SaidStands : List Declaration → Said → Type 0
SaidStands ds said.Nothing = Unit {0}
SaidStands ds (said.Triple r) = (s v o : Node) × NodeIs ds r.subject s × NodeIs ds r.predicate v × NodeIs ds r.object o
SaidStands ds _ = ⊥

abbrev MoveStands : List Declaration → Move → Type 0
MoveStands ds m = PhaseStands ds m.phase × SaidStands ds m.said

abbrev HasNode : List Declaration → Raw → Type 0
HasNode ds raw = (node : Node) × NodeIs ds raw node

module _ (ds : List Declaration) (rs : List Declared) (declared : AreDeclared rs ds) (t : Found) (m : Move) where
  abbrev HasIriOf : Type 0
  HasIriOf = (iri : List ℕ) × NamesIri ds (token_of t) iri

  iri_named : (c : Class) → is_iri c ≡ true → Says rs c (token_of t) → HasIriOf
  iri_named classes.Iriref h is = (is.0, inl is.1)
  iri_named (classes.PrefixName bare known) h is =
      let has = iri_from rs ds (prefix_at t.characters.now) declared (sym is.4 ∙ h) in (
        has.base ++ is.1,
        inr (record {
          «prefix» = is.0;
          local = is.1;
          base = has.base;
          name_is = is.2;
          declared = ap (iri_for ds) (sym (prefix_is t.characters.now is.0 is.1 is.2.is)) ∙ has.is;
          iri_is = refl;
        }),
      )
  iri_named _ h is = absurd cc

  node_made : (c : Class) (raw : Raw) → Says rs c (token_of t) → node_of c t ≡ Some raw → HasNode ds raw
  node_made classes.Var raw is e = kept (HasNode ds) (nodes.Variable t) raw e (Variable is.0, (is.0, is.1, refl))
  node_made classes.Iriref raw is e =
      let i = iri_named classes.Iriref refl is in kept (HasNode ds) (nodes.Iri t) raw e (iri_node i.0, (i.0, i.1, refl))
  node_made (classes.PrefixName bare true) raw is e =
      let i = iri_named (classes.PrefixName bare true) refl is in kept (HasNode ds) (nodes.Iri t) raw e (iri_node i.0, (i.0, i.1, refl))
  node_made (classes.PrefixName bare false) raw is e = absurd cc
  node_made classes.Label raw is e = kept (HasNode ds) (nodes.Label t) raw e (Label is.0, (is.0, is.1, refl))
  node_made classes.Integer raw is e = kept (HasNode ds) (nodes.Integer t) raw e (literal_node t.characters.now xsd_integer, (is, refl))
  node_made classes.Decimal raw is e = kept (HasNode ds) (nodes.Decimal t) raw e (literal_node t.characters.now xsd_decimal, (is, refl))
  node_made classes.Boolean raw is e =
      kept (HasNode ds) (nodes.Boolean t) raw e (literal_node (map to_ascii_lowercase t.characters.now) xsd_boolean, (is, refl))
  node_made _ raw is e = absurd cc

  verb_made : (c : Class) (raw : Raw) → Says rs c (token_of t) → verb_of c t ≡ Some raw → HasNode ds raw
  verb_made classes.Var raw is e = kept (HasNode ds) (nodes.Variable t) raw e (Variable is.0, (is.0, is.1, refl))
  verb_made classes.Iriref raw is e =
      let i = iri_named classes.Iriref refl is in kept (HasNode ds) (nodes.Iri t) raw e (iri_node i.0, (i.0, i.1, refl))
  verb_made (classes.PrefixName bare true) raw is e =
      let i = iri_named (classes.PrefixName bare true) refl is in kept (HasNode ds) (nodes.Iri t) raw e (iri_node i.0, (i.0, i.1, refl))
  verb_made (classes.PrefixName bare false) raw is e = absurd cc
  verb_made classes.A raw is e = kept (HasNode ds) nodes.Type raw e (iri_node rdf_type, refl)
  verb_made _ raw is e = absurd cc

  whole_stands : (position : Position) (place : Place) → PlaceIs ds position place → (node : Option Raw) → ((raw : Raw) → node ≡ Some raw → HasNode ds raw)
      → whole_node position node ≡ Some m → MoveStands ds m
  whole_stands position place p None has e = absurd cc
  whole_stands position place p (Some raw) has e =
      let n = has raw refl in kept (MoveStands ds) (quiet (phases.Node position raw)) m e ((place, n.0, p, n.1), tt)

  first_stands : (position : Position) (place : Place) → PlaceIs ds position place → (c : Class) → Says rs c (token_of t) → first_of_node position c t ≡ Some m
      → MoveStands ds m
  first_stands position place p classes.Str is e = kept (MoveStands ds) (quiet (phases.String position t)) m e ((place, is.0, p, is.1), tt)
  first_stands position place p c is e = whole_stands position place p (node_of c t) (λ raw k. node_made c raw is k) e

  read_stands : (raw : Raw) (subject : Node) → NodeIs ds raw subject → (verb : Option Raw) → ((v : Raw) → verb ≡ Some v → HasNode ds v)
      → verb_read raw verb ≡ Some m → MoveStands ds m
  read_stands raw subject is None has e = absurd cc
  read_stands raw subject is (Some v) has e =
      let n = has v refl in kept (MoveStands ds) (quiet (phases.Verb raw v)) m e ((subject, n.0, is, n.1), tt)

  verb_stands : (raw : Raw) (subject : Node) → NodeIs ds raw subject → (c : Class) → Says rs c (token_of t) → with_verb raw c t ≡ Some m → MoveStands ds m
  verb_stands raw subject h c is e = read_stands raw subject h (verb_of c t) (λ v k. verb_made c v is k) e

  separated_stands : (raw : RawTriple) (s v o : Node) → NodeIs ds raw.subject s → NodeIs ds raw.predicate v → NodeIs ds raw.object o → (c : Class)
      → separated raw c ≡ Some m → MoveStands ds m
  separated_stands raw s v o hs hv ho classes.Comma e =
      kept (MoveStands ds) (record { phase = phases.Verb raw.subject raw.predicate; said = said.Triple raw }) m e ((s, v, hs, hv), (s, v, o, hs, hv, ho))
  separated_stands raw s v o hs hv ho classes.Semicolon e =
      kept (MoveStands ds) (record { phase = phases.Semicolon raw.subject; said = said.Triple raw }) m e ((s, hs), (s, v, o, hs, hv, ho))
  separated_stands raw s v o hs hv ho classes.Dot e =
      kept (MoveStands ds) (record { phase = phases.Triples; said = said.Triple raw }) m e (tt, (s, v, o, hs, hv, ho))
  separated_stands raw s v o hs hv ho classes.Closing e =
      kept (MoveStands ds) (record { phase = phases.End; said = said.Triple raw }) m e (tt, (s, v, o, hs, hv, ho))
  separated_stands raw s v o hs hv ho _ e = absurd cc

  node_stands : (position : Position) (place : Place) (raw : Raw) (node : Node) → PlaceIs ds position place → NodeIs ds raw node → (c : Class)
      → Says rs c (token_of t) → behind_node position raw c t ≡ Some m → MoveStands ds m
  node_stands positions.Subject AtSubject raw node p h c is e = verb_stands raw node h c is e
  node_stands positions.Subject (AtObject s v) raw node p h c is e = absurd p
  node_stands (positions.Object s v) AtSubject raw node p h c is e = absurd p
  node_stands (positions.Object s v) (AtObject subject verb) raw node p h c is e =
      separated_stands (record { subject = s; predicate = v; object = raw }) subject verb node p.0 p.1 h c e

  string_stands : (position : Position) (form : Found) → PhaseStands ds (phases.String position form) → (c : Class) → Says rs c (token_of t)
      → behind_string position form c t ≡ Some m → MoveStands ds m
  string_stands position form (place, text, p, h) classes.Langtag is e =
      kept (MoveStands ds) (quiet (phases.Node position (nodes.Tagged form t))) m e
      ((place, Constant (terms.Tagged text is.0), p, (text, is.0, h, is.1, refl)), tt)
  string_stands position form (place, text, p, h) classes.Carets is e = kept (MoveStands ds) (quiet (phases.Carets position form)) m e ((place, text, p, h), tt)
  string_stands position form (place, text, p, h) c is e =
      node_stands position place (nodes.String form) (literal_node text xsd_string) p (text, h, refl) c is e

  carets_stands : (position : Position) (form : Found) → PhaseStands ds (phases.Carets position form) → (c : Class) → Says rs c (token_of t)
      → behind_carets position form c t ≡ Some m → MoveStands ds m
  carets_stands position form (place, text, p, h) c is e =
      let made = quiet (phases.Node position (nodes.Typed form t)) in
      let taken = only (λ (x : Option Move). x) (is_iri c) made m refl e in
      let i = iri_named c taken.0 is in
      kept (MoveStands ds) made m taken.1 ((place, literal_node text i.0, p, (text, i.0, h, i.1, refl)), tt)

  semicolon_stands : (raw : Raw) (subject : Node) → NodeIs ds raw subject → (c : Class) → Says rs c (token_of t) → semicolon raw c t ≡ Some m → MoveStands ds m
  semicolon_stands raw subject h classes.Semicolon is e = kept (MoveStands ds) (quiet (phases.Semicolon raw)) m e ((subject, h), tt)
  semicolon_stands raw subject h classes.Dot is e = kept (MoveStands ds) (quiet phases.Triples) m e (tt, tt)
  semicolon_stands raw subject h classes.Closing is e = kept (MoveStands ds) (quiet phases.End) m e (tt, tt)
  semicolon_stands raw subject h c is e = verb_stands raw subject h c is e

  triples_stand : (c : Class) → Says rs c (token_of t) → triples c t ≡ Some m → MoveStands ds m
  triples_stand classes.Closing is e = kept (MoveStands ds) (quiet phases.End) m e (tt, tt)
  triples_stand c is e = first_stands positions.Subject AtSubject tt c is e

  move_stands : (phase : Phase) (c : Class) → PhaseStands ds phase → Says rs c (token_of t) → decide phase c t ≡ Some m → MoveStands ds m
  move_stands phases.Triples c h is e = triples_stand c is e
  move_stands (phases.String position form) c h is e = string_stands position form h c is e
  move_stands (phases.Carets position form) c h is e = carets_stands position form h c is e
  move_stands (phases.Node position raw) c h is e = node_stands position h.0 raw h.1 h.2 h.3 c is e
  move_stands (phases.Verb s v) c h is e = first_stands (positions.Object s v) (AtObject h.0 h.1) (h.2, h.3) c is e
  move_stands (phases.Semicolon s) c h is e = semicolon_stands s h.0 h.1 c is e
  move_stands phases.End c h is e = absurd cc
  move_stands _ c h is e = absurd h

later_by : (phase : Phase) (ds : List Declaration) (state : State) → LaterStands ds phase state → StandsBy phase ds state
later_by phases.Prologue ds state h = absurd h.last
later_by phases.Prefix ds state h = absurd h.last
later_by (phases.PrefixName t) ds state h = absurd h.last
later_by phases.Select ds state h = absurd h.last
later_by phases.Star ds state h = absurd h.last
later_by phases.Columns ds state h = absurd h.last
later_by phases.Where ds state h = absurd h.last
later_by _ ds state h = h

said_stands : (ds : List Declaration) (state : State) (phase before : Phase) (what : Said) → AreDeclared state.declarations ds → LaterStands ds before state
    → PhaseStands ds phase → SaidStands ds what → Stands (record (noted state what) { phase = phase })
said_stands ds state phase before said.Nothing declared h last adds = record {
  ds = ds;
  declared = declared;
  goes = later_by phase ds (record state { phase = phase })
      (record { columns = h.columns; done = h.done; columns_are = h.columns_are; done_are = h.done_are; last = last });
}
said_stands ds state phase before (said.Triple r) declared h last adds = record {
  ds = ds;
  declared = declared;
  goes = later_by phase ds (record (noted state (said.Triple r)) { phase = phase }) (record {
    columns = h.columns;
    done = h.done ++ triple adds.0 adds.1 adds.2 ∷ [];
    columns_are = h.columns_are;
    done_are = triples_push ds state.triples h.done r adds.0 adds.1 adds.2 h.done_are adds.3 adds.4 adds.5;
    last = last;
  });
}
said_stands ds state phase before _ declared h last adds = absurd adds

later_stands : (ds : List Declaration) (state : State) (t : Found) (m : Move) (phase : Phase) → AreDeclared state.declarations ds → LaterStands ds phase state
    → (c : Class) → Says state.declarations c (token_of t) → decide phase c t ≡ Some m → Stands (after state m)
later_stands ds state t m phase declared h c is e =
    let next = move_stands ds state.declarations declared t m phase c h.last is e in
    said_stands ds state m.phase phase m.said declared h next.0 next.1

-- ---- before the triples

nothing_there : (xs : List ℕ) → is_empty xs ≡ true → xs ≡ []
nothing_there [] h = refl
nothing_there (x ∷ xs) h = absurd cc

bare_token : (token : Token) («prefix» local : List ℕ) → IsPrefixedNameToken token «prefix» local → true ≡ is_empty (local_at token.characters)
    → IsPrefixedNameToken token «prefix» []
bare_token token p local h e =
    let none : h.is.behind ≡ [] = sym (local_is token.characters p local h.is) ∙ nothing_there (local_at token.characters) (sym e) in
    let empty : local ≡ [] = h.is.local_is ∙ ap encode_utf8_all none in
    subst (λ (x : List ℕ). IsPrefixedNameToken token p x) empty h

module _ (ds : List Declaration) (state : State) (declared : AreDeclared state.declarations ds) (t : Found) (m : Move) where
  abbrev Next : Move → Type 0
  Next z = Stands (after state z)

  fresh : IsFresh state → (phase : Phase) → IsFresh (record state { phase = phase })
  fresh h phase = record { all = h.all; columns = h.columns; triples = h.triples }

  prologue_stands : (c : Class) → IsFresh state → decide phases.Prologue c t ≡ Some m → Next m
  prologue_stands classes.PrefixWord h e =
      kept Next (quiet phases.Prefix) m e (record { ds = ds; declared = declared; goes = fresh h phases.Prefix })
  prologue_stands classes.SelectWord h e =
      kept Next (quiet phases.Select) m e (record { ds = ds; declared = declared; goes = fresh h phases.Select })
  prologue_stands _ h e = absurd cc

  prefix_stands : (c : Class) → IsFresh state → Says state.declarations c (token_of t) → decide phases.Prefix c t ≡ Some m → Next m
  prefix_stands (classes.PrefixName true known) h is e =
      kept Next (quiet (phases.PrefixName t)) m e (record {
        ds = ds;
        declared = declared;
        goes = (fresh h (phases.PrefixName t), (is.0, bare_token (token_of t) is.0 is.1 is.2 is.3));
      })
  prefix_stands (classes.PrefixName false known) h is e = absurd cc
  prefix_stands _ h is e = absurd cc

  name_stands : (n : Found) (c : Class) → StandsBy (phases.PrefixName n) ds state → Says state.declarations c (token_of t)
      → decide (phases.PrefixName n) c t ≡ Some m → Next m
  name_stands n classes.Iriref (h, (name, name_is)) is e =
      let d : Declared = record { name = n; iri = t } in
      kept Next (record { phase = phases.Prologue; said = said.Declaration d }) m e (record {
        ds = ds ++ record { «prefix» = name; iri = is.0 } ∷ [];
        declared = declared_push state.declarations ds d name is.0 declared name_is is.1;
        goes = record { all = h.all; columns = h.columns; triples = h.triples };
      })
  name_stands n _ h is e = absurd cc

  abbrev column : Move
  column = record { phase = phases.Columns; said = said.Column t }

  select_stands : (c : Class) → IsFresh state → Says state.declarations c (token_of t) → decide phases.Select c t ≡ Some m → Next m
  select_stands classes.Star h is e =
      kept Next (record { phase = phases.Star; said = said.AllColumns }) m e (record { ds = ds; declared = declared; goes = (refl, h.triples) })
  select_stands classes.Var h is e =
      let first = subst (λ (z : List Found). AreNames (z ++ t ∷ []) (is.0 ∷ [])) (sym h.columns) (is.1, tt) in
      kept Next column m e (record { ds = ds; declared = declared; goes = (h.all, h.triples, (is.0 ∷ [], first)) })
  select_stands _ h is e = absurd cc

  opened : (columns : Columns) → ColumnsAre state.all state.columns columns → state.triples ≡ [] → Next (quiet phases.Triples)
  opened columns are none = record {
    ds = ds;
    declared = declared;
    goes = record {
      columns = columns;
      done = [];
      columns_are = are;
      done_are = subst (λ (x : List RawTriple). AreTriplesOf ds x []) (sym none) tt;
      last = tt;
    };
  }

  star_stands : (c : Class) → (columns : Columns) → ColumnsAre state.all state.columns columns → state.triples ≡ [] → decide phases.Star c t ≡ Some m → Next m
  star_stands classes.WhereWord columns are none e =
      kept Next (quiet phases.Where) m e (record { ds = ds; declared = declared; goes = (none, (columns, are)) })
  star_stands classes.Opening columns are none e = kept Next (quiet phases.Triples) m e (opened columns are none)
  star_stands _ columns are none e = absurd cc

  columns_stand : (c : Class) → StandsBy phases.Columns ds state → Says state.declarations c (token_of t) → decide phases.Columns c t ≡ Some m → Next m
  columns_stand classes.Var (all, none, (names, are)) is e =
      kept Next column m e (record { ds = ds; declared = declared; goes = (all, none, (names ++ is.0 ∷ [], names_push state.columns names t is.0 are is.1)) })
  columns_stand c (all, none, (names, are)) is e =
      star_stands c (These names) (subst (λ (b : Bool). ColumnsAre b state.columns (These names)) (sym all) (names, are, refl)) none e

  where_stands : (c : Class) → StandsBy phases.Where ds state → decide phases.Where c t ≡ Some m → Next m
  where_stands classes.Opening (none, (columns, are)) e = kept Next (quiet phases.Triples) m e (opened columns are none)
  where_stands _ h e = absurd cc

  by_phase : (phase : Phase) (c : Class) → StandsBy phase ds state → Says state.declarations c (token_of t) → decide phase c t ≡ Some m → Next m
  by_phase phases.Prologue c h is e = prologue_stands c h e
  by_phase phases.Prefix c h is e = prefix_stands c h is e
  by_phase (phases.PrefixName n) c h is e = name_stands n c h is e
  by_phase phases.Select c h is e = select_stands c h is e
  by_phase phases.Star c h is e =
      star_stands c All (subst (λ (b : Bool). ColumnsAre b state.columns All) (sym h.0) refl) h.1 e
  by_phase phases.Columns c h is e = columns_stand c h is e
  by_phase phases.Where c h is e = where_stands c h e
  by_phase phase c h is e = later_stands ds state t m phase declared h c is e

-- ---- one token

-- the move that a step made
pub record Moved (state : State) (t : Found) (next : State) : Type 0 where
  pub move : Move
  pub is : decide state.phase (class state.declarations (token_of t)) t ≡ Some move
  pub to : after state move ≡ next

pub moved : (state : State) (t : Found) (next : State) → step state t ≡ Some next → Moved state t next
moved state t next e = by (decide state.phase (class state.declarations (token_of t)) t) refl e
  where
    by : (made : Option Move) → decide state.phase (class state.declarations (token_of t)) t ≡ made → applied state made ≡ Some next → Moved state t next
    by None k h = absurd cc
    by (Some m) k h = record { move = m; is = k; to = cc }

-- what the machine goes on with stands again
pub step_stands : (state : State) (t : Found) (next : State) → IsToken (token_of t) → Stands state → step state t ≡ Some next → Stands next
step_stands state t next token h e =
    let m = moved state t next e in
    subst Stands m.to (by_phase h.ds state h.declared t m.move state.phase (class state.declarations (token_of t)) h.goes
    (class_says state.declarations (token_of t) token) m.is)
