-- From the state behind a token back to the one before it, before the triples.
use Rattle.std.proofs.Common.{◌≡◌, Bool, true, false, List, [], ◌∷◌, ◌++◌, Some, refl, sym, ap, subst, ◌∙◌, inl, append_assoc}
use Rattle.std.proofs.lemmas.List.{append-nil}
use Rattle.query_text.specs.declared.token.Token.{Token as Found}
use Rattle.query_text.specs.declared.class.Class.{Class}
use Rattle.query_text.specs.declared.class.Class.TheVariants as classes
use Rattle.query_text.specs.declared.class.Declaration.{Declaration as Declared}
use Rattle.query_text.specs.declared.phase.Triple.{Triple as RawTriple}
use Rattle.query_text.specs.declared.phase.Phase.{Phase}
use Rattle.query_text.specs.declared.phase.Phase.TheVariants as phases
use Rattle.query_text.specs.declared.phase.Said.{Said}
use Rattle.query_text.specs.declared.phase.Said.TheVariants as said
use Rattle.query_text.specs.declared.phase.Move.{Move}
use Rattle.query_text.specs.Tokens.{Token}
use Rattle.query_text.specs.Grammar.{Declaration, Node, Triple, triple, All, These, Written}
use Rattle.query_text.specs.Reading.{token_of}
use Rattle.query_text.specs.Parsing.{State, noted, decide}
use Rattle.query_text.specs.Saying.{AreDeclared, ColumnsAre, NodeIs, AreTriplesOf}
use Rattle.query_text.proofs.Classes.{class, Says}
use Rattle.query_text.proofs.Rests.{Tail}
use Rattle.query_text.proofs.Headings.{BracesRest, ColumnsRest, TriplesRest, IsFresh, RestBy, Rest}
use Rattle.query_text.proofs.Moves.{PhaseRest, Adds}
use Rattle.query_text.proofs.Back.{PhaseStands, phase_back, IsLater, IsLaterSaid, later}
use Rattle.query_text.proofs.Same.{node_same, declared_same}
use Rattle.query_text.proofs.HeadingsBack.{select_back, prefix_back, name_back, last_declared, iri_back, star_back, column_back, first_column_back, where_back, brace_back, opening_back}

abbrev pub after : State → Move → State
after state m = record (noted state m.said) { phase = m.phase }

as_move : (P : Move → Type 0) (made move : Move) → Some made ≡ Some move → P move → P made
as_move P made move e h = let same : move ≡ made = cc in subst P same h

abbrev quiet : Phase → Move
quiet phase = record { phase = phase; said = said.Nothing }

no_triples : (ds : List Declaration) (done : List Triple) → AreTriplesOf ds [] done → done ≡ []
no_triples ds [] h = refl
no_triples ds (t ∷ ts) h = absurd h

-- where no triple was read, all are still to come
all_to_come : (ds : List Declaration) (state : State) (ts : List Token) (query : Written) → state.triples ≡ [] → state.phase ≡ phases.Triples → TriplesRest ds state ts query
    → Tail ds ts query.triples
all_to_come ds state ts query e at r =
    let none : r.done ≡ [] = no_triples ds r.done (subst (λ (z : List RawTriple). AreTriplesOf ds z r.done) e r.done_are) in
    let all : query.triples ≡ r.more = r.all ∙ ap (λ (z : List Triple). z ++ r.more) none in
    subst (λ (z : List Triple). Tail ds ts z) (sym all) (subst (λ (p : Phase). PhaseRest ds p ts r.more) at r.goes)

-- ---- the state before stands

abbrev pub HeadingStands : Phase → State → Type 0
HeadingStands phases.Prologue state = IsFresh state
HeadingStands phases.Prefix state = IsFresh state
HeadingStands (phases.PrefixName n) state = IsFresh state
HeadingStands phases.Select state = IsFresh state
HeadingStands phases.Star state = (state.all ≡ true) × (state.triples ≡ [])
HeadingStands phases.Columns state = (state.all ≡ false) × (state.triples ≡ [])
HeadingStands phases.Where state = state.triples ≡ []
HeadingStands _ state = ⊥

module _ (state : State) (t : Found) (ts : List Token) (query : Written) (m : Move) (rest : Rest (after state m) ts query) where
  abbrev pub Goal : Phase → Type 0
  Goal phase = (ds : List Declaration) × AreDeclared state.declarations ds × RestBy phase ds state (token_of t ∷ ts) query

  abbrev Here : Move → Type 0
  Here z = Rest (after state z) ts query

  prologue_state : (c : Class) → IsFresh state → Says state.declarations c (token_of t) → decide phases.Prologue c t ≡ Some m → Goal phases.Prologue
  prologue_state classes.PrefixWord stands is e =
      let r = as_move Here (quiet phases.Prefix) m e rest in
      (r.ds, r.declared, (stands, prefix_back r.ds (token_of t) ts query is r.goes.1))
  prologue_state classes.SelectWord stands is e =
      let r = as_move Here (quiet phases.Select) m e rest in
      (r.ds, r.declared, (stands, select_back r.ds (token_of t) ts query is r.goes.1))
  prologue_state _ stands is e = absurd cc

  prefix_state : (c : Class) → IsFresh state → decide phases.Prefix c t ≡ Some m → Goal phases.Prefix
  prefix_state (classes.PrefixName true declared) stands e =
      let r = as_move Here (quiet (phases.PrefixName t)) m e rest in
      let g = r.goes.1 in
      (r.ds, r.declared, (stands, name_back r.ds (token_of t) ts query g.0 g.1 g.2))
  prefix_state (classes.PrefixName false declared) stands e = absurd cc
  prefix_state _ stands e = absurd cc

  name_state : (n : Found) (c : Class) → IsFresh state → decide (phases.PrefixName n) c t ≡ Some m → Goal (phases.PrefixName n)
  name_state n classes.Iriref stands e =
      let d : Declared = record { name = n; iri = t } in
      let r = as_move Here (record { phase = phases.Prologue; said = said.Declaration d }) m e rest in
      let l = last_declared state.declarations d r.ds r.declared in
      (l.front, l.front_is, (stands, (l.name, l.name_is, iri_back l.front r.ds (token_of t) ts query l.name l.iri l.cut l.iri_is r.goes.1)))
  name_state n _ stands e = absurd cc

  select_state : (c : Class) → IsFresh state → Says state.declarations c (token_of t) → decide phases.Select c t ≡ Some m → Goal phases.Select
  select_state classes.Star stands is e =
      let r = as_move Here (record { phase = phases.Star; said = said.AllColumns }) m e rest in
      (r.ds, r.declared, (stands, star_back r.ds (token_of t) ts query is r.goes.2 r.goes.3))
  select_state classes.Var stands is e =
      let r = as_move Here (record { phase = phases.Columns; said = said.Column t }) m e rest in (
        r.ds,
        r.declared,
        (
          stands,
          first_column_back r.ds t ts query
              (subst (λ (z : List Found). ColumnsRest r.ds (z ++ t ∷ []) ts query) stands.columns r.goes.2),
        ),
      )
  select_state _ stands is e = absurd cc

  star_columns : state.all ≡ true → ColumnsAre state.all state.columns query.columns → query.columns ≡ All
  star_columns e h = subst (λ (b : Bool). ColumnsAre b state.columns query.columns) e h

  star_state : (c : Class) → HeadingStands phases.Star state → Says state.declarations c (token_of t) → decide phases.Star c t ≡ Some m → Goal phases.Star
  star_state classes.WhereWord stands is e =
      let r = as_move Here (quiet phases.Where) m e rest in
      (r.ds, r.declared, (stands.0, stands.1, star_columns stands.0 r.goes.1, where_back r.ds (token_of t) ts query.triples is r.goes.2))
  star_state classes.Opening stands is e =
      let r = as_move Here (quiet phases.Triples) m e rest in
      let tail = all_to_come r.ds (after state (quiet phases.Triples)) ts query stands.1 refl r.goes in
      (r.ds, r.declared, (stands.0, stands.1, star_columns stands.0 r.goes.columns, brace_back r.ds (token_of t) ts query.triples is tail))
  star_state _ stands is e = absurd cc

  -- no more columns
  last_column : (ds : List Declaration) → state.all ≡ false → ColumnsAre state.all state.columns query.columns → BracesRest ds (token_of t ∷ ts) query.triples
      → ColumnsRest ds state.columns (token_of t ∷ ts) query
  last_column ds e h braces =
      let c = subst (λ (b : Bool). ColumnsAre b state.columns query.columns) e h in
      record { names = c.0; more = []; behind = token_of t ∷ ts; read_are = c.1; goes = inl (refl, refl); all = c.2 ∙ ap These (sym (append-nil c.0)); braces = braces }

  columns_state : (c : Class) → HeadingStands phases.Columns state → Says state.declarations c (token_of t) → decide phases.Columns c t ≡ Some m → Goal phases.Columns
  columns_state classes.Var stands is e =
      let r = as_move Here (record { phase = phases.Columns; said = said.Column t }) m e rest in
      (r.ds, r.declared, (stands.0, stands.1, column_back r.ds state.columns t ts query r.goes.2))
  columns_state classes.WhereWord stands is e =
      let r = as_move Here (quiet phases.Where) m e rest in
      (r.ds, r.declared, (stands.0, stands.1, last_column r.ds stands.0 r.goes.1 (where_back r.ds (token_of t) ts query.triples is r.goes.2)))
  columns_state classes.Opening stands is e =
      let r = as_move Here (quiet phases.Triples) m e rest in
      let tail = all_to_come r.ds (after state (quiet phases.Triples)) ts query stands.1 refl r.goes in
      (r.ds, r.declared, (stands.0, stands.1, last_column r.ds stands.0 r.goes.columns (brace_back r.ds (token_of t) ts query.triples is tail)))
  columns_state _ stands is e = absurd cc

  where_state : (c : Class) → state.triples ≡ [] → Says state.declarations c (token_of t) → decide phases.Where c t ≡ Some m → Goal phases.Where
  where_state classes.Opening stands is e =
      let r = as_move Here (quiet phases.Triples) m e rest in
      let tail = all_to_come r.ds (after state (quiet phases.Triples)) ts query stands refl r.goes in
      (r.ds, r.declared, (stands, r.goes.columns, opening_back r.ds (token_of t) ts query.triples is tail))
  where_state _ stands is e = absurd cc

  pub heading_back : (phase : Phase) (c : Class) → HeadingStands phase state → Says state.declarations c (token_of t) → decide phase c t ≡ Some m → Goal phase
  heading_back phases.Prologue c stands is e = prologue_state c stands is e
  heading_back phases.Prefix c stands is e = prefix_state c stands e
  heading_back (phases.PrefixName n) c stands is e = name_state n c stands e
  heading_back phases.Select c stands is e = select_state c stands is e
  heading_back phases.Star c stands is e = star_state c stands is e
  heading_back phases.Columns c stands is e = columns_state c stands is e
  heading_back phases.Where c stands is e = where_state c stands is e
  heading_back _ c stands is e = absurd stands

-- ---- within the triples

as_triples : (phase : Phase) (ds : List Declaration) (state : State) (ts : List Token) (query : Written) → IsLater phase → RestBy phase ds state ts query
    → TriplesRest ds state ts query
as_triples phases.Prologue ds state ts query h r = absurd h
as_triples phases.Prefix ds state ts query h r = absurd h
as_triples (phases.PrefixName n) ds state ts query h r = absurd h
as_triples phases.Select ds state ts query h r = absurd h
as_triples phases.Star ds state ts query h r = absurd h
as_triples phases.Columns ds state ts query h r = absurd h
as_triples phases.Where ds state ts query h r = absurd h
as_triples _ ds state ts query h r = r

-- the last triple that was read
record LastTriple (ds : List Declaration) (rs : List RawTriple) (r : RawTriple) (done : List Triple) : Type 0 where
  front : List Triple
  subject : Node
  predicate : Node
  object : Node
  cut : done ≡ front ++ triple subject predicate object ∷ []
  front_is : AreTriplesOf ds rs front
  subject_is : NodeIs ds r.subject subject
  predicate_is : NodeIs ds r.predicate predicate
  object_is : NodeIs ds r.object object

last_triple : (ds : List Declaration) (rs : List RawTriple) (r : RawTriple) (done : List Triple) → AreTriplesOf ds (rs ++ r ∷ []) done → LastTriple ds rs r done
last_triple ds [] r [] h = absurd h
last_triple ds [] r (t ∷ []) h = record {
  front = [];
  subject = t.subject;
  predicate = t.predicate;
  object = t.object;
  cut = refl;
  front_is = tt;
  subject_is = h.0;
  predicate_is = h.1;
  object_is = h.2;
}
last_triple ds [] r (t ∷ u ∷ ts) h = absurd h.3
last_triple ds (x ∷ rs) r [] h = absurd h
last_triple ds (x ∷ rs) r (t ∷ ts) h =
    let l = last_triple ds rs r ts h.3 in record {
      front = t ∷ l.front;
      subject = l.subject;
      predicate = l.predicate;
      object = l.object;
      cut = ap (λ (z : List Triple). t ∷ z) l.cut;
      front_is = (h.0, h.1, h.2, l.front_is);
      subject_is = l.subject_is;
      predicate_is = l.predicate_is;
      object_is = l.object_is;
    }

pub triple_same : (a b c x y z : Node) → a ≡ x → b ≡ y → c ≡ z → triple a b c ≡ triple x y z
triple_same a b c x y z e f g = ap (λ (n : Node). triple n b c) e ∙ ap (λ (n : Node). triple x n c) f ∙ ap (λ (n : Node). triple x y n) g

module _ (ds : List Declaration) (state : State) (t : Found) (ts : List Token) (query : Written) (m : Move) (declared : AreDeclared state.declarations ds) where
  -- the rest, with the declarations that are known
  known : (what : Said) → IsLaterSaid what → IsLater m.phase → Rest (record (noted state what) { phase = m.phase }) ts query
      → TriplesRest ds (record (noted state what) { phase = m.phase }) ts query
  known said.Nothing h k r =
      subst (λ (z : List Declaration). TriplesRest z (record state { phase = m.phase }) ts query) (declared_same state.declarations r.ds ds r.declared declared)
      (as_triples m.phase r.ds (record state { phase = m.phase }) ts query k r.goes)
  known (said.Triple raw) h k r =
      subst (λ (z : List Declaration). TriplesRest z (record (noted state (said.Triple raw)) { phase = m.phase }) ts query)
      (declared_same state.declarations r.ds ds r.declared declared)
      (as_triples m.phase r.ds (record (noted state (said.Triple raw)) { phase = m.phase }) ts query k r.goes)
  known _ h k r = absurd h

  joined : (what : Said) → IsLaterSaid what → (r : TriplesRest ds (record (noted state what) { phase = m.phase }) ts query) (more : List Triple) → Adds ds what more r.more
      → PhaseRest ds state.phase (token_of t ∷ ts) more → TriplesRest ds state (token_of t ∷ ts) query
  joined said.Nothing h r more adds rest =
      record { done = r.done; more = more; columns = r.columns; done_are = r.done_are; goes = rest; all = r.all ∙ ap (λ (z : List Triple). r.done ++ z) (sym adds) }
  joined (said.Triple raw) h r more adds rest =
      let l = last_triple ds state.triples raw r.done r.done_are in
      let same = triple_same l.subject l.predicate l.object adds.0 adds.1 adds.2
      (node_same ds raw.subject l.subject adds.0 l.subject_is adds.3) (node_same ds raw.predicate l.predicate adds.1 l.predicate_is adds.4)
      (node_same ds raw.object l.object adds.2 l.object_is adds.5) in record {
        done = l.front;
        more = more;
        columns = r.columns;
        done_are = l.front_is;
        goes = rest;
        all = r.all ∙ ap (λ (z : List Triple). z ++ r.more) l.cut ∙ append_assoc l.front (triple l.subject l.predicate l.object ∷ []) r.more
            ∙ ap (λ (z : Triple). l.front ++ z ∷ r.more) same ∙ ap (λ (z : List Triple). l.front ++ z) (sym adds.6);
      }
  joined _ h r more adds rest = absurd h

  pub triples_back : PhaseStands ds state.phase → IsLater state.phase → Says state.declarations (class state.declarations (token_of t)) (token_of t)
      → decide state.phase (class state.declarations (token_of t)) t ≡ Some m → Rest (after state m) ts query → TriplesRest ds state (token_of t ∷ ts) query
  triples_back stands is_later is e rest =
      let c = class state.declarations (token_of t) in
      let k = later state.phase c t m is_later e in
      let r = known m.said k.1 k.0 rest in
      let b = phase_back ds state.declarations t ts m r.more r.goes state.phase c stands is e in
      joined m.said k.1 r b.more b.adds b.rest
