-- Where the tokens end: what the machine has read then is the query, and where more is wanted they are none.
use Rattle.std.proofs.Common.{◌≡◌, ◌≢◌, ◌⊎◌, ℕ, Bool, true, false, List, [], ◌∷◌, ◌++◌, map, Some, refl, sym, ap, subst, ◌∙◌, inl, inr}
use Rattle.std.proofs.lemmas.List.{append-nil}
use Rattle.query_text.specs.declared.token.Token.{Token as Found}
use Rattle.query_text.specs.declared.phase.Triple.{Triple as RawTriple}
use Rattle.query_text.specs.declared.phase.Phase.{Phase}
use Rattle.query_text.specs.declared.phase.Phase.TheVariants as phases
use Rattle.query_text.specs.Tokens.{Token}
use Rattle.query_text.specs.Grammar.{Declaration, Node, Triple, Columns, These, Written, IsNode, NodeVar, NodeIri, NodeLabel, NodeInteger, NodeDecimal, NodeBoolean, NodeString, NodeTagged, NodeTyped, IsVerb, VerbVar, VerbIri, VerbA, IsPrologue, EndOfPrologue, PrefixDecl, AreVars, LastVar, MoreVars, AreColumns, Star, Vars, IsWhere, NoWhere, Where, IsQuery}
use Rattle.query_text.specs.Reading.{token_of}
use Rattle.query_text.specs.Parsing.{State, start, run}
use Rattle.query_text.specs.Saying.{Says, AreNames, AreTriplesOf, ColumnsAre}
use Rattle.query_text.proofs.Rests.{Tail, AfterGroup, ends, goes_on, FurtherRest, further_first, AtSemicolon, SubjectRest, ObjectRest, at_comma, at_other, Place, AtSubject, AtObject, NodeRest, FirstRest, tail_first, AtClosing}
use Rattle.query_text.proofs.Moves.{StringRest, plain, tagged, typed, PhaseRest}
use Rattle.query_text.proofs.Headings.{BracesRest, TriplesRest, RestBy, Rest}
use Rattle.query_text.proofs.Values.{variable_same}
use Rattle.query_text.proofs.Same.{node_same, declared_same}
use Rattle.query_text.proofs.StatesBack.{triple_same}
use Rattle.query_text.proofs.Complete.{runs}
use Rattle.query_text.proofs.Stands.{LaterStands, StandsBy}
use Rattle.query_text.proofs.Backwards.{AreFound, reached_stands, reads_back}

-- ---- nothing is left

no_node : (ds : List Declaration) (ts behind : List Token) (node : Node) → IsNode ds ts behind node → ts ≢ []
no_node ds _ behind node (NodeVar h) e = cc
no_node ds _ behind node (NodeIri h) e = cc
no_node ds _ behind node (NodeLabel h) e = cc
no_node ds _ behind _ (NodeInteger h) e = cc
no_node ds _ behind _ (NodeDecimal h) e = cc
no_node ds _ behind _ (NodeBoolean h) e = cc
no_node ds _ behind node (NodeString h) e = cc
no_node ds _ behind node (NodeTagged h k) e = cc
no_node ds _ behind node (NodeTyped h k i) e = cc

no_verb : (ds : List Declaration) (ts behind : List Token) (verb : Node) → IsVerb ds ts behind verb → ts ≢ []
no_verb ds _ behind verb (VerbVar h) e = cc
no_verb ds _ behind verb (VerbIri h) e = cc
no_verb ds _ behind verb (VerbA k h) e = cc

no_after : (ds : List Declaration) (ts : List Token) (more : List Triple) → AfterGroup ds ts more → ts ≢ []
no_after ds _ more (ends h) e = cc
no_after ds _ more (goes_on h t) e = cc

no_further : (ds : List Declaration) (s : Node) (more : List Triple) → FurtherRest ds s [] more → ⊥
no_further ds s more r = by (further_first ds s [] more r)
  where
    by : AfterGroup ds [] more ⊎ AtSemicolon ds s [] more → ⊥
    by (inl h) = no_after ds [] more h refl
    by (inr h) = let wrong : [] ≡ h.semicolon ∷ h.rest = h.cut in cc

no_subject : (ds : List Declaration) (s : Node) (more : List Triple) → SubjectRest ds s [] more → ⊥
no_subject ds s more r = no_verb ds [] r.behind r.verb r.verb_is refl

no_object : (ds : List Declaration) (s v o : Node) (ts : List Token) (more : List Triple) → ObjectRest ds s v o ts more → ts ≢ []
no_object ds s v o _ more (at_comma h r) e = cc
no_object ds s v o ts _ (at_other {others = others} r) e = no_further ds s others (subst (λ (z : List Token). FurtherRest ds s z others) e r)

no_rest : (ds : List Declaration) (place : Place) (node : Node) (more : List Triple) → NodeRest ds place node [] more → ⊥
no_rest ds AtSubject node more r = no_subject ds node more r
no_rest ds (AtObject s v) node more r = no_object ds s v node [] more r refl

no_first : (ds : List Declaration) (place : Place) (more : List Triple) → FirstRest ds place [] more → ⊥
no_first ds place more r = no_node ds [] r.behind r.node r.node_is refl

no_tail : (ds : List Declaration) (more : List Triple) → Tail ds [] more → ⊥
no_tail ds more r = by (tail_first ds [] more r)
  where
    by : AtClosing [] more ⊎ FirstRest ds AtSubject [] more → ⊥
    by (inl h) = let wrong : [] ≡ h.closing ∷ [] = h.cut in cc
    by (inr h) = no_first ds AtSubject more h

no_string : (ds : List Declaration) (place : Place) (t : Token) (more : List Triple) → StringRest ds place t [] more → ⊥
no_string ds place t more (plain form h r) = no_rest ds place _ more r
no_string ds place t more (tagged form tag mark rest e h k r) = let wrong : [] ≡ mark ∷ rest = e in cc
no_string ds place t more (typed mark rest e h r) = let wrong : [] ≡ mark ∷ rest = e in cc

no_vars : (ts behind : List Token) (names : List (List ℕ)) → AreVars ts behind names → ts ≢ []
no_vars _ behind _ (LastVar h) e = cc
no_vars _ behind _ (MoreVars h r) e = cc

no_columns : (ts behind : List Token) (columns : Columns) → AreColumns ts behind columns → ts ≢ []
no_columns _ behind _ (Star h) e = cc
no_columns ts behind _ (Vars {names = names} r) e = no_vars ts behind names r e

no_where : (ts behind : List Token) (opening : Token) (inner : List Token) → IsWhere ts behind → behind ≡ opening ∷ inner → ts ≢ []
no_where _ behind opening inner NoWhere h e = let wrong : [] ≡ opening ∷ inner = sym e ∙ h in cc
no_where _ behind opening inner (Where k) h e = cc

no_braces : (ds : List Declaration) (triples : List Triple) → BracesRest ds [] triples → ⊥
no_braces ds triples r = no_where [] (r.opening ∷ r.inner) r.opening r.inner r.where_is refl refl

no_prologue : (ts behind : List Token) (others : List Declaration) (select : Token) (rest : List Token) → IsPrologue ts behind others → behind ≡ select ∷ rest → ts ≢ []
no_prologue _ behind _ select rest EndOfPrologue h e = let wrong : [] ≡ select ∷ rest = sym e ∙ h in cc
no_prologue _ behind _ select rest (PrefixDecl h k i r) f e = cc

-- the query has been read, to its closing brace
record AtEnd (ds : List Declaration) (state : State) (query : Written) : Type 0 where
  ends_so : state.phase ≡ phases.End
  columns : ColumnsAre state.all state.columns query.columns
  triples : AreTriplesOf ds state.triples query.triples

at_end : (ds : List Declaration) (state : State) (query : Written) → state.phase ≡ phases.End → TriplesRest ds state [] query → AtEnd ds state query
at_end ds state query at r =
    let rest : ([] ≡ []) × (r.more ≡ []) = subst (λ (p : Phase). PhaseRest ds p [] r.more) at r.goes in
    let all : query.triples ≡ r.done = r.all ∙ ap (λ (z : List Triple). r.done ++ z) rest.1 ∙ append-nil r.done in
    record { ends_so = at; columns = r.columns; triples = subst (AreTriplesOf ds state.triples) (sym all) r.done_are }

within : (ds : List Declaration) (state : State) (query : Written) (phase : Phase) → state.phase ≡ phase → (r : TriplesRest ds state [] query) → PhaseRest ds phase [] r.more
within ds state query phase at r = subst (λ (p : Phase). PhaseRest ds p [] r.more) at r.goes

ended_by : (phase : Phase) (ds : List Declaration) (state : State) (query : Written) → state.phase ≡ phase → RestBy phase ds state [] query → AtEnd ds state query
ended_by phases.Prologue ds state query at (h, r) = absurd (no_prologue [] (r.select ∷ r.rest) r.others r.select r.rest r.prologue refl refl)
ended_by phases.Prefix ds state query at (h, r) = let wrong : [] ≡ r.token ∷ r.rest = r.cut in absurd cc
ended_by (phases.PrefixName t) ds state query at (h, (name, is, r)) = let wrong : [] ≡ r.bracketed ∷ r.rest = r.cut in absurd cc
ended_by phases.Select ds state query at (h, r) = absurd (no_columns [] r.behind query.columns r.columns refl)
ended_by phases.Star ds state query at (all, none, columns, r) = absurd (no_braces ds query.triples r)
ended_by phases.Columns ds state query at (all, none, r) = absurd (by r.goes)
  where
    by : ((r.behind ≡ []) × (r.more ≡ [])) ⊎ AreVars [] r.behind r.more → ⊥
    by (inl (e, f)) = no_braces ds query.triples (subst (λ (z : List Token). BracesRest ds z query.triples) e r.braces)
    by (inr vars) = no_vars [] r.behind r.more vars refl
ended_by phases.Where ds state query at (none, are, r) = let wrong : [] ≡ r.opening ∷ r.inner = r.cut in absurd cc
ended_by phases.Triples ds state query at r = absurd (no_tail ds r.more (within ds state query phases.Triples at r))
ended_by (phases.String position t) ds state query at r =
    let h = within ds state query (phases.String position t) at r in absurd (no_string ds h.0 (token_of t) r.more h.2)
ended_by (phases.Carets position t) ds state query at r =
    let h = (within ds state query (phases.Carets position t) at r).2 in
    let wrong : [] ≡ h.name ∷ h.rest = h.cut in absurd cc
ended_by (phases.Node position raw) ds state query at r =
    let h = within ds state query (phases.Node position raw) at r in absurd (no_rest ds h.0 h.1 r.more h.4)
ended_by (phases.Verb s v) ds state query at r =
    let h = within ds state query (phases.Verb s v) at r in absurd (no_first ds (AtObject h.0 h.1) r.more h.4)
ended_by (phases.Semicolon s) ds state query at r = absurd (by (within ds state query (phases.Semicolon s) at r))
  where
    by : PhaseRest ds (phases.Semicolon s) [] r.more → ⊥
    by (subject, is, inl h) = no_further ds subject r.more h
    by (subject, is, inr h) = no_subject ds subject r.more h
ended_by phases.End ds state query at r = at_end ds state query at r

-- ---- what was read says one query

names_same : (ts : List Found) (one other : List (List ℕ)) → AreNames ts one → AreNames ts other → one ≡ other
names_same [] [] [] a b = refl
names_same [] [] (o ∷ os) a b = absurd b
names_same [] (n ∷ ns) os a b = absurd a
names_same (t ∷ ts) [] os a b = absurd a
names_same (t ∷ ts) (n ∷ ns) [] a b = absurd b
names_same (t ∷ ts) (n ∷ ns) (o ∷ os) a b =
    ap (λ (z : List ℕ). z ∷ ns) (variable_same t.characters.now n o a.0.is b.0.is) ∙ ap (λ (z : List (List ℕ)). o ∷ z) (names_same ts ns os a.1 b.1)

columns_same : (all : Bool) (ts : List Found) (one other : Columns) → ColumnsAre all ts one → ColumnsAre all ts other → one ≡ other
columns_same true ts one other a b = a ∙ sym b
columns_same false ts one other a b = a.2 ∙ ap These (names_same ts a.0 b.0 a.1 b.1) ∙ sym b.2

triples_same : (ds : List Declaration) (rs : List RawTriple) (one other : List Triple) → AreTriplesOf ds rs one → AreTriplesOf ds rs other → one ≡ other
triples_same ds [] [] [] a b = refl
triples_same ds [] [] (o ∷ os) a b = absurd b
triples_same ds [] (t ∷ ts) os a b = absurd a
triples_same ds (r ∷ rs) [] os a b = absurd a
triples_same ds (r ∷ rs) (t ∷ ts) [] a b = absurd b
triples_same ds (r ∷ rs) (t ∷ ts) (o ∷ os) a b =
    ap (λ (z : Triple). z ∷ ts) (triple_same t.subject t.predicate t.object o.subject o.predicate o.object
    (node_same ds r.subject t.subject o.subject a.0 b.0) (node_same ds r.predicate t.predicate o.predicate a.1 b.1)
    (node_same ds r.object t.object o.object a.2 b.2))
    ∙ ap (λ (z : List Triple). o ∷ z) (triples_same ds rs ts os a.3 b.3)

written_same : (one other : Written) → one.columns ≡ other.columns → one.triples ≡ other.triples → one ≡ other
written_same one other e f = ap (λ (x : Columns). make x one.triples) e ∙ ap (λ (x : List Triple). make other.columns x) f
  where
    make : Columns → List Triple → Written
    make columns triples = record { columns = columns; triples = triples }

pub says_same : (state : State) (one other : Written) → Says state one → Says state other → one ≡ other
says_same state one other a b =
    let same = declared_same state.declarations b.declarations a.declarations b.declared a.declared in
    written_same one other (columns_same state.all state.columns one.columns other.columns a.columns b.columns)
    (triples_same a.declarations state.triples one.triples other.triples a.triples
    (subst (λ (z : List Declaration). AreTriplesOf z state.triples other.triples) same b.triples))

-- ---- the end

-- a state that has read the closing brace says a query
pub some_says : (tokens : List Found) (last : State) → AreFound tokens → run (Some start) tokens ≡ Some last → last.phase ≡ phases.End → (written : Written) × Says last written
some_says tokens last found e at =
    let h = reached_stands tokens last found e in
    let later : LaterStands h.ds phases.End last = subst (λ (p : Phase). StandsBy p h.ds last) at h.goes in (
      record { columns = later.columns; triples = later.done },
      record { declarations = h.ds; declared = h.declared; columns = later.columns_are; triples = later.done_are },
    )

-- the tokens are the query that it says
pub end_says : (tokens : List Found) (last : State) (written : Written) → AreFound tokens → run (Some start) tokens ≡ Some last → last.phase ≡ phases.End
    → Says last written → IsQuery (map token_of tokens) written
end_says tokens last written found e at h =
    subst (λ (z : List Token). IsQuery z written) (append-nil (map token_of tokens)) (reads_back tokens last [] written found e (record {
      ds = h.declarations;
      declared = h.declared;
      goes = subst (λ (p : Phase). RestBy p h.declarations last [] written) (sym at) (record {
        done = written.triples;
        more = [];
        columns = h.columns;
        done_are = h.triples;
        goes = subst (λ (p : Phase). PhaseRest h.declarations p [] []) (sym at) (refl, refl);
        all = sym (append-nil written.triples);
      });
    }))

-- and where the tokens are a query the machine has read its closing brace, and says that query
pub query_says : (tokens : List Found) (last : State) (query : Written) → run (Some start) tokens ≡ Some last → IsQuery (map token_of tokens) query
    → (last.phase ≡ phases.End) × Says last query
query_says tokens last query e q =
    let r = runs tokens [] query (subst (λ (z : List Token). IsQuery z query) (sym (append-nil (map token_of tokens))) q) in
    let reached : Some r.last ≡ Some last = sym r.is ∙ e in
    let same : r.last ≡ last = cc in
    let rest : Rest last [] query = subst (λ (s : State). Rest s [] query) same r.rest in
    let end = ended_by last.phase rest.ds last query refl rest.goes in
    (end.ends_so, record { declarations = rest.ds; declared = rest.declared; columns = end.columns; triples = end.triples })
