-- What completes a query behind tokens that were read completes it from the first of them.
use Rattle.std.proofs.Common.{◌≡◌, List, [], ◌∷◌, ◌++◌, map, Option, Some, None, refl, sym, ap, subst, ◌∙◌}
use Rattle.std.specs.List.{AllByRecursion}
use Rattle.query_text.specs.declared.token.Token.{Token as Found}
use Rattle.query_text.specs.declared.phase.Phase.{Phase}
use Rattle.query_text.specs.declared.phase.Phase.TheVariants as phases
use Rattle.query_text.specs.declared.phase.Move.{Move}
use Rattle.query_text.specs.Tokens.{Token, IsToken}
use Rattle.query_text.specs.Grammar.{Declaration, Written, IsQuery}
use Rattle.query_text.specs.Reading.{token_of}
use Rattle.query_text.specs.Parsing.{State, start, step, run, decide}
use Rattle.query_text.specs.Saying.{AreDeclared}
use Rattle.query_text.proofs.Classes.{class, class_says, Says}
use Rattle.query_text.proofs.Headings.{PrologueRest, TriplesRest, RestBy, Rest, rest_start}
use Rattle.query_text.proofs.Back.{PhaseStands, IsLater}
use Rattle.query_text.proofs.StatesBack.{after, Goal, heading_back, triples_back}
use Rattle.query_text.proofs.Stands.{LaterStands, StandsBy, Stands, start_stands, moved, step_stands}

-- ---- one token

within_triples : (phase : Phase) (ds : List Declaration) (state : State) (ts : List Token) (query : Written) → IsLater phase → TriplesRest ds state ts query
    → RestBy phase ds state ts query
within_triples phases.Prologue ds state ts query h r = absurd h
within_triples phases.Prefix ds state ts query h r = absurd h
within_triples (phases.PrefixName t) ds state ts query h r = absurd h
within_triples phases.Select ds state ts query h r = absurd h
within_triples phases.Star ds state ts query h r = absurd h
within_triples phases.Columns ds state ts query h r = absurd h
within_triples phases.Where ds state ts query h r = absurd h
within_triples _ ds state ts query h r = r

module _ (state : State) (t : Found) (ts : List Token) (query : Written) (m : Move) (rest : Rest (after state m) ts query) (token : IsToken (token_of t))
    (is : decide state.phase (class state.declarations (token_of t)) t ≡ Some m) where
  abbrev says : Says state.declarations (class state.declarations (token_of t)) (token_of t)
  says = class_says state.declarations (token_of t) token

  abbrev Whole : Type 0
  Whole = Rest state (token_of t ∷ ts) query

  from_goal : (phase : Phase) → state.phase ≡ phase → Goal state t ts query m rest phase → Whole
  from_goal phase at g = record {
    ds = g.0;
    declared = g.1;
    goes = subst (λ (p : Phase). RestBy p g.0 state (token_of t ∷ ts) query) (sym at) g.2;
  }

  later_back : (phase : Phase) → state.phase ≡ phase → IsLater phase → (ds : List Declaration) → AreDeclared state.declarations ds → LaterStands ds phase state → Whole
  later_back phase at later ds declared h =
      let here = subst IsLater (sym at) later in
      let r = triples_back ds state t ts query m declared (subst (PhaseStands ds) (sym at) h.last) here says is rest in
      record { ds = ds; declared = declared; goes = within_triples state.phase ds state (token_of t ∷ ts) query here r }

  made : (phase : Phase) → state.phase ≡ phase → decide phase (class state.declarations (token_of t)) t ≡ Some m
  made phase at = ap (λ (p : Phase). decide p (class state.declarations (token_of t)) t) (sym at) ∙ is

  by_phase : (phase : Phase) → state.phase ≡ phase → (ds : List Declaration) → AreDeclared state.declarations ds → StandsBy phase ds state → Whole
  by_phase phases.Prologue at ds declared h =
      from_goal phases.Prologue at (heading_back state t ts query m rest phases.Prologue (class state.declarations (token_of t)) h says (made phases.Prologue at))
  by_phase phases.Prefix at ds declared h =
      from_goal phases.Prefix at (heading_back state t ts query m rest phases.Prefix (class state.declarations (token_of t)) h says (made phases.Prefix at))
  by_phase (phases.PrefixName n) at ds declared h =
      from_goal (phases.PrefixName n) at
      (heading_back state t ts query m rest (phases.PrefixName n) (class state.declarations (token_of t)) h.0 says (made (phases.PrefixName n) at))
  by_phase phases.Select at ds declared h =
      from_goal phases.Select at (heading_back state t ts query m rest phases.Select (class state.declarations (token_of t)) h says (made phases.Select at))
  by_phase phases.Star at ds declared h =
      from_goal phases.Star at (heading_back state t ts query m rest phases.Star (class state.declarations (token_of t)) h says (made phases.Star at))
  by_phase phases.Columns at ds declared h =
      from_goal phases.Columns at
      (heading_back state t ts query m rest phases.Columns (class state.declarations (token_of t)) (h.0, h.1) says (made phases.Columns at))
  by_phase phases.Where at ds declared h =
      from_goal phases.Where at (heading_back state t ts query m rest phases.Where (class state.declarations (token_of t)) h.0 says (made phases.Where at))
  by_phase phase at ds declared h = later_back phase at tt ds declared h

token_back : (state : State) (t : Found) (next : State) (ts : List Token) (query : Written) → IsToken (token_of t) → Stands state → step state t ≡ Some next
    → Rest next ts query → Rest state (token_of t ∷ ts) query
token_back state t next ts query token h e rest =
    let m = moved state t next e in
    by_phase state t ts query m.move (subst (λ (s : State). Rest s ts query) (sym m.to) rest) token m.is state.phase refl h.ds h.declared h.goes

-- ---- all tokens

-- each token that was found is one
abbrev pub AreFound : List Found → Type 0
AreFound = AllByRecursion (λ t. IsToken (token_of t))

-- the state that was reached stands, and what completes a query from it completes it from the first token
pub record Back (state : State) (tokens : List Found) (last : State) : Type 0 where
  pub stands : Stands last
  pub back : (others : List Token) (query : Written) → Rest last others query → Rest state (map token_of tokens ++ others) query

back_from : (state : State) (tokens : List Found) (last : State) → Stands state → AreFound tokens → run (Some state) tokens ≡ Some last → Back state tokens last
back_from state [] last h found e =
    let same : state ≡ last = cc in
    record { stands = subst Stands same h; back = λ others query r. subst (λ (s : State). Rest s others query) (sym same) r }
back_from state (t ∷ tokens) last h found e = by (step state t) refl e (λ next k f. back_from next tokens last (step_stands state t next found.0 h k) found.1 f)
  where
    by : (o : Option State) → step state t ≡ o → run o tokens ≡ Some last
        → ((next : State) → step state t ≡ Some next → run (Some next) tokens ≡ Some last → Back next tokens last) → Back state (t ∷ tokens) last
    by None k f again = absurd cc
    by (Some next) k f again =
        let b = again next k f in record {
          stands = b.stands;
          back = λ others query r. token_back state t next (map token_of tokens ++ others) query found.0 h k (b.back others query r);
        }

-- the state that the tokens lead to
pub reached_stands : (tokens : List Found) (last : State) → AreFound tokens → run (Some start) tokens ≡ Some last → Stands last
reached_stands tokens last found e = (back_from start tokens last start_stands found e).stands

from_start : (ts : List Token) (query : Written) → Rest start ts query → IsQuery ts query
from_start ts query r = rest_start ts query (none r.ds r.declared r.goes.1)
  where
    none : (ds : List Declaration) → AreDeclared [] ds → PrologueRest ds ts query → PrologueRest [] ts query
    none [] h p = p
    none (d ∷ ds) h p = absurd h

pub reads_back : (tokens : List Found) (last : State) (others : List Token) (query : Written) → AreFound tokens → run (Some start) tokens ≡ Some last
    → Rest last others query → IsQuery (map token_of tokens ++ others) query
reads_back tokens last others query found e r =
    from_start (map token_of tokens ++ others) query ((back_from start tokens last start_stands found e).back others query r)
