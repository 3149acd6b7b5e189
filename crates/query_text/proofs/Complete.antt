-- The tokens of a query, and of each front of one, run through the machine.
use Rattle.std.proofs.Common.{◌≡◌, List, [], ◌∷◌, ◌++◌, map, Option, Some, None, refl, sym, ap, ◌∙◌}
use Rattle.query_text.specs.declared.token.Token.{Token as Found}
use Rattle.query_text.specs.Tokens.{Token}
use Rattle.query_text.specs.Grammar.{Written, IsQuery}
use Rattle.query_text.specs.Reading.{token_of}
use Rattle.query_text.specs.Parsing.{State, start, step, run}
use Rattle.query_text.specs.Refusals.{IsViable}
use Rattle.query_text.proofs.Headings.{Rest, start_rest, token_goes}

-- the machine has read the tokens, and the others complete the query from there
pub record Runs (state : State) (tokens : List Found) (others : List Token) (query : Written) : Type 0 where
  pub last : State
  pub is : run (Some state) tokens ≡ Some last
  pub rest : Rest last others query

pub runs_from : (state : State) (tokens : List Found) (others : List Token) (query : Written) → Rest state (map token_of tokens ++ others) query → Runs state tokens others query
runs_from state [] others query r = record { last = state; is = refl; rest = r }
runs_from state (t ∷ tokens) others query r =
    let g = token_goes state t (map token_of tokens ++ others) query r in
    let more = runs_from g.next tokens others query g.rest in
    record { last = more.last; is = ap (λ (o : Option State). run o tokens) g.is ∙ more.is; rest = more.rest }

pub runs : (tokens : List Found) (others : List Token) (query : Written) → IsQuery (map token_of tokens ++ others) query → Runs start tokens others query
runs tokens others query q = runs_from start tokens others query (start_rest (map token_of tokens ++ others) query q)

pub record IsRun (tokens : List Found) : Type 0 where
  pub last : State
  pub is : run (Some start) tokens ≡ Some last

-- what is the front of a query's tokens runs through the machine
pub viable_runs : (tokens : List Found) → IsViable (map token_of tokens) → IsRun tokens
viable_runs tokens v = let r = runs tokens v.others v.query v.is_query in record { last = r.last; is = r.is }

pub nowhere : (token : Found) (state : State) → step state token ≡ None → (tokens : List Found) (s last : State) → run (Some s) tokens ≡ Some state
    → run (Some s) (tokens ++ token ∷ []) ≡ Some last → ⊥
nowhere token state stopped [] s last h k =
    let same : s ≡ state = cc in
    let none : run (step s token) [] ≡ None = ap (λ (x : State). run (step x token) []) same ∙ ap (λ (o : Option State). run o []) stopped in
    let wrong : None ≡ Some last = sym none ∙ k in
    cc
nowhere token state stopped (t ∷ tokens) s last h k = by (step s t) h k (λ next e f. nowhere token state stopped tokens next last e f)
  where
    by : (o : Option State) → run o tokens ≡ Some state → run o (tokens ++ token ∷ []) ≡ Some last
        → ((next : State) → run (Some next) tokens ≡ Some state → run (Some next) (tokens ++ token ∷ []) ≡ Some last → ⊥) → ⊥
    by None e f again = cc
    by (Some next) e f again = again next e f

-- so where the machine refuses a token behind others, no query goes on with it
pub refused : (front : List Found) (token : Found) (state : State) → run (Some start) front ≡ Some state → step state token ≡ None
    → IsViable (map token_of (front ++ token ∷ [])) → ⊥
refused front token state read stopped v =
    let r = viable_runs (front ++ token ∷ []) v in
    nowhere token state stopped front start r.last read r.is
