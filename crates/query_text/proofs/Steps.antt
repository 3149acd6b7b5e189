-- Reading one token after another.
use Rattle.std.proofs.Common.{◌≡◌, ℕ, Bool, true, false, List, [], ◌∷◌, ◌++◌, Option, Some, None, refl, sym, subst, ap, ◌∙◌}
use Rattle.std.proofs.lemmas.List.{append-nil}
use Rattle.query_text.specs.declared.token.Token.{Token}
use Rattle.query_text.specs.Texts.{behind_gap, BeginsWith, BeginsWithNone}
use Rattle.query_text.specs.Reading.{token_of, AreCut}
use Rattle.query_text.specs.Parsing.{State, step, run, start, IsStep, IsStopped, IsRead}
use Rattle.query_text.proofs.Gaps.{cut_more}

-- one token more
run_push : (state last next : State) (tokens : List Token) (token : Token) → run (Some state) tokens ≡ Some last → step last token ≡ Some next
    → run (Some state) (tokens ++ token ∷ []) ≡ Some next
run_push state last next [] token h e =
    let same : state ≡ last = cc in
    ap (λ (s : State). run (step s token) []) same ∙ ap (λ (o : Option State). run o []) e
run_push state last next (first ∷ tokens) token h e = by (step state first) h (λ s k. run_push s last next tokens token k e)
  where
    by : (o : Option State) → run o tokens ≡ Some last → ((s : State) → run (Some s) tokens ≡ Some last → run (Some s) (tokens ++ token ∷ []) ≡ Some next)
        → run o (tokens ++ token ∷ []) ≡ Some next
    by None k again = absurd cc
    by (Some s) k again = again s k

pub stays : (state next : State) (token : Token) (went : Bool) → IsStep state token went next → went ≡ false → step state token ≡ None
stays state next token true h e = absurd cc
stays state next token false h e = h

pub goes : (state next : State) (token : Token) (went : Bool) → IsStep state token went next → went ≡ true → step state token ≡ Some next
goes state next token true h e = h
goes state next token false h e = absurd cc

-- tokens that were read: whatever the rest is cut into, the whole then is cut into
pub record SoFar (text rest : List ℕ) (state : State) : Type 0 where
  pub found : List Token
  pub goes_on : (more : List Token) (end : List ℕ) → AreCut rest more end → AreCut text (found ++ more) end
  pub read : run (Some start) found ≡ Some state

pub nothing_yet : (text : List ℕ) (state : State) → state ≡ start → SoFar text text state
nothing_yet text state e = record { found = []; goes_on = λ more end h. h; read = ap (λ (s : State). Some s) (sym e) }

pub one_more : (text rest : List ℕ) (state next : State) (token : Token) → SoFar text rest state → BeginsWith (behind_gap false rest) (token_of token) token.behind.now
    → step state token ≡ Some next → SoFar text token.behind.now next
one_more text rest state next token so begins e = record {
  found = so.found ++ token ∷ [];
  goes_on = cut_more text rest so.found token begins so.goes_on;
  read = run_push start state next so.found token so.read e;
}

cut_so : (text rest : List ℕ) (state : State) (so : SoFar text rest state) → AreCut text so.found (behind_gap false rest)
cut_so text rest state so =
    subst (λ (x : List Token). AreCut text x (behind_gap false rest)) (append-nil so.found) (so.goes_on [] (behind_gap false rest) refl)

pub stops_at : (text rest : List ℕ) (state : State) (token : Token) → SoFar text rest state → BeginsWith (behind_gap false rest) (token_of token) token.behind.now
    → step state token ≡ None → IsStopped text token
stops_at text rest state token so begins e = record {
  front = so.found;
  here = behind_gap false rest;
  state = state;
  cut = cut_so text rest state so;
  begins = begins;
  read = so.read;
  stopped = e;
}

pub ends_at : (text rest left : List ℕ) (state : State) → SoFar text rest state → left ≡ behind_gap false rest → BeginsWithNone left → IsRead text state left
ends_at text rest left state so e none =
    record { found = so.found; cut = subst (AreCut text so.found) (sym e) (cut_so text rest state so); none = none; read = so.read }
