-- White space and comments, character by character, and what they leave.
use Rattle.std.proofs.Common.{◌≡◌, ℕ, ◌<◌, ◌≤◌, arith, Bool, true, false, cond, ◌==◌, List, [], ◌∷◌, ◌++◌, length, length-append, Option, Some, None, map, subst, append_assoc, refl, sym, ap}
use Rattle.query_text.specs.declared.token.Token.{Token as Found}
use Rattle.query_text.specs.Characters.{is_white}
use Rattle.query_text.specs.Tokens.{IsOf, Token}
use Rattle.query_text.specs.Texts.{behind_gap, BeginsWith, AreTokens}
use Rattle.query_text.specs.Reading.{in_gap, token_of, AreCut}
use Rattle.query_text.proofs.Longest.{no_empty}

pub gap_goes_on : (comment : Bool) (c : ℕ) (cs : List ℕ) (next : Bool) → in_gap comment c ≡ Some next → behind_gap comment (c ∷ cs) ≡ behind_gap next cs
gap_goes_on true c cs next h = ap (λ (x : Bool). behind_gap x cs) cc
gap_goes_on false c cs next h = by (is_white c) (c == 35) h
  where
    by : (white hash : Bool) → cond white (Some false) (cond hash (Some true) None) ≡ Some next
        → cond white (behind_gap false cs) (cond hash (behind_gap true cs) (c ∷ cs)) ≡ behind_gap next cs
    by true hash e = ap (λ (x : Bool). behind_gap x cs) cc
    by false true e = ap (λ (x : Bool). behind_gap x cs) cc
    by false false e = absurd cc

pub gap_ends : (comment : Bool) (c : ℕ) (cs : List ℕ) → in_gap comment c ≡ None → behind_gap comment (c ∷ cs) ≡ c ∷ cs
gap_ends true c cs h = absurd cc
gap_ends false c cs h = by (is_white c) (c == 35) h
  where
    by : (white hash : Bool) → cond white (Some false) (cond hash (Some true) None) ≡ None
        → cond white (behind_gap false cs) (cond hash (behind_gap true cs) (c ∷ cs)) ≡ c ∷ cs
    by true hash e = absurd cc
    by false true e = absurd cc
    by false false e = refl

gap_shortens : (text : List ℕ) (comment : Bool) → length (behind_gap comment text) ≤ length text
gap_shortens [] comment = omega arith
gap_shortens (c ∷ cs) comment = by (in_gap comment c) refl (λ next. gap_shortens cs next)
  where
    by : (next : Option Bool) → in_gap comment c ≡ next → ((d : Bool) → length (behind_gap d cs) ≤ length cs) → length (behind_gap comment (c ∷ cs)) ≤ length (c ∷ cs)
    by None e again = omega (arith, ap length (gap_ends comment c cs e))
    by (Some next) e again = omega (arith, ap length (gap_goes_on comment c cs next e), again next)

some_length : (token : Token) → IsOf token.kind token.characters → 0 < length token.characters
some_length token h = by token.kind token.characters h
  where
    by : (kind : _) (characters : List ℕ) → IsOf kind characters → 0 < length characters
    by kind [] is = absurd (no_empty kind is)
    by kind (c ∷ cs) is = omega arith

-- each token leaves less
pub token_shortens : (text : List ℕ) (token : Token) (behind : List ℕ) → BeginsWith (behind_gap false text) token behind → length behind < length text
token_shortens text token behind h =
    omega (arith, gap_shortens text false, ap length h.cut, length-append token.characters behind, some_length token h.is)

-- what is cut off goes before what follows
pub cut_more : (text rest : List ℕ) (found : List Found) (token : Found) → BeginsWith (behind_gap false rest) (token_of token) token.behind.now
    → ((more : List Found) (end : List ℕ) → AreCut rest more end → AreCut text (found ++ more) end)
    → (more : List Found) (end : List ℕ) → AreCut token.behind.now more end → AreCut text ((found ++ token ∷ []) ++ more) end
cut_more text rest found token begins goes_on more end h =
    subst' (append_assoc found (token ∷ []) more) (goes_on (token ∷ more) end (begins, h))
  where
    subst' : (found ++ token ∷ []) ++ more ≡ found ++ (token ∷ more) → AreCut text (found ++ (token ∷ more)) end → AreCut text ((found ++ token ∷ []) ++ more) end
    subst' e k = subst (λ (x : List Found). AreCut text x end) (sym e) k

pub cut_tokens : (text : List ℕ) (found : List Found) (rest : List ℕ) → AreCut text found rest → AreTokens text (map token_of found) rest
cut_tokens text [] rest h = h
cut_tokens text (token ∷ found) rest h = (token.behind.now, h.0, cut_tokens token.behind.now found rest h.1)
