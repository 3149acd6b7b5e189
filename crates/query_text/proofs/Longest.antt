-- The longest token, from what the machine accepts.
use Rattle.std.proofs.Common.{◌≡◌, ℕ, ◌+◌, ◌≤◌, arith, ◌⊎◌, List, [], ◌∷◌, ◌++◌, length, length-take, take, drop, Option, Some, None, refl, sym, ap, subst, ◌∙◌, inl, inr}
use Rattle.std.proofs.Math.Seq.{take-append_seam, drop-append_seam}
use Rattle.query_text.specs.declared.kind.TokenKind.{TokenKind}
use Rattle.query_text.specs.declared.scan.Scan.{Scan}
use Rattle.query_text.specs.declared.scan.Scan.TheVariants as scans
use Rattle.query_text.specs.Tokens.{IsOf}
use Rattle.query_text.specs.Texts.{BeginsWith}
use Rattle.query_text.specs.Reading.{IsFirst}
use Rattle.query_text.specs.Scanning.{advance, accepted, noted, longest_from}
use Rattle.query_text.proofs.Runs.{run, token_takes, token_again}

-- no front of the text is accepted
abbrev NoFront : Option Scan → List ℕ → Type 0
NoFront scan text = (front rest : List ℕ) (kind : TokenKind) → text ≡ front ++ rest → run scan front ≡ Some kind → ⊥

-- this front is, and no longer one
record LongestFront (scan : Option Scan) (text : List ℕ) (at : ℕ) (found : Option (TokenKind × ℕ)) : Type 0 where
  front : List ℕ
  rest : List ℕ
  kind : TokenKind
  cut : text ≡ front ++ rest
  is : run scan front ≡ Some kind
  result : found ≡ Some (kind, at + length front)
  longest : (more behind : List ℕ) (other : TokenKind) → rest ≡ more ++ behind → run scan (front ++ more) ≡ Some other → more ≡ []

abbrev IsFound : Option Scan → List ℕ → Option (TokenKind × ℕ) → ℕ → Option (TokenKind × ℕ) → Type 0
IsFound scan text longest at found = ((found ≡ longest) × NoFront scan text) ⊎ LongestFront scan text at found

nothing_more : (more behind : List ℕ) → [] ≡ more ++ behind → more ≡ []
nothing_more [] behind e = refl
nothing_more (x ∷ more) behind e = absurd cc

at_end : (scan : Scan) (longest : Option (TokenKind × ℕ)) (at : ℕ) (state : Option TokenKind) → accepted scan ≡ state
    → IsFound (Some scan) [] longest at (noted longest state at)
at_end scan longest at None e = inl (refl, λ front rest kind cut r. none front rest kind cut r)
  where
    none : (front rest : List ℕ) (kind : TokenKind) → [] ≡ front ++ rest → run (Some scan) front ≡ Some kind → ⊥
    none [] rest kind cut r = let wrong : None ≡ Some kind = sym e ∙ r in cc
    none (x ∷ front) rest kind cut r = cc
at_end scan longest at (Some kind) e = inr (record {
  front = [];
  rest = [];
  kind = kind;
  cut = refl;
  is = e;
  result = ap (λ (n : ℕ). Some (kind, n)) (omega arith);
  longest = λ more behind other rest r. nothing_more more behind rest;
})

-- no longer front, where nothing is accepted behind the first character
short : (scan : Scan) (c : ℕ) (text : List ℕ) → NoFront (advance scan c) text
    → (more behind : List ℕ) (other : TokenKind) → c ∷ text ≡ more ++ behind → run (Some scan) more ≡ Some other → more ≡ []
short scan c text none [] behind other e r = refl
short scan c text none (x ∷ more) behind other e r =
    let head : x ≡ c = cc in
    let rest : text ≡ more ++ behind = cc in
    absurd (none more behind other rest (ap (λ (y : ℕ). run (advance scan y) more) (sym head) ∙ r))

step_none : (scan : Scan) (c : ℕ) (text : List ℕ) (longest found : Option (TokenKind × ℕ)) (at : ℕ) (state : Option TokenKind) → accepted scan ≡ state
    → found ≡ noted longest state at → NoFront (advance scan c) text → IsFound (Some scan) (c ∷ text) longest at found
step_none scan c text longest found at None e same none = inl (same, λ front rest kind cut r. no_front front rest kind cut r)
  where
    no_front : (front rest : List ℕ) (kind : TokenKind) → c ∷ text ≡ front ++ rest → run (Some scan) front ≡ Some kind → ⊥
    no_front [] rest kind cut r = let wrong : None ≡ Some kind = sym e ∙ r in cc
    no_front (x ∷ front) rest kind cut r = let empty : x ∷ front ≡ [] = short scan c text none (x ∷ front) rest kind cut r in cc
step_none scan c text longest found at (Some kind) e same none = inr (record {
  front = [];
  rest = c ∷ text;
  kind = kind;
  cut = refl;
  is = e;
  result = same ∙ ap (λ (n : ℕ). Some (kind, n)) (omega arith);
  longest = λ more behind other rest r. short scan c text none more behind other rest r;
})

step_some : (scan : Scan) (c : ℕ) (text : List ℕ) (longest found : Option (TokenKind × ℕ)) (at : ℕ) → LongestFront (advance scan c) text (at + 1) found
    → IsFound (Some scan) (c ∷ text) longest at found
step_some scan c text longest found at l = inr (record {
  front = c ∷ l.front;
  rest = l.rest;
  kind = l.kind;
  cut = ap (λ (x : List ℕ). c ∷ x) l.cut;
  is = l.is;
  result = l.result ∙ ap (λ (n : ℕ). Some (l.kind, n)) (omega arith);
  longest = l.longest;
})

found_from : (text : List ℕ) (scan : Option Scan) (longest : Option (TokenKind × ℕ)) (at : ℕ) → IsFound scan text longest at (longest_from longest at scan text)
found_from text None longest at = inl (refl, λ front rest kind cut r. absurd cc)
found_from [] (Some scan) longest at = at_end scan longest at (accepted scan) refl
found_from (c ∷ text) (Some scan) longest at =
    elim (found_from text (advance scan c) (noted longest (accepted scan) at) (at + 1)) [
      | inl (same, none) ↦ step_none scan c text longest (longest_from longest at (Some scan) (c ∷ text)) at (accepted scan) refl same none
      | inr l ↦ step_some scan c text longest (longest_from longest at (Some scan) (c ∷ text)) at l
    ]

first_found : (text front rest : List ℕ) (kind : TokenKind) → text ≡ front ++ rest → BeginsWith text (record { kind = kind; characters = front }) rest
    → IsFirst text (Some (kind, length front))
first_found text front rest kind cut begins =
    let taken : take (length front) text ≡ front = ap (take (length front)) cut ∙ take-append_seam front rest in
    let left : drop (length front) text ≡ rest = ap (drop (length front)) cut ∙ drop-append_seam front rest in (
      ap length taken,
      subst (λ (x : List ℕ). BeginsWith text (record { kind = kind; characters = x }) (drop (length front) text)) (sym taken)
          (subst (λ (x : List ℕ). BeginsWith text (record { kind = kind; characters = front }) x) (sym left) begins),
    )

pub first_is : (text : List ℕ) → IsFirst text (longest_from None 0 (Some scans.Start) text)
first_is text = by (longest_from None 0 (Some scans.Start) text) (found_from text (Some scans.Start) None 0)
  where
    by : (found : Option (TokenKind × ℕ)) → IsFound (Some scans.Start) text None 0 found → IsFirst text found
    by found (inl (same, none)) =
        subst (IsFirst text) (sym same) (λ kind front rest cut is. none front rest kind cut (token_again front kind is))
    by found (inr l) =
        let first = first_found text l.front l.rest l.kind l.cut (record {
          cut = l.cut;
          is = token_takes l.front l.kind l.is;
          longest = λ kind more rest e is. l.longest more rest kind e (token_again (l.front ++ more) kind is);
        }) in
        subst (IsFirst text) (sym (l.result ∙ ap (λ (n : ℕ). Some (l.kind, n)) (omega arith))) first

-- a token has a character
pub no_empty : (kind : TokenKind) → IsOf kind [] → ⊥
no_empty kind h = let wrong : None ≡ Some kind = token_again [] kind h in cc

pub length_of : (text : List ℕ) (found : TokenKind × ℕ) → IsFirst text (Some found) → found.1 ≤ length text
length_of text found h = omega (arith, length-take found.1 text, h.0)
