-- A text has one list of characters, and one list of tokens.
use Rattle.std.proofs.Common.{◌≡◌, ℕ, ◌≤◌, arith, true, false, Bool, List, [], ◌∷◌, ◌++◌, length, length-append, map, Option, Some, None, refl, sym, ap, subst, ◌∙◌, append_assoc}
use Rattle.std.proofs.lemmas.List.{append-nil}
use Rattle.std.specs.Char.{encode_utf8}
use Rattle.std.specs.Str.{encode_utf8_all, all_scalars}
use Rattle.std.proofs.lemmas.Bool.{and_parts}
use Rattle.std.proofs.lemmas.Str.{encode_same, length-encode, len_utf8_bounds}
use Rattle.query_text.specs.declared.kind.TokenKind.{TokenKind}
use Rattle.query_text.specs.declared.token.Token.{Token as Found}
use Rattle.query_text.specs.Tokens.{Token, IsOf}
use Rattle.query_text.specs.Texts.{behind_gap, BeginsWith, BeginsWithNone, AreTokens}
use Rattle.query_text.specs.Reading.{BeginsNoCharacter, in_gap, token_of, AreCut}
use Rattle.query_text.proofs.Widths.{width, width-append}
use Rattle.query_text.proofs.Runs.{token_again}
use Rattle.query_text.proofs.Gaps.{gap_goes_on, gap_ends}
use Rattle.query_text.proofs.Longest.{no_empty}
use Rattle.query_text.proofs.Backwards.{AreFound}

-- ---- characters

pub some_code : (c : ℕ) (rest : List ℕ) → [] ≡ encode_utf8 c ++ rest → ⊥
some_code c rest e = omega (arith, ap length e, length-append (encode_utf8 c) rest, length-encode c, (len_utf8_bounds c).0)

-- bytes that are all characters begin with these characters and no others, and leave no bad byte
pub characters_same : (whole front bad : List ℕ) → all_scalars whole ≡ true → encode_utf8_all whole ≡ encode_utf8_all front ++ bad → BeginsNoCharacter bad
    → (whole ≡ front) × (bad ≡ [])
characters_same [] [] bad s e none = (refl, sym e)
characters_same (d ∷ whole) [] bad s e none = absurd (none d (encode_utf8_all whole) (and_parts _ (all_scalars whole) s).0 (sym e))
characters_same [] (c ∷ front) bad s e none = absurd (some_code c (encode_utf8_all front ++ bad) (e ∙ append_assoc (encode_utf8 c) (encode_utf8_all front) bad))
characters_same (d ∷ whole) (c ∷ front) bad s e none =
    let both = encode_same d c (encode_utf8_all whole) (encode_utf8_all front ++ bad) (e ∙ append_assoc (encode_utf8 c) (encode_utf8_all front) bad) in
    let rest = characters_same whole front bad (and_parts _ (all_scalars whole) s).1 both.1 none in
    (ap (λ (z : ℕ). z ∷ whole) both.0 ∙ ap (λ (z : List ℕ). c ∷ z) rest.0, rest.1)

-- ---- the first token

kind_same : (kind other : TokenKind) (cs : List ℕ) → IsOf kind cs → IsOf other cs → kind ≡ other
kind_same kind other cs h k = let same : Some kind ≡ Some other = sym (token_again cs kind h) ∙ token_again cs other k in cc

-- of two fronts of a text one is a front of the other
data Fronts (xs us ys vs : List ℕ) : Type 0 where
  shorter : (more : List ℕ) → ys ≡ xs ++ more → us ≡ more ++ vs → Fronts xs us ys vs
  longer : (more : List ℕ) → xs ≡ ys ++ more → vs ≡ more ++ us → Fronts xs us ys vs

fronts : (xs us ys vs : List ℕ) → xs ++ us ≡ ys ++ vs → Fronts xs us ys vs
fronts [] us ys vs e = shorter ys refl e
fronts (x ∷ xs) us [] vs e = longer (x ∷ xs) refl (sym e)
fronts (x ∷ xs) us (y ∷ ys) vs e =
    let head : x ≡ y = cc in
    let rest : xs ++ us ≡ ys ++ vs = cc in by head (fronts xs us ys vs rest)
  where
    by : x ≡ y → Fronts xs us ys vs → Fronts (x ∷ xs) us (y ∷ ys) vs
    by head (shorter more e f) = shorter more (ap (λ (z : ℕ). z ∷ ys) (sym head) ∙ ap (λ (z : List ℕ). x ∷ z) e) f
    by head (longer more e f) = longer more (ap (λ (z : ℕ). z ∷ xs) head ∙ ap (λ (z : List ℕ). y ∷ z) e) f

token_same : (one other : Token) → one.kind ≡ other.kind → one.characters ≡ other.characters → one ≡ other
token_same one other e f = ap (λ (x : TokenKind). make x one.characters) e ∙ ap (λ (x : List ℕ). make other.kind x) f
  where
    make : TokenKind → List ℕ → Token
    make kind characters = record { kind = kind; characters = characters }

same_by : (text : List ℕ) (one other : Token) (behind rest more : List ℕ) → BeginsWith text one behind → BeginsWith text other rest
    → other.characters ≡ one.characters ++ more → behind ≡ more ++ rest → (one ≡ other) × (behind ≡ rest)
same_by text one other behind rest more a b e f =
    let none : more ≡ [] = a.longest other.kind more rest f (subst (IsOf other.kind) e b.is) in
    let characters : other.characters ≡ one.characters = e ∙ ap (λ (z : List ℕ). one.characters ++ z) none ∙ append-nil one.characters in
    let kind = kind_same one.kind other.kind one.characters a.is (subst (IsOf other.kind) characters b.is) in
    (token_same one other kind (sym characters), f ∙ ap (λ (z : List ℕ). z ++ rest) none)

pub first_same : (text : List ℕ) (one other : Token) (behind rest : List ℕ) → BeginsWith text one behind → BeginsWith text other rest → (one ≡ other) × (behind ≡ rest)
first_same text one other behind rest a b = by (fronts one.characters behind other.characters rest (sym a.cut ∙ b.cut))
  where
    by : Fronts one.characters behind other.characters rest → (one ≡ other) × (behind ≡ rest)
    by (shorter more e f) = same_by text one other behind rest more a b e f
    by (longer more e f) = let r = same_by text other one rest behind more b a e f in (sym r.0, sym r.1)

pub no_first : (token : Token) (behind : List ℕ) → BeginsWith [] token behind → ⊥
no_first token behind h = by token.characters h.cut h.is
  where
    by : (cs : List ℕ) → [] ≡ cs ++ behind → IsOf token.kind cs → ⊥
    by [] e is = no_empty token.kind is
    by (c ∷ cs) e is = cc

-- ---- all tokens

-- a text that is all tokens is cut into these
pub cut_same : (text : List ℕ) (found : List Found) (rest : List ℕ) (tokens : List Token) → AreCut text found rest → BeginsWithNone rest → AreTokens text tokens []
    → (map token_of found ≡ tokens) × (rest ≡ [])
cut_same text [] rest [] h none k = (refl, h ∙ sym k)
cut_same text [] rest (t ∷ tokens) h none k =
    absurd (none t.kind t.characters k.0 (h ∙ k.1.cut) k.1.is)
cut_same text (f ∷ found) rest [] h none k = absurd (no_first (token_of f) f.behind.now (subst (λ (z : List ℕ). BeginsWith z (token_of f) f.behind.now) (sym k) h.0))
cut_same text (f ∷ found) rest (t ∷ tokens) h none k =
    let first = first_same (behind_gap false text) (token_of f) t f.behind.now k.0 h.0 k.1 in
    let others = cut_same f.behind.now found rest tokens h.1 none (subst (λ (z : List ℕ). AreTokens z tokens []) (sym first.1) k.2) in
    (ap (λ (z : Token). z ∷ map token_of found) first.0 ∙ ap (λ (z : List Token). t ∷ z) others.0, others.1)

pub cut_found : (text : List ℕ) (found : List Found) (rest : List ℕ) → AreCut text found rest → AreFound found
cut_found text [] rest h = tt
cut_found text (f ∷ found) rest h = (h.0.is, cut_found f.behind.now found rest h.1)

-- the tokens of a text go on from those that were cut off, and with the token that stands behind them
pub record GoesOn (front : List Found) (token : Found) (tokens : List Token) : Type 0 where
  pub others : List Token
  pub cut : tokens ≡ map token_of (front ++ token ∷ []) ++ others

pub front_same : (text here : List ℕ) (front : List Found) (token : Found) (tokens : List Token) → AreCut text front here
    → BeginsWith here (token_of token) token.behind.now → AreTokens text tokens [] → GoesOn front token tokens
front_same text here [] token [] h begins k =
    absurd (no_first (token_of token) token.behind.now (subst (λ (z : List ℕ). BeginsWith z (token_of token) token.behind.now) (h ∙ sym k) begins))
front_same text here [] token (t ∷ tokens) h begins k =
    let first = first_same (behind_gap false text) (token_of token) t token.behind.now k.0
    (subst (λ (z : List ℕ). BeginsWith z (token_of token) token.behind.now) h begins) k.1 in
    record { others = tokens; cut = ap (λ (z : Token). z ∷ tokens) (sym first.0) }
front_same text here (f ∷ front) token [] h begins k =
    absurd (no_first (token_of f) f.behind.now (subst (λ (z : List ℕ). BeginsWith z (token_of f) f.behind.now) (sym k) h.0))
front_same text here (f ∷ front) token (t ∷ tokens) h begins k =
    let first = first_same (behind_gap false text) (token_of f) t f.behind.now k.0 h.0 k.1 in
    let r = front_same f.behind.now here front token tokens h.1 begins (subst (λ (z : List ℕ). AreTokens z tokens []) (sym first.1) k.2) in
    record { others = r.others; cut = ap (λ (z : Token). z ∷ tokens) (sym first.0) ∙ ap (λ (z : List Token). token_of f ∷ z) r.cut }

-- ---- what is left is no longer than the text

gap_width : (comment : Bool) (text : List ℕ) → width (behind_gap comment text) ≤ width text
gap_width comment [] = omega arith
gap_width comment (c ∷ cs) = by (in_gap comment c) refl (λ next. gap_width next cs)
  where
    more : width cs ≤ width (c ∷ cs)
    more = omega (arith, length-append (encode_utf8 c) (encode_utf8_all cs))

    by : (next : Option Bool) → in_gap comment c ≡ next → ((d : Bool) → width (behind_gap d cs) ≤ width cs) → width (behind_gap comment (c ∷ cs)) ≤ width (c ∷ cs)
    by None e again = omega (arith, ap width (gap_ends comment c cs e))
    by (Some next) e again = omega (arith, more, ap width (gap_goes_on comment c cs next e), again next)

pub left_width : (text : List ℕ) (tokens : List Token) (rest : List ℕ) → AreTokens text tokens rest → width rest ≤ width text
left_width text [] rest h = omega (arith, ap width h, gap_width false text)
left_width text (t ∷ tokens) rest (behind, begins, h) =
    omega (arith, left_width behind tokens rest h, ap width begins.cut, width-append t.characters behind, gap_width false text)
