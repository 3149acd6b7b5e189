-- Texts of pieces: what is read is spelled so, and what is spelled so is read.
use Rattle.std.proofs.Common.{◌≡◌, ℕ, zero, suc, ◌+◌, ◌*◌, ◌<◌, ◌≤◌, Bool, true, false, cond, ◌&&◌, ◌==◌, List, [], ◌∷◌, ◌++◌, length, take, drop, ◌-◌, length-append, Option, Some, None, refl, sym, ap, subst, ◌∙◌, append_assoc, arith}
use Rattle.std.specs.Char.{encode_utf8}
use Rattle.std.specs.List.{flat_map, list_all, AllByRecursion}
use Rattle.term_core.specs.Characters.{is_iri_character}
use Rattle.std.proofs.lemmas.Bool.{and_parts, and_from, cond-true, cond-false, eqb-true}
use Rattle.std.proofs.Math.Seq.{take-append_seam, drop-append_seam}
use Rattle.std.proofs.lemmas.List.{append-nil, nil_from_length}
use Rattle.std.proofs.lemmas.Option.{same_Some, cond_some}
use Rattle.std.proofs.lemmas.Grind.{flat_map-append}
use Rattle.nt_text.specs.declared.pieces.Between.{Between}
use Rattle.nt_text.specs.declared.run.Class.{Class}
use Rattle.nt_text.specs.declared.pieces.Between.TheVariants.{Brackets, Quotes}
use Rattle.nt_text.specs.Escapes.{Piece, Itself, Echar, Uchar4, Uchar8, source, meaning, is_piece, is_plain, is_named, is_letter_of_escape, are_four_digits, number_of_four}
use Rattle.nt_text.specs.Reading.{◌>>=◌, taken, four_at, named, named_at, uchar4_at, uchar8_at, escape_at, piece_at, joined, pieces_at, text_at, text_of, is_of, run, behind_run, IsPlainClass}
use Rattle.nt_text.proofs.Runs.{run_parts, run_passes}

-- the value of a step that did not fail
pub bind_some : {A B : Type 0} (o : Option A) (f : A → Option B) (y : B) → (o >>= f) ≡ Some y → (x : A) × (o ≡ Some x) × (f x ≡ Some y)
bind_some (Some x) f y e = (x, refl, e)
bind_some None f y e = absurd cc

-- a test that did not fail
pub guard_some : {A : Type 0} (test : Bool) (o : Option A) (x : A) → cond test o None ≡ Some x → (test ≡ true) × (o ≡ Some x)
guard_some true o x e = (refl, e)
guard_some false o x e = absurd cc

-- ---- one piece

record IsFour (bytes : List ℕ) (found : ℕ × List ℕ) : Type 0 where
  a : ℕ
  b : ℕ
  c : ℕ
  d : ℕ
  digits : are_four_digits a b c d ≡ true
  number : found.0 ≡ number_of_four a b c d
  spelled : bytes ≡ a ∷ b ∷ c ∷ d ∷ found.1

four_takes : (bytes : List ℕ) (found : ℕ × List ℕ) → four_at bytes ≡ Some found → IsFour bytes found
unfolding four_at
four_takes [] found e = absurd cc
four_takes (a ∷ []) found e = absurd cc
four_takes (a ∷ b ∷ []) found e = absurd cc
four_takes (a ∷ b ∷ c ∷ []) found e = absurd cc
four_takes (a ∷ b ∷ c ∷ d ∷ behind) found e =
    let g = cond_some (are_four_digits a b c d) (number_of_four a b c d, behind) found e in record {
      a = a;
      b = b;
      c = c;
      d = d;
      digits = g.0;
      number = ap (λ (f : ℕ × List ℕ). f.0) (sym g.1);
      spelled = ap (λ (f : ℕ × List ℕ). a ∷ b ∷ c ∷ d ∷ f.1) g.1;
    }

four_again : (a b c d : ℕ) (rest : List ℕ) → are_four_digits a b c d ≡ true → four_at (a ∷ b ∷ c ∷ d ∷ rest) ≡ Some (number_of_four a b c d, rest)
unfolding four_at
four_again a b c d rest h = cond-true (are_four_digits a b c d) (Some (number_of_four a b c d, rest)) None h

-- the bytes begin with a piece that means this
pub record IsPieceAt (between : Between) (bytes : List ℕ) (found : List ℕ × List ℕ) : Type 0 where
  pub piece : Piece
  pub is : is_piece between piece ≡ true
  pub spelled : bytes ≡ source piece ++ found.1
  pub means : found.0 ≡ meaning piece

taken_takes : (between : Between) (piece : Piece) (bytes behind : List ℕ) (found : List ℕ × List ℕ) → bytes ≡ source piece ++ behind
    → taken between piece behind ≡ Some found → IsPieceAt between bytes found
taken_takes between piece bytes behind found spelled e =
    let g = cond_some (is_piece between piece) (meaning piece, behind) found e in record {
      piece = piece;
      is = g.0;
      spelled = spelled ∙ ap (λ (f : List ℕ × List ℕ). source piece ++ f.1) g.1;
      means = ap (λ (f : List ℕ × List ℕ). f.0) (sym g.1);
    }

named_takes : (between : Between) (piece : Piece) (number : ℕ) (bytes behind : List ℕ) (found : List ℕ × List ℕ) → bytes ≡ source piece ++ behind
    → (is_named between number ≡ true → is_piece between piece ≡ true)
    → meaning piece ≡ encode_utf8 number
    → named_at between number behind ≡ Some found → IsPieceAt between bytes found
named_takes between piece number bytes behind found spelled is means e =
    let n = bind_some (named between number) (λ c. Some (encode_utf8 c, behind)) found e in
    let g = cond_some (is_named between number) number n.0 n.1 in
    let whole : (encode_utf8 number, behind) ≡ found = ap (λ (c : ℕ). (encode_utf8 c, behind)) g.1 ∙ same_Some (encode_utf8 n.0, behind) found n.2 in record {
      piece = piece;
      is = is g.0;
      spelled = spelled ∙ ap (λ (f : List ℕ × List ℕ). source piece ++ f.1) whole;
      means = ap (λ (f : List ℕ × List ℕ). f.0) (sym whole) ∙ sym means;
    }

uchar4_takes : (between : Between) (bytes : List ℕ) (found : List ℕ × List ℕ) → uchar4_at between bytes ≡ Some found → IsPieceAt between (92 ∷ 117 ∷ bytes) found
unfolding uchar4_at
uchar4_takes between bytes found e =
    let s = bind_some (four_at bytes) (λ four. named_at between four.0 four.1) found e in
    let four = four_takes bytes s.0 s.1 in
    named_takes between (Uchar4 four.a four.b four.c four.d) s.0.0 (92 ∷ 117 ∷ bytes) s.0.1 found
    (ap (λ (x : List ℕ). 92 ∷ 117 ∷ x) four.spelled)
    (λ h. and_from (are_four_digits four.a four.b four.c four.d) (is_named between (number_of_four four.a four.b four.c four.d)) four.digits
    (subst (λ (n : ℕ). is_named between n ≡ true) four.number h))
    (ap encode_utf8 (sym four.number))
    s.2

uchar8_takes : (between : Between) (bytes : List ℕ) (found : List ℕ × List ℕ) → uchar8_at between bytes ≡ Some found → IsPieceAt between (92 ∷ 85 ∷ bytes) found
unfolding uchar8_at
uchar8_takes between bytes found e =
    let h = bind_some (four_at bytes) (λ high. four_at high.1 >>= λ low. named_at between (high.0 * 65536 + low.0) low.1) found e in
    let l = bind_some (four_at h.0.1) (λ low. named_at between (h.0.0 * 65536 + low.0) low.1) found h.2 in
    let high = four_takes bytes h.0 h.1 in
    let low = four_takes h.0.1 l.0 l.1 in
    let number : h.0.0 * 65536 + l.0.0 ≡ number_of_four high.a high.b high.c high.d * 65536 + number_of_four low.a low.b low.c low.d =
    ap (λ (n : ℕ). n * 65536 + l.0.0) high.number ∙ ap (λ (n : ℕ). number_of_four high.a high.b high.c high.d * 65536 + n) low.number in
    named_takes between (Uchar8 high.a high.b high.c high.d low.a low.b low.c low.d) (h.0.0 * 65536 + l.0.0) (92 ∷ 85 ∷ bytes) l.0.1 found
    (ap (λ (x : List ℕ). 92 ∷ 85 ∷ x) (high.spelled ∙ ap (λ (x : List ℕ). high.a ∷ high.b ∷ high.c ∷ high.d ∷ x) low.spelled))
    (λ named. and_from (are_four_digits high.a high.b high.c high.d && are_four_digits low.a low.b low.c low.d) (is_named between (number_of_four high.a high.b high.c high.d * 65536 + number_of_four low.a low.b low.c low.d))
    (and_from (are_four_digits high.a high.b high.c high.d) (are_four_digits low.a low.b low.c low.d) high.digits low.digits)
    (subst (λ (n : ℕ). is_named between n ≡ true) number named))
    (ap encode_utf8 (sym number))
    l.2

escape_takes : (between : Between) (bytes : List ℕ) (found : List ℕ × List ℕ) → escape_at between bytes ≡ Some found → IsPieceAt between (92 ∷ bytes) found
unfolding escape_at
escape_takes between [] found e = absurd cc
escape_takes between (letter ∷ behind) found e = by (letter == 117) (letter == 85) refl refl e
  where
    by : (u long : Bool) → (letter == 117) ≡ u → (letter == 85) ≡ long
        → cond u (uchar4_at between behind) (cond long (uchar8_at between behind) (taken between (Echar letter) behind)) ≡ Some found
        → IsPieceAt between (92 ∷ letter ∷ behind) found
    by true long p q e =
        subst (λ (l : ℕ). IsPieceAt between (92 ∷ l ∷ behind) found) (sym (eqb-true letter 117 p)) (uchar4_takes between behind found e)
    by false true p q e =
        subst (λ (l : ℕ). IsPieceAt between (92 ∷ l ∷ behind) found) (sym (eqb-true letter 85 q)) (uchar8_takes between behind found e)
    by false false p q e = taken_takes between (Echar letter) (92 ∷ letter ∷ behind) behind found refl e

-- what is read is a piece
pub piece_takes : (between : Between) (bytes : List ℕ) (found : List ℕ × List ℕ) → piece_at between bytes ≡ Some found → IsPieceAt between bytes found
unfolding piece_at
piece_takes between [] found e = absurd cc
piece_takes between (b ∷ behind) found e = by (b == 92) refl e
  where
    by : (escape : Bool) → (b == 92) ≡ escape → cond escape (escape_at between behind) (taken between (Itself b) behind) ≡ Some found
        → IsPieceAt between (b ∷ behind) found
    by true p e = subst (λ (x : ℕ). IsPieceAt between (x ∷ behind) found) (sym (eqb-true b 92 p)) (escape_takes between behind found e)
    by false p e = taken_takes between (Itself b) (b ∷ behind) behind found refl e

-- a number that passes a test is none that fails it
pub other_than : (test : ℕ → Bool) (b n : ℕ) → test n ≡ false → test b ≡ true → (b == n) ≡ false
other_than test b n fails passes = by (b == n) refl
  where
    by : (same : Bool) → (b == n) ≡ same → same ≡ false
    by false p = refl
    by true p = let test_at : test b ≡ test n = ap test (eqb-true b n p) in absurd cc

pub no_plain_backslash : (between : Between) → is_plain between 92 ≡ false
unfolding is_plain is_iri_character
no_plain_backslash Brackets = refl
no_plain_backslash Quotes = refl

no_letter_u : (between : Between) → is_letter_of_escape between 117 ≡ false
unfolding is_letter_of_escape
no_letter_u Brackets = refl
no_letter_u Quotes = refl

no_letter_U : (between : Between) → is_letter_of_escape between 85 ≡ false
unfolding is_letter_of_escape
no_letter_U Brackets = refl
no_letter_U Quotes = refl

named_again : (between : Between) (number : ℕ) (rest : List ℕ) → is_named between number ≡ true → named_at between number rest ≡ Some (encode_utf8 number, rest)
named_again between number rest h = ap (λ (o : Option ℕ). o >>= λ c. Some (encode_utf8 c, rest)) (cond-true (is_named between number) (Some number) None h)

-- a piece is read
pub piece_again : (between : Between) (piece : Piece) (rest : List ℕ) → is_piece between piece ≡ true
    → piece_at between (source piece ++ rest) ≡ Some (meaning piece, rest)
unfolding piece_at escape_at uchar4_at uchar8_at
piece_again between (Itself b) rest h =
    cond-false (b == 92) (escape_at between rest) (taken between (Itself b) rest) (other_than (is_plain between) b 92 (no_plain_backslash between) h)
    ∙ cond-true (is_plain between b) (Some (meaning (Itself b), rest)) None h
piece_again between (Echar letter) rest h =
    cond-false (letter == 117) (uchar4_at between rest) (cond (letter == 85) (uchar8_at between rest) (taken between (Echar letter) rest))
    (other_than (is_letter_of_escape between) letter 117 (no_letter_u between) h)
    ∙ cond-false (letter == 85) (uchar8_at between rest) (taken between (Echar letter) rest) (other_than (is_letter_of_escape between) letter 85 (no_letter_U between) h)
    ∙ cond-true (is_letter_of_escape between letter) (Some (meaning (Echar letter), rest)) None h
piece_again between (Uchar4 a b c d) rest h =
    let g = and_parts (are_four_digits a b c d) (is_named between (number_of_four a b c d)) h in
    ap (λ (o : Option (ℕ × List ℕ)). o >>= λ four. named_at between four.0 four.1) (four_again a b c d rest g.0)
    ∙ named_again between (number_of_four a b c d) rest g.1
piece_again between (Uchar8 a b c d e f g h) rest is =
    let number = number_of_four a b c d * 65536 + number_of_four e f g h in
    let parts = and_parts (are_four_digits a b c d && are_four_digits e f g h) (is_named between number) is in
    let digits = and_parts (are_four_digits a b c d) (are_four_digits e f g h) parts.0 in
    ap (λ (o : Option (ℕ × List ℕ)). o >>= λ high. four_at high.1 >>= λ low. named_at between (high.0 * 65536 + low.0) low.1)
    (four_again a b c d (e ∷ f ∷ g ∷ h ∷ rest) digits.0)
    ∙ ap (λ (o : Option (ℕ × List ℕ)). o >>= λ low. named_at between (number_of_four a b c d * 65536 + low.0) low.1) (four_again e f g h rest digits.1)
    ∙ named_again between number rest parts.1

-- ---- many pieces

abbrev pub ArePieces : Between → List Piece → Type 0
ArePieces between pieces = AllByRecursion (λ piece. is_piece between piece ≡ true) pieces

-- of the bytes, pieces that mean this are read; the rest is still to come
pub record IsSoFar (between : Between) (bytes rest said : List ℕ) : Type 0 where
  pub pieces : List Piece
  pub each : ArePieces between pieces
  pub spelled : bytes ≡ flat_map source pieces ++ rest
  pub means : said ≡ flat_map meaning pieces

pub so_far_start : (between : Between) (bytes : List ℕ) → IsSoFar between bytes bytes []
so_far_start between bytes = record { pieces = []; each = tt; spelled = refl; means = refl }

ArePieces-append : (between : Between) (ps qs : List Piece) → ArePieces between ps → ArePieces between qs → ArePieces between (ps ++ qs)
ArePieces-append between [] qs h k = k
ArePieces-append between (p ∷ ps) qs h k = (h.0, ArePieces-append between ps qs h.1 k)

pub so_far_more : (between : Between) (bytes rest said : List ℕ) (found : List ℕ × List ℕ) → IsSoFar between bytes rest said → piece_at between rest ≡ Some found
    → IsSoFar between bytes found.1 (said ++ found.0)
so_far_more between bytes rest said found h e =
    let at = piece_takes between rest found e in record {
      pieces = h.pieces ++ at.piece ∷ [];
      each = ArePieces-append between h.pieces (at.piece ∷ []) h.each (at.is, tt);
      spelled = h.spelled ∙ ap (λ (x : List ℕ). flat_map source h.pieces ++ x) at.spelled ∙ sym (append_assoc (flat_map source h.pieces) (source at.piece) found.1)
          ∙ ap (λ (x : List ℕ). (flat_map source h.pieces ++ x) ++ found.1) (sym (append-nil (source at.piece)))
          ∙ ap (λ (x : List ℕ). x ++ found.1) (sym (flat_map-append source h.pieces (at.piece ∷ [])));
      means = ap (λ (x : List ℕ). said ++ x) at.means ∙ ap (λ (x : List ℕ). x ++ meaning at.piece) h.means
          ∙ ap (λ (x : List ℕ). flat_map meaning h.pieces ++ x) (sym (append-nil (meaning at.piece)))
          ∙ sym (flat_map-append meaning h.pieces (at.piece ∷ []));
    }

source_length : (piece : Piece) → 1 ≤ length (source piece)
source_length (Itself b) = omega arith
source_length (Echar letter) = omega arith
source_length (Uchar4 a b c d) = omega arith
source_length (Uchar8 a b c d e f g h) = omega arith

pub piece_shorter : (between : Between) (bytes : List ℕ) (found : List ℕ × List ℕ) → piece_at between bytes ≡ Some found → length found.1 < length bytes
piece_shorter between bytes found e =
    let at = piece_takes between bytes found e in
    omega (arith, ap length at.spelled, length-append (source at.piece) found.1, source_length at.piece)

sources_length : (pieces : List Piece) → length pieces ≤ length (flat_map source pieces)
sources_length [] = omega arith
sources_length (p ∷ ps) = omega (arith, length-append (source p) (flat_map source ps), source_length p, sources_length ps)

pieces_again : (between : Between) (pieces : List Piece) (n : ℕ) (rest : List ℕ) → ArePieces between pieces → length pieces ≤ n → piece_at between rest ≡ None
    → pieces_at n between (flat_map source pieces ++ rest) ≡ (flat_map meaning pieces, rest)
pieces_again between [] zero rest each short none = refl
pieces_again between [] (suc n) rest each short none = ap (λ (o : Option (List ℕ × List ℕ)). joined rest o (λ r. pieces_at n between r)) none
pieces_again between (p ∷ ps) zero rest each short none = absurd (omega arith)
pieces_again between (p ∷ ps) (suc n) rest each short none =
    let bytes = (source p ++ flat_map source ps) ++ rest in
    let first : piece_at between bytes ≡ Some (meaning p, flat_map source ps ++ rest) =
    ap (piece_at between) (append_assoc (source p) (flat_map source ps) rest) ∙ piece_again between p (flat_map source ps ++ rest) each.0 in
    ap (λ (o : Option (List ℕ × List ℕ)). joined bytes o (λ r. pieces_at n between r)) first
    ∙ ap (λ (r : List ℕ × List ℕ). (meaning p ++ r.0, r.1)) (pieces_again between ps n rest each.1 (omega arith) none)

-- a text and what is behind it are read
pub text_again : (between : Between) (pieces : List Piece) (rest : List ℕ) → ArePieces between pieces → piece_at between rest ≡ None
    → text_at between (flat_map source pieces ++ rest) ≡ (flat_map meaning pieces, rest)
unfolding text_at
text_again between pieces rest each none =
    pieces_again between pieces (length (flat_map source pieces ++ rest)) rest each (omega (arith, length-append (flat_map source pieces) rest, sources_length pieces)) none

pub so_far_end : (between : Between) (bytes rest said : List ℕ) → IsSoFar between bytes rest said → piece_at between rest ≡ None → text_at between bytes ≡ (said, rest)
so_far_end between bytes rest said h none =
    ap (text_at between) h.spelled ∙ text_again between h.pieces rest h.each none ∙ ap (λ (x : List ℕ). (x, rest)) (sym h.means)

-- what is read are pieces
pieces_takes : (n : ℕ) (between : Between) (bytes : List ℕ) → IsSoFar between bytes (pieces_at n between bytes).1 (pieces_at n between bytes).0
pieces_takes zero between bytes = so_far_start between bytes
pieces_takes (suc n) between bytes = by (piece_at between bytes) refl (λ rest. pieces_takes n between rest)
  where
    onto : (found : List ℕ × List ℕ) (rest said : List ℕ) → piece_at between bytes ≡ Some found → IsSoFar between found.1 rest said
        → IsSoFar between bytes rest (found.0 ++ said)
    onto found rest said e h =
        let at = piece_takes between bytes found e in record {
          pieces = at.piece ∷ h.pieces;
          each = (at.is, h.each);
          spelled = at.spelled ∙ ap (λ (x : List ℕ). source at.piece ++ x) h.spelled ∙ sym (append_assoc (source at.piece) (flat_map source h.pieces) rest);
          means = ap (λ (x : List ℕ). x ++ said) at.means ∙ ap (λ (x : List ℕ). meaning at.piece ++ x) h.means;
        }

    by : (o : Option (List ℕ × List ℕ)) → piece_at between bytes ≡ o → ((rest : List ℕ) → IsSoFar between rest (pieces_at n between rest).1 (pieces_at n between rest).0)
        → IsSoFar between bytes (joined bytes o (λ rest. pieces_at n between rest)).1 (joined bytes o (λ rest. pieces_at n between rest)).0
    by None e again = so_far_start between bytes
    by (Some found) e again = onto found (pieces_at n between found.1).1 (pieces_at n between found.1).0 e (again found.1)

pub text_takes : (between : Between) (bytes : List ℕ) → IsSoFar between bytes (text_at between bytes).1 (text_at between bytes).0
unfolding text_at
text_takes between bytes = pieces_takes (length bytes) between bytes

-- ---- what the code does

no_piece_in_nothing : (between : Between) → piece_at between [] ≡ None
unfolding piece_at
no_piece_in_nothing between = refl

-- the text that was cut, and what is behind it
pub cut_there : (between : Between) (bytes rest said front back : List ℕ) → IsSoFar between bytes rest said → piece_at between rest ≡ None
    → front ≡ take (length bytes - length rest) bytes → back ≡ drop (length bytes - length rest) bytes
    → text_at between bytes ≡ (text_of between front, back)
cut_there between bytes rest said front back h none front_is back_is =
    let sources = flat_map source h.pieces in
    let width : length bytes - length rest ≡ length sources = omega (arith, ap length h.spelled, length-append sources rest) in
    let front_same : front ≡ sources = front_is ∙ ap (λ (n : ℕ). take n bytes) width ∙ ap (take (length sources)) h.spelled ∙ take-append_seam sources rest in
    let back_same : back ≡ rest = back_is ∙ ap (λ (n : ℕ). drop n bytes) width ∙ ap (drop (length sources)) h.spelled ∙ drop-append_seam sources rest in
    let whole : text_at between front ≡ (said, []) =
    so_far_end between front [] said (record { pieces = h.pieces; each = h.each; spelled = front_same ∙ sym (append-nil sources); means = h.means }) (no_piece_in_nothing between) in
    so_far_end between bytes rest said h none ∙ ap (λ (x : List ℕ). (said, x)) (sym back_same)
    ∙ ap (λ (x : List ℕ × List ℕ). (x.0, back)) (sym whole)

plain_so_far : (between : Between) (raw : List ℕ) → list_all (is_plain between) raw ≡ true → IsSoFar between raw [] raw
plain_so_far between [] h = so_far_start between []
plain_so_far between (b ∷ raw) h =
    let parts = and_parts (is_plain between b) (list_all (is_plain between) raw) h in
    let rest = plain_so_far between raw parts.1 in record {
      pieces = Itself b ∷ rest.pieces;
      each = (parts.0, rest.each);
      spelled = ap (λ (x : List ℕ). b ∷ x) rest.spelled;
      means = ap (λ (x : List ℕ). b ∷ x) rest.means;
    }

list_all_same : (f g : ℕ → Bool) → ((b : ℕ) → f b ≡ g b) → (xs : List ℕ) → list_all f xs ≡ true → list_all g xs ≡ true
list_all_same f g same [] h = refl
list_all_same f g same (x ∷ xs) h =
    let parts = and_parts (f x) (list_all f xs) h in
    and_from (g x) (list_all g xs) (sym (same x) ∙ parts.0) (list_all_same f g same xs parts.1)

-- a text without escapes means itself
pub plain_text : (between : Between) (class : Class) (raw rest : List ℕ) (empty : Bool) → IsPlainClass between class → rest ≡ behind_run (is_of class) raw
    → empty ≡ (length rest == 0) → empty ≡ true → raw ≡ text_of between raw
plain_text between class raw rest empty plain rest_is test was =
    let nothing : behind_run (is_of class) raw ≡ [] = sym rest_is ∙ nil_from_length rest (eqb-true (length rest) 0 (sym test ∙ was)) in
    let all : raw ≡ run (is_of class) raw =
    run_parts (is_of class) raw ∙ ap (λ (x : List ℕ). run (is_of class) raw ++ x) nothing ∙ append-nil (run (is_of class) raw) in
    let passes : list_all (is_of class) raw ≡ true = subst (λ (x : List ℕ). list_all (is_of class) x ≡ true) (sym all) (run_passes (is_of class) raw) in
    ap (λ (x : List ℕ × List ℕ). x.0) (sym (so_far_end between raw [] raw (plain_so_far between raw (list_all_same (is_of class) (is_plain between) plain raw passes)) (no_piece_in_nothing between)))
