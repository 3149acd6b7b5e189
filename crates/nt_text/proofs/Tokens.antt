-- A token that is read is spelled so, and one that is spelled so is read.
use Rattle.std.proofs.Common.{◌≡◌, ℕ, Bool, true, false, cond, ◌==◌, List, [], ◌∷◌, ◌++◌, map, drop, length, Option, Some, None, refl, sym, ap, subst, ◌∙◌, append_assoc, inl, inr}
use Rattle.std.specs.Char.{to_ascii_lowercase}
use Rattle.std.specs.List.{flat_map}
use Rattle.std.specs.Str.{IsUtf8, is_utf8}
use Rattle.std.proofs.lemmas.Bool.{and_parts, and_from, eqb-true, cond-true}
use Rattle.std.proofs.lemmas.List.{append-nil}
use Rattle.std.proofs.lemmas.Option.{same_Some, cond_some}
use Rattle.std.proofs.lemmas.Str.{IsUtf8-from_is_utf8, is_utf8-from_IsUtf8}
use Rattle.term_core.specs.declared.term.Term.{Term}
use Rattle.term_core.specs.declared.term.Term.TheVariants.{Iri, Literal, Tagged, Blank}
use Rattle.term_core.specs.Characters.{is_iri_character}
use Rattle.term_core.specs.Term.{IsTag, IsLabel, MayBeSubject, MayBePredicate}
use Rattle.nt_text.specs.declared.pieces.Between.{Between}
use Rattle.nt_text.specs.declared.pieces.Between.TheVariants.{Brackets, Quotes}
use Rattle.nt_text.specs.Cell.{xsd_string}
use Rattle.nt_text.specs.Document.{is_white, IsWhite, IsTyped, IsTagged, IsToken}
use Rattle.nt_text.specs.Escapes.{source, meaning, is_plain, opening, closing, IsEnclosed}
use Rattle.nt_text.specs.Reading.{◌>>=◌, run, behind_run, is_tag_byte, piece_at, text_at, closed, enclosed_at, iriref_at, without_dot, is_label_byte, is_label, labelled, behind_colon, node_at, is_tag, tagged, typed, marked, mark_at, literal_at, subject_at, object_at, has_texts}
use Rattle.nt_text.proofs.Labels.{label_takes, label_parts, node_again, IsLabelStop}
use Rattle.nt_text.proofs.PieceTexts.{bind_some, guard_some, text_takes, text_again}
use Rattle.nt_text.proofs.Runs.{run_parts, run_passes, run-append, behind_run-append, behind_again}
use Rattle.nt_text.proofs.Sources.{token_utf8}
use Rattle.nt_text.proofs.Tags.{tag_takes, tag_again, tag_bytes, tag_utf8}
use Rattle.nt_text.proofs.TextTests.{xsd_utf8}

-- ---- between brackets or quotes

record IsEnclosedAt (between : Between) (bytes : List ℕ) (found : List ℕ × List ℕ) : Type 0 where
  token : List ℕ
  is : IsEnclosed between token found.0
  spelled : bytes ≡ token ++ found.1

closed_takes : (close : ℕ) (text rest : List ℕ) (found : List ℕ × List ℕ) → closed close text rest ≡ Some found → (rest ≡ close ∷ found.1) × (text ≡ found.0)
closed_takes close text [] found e = absurd cc
closed_takes close text (b ∷ behind) found e =
    let g = cond_some (b == close) (text, behind) found e in
    (ap (λ (x : ℕ). x ∷ behind) (eqb-true b close g.0) ∙ ap (λ (f : List ℕ × List ℕ). close ∷ f.1) g.1, ap (λ (f : List ℕ × List ℕ). f.0) g.1)

enclosed_takes : (between : Between) (bytes : List ℕ) (found : List ℕ × List ℕ) → enclosed_at between bytes ≡ Some found → is_utf8 found.0 ≡ true
    → IsEnclosedAt between bytes found
unfolding enclosed_at
enclosed_takes between [] found e utf8 = absurd cc
enclosed_takes between (b ∷ inside) found e utf8 =
    let g = guard_some (b == opening between) (closed (closing between) (text_at between inside).0 (text_at between inside).1) found e in
    let k = closed_takes (closing between) (text_at between inside).0 (text_at between inside).1 found g.1 in
    let t = text_takes between inside in
    let sources = flat_map source t.pieces in
    let means : found.0 ≡ flat_map meaning t.pieces = sym k.1 ∙ t.means in
    let parts : inside ≡ (sources ++ closing between ∷ []) ++ found.1 =
    t.spelled ∙ ap (λ (x : List ℕ). sources ++ x) k.0 ∙ sym (append_assoc sources (closing between ∷ []) found.1) in record {
      token = opening between ∷ (sources ++ closing between ∷ []);
      is = record {
        pieces = t.pieces;
        each = t.each;
        spelled = refl;
        means = means;
        written = token_utf8 between t.pieces t.each (subst IsUtf8 means (IsUtf8-from_is_utf8 found.0 utf8));
        utf8 = IsUtf8-from_is_utf8 found.0 utf8;
      };
      spelled = ap (λ (x : ℕ). x ∷ inside) (eqb-true b (opening between) g.0) ∙ ap (λ (x : List ℕ). opening between ∷ x) parts;
    }

closing_ends : (between : Between) (rest : List ℕ) → piece_at between (closing between ∷ rest) ≡ None
unfolding piece_at is_plain is_iri_character
closing_ends Brackets rest = refl
closing_ends Quotes rest = refl

opening_same : (between : Between) → (opening between == opening between) ≡ true
opening_same Brackets = refl
opening_same Quotes = refl

closing_same : (between : Between) → (closing between == closing between) ≡ true
closing_same Brackets = refl
closing_same Quotes = refl

enclosed_again : (between : Between) (token text rest : List ℕ) → IsEnclosed between token text → enclosed_at between (token ++ rest) ≡ Some (text, rest)
unfolding enclosed_at
enclosed_again between token text rest h =
    let sources = flat_map source h.pieces in
    let close = closing between in
    let spelled : token ++ rest ≡ opening between ∷ (sources ++ close ∷ rest) =
    ap (λ (x : List ℕ). x ++ rest) h.spelled ∙ ap (λ (x : List ℕ). opening between ∷ x) (append_assoc sources (close ∷ []) rest) in
    let read = text_again between h.pieces (close ∷ rest) h.each (closing_ends between rest) in
    ap (enclosed_at between) spelled
    ∙ cond-true (opening between == opening between) (closed close (text_at between (sources ++ close ∷ rest)).0 (text_at between (sources ++ close ∷ rest)).1) None (opening_same between)
    ∙ ap (λ (x : List ℕ × List ℕ). closed close x.0 x.1) read
    ∙ cond-true (close == close) (Some (flat_map meaning h.pieces, rest)) None (closing_same between)
    ∙ ap (λ (x : List ℕ). Some (x, rest)) (sym h.means)

-- ---- what is read is spelled so

-- the bytes begin with a token of this term
pub record IsTokenAt (bytes : List ℕ) (found : Term × List ℕ) : Type 0 where
  pub token : List ℕ
  pub is : IsToken token found.0
  pub spelled : bytes ≡ token ++ found.1

token_at : (bytes token rest : List ℕ) (term : Term) (found : Term × List ℕ) → (term, rest) ≡ found → IsToken token term → bytes ≡ token ++ rest → IsTokenAt bytes found
token_at bytes token rest term found e is spelled = subst (λ (f : Term × List ℕ). IsTokenAt bytes f) e (record { token = token; is = is; spelled = spelled })

texts_of : (term : Term) (rest : List ℕ) (found : Term × List ℕ) → (term, rest) ≡ found → has_texts found.0 ≡ true → has_texts term ≡ true
texts_of term rest found e h = ap (λ (f : Term × List ℕ). has_texts f.0) e ∙ h

pub iriref_takes : (bytes : List ℕ) (found : Term × List ℕ) → iriref_at bytes ≡ Some found → has_texts found.0 ≡ true → IsTokenAt bytes found
unfolding iriref_at
iriref_takes bytes found e texts =
    let i = bind_some (enclosed_at Brackets bytes) (λ iri. Some (Iri iri.0, iri.1)) found e in
    let same = same_Some (Iri i.0.0, i.0.1) found i.2 in
    let k = enclosed_takes Brackets bytes i.0 i.1 (texts_of (Iri i.0.0) i.0.1 found same texts) in
    token_at bytes k.token i.0.1 (Iri i.0.0) found same k.is k.spelled

-- it stands where a predicate may
pub iriref_kind : (bytes : List ℕ) (found : Term × List ℕ) → iriref_at bytes ≡ Some found → MayBePredicate found.0 × MayBeSubject found.0
unfolding iriref_at
iriref_kind bytes found e =
    let i = bind_some (enclosed_at Brackets bytes) (λ iri. Some (Iri iri.0, iri.1)) found e in
    subst (λ (f : Term × List ℕ). MayBePredicate f.0 × MayBeSubject f.0) (same_Some (Iri i.0.0, i.0.1) found i.2) (tt, tt)

labelled_takes : (inside : List ℕ) (found : Term × List ℕ) → labelled (without_dot (run is_label_byte inside)) inside ≡ Some found
    → IsTokenAt (95 ∷ 58 ∷ inside) found × MayBeSubject found.0
labelled_takes inside found e =
    let label = without_dot (run is_label_byte inside) in
    let g = cond_some (is_label label) (Blank 0 label, drop (length label) inside) found e in (
      token_at (95 ∷ 58 ∷ inside) (95 ∷ 58 ∷ label) (drop (length label) inside) (Blank 0 label) found g.1 (refl, label_takes label g.0, refl)
          (ap (λ (x : List ℕ). 95 ∷ 58 ∷ x) (label_parts inside)),
      subst (λ (f : Term × List ℕ). MayBeSubject f.0) g.1 tt,
    )

behind_colon_takes : (bytes : List ℕ) (found : Term × List ℕ) → behind_colon bytes ≡ Some found → IsTokenAt (95 ∷ bytes) found × MayBeSubject found.0
behind_colon_takes [] found e = absurd cc
behind_colon_takes (b ∷ inside) found e =
    let g = guard_some (b == 58) (labelled (without_dot (run is_label_byte inside)) inside) found e in
    subst (λ (x : ℕ). IsTokenAt (95 ∷ x ∷ inside) found × MayBeSubject found.0) (sym (eqb-true b 58 g.0)) (labelled_takes inside found g.1)

pub node_takes : (bytes : List ℕ) (found : Term × List ℕ) → node_at bytes ≡ Some found → IsTokenAt bytes found × MayBeSubject found.0
unfolding node_at
node_takes [] found e = absurd cc
node_takes (b ∷ bytes) found e =
    let g = guard_some (b == 95) (behind_colon bytes) found e in
    subst (λ (x : ℕ). IsTokenAt (x ∷ bytes) found × MayBeSubject found.0) (sym (eqb-true b 95 g.0)) (behind_colon_takes bytes found g.1)

-- a mark behind a string and white space
tagged_takes : (bytes string form before : List ℕ) (found : Term × List ℕ) → IsEnclosed Quotes string form → IsWhite before → tagged form bytes ≡ Some found
    → IsTokenAt (string ++ (before ++ 64 ∷ bytes)) found
tagged_takes bytes string form before found is white e =
    let written = run is_tag_byte bytes in
    let tag = map to_ascii_lowercase written in
    let rest = behind_run is_tag_byte bytes in
    let g = cond_some (is_tag written) (Tagged form tag, rest) found e in
    let whole : string ++ (before ++ 64 ∷ bytes) ≡ (string ++ (before ++ 64 ∷ written)) ++ rest =
    ap (λ (x : List ℕ). string ++ (before ++ 64 ∷ x)) (run_parts is_tag_byte bytes) ∙ ap (λ (x : List ℕ). string ++ x) (sym (append_assoc before (64 ∷ written) rest))
    ∙ sym (append_assoc string (before ++ 64 ∷ written) rest) in
    let is_token : IsTagged (string ++ (before ++ 64 ∷ written)) form tag = record {
      string = string;
      before = before;
      written = written;
      spelled = refl;
      white_before = white;
      string_is = is;
      lower = refl;
      tag_is = tag_takes written g.0;
    } in
    token_at (string ++ (before ++ 64 ∷ bytes)) (string ++ (before ++ 64 ∷ written)) rest (Tagged form tag) found g.1 is_token whole

typed_takes : (bytes string form before : List ℕ) (found : Term × List ℕ) → IsEnclosed Quotes string form → IsWhite before → typed form bytes ≡ Some found
    → has_texts found.0 ≡ true → IsTokenAt (string ++ (before ++ 94 ∷ bytes)) found
typed_takes [] string form before found is white e texts = absurd cc
typed_takes (b ∷ bytes) string form before found is white e texts =
    let g = guard_some (b == 94) (enclosed_at Brackets (behind_run is_white bytes) >>= λ iri. Some (Literal form iri.0, iri.1)) found e in
    let i = bind_some (enclosed_at Brackets (behind_run is_white bytes)) (λ iri. Some (Literal form iri.0, iri.1)) found g.1 in
    let same = same_Some (Literal form i.0.0, i.0.1) found i.2 in
    let datatype_utf8 = (and_parts (is_utf8 form) (is_utf8 i.0.0) (texts_of (Literal form i.0.0) i.0.1 found same texts)).1 in
    let k = enclosed_takes Brackets (behind_run is_white bytes) i.0 i.1 datatype_utf8 in
    let behind = run is_white bytes in
    let token = string ++ (before ++ (94 ∷ 94 ∷ (behind ++ k.token))) in
    let inside : b ∷ bytes ≡ 94 ∷ ((behind ++ k.token) ++ i.0.1) =
    ap (λ (x : ℕ). x ∷ bytes) (eqb-true b 94 g.0)
    ∙ ap (λ (x : List ℕ). 94 ∷ x) (run_parts is_white bytes ∙ ap (λ (x : List ℕ). behind ++ x) k.spelled ∙ sym (append_assoc behind k.token i.0.1)) in
    let whole : string ++ (before ++ 94 ∷ b ∷ bytes) ≡ token ++ i.0.1 =
    ap (λ (x : List ℕ). string ++ (before ++ 94 ∷ x)) inside
    ∙ ap (λ (x : List ℕ). string ++ x) (sym (append_assoc before (94 ∷ 94 ∷ (behind ++ k.token)) i.0.1))
    ∙ sym (append_assoc string (before ++ (94 ∷ 94 ∷ (behind ++ k.token))) i.0.1) in
    let is_token : IsTyped token form i.0.0 = record {
      string = string;
      before = before;
      behind = behind;
      iri = k.token;
      spelled = refl;
      white_before = white;
      white_behind = run_passes is_white bytes;
      string_is = is;
      iri_is = k.is;
    } in
    token_at (string ++ (before ++ 94 ∷ b ∷ bytes)) token i.0.1 (Literal form i.0.0) found same (inr is_token) whole

plain_takes : (string form rest : List ℕ) (found : Term × List ℕ) → IsEnclosed Quotes string form → Some (Literal form xsd_string, rest) ≡ Some found
    → IsTokenAt (string ++ rest) found
plain_takes string form rest found is e =
    token_at (string ++ rest) string rest (Literal form xsd_string) found (same_Some (Literal form xsd_string, rest) found e) (inl (is, refl)) refl

marked_takes : (bytes string form before rest : List ℕ) (found : Term × List ℕ) → IsEnclosed Quotes string form → IsWhite before → rest ≡ before ++ bytes
    → marked form rest bytes ≡ Some found → has_texts found.0 ≡ true → IsTokenAt (string ++ rest) found
marked_takes [] string form before rest found is white parts e texts = plain_takes string form rest found is e
marked_takes (b ∷ bytes) string form before rest found is white parts e texts = by (b == 94) (b == 64) refl refl e
  where
    at : (n : ℕ) → (b == n) ≡ true → IsTokenAt (string ++ (before ++ n ∷ bytes)) found → IsTokenAt (string ++ rest) found
    at n p h =
        let same : string ++ (before ++ n ∷ bytes) ≡ string ++ rest =
        ap (λ (x : ℕ). string ++ (before ++ x ∷ bytes)) (sym (eqb-true b n p)) ∙ ap (λ (x : List ℕ). string ++ x) (sym parts) in
        subst (λ (x : List ℕ). IsTokenAt x found) same h

    by : (caret at_sign : Bool) → (b == 94) ≡ caret → (b == 64) ≡ at_sign
        → cond caret (typed form bytes) (cond at_sign (tagged form bytes) (Some (Literal form xsd_string, rest))) ≡ Some found
        → IsTokenAt (string ++ rest) found
    by true at_sign p q e = at 94 p (typed_takes bytes string form before found is white e texts)
    by false true p q e = at 64 q (tagged_takes bytes string form before found is white e)
    by false false p q e = plain_takes string form rest found is e

-- the form of a literal is text where the literal's texts are
typed_form : (bytes form : List ℕ) (found : Term × List ℕ) → typed form bytes ≡ Some found → has_texts found.0 ≡ true → is_utf8 form ≡ true
typed_form [] form found e texts = absurd cc
typed_form (b ∷ bytes) form found e texts =
    let g = guard_some (b == 94) (enclosed_at Brackets (behind_run is_white bytes) >>= λ iri. Some (Literal form iri.0, iri.1)) found e in
    let i = bind_some (enclosed_at Brackets (behind_run is_white bytes)) (λ iri. Some (Literal form iri.0, iri.1)) found g.1 in
    let same = same_Some (Literal form i.0.0, i.0.1) found i.2 in
    (and_parts (is_utf8 form) (is_utf8 i.0.0) (texts_of (Literal form i.0.0) i.0.1 found same texts)).0

tagged_form : (bytes form : List ℕ) (found : Term × List ℕ) → tagged form bytes ≡ Some found → has_texts found.0 ≡ true → is_utf8 form ≡ true
tagged_form bytes form found e texts =
    let tag = map to_ascii_lowercase (run is_tag_byte bytes) in
    let g = cond_some (is_tag (run is_tag_byte bytes)) (Tagged form tag, behind_run is_tag_byte bytes) found e in
    (and_parts (is_utf8 form) (is_utf8 tag) (texts_of (Tagged form tag) (behind_run is_tag_byte bytes) found g.1 texts)).0

plain_form : (form rest : List ℕ) (found : Term × List ℕ) → Some (Literal form xsd_string, rest) ≡ Some found → has_texts found.0 ≡ true → is_utf8 form ≡ true
plain_form form rest found e texts =
    (and_parts (is_utf8 form) (is_utf8 xsd_string) (texts_of (Literal form xsd_string) rest found (same_Some (Literal form xsd_string, rest) found e) texts)).0

marked_form : (bytes form rest : List ℕ) (found : Term × List ℕ) → marked form rest bytes ≡ Some found → has_texts found.0 ≡ true → is_utf8 form ≡ true
marked_form [] form rest found e texts = plain_form form rest found e texts
marked_form (b ∷ bytes) form rest found e texts = by (b == 94) (b == 64) e
  where
    by : (caret at_sign : Bool) → cond caret (typed form bytes) (cond at_sign (tagged form bytes) (Some (Literal form xsd_string, rest))) ≡ Some found
        → is_utf8 form ≡ true
    by true at_sign e = typed_form bytes form found e texts
    by false true e = tagged_form bytes form found e texts
    by false false e = plain_form form rest found e texts

pub literal_takes : (bytes : List ℕ) (found : Term × List ℕ) → literal_at bytes ≡ Some found → has_texts found.0 ≡ true → IsTokenAt bytes found
unfolding literal_at mark_at
literal_takes bytes found e texts =
    let s = bind_some (enclosed_at Quotes bytes) (λ form. mark_at form.0 form.1) found e in
    let rest = s.0.1 in
    let utf8 = marked_form (behind_run is_white rest) s.0.0 rest found s.2 texts in
    let k = enclosed_takes Quotes bytes s.0 s.1 utf8 in
    subst (λ (x : List ℕ). IsTokenAt x found) (sym k.spelled)
    (marked_takes (behind_run is_white rest) k.token s.0.0 (run is_white rest) rest found k.is (run_passes is_white rest) (run_parts is_white rest) s.2 texts)

pub subject_takes : (bytes : List ℕ) (found : Term × List ℕ) → subject_at bytes ≡ Some found → has_texts found.0 ≡ true → IsTokenAt bytes found × MayBeSubject found.0
unfolding subject_at
subject_takes [] found e texts = absurd cc
subject_takes (b ∷ bytes) found e texts = by (b == 60) e
  where
    by : (iri : Bool) → cond iri (iriref_at (b ∷ bytes)) (node_at (b ∷ bytes)) ≡ Some found → IsTokenAt (b ∷ bytes) found × MayBeSubject found.0
    by true e = (iriref_takes (b ∷ bytes) found e texts, (iriref_kind (b ∷ bytes) found e).1)
    by false e = node_takes (b ∷ bytes) found e

pub object_takes : (bytes : List ℕ) (found : Term × List ℕ) → object_at bytes ≡ Some found → has_texts found.0 ≡ true → IsTokenAt bytes found
unfolding object_at
object_takes [] found e texts = absurd cc
object_takes (b ∷ bytes) found e texts = by (b == 60) (b == 95) e
  where
    by : (iri node : Bool) → cond iri (iriref_at (b ∷ bytes)) (cond node (node_at (b ∷ bytes)) (literal_at (b ∷ bytes))) ≡ Some found → IsTokenAt (b ∷ bytes) found
    by true node e = iriref_takes (b ∷ bytes) found e texts
    by false true e = (node_takes (b ∷ bytes) found e).0
    by false false e = literal_takes (b ∷ bytes) found e texts

-- ---- what is spelled so is read

-- a token's first byte, by which it is told
abbrev pub head_of : Term → ℕ
head_of (Iri iri) = 60
head_of (Literal form datatype) = 34
head_of (Tagged form tag) = 34
head_of (Blank at label) = 95

pub record BeginsWith (head : ℕ) (token : List ℕ) : Type 0 where
  pub tail : List ℕ
  pub is : token ≡ head ∷ tail

begins_append : (head : ℕ) (token more : List ℕ) → BeginsWith head token → BeginsWith head (token ++ more)
begins_append head token more h = record { tail = h.tail ++ more; is = ap (λ (x : List ℕ). x ++ more) h.is }

begins_same : (head : ℕ) (token other : List ℕ) → other ≡ token → BeginsWith head token → BeginsWith head other
begins_same head token other e h = record { tail = h.tail; is = e ∙ h.is }

enclosed_begins : (between : Between) (token text : List ℕ) → IsEnclosed between token text → BeginsWith (opening between) token
enclosed_begins between token text h = record { tail = flat_map source h.pieces ++ closing between ∷ []; is = h.spelled }

pub token_begins : (token : List ℕ) (term : Term) → IsToken token term → BeginsWith (head_of term) token
token_begins token (Iri iri) h = enclosed_begins Brackets token iri h
token_begins token (Literal form datatype) h =
    elim h [
      | inl plain ↦ enclosed_begins Quotes token form plain.0
      | inr typed ↦
          begins_same 34 (typed.string ++ (typed.before ++ (94 ∷ 94 ∷ (typed.behind ++ typed.iri)))) token typed.spelled
          (begins_append 34 typed.string (typed.before ++ (94 ∷ 94 ∷ (typed.behind ++ typed.iri))) (enclosed_begins Quotes typed.string form typed.string_is))
    ]
token_begins token (Tagged form tag) h =
    begins_same 34 (h.string ++ (h.before ++ 64 ∷ h.written)) token h.spelled
    (begins_append 34 h.string (h.before ++ 64 ∷ h.written) (enclosed_begins Quotes h.string form h.string_is))
token_begins token (Blank at label) h = record { tail = 58 ∷ label; is = h.2 }

-- no token begins with white space, nor with a comment's sign
head_white : (term : Term) → is_white (head_of term) ≡ false
head_white (Iri iri) = refl
head_white (Literal form datatype) = refl
head_white (Tagged form tag) = refl
head_white (Blank at label) = refl

-- behind white space comes what begins with no white space
pub past_white : (white bytes : List ℕ) (head : ℕ) → IsWhite white → is_white head ≡ false → BeginsWith head bytes → behind_run is_white (white ++ bytes) ≡ bytes
past_white white bytes head white_is dark h =
    ap (λ (x : List ℕ). behind_run is_white (white ++ x)) h.is ∙ behind_again is_white white head h.tail white_is dark ∙ sym h.is

pub past_white_token : (white token rest : List ℕ) (term : Term) → IsWhite white → IsToken token term → behind_run is_white (white ++ (token ++ rest)) ≡ token ++ rest
past_white_token white token rest term white_is is =
    past_white white (token ++ rest) (head_of term) white_is (head_white term) (begins_append (head_of term) token rest (token_begins token term is))

pub iriref_again : (token iri rest : List ℕ) → IsEnclosed Brackets token iri → iriref_at (token ++ rest) ≡ Some (Iri iri, rest)
unfolding iriref_at
iriref_again token iri rest h = ap (λ (o : Option (List ℕ × List ℕ)). o >>= λ found. Some (Iri found.0, found.1)) (enclosed_again Brackets token iri rest h)

-- what stands behind an object: it goes on no label and no tag, and is no mark
pub record IsObjectStop (rest : List ℕ) : Type 0 where
  pub label : IsLabelStop rest
  pub tag_run : run is_tag_byte rest ≡ []
  pub tag_behind : behind_run is_tag_byte rest ≡ rest
  pub after : List ℕ
  pub stop : behind_run is_white rest ≡ 46 ∷ after

literal_from : (string form rest : List ℕ) (made : Option (Term × List ℕ)) → IsEnclosed Quotes string form → marked form rest (behind_run is_white rest) ≡ made
    → literal_at (string ++ rest) ≡ made
unfolding literal_at mark_at
literal_from string form rest made is e = ap (λ (o : Option (List ℕ × List ℕ)). o >>= λ f. mark_at f.0 f.1) (enclosed_again Quotes string form rest is) ∙ e

plain_again : (string form rest : List ℕ) → IsEnclosed Quotes string form → IsObjectStop rest → literal_at (string ++ rest) ≡ Some (Literal form xsd_string, rest)
plain_again string form rest is stop = literal_from string form rest (Some (Literal form xsd_string, rest)) is (ap (marked form rest) stop.stop)

typed_again : (token form datatype rest : List ℕ) → IsTyped token form datatype → literal_at (token ++ rest) ≡ Some (Literal form datatype, rest)
typed_again token form datatype rest h =
    let behind = 94 ∷ 94 ∷ (h.behind ++ (h.iri ++ rest)) in
    let more = h.before ++ behind in
    let whole : token ++ rest ≡ h.string ++ more =
    ap (λ (x : List ℕ). x ++ rest) h.spelled ∙ append_assoc h.string (h.before ++ (94 ∷ 94 ∷ (h.behind ++ h.iri))) rest
    ∙ ap (λ (x : List ℕ). h.string ++ x) (append_assoc h.before (94 ∷ 94 ∷ (h.behind ++ h.iri)) rest)
    ∙ ap (λ (x : List ℕ). h.string ++ (h.before ++ (94 ∷ 94 ∷ x))) (append_assoc h.behind h.iri rest) in
    let mark : marked form more (behind_run is_white more) ≡ marked form more behind =
    ap (marked form more) (behind_again is_white h.before 94 (94 ∷ (h.behind ++ (h.iri ++ rest))) h.white_before refl) in
    let iri : behind_run is_white (h.behind ++ (h.iri ++ rest)) ≡ h.iri ++ rest =
    past_white h.behind (h.iri ++ rest) 60 h.white_behind refl (begins_append 60 h.iri rest (enclosed_begins Brackets h.iri datatype h.iri_is)) in
    let read : marked form more behind ≡ Some (Literal form datatype, rest) =
    ap (λ (x : List ℕ). enclosed_at Brackets x >>= λ found. Some (Literal form found.0, found.1)) iri
    ∙ ap (λ (o : Option (List ℕ × List ℕ)). o >>= λ found. Some (Literal form found.0, found.1)) (enclosed_again Brackets h.iri datatype rest h.iri_is) in
    ap literal_at whole ∙ literal_from h.string form more (Some (Literal form datatype, rest)) h.string_is (mark ∙ read)

tagged_again : (token form tag rest : List ℕ) → IsTagged token form tag → IsObjectStop rest → literal_at (token ++ rest) ≡ Some (Tagged form tag, rest)
tagged_again token form tag rest h stop =
    let behind = h.written ++ rest in
    let more = h.before ++ 64 ∷ behind in
    let whole : token ++ rest ≡ h.string ++ more =
    ap (λ (x : List ℕ). x ++ rest) h.spelled ∙ append_assoc h.string (h.before ++ 64 ∷ h.written) rest
    ∙ ap (λ (x : List ℕ). h.string ++ x) (append_assoc h.before (64 ∷ h.written) rest) in
    let mark : marked form more (behind_run is_white more) ≡ tagged form behind =
    ap (marked form more) (behind_again is_white h.before 64 behind h.white_before refl) in
    let good = tag_again h.written (subst IsTag h.lower h.tag_is) in
    let passes = tag_bytes h.written good in
    let front : run is_tag_byte behind ≡ h.written =
    run-append is_tag_byte h.written rest passes ∙ ap (λ (x : List ℕ). h.written ++ x) stop.tag_run ∙ append-nil h.written in
    let back : behind_run is_tag_byte behind ≡ rest = behind_run-append is_tag_byte h.written rest passes ∙ stop.tag_behind in
    let read : tagged form behind ≡ Some (Tagged form tag, rest) =
    ap (λ (x : List ℕ). cond (is_tag x) (Some (Tagged form (map to_ascii_lowercase x), behind_run is_tag_byte behind)) None) front
    ∙ cond-true (is_tag h.written) (Some (Tagged form (map to_ascii_lowercase h.written), behind_run is_tag_byte behind)) None good
    ∙ ap (λ (x : List ℕ). Some (Tagged form (map to_ascii_lowercase h.written), x)) back
    ∙ ap (λ (x : List ℕ). Some (Tagged form x, rest)) (sym h.lower) in
    ap literal_at whole ∙ literal_from h.string form more (Some (Tagged form tag, rest)) h.string_is (mark ∙ read)

blank_again : (token label rest : List ℕ) (at : ℕ) → (at ≡ 0) × IsLabel label × (token ≡ 95 ∷ 58 ∷ label) → IsLabelStop rest
    → node_at (token ++ rest) ≡ Some (Blank at label, rest)
blank_again token label rest at h stop =
    ap (λ (x : List ℕ). node_at (x ++ rest)) h.2 ∙ node_again label rest h.1 stop ∙ ap (λ (n : ℕ). Some (Blank n label, rest)) (sym h.0)

object_iri : (bytes : List ℕ) → BeginsWith 60 bytes → object_at bytes ≡ iriref_at bytes
unfolding object_at
object_iri bytes h = ap object_at h.is ∙ ap iriref_at (sym h.is)

object_node : (bytes : List ℕ) → BeginsWith 95 bytes → object_at bytes ≡ node_at bytes
unfolding object_at
object_node bytes h = ap object_at h.is ∙ ap node_at (sym h.is)

object_literal : (bytes : List ℕ) → BeginsWith 34 bytes → object_at bytes ≡ literal_at bytes
unfolding object_at
object_literal bytes h = ap object_at h.is ∙ ap literal_at (sym h.is)

subject_iri : (bytes : List ℕ) → BeginsWith 60 bytes → subject_at bytes ≡ iriref_at bytes
unfolding subject_at
subject_iri bytes h = ap subject_at h.is ∙ ap iriref_at (sym h.is)

subject_node : (bytes : List ℕ) → BeginsWith 95 bytes → subject_at bytes ≡ node_at bytes
unfolding subject_at
subject_node bytes h = ap subject_at h.is ∙ ap node_at (sym h.is)

pub object_again : (token rest : List ℕ) (term : Term) → IsToken token term → IsObjectStop rest → object_at (token ++ rest) ≡ Some (term, rest)
object_again token rest (Iri iri) h stop =
    object_iri (token ++ rest) (begins_append 60 token rest (token_begins token (Iri iri) h)) ∙ iriref_again token iri rest h
object_again token rest (Literal form datatype) h stop =
    object_literal (token ++ rest) (begins_append 34 token rest (token_begins token (Literal form datatype) h))
    ∙ elim h as (λ v. literal_at (token ++ rest) ≡ Some (Literal form datatype, rest)) [
      | inl plain ↦ plain_again token form rest plain.0 stop ∙ ap (λ (x : List ℕ). Some (Literal form x, rest)) (sym plain.1)
      | inr typed ↦ typed_again token form datatype rest typed
    ]
object_again token rest (Tagged form tag) h stop =
    object_literal (token ++ rest) (begins_append 34 token rest (token_begins token (Tagged form tag) h)) ∙ tagged_again token form tag rest h stop
object_again token rest (Blank at label) h stop =
    object_node (token ++ rest) (begins_append 95 token rest (token_begins token (Blank at label) h)) ∙ blank_again token label rest at h stop.label

pub subject_again : (token rest : List ℕ) (term : Term) → IsToken token term → MayBeSubject term → IsLabelStop rest → subject_at (token ++ rest) ≡ Some (term, rest)
subject_again token rest (Iri iri) h kind stop =
    subject_iri (token ++ rest) (begins_append 60 token rest (token_begins token (Iri iri) h)) ∙ iriref_again token iri rest h
subject_again token rest (Literal form datatype) h kind stop = absurd kind
subject_again token rest (Tagged form tag) h kind stop = absurd kind
subject_again token rest (Blank at label) h kind stop =
    subject_node (token ++ rest) (begins_append 95 token rest (token_begins token (Blank at label) h)) ∙ blank_again token label rest at h stop

pub predicate_again : (token rest : List ℕ) (term : Term) → IsToken token term → MayBePredicate term → iriref_at (token ++ rest) ≡ Some (term, rest)
predicate_again token rest (Iri iri) h kind = iriref_again token iri rest h
predicate_again token rest (Literal form datatype) h kind = absurd kind
predicate_again token rest (Tagged form tag) h kind = absurd kind
predicate_again token rest (Blank at label) h kind = absurd kind

pub predicate_begins : (token : List ℕ) (term : Term) → IsToken token term → MayBePredicate term → BeginsWith 60 token
predicate_begins token (Iri iri) h kind = token_begins token (Iri iri) h
predicate_begins token (Literal form datatype) h kind = absurd kind
predicate_begins token (Tagged form tag) h kind = absurd kind
predicate_begins token (Blank at label) h kind = absurd kind

-- the texts of a token are text
pub token_texts : (token : List ℕ) (term : Term) → IsToken token term → has_texts term ≡ true
token_texts token (Iri iri) h = is_utf8-from_IsUtf8 iri h.utf8
token_texts token (Literal form datatype) h =
    elim h [
      | inl plain ↦ and_from (is_utf8 form) (is_utf8 datatype) (is_utf8-from_IsUtf8 form plain.0.utf8) (ap is_utf8 plain.1 ∙ xsd_utf8)
      | inr typed ↦
          and_from (is_utf8 form) (is_utf8 datatype) (is_utf8-from_IsUtf8 form typed.string_is.utf8) (is_utf8-from_IsUtf8 datatype typed.iri_is.utf8)
    ]
token_texts token (Tagged form tag) h =
    and_from (is_utf8 form) (is_utf8 tag) (is_utf8-from_IsUtf8 form h.string_is.utf8) (is_utf8-from_IsUtf8 tag (tag_utf8 tag h.tag_is))
token_texts token (Blank at label) h = refl
