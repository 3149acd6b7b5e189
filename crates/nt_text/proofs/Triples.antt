-- A line that is read is spelled so, and one that is spelled so is read.
use Rattle.std.proofs.Common.{◌≡◌, ℕ, Bool, true, false, cond, ◌&&◌, ◌==◌, List, [], ◌∷◌, ◌++◌, Option, Some, None, refl, sym, ap, subst, ◌∙◌, inl, inr}
use Rattle.std.specs.List.{list_all}
use Rattle.std.specs.Str.{is_utf8}
use Rattle.std.proofs.lemmas.Bool.{and_parts, and_from, or_cases, eqb-true, cond-true, cond-false}
use Rattle.std.proofs.lemmas.List.{append-nil}
use Rattle.std.proofs.lemmas.Option.{same_Some, cond_some}
use Rattle.std.proofs.lemmas.Str.{IsUtf8-from_is_utf8, is_utf8-from_IsUtf8}
use Rattle.term_core.specs.declared.term.Term.{Term}
use Rattle.term_core.specs.declared.term.Term.TheVariants.{Iri, Literal, Tagged, Blank}
use Rattle.term_core.specs.declared.statement.Statement.{Statement}
use Rattle.term_core.specs.Characters.{is_base_character, is_start_character, is_name_character}
use Rattle.nt_text.specs.Document.{is_white, IsWhite, IsComment, IsEmptyRest, IsTriple, Brings}
use Rattle.nt_text.specs.Reading.{◌>>=◌, run, behind_run, is_label_byte, is_tag_byte, iriref_at, subject_at, object_at, has_texts, is_comment, is_empty_rest, is_stop, of_terms, triple_at, brought_at, form_at, are_texts, if_texts, line_at}
use Rattle.nt_text.proofs.Labels.{IsLabelStop}
use Rattle.nt_text.proofs.PieceTexts.{bind_some}
use Rattle.nt_text.proofs.Runs.{run_parts, run_passes, behind_again, behind_none}
use Rattle.nt_text.proofs.Tokens.{iriref_takes, iriref_kind, subject_takes, object_takes, BeginsWith, head_of, token_begins, past_white_token, IsObjectStop, object_again, subject_again, predicate_again, predicate_begins, token_texts}

-- ---- what is read is spelled so

comment_takes : (bytes : List ℕ) → is_comment bytes ≡ true → IsComment bytes
comment_takes [] h = tt
comment_takes (b ∷ text) h =
    let parts = and_parts (b == 35) (is_utf8 text) h in
    (eqb-true b 35 parts.0, IsUtf8-from_is_utf8 text parts.1)

empty_takes : (bytes : List ℕ) → is_empty_rest bytes ≡ true → IsEmptyRest bytes
empty_takes bytes h = record {
  white = run is_white bytes;
  comment = behind_run is_white bytes;
  spelled = run_parts is_white bytes;
  white_is = run_passes is_white bytes;
  comment_is = comment_takes (behind_run is_white bytes) h;
}

record IsStopAt (rest : List ℕ) : Type 0 where
  after : List ℕ
  spelled : rest ≡ 46 ∷ after
  is : IsEmptyRest after

stop_takes : (rest : List ℕ) → is_stop rest ≡ true → IsStopAt rest
stop_takes [] e = absurd cc
stop_takes (b ∷ behind) e =
    let tests = and_parts (b == 46) (is_empty_rest behind) e in record {
      after = behind;
      spelled = ap (λ (x : ℕ). x ∷ behind) (eqb-true b 46 tests.0);
      is = empty_takes behind tests.1;
    }

-- a token and the white space behind it
next : (bytes token rest : List ℕ) → bytes ≡ token ++ rest → bytes ≡ token ++ (run is_white rest ++ behind_run is_white rest)
next bytes token rest e = e ∙ ap (λ (x : List ℕ). token ++ x) (run_parts is_white rest)

triple_takes : (before bytes line : List ℕ) (statement : Statement) → line ≡ before ++ bytes → IsWhite before → triple_at bytes ≡ Some statement
    → are_texts statement ≡ true → IsTriple line statement
unfolding triple_at
triple_takes before bytes line statement parts white e texts =
    let s = bind_some (subject_at bytes) (λ subject. iriref_at (behind_run is_white subject.1) >>= λ predicate. object_at (behind_run is_white predicate.1) >>= λ object.
    cond (is_stop (behind_run is_white object.1)) (Some (of_terms subject.0 predicate.0 object.0)) None) statement e in
    let p = bind_some (iriref_at (behind_run is_white s.0.1)) (λ predicate. object_at (behind_run is_white predicate.1) >>= λ object.
    cond (is_stop (behind_run is_white object.1)) (Some (of_terms s.0.0 predicate.0 object.0)) None) statement s.2 in
    let o = bind_some (object_at (behind_run is_white p.0.1)) (λ object. cond (is_stop (behind_run is_white object.1)) (Some (of_terms s.0.0 p.0.0 object.0)) None) statement p.2 in
    let end = cond_some (is_stop (behind_run is_white o.0.1)) (of_terms s.0.0 p.0.0 o.0.0) statement o.2 in
    let made : are_texts (of_terms s.0.0 p.0.0 o.0.0) ≡ true = ap are_texts end.1 ∙ texts in
    let of_subject = and_parts (has_texts s.0.0) (has_texts p.0.0 && has_texts o.0.0) made in
    let of_others = and_parts (has_texts p.0.0) (has_texts o.0.0) of_subject.1 in
    let subject = subject_takes bytes s.0 s.1 of_subject.0 in
    let predicate = iriref_takes (behind_run is_white s.0.1) p.0 p.1 of_others.0 in
    let object = object_takes (behind_run is_white p.0.1) o.0 o.1 of_others.1 in
    let stop = stop_takes (behind_run is_white o.0.1) end.0 in
    let from_object = next (behind_run is_white p.0.1) object.token o.0.1 object.spelled ∙ ap (λ (x : List ℕ). object.token ++ (run is_white o.0.1 ++ x)) stop.spelled in
    let from_predicate = next (behind_run is_white s.0.1) predicate.token p.0.1 predicate.spelled ∙ ap (λ (x : List ℕ). predicate.token ++ (run is_white p.0.1 ++ x)) from_object in
    let from_subject = next bytes subject.0.token s.0.1 subject.0.spelled ∙ ap (λ (x : List ℕ). subject.0.token ++ (run is_white s.0.1 ++ x)) from_predicate in
    let triple : IsTriple line (of_terms s.0.0 p.0.0 o.0.0) = record {
      before = before;
      subject = subject.0.token;
      between = run is_white s.0.1;
      predicate = predicate.token;
      behind = run is_white p.0.1;
      object = object.token;
      gap = run is_white o.0.1;
      after = stop.after;
      spelled = parts ∙ ap (λ (x : List ℕ). before ++ x) from_subject;
      white_before = white;
      white_between = run_passes is_white s.0.1;
      white_behind = run_passes is_white p.0.1;
      white_gap = run_passes is_white o.0.1;
      rest_is = stop.is;
      subject_is = subject.0.is;
      subject_kind = subject.1;
      predicate_is = predicate.is;
      predicate_kind = (iriref_kind (behind_run is_white s.0.1) p.0 p.1).0;
      object_is = object.is;
    } in
    subst (λ (x : Statement). IsTriple line x) end.1 triple

-- the forms of a line, where the texts are UTF-8
abbrev IsText : Option Statement → Type 0
IsText None = Unit {0}
IsText (Some statement) = are_texts statement ≡ true

brought_takes : (before rest line : List ℕ) (brought : Option Statement) → line ≡ before ++ rest → IsWhite before → brought_at rest ≡ Some brought → IsText brought
    → Brings line brought
brought_takes before [] line brought parts white e texts =
    subst (λ (x : Option Statement). Brings line x) (same_Some None brought e)
    (record { white = before; comment = []; spelled = parts; white_is = white; comment_is = tt })
brought_takes before (b ∷ bytes) line brought parts white e texts = by (b == 35) refl e
  where
    by : (comment : Bool) → (b == 35) ≡ comment
        → cond comment (cond (is_utf8 bytes) (Some None) None) (triple_at (b ∷ bytes) >>= λ statement. Some (Some statement)) ≡ Some brought
        → Brings line brought
    by true p e =
        let g = cond_some (is_utf8 bytes) None brought e in
        subst (λ (x : Option Statement). Brings line x) g.1
        (record { white = before; comment = b ∷ bytes; spelled = parts; white_is = white; comment_is = (eqb-true b 35 p, IsUtf8-from_is_utf8 bytes g.0) })
    by false p e =
        let s = bind_some (triple_at (b ∷ bytes)) (λ statement. Some (Some statement)) brought e in
        let same : Some s.0 ≡ brought = same_Some (Some s.0) brought s.2 in
        subst (λ (x : Option Statement). Brings line x) same (triple_takes before (b ∷ bytes) line s.0 parts white s.1 (subst IsText (sym same) texts))

texts_takes : (form brought : Option Statement) → if_texts form ≡ Some brought → (form ≡ brought) × IsText brought
texts_takes None brought e = let same = same_Some None brought e in (same, subst IsText same tt)
texts_takes (Some statement) brought e =
    let g = cond_some (are_texts statement) (Some statement) brought e in
    (g.1, subst IsText g.1 g.0)

-- a line that is read has one of the forms
pub line_takes : (line : List ℕ) (brought : Option Statement) → line_at line ≡ Some brought → Brings line brought
unfolding line_at form_at
line_takes line brought e =
    let f = bind_some (brought_at (behind_run is_white line)) if_texts brought e in
    let t = texts_takes f.0 brought f.2 in
    brought_takes (run is_white line) (behind_run is_white line) line brought (run_parts is_white line) (run_passes is_white line) (f.1 ∙ ap Some t.0) t.1

-- ---- what is spelled so is read

-- white space, and the bytes that may stand behind it, go on no label and no tag
white_label : (b : ℕ) → is_white b ≡ true → is_label_byte b ≡ false
unfolding is_label_byte is_name_character is_start_character is_base_character
white_label b h =
    elim (or_cases (b == 32) (b == 9) h) [
      | inl space ↦ ap is_label_byte (eqb-true b 32 space)
      | inr tab ↦ ap is_label_byte (eqb-true b 9 tab)
    ]

white_tag : (b : ℕ) → is_white b ≡ true → is_tag_byte b ≡ false
white_tag b h =
    elim (or_cases (b == 32) (b == 9) h) [
      | inl space ↦ ap is_tag_byte (eqb-true b 32 space)
      | inr tab ↦ ap is_tag_byte (eqb-true b 9 tab)
    ]

bracket_label : is_label_byte 60 ≡ false
unfolding is_label_byte is_name_character is_start_character is_base_character
bracket_label = refl

hash_label : is_label_byte 35 ≡ false
unfolding is_label_byte is_name_character is_start_character is_base_character
hash_label = refl

dot_label : is_label_byte 46 ≡ true
unfolding is_label_byte is_name_character is_start_character is_base_character
dot_label = refl

run_none : (test : ℕ → Bool) (b : ℕ) (bytes : List ℕ) → test b ≡ false → run test (b ∷ bytes) ≡ []
run_none test b bytes h = cond-false (test b) (b ∷ run test bytes) [] h

first_white : (w : ℕ) (white : List ℕ) → IsWhite (w ∷ white) → is_white w ≡ true
first_white w white h = (and_parts (is_white w) (list_all is_white white) h).0

-- behind a subject
subject_stop : (between bytes : List ℕ) → IsWhite between → BeginsWith 60 bytes → run is_label_byte (between ++ bytes) ≡ []
subject_stop [] bytes white h = ap (run is_label_byte) h.is ∙ run_none is_label_byte 60 h.tail bracket_label
subject_stop (w ∷ between) bytes white h = run_none is_label_byte w (between ++ bytes) (white_label w (first_white w between white))

comment_label : (comment : List ℕ) → IsComment comment → run is_label_byte comment ≡ []
comment_label [] h = refl
comment_label (b ∷ text) h = ap (λ (x : ℕ). run is_label_byte (x ∷ text)) h.0 ∙ run_none is_label_byte 35 text hash_label

rest_label : (white comment : List ℕ) → IsWhite white → IsComment comment → run is_label_byte (white ++ comment) ≡ []
rest_label [] comment white h = comment_label comment h
rest_label (w ∷ rest) comment white h = run_none is_label_byte w (rest ++ comment) (white_label w (first_white w rest white))

gap_label : (gap after : List ℕ) → IsWhite gap → IsEmptyRest after → IsLabelStop (gap ++ 46 ∷ after)
gap_label [] after white h =
    inr (cond-true (is_label_byte 46) (46 ∷ run is_label_byte after) [] dot_label
    ∙ ap (λ (x : List ℕ). 46 ∷ x) (ap (run is_label_byte) h.spelled ∙ rest_label h.white h.comment h.white_is h.comment_is))
gap_label (w ∷ gap) after white h = inl (run_none is_label_byte w (gap ++ 46 ∷ after) (white_label w (first_white w gap white)))

gap_tag : (gap after : List ℕ) → IsWhite gap → run is_tag_byte (gap ++ 46 ∷ after) ≡ []
gap_tag [] after white = refl
gap_tag (w ∷ gap) after white = run_none is_tag_byte w (gap ++ 46 ∷ after) (white_tag w (first_white w gap white))

gap_tag_behind : (gap after : List ℕ) → IsWhite gap → behind_run is_tag_byte (gap ++ 46 ∷ after) ≡ gap ++ 46 ∷ after
gap_tag_behind [] after white = refl
gap_tag_behind (w ∷ gap) after white =
    cond-false (is_tag_byte w) (behind_run is_tag_byte (gap ++ 46 ∷ after)) (w ∷ (gap ++ 46 ∷ after)) (white_tag w (first_white w gap white))

object_stop : (gap after : List ℕ) → IsWhite gap → IsEmptyRest after → IsObjectStop (gap ++ 46 ∷ after)
object_stop gap after white h = record {
  label = gap_label gap after white h;
  tag_run = gap_tag gap after white;
  tag_behind = gap_tag_behind gap after white;
  after = after;
  stop = behind_again is_white gap 46 after white refl;
}

comment_again : (white comment : List ℕ) → IsWhite white → IsComment comment → is_comment (behind_run is_white (white ++ comment)) ≡ true
comment_again white [] white_is h =
    ap is_comment (ap (behind_run is_white) (append-nil white) ∙ behind_none is_white white white_is)
comment_again white (b ∷ text) white_is h =
    ap (λ (x : ℕ). is_comment (behind_run is_white (white ++ x ∷ text))) h.0 ∙ ap is_comment (behind_again is_white white 35 text white_is refl)
    ∙ is_utf8-from_IsUtf8 text h.1

empty_again : (bytes : List ℕ) → IsEmptyRest bytes → is_empty_rest bytes ≡ true
empty_again bytes h = ap is_empty_rest h.spelled ∙ comment_again h.white h.comment h.white_is h.comment_is

stop_again : (gap after : List ℕ) → IsWhite gap → IsEmptyRest after → is_stop (behind_run is_white (gap ++ 46 ∷ after)) ≡ true
stop_again gap after white h = ap is_stop (behind_again is_white gap 46 after white refl) ∙ empty_again after h

triple_again : (line : List ℕ) (statement : Statement) (h : IsTriple line statement)
    → triple_at (h.subject ++ (h.between ++ (h.predicate ++ (h.behind ++ (h.object ++ (h.gap ++ 46 ∷ h.after)))))) ≡ Some statement
unfolding triple_at
triple_again line statement h =
    let end = h.gap ++ 46 ∷ h.after in
    let from_object = h.object ++ end in
    let from_predicate = h.predicate ++ (h.behind ++ from_object) in
    let stop : IsLabelStop (h.between ++ from_predicate) =
    inl (subject_stop h.between from_predicate h.white_between (begins (h.behind ++ from_object))) in
    ap (λ (o : Option (Term × List ℕ)). o >>= λ subject. iriref_at (behind_run is_white subject.1) >>= λ predicate. object_at (behind_run is_white predicate.1) >>= λ object.
    cond (is_stop (behind_run is_white object.1)) (Some (of_terms subject.0 predicate.0 object.0)) None)
    (subject_again h.subject (h.between ++ from_predicate) statement.subject h.subject_is h.subject_kind stop)
    ∙ ap (λ (x : List ℕ). iriref_at x >>= λ predicate. object_at (behind_run is_white predicate.1) >>= λ object.
    cond (is_stop (behind_run is_white object.1)) (Some (of_terms statement.subject predicate.0 object.0)) None)
    (past_white_token h.between h.predicate (h.behind ++ from_object) statement.predicate h.white_between h.predicate_is)
    ∙ ap (λ (o : Option (Term × List ℕ)). o >>= λ predicate. object_at (behind_run is_white predicate.1) >>= λ object.
    cond (is_stop (behind_run is_white object.1)) (Some (of_terms statement.subject predicate.0 object.0)) None)
    (predicate_again h.predicate (h.behind ++ from_object) statement.predicate h.predicate_is h.predicate_kind)
    ∙ ap (λ (x : List ℕ). object_at x >>= λ object. cond (is_stop (behind_run is_white object.1)) (Some (of_terms statement.subject statement.predicate object.0)) None)
    (past_white_token h.behind h.object end statement.object h.white_behind h.object_is)
    ∙ ap (λ (o : Option (Term × List ℕ)). o >>= λ object. cond (is_stop (behind_run is_white object.1)) (Some (of_terms statement.subject statement.predicate object.0)) None)
    (object_again h.object end statement.object h.object_is (object_stop h.gap h.after h.white_gap h.rest_is))
    ∙ cond-true (is_stop (behind_run is_white end)) (Some (of_terms statement.subject statement.predicate statement.object)) None (stop_again h.gap h.after h.white_gap h.rest_is)
  where
    begins : (more : List ℕ) → BeginsWith 60 (h.predicate ++ more)
    begins more =
        let first = predicate_begins h.predicate statement.predicate h.predicate_is h.predicate_kind in
        record { tail = first.tail ++ more; is = ap (λ (x : List ℕ). x ++ more) first.is }

head_dark : (term : Term) → (head_of term == 35) ≡ false
head_dark (Iri iri) = refl
head_dark (Literal form datatype) = refl
head_dark (Tagged form tag) = refl
head_dark (Blank at label) = refl

brought_triple : (bytes : List ℕ) (head : ℕ) (statement : Statement) → BeginsWith head bytes → (head == 35) ≡ false → triple_at bytes ≡ Some statement
    → brought_at bytes ≡ Some (Some statement)
brought_triple bytes head statement h dark e =
    ap brought_at h.is
    ∙ cond-false (head == 35) (cond (is_utf8 h.tail) (Some None) None) (triple_at (head ∷ h.tail) >>= λ found. Some (Some found)) dark
    ∙ ap (λ (x : List ℕ). triple_at x >>= λ found. Some (Some found)) (sym h.is)
    ∙ ap (λ (o : Option Statement). o >>= λ found. Some (Some found)) e

brought_comment : (white comment : List ℕ) → IsWhite white → IsComment comment → brought_at (behind_run is_white (white ++ comment)) ≡ Some None
brought_comment white [] white_is h = ap brought_at (ap (behind_run is_white) (append-nil white) ∙ behind_none is_white white white_is)
brought_comment white (b ∷ text) white_is h =
    ap (λ (x : ℕ). brought_at (behind_run is_white (white ++ x ∷ text))) h.0 ∙ ap brought_at (behind_again is_white white 35 text white_is refl)
    ∙ cond-true (is_utf8 text) (Some None) None (is_utf8-from_IsUtf8 text h.1)

-- a line of one of the forms is read
pub line_again : (line : List ℕ) (brought : Option Statement) → Brings line brought → line_at line ≡ Some brought
unfolding line_at form_at
line_again line None h =
    ap (λ (x : List ℕ). brought_at (behind_run is_white x) >>= if_texts) h.spelled
    ∙ ap (λ (o : Option (Option Statement)). o >>= if_texts) (brought_comment h.white h.comment h.white_is h.comment_is)
line_again line (Some statement) h =
    let rest = h.between ++ (h.predicate ++ (h.behind ++ (h.object ++ (h.gap ++ 46 ∷ h.after)))) in
    let first = token_begins h.subject statement.subject h.subject_is in
    let read = brought_triple (h.subject ++ rest) (head_of statement.subject) statement
    (record { tail = first.tail ++ rest; is = ap (λ (x : List ℕ). x ++ rest) first.is }) (head_dark statement.subject) (triple_again line statement h) in
    let texts : are_texts statement ≡ true =
    and_from (has_texts statement.subject) (has_texts statement.predicate && has_texts statement.object) (token_texts h.subject statement.subject h.subject_is)
    (and_from (has_texts statement.predicate) (has_texts statement.object) (token_texts h.predicate statement.predicate h.predicate_is)
    (token_texts h.object statement.object h.object_is)) in
    ap (λ (x : List ℕ). brought_at (behind_run is_white x) >>= if_texts) h.spelled
    ∙ ap (λ (x : List ℕ). brought_at x >>= if_texts) (past_white_token h.before h.subject rest statement.subject h.white_before h.subject_is)
    ∙ ap (λ (o : Option (Option Statement)). o >>= if_texts) read
    ∙ cond-true (are_texts statement) (Some (Some statement)) None texts
