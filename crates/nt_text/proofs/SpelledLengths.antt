-- How long the spellings of a document's terms are, beside the document.
use Rattle.std.proofs.Common.{◌≡◌, ℕ, ◌+◌, ◌*◌, ◌-◌, ◌<◌, ◌≤◌, Bool, true, false, cond, List, [], ◌∷◌, ◌++◌, length, length-append, Option, Some, None, refl, sym, ap, subst, ◌∙◌, inl, inr, arith}
use Rattle.std.specs.Char.{encode_utf8, to_ascii_lowercase}
use Rattle.std.specs.Int.{w32, w64, to_be_bytes}
use Rattle.std.specs.List.{AllByRecursion, flat_map, sum_by}
use Rattle.std.specs.Option.{option_to_list}
use Rattle.std.proofs.lemmas.List.{length-map}
use Rattle.std.proofs.lemmas.List.Sums.{sum_by-cons}
use Rattle.std.proofs.lemmas.Str.{length-encode, len_utf8_bounds}
use Rattle.base_core.specs.declared.lines.LineEnd.TheVariants.{Any}
use Rattle.term_core.specs.declared.term.Term.{Term}
use Rattle.term_core.specs.declared.term.Term.TheVariants.{Iri, Literal, Tagged, Blank}
use Rattle.term_core.specs.declared.statement.Statement.{Statement}
use Rattle.base_core.specs.Lines.{lines_of, is_end, is_dropped, onto_first}
use Rattle.term_core.specs.Spelling.{spelling, counted}
use Rattle.term_core.specs.Term.{MayBeSubject, MayBePredicate}
use Rattle.nt_text.specs.declared.pieces.Between.{Between}
use Rattle.nt_text.specs.declared.pieces.Between.TheVariants.{Brackets, Quotes}
use Rattle.nt_text.specs.Cell.{xsd_string}
use Rattle.nt_text.specs.Document.{IsToken, IsTriple, Brings, AreLinesOf, IsDocument}
use Rattle.nt_text.specs.Escapes.{Piece, Itself, Echar, Uchar4, Uchar8, source, meaning, number_of_four, number_of_eight, opening, closing, IsEnclosed}
use Rattle.nt_text.specs.Limits.{spelled, all_spelled}

-- ---- tokens

encoded_length : (c : ℕ) → length (encode_utf8 c) ≤ 4
encoded_length c = let bounds = len_utf8_bounds c in omega (arith, length-encode c, bounds.1)

-- a piece means no more bytes than it is written with
piece_length : (piece : Piece) → length (meaning piece) ≤ length (source piece)
piece_length (Itself b) = omega arith
piece_length (Echar letter) = omega arith
piece_length (Uchar4 a b c d) = let four = encoded_length (number_of_four a b c d) in omega (arith, four)
piece_length (Uchar8 a b c d e f g h) = let four = encoded_length (number_of_eight a b c d e f g h) in omega (arith, four)

pieces_length : (pieces : List Piece) → length (flat_map meaning pieces) ≤ length (flat_map source pieces)
pieces_length [] = omega arith
pieces_length (p ∷ ps) =
    omega (arith, piece_length p, pieces_length ps, length-append (meaning p) (flat_map meaning ps), length-append (source p) (flat_map source ps))

enclosed_length : (between : Between) (token text : List ℕ) → IsEnclosed between token text → length text + 2 ≤ length token
enclosed_length between token text h =
    omega (arith, pieces_length h.pieces, ap (length {A = ℕ}) h.means, ap (length {A = ℕ}) h.spelled, length-append (flat_map source h.pieces) (closing between ∷ []))

-- by how much a spelling may be longer than the token
abbrev added : Term → ℕ
added (Iri iri) = 0
added (Literal form datatype) = 42
added (Tagged form tag) = 2
added (Blank at label) = 7

xsd_length : length xsd_string ≡ 39
unfolding xsd_string
xsd_length = refl

-- an IRI's is one byte shorter
iri_length : (token iri : List ℕ) → IsToken token (Iri iri) → length (spelling (Iri iri)) + 1 ≤ length token
iri_length token iri h = let long = enclosed_length _ token iri h in omega (arith, long)

token_length : (token : List ℕ) (term : Term) → IsToken token term → length (spelling term) ≤ length token + added term
token_length token (Iri iri) h = let long = iri_length token iri h in omega (arith, long)
token_length token (Literal form datatype) h =
    elim h [
      | inl plain ↦
          let long = enclosed_length Quotes token form plain.0 in
          let typed : length datatype ≡ 39 = ap (length {A = ℕ}) plain.1 ∙ xsd_length in
          omega (arith, length-append form datatype, long, typed)
      | inr typed ↦
          let string = enclosed_length Quotes typed.string form typed.string_is in
          let iri = enclosed_length Brackets typed.iri datatype typed.iri_is in
          omega (
            arith,
            length-append form datatype,
            string,
            iri,
            ap (length {A = ℕ}) typed.spelled,
            length-append typed.string (typed.before ++ (94 ∷ 94 ∷ (typed.behind ++ typed.iri))),
            length-append typed.before (94 ∷ 94 ∷ (typed.behind ++ typed.iri)),
            length-append typed.behind typed.iri,
          )
    ]
token_length token (Tagged form tag) h =
    let string = enclosed_length Quotes h.string form h.string_is in
    omega (
      arith,
      length-append form tag,
      string,
      ap (length {A = ℕ}) h.lower,
      length-map h.written to_ascii_lowercase,
      ap (length {A = ℕ}) h.spelled,
      length-append h.string (h.before ++ 64 ∷ h.written),
      length-append h.before (64 ∷ h.written),
    )
token_length token (Blank at label) h = omega (arith, ap (length {A = ℕ}) h.2)

-- a subject is no literal, and a predicate is an IRI
subject_length : (token : List ℕ) (term : Term) → IsToken token term → MayBeSubject term → length (spelling term) ≤ length token + 7
subject_length token (Iri iri) h may = let long = token_length token (Iri iri) h in omega (arith, long)
subject_length token (Literal form datatype) h may = absurd may
subject_length token (Tagged form tag) h may = absurd may
subject_length token (Blank at label) h may = token_length token (Blank at label) h

predicate_length : (token : List ℕ) (term : Term) → IsToken token term → MayBePredicate term → length (spelling term) + 1 ≤ length token
predicate_length token (Iri iri) h may = iri_length token iri h
predicate_length token (Literal form datatype) h may = absurd may
predicate_length token (Tagged form tag) h may = absurd may
predicate_length token (Blank at label) h may = absurd may

object_length : (token : List ℕ) (term : Term) → IsToken token term → length (spelling term) ≤ length token + 42
object_length token term h = let long = token_length token term h in let most = added_most term in omega (arith, long, most)
  where
    added_most : (term : Term) → added term ≤ 42
    added_most (Iri iri) = omega arith
    added_most (Literal form datatype) = omega arith
    added_most (Tagged form tag) = omega arith
    added_most (Blank at label) = omega arith

-- ---- lines

triple_length : (line : List ℕ) (statement : Statement) → IsTriple line statement → spelled statement ≤ length line + 47
triple_length line statement h =
    let subject = subject_length h.subject statement.subject h.subject_is h.subject_kind in
    let predicate = predicate_length h.predicate statement.predicate h.predicate_is h.predicate_kind in
    let object = object_length h.object statement.object h.object_is in
    let from_object = h.object ++ (h.gap ++ 46 ∷ h.after) in
    let from_predicate = h.predicate ++ (h.behind ++ from_object) in
    let from_subject = h.subject ++ (h.between ++ from_predicate) in
    omega (
      arith,
      subject,
      predicate,
      object,
      ap (length {A = ℕ}) h.spelled,
      length-append h.before from_subject,
      length-append h.subject (h.between ++ from_predicate),
      length-append h.between from_predicate,
      length-append h.predicate (h.behind ++ from_object),
      length-append h.behind from_object,
      length-append h.object (h.gap ++ 46 ∷ h.after),
      length-append h.gap (46 ∷ h.after),
    )

abbrev lengths : List (List ℕ) → ℕ
lengths lines = sum_by (length {A = ℕ}) lines

line_first : (line : List ℕ) (lines : List (List ℕ)) → lengths (line ∷ lines) ≡ length line + lengths lines
line_first line lines = sum_by-cons (length {A = ℕ}) line lines

brought_length : (line : List ℕ) (brought : Option Statement) (others : List Statement) → Brings line brought
    → all_spelled (option_to_list brought ++ others) + 47 * length others ≤ length line + 47 * length (option_to_list brought ++ others) + all_spelled others
brought_length line None others h = omega arith
brought_length line (Some statement) others h =
    let long = triple_length line statement h in
    let all : all_spelled (statement ∷ others) ≡ spelled statement + all_spelled others = sum_by-cons spelled statement others in
    omega (arith, long, all)

lines_length : (lines : List (List ℕ)) (statements : List Statement) → AreLinesOf lines statements → all_spelled statements ≤ lengths lines + 47 * length statements
lines_length [] statements h = subst (λ (x : List Statement). all_spelled x ≤ lengths [] + 47 * length x) (sym h) (omega arith)
lines_length (line ∷ lines) statements h =
    let first = brought_length line h.0 h.1 h.2 in
    let others = lines_length lines h.1 h.3 in
    subst (λ (x : List Statement). all_spelled x ≤ lengths (line ∷ lines) + 47 * length x) (sym h.4)
    (omega (arith, first, others, line_first line lines))

-- a text is as long as its lines at least
onto_length : (b : ℕ) (lines : List (List ℕ)) → lengths (onto_first b lines) ≤ lengths lines + 1
onto_length b [] = omega arith
onto_length b (line ∷ lines) = omega (arith, line_first (b ∷ line) lines, line_first line lines)

text_length : (bytes : List ℕ) → lengths (lines_of Any bytes) ≤ length bytes
text_length [] = omega arith
text_length (b ∷ bytes) = by (is_end Any b bytes) (is_dropped b bytes) (text_length bytes)
  where
    by : (ends dropped : Bool) → lengths (lines_of Any bytes) ≤ length bytes
        → lengths (cond ends ([] ∷ lines_of Any bytes) (cond dropped (lines_of Any bytes) (onto_first b (lines_of Any bytes)))) ≤ length (b ∷ bytes)
    by true dropped h = omega (arith, h, line_first [] (lines_of Any bytes))
    by false true h = omega (arith, h)
    by false false h = let more = onto_length b (lines_of Any bytes) in omega (arith, h, more)

-- what a document says is spelled in its length, and 47 bytes more for each statement
pub document_length : (bytes : List ℕ) (statements : List Statement) → IsDocument bytes statements → all_spelled statements ≤ length bytes + 47 * length statements
document_length bytes statements h =
    let said = lines_length (lines_of Any bytes) statements h in
    let text = text_length bytes in
    omega (arith, said, text)

pub within_most : (length count all limit most largest : ℕ) → all ≤ length + 47 * count → length ≤ limit → count ≤ most → largest ≡ limit + 47 * most → all ≤ largest
within_most length count all limit most largest h few short e = omega (arith, h, few, short, e)
