-- Private: reading from left to right, as the code does. What is read is what `Document` says: the laws stand in proofs/.
use Rattle.std.specs.Prelude.{◌≡◌, ℕ, zero, suc, ◌-◌, ◌+◌, ◌*◌, ◌<◌, ◌≤◌, Bool, true, false, ◌&&◌, ◌||◌, not, List, [], ◌∷◌, ◌++◌, map, length, take, drop, slice_index, Option, Some, None, option_and_then, Result, Ok, Err, ◌==◌, nat_le, if◌then◌else◌}
use Rattle.std.specs.Char.{to_ascii_lowercase, encode_utf8}
use Rattle.std.specs.List.{list_all}
use Rattle.std.specs.Str.{is_utf8, chars}
use Rattle.term_core.specs.declared.term.Term.{Term}
use Rattle.term_core.specs.declared.term.Term.TheVariants.{Iri, Literal, Tagged, Blank}
use Rattle.term_core.specs.declared.statement.Statement.{Statement}
use Rattle.term_core.specs.Characters.{is_iri_character, is_start_character, is_name_character, is_digit, is_letter}
use Rattle.nt_text.specs.declared.document.DocFault.{DocFault}
use Rattle.nt_text.specs.declared.document.DocFault.TheVariants as faults
use Rattle.nt_text.specs.declared.pieces.Between.{Between}
use Rattle.nt_text.specs.declared.pieces.Between.TheVariants.{Brackets, Quotes}
use Rattle.nt_text.specs.declared.pieces.Part.{Part}
use Rattle.nt_text.specs.declared.pieces.Part.TheVariants as parts
use Rattle.nt_text.specs.declared.run.Class.{Class}
use Rattle.nt_text.specs.declared.run.Class.TheVariants as classes
use Rattle.nt_text.specs.declared.tag.Place.{Place}
use Rattle.nt_text.specs.declared.token.Token.{Token}
use Rattle.nt_text.specs.declared.token.Token.TheVariants as tokens
use Rattle.nt_text.specs.declared.line.Line.{Line}
use Rattle.nt_text.specs.declared.line.Line.TheVariants as lines
use Rattle.nt_text.specs.declared.line.Triple.{Triple}
use Rattle.nt_text.specs.Cell.{xsd_string}
use Rattle.nt_text.specs.Document.{is_white}
use Rattle.nt_text.specs.Escapes.{Piece, Itself, Echar, is_piece, is_plain, is_named, are_four_digits, number_of_four, meaning, opening, closing}
use Rattle.nt_text.specs.Limits.{HasShortTerms, most_statements}

infixl 10 ◌>>=◌
abbrev pub ◌>>=◌ : {A B : Type 0} → Option A → (A → Option B) → Option B
o >>= f = option_and_then f o

-- What a function returned, seen by view, is what reading gives.
abbrev pub ReadsFront : {X Y : Type 0} → (X → Y) → Option X → Option Y → Type 0
ReadsFront view None read = read ≡ None
ReadsFront view (Some x) read = read ≡ Some (view x)

-- the bytes as text
abbrev pub utf8_text : List ℕ → Option (List ℕ)
utf8_text bytes = if is_utf8 bytes then Some bytes else None

-- ---- runs

-- what may stand in a label, by bytes: a byte of a character beyond ASCII, which is tested later, an ASCII name character or a dot
unfoldable pub is_label_byte : ℕ → Bool
is_label_byte b = nat_le 128 b || is_name_character b || b == 46

abbrev pub is_tag_byte : ℕ → Bool
is_tag_byte b = is_letter b || is_digit b || b == 45

abbrev pub is_of : Class → ℕ → Bool
is_of classes.White b = is_white b
is_of classes.IriCharacter b = is_iri_character b
is_of classes.QuotedCharacter b = is_plain Quotes b
is_of classes.LabelCharacter b = is_label_byte b
is_of classes.TagCharacter b = is_tag_byte b

-- the class of what may stand as itself
abbrev pub IsPlainClass : Between → Class → Type 0
IsPlainClass between class = (b : ℕ) → is_of class b ≡ is_plain between b

-- the bytes at the front that pass the test, and what stands behind them
abbrev pub run : (ℕ → Bool) → List ℕ → List ℕ
run test [] = []
run test (b ∷ bytes) = if test b then b ∷ run test bytes else []

abbrev pub behind_run : (ℕ → Bool) → List ℕ → List ℕ
behind_run test [] = []
behind_run test (b ∷ bytes) = if test b then behind_run test bytes else b ∷ bytes

-- ---- pieces of a text

-- the piece's meaning and the bytes behind it
abbrev pub Found : Type 0
Found = Option (List ℕ × List ℕ)

abbrev pub taken : Between → Piece → List ℕ → Found
taken between piece behind = if is_piece between piece then Some (meaning piece, behind) else None

-- the number of four hexadecimal digits
unfoldable pub four_at : List ℕ → Option (ℕ × List ℕ)
four_at (a ∷ b ∷ c ∷ d ∷ behind) = if are_four_digits a b c d then Some (number_of_four a b c d, behind) else None
four_at _ = None

abbrev pub named : Between → ℕ → Option ℕ
named between number = if is_named between number then Some number else None

abbrev pub named_at : Between → ℕ → List ℕ → Found
named_at between number behind = named between number >>= λ c. Some (encode_utf8 c, behind)

unfoldable pub uchar4_at : Between → List ℕ → Found
uchar4_at between bytes = four_at bytes >>= λ four. named_at between four.0 four.1

unfoldable pub uchar8_at : Between → List ℕ → Found
uchar8_at between bytes = four_at bytes >>= λ high. four_at high.1 >>= λ low. named_at between (high.0 * 65536 + low.0) low.1

unfoldable pub escape_at : Between → List ℕ → Found
escape_at between [] = None
escape_at between (letter ∷ behind) =
    if letter == 117 then uchar4_at between behind else (if letter == 85 then uchar8_at between behind else taken between (Echar letter) behind)

unfoldable pub piece_at : Between → List ℕ → Found
piece_at between [] = None
piece_at between (b ∷ behind) = if b == 92 then escape_at between behind else taken between (Itself b) behind

-- what a part of a text that was read means
abbrev pub part_meaning : Part → List ℕ
part_meaning (parts.Byte b) = b ∷ []
part_meaning (parts.Character c) = encode_utf8 c

abbrev pub joined : List ℕ → Found → (List ℕ → List ℕ × List ℕ) → List ℕ × List ℕ
joined bytes None others = ([], bytes)
joined bytes (Some found) others = (found.0 ++ (others found.1).0, (others found.1).1)

-- the meaning of the longest text of so many pieces at most, and the bytes behind it
abbrev pub pieces_at : ℕ → Between → List ℕ → List ℕ × List ℕ
pieces_at zero between bytes = ([], bytes)
pieces_at (suc n) between bytes = joined bytes (piece_at between bytes) (λ rest. pieces_at n between rest)

-- and of the longest text
unfoldable pub text_at : Between → List ℕ → List ℕ × List ℕ
text_at between bytes = pieces_at (length bytes) between bytes

-- ---- tokens: what they mean, and the bytes behind them

abbrev pub closed : ℕ → List ℕ → List ℕ → Found
closed close text [] = None
closed close text (b ∷ behind) = if b == close then Some (text, behind) else None

unfoldable pub enclosed_at : Between → List ℕ → Found
enclosed_at between [] = None
enclosed_at between (b ∷ inside) =
    if b == opening between then closed (closing between) (text_at between inside).0 (text_at between inside).1 else None

abbrev pub TermFound : Type 0
TermFound = Option (Term × List ℕ)

unfoldable pub iriref_at : List ℕ → TermFound
iriref_at bytes = do
  iri ← enclosed_at Brackets bytes
  Some (Iri iri.0, iri.1)

abbrev pub ends_with_dot : List ℕ → Bool
ends_with_dot bytes = slice_index bytes (length bytes - 1) == 46

-- the bytes without a dot at their end
abbrev pub without_dot : List ℕ → List ℕ
without_dot bytes = if ends_with_dot bytes then take (length bytes - 1) bytes else bytes

abbrev pub is_label_character : ℕ → Bool
is_label_character c = is_name_character c || c == 46

abbrev pub begins_label : List ℕ → Bool
begins_label [] = false
begins_label (c ∷ cs) = is_start_character c || is_digit c

unfoldable pub is_label : List ℕ → Bool
is_label label = is_utf8 label && (begins_label (chars label) && (list_all is_label_character (chars label) && not (ends_with_dot label)))

abbrev pub whole_label : List ℕ → Option (List ℕ)
whole_label label = if is_label label then Some label else None

abbrev pub labelled : List ℕ → List ℕ → TermFound
labelled label inside = if is_label label then Some (Blank 0 label, drop (length label) inside) else None

abbrev pub behind_colon : List ℕ → TermFound
behind_colon [] = None
behind_colon (b ∷ inside) = if b == 58 then labelled (without_dot (run is_label_byte inside)) inside else None

unfoldable pub node_at : List ℕ → TermFound
node_at [] = None
node_at (b ∷ bytes) = if b == 95 then behind_colon bytes else None

-- where in a language tag a byte stands: in the language or in a later group, at its start or not
abbrev pub next_place : Place → ℕ → Option Place
next_place place b =
    if b == 45 then (if place.filled then Some (record { first = false; filled = false }) else None)
    else (if is_letter b || (not place.first && is_digit b) then Some (record { first = place.first; filled = true }) else None)

abbrev pub is_tag_from : Option Place → List ℕ → Bool
is_tag_from None bytes = false
is_tag_from (Some place) [] = place.filled
is_tag_from (Some place) (b ∷ bytes) = is_tag_from (next_place place b) bytes

unfoldable pub is_tag : List ℕ → Bool
is_tag bytes = is_tag_from (Some (record { first = true; filled = false })) bytes

abbrev pub tagged : List ℕ → List ℕ → TermFound
tagged form bytes =
    if is_tag (run is_tag_byte bytes) then Some (Tagged form (map to_ascii_lowercase (run is_tag_byte bytes)), behind_run is_tag_byte bytes) else None

abbrev pub typed : List ℕ → List ℕ → TermFound
typed form [] = None
typed form (b ∷ bytes) =
    if b == 94 then (enclosed_at Brackets (behind_run is_white bytes) >>= λ iri. Some (Literal form iri.0, iri.1)) else None

-- what stands behind a string and white space
abbrev pub marked : List ℕ → List ℕ → List ℕ → TermFound
marked form rest [] = Some (Literal form xsd_string, rest)
marked form rest (b ∷ bytes) =
    if b == 94 then typed form bytes else (if b == 64 then tagged form bytes else Some (Literal form xsd_string, rest))

unfoldable pub mark_at : List ℕ → List ℕ → TermFound
mark_at form rest = marked form rest (behind_run is_white rest)

unfoldable pub literal_at : List ℕ → TermFound
literal_at bytes = enclosed_at Quotes bytes >>= λ form. mark_at form.0 form.1

unfoldable pub subject_at : List ℕ → TermFound
subject_at [] = None
subject_at (b ∷ bytes) = if b == 60 then iriref_at (b ∷ bytes) else node_at (b ∷ bytes)

unfoldable pub object_at : List ℕ → TermFound
object_at [] = None
object_at (b ∷ bytes) =
    if b == 60 then iriref_at (b ∷ bytes) else (if b == 95 then node_at (b ∷ bytes) else literal_at (b ∷ bytes))

-- what a token means, whose text may yet be no UTF-8
abbrev pub text_of : Between → List ℕ → List ℕ
text_of between raw = (text_at between raw).0

abbrev pub term_of : Token → Term
term_of (tokens.Iri raw) = Iri (text_of Brackets raw.now)
term_of (tokens.Blank label) = Blank 0 label.now
term_of (tokens.Plain form) = Literal (text_of Quotes form.now) xsd_string
term_of (tokens.Typed form datatype) = Literal (text_of Quotes form.now) (text_of Brackets datatype.now)
term_of (tokens.Tagged form tag) = Tagged (text_of Quotes form.now) (map to_ascii_lowercase tag.now)

-- ---- lines

-- white space and a comment at most
abbrev pub is_comment : List ℕ → Bool
is_comment [] = true
is_comment (b ∷ text) = b == 35 && is_utf8 text

abbrev pub is_empty_rest : List ℕ → Bool
is_empty_rest bytes = is_comment (behind_run is_white bytes)

-- a full stop, and no more behind it
abbrev pub is_stop : List ℕ → Bool
is_stop [] = false
is_stop (b ∷ behind) = b == 46 && is_empty_rest behind

abbrev pub of_terms : Term → Term → Term → Statement
of_terms subject predicate object = record { subject = subject; predicate = predicate; object = object }

unfoldable pub triple_at : List ℕ → Option Statement
triple_at bytes = do
  subject ← subject_at bytes
  predicate ← iriref_at (behind_run is_white subject.1)
  object ← object_at (behind_run is_white predicate.1)
  if is_stop (behind_run is_white object.1) then Some (of_terms subject.0 predicate.0 object.0) else None

abbrev pub statement_of : Triple → Statement
statement_of t = of_terms (term_of t.subject) (term_of t.predicate) (term_of t.object)

abbrev pub brought : Line → Option Statement
brought lines.Empty = None
brought (lines.Triple t) = Some (statement_of t)

-- behind the white space at a line's front
abbrev pub brought_at : List ℕ → Option (Option Statement)
brought_at [] = Some None
brought_at (b ∷ bytes) =
    if b == 35 then (if is_utf8 bytes then Some None else None) else (triple_at (b ∷ bytes) >>= λ statement. Some (Some statement))

-- the forms of the line, whose texts may yet be no UTF-8
unfoldable pub form_at : List ℕ → Option (Option Statement)
form_at line = brought_at (behind_run is_white line)

-- the term's texts with escapes are UTF-8
abbrev pub has_texts : Term → Bool
has_texts (Iri iri) = is_utf8 iri
has_texts (Literal form datatype) = is_utf8 form && is_utf8 datatype
has_texts (Tagged form tag) = is_utf8 form && is_utf8 tag
has_texts (Blank at label) = true

abbrev pub are_texts : Statement → Bool
are_texts statement = has_texts statement.subject && (has_texts statement.predicate && has_texts statement.object)

abbrev pub if_texts : Option Statement → Option (Option Statement)
if_texts None = Some None
if_texts (Some statement) = if are_texts statement then Some (Some statement) else None

unfoldable pub line_at : List ℕ → Option (Option Statement)
line_at line = form_at line >>= if_texts

-- what was made is this, unless its texts are none
abbrev pub Makes : {A B : Type 0} → (A → B) → Option A → Bool → B → Type 0
Makes view None good b = good ≡ false
Makes view (Some a) good b = (good ≡ true) × (view a ≡ b)

-- what a line of this number gave, behind so many statements, is what reading gives, unless memory ran out
abbrev pub IsRead : ℕ → ℕ → Result (Option Statement) DocFault → Option (Option Statement) → Type 0
IsRead number count (Ok None) read = read ≡ Some None
IsRead number count (Ok (Some statement)) read = (read ≡ Some (Some statement)) × HasShortTerms statement × (count < most_statements)
IsRead number count (Err faults.NoMemory) read = Unit {0}
IsRead number count (Err (faults.Line line)) read = (read ≡ None) × (line ≡ number)
IsRead number count (Err (faults.TooLong line)) read =
    ((statement : Statement) × (read ≡ Some (Some statement)) × (HasShortTerms statement → ⊥)) × (line ≡ number)
IsRead number count (Err (faults.TooMany line)) read =
    ((statement : Statement) × (read ≡ Some (Some statement)) × HasShortTerms statement × (most_statements ≤ count)) × (line ≡ number)

-- ---- blank nodes

abbrev pub is_blank_node : Term → Bool
is_blank_node (Iri iri) = false
is_blank_node (Literal form datatype) = false
is_blank_node (Tagged form tag) = false
is_blank_node (Blank at label) = true

abbrev pub has_blank_node : Statement → Bool
has_blank_node statement = is_blank_node statement.subject || is_blank_node statement.object

-- the number of the first line with a blank node, once the line of this number is read too
abbrev pub noted_label : Option ℕ → Option Statement → ℕ → Option ℕ
noted_label (Some first) brought number = Some first
noted_label None None number = None
noted_label None (Some statement) number = if has_blank_node statement then Some number else None
