-- Cells in a line. Where the cell of a term, or an empty one, is a front of another, the byte that follows is above the tab, so that lines of
-- cells with tabs between them are in the order of their cells.
use Rattle.std.proofs.Common.{◌≡◌, ◌≢◌, ℕ, ◌<◌, ◌≤◌, ◌^◌, ◌+◌, ◌%◌, Bool, true, false, cond, ◌||◌, ◌==◌, List, [], ◌∷◌, ◌++◌, drop, codes, Option, Some, None, append_assoc, refl, sym, ap, subst, ◌∙◌, arith}
use Rattle.std.specs.Prelude.{nat_lt}
use Rattle.std.specs.Fmt.{decimal}
use Rattle.std.specs.List.{list_all, flat_map, AllByRecursion}
use Rattle.std.specs.Str.{chars}
use Rattle.std.proofs.lemmas.Bool.{and_parts, and_from, ltb-true}
use Rattle.std.proofs.lemmas.Bool.Decides.{nat_tests}
use Rattle.std.proofs.lemmas.Fmt.{decimal_by_steps}
use Rattle.term_core.specs.declared.term.Term.{Term}
use Rattle.term_core.specs.declared.term.Term.TheVariants.{Iri, Literal, Tagged, Blank}
use Rattle.term_core.specs.Characters.{is_digit, is_lower_letter, is_iri_character, is_base_character, is_start_character, is_name_character}
use Rattle.term_core.specs.Term.{IsIri, IsGroup, IsTag, AreLabelCharacters, IsLabel, IsTerm}
use Rattle.nt_text.specs.Cell.{escaped_byte, quoted, bracketed, is_string, datatype_mark, cell, cell_of, IsCell}
use Rattle.nt_text.proofs.Encoded.{all_append, text_passes}
use Rattle.nt_text.proofs.Iris.{IsIri-bytes}

-- where the list goes on behind this front, it goes on with a byte above the tab
abbrev pub Follows : List ℕ → List ℕ → Type 0
Follows front whole = (b : ℕ) (more : List ℕ) → whole ≡ front ++ b ∷ more → 9 < b

-- ---- bytes above the tab

abbrev is_above : ℕ → Bool
is_above b = nat_lt 9 b

above_high : (b : ℕ) → 128 ≤ b → is_above b ≡ true
above_high b h = grind (arith, nat_tests)

byte_in : (test : ℕ → Bool) (front : List ℕ) (b : ℕ) (more : List ℕ) → list_all test (front ++ b ∷ more) ≡ true → test b ≡ true
byte_in test [] b more all = (and_parts (test b) (list_all test more) all).0
byte_in test (x ∷ front) b more all = byte_in test front b more (and_parts (test x) (list_all test (front ++ b ∷ more)) all).1

all_follow : (front whole : List ℕ) → list_all is_above whole ≡ true → Follows front whole
all_follow front whole all b more e =
    ltb-true 9 b (byte_in is_above front b more (subst (λ (bytes : List ℕ). list_all is_above bytes ≡ true) e all))

letter_above : (c : ℕ) → is_lower_letter c ≡ true → is_above c ≡ true
letter_above c h = grind (arith, nat_tests)

letter_or_digit_above : (c : ℕ) → (is_lower_letter c || is_digit c) ≡ true → is_above c ≡ true
letter_or_digit_above c h = grind (arith, nat_tests)

class_above : (class : ℕ → Bool) → ((c : ℕ) → class c ≡ true → is_above c ≡ true) → (cs : List ℕ) → list_all class cs ≡ true → list_all is_above cs ≡ true
class_above class each [] all = refl
class_above class each (c ∷ cs) all =
    let parts = and_parts (class c) (list_all class cs) all in
    and_from (is_above c) (list_all is_above cs) (each c parts.0) (class_above class each cs parts.1)

subtags_above : (subtags : List (List ℕ)) → AllByRecursion (IsGroup (λ c. is_lower_letter c || is_digit c)) subtags
    → list_all is_above (flat_map (λ subtag. 45 ∷ subtag) subtags) ≡ true
subtags_above [] groups = refl
subtags_above (subtag ∷ subtags) groups =
    all_append is_above (45 ∷ subtag) (flat_map (λ s. 45 ∷ s) subtags)
    (class_above (λ c. is_lower_letter c || is_digit c) letter_or_digit_above subtag groups.0.1) (subtags_above subtags groups.1)

tag_above : (tag : List ℕ) → IsTag tag → list_all is_above tag ≡ true
tag_above tag is =
    subst (λ (bytes : List ℕ). list_all is_above bytes ≡ true) (sym is.spelled)
    (all_append is_above is.language (flat_map (λ subtag. 45 ∷ subtag) is.subtags)
    (class_above is_lower_letter letter_above is.language is.letters.1) (subtags_above is.subtags is.groups))

first_above : (c : ℕ) → (is_start_character c || is_digit c) ≡ true → is_above c ≡ true
unfolding is_start_character is_base_character
first_above c h = grind (arith, nat_tests)

later_above : (c : ℕ) → (is_name_character c || c == 46) ≡ true → is_above c ≡ true
unfolding is_name_character is_start_character is_base_character
later_above c h = grind (arith, nat_tests)

characters_above : (cs : List ℕ) → AreLabelCharacters cs → list_all is_above cs ≡ true
characters_above [] shape = absurd shape
characters_above (c ∷ cs) shape =
    and_from (is_above c) (list_all is_above cs) (first_above c shape.0) (class_above (λ d. is_name_character d || d == 46) later_above cs shape.1)

label_above : (label : List ℕ) → IsLabel label → list_all is_above label ≡ true
label_above label is = text_passes is_above above_high label is.utf8 (characters_above (chars label) is.shape)

digit_above : (n : ℕ) → is_above (48 + n) ≡ true
digit_above n = grind (arith, nat_tests)

decimal_above : (n : ℕ) → n < 2 ^ 64 → list_all is_above (decimal n) ≡ true
decimal_above =
    decimal_by_steps (λ n bytes. list_all is_above bytes ≡ true) (λ n low. and_from (is_above (48 + n)) true (digit_above n) refl)
    (λ n bytes high front. all_append is_above bytes ((48 + n % 10) ∷ []) front (and_from (is_above (48 + n % 10)) true (digit_above (n % 10)) refl))

blank_above : (at : ℕ) (label : List ℕ) → at < 2 ^ 64 → IsLabel label → list_all is_above (cell (Blank at label)) ≡ true
blank_above at label low is =
    all_append is_above (codes "_:c" ++ decimal at) (46 ∷ label) (all_append is_above (codes "_:c") (decimal at) refl (decimal_above at low)) (label_above label is)

-- ---- brackets

head_is : (b c : ℕ) (bs cs : List ℕ) → b ∷ bs ≡ c ∷ cs → b ≡ c
head_is b c bs cs e = cc

apart : (b c : ℕ) (bs cs : List ℕ) (P : Type 0) → b ≢ c → b ∷ bs ≡ c ∷ cs → P
apart b c bs cs P other e = absurd (other (head_is b c bs cs e))

tail_is : (b c : ℕ) (bs cs : List ℕ) → b ∷ bs ≡ c ∷ cs → bs ≡ cs
tail_is b c bs cs e = cc

not_nil : (front : List ℕ) (b : ℕ) (more : List ℕ) → [] ≡ front ++ b ∷ more → ⊥
not_nil [] b more e = cc
not_nil (x ∷ front) b more e = cc

no_bracket : is_iri_character 62 ≡ false
unfolding is_iri_character
no_bracket = refl

-- behind the bracket that closes an IRI nothing goes on
closed : (iri front : List ℕ) (b : ℕ) (more : List ℕ) → list_all is_iri_character iri ≡ true → iri ++ 62 ∷ [] ≡ front ++ 62 ∷ (b ∷ more) → ⊥
closed [] [] b more all e = cc
closed [] (x ∷ front) b more all e = not_nil front 62 (b ∷ more) (tail_is 62 x [] (front ++ 62 ∷ (b ∷ more)) e)
closed (x ∷ iri) [] b more all e =
    let passes : is_iri_character 62 ≡ true =
    subst (λ (c : ℕ). is_iri_character c ≡ true) (head_is x 62 (iri ++ 62 ∷ []) (b ∷ more) e) (and_parts (is_iri_character x) (list_all is_iri_character iri) all).0 in
    let clash : true ≡ false = sym passes ∙ no_bracket in
    cc
closed (x ∷ iri) (y ∷ front) b more all e =
    closed iri front b more (and_parts (is_iri_character x) (list_all is_iri_character iri) all).1 (tail_is x y (iri ++ 62 ∷ []) (front ++ 62 ∷ (b ∷ more)) e)

bracketed_closed : (iri front : List ℕ) (b : ℕ) (more : List ℕ) → IsIri iri → bracketed iri ≡ bracketed front ++ b ∷ more → ⊥
bracketed_closed iri front b more is e =
    closed iri front b more (IsIri-bytes iri is)
    (tail_is 60 60 (iri ++ 62 ∷ []) ((front ++ 62 ∷ []) ++ b ∷ more) e ∙ append_assoc front (62 ∷ []) (b ∷ more))

-- ---- quotes

-- what stands behind the quote that closes a form, where an escape has begun or not
behind_quote : Bool → List ℕ → List ℕ
behind_quote escape [] = []
behind_quote true (b ∷ bytes) = behind_quote false bytes
behind_quote false (b ∷ bytes) = cond (b == 34) bytes (behind_quote (b == 92) bytes)

byte_skipped : (quote slash line carriage tab : Bool) (b : ℕ) (rest : List ℕ) → (b == 34) ≡ quote → (b == 92) ≡ slash
    → behind_quote false (cond quote (codes "\\\"") (cond slash (codes "\\\\") (cond line (codes "\\n") (cond carriage (codes "\\r") (cond tab (codes "\\t") (b ∷ []))))) ++ rest)
    ≡ behind_quote false rest
unfolding behind_quote
byte_skipped true slash line carriage tab b rest p q = refl
byte_skipped false true line carriage tab b rest p q = refl
byte_skipped false false true carriage tab b rest p q = refl
byte_skipped false false false true tab b rest p q = refl
byte_skipped false false false false true b rest p q = refl
byte_skipped false false false false false b rest p q = rw (p, q) refl

form_skipped : (form rest : List ℕ) → behind_quote false (flat_map escaped_byte form ++ 34 ∷ rest) ≡ rest
unfolding behind_quote
form_skipped [] rest = refl
form_skipped (b ∷ form) rest =
    ap (behind_quote false) (append_assoc (escaped_byte b) (flat_map escaped_byte form) (34 ∷ rest))
    ∙ byte_skipped (b == 34) (b == 92) (b == 10) (b == 13) (b == 9) b (flat_map escaped_byte form ++ 34 ∷ rest) refl refl
    ∙ form_skipped form rest

behind_quoted : (form rest : List ℕ) → behind_quote false (drop 1 (quoted form ++ rest)) ≡ rest
behind_quoted form rest = ap (behind_quote false) (append_assoc (flat_map escaped_byte form) (34 ∷ []) rest) ∙ form_skipped form rest

-- what stands behind quoted forms is the same where the whole is
same_behind : (form other behind rest : List ℕ) → quoted form ++ behind ≡ quoted other ++ rest → behind ≡ rest
same_behind form other behind rest e =
    sym (behind_quoted form behind) ∙ ap (λ (bytes : List ℕ). behind_quote false (drop 1 bytes)) e ∙ behind_quoted other rest

marks_follow : (form other mark behind : List ℕ) → Follows mark behind → Follows (quoted form ++ mark) (quoted other ++ behind)
marks_follow form other mark behind follows b more e =
    follows b more (same_behind other form behind (mark ++ b ∷ more) (e ∙ append_assoc (quoted form) mark (b ∷ more)))

datatypes_follow : (plain other_plain : Bool) (datatype other : List ℕ) → IsIri other
    → Follows (cond plain [] (codes "^^" ++ bracketed datatype)) (cond other_plain [] (codes "^^" ++ bracketed other))
datatypes_follow true true datatype other is b more e = absurd cc
datatypes_follow true false datatype other is b more e =
    let mark : 94 ≡ b = head_is 94 b (94 ∷ bracketed other) more e in omega arith
datatypes_follow false true datatype other is b more e = absurd cc
datatypes_follow false false datatype other is b more e =
    absurd (bracketed_closed other datatype b more is
    (tail_is 94 94 (bracketed other) (bracketed datatype ++ b ∷ more)
    (tail_is 94 94 (94 ∷ bracketed other) (94 ∷ (bracketed datatype ++ b ∷ more)) e)))

tag_follows : (plain : Bool) (datatype tag : List ℕ) → Follows (cond plain [] (codes "^^" ++ bracketed datatype)) (64 ∷ tag)
tag_follows true datatype tag b more e = let mark : 64 ≡ b = head_is 64 b tag more e in omega arith
tag_follows false datatype tag b more e =
    apart 64 94 tag (94 ∷ (bracketed datatype ++ b ∷ more)) (9 < b) (omega arith) e

datatype_follows : (plain : Bool) (tag datatype : List ℕ) → Follows (64 ∷ tag) (cond plain [] (codes "^^" ++ bracketed datatype))
datatype_follows true tag datatype b more e = absurd cc
datatype_follows false tag datatype b more e =
    apart 94 64 (94 ∷ bracketed datatype) (tag ++ b ∷ more) (9 < b) (omega arith) e

-- ---- cells

cells_follow : (one other : Term) → IsTerm other → Follows (cell one) (cell other)
cells_follow (Iri iri) (Iri other) is b more e = absurd (bracketed_closed other iri b more is e)
cells_follow (Iri iri) (Literal form datatype) is b more e = apart 34 60 _ _ (9 < b) (omega arith) e
cells_follow (Iri iri) (Tagged form tag) is b more e = apart 34 60 _ _ (9 < b) (omega arith) e
cells_follow (Iri iri) (Blank at label) is b more e = apart 95 60 _ _ (9 < b) (omega arith) e
cells_follow (Literal form datatype) (Iri iri) is b more e = apart 60 34 _ _ (9 < b) (omega arith) e
cells_follow (Literal form datatype) (Literal other type) is b more e =
    marks_follow form other (datatype_mark datatype) (datatype_mark type) (datatypes_follow (is_string datatype) (is_string type) datatype type is.1) b more e
cells_follow (Literal form datatype) (Tagged other tag) is b more e =
    marks_follow form other (datatype_mark datatype) (64 ∷ tag) (tag_follows (is_string datatype) datatype tag) b more e
cells_follow (Literal form datatype) (Blank at label) is b more e = apart 95 34 _ _ (9 < b) (omega arith) e
cells_follow (Tagged form tag) (Iri iri) is b more e = apart 60 34 _ _ (9 < b) (omega arith) e
cells_follow (Tagged form tag) (Literal other type) is b more e =
    marks_follow form other (64 ∷ tag) (datatype_mark type) (datatype_follows (is_string type) tag type) b more e
cells_follow (Tagged form tag) (Tagged other language) is b more e =
    marks_follow form other (64 ∷ tag) (64 ∷ language)
    (all_follow (64 ∷ tag) (64 ∷ language) (and_from (is_above 64) (list_all is_above language) refl (tag_above language is.1))) b more e
cells_follow (Tagged form tag) (Blank at label) is b more e = apart 95 34 _ _ (9 < b) (omega arith) e
cells_follow (Blank at label) (Iri iri) is b more e = apart 60 95 _ _ (9 < b) (omega arith) e
cells_follow (Blank at label) (Literal form datatype) is b more e = apart 34 95 _ _ (9 < b) (omega arith) e
cells_follow (Blank at label) (Tagged form tag) is b more e = apart 34 95 _ _ (9 < b) (omega arith) e
cells_follow (Blank at label) (Blank time other) is b more e = all_follow (cell (Blank at label)) (cell (Blank time other)) (blank_above time other is.0 is.1) b more e

first_follows : (term : Term) → Follows [] (cell term)
first_follows (Iri iri) b more e = let mark : 60 ≡ b = head_is 60 b _ more e in omega arith
first_follows (Literal form datatype) b more e = let mark : 34 ≡ b = head_is 34 b _ more e in omega arith
first_follows (Tagged form tag) b more e = let mark : 34 ≡ b = head_is 34 b _ more e in omega arith
first_follows (Blank at label) b more e = let mark : 95 ≡ b = head_is 95 b _ more e in omega arith

-- where a cell is a front of another whose term keeps its rules, the byte that follows is above the tab
pub cell_of-follow : (one other : Option Term) → IsCell other → Follows (cell_of one) (cell_of other)
cell_of-follow one None is b more e = absurd (not_nil (cell_of one) b more e)
cell_of-follow None (Some other) is b more e = first_follows other b more e
cell_of-follow (Some one) (Some other) is b more e = cells_follow one other is b more e
