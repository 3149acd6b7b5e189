-- What stands on the lines of a work, and that it stands on no other line.
use Rattle.std.proofs.Common.{◌≡◌, ℕ, suc, zero, ◌<◌, ◌≤◌, Bool, true, false, List, [], ◌∷◌, ◌++◌, length, map, codes, inl, inr, refl, sym, ap, subst, ◌∙◌, Option, Some, None, Result, Ok, Err, MatchOption, MatchResult, Bor, ◌==◌, arith}
use Rattle.std.specs.Prelude.{◌&&◌, IfOk}
use Rattle.std.specs.List.{list_all, AllByRecursion}
use Rattle.std.specs.Fmt.{decimal, digits}
use Rattle.std.specs.Str.{IsUtf8, IsAscii}
use Rattle.std.specs.Result.{result_ok}
use Rattle.std.proofs.lemmas.Str.{IsUtf8-from_ascii}
use Rattle.std.proofs.lemmas.Bool.{false≢true, eqb-true}
use Rattle.std.proofs.lemmas.List.{nil_from_length}
use Rattle.std.proofs.lemmas.Bool.Decides.{nat_tests}
use Rattle.work_text.specs.declared.work.Command.{Command}
use Rattle.work_text.specs.declared.work.Command.TheVariants.{Load, Unload, Query, QueryFile}
use Rattle.work_text.specs.declared.work.Line.{Line}
use Rattle.work_text.specs.Work.{is_name_byte, IsName, IsCommand, IsLine, command_text, line_text, spelled, AreLines, IsFront}
use Rattle.work_text.specs.declared.read_line.DocumentVerb.TheVariants as verbs
use Rattle.work_text.specs.Verbs.{IsNamedLine}
use Rattle.work_text.specs.WorkReading.{IsReadingOf, begun, AreBegun}

-- ---- names

byte_is_ascii : (b : ℕ) → is_name_byte b ≡ true → b < 128
byte_is_ascii b e = grind (arith, nat_tests)

both_true : (a b : Bool) → (a && b) ≡ true → (a ≡ true) × (b ≡ true)
both_true true b e = (refl, e)
both_true false b e = absurd cc

name_is_ascii : (name : List ℕ) → list_all is_name_byte name ≡ true → IsAscii name
name_is_ascii [] e i = omega arith
name_is_ascii (b ∷ name) e zero = byte_is_ascii b (both_true (is_name_byte b) (list_all is_name_byte name) e).0
name_is_ascii (b ∷ name) e (suc i) = name_is_ascii name (both_true (is_name_byte b) (list_all is_name_byte name) e).1 i

-- a name is UTF-8, so that it is found as text
pub name_found : {E : Type 0} (name : List ℕ) (read : Result (Bor (List ℕ)) E) (P : E → Type 0) → IsName name
    → MatchResult read (λ s. (s.now ≡ name) × IsUtf8 name) (λ e. (IsUtf8 name → ⊥) × P e)
    → MatchOption (result_ok read) (IsName name → ⊥) (λ s. (s.now ≡ name) × IsName name)
name_found name (Ok s) P good given = (given.0, good)
name_found name (Err e) P good given = absurd (given.0 (IsUtf8-from_ascii name (name_is_ascii name good.each)))

-- ---- lines

-- a line of session 1
pub line_text-is : (line : Line) → IsLine line → line_text line ≡ 49 ∷ 32 ∷ command_text line.command
unfolding digits
line_text-is line good = ap (λ (n : ℕ). decimal n ++ 32 ∷ command_text line.command) good.session

first_byte : (b c : ℕ) (bs cs : List ℕ) → b ∷ bs ≡ c ∷ cs → b ≡ c
first_byte b c bs cs e = cc

-- behind five bytes that are the same
sixth_byte : (b c d e f x y : ℕ) (xs ys : List ℕ) → b ∷ c ∷ d ∷ e ∷ f ∷ x ∷ xs ≡ b ∷ c ∷ d ∷ e ∷ f ∷ y ∷ ys → x ≡ y
sixth_byte b c d e f x y xs ys same = cc

-- a command that is spelled so loads a document
loads : (name : List ℕ) (command : Command) → IsCommand command → codes "load " ++ name ≡ command_text command → IsName name
loads name (Load other) good e = let same : other ≡ name = cc in subst IsName same good
loads name (Unload other) good e = absurd (omega (arith, first_byte 108 117 _ _ e))
loads name (Query text) good e = absurd (omega (arith, first_byte 108 113 _ _ e))
loads name (QueryFile other) good e = absurd (omega (arith, first_byte 108 113 _ _ e))

unloads : (name : List ℕ) (command : Command) → IsCommand command → codes "unload " ++ name ≡ command_text command → IsName name
unloads name (Load other) good e = absurd (omega (arith, first_byte 117 108 _ _ e))
unloads name (Unload other) good e = let same : other ≡ name = cc in subst IsName same good
unloads name (Query text) good e = absurd (omega (arith, first_byte 117 113 _ _ e))
unloads name (QueryFile other) good e = absurd (omega (arith, first_byte 117 113 _ _ e))

query_files : (name : List ℕ) (command : Command) → IsCommand command → codes "queryfile " ++ name ≡ command_text command → IsName name
query_files name (Load other) good e = absurd (omega (arith, first_byte 113 108 _ _ e))
query_files name (Unload other) good e = absurd (omega (arith, first_byte 113 117 _ _ e))
query_files name (Query text) good e = absurd (omega (arith, sixth_byte 113 117 101 114 121 102 32 _ _ e))
query_files name (QueryFile other) good e = let same : other ≡ name = cc in subst IsName same good

queries : (text : List ℕ) (command : Command) → IsCommand command → codes "query " ++ text ≡ command_text command → text ≡ [] → ⊥
queries text (Load name) good e none = omega (arith, first_byte 113 108 _ _ e)
queries text (Unload name) good e none = omega (arith, first_byte 113 117 _ _ e)
queries text (Query other) good e none = let same : other ≡ text = cc in good (same ∙ none)
queries text (QueryFile name) good e none = omega (arith, sixth_byte 113 117 101 114 121 32 102 _ _ e)

neither : (rest : List ℕ) (command : Command)
    → ((name : List ℕ) → rest ≡ codes "load " ++ name → ⊥) → ((name : List ℕ) → rest ≡ codes "unload " ++ name → ⊥)
    → ((name : List ℕ) → rest ≡ codes "queryfile " ++ name → ⊥) → ((text : List ℕ) → rest ≡ codes "query " ++ text → ⊥) → rest ≡ command_text command → ⊥
neither rest (Load name) no_load no_unload no_file no_query e = no_load name e
neither rest (Unload name) no_load no_unload no_file no_query e = no_unload name e
neither rest (Query text) no_load no_unload no_file no_query e = no_query text e
neither rest (QueryFile name) no_load no_unload no_file no_query e = no_file name e

-- no command stands where the name is none
pub no_load : (text name : List ℕ) → text ≡ codes "1 load " ++ name → (IsName name → ⊥) → IsReadingOf text None
no_load text name is bad line good e =
    let both : 49 ∷ 32 ∷ (codes "load " ++ name) ≡ 49 ∷ 32 ∷ command_text line.command = sym is ∙ e ∙ line_text-is line good in
    bad (loads name line.command good.command cc)

pub no_unload : (text name : List ℕ) → text ≡ codes "1 unload " ++ name → (IsName name → ⊥) → IsReadingOf text None
no_unload text name is bad line good e =
    let both : 49 ∷ 32 ∷ (codes "unload " ++ name) ≡ 49 ∷ 32 ∷ command_text line.command = sym is ∙ e ∙ line_text-is line good in
    bad (unloads name line.command good.command cc)

pub no_query_file : (text name : List ℕ) → text ≡ codes "1 queryfile " ++ name → (IsName name → ⊥) → IsReadingOf text None
no_query_file text name is bad line good e =
    let both : 49 ∷ 32 ∷ (codes "queryfile " ++ name) ≡ 49 ∷ 32 ∷ command_text line.command = sym is ∙ e ∙ line_text-is line good in
    bad (query_files name line.command good.command cc)

-- nor where the query is empty
pub no_query : (text query : List ℕ) → text ≡ codes "1 query " ++ query → query ≡ [] → IsReadingOf text None
no_query text query is none line good e =
    let both : 49 ∷ 32 ∷ (codes "query " ++ query) ≡ 49 ∷ 32 ∷ command_text line.command = sym is ∙ e ∙ line_text-is line good in
    queries query line.command good.command (cc) none

-- nor where the line begins with none of the words
pub no_command : (text : List ℕ)
    → ((name : List ℕ) → text ≡ codes "1 load " ++ name → ⊥) → ((name : List ℕ) → text ≡ codes "1 unload " ++ name → ⊥)
    → ((name : List ℕ) → text ≡ codes "1 queryfile " ++ name → ⊥) → ((query : List ℕ) → text ≡ codes "1 query " ++ query → ⊥) → IsReadingOf text None
no_command text no_load no_unload no_file no_query line good e =
    neither (command_text line.command) line.command
    (λ name is. no_load name (e ∙ line_text-is line good ∙ ap (λ (rest : List ℕ). 49 ∷ 32 ∷ rest) is))
    (λ name is. no_unload name (e ∙ line_text-is line good ∙ ap (λ (rest : List ℕ). 49 ∷ 32 ∷ rest) is))
    (λ name is. no_file name (e ∙ line_text-is line good ∙ ap (λ (rest : List ℕ). 49 ∷ 32 ∷ rest) is))
    (λ query is. no_query query (e ∙ line_text-is line good ∙ ap (λ (rest : List ℕ). 49 ∷ 32 ∷ rest) is)) refl

-- a line that is this command of session 1
said : (text : List ℕ) (line : Line) (command : Command) → line ≡ record { session = 1; command = command } → IsCommand command
    → text ≡ 49 ∷ 32 ∷ command_text command → IsReadingOf text (Some line)
unfolding digits
said text line command same good is =
    subst (λ (l : Line). IsLine l × (text ≡ line_text l)) (sym same) (record { session = refl; command = good }, is)

-- the line that puts a document in
pub load_line : {E : Type 0} (text bytes : List ℕ) (read : Result (Option Line) E) → text ≡ codes "1 load " ++ bytes
    → IfOk read (IsNamedLine verbs.Load bytes) → IfOk read (IsReadingOf text)
load_line text bytes (Ok None) is bad = no_load text bytes is bad
load_line text bytes (Ok (Some line)) is named = said text line (Load bytes) named.1 named.0 is
load_line text bytes (Err e) is named = named

-- the line that takes a document out
pub unload_line : {E : Type 0} (text bytes : List ℕ) (read : Result (Option Line) E) → text ≡ codes "1 unload " ++ bytes
    → IfOk read (IsNamedLine verbs.Unload bytes) → IfOk read (IsReadingOf text)
unload_line text bytes (Ok None) is bad = no_unload text bytes is bad
unload_line text bytes (Ok (Some line)) is named = said text line (Unload bytes) named.1 named.0 is
unload_line text bytes (Err e) is named = named

-- the line that asks the query of a document
pub query_file_line : {E : Type 0} (text bytes : List ℕ) (read : Result (Option Line) E) → text ≡ codes "1 queryfile " ++ bytes
    → IfOk read (IsNamedLine verbs.QueryFile bytes) → IfOk read (IsReadingOf text)
query_file_line text bytes (Ok None) is bad = no_query_file text bytes is bad
query_file_line text bytes (Ok (Some line)) is named = said text line (QueryFile bytes) named.1 named.0 is
query_file_line text bytes (Err e) is named = named

-- the line that asks a query
pub query_line : (text query found : List ℕ) (line : Line) → text ≡ codes "1 query " ++ query → (query ≡ [] → ⊥) → found ≡ query
    → line ≡ record { session = 1; command = Query found } → IsReadingOf text (Some line)
query_line text query found line is some same_text same =
    said text line (Query found) same (λ none. some (sym same_text ∙ none)) (is ∙ ap (λ (q : List ℕ). codes "1 query " ++ q) (sym same_text))

-- what a test for an empty list says
pub is_empty : (xs : List ℕ) (empty : Bool) → empty ≡ true → empty ≡ (length xs == 0) → xs ≡ []
is_empty xs empty was is = nil_from_length xs (eqb-true (length xs) 0 (sym is ∙ was))

pub not_empty : (xs : List ℕ) (empty : Bool) → empty ≡ false → empty ≡ (length xs == 0) → xs ≡ [] → ⊥
not_empty [] empty was is none = let e : true ≡ false = cc in false≢true (sym e)
not_empty (x ∷ xs) empty was is none = let none : suc (length xs) ≡ 0 = ap length none in omega arith

-- two commands of one text are the same
same_command : (a b : Command) → command_text a ≡ command_text b → a ≡ b
same_command (Load name) (Load other) e = cc
same_command (Load name) (Unload other) e = absurd (omega (arith, first_byte 108 117 _ _ e))
same_command (Load name) (Query text) e = absurd (omega (arith, first_byte 108 113 _ _ e))
same_command (Load name) (QueryFile other) e = absurd (omega (arith, first_byte 108 113 _ _ e))
same_command (Unload name) (Load other) e = absurd (omega (arith, first_byte 117 108 _ _ e))
same_command (Unload name) (Unload other) e = cc
same_command (Unload name) (Query text) e = absurd (omega (arith, first_byte 117 113 _ _ e))
same_command (Unload name) (QueryFile other) e = absurd (omega (arith, first_byte 117 113 _ _ e))
same_command (Query text) (Load name) e = absurd (omega (arith, first_byte 113 108 _ _ e))
same_command (Query text) (Unload name) e = absurd (omega (arith, first_byte 113 117 _ _ e))
same_command (Query text) (Query other) e = cc
same_command (Query text) (QueryFile name) e = absurd (omega (arith, sixth_byte 113 117 101 114 121 32 102 _ _ e))
same_command (QueryFile name) (Load other) e = absurd (omega (arith, first_byte 113 108 _ _ e))
same_command (QueryFile name) (Unload other) e = absurd (omega (arith, first_byte 113 117 _ _ e))
same_command (QueryFile name) (Query text) e = absurd (omega (arith, sixth_byte 113 117 101 114 121 102 32 _ _ e))
same_command (QueryFile name) (QueryFile other) e = cc

line_with : ℕ → Command → Line
line_with session command = record { session = session; command = command }

pub same_line : (a b : Line) → IsLine a → IsLine b → line_text a ≡ line_text b → a ≡ b
unfolding line_with
same_line a b good_a good_b e =
    let texts : 49 ∷ 32 ∷ command_text a.command ≡ 49 ∷ 32 ∷ command_text b.command = sym (line_text-is a good_a) ∙ e ∙ line_text-is b good_b in
    let commands : a.command ≡ b.command = same_command a.command b.command cc in
    ap (λ (n : ℕ). line_with n a.command) (good_a.session ∙ sym good_b.session) ∙ ap (line_with b.session) commands

-- ---- the lines of a work

same_lines : (xs ys : List Line) → AllByRecursion IsLine xs → AllByRecursion IsLine ys → map line_text xs ≡ map line_text ys → xs ≡ ys
same_lines [] [] good_x good_y e = refl
same_lines [] (y ∷ ys) good_x good_y e = absurd cc
same_lines (x ∷ xs) [] good_x good_y e = absurd cc
same_lines (x ∷ xs) (y ∷ ys) good_x good_y e =
    let first : line_text x ≡ line_text y = cc in
    let others : map line_text xs ≡ map line_text ys = cc in
    let same = same_line x y good_x.0 good_y.0 first in
    let same_others = same_lines xs ys good_x.1 good_y.1 others in
    cc

-- what is spelled is spelled by no other lines
pub same_spelled : (xs ys : List Line) → AreLines xs → AreLines ys → spelled xs ≡ spelled ys → xs ≡ ys
same_spelled xs ys good_x good_y e = same_lines xs ys good_x.each good_y.each cc

-- a front of the texts of lines is that of fewer lines
front_of : (front rest : List (List ℕ)) (lines : List Line) → AllByRecursion IsLine lines → front ++ rest ≡ map line_text lines
    → (fewer : List Line) × AllByRecursion IsLine fewer × (length fewer ≤ length lines) × (front ≡ map line_text fewer)
front_of [] rest lines good e = ([], tt, omega arith, refl)
front_of (text ∷ front) rest [] good e = absurd cc
front_of (text ∷ front) rest (line ∷ lines) good e =
    let others : front ++ rest ≡ map line_text lines = cc in
    let found = front_of front rest lines good.1 others in
    (line ∷ found.0, (good.0, found.1), omega (arith, found.2), cc (found.3))

-- a front of a work's texts is one that a work may begin with
pub IsFront-of : (front rest : List (List ℕ)) (lines : List Line) → AreLines lines → front ++ rest ≡ spelled lines → IsFront front
IsFront-of [] rest lines good e = inl refl
IsFront-of (text ∷ front) rest lines good e =
    let others : front ++ rest ≡ map line_text lines = cc in
    let found = front_of front rest lines good.each others in
    inr (found.0, record { each = found.1; few = omega (arith, found.2, good.few) }, cc (found.3))

-- what was read is such a front
pub IsFront-begun : (read : Option (List Line)) → AreBegun read → IsFront (begun read)
IsFront-begun None good = inl refl
IsFront-begun (Some lines) good = inr (lines, good, refl)

-- the last of the texts of lines is that of a line
last_of : (lines all : List Line) (text : List ℕ) → AllByRecursion IsLine all → map line_text lines ++ text ∷ [] ≡ map line_text all
    → (line : Line) × IsLine line × (text ≡ line_text line)
last_of [] [] text good e = absurd cc
last_of [] (line ∷ all) text good e = (line, good.0, cc)
last_of (first ∷ lines) [] text good e = absurd cc
last_of (first ∷ lines) (line ∷ all) text good e =
    let others : map line_text lines ++ text ∷ [] ≡ map line_text all = cc in
    last_of lines all text good.1 others

-- where no command stands on a line, no work goes on with it
pub no_front : (lines : List Line) (text : List ℕ) → IsReadingOf text None → IsFront (spelled lines ++ text ∷ []) → ⊥
no_front lines text none (inl e) = absurd cc
no_front lines text none (inr found) =
    let texts : map line_text lines ++ text ∷ [] ≡ map line_text found.0 = cc (found.2) in
    let last = last_of lines found.0 text found.1.each texts in
    none last.0 last.1 last.2
