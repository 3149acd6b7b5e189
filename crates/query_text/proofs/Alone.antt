-- Words that stand alone: behind a letter whose run of a prefix's characters no colon ends.
use Rattle.std.proofs.Common.{◌≡◌, ℕ, ◌+◌, ◌<◌, arith, Bool, true, false, not, cond, ◌&&◌, ◌||◌, ◌==◌, List, [], ◌∷◌, ◌++◌, length, length-append, Option, Some, None, option_map, refl, sym, ap, subst, ◌∙◌}
use Rattle.std.proofs.lemmas.Bool.{or_left, cond-true, cond-false}
use Rattle.term_core.specs.Characters.{is_letter, is_digit}
use Rattle.query_text.specs.declared.kind.TokenKind.{TokenKind}
use Rattle.query_text.specs.declared.kind.TokenKind.TheVariants as kinds
use Rattle.query_text.specs.declared.name_scan.NameScan.TheVariants as names
use Rattle.query_text.specs.declared.scan.Scan.{Scan}
use Rattle.query_text.specs.declared.scan.Scan.TheVariants as scans
use Rattle.query_text.specs.Characters.{continues_name, continues_word}
use Rattle.query_text.specs.Texts.{behind_gap}
use Rattle.query_text.specs.Reading.{IsFirst, in_gap}
use Rattle.query_text.specs.Scanning.{longest_from, prefix_dot, prefix_end}
use Rattle.query_text.specs.Ahead.{IsQuiet, begins_with_letter, left_unnamed, word_length}
use Rattle.query_text.proofs.Choices.{other_than}
use Rattle.query_text.proofs.NameRuns.{word_in_name}
use Rattle.query_text.proofs.Runs.{begins_word}
use Rattle.query_text.proofs.Longest.{first_is}
use Rattle.query_text.proofs.Gaps.{gap_goes_on, gap_ends}

-- ---- what was looked through

letter_in_word : (c : ℕ) → is_letter c ≡ true → continues_word c ≡ true
letter_in_word c h = or_left (is_letter c || is_digit c) (c == 95) (or_left (is_letter c) (is_digit c) h)

-- a character of a word goes on a prefix, whether a dot stands before or not
through : (c : ℕ) (cs : List ℕ) (dot : Bool) → continues_word c ≡ true → left_unnamed dot (c ∷ cs) ≡ left_unnamed false cs
through c cs dot h =
    let in_name = word_in_name c h in
    let end = cond (continues_name c) (left_unnamed false cs) (Some (length (c ∷ cs))) in
    cond-false (c == 58 && not dot) None (cond (c == 46) (left_unnamed true cs) end) (ap (λ (colon : Bool). colon && not dot) (other_than continues_word 58 c refl h))
    ∙ cond-false (c == 46) (left_unnamed true cs) end in_name.0
    ∙ cond-true (continues_name c) (left_unnamed false cs) (Some (length (c ∷ cs))) in_name.1

-- what begins the text and what begins with a letter further on have the same left
at_front : (behind : List ℕ) (dot : Bool) (left : ℕ) → left_unnamed dot behind ≡ Some left → begins_with_letter behind ≡ true → left_unnamed false behind ≡ Some left
at_front [] dot left h letter = absurd cc
at_front (c ∷ cs) dot left h letter =
    through c cs false (letter_in_word c letter) ∙ sym (through c cs dot (letter_in_word c letter)) ∙ h

same_left : (front text behind : List ℕ) (dot : Bool) (left : ℕ) → left_unnamed dot text ≡ Some left → text ≡ front ++ behind
    → left < length behind → begins_with_letter behind ≡ true → left_unnamed false behind ≡ Some left
same_left [] text behind dot left h cut short letter = at_front behind dot left (ap (left_unnamed dot) (sym cut) ∙ h) letter
same_left (f ∷ front) [] behind dot left h cut short letter = absurd cc
same_left (f ∷ front) (c ∷ cs) behind dot left h cut short letter =
    let tail : cs ≡ front ++ behind = cc in
    by (c == 58 && not dot) (c == 46) (continues_name c) h tail (λ next k. same_left front cs behind next left k tail short letter)
  where
    by : (ends is_dot in_name : Bool)
        → cond ends None (cond is_dot (left_unnamed true cs) (cond in_name (left_unnamed false cs) (Some (length (c ∷ cs))))) ≡ Some left
        → cs ≡ front ++ behind → ((next : Bool) → left_unnamed next cs ≡ Some left → left_unnamed false behind ≡ Some left)
        → left_unnamed false behind ≡ Some left
    by true is_dot in_name k tail again = absurd cc
    by false true in_name k tail again = again true k
    by false false true k tail again = again false k
    by false false false k tail again =
        let here : length (c ∷ cs) ≡ left = cc in
        absurd (omega (arith, here, ap length tail, length-append front behind, short))

-- ---- what is kept from token to token

-- what was looked through is known
pub quiet_from : (text : List ℕ) (left : ℕ) → left_unnamed false text ≡ Some left → IsQuiet left text
quiet_from text left h = record { alone = λ front behind cut short letter. same_left front text behind false left h cut short letter }

-- and tells what a letter before its end would find
pub left_is : (text : List ℕ) (left : ℕ) → IsQuiet left text → left < length text → begins_with_letter text ≡ true → left_unnamed false text ≡ Some left
left_is text left h short letter = h.alone [] text refl short letter

-- at first nothing is known
pub quiet_start : (text : List ℕ) → IsQuiet (length text) text
quiet_start text = record { alone = λ front behind cut short letter. absurd (omega (arith, ap length cut, length-append front behind, short)) }

quiet_tail : (left c : ℕ) (cs : List ℕ) → IsQuiet left (c ∷ cs) → IsQuiet left cs
quiet_tail left c cs h = record { alone = λ front behind cut short letter. h.alone (c ∷ front) behind (ap (λ (x : List ℕ). c ∷ x) cut) short letter }

quiet_rest : (left : ℕ) (front behind : List ℕ) → IsQuiet left (front ++ behind) → IsQuiet left behind
quiet_rest left [] behind h = h
quiet_rest left (c ∷ front) behind h = quiet_rest left front behind (quiet_tail left c (front ++ behind) h)

-- behind a token, and behind white space and comments, it stays known
pub quiet_behind : (left : ℕ) (text front behind : List ℕ) → text ≡ front ++ behind → IsQuiet left text → IsQuiet left behind
quiet_behind left text front behind cut h = quiet_rest left front behind (subst (IsQuiet left) cut h)

pub quiet_gap : (text : List ℕ) (comment : Bool) (left : ℕ) → IsQuiet left text → IsQuiet left (behind_gap comment text)
quiet_gap [] comment left h = h
quiet_gap (c ∷ cs) comment left h = by (in_gap comment c) refl (λ next. quiet_gap cs next left (quiet_tail left c cs h))
  where
    by : (next : Option Bool) → in_gap comment c ≡ next → ((d : Bool) → IsQuiet left (behind_gap d cs)) → IsQuiet left (behind_gap comment (c ∷ cs))
    by None e again = subst (IsQuiet left) (sym (gap_ends comment c cs e)) h
    by (Some next) e again = subst (IsQuiet left) (sym (gap_goes_on comment c cs next e)) (again next)

-- ---- the word

nothing_longer : (cs : List ℕ) (longest : Option (TokenKind × ℕ)) (at : ℕ) → longest_from longest at None cs ≡ longest
nothing_longer [] longest at = refl
nothing_longer (c ∷ cs) longest at = refl

abbrev prefix_state : Bool → Scan
prefix_state true = scans.Name names.PrefixDot
prefix_state false = scans.Name names.Prefix

-- a prefix goes on with a character that is no colon, or ends
prefix_goes_on : (c left : ℕ) (cs : List ℕ) (longest : Option (TokenKind × ℕ)) (at : ℕ) (is_dot in_name : Bool)
    → cond is_dot (left_unnamed true cs) (cond in_name (left_unnamed false cs) (Some (length (c ∷ cs)))) ≡ Some left
    → ((dot : Bool) → left_unnamed dot cs ≡ Some left → longest_from longest at (Some (prefix_state dot)) cs ≡ longest)
    → longest_from longest at (option_map scans.Name (cond is_dot (Some names.PrefixDot) (cond in_name (Some names.Prefix) None))) cs ≡ longest
prefix_goes_on c left cs longest at true in_name h again = again true h
prefix_goes_on c left cs longest at false true h again = again false h
prefix_goes_on c left cs longest at false false h again = nothing_longer cs longest at

-- the same with any character, where no dot stands before
behind_name : (c left : ℕ) (cs : List ℕ) (longest : Option (TokenKind × ℕ)) (at : ℕ) (colon : Bool)
    → cond (colon && not false) None (cond (c == 46) (left_unnamed true cs) (cond (continues_name c) (left_unnamed false cs) (Some (length (c ∷ cs))))) ≡ Some left
    → ((dot : Bool) → left_unnamed dot cs ≡ Some left → longest_from longest at (Some (prefix_state dot)) cs ≡ longest)
    → longest_from longest at (option_map scans.Name (cond colon (Some names.Colon) (prefix_dot c))) cs ≡ longest
behind_name c left cs longest at true h again = absurd cc
behind_name c left cs longest at false h again = prefix_goes_on c left cs longest at (c == 46) (continues_name c) h again

-- a prefix that no colon ends makes no token
no_name : (cs : List ℕ) (dot : Bool) (left : ℕ) (longest : Option (TokenKind × ℕ)) (at : ℕ) → left_unnamed dot cs ≡ Some left
    → longest_from longest at (Some (prefix_state dot)) cs ≡ longest
no_name [] true left longest at h = refl
no_name [] false left longest at h = refl
no_name (c ∷ cs) true left longest at h = by (c == 58) h (λ dot k. no_name cs dot left longest (at + 1) k)
  where
    by : (colon : Bool)
        → cond (colon && not true) None (cond (c == 46) (left_unnamed true cs) (cond (continues_name c) (left_unnamed false cs) (Some (length (c ∷ cs))))) ≡ Some left
        → ((dot : Bool) → left_unnamed dot cs ≡ Some left → longest_from longest (at + 1) (Some (prefix_state dot)) cs ≡ longest)
        → longest_from longest at (Some (prefix_state true)) (c ∷ cs) ≡ longest
    by true k again = prefix_goes_on c left cs longest (at + 1) (c == 46) (continues_name c) k again
    by false k again = prefix_goes_on c left cs longest (at + 1) (c == 46) (continues_name c) k again
no_name (c ∷ cs) false left longest at h = behind_name c left cs longest (at + 1) (c == 58) h (λ dot k. no_name cs dot left longest (at + 1) k)

-- behind a word the word is the longest token
word_alone : (cs : List ℕ) (left : ℕ) (longest : Option (TokenKind × ℕ)) (at : ℕ) → left_unnamed false cs ≡ Some left
    → longest_from longest at (Some (scans.Name names.Word)) cs ≡ Some (kinds.Word, at + word_length cs)
word_alone [] left longest at h = ap (λ (n : ℕ). Some (kinds.Word, n)) (omega arith)
word_alone (c ∷ cs) left longest at h = by (continues_word c) refl (λ k. word_alone cs left (Some (kinds.Word, at)) (at + 1) k)
  where
    by : (in_word : Bool) → continues_word c ≡ in_word
        → (left_unnamed false cs ≡ Some left
        → longest_from (Some (kinds.Word, at)) (at + 1) (Some (scans.Name names.Word)) cs ≡ Some (kinds.Word, (at + 1) + word_length cs))
        → longest_from (Some (kinds.Word, at)) (at + 1) (option_map scans.Name (cond in_word (Some names.Word) (prefix_end c))) cs
        ≡ Some (kinds.Word, at + cond in_word (word_length cs + 1) 0)
    by true e again = again (sym (through c cs false e) ∙ h) ∙ ap (λ (n : ℕ). Some (kinds.Word, n)) (omega arith)
    by false e again =
        behind_name c left cs (Some (kinds.Word, at)) (at + 1) (c == 58) h (λ dot k. no_name cs dot left (Some (kinds.Word, at)) (at + 1) k)
        ∙ ap (λ (n : ℕ). Some (kinds.Word, n)) (omega arith)

-- a letter behind which no colon ends a prefix begins a word, and no longer token
word_first : (text : List ℕ) (left : ℕ) → begins_with_letter text ≡ true → left_unnamed false text ≡ Some left → IsFirst text (Some (kinds.Word, word_length text))
word_first [] left letter h = absurd cc
word_first (c ∷ cs) left letter h = subst (IsFirst (c ∷ cs)) found (first_is (c ∷ cs))
  where
    rest : left_unnamed false cs ≡ Some left
    rest = sym (through c cs false (letter_in_word c letter)) ∙ h

    counted : word_length (c ∷ cs) ≡ word_length cs + 1
    counted = cond-true (continues_word c) (word_length cs + 1) 0 (letter_in_word c letter)

    found : longest_from None 0 (Some scans.Start) (c ∷ cs) ≡ Some (kinds.Word, word_length (c ∷ cs))
    found =
        ap (λ (scan : Option Scan). longest_from None 1 scan cs) (begins_word c letter)
        ∙ word_alone cs left None 1 rest
        ∙ ap (λ (n : ℕ). Some (kinds.Word, n)) (omega (arith, counted))

-- as the code has it: the length was counted, and how much is left is known of some number
pub counted_first : (text : List ℕ) (counted : ℕ) → begins_with_letter text ≡ true → (left : ℕ) × (left_unnamed false text ≡ Some left) → counted ≡ word_length text
    → IsFirst text (Some (kinds.Word, counted))
counted_first text counted letter (left, is) same = subst (λ (n : ℕ). IsFirst text (Some (kinds.Word, n))) (sym same) (word_first text left letter is)
