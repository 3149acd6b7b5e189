-- The lines of a work, one after the other.
use Rattle.std.proofs.Common.{◌≡◌, ℕ, ◌+◌, Bool, true, false, cond, List, [], ◌∷◌, ◌++◌, length, map, inl, inr, refl, sym, ap, subst, ◌∙◌, Option, Some, None, Result, Ok, Err, MatchResult, append_assoc, arith}
use Rattle.std.specs.Prelude.{IfOk, IfErr}
use Rattle.std.proofs.lemmas.List.{append-nil, map-append}
use Rattle.base_core.specs.declared.lines.LineEnd.TheVariants.{LineFeed}
use Rattle.base_core.specs.Lines.{lines_of}
use Rattle.work_text.specs.declared.work.Line.{Line}
use Rattle.work_text.specs.declared.work.Work.{Work}
use Rattle.work_text.specs.declared.read.WorkFault.{WorkFault}
use Rattle.work_text.specs.declared.read.WorkFault.TheVariants.{NoMemory, BadWork}
use Rattle.work_text.specs.Faults.{IsWorkFault, IsNoMemory}
use Rattle.work_text.specs.Work.{is_skipped, numbered, written, spelled, IsWork, IsFront, Stops, IsBadWorkLine}
use Rattle.work_text.specs.WorkReading.{begun, AreBegun, unskipped, WorkGoesOn, CannotGoOn}
use Rattle.work_text.proofs.WorkLines.{same_spelled, IsFront-of, IsFront-begun}

abbrev pub texts_of : List (ℕ × List ℕ) → List (List ℕ)
texts_of lines = map (λ line. line.1) lines

-- what was read is what the lines before the rest say, and the next line has this number
pub record IsScanned (bytes rest : List ℕ) (number : ℕ) (read : Option (List Line)) : Type 0 where
  pub front : List (ℕ × List ℕ)
  pub cut : written bytes ≡ front ++ numbered number (lines_of LineFeed rest)
  pub texts : texts_of front ≡ begun read
  pub good : AreBegun read
  pub count : length (lines_of LineFeed bytes) + 1 ≡ number + length (lines_of LineFeed rest)

pub IsScanned-start : (bytes : List ℕ) → IsScanned bytes bytes 1 None
IsScanned-start bytes = record { front = []; cut = refl; texts = refl; good = tt; count = omega arith }

-- a line as it counts
own : ℕ → List ℕ → List (ℕ × List ℕ)
own number line = cond (is_skipped line) [] ((number, line) ∷ [])

cond_apart : {A : Type 0} (b : Bool) (x : A) (others : List A) → cond b others (x ∷ others) ≡ cond b [] (x ∷ []) ++ others
cond_apart true x others = refl
cond_apart false x others = refl

numbered-more : (number : ℕ) (line : List ℕ) (lines : List (List ℕ)) → numbered number (line ∷ lines) ≡ own number line ++ numbered (number + 1) lines
unfolding own
numbered-more number line lines = cond_apart (is_skipped line) (number, line) (numbered (number + 1) lines)

cond_text : (b : Bool) (number : ℕ) (line : List ℕ) → texts_of (cond b [] ((number, line) ∷ [])) ≡ cond b [] (line ∷ [])
cond_text true number line = refl
cond_text false number line = refl

own-texts : (number : ℕ) (line : List ℕ) → texts_of (own number line) ≡ unskipped line
unfolding own
own-texts number line = cond_text (is_skipped line) number line

-- with a line that was taken
pub IsScanned-more : (bytes rest behind line : List ℕ) (number : ℕ) (read next : Option (List Line))
    → lines_of LineFeed rest ≡ line ∷ lines_of LineFeed behind → WorkGoesOn read line next
    → IsScanned bytes rest number read → IsScanned bytes behind (number + 1) next
IsScanned-more bytes rest behind line number read next cut goes so_far =
    let lines = lines_of LineFeed behind in
    record {
      front = so_far.front ++ own number line;
      cut = so_far.cut ∙ ap (λ (ls : List (List ℕ)). so_far.front ++ numbered number ls) cut
          ∙ ap (λ (ls : List (ℕ × List ℕ)). so_far.front ++ ls) (numbered-more number line lines)
          ∙ sym (append_assoc so_far.front (own number line) (numbered (number + 1) lines));
      texts = map-append (λ (l : ℕ × List ℕ). l.1) so_far.front (own number line)
          ∙ ap (λ (ls : List (List ℕ)). ls ++ texts_of (own number line)) so_far.texts
          ∙ ap (λ (ls : List (List ℕ)). begun read ++ ls) (own-texts number line) ∙ sym goes.texts;
      good = goes.good so_far.good;
      count = let more : length (lines_of LineFeed rest) ≡ length lines + 1 = ap length cut ∙ omega arith in omega (arith, so_far.count);
    }

cond_none : {A : Type 0} (b : Bool) (x y : A) → b ≡ false → cond b x y ≡ y
cond_none true x y e = absurd cc
cond_none false x y e = refl

-- with a line that can't follow
pub IsWorkFault-stop : (bytes rest behind line : List ℕ) (number : ℕ) (read : Option (List Line)) (fault : WorkFault)
    → lines_of LineFeed rest ≡ line ∷ lines_of LineFeed behind → CannotGoOn read line number fault
    → IsScanned bytes rest number read → IsWorkFault bytes fault
IsWorkFault-stop bytes rest behind line number read NoMemory cut stop so_far = tt
IsWorkFault-stop bytes rest behind line number read (BadWork bad) cut stop so_far =
    let others = numbered (number + 1) (lines_of LineFeed behind) in
    let next : numbered number (line ∷ lines_of LineFeed behind) ≡ (number, line) ∷ others = cond_none (is_skipped line) others ((number, line) ∷ others) stop.1 in
    let stops : Stops bytes number = record {
      front = so_far.front;
      bad = line;
      rest = others;
      cut = so_far.cut ∙ ap (λ (ls : List (List ℕ)). so_far.front ++ numbered number ls) cut ∙ ap (λ (ls : List (ℕ × List ℕ)). so_far.front ++ ls) next;
      good = subst IsFront (sym so_far.texts) (IsFront-begun read so_far.good);
      outside = λ more. stop.2 (subst (λ (ls : List (List ℕ)). IsFront (ls ++ line ∷ [])) so_far.texts more);
    } in
    subst (IsBadWorkLine bytes) (sym stop.0) (inl stops)

-- at the end
scanned_all : (bytes rest : List ℕ) (number : ℕ) (read : Option (List Line)) → rest ≡ [] → (s : IsScanned bytes rest number read) → written bytes ≡ s.front
scanned_all bytes rest number read ended s =
    s.cut ∙ ap (λ (r : List ℕ). s.front ++ numbered number (lines_of LineFeed r)) ended ∙ append-nil s.front

pub IsWork-from : (bytes rest : List ℕ) (number : ℕ) (work : Work) → rest ≡ [] → IsScanned bytes rest number (Some work.lines) → IsWork bytes work
IsWork-from bytes rest number work ended s =
    record { lines = s.good; text = ap texts_of (scanned_all bytes rest number (Some work.lines) ended s) ∙ s.texts }

no_texts : (lines : List (ℕ × List ℕ)) → texts_of lines ≡ [] → lines ≡ []
no_texts [] e = refl
no_texts (line ∷ lines) e = absurd cc

pub IsBadWorkLine-from : (bytes rest : List ℕ) (number : ℕ) → rest ≡ [] → IsScanned bytes rest number None → IsBadWorkLine bytes number
IsBadWorkLine-from bytes rest number ended s =
    let none : length (lines_of LineFeed rest) ≡ 0 = ap (λ (r : List ℕ). length (lines_of LineFeed r)) ended in
    inr (scanned_all bytes rest number None ended s ∙ no_texts s.front s.texts, omega (arith, s.count))

-- ---- a text is that of one work at most, and of none where a line is bad

work_of : List Line → Work
work_of lines = record { lines = lines }

same_work : (bytes : List ℕ) (a b : Work) → IsWork bytes a → IsWork bytes b → a ≡ b
unfolding work_of
same_work bytes a b is_a is_b = ap work_of (same_spelled a.lines b.lines is_a.lines is_b.lines (sym is_a.text ∙ is_b.text))

no_work : (bytes : List ℕ) (number : ℕ) (work : Work) → IsWork bytes work → IsBadWorkLine bytes number → ⊥
no_work bytes number work is (inl stops) =
    let front = texts_of stops.front in
    let rest = texts_of stops.rest in
    let texts : texts_of (written bytes) ≡ front ++ stops.bad ∷ rest = ap texts_of stops.cut ∙ map-append (λ (l : ℕ × List ℕ). l.1) stops.front ((number, stops.bad) ∷ stops.rest) in
    stops.outside (IsFront-of (front ++ stops.bad ∷ []) rest work.lines is.lines (append_assoc front (stops.bad ∷ []) rest ∙ sym texts ∙ is.text))
no_work bytes number work is (inr none) =
    let texts : [] ≡ spelled work.lines = sym (ap texts_of none.0) ∙ is.text in
    absurd cc

pub only_work : (bytes : List ℕ) (result : Result Work WorkFault) → IfOk result (IsWork bytes) → IfErr result (IsWorkFault bytes)
    → (work : Work) → IsWork bytes work → MatchResult result (λ found. found ≡ work) IsNoMemory
only_work bytes (Ok found) ok err work is = same_work bytes found work ok is
only_work bytes (Err NoMemory) ok err work is = tt
only_work bytes (Err (BadWork line)) ok err work is = absurd (no_work bytes line work is err)
