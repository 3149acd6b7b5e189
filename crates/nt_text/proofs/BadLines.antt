-- The bad lines of a document: a fault has its cause, and the first bad line is one.
use Rattle.std.proofs.Common.{◌≡◌, ℕ, ◌+◌, ◌≤◌, ◌⊎◌, List, [], ◌∷◌, ◌++◌, length, length-append, Option, Some, None, Err, refl, sym, ap, subst, ◌∙◌, inl, inr, arith}
use Rattle.std.specs.List.{AllByRecursion}
use Rattle.std.specs.Option.{option_to_list}
use Rattle.std.proofs.lemmas.Option.{same_Some}
use Rattle.base_core.specs.declared.lines.LineEnd.TheVariants.{Any}
use Rattle.term_core.specs.declared.statement.Statement.{Statement}
use Rattle.base_core.specs.Lines.{lines_of}
use Rattle.nt_text.specs.declared.document.DocFault.{DocFault}
use Rattle.nt_text.specs.declared.document.DocFault.TheVariants as faults
use Rattle.nt_text.specs.Document.{Brings, AreLinesOf, IsDocument}
use Rattle.nt_text.specs.Faults.{IsNoMemory, IsNoMemoryOr, IsLine, IsOutside, IsTooLong, IsTooMany, IsBadLine, IsFirstBadLine, IsDocumentFault}
use Rattle.nt_text.specs.Limits.{HasShortTerms, AreWithinLimits}
use Rattle.nt_text.specs.Reading.{IsRead, line_at}
use Rattle.nt_text.proofs.Documents.{SoFar, AreLinesOf-same, brought_same, IsCutAt, cut_at, All-parts}
use Rattle.nt_text.proofs.Triples.{line_takes, line_again}

-- ---- a fault has its cause

bad_line : (bytes rest : List ℕ) (number : ℕ) (first : Option ℕ) (statements : List Statement) (line behind : List ℕ)
    → SoFar bytes rest number first statements → lines_of Any rest ≡ line ∷ lines_of Any behind → IsLine bytes (number + 1) statements line
bad_line bytes rest number first statements line behind h cut = record {
  front = h.front;
  rest = lines_of Any behind;
  cut = h.cut ∙ ap (λ (x : List (List ℕ)). h.front ++ x) cut;
  place = ap (λ (n : ℕ). n + 1) h.place;
  good = h.good;
  within = h.within;
}

-- the fault of a line has its cause
pub fault_cause : (bytes rest : List ℕ) (number : ℕ) (first : Option ℕ) (statements : List Statement) (line behind : List ℕ) (count : ℕ) (fault : DocFault)
    → SoFar bytes rest number first statements → lines_of Any rest ≡ line ∷ lines_of Any behind → count ≡ length statements
    → IsRead (number + 1) count (Err fault) (line_at line) → IsDocumentFault bytes fault
fault_cause bytes rest number first statements line behind count faults.NoMemory h cut counted read = inl tt
fault_cause bytes rest number first statements line behind count (faults.Line n) h cut counted read =
    let outside : IsOutside line = λ brought brings. let again : line_at line ≡ Some brought = line_again line brought brings in let none = read.0 in cc in
    inr (subst (λ (k : ℕ). IsBadLine bytes k (λ s. IsOutside)) (sym read.1) (statements, line, bad_line bytes rest number first statements line behind h cut, outside))
fault_cause bytes rest number first statements line behind count (faults.TooLong n) h cut counted read =
    let is : IsTooLong line = (read.0.0, line_takes line (Some read.0.0) read.0.1, read.0.2) in
    inr (subst (λ (k : ℕ). IsBadLine bytes k (λ s. IsTooLong)) (sym read.1) (statements, line, bad_line bytes rest number first statements line behind h cut, is))
fault_cause bytes rest number first statements line behind count (faults.TooMany n) h cut counted read =
    let full = read.0.3 in
    let few = h.within.few in
    let is : IsTooMany statements line = (read.0.0, line_takes line (Some read.0.0) read.0.1, read.0.2, omega arith) in
    inr (subst (λ (k : ℕ). IsBadLine bytes k IsTooMany) (sym read.1) (statements, line, bad_line bytes rest number first statements line behind h cut, is))

-- ---- no document within limits has a bad line

-- what the fault calls bad about a line behind these statements
abbrev IsBad : DocFault → List Statement → List ℕ → Type 0
IsBad faults.NoMemory statements line = ⊥
IsBad (faults.Line n) statements line = IsOutside line
IsBad (faults.TooLong n) statements line = IsTooLong line
IsBad (faults.TooMany n) statements line = IsTooMany statements line

-- a line that stands among lines within limits is not bad
not_among : (fault : DocFault) (statements others : List Statement) (front : List (List ℕ)) (line : List ℕ) (rest : List (List ℕ)) → IsBad fault statements line
    → AreLinesOf front statements → AreLinesOf (front ++ line ∷ rest) others → AreWithinLimits others → ⊥
not_among faults.NoMemory statements others front line rest bad good all within = bad
not_among (faults.Line n) statements others front line rest bad good all within =
    let k = cut_at front line rest others all in
    bad k.brought k.brings
not_among (faults.TooLong n) statements others front line rest bad good all within =
    let k = cut_at front line rest others all in
    let same : k.brought ≡ Some bad.0 = brought_same line k.brought (Some bad.0) k.brings bad.1 in
    let whole : others ≡ k.before ++ (bad.0 ∷ k.others) = k.whole ∙ ap (λ (x : Option Statement). k.before ++ (option_to_list x ++ k.others)) same in
    let short = All-parts HasShortTerms k.before (bad.0 ∷ k.others) (subst (λ (x : List Statement). AllByRecursion HasShortTerms x) whole within.short) in
    bad.2 short.1.0
not_among (faults.TooMany n) statements others front line rest bad good all within =
    let k = cut_at front line rest others all in
    let same : k.brought ≡ Some bad.0 = brought_same line k.brought (Some bad.0) k.brings bad.1 in
    let whole : others ≡ k.before ++ (bad.0 ∷ k.others) = k.whole ∙ ap (λ (x : Option Statement). k.before ++ (option_to_list x ++ k.others)) same in
    let before : k.before ≡ statements = AreLinesOf-same front k.before statements k.said good in
    let count = bad.3 in
    let few = within.few in
    omega (arith, ap (length {A = Statement}) whole, length-append k.before (bad.0 ∷ k.others), ap (length {A = Statement}) before)

-- the parts of a first bad line
record IsBadAt (bytes : List ℕ) (fault : DocFault) (number : ℕ) : Type 0 where
  statements : List Statement
  line : List ℕ
  at : IsLine bytes number statements line
  bad : IsBad fault statements line

abbrev line_number : DocFault → ℕ
line_number faults.NoMemory = 0
line_number (faults.Line n) = n
line_number (faults.TooLong n) = n
line_number (faults.TooMany n) = n

bad_at : (bytes : List ℕ) (fault : DocFault) → IsFirstBadLine bytes fault → IsBadAt bytes fault (line_number fault)
bad_at bytes faults.NoMemory h = absurd h
bad_at bytes (faults.Line n) h = record { statements = h.0; line = h.1; at = h.2; bad = h.3 }
bad_at bytes (faults.TooLong n) h = record { statements = h.0; line = h.1; at = h.2; bad = h.3 }
bad_at bytes (faults.TooMany n) h = record { statements = h.0; line = h.1; at = h.2; bad = h.3 }

pub no_bad_line : (bytes : List ℕ) (fault : DocFault) (others : List Statement) → IsFirstBadLine bytes fault → IsDocument bytes others → AreWithinLimits others → ⊥
no_bad_line bytes fault others h document within =
    let k = bad_at bytes fault h in
    not_among fault k.statements others k.at.front k.line k.at.rest k.bad k.at.good (subst (λ (lines : List (List ℕ)). AreLinesOf lines others) k.at.cut document) within

-- so that only want of memory refuses one
pub fault_only : (bytes : List ℕ) (fault : DocFault) (others : List Statement) → IsDocumentFault bytes fault → IsDocument bytes others → AreWithinLimits others → IsNoMemory fault
fault_only bytes fault others (inl memory) document within = memory
fault_only bytes fault others (inr h) document within = absurd (no_bad_line bytes fault others h document within)

-- ---- the first bad line is one

-- two cuts of a list are the same, or one stands in the front of the other
data AreCuts (xs : List (List ℕ)) (x : List ℕ) (ys : List (List ℕ)) (y : List ℕ) : Type 0 where
  together : xs ≡ ys → x ≡ y → AreCuts xs x ys y
  before : (more : List (List ℕ)) → ys ≡ xs ++ x ∷ more → AreCuts xs x ys y
  behind : (more : List (List ℕ)) → xs ≡ ys ++ y ∷ more → AreCuts xs x ys y

head_same : {A : Type 0} {x y : A} {xs ys : List A} → x ∷ xs ≡ y ∷ ys → x ≡ y
head_same e = cc

tail_same : {A : Type 0} {x y : A} {xs ys : List A} → x ∷ xs ≡ y ∷ ys → xs ≡ ys
tail_same e = cc

cons_same : {x y : List ℕ} {xs ys : List (List ℕ)} → x ≡ y → xs ≡ ys → x ∷ xs ≡ y ∷ ys
cons_same e h = cc

cuts : (xs : List (List ℕ)) (x : List ℕ) (us ys : List (List ℕ)) (y : List ℕ) (vs : List (List ℕ)) → xs ++ x ∷ us ≡ ys ++ y ∷ vs → AreCuts xs x ys y
cuts [] x us [] y vs e = together refl (head_same e)
cuts [] x us (z ∷ ys) y vs e = before ys (cons_same (sym (head_same e)) refl)
cuts (w ∷ xs) x us [] y vs e = behind xs (cons_same (head_same e) refl)
cuts (w ∷ xs) x us (z ∷ ys) y vs e =
    elim (cuts xs x us ys y vs (tail_same e)) [
      | together same line ↦ together (cons_same (head_same e) same) line
      | before more is ↦ before more (cons_same (sym (head_same e)) is)
      | behind more is ↦ behind more (cons_same (head_same e) is)
    ]

-- of one line behind the same statements one thing is bad
one_bad : (a b : DocFault) (statements : List Statement) (line : List ℕ) → IsBad a statements line → IsBad b statements line → line_number a ≡ line_number b → a ≡ b
one_bad faults.NoMemory b statements line h k e = absurd h
one_bad (faults.Line n) faults.NoMemory statements line h k e = absurd k
one_bad (faults.Line n) (faults.Line m) statements line h k e = ap (λ (x : ℕ). faults.Line x) e
one_bad (faults.Line n) (faults.TooLong m) statements line h k e = absurd (h (Some k.0) k.1)
one_bad (faults.Line n) (faults.TooMany m) statements line h k e = absurd (h (Some k.0) k.1)
one_bad (faults.TooLong n) faults.NoMemory statements line h k e = absurd k
one_bad (faults.TooLong n) (faults.Line m) statements line h k e = absurd (k (Some h.0) h.1)
one_bad (faults.TooLong n) (faults.TooLong m) statements line h k e = ap (λ (x : ℕ). faults.TooLong x) e
one_bad (faults.TooLong n) (faults.TooMany m) statements line h k e =
    let same : k.0 ≡ h.0 = same_Some k.0 h.0 (brought_same line (Some k.0) (Some h.0) k.1 h.1) in
    absurd (h.2 (subst HasShortTerms same k.2))
one_bad (faults.TooMany n) faults.NoMemory statements line h k e = absurd k
one_bad (faults.TooMany n) (faults.Line m) statements line h k e = absurd (k (Some h.0) h.1)
one_bad (faults.TooMany n) (faults.TooLong m) statements line h k e =
    let same : h.0 ≡ k.0 = same_Some h.0 k.0 (brought_same line (Some h.0) (Some k.0) h.1 k.1) in
    absurd (k.2 (subst HasShortTerms same h.2))
one_bad (faults.TooMany n) (faults.TooMany m) statements line h k e = ap (λ (x : ℕ). faults.TooMany x) e

-- a bad line stands in no good front
not_in_front : (fault : DocFault) (statements others : List Statement) (front ys : List (List ℕ)) (line : List ℕ) (more : List (List ℕ)) → IsBad fault statements line
    → AreLinesOf front statements → ys ≡ front ++ line ∷ more → AreLinesOf ys others → AreWithinLimits others → ⊥
not_in_front fault statements others front ys line more bad good is all within =
    not_among fault statements others front line more bad good (subst (λ (lines : List (List ℕ)). AreLinesOf lines others) is all) within

pub first_bad_same : (bytes : List ℕ) (a b : DocFault) → IsFirstBadLine bytes a → IsFirstBadLine bytes b → a ≡ b
first_bad_same bytes a b h k =
    let p = bad_at bytes a h in
    let q = bad_at bytes b k in
    elim (cuts p.at.front p.line p.at.rest q.at.front q.line q.at.rest (sym p.at.cut ∙ q.at.cut)) [
      | together fronts lines ↦
          let statements : q.statements ≡ p.statements =
          AreLinesOf-same p.at.front q.statements p.statements (subst (λ (x : List (List ℕ)). AreLinesOf x q.statements) (sym fronts) q.at.good) p.at.good in
          let bad : IsBad b p.statements p.line =
          subst (λ (x : List ℕ). IsBad b p.statements x) (sym lines) (subst (λ (x : List Statement). IsBad b x q.line) statements q.bad) in
          let numbers : line_number a ≡ line_number b = p.at.place ∙ ap (λ (x : List (List ℕ)). length x + 1) fronts ∙ sym q.at.place in
          one_bad a b p.statements p.line p.bad bad numbers
      | before more is ↦ absurd (not_in_front a p.statements q.statements p.at.front q.at.front p.line more p.bad p.at.good is q.at.good q.at.within)
      | behind more is ↦ absurd (not_in_front b q.statements p.statements q.at.front p.at.front q.line more q.bad q.at.good is p.at.good p.at.within)
    ]

-- a fault that was found is the one that is there, or memory ran out
pub fault_is : (bytes : List ℕ) (found fault : DocFault) → IsDocumentFault bytes found → IsFirstBadLine bytes fault → IsNoMemoryOr fault found
fault_is bytes found fault (inl memory) h = inl memory
fault_is bytes found fault (inr is) h = inr (first_bad_same bytes found fault is h)
