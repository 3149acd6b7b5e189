-- Documents, from their lines.
use Rattle.std.proofs.Common.{◌≡◌, ℕ, ◌+◌, ◌<◌, ◌≤◌, ◌⊎◌, Bool, true, false, cond, List, [], ◌∷◌, ◌++◌, length, length-append, Option, Some, None, Ok, Err, refl, sym, ap, subst, ◌∙◌, append_assoc, inl, inr, arith}
use Rattle.std.specs.List.{AllByRecursion}
use Rattle.std.specs.Option.{option_to_list}
use Rattle.std.proofs.lemmas.Bool.{or_cases, or_left, or_right}
use Rattle.std.proofs.lemmas.List.{append-nil, length_push}
use Rattle.std.proofs.lemmas.Option.{same_Some}
use Rattle.base_core.specs.declared.lines.LineEnd.TheVariants.{Any}
use Rattle.term_core.specs.declared.statement.Statement.{Statement}
use Rattle.term_core.specs.declared.term.Term.{Term}
use Rattle.term_core.specs.declared.term.Term.TheVariants.{Iri, Literal, Tagged, Blank}
use Rattle.base_core.specs.Lines.{lines_of}
use Rattle.term_core.specs.Term.{IsStatement}
use Rattle.nt_text.specs.Document.{Brings, AreLinesOf, IsDocument, IsBlankNode, HasLabel, IsFirstLabel, HasNoBlankNode, HasNoTimes}
use Rattle.nt_text.specs.Limits.{HasShortTerms, AreWithinLimits}
use Rattle.nt_text.specs.Reading.{IsRead, line_at, noted_label, has_blank_node, is_blank_node}
use Rattle.nt_text.proofs.Statements.{IsStatement-from_triple, HasNoTimes-from_triple}
use Rattle.nt_text.proofs.Triples.{line_takes, line_again}

-- one line more
AreLinesOf-push : (lines : List (List ℕ)) (statements : List Statement) (line : List ℕ) (brought : Option Statement)
    → AreLinesOf lines statements → Brings line brought → AreLinesOf (lines ++ line ∷ []) (statements ++ option_to_list brought)
AreLinesOf-push [] statements line brought h last =
    (brought, [], last, refl, ap (λ (x : List Statement). x ++ option_to_list brought) h ∙ sym (append-nil (option_to_list brought)))
AreLinesOf-push (x ∷ lines) statements line brought h last = (
  h.0,
  h.1 ++ option_to_list brought,
  h.2,
  AreLinesOf-push lines h.1 line brought h.3 last,
  ap (λ (y : List Statement). y ++ option_to_list brought) h.4 ∙ append_assoc (option_to_list h.0) h.1 (option_to_list brought),
)

pub brought_same : (line : List ℕ) (x y : Option Statement) → Brings line x → Brings line y → x ≡ y
brought_same line x y h k = same_Some x y (sym (line_again line x h) ∙ line_again line y k)

-- lines say one thing only
pub AreLinesOf-same : (lines : List (List ℕ)) (xs ys : List Statement) → AreLinesOf lines xs → AreLinesOf lines ys → xs ≡ ys
AreLinesOf-same [] xs ys h k = h ∙ sym k
AreLinesOf-same (line ∷ lines) xs ys h k =
    h.4 ∙ ap (λ (x : Option Statement). option_to_list x ++ h.1) (brought_same line h.0 k.0 h.2 k.2)
    ∙ ap (λ (others : List Statement). option_to_list k.0 ++ others) (AreLinesOf-same lines h.1 k.1 h.3 k.3) ∙ sym k.4

-- what lines say, at a line among them
pub record IsCutAt (front : List (List ℕ)) (line : List ℕ) (rest : List (List ℕ)) (statements : List Statement) : Type 0 where
  pub before : List Statement
  pub brought : Option Statement
  pub others : List Statement
  pub said : AreLinesOf front before
  pub brings : Brings line brought
  pub whole : statements ≡ before ++ (option_to_list brought ++ others)

pub cut_at : (front : List (List ℕ)) (line : List ℕ) (rest : List (List ℕ)) (statements : List Statement) → AreLinesOf (front ++ line ∷ rest) statements
    → IsCutAt front line rest statements
cut_at [] line rest statements h = record { before = []; brought = h.0; others = h.1; said = refl; brings = h.2; whole = h.4 }
cut_at (x ∷ front) line rest statements h =
    let k = cut_at front line rest h.1 h.3 in record {
      before = option_to_list h.0 ++ k.before;
      brought = k.brought;
      others = k.others;
      said = (h.0, k.before, h.2, k.said, refl);
      brings = k.brings;
      whole = h.4 ∙ ap (λ (y : List Statement). option_to_list h.0 ++ y) k.whole
          ∙ sym (append_assoc (option_to_list h.0) k.before (option_to_list k.brought ++ k.others));
    }

-- ---- what holds of each statement

All-append : (P : Statement → Type 0) (xs ys : List Statement) → AllByRecursion P xs → AllByRecursion P ys → AllByRecursion P (xs ++ ys)
All-append P [] ys h k = k
All-append P (x ∷ xs) ys h k = (h.0, All-append P xs ys h.1 k)

pub All-parts : (P : Statement → Type 0) (xs ys : List Statement) → AllByRecursion P (xs ++ ys) → AllByRecursion P xs × AllByRecursion P ys
All-parts P [] ys h = (tt, h)
All-parts P (x ∷ xs) ys h = let rest = All-parts P xs ys h.1 in ((h.0, rest.0), rest.1)

-- what lines say are statements, where none is too long
pub IsStatement-from_lines : (lines : List (List ℕ)) (statements : List Statement) → AreLinesOf lines statements → AllByRecursion HasShortTerms statements
    → AllByRecursion IsStatement statements
IsStatement-from_lines [] statements h short = subst (λ (x : List Statement). AllByRecursion IsStatement x) (sym h) tt
IsStatement-from_lines (line ∷ lines) statements h short =
    let parts = All-parts HasShortTerms (option_to_list h.0) h.1 (subst (λ (x : List Statement). AllByRecursion HasShortTerms x) h.4 short) in
    subst (λ (x : List Statement). AllByRecursion IsStatement x) (sym h.4)
    (All-append IsStatement (option_to_list h.0) h.1 (first h.0 h.2 parts.0) (IsStatement-from_lines lines h.1 h.3 parts.1))
  where
    first : (brought : Option Statement) → Brings line brought → AllByRecursion HasShortTerms (option_to_list brought) → AllByRecursion IsStatement (option_to_list brought)
    first None b s = tt
    first (Some statement) b s = (IsStatement-from_triple line statement b s.0, tt)

-- and their blank nodes have no time
pub HasNoTimes-from_lines : (lines : List (List ℕ)) (statements : List Statement) → AreLinesOf lines statements → AllByRecursion HasNoTimes statements
HasNoTimes-from_lines [] statements h = subst (λ (x : List Statement). AllByRecursion HasNoTimes x) (sym h) tt
HasNoTimes-from_lines (line ∷ lines) statements h =
    subst (λ (x : List Statement). AllByRecursion HasNoTimes x) (sym h.4)
    (All-append HasNoTimes (option_to_list h.0) h.1 (first h.0 h.2) (HasNoTimes-from_lines lines h.1 h.3))
  where
    first : (brought : Option Statement) → Brings line brought → AllByRecursion HasNoTimes (option_to_list brought)
    first None b = tt
    first (Some statement) b = (HasNoTimes-from_triple line statement b, tt)

-- ---- the first blank node

-- where no line has a blank node, no statement has one
pub HasNoBlankNode-from_lines : (lines : List (List ℕ)) (number : ℕ) (statements : List Statement) → AreLinesOf lines statements → IsFirstLabel lines number None
    → AllByRecursion HasNoBlankNode statements
HasNoBlankNode-from_lines [] number statements h none = subst (λ (x : List Statement). AllByRecursion HasNoBlankNode x) (sym h) tt
HasNoBlankNode-from_lines (line ∷ lines) number statements h (inl found) = absurd (no_label number found.1)
  where
    no_label : (n : ℕ) → None ≡ Some n → ⊥
    no_label n e = cc
HasNoBlankNode-from_lines (line ∷ lines) number statements h (inr (none, behind)) =
    subst (λ (x : List Statement). AllByRecursion HasNoBlankNode x) (sym h.4)
    (All-append HasNoBlankNode (option_to_list h.0) h.1 (first h.0 h.2) (HasNoBlankNode-from_lines lines (number + 1) h.1 h.3 behind))
  where
    first : (brought : Option Statement) → Brings line brought → AllByRecursion HasNoBlankNode (option_to_list brought)
    first None b = tt
    first (Some statement) b = ((λ subject. none (statement, b, inl subject), λ object. none (statement, b, inr object)), tt)

blank_takes : (term : Term) → is_blank_node term ≡ true → IsBlankNode term
blank_takes (Iri iri) h = absurd cc
blank_takes (Literal form datatype) h = absurd cc
blank_takes (Tagged form tag) h = absurd cc
blank_takes (Blank at label) h = tt

blank_again : (term : Term) → IsBlankNode term → is_blank_node term ≡ true
blank_again (Iri iri) h = absurd h
blank_again (Literal form datatype) h = absurd h
blank_again (Tagged form tag) h = absurd h
blank_again (Blank at label) h = refl

has_label : (line : List ℕ) (statement : Statement) → Brings line (Some statement) → has_blank_node statement ≡ true → HasLabel line
has_label line statement brings h = (
  statement,
  brings,
  elim (or_cases (is_blank_node statement.subject) (is_blank_node statement.object) h) [
    | inl subject ↦ inl (blank_takes statement.subject subject)
    | inr object ↦ inr (blank_takes statement.object object)
  ],
)

has_blank : (statement : Statement) → IsBlankNode statement.subject ⊎ IsBlankNode statement.object → has_blank_node statement ≡ true
has_blank statement h =
    elim h [
      | inl subject ↦ or_left (is_blank_node statement.subject) (is_blank_node statement.object) (blank_again statement.subject subject)
      | inr object ↦ or_right (is_blank_node statement.subject) (is_blank_node statement.object) (blank_again statement.object object)
    ]

no_label : (line : List ℕ) (brought : Option Statement) → Brings line brought → ((statement : Statement) → brought ≡ Some statement → has_blank_node statement ≡ false)
    → HasLabel line → ⊥
no_label line brought brings none h =
    let same : brought ≡ Some h.0 = brought_same line brought (Some h.0) brings h.1 in
    let is : has_blank_node h.0 ≡ true = has_blank h.0 h.2 in
    let is_none : has_blank_node h.0 ≡ false = none h.0 same in
    absurd cc

-- where no line so far has one, the rest decides; and else it is decided
abbrev pub IsLabelSoFar : List ℕ → List ℕ → ℕ → Option ℕ → Type 0
IsLabelSoFar bytes rest number None =
    (first : Option ℕ) → IsFirstLabel (lines_of Any rest) (number + 1) first → IsFirstLabel (lines_of Any bytes) 1 first
IsLabelSoFar bytes rest number (Some first) = IsFirstLabel (lines_of Any bytes) 1 (Some first)

label_start : (bytes : List ℕ) → IsLabelSoFar bytes bytes 0 None
label_start bytes = λ first h. h

label_more : (bytes rest : List ℕ) (number : ℕ) (first : Option ℕ) (line behind : List ℕ) (brought : Option Statement)
    → IsLabelSoFar bytes rest number first → lines_of Any rest ≡ line ∷ lines_of Any behind → Brings line brought
    → IsLabelSoFar bytes behind (number + 1) (noted_label first brought (number + 1))
label_more bytes rest number (Some first) line behind brought h cut brings = h
label_more bytes rest number None line behind None h cut brings =
    λ first k. h first (subst (λ (lines : List (List ℕ)). IsFirstLabel lines (number + 1) first) (sym cut)
    (inr (no_label line None brings (λ statement e. absurd cc), k)))
label_more bytes rest number None line behind (Some statement) h cut brings = by (has_blank_node statement) refl
  where
    by : (blank : Bool) → has_blank_node statement ≡ blank → IsLabelSoFar bytes behind (number + 1) (cond blank (Some (number + 1)) None)
    by true e =
        h (Some (number + 1)) (subst (λ (lines : List (List ℕ)). IsFirstLabel lines (number + 1) (Some (number + 1))) (sym cut) (inl (has_label line statement brings e, refl)))
    by false e =
        λ first k. h first (subst (λ (lines : List (List ℕ)). IsFirstLabel lines (number + 1) first) (sym cut)
        (inr (no_label line (Some statement) brings (λ other same. ap has_blank_node (same_Some other statement (sym same)) ∙ e), k)))

label_end : (bytes rest : List ℕ) (number : ℕ) (first : Option ℕ) → IsLabelSoFar bytes rest number first → rest ≡ [] → IsFirstLabel (lines_of Any bytes) 1 first
label_end bytes rest number None h nothing =
    h None (subst (λ (x : List ℕ). IsFirstLabel (lines_of Any x) (number + 1) None) (sym nothing) refl)
label_end bytes rest number (Some first) h nothing = h

-- ---- the loop over the lines

-- of the bytes, so many lines are read, and they say this; the rest is still to come
pub record SoFar (bytes rest : List ℕ) (number : ℕ) (first : Option ℕ) (statements : List Statement) : Type 0 where
  pub front : List (List ℕ)
  pub cut : lines_of Any bytes ≡ front ++ lines_of Any rest
  pub place : number ≡ length front
  pub good : AreLinesOf front statements
  pub within : AreWithinLimits statements
  pub label : IsLabelSoFar bytes rest number first
  pub fits : number + length rest ≤ length bytes

pub SoFar-start : (bytes : List ℕ) → SoFar bytes bytes 0 None []
SoFar-start bytes = record {
  front = [];
  cut = refl;
  place = refl;
  good = refl;
  within = record { short = tt; few = omega arith };
  label = label_start bytes;
  fits = omega arith;
}

within_more : (number : ℕ) (statements : List Statement) (brought : Option Statement) (read : Option (Option Statement)) → AreWithinLimits statements
    → IsRead number (length statements) (Ok brought) read → AreWithinLimits (statements ++ option_to_list brought)
within_more number statements None read h is = subst (λ (x : List Statement). AreWithinLimits x) (sym (append-nil statements)) h
within_more number statements (Some statement) read h is = record {
  short = All-append HasShortTerms statements (statement ∷ []) h.short (is.1, tt);
  few = let below = is.2 in omega (arith, length-append statements (statement ∷ []));
}

was_read : (number count : ℕ) (brought : Option Statement) (read : Option (Option Statement)) → IsRead number count (Ok brought) read → read ≡ Some brought
was_read number count None read h = h
was_read number count (Some statement) read h = h.0

pub SoFar-more : (bytes rest : List ℕ) (number : ℕ) (first : Option ℕ) (statements : List Statement) (line behind : List ℕ) (brought : Option Statement) (count : ℕ)
    → SoFar bytes rest number first statements → lines_of Any rest ≡ line ∷ lines_of Any behind → length behind < length rest → count ≡ length statements
    → IsRead (number + 1) count (Ok brought) (line_at line)
    → SoFar bytes behind (number + 1) (noted_label first brought (number + 1)) (statements ++ option_to_list brought)
SoFar-more bytes rest number first statements line behind brought count h cut shorter counted read =
    let read_here : IsRead (number + 1) (length statements) (Ok brought) (line_at line) = subst (λ (n : ℕ). IsRead (number + 1) n (Ok brought) (line_at line)) counted read in
    let brings = line_takes line brought (was_read (number + 1) count brought (line_at line) read) in record {
      front = h.front ++ line ∷ [];
      cut = h.cut ∙ ap (λ (x : List (List ℕ)). h.front ++ x) cut ∙ sym (append_assoc h.front (line ∷ []) (lines_of Any behind));
      place = ap (λ (n : ℕ). n + 1) h.place ∙ sym (length_push h.front line);
      good = AreLinesOf-push h.front statements line brought h.good brings;
      within = within_more (number + 1) statements brought (line_at line) h.within read_here;
      label = label_more bytes rest number first line behind brought h.label cut brings;
      fits = let fits = h.fits in omega arith;
    }

pub record IsWhole (bytes : List ℕ) (first : Option ℕ) (statements : List Statement) : Type 0 where
  pub document : IsDocument bytes statements
  pub label : IsFirstLabel (lines_of Any bytes) 1 first
  pub within : AreWithinLimits statements

pub SoFar-end : (bytes rest : List ℕ) (number : ℕ) (first : Option ℕ) (statements : List Statement) → SoFar bytes rest number first statements → rest ≡ []
    → IsWhole bytes first statements
SoFar-end bytes rest number first statements h nothing =
    let all : lines_of Any bytes ≡ h.front = h.cut ∙ ap (λ (x : List ℕ). h.front ++ lines_of Any x) nothing ∙ append-nil h.front in record {
      document = subst (λ (lines : List (List ℕ)). AreLinesOf lines statements) (sym all) h.good;
      label = label_end bytes rest number first h.label nothing;
      within = h.within;
    }
