-- Variables, labels, words and prefixed names, character by character.
use Rattle.std.proofs.lemmas.Bool.Decides.{nat_tests}
use Rattle.std.proofs.Common.{◌≡◌, ℕ, arith, Bool, true, false, cond, ◌||◌, ◌==◌, ◌⊎◌, List, [], ◌∷◌, ◌++◌, Option, Some, None, refl, sym, ap, ◌∙◌, inl, inr}
use Rattle.std.specs.List.{list_all}
use Rattle.std.proofs.lemmas.Bool.{and_parts, and_from, eqb-true}
use Rattle.term_core.specs.Characters.{is_digit, is_base_character}
use Rattle.query_text.specs.declared.kind.TokenKind.{TokenKind}
use Rattle.query_text.specs.declared.kind.TokenKind.TheVariants as kinds
use Rattle.query_text.specs.declared.name_scan.NameScan.{NameScan}
use Rattle.query_text.specs.declared.name_scan.NameScan.TheVariants as names
use Rattle.query_text.specs.Characters.{begins_name, continues_variable, continues_name, continues_word}
use Rattle.query_text.specs.Tokens.{is_name, IsDotted, IsLocal}
use Rattle.query_text.specs.Scanning.{name_advance, name_accepted, begins_variable, begins_local, continues_local, label, local, prefix_dot, prefix_end}
use Rattle.query_text.proofs.Choices.{split, only, when_true, when_false, other_than}
use Rattle.query_text.proofs.Dotted.{dotted, dotted_takes, dotted_again}

abbrev pub name_run : Option NameScan → List ℕ → Option TokenKind
name_run None cs = None
name_run (Some scan) [] = name_accepted scan
name_run (Some scan) (c ∷ cs) = name_run (name_advance scan c) cs

abbrev on : List ℕ → Option NameScan → Option TokenKind
on cs scan = name_run scan cs

-- ---- variables

variable_takes : (cs : List ℕ) (kind : TokenKind) → name_run (Some names.Variable) cs ≡ Some kind → (kind ≡ kinds.Var) × (list_all continues_variable cs ≡ true)
variable_takes [] kind h = (cc, refl)
variable_takes (c ∷ cs) kind h =
    let step = only (on cs) (continues_variable c) names.Variable kind refl h in
    let rest = variable_takes cs kind step.1 in
    (rest.0, and_from (continues_variable c) (list_all continues_variable cs) step.0 rest.1)

variable_again : (cs : List ℕ) → list_all continues_variable cs ≡ true → name_run (Some names.Variable) cs ≡ Some kinds.Var
variable_again [] h = refl
variable_again (c ∷ cs) h =
    let parts = and_parts (continues_variable c) (list_all continues_variable cs) h in
    when_true (on cs) (continues_variable c) (Some names.Variable) None parts.0 ∙ variable_again cs parts.1

abbrev pub IsVariableRest : List ℕ → Type 0
IsVariableRest cs = is_name (λ c. begins_name c || is_digit c) continues_variable cs ≡ true

abbrev pub MarkEnds : Bool → TokenKind → List ℕ → Type 0
MarkEnds question kind cs = (question ≡ true) × (kind ≡ kinds.Symbol) × (cs ≡ [])

question_takes : (question : Bool) (kind : TokenKind) → cond question (Some kinds.Symbol) None ≡ Some kind → (question ≡ true) × (kind ≡ kinds.Symbol)
question_takes true kind h = (refl, cc)
question_takes false kind h = absurd cc

pub mark_takes : (question : Bool) (cs : List ℕ) (kind : TokenKind) → name_run (Some (names.Mark question)) cs ≡ Some kind
    → ((kind ≡ kinds.Var) × IsVariableRest cs) ⊎ MarkEnds question kind cs
mark_takes question [] kind h = let q = question_takes question kind h in inr (q.0, q.1, refl)
mark_takes question (c ∷ cs) kind h =
    let step = only (on cs) (begins_variable c) names.Variable kind refl h in
    let rest = variable_takes cs kind step.1 in
    inl (rest.0, and_from (begins_variable c) (list_all continues_variable cs) step.0 rest.1)

pub mark_again : (question : Bool) (cs : List ℕ) → IsVariableRest cs → name_run (Some (names.Mark question)) cs ≡ Some kinds.Var
mark_again question [] h = absurd cc
mark_again question (c ∷ cs) h =
    let parts = and_parts (begins_variable c) (list_all continues_variable cs) h in
    when_true (on cs) (begins_variable c) (Some names.Variable) None parts.0 ∙ variable_again cs parts.1

-- ---- labels and local parts

abbrev label_state : Bool → NameScan
label_state true = names.LabelDot
label_state false = names.Label

abbrev local_state : Bool → NameScan
local_state true = names.LocalDot
local_state false = names.Local

label_run : (cs : List ℕ) (dot : Bool) → name_run (Some (label_state dot)) cs ≡ cond (dotted continues_name dot cs) (Some kinds.Label) None
label_run [] true = refl
label_run [] false = refl
label_run (c ∷ cs) dot = from dot ∙ by (c == 46) (continues_name c) (label_run cs)
  where
    from : (d : Bool) → name_run (Some (label_state d)) (c ∷ cs) ≡ name_run (label c) cs
    from true = refl
    from false = refl

    by : (is_dot is_in : Bool) → ((d : Bool) → name_run (Some (label_state d)) cs ≡ cond (dotted continues_name d cs) (Some kinds.Label) None)
        → name_run (cond is_dot (Some names.LabelDot) (cond is_in (Some names.Label) None)) cs
        ≡ cond (cond is_dot (dotted continues_name true cs) (cond is_in (dotted continues_name false cs) false)) (Some kinds.Label) None
    by true is_in again = again true
    by false true again = again false
    by false false again = refl

local_run : (cs : List ℕ) (dot : Bool) → name_run (Some (local_state dot)) cs ≡ cond (dotted continues_local dot cs) (Some kinds.PrefixName) None
local_run [] true = refl
local_run [] false = refl
local_run (c ∷ cs) dot = from dot ∙ by (c == 46) (continues_local c) (local_run cs)
  where
    from : (d : Bool) → name_run (Some (local_state d)) (c ∷ cs) ≡ name_run (local c) cs
    from true = refl
    from false = refl

    by : (is_dot is_in : Bool) → ((d : Bool) → name_run (Some (local_state d)) cs ≡ cond (dotted continues_local d cs) (Some kinds.PrefixName) None)
        → name_run (cond is_dot (Some names.LocalDot) (cond is_in (Some names.Local) None)) cs
        ≡ cond (cond is_dot (dotted continues_local true cs) (cond is_in (dotted continues_local false cs) false)) (Some kinds.PrefixName) None
    by true is_in again = again true
    by false true again = again false
    by false false again = refl

some_of : (test : Bool) (a kind : TokenKind) → cond test (Some a) None ≡ Some kind → (test ≡ true) × (kind ≡ a)
some_of true a kind h = (refl, cc)
some_of false a kind h = absurd cc

some_from : (test : Bool) (a : TokenKind) → test ≡ true → cond test (Some a) None ≡ Some a
some_from true a h = refl
some_from false a h = absurd cc

pub record IsLabelRest (cs : List ℕ) : Type 0 where
  pub letters : List ℕ
  pub spelled : cs ≡ 58 ∷ letters
  pub are : IsDotted (λ c. begins_name c || is_digit c) continues_name letters

blank_takes : (cs : List ℕ) (kind : TokenKind) → name_run (Some names.BlankNode) cs ≡ Some kind
    → (kind ≡ kinds.Label) × IsDotted (λ c. begins_name c || is_digit c) continues_name cs
blank_takes [] kind h = absurd cc
blank_takes (c ∷ cs) kind h =
    let step = only (on cs) (begins_variable c) names.Label kind refl h in
    let rest = some_of (dotted continues_name false cs) kinds.Label kind (sym (label_run cs false) ∙ step.1) in
    (rest.1, dotted_takes (λ d. begins_name d || is_digit d) continues_name c cs step.0 rest.0)

blank_again : (cs : List ℕ) → IsDotted (λ c. begins_name c || is_digit c) continues_name cs → name_run (Some names.BlankNode) cs ≡ Some kinds.Label
blank_again [] h = absurd h
blank_again (c ∷ cs) h =
    let parts = dotted_again (λ d. begins_name d || is_digit d) continues_name c cs h in
    when_true (on cs) (begins_variable c) (Some names.Label) None parts.0 ∙ label_run cs false ∙ some_from (dotted continues_name false cs) kinds.Label parts.1

pub underscore_takes : (cs : List ℕ) (kind : TokenKind) → name_run (Some names.Underscore) cs ≡ Some kind → (kind ≡ kinds.Label) × IsLabelRest cs
underscore_takes [] kind h = absurd cc
underscore_takes (c ∷ cs) kind h =
    let step = only (on cs) (c == 58) names.BlankNode kind refl h in
    let rest = blank_takes cs kind step.1 in
    (rest.0, record { letters = cs; spelled = ap (λ (x : ℕ). x ∷ cs) (eqb-true c 58 step.0); are = rest.1 })

pub underscore_again : (letters : List ℕ) → IsDotted (λ c. begins_name c || is_digit c) continues_name letters
    → name_run (Some names.Underscore) (58 ∷ letters) ≡ Some kinds.Label
underscore_again letters h = blank_again letters h

pub colon_takes : (cs : List ℕ) (kind : TokenKind) → name_run (Some names.Colon) cs ≡ Some kind → (kind ≡ kinds.PrefixName) × IsLocal cs
colon_takes [] kind h = (cc, inl refl)
colon_takes (c ∷ cs) kind h =
    let step = only (on cs) (begins_local c) names.Local kind refl h in
    let rest = some_of (dotted continues_local false cs) kinds.PrefixName kind (sym (local_run cs false) ∙ step.1) in
    (rest.1, inr (dotted_takes begins_local continues_local c cs step.0 rest.0))

pub colon_again : (cs : List ℕ) → IsLocal cs → name_run (Some names.Colon) cs ≡ Some kinds.PrefixName
colon_again [] h = refl
colon_again (c ∷ cs) (inl none) = absurd cc
colon_again (c ∷ cs) (inr h) =
    let parts = dotted_again begins_local continues_local c cs h in
    when_true (on cs) (begins_local c) (Some names.Local) None parts.0 ∙ local_run cs false ∙ some_from (dotted continues_local false cs) kinds.PrefixName parts.1

-- ---- prefixes and words

-- the rest of a prefix whose last character was a dot or not, the colon and the local part
pub record IsPrefixRest (dot : Bool) (cs : List ℕ) : Type 0 where
  pub before : List ℕ
  pub behind : List ℕ
  pub spelled : cs ≡ before ++ 58 ∷ behind
  pub before_is : dotted continues_name dot before ≡ true
  pub behind_is : IsLocal behind

no_colon : continues_name 58 ≡ false
unfolding continues_name continues_variable begins_name is_base_character
no_colon = refl

abbrev prefix_state : Bool → NameScan
prefix_state true = names.PrefixDot
prefix_state false = names.Prefix

-- one more character of the prefix
longer : (c : ℕ) (cs : List ℕ) (dot next : Bool) → IsPrefixRest next cs
    → ((before : List ℕ) → dotted continues_name next before ≡ true → dotted continues_name dot (c ∷ before) ≡ true) → IsPrefixRest dot (c ∷ cs)
longer c cs dot next r step = record {
  before = c ∷ r.before;
  behind = r.behind;
  spelled = ap (λ (x : List ℕ). c ∷ x) r.spelled;
  before_is = step r.before r.before_is;
  behind_is = r.behind_is;
}

with_dot : (c : ℕ) (dot : Bool) → (c == 46) ≡ true → (before : List ℕ) → dotted continues_name true before ≡ true → dotted continues_name dot (c ∷ before) ≡ true
with_dot c dot p before h =
    when_true (λ (x : Bool). x) (c == 46) (dotted continues_name true before) (cond (continues_name c) (dotted continues_name false before) false) p ∙ h

with_other : (c : ℕ) (dot : Bool) → (c == 46) ≡ false → continues_name c ≡ true → (before : List ℕ) → dotted continues_name false before ≡ true
    → dotted continues_name dot (c ∷ before) ≡ true
with_other c dot p q before h =
    when_false (λ (x : Bool). x) (c == 46) (dotted continues_name true before) (cond (continues_name c) (dotted continues_name false before) false) p
    ∙ when_true (λ (x : Bool). x) (continues_name c) (dotted continues_name false before) false q ∙ h

-- what is known of the characters behind
abbrev Again : List ℕ → TokenKind → Type 0
Again cs kind = (d : Bool) → name_run (Some (prefix_state d)) cs ≡ Some kind → (kind ≡ kinds.PrefixName) × IsPrefixRest d cs

prefix_inner : (c : ℕ) (cs : List ℕ) (dot : Bool) (kind : TokenKind) → name_run (prefix_dot c) cs ≡ Some kind → Again cs kind
    → (kind ≡ kinds.PrefixName) × IsPrefixRest dot (c ∷ cs)
prefix_inner c cs dot kind e again =
    elim (split (on cs) (c == 46) (Some names.PrefixDot) (cond (continues_name c) (Some names.Prefix) None) (Some kind) e) [
      | inl (p, r) ↦ let rest = again true r in (rest.0, longer c cs dot true rest.1 (with_dot c dot p))
      | inr (p, r) ↦
          let step = only (on cs) (continues_name c) names.Prefix kind refl r in
          let rest = again false step.1 in
          (rest.0, longer c cs dot false rest.1 (with_other c dot p step.0))
    ]

prefix_ended : (c : ℕ) (cs : List ℕ) (kind : TokenKind) → name_run (prefix_end c) cs ≡ Some kind → Again cs kind
    → (kind ≡ kinds.PrefixName) × IsPrefixRest false (c ∷ cs)
prefix_ended c cs kind e again =
    elim (split (on cs) (c == 58) (Some names.Colon) (prefix_dot c) (Some kind) e) [
      | inl (p, r) ↦
          let rest = colon_takes cs kind r in
          (rest.0, record { before = []; behind = cs; spelled = ap (λ (x : ℕ). x ∷ cs) (eqb-true c 58 p); before_is = refl; behind_is = rest.1 })
      | inr (p, r) ↦ prefix_inner c cs false kind r again
    ]

prefix_start : (c : ℕ) (cs : List ℕ) (dot : Bool) (kind : TokenKind) → name_run (Some (prefix_state dot)) (c ∷ cs) ≡ Some kind → Again cs kind
    → (kind ≡ kinds.PrefixName) × IsPrefixRest dot (c ∷ cs)
prefix_start c cs true kind e again = prefix_inner c cs true kind e again
prefix_start c cs false kind e again = prefix_ended c cs kind e again

pub prefix_takes : (cs : List ℕ) (dot : Bool) (kind : TokenKind) → name_run (Some (prefix_state dot)) cs ≡ Some kind → (kind ≡ kinds.PrefixName) × IsPrefixRest dot cs
prefix_takes [] true kind h = absurd cc
prefix_takes [] false kind h = absurd cc
prefix_takes (c ∷ cs) dot kind h = prefix_start c cs dot kind h (λ d e. prefix_takes cs d kind e)

no_colon_in : (c : ℕ) → continues_name c ≡ true → (c == 58) ≡ false
no_colon_in c h = other_than continues_name 58 c no_colon h

prefix_more : (c : ℕ) (rest : List ℕ) (dot dots others : Bool) → cond (c == 46) dots (cond (continues_name c) others false) ≡ true
    → (dots ≡ true → name_run (Some names.PrefixDot) rest ≡ Some kinds.PrefixName)
    → (others ≡ true → name_run (Some names.Prefix) rest ≡ Some kinds.PrefixName)
    → name_run (Some (prefix_state dot)) (c ∷ rest) ≡ Some kinds.PrefixName
prefix_more c rest dot dots others h behind_dot behind_other = from dot (by (c == 46) (continues_name c) refl refl h)
  where
    by : (is_dot is_in : Bool) → (c == 46) ≡ is_dot → continues_name c ≡ is_in → cond is_dot dots (cond is_in others false) ≡ true
        → ((c == 58) ≡ false) × (name_run (cond is_dot (Some names.PrefixDot) (cond is_in (Some names.Prefix) None)) rest ≡ Some kinds.PrefixName)
    by true is_in p q e = (ap (λ (x : ℕ). x == 58) (eqb-true c 46 p), behind_dot e)
    by false true p q e = (no_colon_in c q, behind_other e)
    by false false p q e = absurd cc

    from : (d : Bool) → ((c == 58) ≡ false) × (name_run (prefix_dot c) rest ≡ Some kinds.PrefixName) → name_run (Some (prefix_state d)) (c ∷ rest) ≡ Some kinds.PrefixName
    from true e = e.1
    from false e = when_false (on rest) (c == 58) (Some names.Colon) (prefix_dot c) e.0 ∙ e.1

pub prefix_again : (before behind : List ℕ) (dot : Bool) → dotted continues_name dot before ≡ true → IsLocal behind
    → name_run (Some (prefix_state dot)) (before ++ 58 ∷ behind) ≡ Some kinds.PrefixName
prefix_again [] behind true h local = absurd cc
prefix_again [] behind false h local = colon_again behind local
prefix_again (c ∷ before) behind dot h local =
    prefix_more c (before ++ 58 ∷ behind) dot (dotted continues_name true before) (dotted continues_name false before) h
    (λ e. prefix_again before behind true e local) (λ e. prefix_again before behind false e local)

-- ---- words

pub word_in_name : (c : ℕ) → continues_word c ≡ true → ((c == 46) ≡ false) × (continues_name c ≡ true)
unfolding continues_name continues_variable begins_name is_base_character
word_in_name c h = (other_than continues_word 46 c refl h, grind (arith, nat_tests))

pub word_takes : (cs : List ℕ) (kind : TokenKind) → name_run (Some names.Word) cs ≡ Some kind
    → ((kind ≡ kinds.Word) × (list_all continues_word cs ≡ true)) ⊎ ((kind ≡ kinds.PrefixName) × IsPrefixRest false cs)
word_takes [] kind h = inl (cc, refl)
word_takes (c ∷ cs) kind h =
    elim (split (on cs) (continues_word c) (Some names.Word) (prefix_end c) (Some kind) h) [
      | inl (p, r) ↦ elim (word_takes cs kind r) [
        | inl (k, each) ↦ inl (k, and_from (continues_word c) (list_all continues_word cs) p each)
        | inr (k, rest) ↦ let both = word_in_name c p in inr (k, longer c cs false false rest (with_other c false both.0 both.1))
      ]
      | inr (p, r) ↦ inr (prefix_ended c cs kind r (λ d e. prefix_takes cs d kind e))
    ]

pub word_again : (cs : List ℕ) → list_all continues_word cs ≡ true → name_run (Some names.Word) cs ≡ Some kinds.Word
word_again [] h = refl
word_again (c ∷ cs) h =
    let parts = and_parts (continues_word c) (list_all continues_word cs) h in
    when_true (on cs) (continues_word c) (Some names.Word) (prefix_end c) parts.0 ∙ word_again cs parts.1

word_step : (c : ℕ) (rest : List ℕ) (in_word : Bool) → continues_word c ≡ in_word
    → (in_word ≡ true → name_run (Some names.Word) rest ≡ Some kinds.PrefixName) → name_run (prefix_end c) rest ≡ Some kinds.PrefixName
    → name_run (Some names.Word) (c ∷ rest) ≡ Some kinds.PrefixName
word_step c rest true p inner other = when_true (on rest) (continues_word c) (Some names.Word) (prefix_end c) p ∙ inner refl
word_step c rest false p inner other = when_false (on rest) (continues_word c) (Some names.Word) (prefix_end c) p ∙ other

behind_word : (c : ℕ) (before : List ℕ) → continues_word c ≡ true → dotted continues_name false (c ∷ before) ≡ true → dotted continues_name false before ≡ true
behind_word c before p h =
    let both = word_in_name c p in
    sym (when_false (λ (x : Bool). x) (c == 46) (dotted continues_name true before) (cond (continues_name c) (dotted continues_name false before) false) both.0
    ∙ when_true (λ (x : Bool). x) (continues_name c) (dotted continues_name false before) false both.1) ∙ h

pub word_prefix_again : (before behind : List ℕ) → dotted continues_name false before ≡ true → IsLocal behind
    → name_run (Some names.Word) (before ++ 58 ∷ behind) ≡ Some kinds.PrefixName
word_prefix_again [] behind h local = colon_again behind local
word_prefix_again (c ∷ before) behind h local =
    word_step c (before ++ 58 ∷ behind) (continues_word c) refl (λ p. word_prefix_again before behind (behind_word c before p h) local)
    (prefix_again (c ∷ before) behind false h local)
