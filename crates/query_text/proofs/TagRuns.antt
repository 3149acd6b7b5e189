-- Language tags, character by character.
use Rattle.std.proofs.lemmas.Bool.Decides.{nat_tests}
use Rattle.std.proofs.Common.{◌≡◌, ◌≢◌, ℕ, arith, Bool, true, false, cond, ◌||◌, ◌==◌, List, [], ◌∷◌, ◌++◌, map, Option, Some, None, refl, sym, ap, ◌∙◌, inl, inr}
use Rattle.std.specs.Char.{to_ascii_lowercase}
use Rattle.std.specs.List.{list_all, flat_map, AllByRecursion}
use Rattle.std.proofs.lemmas.Bool.{and_parts, and_from, eqb-true, eq-eqb}
use Rattle.term_core.specs.Characters.{is_digit, is_letter, is_lower_letter}
use Rattle.term_core.specs.Term.{IsGroup, IsTag}
use Rattle.query_text.specs.declared.kind.TokenKind.{TokenKind}
use Rattle.query_text.specs.declared.kind.TokenKind.TheVariants as kinds
use Rattle.query_text.specs.declared.tag_scan.TagScan.{TagScan}
use Rattle.query_text.specs.declared.tag_scan.TagScan.TheVariants as tags
use Rattle.query_text.specs.Scanning.{tag_advance, tag_accepted, is_tag_character}
use Rattle.query_text.proofs.Choices.{split, only, when_true, when_false}

abbrev pub tag_run : Option TagScan → List ℕ → Option TokenKind
tag_run None cs = None
tag_run (Some scan) [] = tag_accepted scan
tag_run (Some scan) (c ∷ cs) = tag_run (tag_advance scan c) cs

abbrev on : List ℕ → Option TagScan → Option TokenKind
on cs scan = tag_run scan cs

-- in the language or in a later group, at its start or not
abbrev state : Bool → Bool → TagScan
state true false = tags.At
state true true = tags.Language
state false false = tags.Hyphen
state false true = tags.Subtag

abbrev goes_on : Bool → ℕ → Bool
goes_on true c = is_letter c
goes_on false c = is_tag_character c

abbrev is_of_group : Bool → ℕ → Bool
is_of_group true c = is_lower_letter c
is_of_group false c = is_lower_letter c || is_digit c

lower_of_group : (first : Bool) (c : ℕ) → goes_on first c ≡ true → is_of_group first (to_ascii_lowercase c) ≡ true
lower_of_group true c h = grind (arith, nat_tests)
lower_of_group false c h = grind (arith, nat_tests)

written_of_group : (first : Bool) (c : ℕ) → is_of_group first (to_ascii_lowercase c) ≡ true → goes_on first c ≡ true
written_of_group true c h = grind (arith, nat_tests)
written_of_group false c h = grind (arith, nat_tests)

hyphen_goes_on : (first : Bool) (c : ℕ) → c ≡ 45 → goes_on first c ≡ false
hyphen_goes_on true c h = grind (arith, nat_tests)
hyphen_goes_on false c h = grind (arith, nat_tests)

lower_hyphen : (c : ℕ) → to_ascii_lowercase c ≡ 45 → c ≡ 45
lower_hyphen c h = grind (arith, nat_tests)

abbrev behind_hyphen : List ℕ → List ℕ
behind_hyphen subtag = 45 ∷ subtag

abbrev IsSubtag : List ℕ → Type 0
IsSubtag = IsGroup (λ c. is_lower_letter c || is_digit c)

record IsTagRest (first filled : Bool) (cs : List ℕ) : Type 0 where
  group : List ℕ
  subtags : List (List ℕ)
  spelled : map to_ascii_lowercase cs ≡ group ++ flat_map behind_hyphen subtags
  each : list_all (is_of_group first) group ≡ true
  some : filled ≡ false → group ≢ []
  groups : AllByRecursion IsSubtag subtags

abbrev hyphen_next : Bool → ℕ → Option TagScan
hyphen_next filled c = cond filled (cond (c == 45) (Some tags.Hyphen) None) None

-- one character more
steps : (first filled : Bool) (c : ℕ) (cs : List ℕ)
    → tag_run (Some (state first filled)) (c ∷ cs) ≡ tag_run (cond (goes_on first c) (Some (state first true)) (hyphen_next filled c)) cs
steps true true c cs = refl
steps true false c cs = refl
steps false true c cs = refl
steps false false c cs = refl

ended : (first filled : Bool) (kind : TokenKind) → tag_run (Some (state first filled)) [] ≡ Some kind → (kind ≡ kinds.Langtag) × IsTagRest first filled []
ended true true kind h = (cc, record { group = []; subtags = []; spelled = refl; each = refl; some = λ e. absurd cc; groups = tt })
ended false true kind h = (cc, record { group = []; subtags = []; spelled = refl; each = refl; some = λ e. absurd cc; groups = tt })
ended true false kind h = absurd cc
ended false false kind h = absurd cc

longer : (first filled : Bool) (c : ℕ) (cs : List ℕ) → goes_on first c ≡ true → IsTagRest first true cs → IsTagRest first filled (c ∷ cs)
longer first filled c cs h r = record {
  group = to_ascii_lowercase c ∷ r.group;
  subtags = r.subtags;
  spelled = ap (λ (x : List ℕ). to_ascii_lowercase c ∷ x) r.spelled;
  each = and_from (is_of_group first (to_ascii_lowercase c)) (list_all (is_of_group first) r.group) (lower_of_group first c h) r.each;
  some = λ e f. absurd cc;
  groups = r.groups;
}

another : (first : Bool) (c : ℕ) (cs : List ℕ) → c ≡ 45 → IsTagRest false false cs → IsTagRest first true (c ∷ cs)
another first c cs h r = record {
  group = [];
  subtags = r.group ∷ r.subtags;
  spelled = ap (λ (x : ℕ). to_ascii_lowercase x ∷ map to_ascii_lowercase cs) h ∙ ap (λ (x : List ℕ). 45 ∷ x) r.spelled;
  each = refl;
  some = λ e. absurd cc;
  groups = ((r.some refl, r.each), r.groups);
}

hyphen_takes : (first filled : Bool) (c : ℕ) (cs : List ℕ) (kind : TokenKind) → tag_run (hyphen_next filled c) cs ≡ Some kind
    → (tag_run (Some tags.Hyphen) cs ≡ Some kind → (kind ≡ kinds.Langtag) × IsTagRest false false cs)
    → (kind ≡ kinds.Langtag) × IsTagRest first filled (c ∷ cs)
hyphen_takes first true c cs kind h again =
    let step = only (on cs) (c == 45) tags.Hyphen kind refl h in
    let rest = again step.1 in
    (rest.0, another first c cs (eqb-true c 45 step.0) rest.1)
hyphen_takes first false c cs kind h again = absurd cc

rest_takes : (cs : List ℕ) (first filled : Bool) (kind : TokenKind) → tag_run (Some (state first filled)) cs ≡ Some kind
    → (kind ≡ kinds.Langtag) × IsTagRest first filled cs
rest_takes [] first filled kind h = ended first filled kind h
rest_takes (c ∷ cs) first filled kind h =
    elim (split (on cs) (goes_on first c) (Some (state first true)) (hyphen_next filled c) (Some kind) (sym (steps first filled c cs) ∙ h)) [
      | inl (p, r) ↦ let rest = rest_takes cs first true kind r in (rest.0, longer first filled c cs p rest.1)
      | inr (p, r) ↦ hyphen_takes first filled c cs kind r (rest_takes cs false false kind)
    ]

pub at_takes : (cs : List ℕ) (kind : TokenKind) → tag_run (Some tags.At) cs ≡ Some kind → (kind ≡ kinds.Langtag) × IsTag (map to_ascii_lowercase cs)
at_takes cs kind h =
    let rest = rest_takes cs true false kind h in
    let r = rest.1 in
    (rest.0, record { language = r.group; subtags = r.subtags; spelled = r.spelled; letters = (r.some refl, r.each); groups = r.groups })

-- ---- a tag is read

filled_ends : (first : Bool) → tag_run (Some (state first true)) [] ≡ Some kinds.Langtag
filled_ends true = refl
filled_ends false = refl

rest_again : (cs : List ℕ) (first filled : Bool) (group : List ℕ) (subtags : List (List ℕ))
    → map to_ascii_lowercase cs ≡ group ++ flat_map behind_hyphen subtags → list_all (is_of_group first) group ≡ true
    → (filled ≡ false → group ≢ []) → AllByRecursion IsSubtag subtags → tag_run (Some (state first filled)) cs ≡ Some kinds.Langtag
rest_again [] first true group subtags spelled each some groups = filled_ends first
rest_again [] first false [] subtags spelled each some groups = absurd (some refl refl)
rest_again [] first false (g ∷ group) subtags spelled each some groups = absurd cc
rest_again (c ∷ cs) first true [] [] spelled each some groups = absurd cc
rest_again (c ∷ cs) first false [] subtags spelled each some groups = absurd (some refl refl)
rest_again (c ∷ cs) first true [] (s ∷ ss) spelled each some groups =
    let lower : to_ascii_lowercase c ≡ 45 = cc in
    let rest : map to_ascii_lowercase cs ≡ s ++ flat_map behind_hyphen ss = cc in
    let is : c ≡ 45 = lower_hyphen c lower in
    steps first true c cs
    ∙ when_false (on cs) (goes_on first c) (Some (state first true)) (hyphen_next true c) (hyphen_goes_on first c is)
    ∙ when_true (on cs) (c == 45) (Some tags.Hyphen) None (eq-eqb c 45 is)
    ∙ rest_again cs false false s ss rest groups.0.1 (λ e. groups.0.0) groups.1
rest_again (c ∷ cs) first filled (g ∷ group) subtags spelled each some groups =
    let lower : to_ascii_lowercase c ≡ g = cc in
    let rest : map to_ascii_lowercase cs ≡ group ++ flat_map behind_hyphen subtags = cc in
    let parts = and_parts (is_of_group first g) (list_all (is_of_group first) group) each in
    let of_group : is_of_group first (to_ascii_lowercase c) ≡ true = ap (is_of_group first) lower ∙ parts.0 in
    steps first filled c cs
    ∙ when_true (on cs) (goes_on first c) (Some (state first true)) (hyphen_next filled c) (written_of_group first c of_group)
    ∙ rest_again cs first true group subtags rest parts.1 (λ e. absurd cc) groups

pub at_again : (cs : List ℕ) → IsTag (map to_ascii_lowercase cs) → tag_run (Some tags.At) cs ≡ Some kinds.Langtag
at_again cs h = rest_again cs true false h.language h.subtags h.spelled h.letters.1 (λ e. h.letters.0) h.groups
