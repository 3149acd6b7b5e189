-- Declared prefixes, as the code compares them.
use Rattle.std.proofs.Common.{◌≡◌, ℕ, Bool, true, false, cond, ◌||◌, ◌==◌, ◌⊎◌, List, [], ◌∷◌, ◌++◌, Option, Some, None, refl, sym, ap, ◌∙◌, inl, inr}
use Rattle.std.specs.Prelude.{nat_eq}
use Rattle.std.specs.List.{list_all}
use Rattle.std.specs.Cmp.Lexicographic.{pointwise}
use Rattle.std.proofs.lemmas.Bool.{and_parts, or_cases, or_left, or_right, cond-true, cond-false}
use Rattle.term_core.specs.Characters.{is_base_character}
use Rattle.query_text.specs.declared.class.Declaration.{Declaration as Declared}
use Rattle.query_text.specs.Characters.{begins_name, continues_variable, continues_name}
use Rattle.query_text.specs.Tokens.{Token, IsPrefix, IsPrefixedName}
use Rattle.query_text.specs.Grammar.{Declaration, IsResolved, iri_for, or_else}
use Rattle.query_text.specs.Parsing.{prefix_at, local_at, is_declared, same_characters}
use Rattle.query_text.specs.Saying.{AreDeclared}
use Rattle.query_text.proofs.Choices.{other_than}

abbrev in_prefix : ℕ → Bool
in_prefix d = continues_name d || d == 46

colon_apart : in_prefix 58 ≡ false
unfolding continues_name continues_variable begins_name is_base_character
colon_apart = refl

base_apart : is_base_character 58 ≡ false
unfolding is_base_character
base_apart = refl

prefix_of_more : (letters behind : List ℕ) → list_all in_prefix letters ≡ true → prefix_at (letters ++ 58 ∷ behind) ≡ letters
prefix_of_more [] behind h = refl
prefix_of_more (c ∷ letters) behind h =
    let parts = and_parts (in_prefix c) (list_all in_prefix letters) h in
    cond-false (c == 58) [] (c ∷ prefix_at (letters ++ 58 ∷ behind)) (other_than in_prefix 58 c colon_apart parts.0)
    ∙ ap (λ (x : List ℕ). c ∷ x) (prefix_of_more letters behind parts.1)

local_of_more : (letters behind : List ℕ) → list_all in_prefix letters ≡ true → local_at (letters ++ 58 ∷ behind) ≡ behind
local_of_more [] behind h = refl
local_of_more (c ∷ letters) behind h =
    let parts = and_parts (in_prefix c) (list_all in_prefix letters) h in
    cond-false (c == 58) (letters ++ 58 ∷ behind) (local_at (letters ++ 58 ∷ behind)) (other_than in_prefix 58 c colon_apart parts.0)
    ∙ local_of_more letters behind parts.1

prefix_of : (before behind : List ℕ) → IsPrefix before → (prefix_at (before ++ 58 ∷ behind) ≡ before) × (local_at (before ++ 58 ∷ behind) ≡ behind)
prefix_of [] behind h = (refl, refl)
prefix_of (c ∷ letters) behind (inl none) = absurd cc
prefix_of (c ∷ letters) behind (inr h) =
    let apart = other_than is_base_character 58 c base_apart h.0 in (
      cond-false (c == 58) [] (c ∷ prefix_at (letters ++ 58 ∷ behind)) apart ∙ ap (λ (x : List ℕ). c ∷ x) (prefix_of_more letters behind h.1),
      cond-false (c == 58) (letters ++ 58 ∷ behind) (local_at (letters ++ 58 ∷ behind)) apart ∙ local_of_more letters behind h.1,
    )

-- the prefix of a prefixed name, and what its local part is made of
pub prefix_is : (characters «prefix» local : List ℕ) → IsPrefixedName characters «prefix» local → prefix_at characters ≡ «prefix»
prefix_is characters «prefix» local h = ap prefix_at h.spelled ∙ (prefix_of h.before h.behind h.before_is).0 ∙ sym h.prefix_is

pub local_is : (characters «prefix» local : List ℕ) (h : IsPrefixedName characters «prefix» local) → local_at characters ≡ h.behind
local_is characters «prefix» local h = ap local_at h.spelled ∙ (prefix_of h.before h.behind h.before_is).1

-- a prefix that has an IRI is declared
pub declared_from : (rs : List Declared) (ds : List Declaration) (name base : List ℕ) → AreDeclared rs ds → iri_for ds name ≡ Some base → is_declared rs name ≡ true
declared_from [] [] name base h e = absurd cc
declared_from [] (d ∷ ds) name base h e = absurd h
declared_from (r ∷ rs) [] name base h e = absurd h
declared_from (r ∷ rs) (d ∷ ds) name base h e =
    by (iri_for ds name) (pointwise nat_eq d.«prefix» name) refl refl e (λ b k. declared_from rs ds name b h.2 k)
  where
    same : same_characters (prefix_at r.name.characters.now) name ≡ pointwise nat_eq d.«prefix» name
    same = ap (λ (x : List ℕ). pointwise nat_eq x name) (prefix_is r.name.characters.now d.«prefix» [] h.0.is)

    by : (found : Option (List ℕ)) (here : Bool) → iri_for ds name ≡ found → pointwise nat_eq d.«prefix» name ≡ here
        → or_else found (cond here (Some d.iri) None) ≡ Some base → ((b : List ℕ) → iri_for ds name ≡ Some b → is_declared rs name ≡ true)
        → (same_characters (prefix_at r.name.characters.now) name || is_declared rs name) ≡ true
    by (Some b) here p q k again = or_right (same_characters (prefix_at r.name.characters.now) name) (is_declared rs name) (again b p)
    by None true p q k again = or_left (same_characters (prefix_at r.name.characters.now) name) (is_declared rs name) (same ∙ q)
    by None false p q k again = absurd cc

pub record HasIri (ds : List Declaration) (name : List ℕ) : Type 0 where
  pub base : List ℕ
  pub is : iri_for ds name ≡ Some base

-- and the other way round
pub iri_from : (rs : List Declared) (ds : List Declaration) (name : List ℕ) → AreDeclared rs ds → is_declared rs name ≡ true → HasIri ds name
iri_from [] ds name h e = absurd cc
iri_from (r ∷ rs) [] name h e = absurd h
iri_from (r ∷ rs) (d ∷ ds) name h e =
    by (iri_for ds name) (pointwise nat_eq d.«prefix» name) refl refl (or_cases (same_characters (prefix_at r.name.characters.now) name) (is_declared rs name) e)
    (λ k. iri_from rs ds name h.2 k)
  where
    same : same_characters (prefix_at r.name.characters.now) name ≡ pointwise nat_eq d.«prefix» name
    same = ap (λ (x : List ℕ). pointwise nat_eq x name) (prefix_is r.name.characters.now d.«prefix» [] h.0.is)

    by : (found : Option (List ℕ)) (here : Bool) → iri_for ds name ≡ found → pointwise nat_eq d.«prefix» name ≡ here
        → (same_characters (prefix_at r.name.characters.now) name ≡ true) ⊎ (is_declared rs name ≡ true) → (is_declared rs name ≡ true → HasIri ds name)
        → HasIri (d ∷ ds) name
    by (Some b) here p q k again = record { base = b; is = ap (λ (x : Option (List ℕ)). or_else x (cond (pointwise nat_eq d.«prefix» name) (Some d.iri) None)) p }
    by None true p q k again = record {
      base = d.iri;
      is = ap (λ (x : Option (List ℕ)). or_else x (cond (pointwise nat_eq d.«prefix» name) (Some d.iri) None)) p ∙ cond-true (pointwise nat_eq d.«prefix» name) (Some d.iri) None q;
    }
    by None false p q (inl k) again = let wrong : true ≡ false = sym k ∙ same ∙ q in absurd cc
    by None false p q (inr k) again = let r = again k in let wrong : None ≡ Some r.base = sym p ∙ r.is in absurd cc

pub resolved_declared : (rs : List Declared) (ds : List Declaration) (token : Token) (iri : List ℕ) → AreDeclared rs ds → IsResolved ds token iri
    → is_declared rs (prefix_at token.characters) ≡ true
resolved_declared rs ds token iri h r =
    ap (is_declared rs) (prefix_is token.characters r.«prefix» r.local r.name_is.is) ∙ declared_from rs ds r.«prefix» r.base h r.declared
