-- A tag by its groups.
use Rattle.std.proofs.Common.{◌≡◌, ◌≢◌, ℕ, zero, suc, ◌<◌, ◌+◌, ◌-◌, Bool, true, false, cond, not, ◌&&◌, ◌||◌, ◌==◌, ◌↔◌, List, [], ◌∷◌, ◌++◌, length, get_or, refl, sym, ap, subst, ◌∙◌, arith, length-append}
use Rattle.std.specs.List.{list_all, flat_map, slice_split, onto_first, All, AllByRecursion}
use Rattle.std.specs.Str.{IsUtf8}
use Rattle.std.proofs.lemmas.Bool.{and_parts, and_from, eqb-true, ne_eqb, not_from_false}
use Rattle.std.proofs.lemmas.Bool.Decides.{nat_tests}
use Rattle.std.proofs.lemmas.List.{append-nil, get_or-append_right}
use Rattle.std.proofs.lemmas.List.Splits.{slice_split_none, slice_split_at}
use Rattle.std.proofs.lemmas.Str.{IsUtf8-nil, IsUtf8-append, IsUtf8-from_ascii}
use Rattle.term_core.specs.Characters.{is_digit, is_lower_letter}
use Rattle.term_core.specs.Term.{IsGroup, IsTag}
use Rattle.term_core.specs.Decoding.{is_group}

abbrev pub is_subtag_byte : ℕ → Bool
is_subtag_byte b = is_lower_letter b || is_digit b

abbrev pub behind_hyphen : List ℕ → List ℕ
behind_hyphen subtag = 45 ∷ subtag

abbrev pub is_hyphen : ℕ → Bool
is_hyphen b = b == 45

-- ---- groups

pub group_is : (class : ℕ → Bool) (group : List ℕ) → is_group class group ≡ true → IsGroup class group
group_is class [] e = absurd cc
group_is class (b ∷ group) e = (λ none. cc, (and_parts (not (length (b ∷ group) == 0)) (list_all class (b ∷ group)) e).1)

pub is_group_from : (class : ℕ → Bool) (group : List ℕ) → IsGroup class group → is_group class group ≡ true
is_group_from class [] h = absurd (h.0 refl)
is_group_from class (b ∷ group) h =
    let some : (length (b ∷ group) == 0) ≡ false = ne_eqb (length (b ∷ group)) 0 (λ e. omega arith) in
    and_from (not (length (b ∷ group) == 0)) (list_all class (b ∷ group)) (not_from_false _ some) h.1

-- the answer of a test that found some bytes
pub group_of_all : (class : ℕ → Bool) (group : List ℕ) (empty all : Bool) → empty ≡ (length group == 0) → empty ≡ false → all ≡ list_all class group
    → all ≡ is_group class group
group_of_all class group empty all is some e =
    e ∙ ap (λ b. not b && list_all class group) (sym some ∙ is)

groups_are : (class : ℕ → Bool) (groups : List (List ℕ)) → list_all (is_group class) groups ≡ true → AllByRecursion (IsGroup class) groups
groups_are class [] e = tt
groups_are class (group ∷ groups) e =
    let h = and_parts (is_group class group) (list_all (is_group class) groups) e in
    (group_is class group h.0, groups_are class groups h.1)

groups_from : (class : ℕ → Bool) (groups : List (List ℕ)) → AllByRecursion (IsGroup class) groups → list_all (is_group class) groups ≡ true
groups_from class [] h = refl
groups_from class (group ∷ groups) h =
    and_from (is_group class group) (list_all (is_group class) groups) (is_group_from class group h.0) (groups_from class groups h.1)

-- ---- no hyphen stands in a group

letter_no_hyphen : (b : ℕ) → is_lower_letter b ≡ true → b ≢ 45
letter_no_hyphen b e = grind (arith, nat_tests)

subtag_no_hyphen : (b : ℕ) → is_subtag_byte b ≡ true → b ≢ 45
subtag_no_hyphen b e = grind (arith, nat_tests)

none_at : (class : ℕ → Bool) → ((b : ℕ) → class b ≡ true → b ≢ 45) → (group : List ℕ) → list_all class group ≡ true → (i : ℕ) (d : ℕ) → i < length group → get_or group i d ≢ 45
none_at class isnt [] e i d below = absurd (omega arith)
none_at class isnt (b ∷ group) e zero d below = isnt b (and_parts (class b) (list_all class group) e).0
none_at class isnt (b ∷ group) e (suc i) d below = none_at class isnt group (and_parts (class b) (list_all class group) e).1 i d (omega arith)

-- ---- the groups behind the language

onto_group : (b : ℕ) (groups : List (List ℕ)) (bytes : List ℕ) → flat_map behind_hyphen groups ≡ 45 ∷ bytes
    → flat_map behind_hyphen (onto_first b groups) ≡ 45 ∷ b ∷ bytes
onto_group b [] bytes e = absurd cc
onto_group b (group ∷ groups) bytes e = ap (λ l. 45 ∷ b ∷ l) (tail_same e)
  where
    tail_same : {xs ys : List ℕ} → 45 ∷ xs ≡ 45 ∷ ys → xs ≡ ys
    tail_same p = cc

-- what is cut at its hyphens is spelled by its groups
pub groups_spell : (bytes : List ℕ) → flat_map behind_hyphen (slice_split is_hyphen bytes) ≡ 45 ∷ bytes
groups_spell [] = refl
groups_spell (b ∷ bytes) =
    (elim (is_hyphen b) as (λ v. is_hyphen b ≡ v → flat_map behind_hyphen (cond v ([] ∷ slice_split is_hyphen bytes) (onto_first b (slice_split is_hyphen bytes))) ≡ 45 ∷ b ∷ bytes) [
      | true ↦ λ e. ap (λ l. 45 ∷ l) (groups_spell bytes) ∙ ap (λ c. 45 ∷ c ∷ bytes) (sym (eqb-true b 45 e))
      | false ↦ λ e. onto_group b (slice_split is_hyphen bytes) bytes (groups_spell bytes)
    ]) refl

-- a group has no hyphen
unhyphened : (group : List ℕ) → IsGroup is_subtag_byte group → All (λ b. is_hyphen b ≡ false) group
unhyphened group h i d below = ne_eqb (get_or group i d) 45 (none_at is_subtag_byte subtag_no_hyphen group h.1 i d below)

-- and groups are found again
groups_again : (group : List ℕ) (groups : List (List ℕ)) → IsGroup is_subtag_byte group → AllByRecursion (IsGroup is_subtag_byte) groups
    → slice_split is_hyphen (group ++ flat_map behind_hyphen groups) ≡ group ∷ groups
groups_again group [] h hs = ap (slice_split is_hyphen) (append-nil group) ∙ slice_split_none is_hyphen group (unhyphened group h)
groups_again group (next ∷ groups) h hs =
    slice_split_at is_hyphen group 45 (next ++ flat_map behind_hyphen groups) (unhyphened group h) refl
    ∙ ap (λ l. group ∷ l) (groups_again next groups hs.0 hs.1)

-- ---- tags

hyphen_at : (front behind : List ℕ) → get_or (front ++ 45 ∷ behind) (length front) 0 ≡ 45
hyphen_at front behind =
    let none : length front - length front ≡ 0 = omega arith in
    get_or-append_right front (45 ∷ behind) (length front) (length front) 0 refl (omega arith) ∙ ap (λ k. get_or (45 ∷ behind) k 0) none

abbrev pub HasNoHyphen : List ℕ → Type 0
HasNoHyphen text = (i : ℕ) → i < length text → get_or text i 0 ≢ 45

hyphen_inside : (text front behind : List ℕ) → HasNoHyphen text → text ≡ front ++ 45 ∷ behind → ⊥
hyphen_inside text front behind none e =
    let long : length text ≡ length front + length (45 ∷ behind) = ap length e ∙ length-append front (45 ∷ behind) in
    none (length front) (omega arith) (ap (λ l. get_or l (length front) 0) e ∙ hyphen_at front behind)

language_unhyphened : (language : List ℕ) → IsGroup is_lower_letter language → HasNoHyphen language
language_unhyphened language h i below = none_at is_lower_letter letter_no_hyphen language h.1 i 0 below

-- a text without a hyphen is a tag where it is a language
language_of : (text language : List ℕ) (subtags : List (List ℕ)) → HasNoHyphen text → text ≡ language ++ flat_map behind_hyphen subtags → language ≡ text
language_of text language [] none e = sym (e ∙ append-nil language)
language_of text language (subtag ∷ subtags) none e = absurd (hyphen_inside text language (subtag ++ flat_map behind_hyphen subtags) none e)

pub tag_of_language : (text : List ℕ) (is : Bool) → HasNoHyphen text → is ≡ is_group is_lower_letter text → ((is ≡ true) ↔ IsTag text)
tag_of_language text is none e = (
  λ t. record {
    language = text;
    subtags = [];
    spelled = sym (append-nil text);
    letters = group_is is_lower_letter text (sym e ∙ t);
    groups = tt;
  },
  λ h. let language = subst (IsGroup is_lower_letter) (language_of text h.language h.subtags none h.spelled) h.letters in
      e ∙ is_group_from is_lower_letter text language,
)

-- where a text is cut at its first hyphen
pub tag_from_parts : (text language rest : List ℕ) → text ≡ language ++ 45 ∷ rest → is_group is_lower_letter language ≡ true
    → list_all (is_group is_subtag_byte) (slice_split is_hyphen rest) ≡ true → IsTag text
tag_from_parts text language rest cut letters groups =
    record {
      language = language;
      subtags = slice_split is_hyphen rest;
      spelled = cut ∙ ap (λ l. language ++ l) (sym (groups_spell rest));
      letters = group_is is_lower_letter language letters;
      groups = groups_are is_subtag_byte (slice_split is_hyphen rest) groups;
    }

-- the text is cut there and nowhere else
abbrev pub IsOnlyCut : List ℕ → List ℕ → List ℕ → Type 0
IsOnlyCut text language rest = (xs ys : List ℕ) → text ≡ xs ++ 45 ∷ ys → HasNoHyphen xs → (language ≡ xs) × (rest ≡ ys)

parts_of : (text language rest other : List ℕ) (subtags : List (List ℕ)) → text ≡ language ++ 45 ∷ rest → IsOnlyCut text language rest
    → text ≡ other ++ flat_map behind_hyphen subtags → IsGroup is_lower_letter other → AllByRecursion (IsGroup is_subtag_byte) subtags
    → (is_group is_lower_letter language ≡ true) × (list_all (is_group is_subtag_byte) (slice_split is_hyphen rest) ≡ true)
parts_of text language rest other [] cut only spelled letters groups =
    let same : text ≡ other = spelled ∙ append-nil other in
    absurd (hyphen_inside other language rest (language_unhyphened other letters) (sym same ∙ cut))
parts_of text language rest other (subtag ∷ subtags) cut only spelled letters groups =
    let same = only other (subtag ++ flat_map behind_hyphen subtags) spelled (language_unhyphened other letters) in (
      ap (is_group is_lower_letter) same.0 ∙ is_group_from is_lower_letter other letters,
      ap (λ l. list_all (is_group is_subtag_byte) (slice_split is_hyphen l)) same.1
          ∙ ap (list_all (is_group is_subtag_byte)) (groups_again subtag subtags groups.0 groups.1)
          ∙ groups_from is_subtag_byte (subtag ∷ subtags) groups,
    )

pub parts_of_tag : (text language rest : List ℕ) → text ≡ language ++ 45 ∷ rest → IsOnlyCut text language rest → IsTag text
    → (is_group is_lower_letter language ≡ true) × (list_all (is_group is_subtag_byte) (slice_split is_hyphen rest) ≡ true)
parts_of_tag text language rest cut only h = parts_of text language rest h.language h.subtags cut only h.spelled h.letters h.groups

-- ---- a tag is ASCII

-- a character below 128
one_low : (b : ℕ) → b < 128 → (i : ℕ) → get_or (b ∷ []) i 0 < 128
one_low b low zero = low
one_low b low (suc i) = omega arith

one_utf8 : (b : ℕ) → b < 128 → IsUtf8 (b ∷ [])
one_utf8 b low = IsUtf8-from_ascii (b ∷ []) (one_low b low)

class_utf8 : (class : ℕ → Bool) → ((b : ℕ) → class b ≡ true → b < 128) → (group : List ℕ) → list_all class group ≡ true → IsUtf8 group
class_utf8 class low [] e = IsUtf8-nil
class_utf8 class low (b ∷ group) e =
    let h = and_parts (class b) (list_all class group) e in
    IsUtf8-append (b ∷ []) group (one_utf8 b (low b h.0)) (class_utf8 class low group h.1)

letter_low : (b : ℕ) → is_lower_letter b ≡ true → b < 128
letter_low b e = grind (arith, nat_tests)

subtag_low : (b : ℕ) → is_subtag_byte b ≡ true → b < 128
subtag_low b e = grind (arith, nat_tests)

groups_utf8 : (groups : List (List ℕ)) → AllByRecursion (IsGroup is_subtag_byte) groups → IsUtf8 (flat_map behind_hyphen groups)
groups_utf8 [] h = IsUtf8-nil
groups_utf8 (group ∷ groups) h =
    IsUtf8-append (45 ∷ group) (flat_map behind_hyphen groups)
    (IsUtf8-append (45 ∷ []) group (one_utf8 45 (omega arith)) (class_utf8 is_subtag_byte subtag_low group h.0.1)) (groups_utf8 groups h.1)

pub IsUtf8-tag : (tag : List ℕ) → IsTag tag → IsUtf8 tag
IsUtf8-tag tag h =
    let whole = IsUtf8-append h.language (flat_map behind_hyphen h.subtags) (class_utf8 is_lower_letter letter_low h.language h.letters.1) (groups_utf8 h.subtags h.groups) in
    subst IsUtf8 (sym h.spelled) whole
