-- Language tags.
use Rattle.std.proofs.Common.{◌≡◌, ◌≢◌, ℕ, ◌<◌, Bool, true, false, cond, not, ◌||◌, ◌&&◌, ◌==◌, List, [], ◌∷◌, ◌++◌, map, Option, Some, None, refl, sym, ap, subst, ◌∙◌, arith}
use Rattle.std.specs.Prelude.{nat_lt}
use Rattle.std.specs.Char.{to_ascii_lowercase}
use Rattle.std.specs.List.{list_all, flat_map, AllByRecursion}
use Rattle.std.specs.Str.{IsUtf8}
use Rattle.std.proofs.lemmas.Bool.{and_parts, and_from, eqb-true, eq-eqb, ltb-true, cond-true}
use Rattle.std.proofs.lemmas.Bool.Decides.{nat_tests}
use Rattle.std.proofs.lemmas.Str.{IsUtf8-nil, IsUtf8-append, IsUtf8-encode, encode_ascii}
use Rattle.term_core.specs.Characters.{is_digit, is_letter, is_lower_letter}
use Rattle.term_core.specs.Term.{IsGroup, IsTag}
use Rattle.nt_text.specs.declared.tag.Place.{Place}
use Rattle.nt_text.specs.Reading.{is_tag_byte, is_tag_from, is_tag}
use Rattle.nt_text.proofs.Encoded.{all_append}

-- ---- one byte

-- what may stand in the language, and in a later group, in lower case
abbrev pub is_of_group : Bool → ℕ → Bool
is_of_group true c = is_lower_letter c
is_of_group false c = is_lower_letter c || is_digit c

abbrev goes_on : Bool → ℕ → Bool
goes_on first b = is_letter b || (not first && is_digit b)

lower_of_group : (first : Bool) (b : ℕ) → goes_on first b ≡ true → is_of_group first (to_ascii_lowercase b) ≡ true
lower_of_group true b h = grind (arith, nat_tests)
lower_of_group false b h = grind (arith, nat_tests)

written_of_group : (first : Bool) (b : ℕ) → is_of_group first (to_ascii_lowercase b) ≡ true → goes_on first b ≡ true
written_of_group true b h = grind (arith, nat_tests)
written_of_group false b h = grind (arith, nat_tests)

no_hyphen : (first : Bool) (b : ℕ) → is_of_group first (to_ascii_lowercase b) ≡ true → (b == 45) ≡ false
no_hyphen true b h = grind (arith, nat_tests)
no_hyphen false b h = grind (arith, nat_tests)

lower_hyphen : (b : ℕ) → to_ascii_lowercase b ≡ 45 → b ≡ 45
lower_hyphen b h = grind (arith, nat_tests)

letter_or_digit : (first : Bool) (b : ℕ) → goes_on first b ≡ true → is_tag_byte b ≡ true
letter_or_digit true b h = grind (arith, nat_tests)
letter_or_digit false b h = grind (arith, nat_tests)

abbrev group_place : Place
group_place = record { first = false; filled = false }

abbrev filled_place : Bool → Place
filled_place first = record { first = first; filled = true }

-- ---- what is read is a tag

abbrev behind_hyphen : List ℕ → List ℕ
behind_hyphen subtag = 45 ∷ subtag

abbrev IsSubtag : List ℕ → Type 0
IsSubtag = IsGroup (λ c. is_lower_letter c || is_digit c)

record IsRestOfTag (place : Place) (written : List ℕ) : Type 0 where
  group : List ℕ
  subtags : List (List ℕ)
  spelled : map to_ascii_lowercase written ≡ group ++ flat_map behind_hyphen subtags
  each : list_all (is_of_group place.first) group ≡ true
  some : place.filled ≡ false → group ≢ []
  groups : AllByRecursion IsSubtag subtags

rest_takes : (written : List ℕ) (place : Place) → is_tag_from (Some place) written ≡ true → IsRestOfTag place written
rest_takes [] place h = record {
  group = [];
  subtags = [];
  spelled = refl;
  each = refl;
  some = λ empty. absurd cc;
  groups = tt;
}
rest_takes (b ∷ bytes) place h =
    by (b == 45) (place.filled) (goes_on place.first b) refl refl refl h (λ p k. rest_takes bytes p k)
  where
    by : (hyphen filled goes : Bool) → (b == 45) ≡ hyphen → place.filled ≡ filled → goes_on place.first b ≡ goes
        → is_tag_from (cond hyphen (cond filled (Some group_place) None) (cond goes (Some (filled_place place.first)) None)) bytes ≡ true
        → ((p : Place) → is_tag_from (Some p) bytes ≡ true → IsRestOfTag p bytes)
        → IsRestOfTag place (b ∷ bytes)
    by true true goes p f g h again =
        let r = again group_place h in
        let b_is : b ≡ 45 = eqb-true b 45 p in record {
          group = [];
          subtags = r.group ∷ r.subtags;
          spelled = ap (λ (x : ℕ). to_ascii_lowercase x ∷ map to_ascii_lowercase bytes) b_is ∙ ap (λ (x : List ℕ). 45 ∷ x) r.spelled;
          each = refl;
          some = λ empty. absurd cc;
          groups = ((r.some refl, r.each), r.groups);
        }
    by true false goes p f g h again = absurd cc
    by false filled true p f g h again =
        let r = again (filled_place place.first) h in record {
          group = to_ascii_lowercase b ∷ r.group;
          subtags = r.subtags;
          spelled = ap (λ (x : List ℕ). to_ascii_lowercase b ∷ x) r.spelled;
          each = and_from (is_of_group place.first (to_ascii_lowercase b)) (list_all (is_of_group place.first) r.group) (lower_of_group place.first b g) r.each;
          some = λ empty none. absurd cc;
          groups = r.groups;
        }
    by false filled false p f g h again = absurd cc

pub tag_takes : (written : List ℕ) → is_tag written ≡ true → IsTag (map to_ascii_lowercase written)
unfolding is_tag
tag_takes written h =
    let r = rest_takes written (record { first = true; filled = false }) h in record {
      language = r.group;
      subtags = r.subtags;
      spelled = r.spelled;
      letters = (r.some refl, r.each);
      groups = r.groups;
    }

-- ---- a tag is read

rest_again : (written : List ℕ) (first filled : Bool) (group : List ℕ) (subtags : List (List ℕ))
    → map to_ascii_lowercase written ≡ group ++ flat_map behind_hyphen subtags
    → list_all (is_of_group first) group ≡ true → (filled ≡ false → group ≢ []) → AllByRecursion IsSubtag subtags
    → is_tag_from (Some (record { first = first; filled = filled })) written ≡ true
rest_again [] first true group subtags spelled each some groups = refl
rest_again [] first false [] subtags spelled each some groups = absurd (some refl refl)
rest_again [] first false (g ∷ group) subtags spelled each some groups = absurd cc
rest_again (b ∷ bytes) first true [] [] spelled each some groups = absurd cc
rest_again (b ∷ bytes) first false [] subtags spelled each some groups = absurd (some refl refl)
rest_again (b ∷ bytes) first true [] (s ∷ ss) spelled each some groups =
    let lower : to_ascii_lowercase b ≡ 45 = cc in
    let rest : map to_ascii_lowercase bytes ≡ s ++ flat_map behind_hyphen ss = cc in
    ap (λ (o : Option Place). is_tag_from o bytes)
    (cond-true (b == 45) (Some group_place) (cond (goes_on first b) (Some (filled_place first)) None) (eq-eqb b 45 (lower_hyphen b lower)))
    ∙ rest_again bytes false false s ss rest groups.0.1 (λ e. groups.0.0) groups.1
rest_again (b ∷ bytes) first filled (g ∷ group) subtags spelled each some groups =
    let lower : to_ascii_lowercase b ≡ g = cc in
    let rest : map to_ascii_lowercase bytes ≡ group ++ flat_map behind_hyphen subtags = cc in
    let parts = and_parts (is_of_group first g) (list_all (is_of_group first) group) each in
    let of_group : is_of_group first (to_ascii_lowercase b) ≡ true = ap (is_of_group first) lower ∙ parts.0 in
    ap (λ (hyphen : Bool). is_tag_from (cond hyphen (cond filled (Some group_place) None) (cond (goes_on first b) (Some (filled_place first)) None)) bytes) (no_hyphen first b of_group)
    ∙ ap (λ (goes : Bool). is_tag_from (cond goes (Some (filled_place first)) None) bytes) (written_of_group first b of_group)
    ∙ rest_again bytes first true group subtags rest parts.1 (λ e. absurd cc) groups

pub tag_again : (written : List ℕ) → IsTag (map to_ascii_lowercase written) → is_tag written ≡ true
unfolding is_tag
tag_again written h = rest_again written true false h.language h.subtags h.spelled h.letters.1 (λ e. h.letters.0) h.groups

tag_bytes_from : (written : List ℕ) (place : Place) → is_tag_from (Some place) written ≡ true → list_all is_tag_byte written ≡ true
tag_bytes_from [] place h = refl
tag_bytes_from (b ∷ bytes) place h =
    by (b == 45) (place.filled) (goes_on place.first b) refl refl refl h (λ p k. tag_bytes_from bytes p k)
  where
    hyphen : (b == 45) ≡ true → is_tag_byte b ≡ true
    hyphen e = subst (λ (x : ℕ). is_tag_byte x ≡ true) (sym (eqb-true b 45 e)) refl

    by : (hyphen filled goes : Bool) → (b == 45) ≡ hyphen → place.filled ≡ filled → goes_on place.first b ≡ goes
        → is_tag_from (cond hyphen (cond filled (Some group_place) None) (cond goes (Some (filled_place place.first)) None)) bytes ≡ true
        → ((p : Place) → is_tag_from (Some p) bytes ≡ true → list_all is_tag_byte bytes ≡ true)
        → list_all is_tag_byte (b ∷ bytes) ≡ true
    by true true goes p f g h again = and_from (is_tag_byte b) (list_all is_tag_byte bytes) (hyphen p) (again group_place h)
    by true false goes p f g h again = absurd cc
    by false filled true p f g h again =
        and_from (is_tag_byte b) (list_all is_tag_byte bytes) (letter_or_digit place.first b g) (again (filled_place place.first) h)
    by false filled false p f g h again = absurd cc

pub tag_bytes : (written : List ℕ) → is_tag written ≡ true → list_all is_tag_byte written ≡ true
unfolding is_tag
tag_bytes written h = tag_bytes_from written (record { first = true; filled = false }) h

-- ---- a tag is ASCII

abbrev pub is_low : ℕ → Bool
is_low b = nat_lt b 128

one_utf8 : (b : ℕ) → is_low b ≡ true → IsUtf8 (b ∷ [])
one_utf8 b h =
    let low : b < 128 = ltb-true b 128 h in
    subst IsUtf8 (encode_ascii b low) (IsUtf8-encode b (grind (arith, nat_tests)))

pub low_utf8 : (xs : List ℕ) → list_all is_low xs ≡ true → IsUtf8 xs
low_utf8 [] h = IsUtf8-nil
low_utf8 (x ∷ xs) h =
    let parts = and_parts (is_low x) (list_all is_low xs) h in
    IsUtf8-append (x ∷ []) xs (one_utf8 x parts.0) (low_utf8 xs parts.1)

lower_low : (b : ℕ) → is_lower_letter b ≡ true → is_low b ≡ true
lower_low b h = grind (arith, nat_tests)

subtag_low : (b : ℕ) → (is_lower_letter b || is_digit b) ≡ true → is_low b ≡ true
subtag_low b h = grind (arith, nat_tests)

all_low : (test : ℕ → Bool) → ((b : ℕ) → test b ≡ true → is_low b ≡ true) → (xs : List ℕ) → list_all test xs ≡ true → list_all is_low xs ≡ true
all_low test low [] h = refl
all_low test low (x ∷ xs) h =
    let parts = and_parts (test x) (list_all test xs) h in
    and_from (is_low x) (list_all is_low xs) (low x parts.0) (all_low test low xs parts.1)

subtags_low : (subtags : List (List ℕ)) → AllByRecursion IsSubtag subtags → list_all is_low (flat_map behind_hyphen subtags) ≡ true
subtags_low [] h = refl
subtags_low (s ∷ ss) h =
    all_append is_low (45 ∷ s) (flat_map behind_hyphen ss) (all_low (λ c. is_lower_letter c || is_digit c) subtag_low s h.0.1) (subtags_low ss h.1)

pub tag_utf8 : (tag : List ℕ) → IsTag tag → IsUtf8 tag
tag_utf8 tag h =
    low_utf8 tag (subst (λ (x : List ℕ). list_all is_low x ≡ true) (sym h.spelled)
    (all_append is_low h.language (flat_map behind_hyphen h.subtags) (all_low is_lower_letter lower_low h.language h.letters.1) (subtags_low h.subtags h.groups)))
