-- The characters of a label by its bytes.
use Rattle.std.proofs.Common.{◌≡◌, ℕ, ◌-◌, Bool, true, false, not, ◌||◌, ◌==◌, ◌↔◌, List, [], ◌∷◌, ◌++◌, length, take, get_or, refl, sym, ap, subst, ◌∙◌, append_assoc, arith, length-append}
use Rattle.std.specs.Char.{encode_utf8}
use Rattle.std.specs.List.{list_all}
use Rattle.std.specs.Str.{IsUtf8, chars, encode_utf8_all}
use Rattle.std.proofs.lemmas.Bool.{not-true, false_from_ne_true, not_from_false}
use Rattle.std.proofs.lemmas.List.{take_at, get_or-append_right}
use Rattle.std.proofs.lemmas.Str.{encode_ascii, encodes-chars, chars-append, chars_past_char, IsUtf8-take, IsCharBoundary-before_ascii}
use Rattle.term_core.specs.Characters.{is_digit, is_start_character, is_name_character}
use Rattle.term_core.specs.Term.{EndsWithoutDot, AreLabelCharacters, IsLabel}

-- where the bytes don't end with a dot, the characters don't
ends_without : (cs : List ℕ) → ((front : List ℕ) → encode_utf8_all cs ≡ front ++ 46 ∷ [] → ⊥) → EndsWithoutDot cs
ends_without [] none = tt
ends_without (c ∷ []) none = λ e. none [] (ap (λ d. encode_utf8 d ++ []) e ∙ ap (λ l. l ++ []) (encode_ascii 46 (omega arith)))
ends_without (c ∷ d ∷ cs) none =
    ends_without (d ∷ cs) (λ front e. none (encode_utf8 c ++ front) (ap (λ l. encode_utf8 c ++ l) e ∙ sym (append_assoc (encode_utf8 c) front (46 ∷ []))))

dot_ends : (cs : List ℕ) → EndsWithoutDot (cs ++ 46 ∷ []) → ⊥
dot_ends [] h = h refl
dot_ends (c ∷ []) h = h refl
dot_ends (c ∷ d ∷ cs) h = dot_ends (d ∷ cs) h

dot_at : (front : List ℕ) → get_or (front ++ 46 ∷ []) (length front) 0 ≡ 46
dot_at front =
    let none : length front - length front ≡ 0 = omega arith in
    get_or-append_right front (46 ∷ []) (length front) (length front) 0 refl (omega arith) ∙ ap (λ k. get_or (46 ∷ []) k 0) none

-- the front of a text that ends with a dot
front_utf8 : (front : List ℕ) → IsUtf8 (front ++ 46 ∷ []) → IsUtf8 front
front_utf8 front utf8 =
    let dot = dot_at front in
    let long = length-append front (46 ∷ []) in
    let boundary = IsCharBoundary-before_ascii (front ++ 46 ∷ []) (length front) (omega arith) (omega arith) in
    subst IsUtf8 (take_at front (46 ∷ []) (length front) refl) (IsUtf8-take (front ++ 46 ∷ []) (length front) utf8 boundary)

chars_dot : chars (46 ∷ []) ≡ 46 ∷ []
unfolding chars
chars_dot = refl

pub dot_decides : (bytes : List ℕ) (dot : Bool) → IsUtf8 bytes
    → (dot ≡ true → bytes ≡ take (length bytes - 1) bytes ++ 46 ∷ []) × ((front : List ℕ) → bytes ≡ front ++ 46 ∷ [] → dot ≡ true)
    → ((not dot ≡ true) ↔ EndsWithoutDot (chars bytes))
dot_decides bytes dot utf8 ends = (
  λ isnt. ends_without (chars bytes) (λ front e.
      let holds : dot ≡ true = ends.1 front (sym (encodes-chars bytes utf8) ∙ e) in
      let off : dot ≡ false = not-true dot isnt in
      absurd cc),
  λ h. not_from_false dot (false_from_ne_true dot (λ holds.
      let front = take (length bytes - 1) bytes in
      let cut : bytes ≡ front ++ 46 ∷ [] = ends.0 holds in
      let whole : chars bytes ≡ chars front ++ 46 ∷ [] =
      ap chars cut ∙ chars-append front (46 ∷ []) (front_utf8 front (subst IsUtf8 cut utf8)) ∙ ap (λ l. chars front ++ l) chars_dot in
      dot_ends (chars front) (subst EndsWithoutDot whole h))),
)

-- what stands behind the first character of a label
abbrev pub MayFollow : List ℕ → Type 0
MayFollow cs = (list_all (λ c. is_name_character c || c == 46) cs ≡ true) × EndsWithoutDot cs

-- a label is its first character and the rest
pub label_begun : (text rest : List ℕ) (first : ℕ) (begins others : Bool) → IsUtf8 text → text ≡ encode_utf8 first ++ rest
    → begins ≡ (is_start_character first || is_digit first) → begins ≡ true → ((others ≡ true) ↔ MayFollow (chars rest))
    → ((others ≡ true) ↔ IsLabel text)
label_begun text rest first begins others utf8 cut is holds follow =
    let cs : chars text ≡ first ∷ chars rest = chars_past_char text rest first utf8 cut in (
      λ e. let f = follow.0 e in record { utf8 = utf8; shape = subst AreLabelCharacters (sym cs) (sym is ∙ holds, f.0, f.1) },
      λ h. let shape = subst AreLabelCharacters cs h.shape in follow.1 (shape.1, shape.2),
    )

pub label_not_begun : (text rest : List ℕ) (first : ℕ) (begins : Bool) → IsUtf8 text → text ≡ encode_utf8 first ++ rest
    → begins ≡ (is_start_character first || is_digit first) → begins ≡ false → IsLabel text → ⊥
label_not_begun text rest first begins utf8 cut is isnt h =
    let cs : chars text ≡ first ∷ chars rest = chars_past_char text rest first utf8 cut in
    let shape = subst AreLabelCharacters cs h.shape in
    let holds : begins ≡ true = is ∙ shape.0 in
    absurd cc
