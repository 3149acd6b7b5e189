-- Labels of blank nodes.
use Rattle.std.proofs.Common.{◌≡◌, ◌≢◌, ℕ, suc, ◌-◌, ◌≤◌, Bool, true, false, cond, not, ◌||◌, ◌&&◌, ◌==◌, ◌⊎◌, List, [], ◌∷◌, ◌++◌, length, take, drop, get_or, Option, Some, None, length-take, length-append, refl, sym, ap, subst, ◌∙◌, inl, inr, arith, lit<}
use Rattle.std.specs.Prelude.{nat_le}
use Rattle.std.specs.Char.{encode_utf8}
use Rattle.std.specs.List.{list_all}
use Rattle.std.specs.Str.{is_utf8, chars, encode_utf8_all}
use Rattle.std.proofs.Math.Seq.{take-append_seam, drop-append_seam}
use Rattle.std.proofs.lemmas.Bool.{and_parts, and_from, or_cases, or_left, or_right, not-true, not_from_false, eqb-false, ne_eqb, le-leb, cond-true, cond-false}
use Rattle.std.proofs.lemmas.Bool.Decides.{nat_tests}
use Rattle.std.proofs.lemmas.List.{append-nil, take-append-drop, take-append-le}
use Rattle.std.proofs.lemmas.Option.{cond_some}
use Rattle.std.proofs.lemmas.Str.{encode_ascii, chars-encodes, length-encode, len_utf8_bounds, IsUtf8-from_is_utf8, is_utf8-from_IsUtf8}
use Rattle.term_core.specs.declared.term.Term.TheVariants.{Blank}
use Rattle.term_core.specs.Characters.{is_digit, is_base_character, is_start_character, is_name_character}
use Rattle.term_core.specs.Term.{EndsWithoutDot, AreLabelCharacters, IsLabel}
use Rattle.nt_text.specs.Reading.{run, behind_run, ends_with_dot, without_dot, is_label_byte, is_label_character, begins_label, is_label, whole_label, labelled, node_at, utf8_text}
use Rattle.nt_text.proofs.Encoded.{encode_passes, text_passes}
use Rattle.nt_text.proofs.PieceTexts.{other_than}
use Rattle.nt_text.proofs.Runs.{run_parts, run-append}

without_dot_fits : (bytes : List ℕ) → length (without_dot bytes) ≤ length bytes
without_dot_fits bytes =
    elim (ends_with_dot bytes) as (λ v. length (cond v (take (length bytes - 1) bytes) bytes) ≤ length bytes) [
      | true ↦ omega (arith, length-take (length bytes - 1) bytes)
      | false ↦ omega arith
    ]

-- a label is no longer than what it stands in
pub label_fits : (inside : List ℕ) → length (without_dot (run is_label_byte inside)) ≤ length inside
label_fits inside =
    omega (arith, without_dot_fits (run is_label_byte inside), ap length (run_parts is_label_byte inside), length-append (run is_label_byte inside) (behind_run is_label_byte inside))

-- ---- the dot at the end

last_of_more : (b c : ℕ) (bytes : List ℕ) → ends_with_dot (b ∷ c ∷ bytes) ≡ ends_with_dot (c ∷ bytes)
last_of_more b c bytes =
    let place : length (b ∷ c ∷ bytes) - 1 ≡ suc (length (c ∷ bytes) - 1) = omega arith in
    ap (λ (n : ℕ). get_or (b ∷ c ∷ bytes) n 0 == 46) place

dot_free : (bytes : List ℕ) → ends_with_dot bytes ≡ false → EndsWithoutDot bytes
dot_free [] h = tt
dot_free (b ∷ []) h = eqb-false b 46 h
dot_free (b ∷ c ∷ bytes) h = dot_free (c ∷ bytes) (sym (last_of_more b c bytes) ∙ h)

free_of_dot : (bytes : List ℕ) → EndsWithoutDot bytes → ends_with_dot bytes ≡ false
free_of_dot [] h = refl
free_of_dot (b ∷ []) h = ne_eqb b 46 h
free_of_dot (b ∷ c ∷ bytes) h = last_of_more b c bytes ∙ free_of_dot (c ∷ bytes) h

dot_behind : (bytes : List ℕ) → ends_with_dot (bytes ++ 46 ∷ []) ≡ true
dot_behind [] = refl
dot_behind (b ∷ []) = refl
dot_behind (b ∷ c ∷ bytes) = last_of_more b c (bytes ++ 46 ∷ []) ∙ dot_behind (c ∷ bytes)

dots_append : (xs : List ℕ) (y : ℕ) (ys : List ℕ) → EndsWithoutDot (y ∷ ys) → EndsWithoutDot (xs ++ y ∷ ys)
dots_append [] y ys h = h
dots_append (x ∷ []) y ys h = h
dots_append (x ∷ z ∷ xs) y ys h = dots_append (z ∷ xs) y ys h

dots_back : (xs : List ℕ) (y : ℕ) (ys : List ℕ) → EndsWithoutDot (xs ++ y ∷ ys) → EndsWithoutDot (y ∷ ys)
dots_back [] y ys h = h
dots_back (x ∷ []) y ys h = h
dots_back (x ∷ z ∷ xs) y ys h = dots_back (z ∷ xs) y ys h

abbrev is_no_dot : ℕ → Bool
is_no_dot b = not (b == 46)

no_dot_high : (b : ℕ) → 128 ≤ b → is_no_dot b ≡ true
no_dot_high b h = not_from_false (b == 46) (ne_eqb b 46 (λ e. omega arith))

no_dots : (xs : List ℕ) → list_all is_no_dot xs ≡ true → EndsWithoutDot xs
no_dots [] h = tt
no_dots (x ∷ []) h = eqb-false x 46 (not-true (x == 46) (and_parts (is_no_dot x) true h).0)
no_dots (x ∷ y ∷ xs) h = no_dots (y ∷ xs) (and_parts (is_no_dot x) (list_all is_no_dot (y ∷ xs)) h).1

record IsSome (xs : List ℕ) : Type 0 where
  head : ℕ
  tail : List ℕ
  is : xs ≡ head ∷ tail

some_from : (xs : List ℕ) → 1 ≤ length xs → IsSome xs
some_from [] h = absurd (omega arith)
some_from (x ∷ xs) h = record { head = x; tail = xs; is = refl }

encoded_some : (c : ℕ) (cs : List ℕ) → IsSome (encode_utf8_all (c ∷ cs))
encoded_some c cs = some_from (encode_utf8_all (c ∷ cs)) (omega (arith, length-append (encode_utf8 c) (encode_utf8_all cs), length-encode c, (len_utf8_bounds c).0))

bytes_end : (cs : List ℕ) → EndsWithoutDot cs → EndsWithoutDot (encode_utf8_all cs)
bytes_end [] h = tt
bytes_end (c ∷ []) h =
    subst EndsWithoutDot (sym (append-nil (encode_utf8 c))) (no_dots (encode_utf8 c) (encode_passes is_no_dot no_dot_high c (not_from_false (c == 46) (ne_eqb c 46 h))))
bytes_end (c ∷ d ∷ cs) h =
    let some = encoded_some d cs in
    let rest : EndsWithoutDot (some.head ∷ some.tail) = subst EndsWithoutDot some.is (bytes_end (d ∷ cs) h) in
    subst (λ (xs : List ℕ). EndsWithoutDot (encode_utf8 c ++ xs)) (sym some.is) (dots_append (encode_utf8 c) some.head some.tail rest)

chars_end : (cs : List ℕ) → EndsWithoutDot (encode_utf8_all cs) → EndsWithoutDot cs
chars_end [] h = tt
chars_end (c ∷ []) h = λ e.
    let one : encode_utf8_all (c ∷ []) ≡ 46 ∷ [] = append-nil (encode_utf8 c) ∙ ap encode_utf8 e ∙ encode_ascii 46 (lit< tt) in
    (subst EndsWithoutDot one h) refl
chars_end (c ∷ d ∷ cs) h =
    let some = encoded_some d cs in
    let whole : EndsWithoutDot (encode_utf8 c ++ some.head ∷ some.tail) = subst (λ (xs : List ℕ). EndsWithoutDot (encode_utf8 c ++ xs)) some.is h in
    chars_end (d ∷ cs) (subst EndsWithoutDot (sym some.is) (dots_back (encode_utf8 c) some.head some.tail whole))

-- ---- the characters

label_high : (b : ℕ) → 128 ≤ b → is_label_byte b ≡ true
unfolding is_label_byte
label_high b h = or_left (nat_le 128 b || is_name_character b) (b == 46) (or_left (nat_le 128 b) (is_name_character b) (le-leb 128 b h))

label_byte : (c : ℕ) → is_label_character c ≡ true → is_label_byte c ≡ true
unfolding is_label_byte
label_byte c h =
    elim (or_cases (is_name_character c) (c == 46) h) [
      | inl name ↦ or_left (nat_le 128 c || is_name_character c) (c == 46) (or_right (nat_le 128 c) (is_name_character c) name)
      | inr dot ↦ or_right (nat_le 128 c || is_name_character c) (c == 46) dot
    ]

all_label_bytes : (cs : List ℕ) → list_all is_label_character cs ≡ true → list_all is_label_byte cs ≡ true
all_label_bytes [] h = refl
all_label_bytes (c ∷ cs) h =
    let parts = and_parts (is_label_character c) (list_all is_label_character cs) h in
    and_from (is_label_byte c) (list_all is_label_byte cs) (label_byte c parts.0) (all_label_bytes cs parts.1)

abbrev is_first : ℕ → Bool
is_first c = is_start_character c || is_digit c

first_is_name : (c : ℕ) → is_first c ≡ true → is_name_character c ≡ true
unfolding is_name_character
first_is_name c h = grind (arith, nat_tests)

no_first_dot : is_first 46 ≡ false
unfolding is_start_character is_base_character
no_first_dot = refl

tail_end : (c : ℕ) (cs : List ℕ) → EndsWithoutDot (c ∷ cs) → EndsWithoutDot cs
tail_end c [] h = tt
tail_end c (d ∷ cs) h = h

whole_end : (c : ℕ) (cs : List ℕ) → c ≢ 46 → EndsWithoutDot cs → EndsWithoutDot (c ∷ cs)
whole_end c [] other h = other
whole_end c (d ∷ cs) other h = h

shape_takes : (cs : List ℕ) → begins_label cs ≡ true → list_all is_label_character cs ≡ true → EndsWithoutDot cs → AreLabelCharacters cs
shape_takes [] begins each end = absurd cc
shape_takes (c ∷ cs) begins each end = (begins, (and_parts (is_label_character c) (list_all is_label_character cs) each).1, tail_end c cs end)

record IsShaped (cs : List ℕ) : Type 0 where
  begins : begins_label cs ≡ true
  each : list_all is_label_character cs ≡ true
  end : EndsWithoutDot cs

shape_again : (cs : List ℕ) → AreLabelCharacters cs → IsShaped cs
shape_again [] h = absurd h
shape_again (c ∷ cs) h = record {
  begins = h.0;
  each = and_from (is_label_character c) (list_all is_label_character cs) (or_left (is_name_character c) (c == 46) (first_is_name c h.0)) h.1;
  end = whole_end c cs (eqb-false c 46 (other_than is_first c 46 no_first_dot h.0)) h.2;
}

-- the test is the rule
pub label_takes : (label : List ℕ) → is_label label ≡ true → IsLabel label
unfolding is_label
label_takes label h =
    let p = and_parts (is_utf8 label) (begins_label (chars label) && (list_all is_label_character (chars label) && not (ends_with_dot label))) h in
    let q = and_parts (begins_label (chars label)) (list_all is_label_character (chars label) && not (ends_with_dot label)) p.1 in
    let r = and_parts (list_all is_label_character (chars label)) (not (ends_with_dot label)) q.1 in
    let utf8 = IsUtf8-from_is_utf8 label p.0 in
    let same : chars label ≡ utf8.0 = ap chars (sym utf8.1.1) ∙ chars-encodes utf8.0 utf8.1.0 in
    let end : EndsWithoutDot utf8.0 = chars_end utf8.0 (subst EndsWithoutDot (sym utf8.1.1) (dot_free label (not-true (ends_with_dot label) r.1))) in
    record { utf8 = utf8; shape = shape_takes (chars label) q.0 r.0 (subst EndsWithoutDot (sym same) end) }

label_end : (label : List ℕ) → IsLabel label → ends_with_dot label ≡ false
label_end label h =
    let utf8 = h.utf8 in
    let same : chars label ≡ utf8.0 = ap chars (sym utf8.1.1) ∙ chars-encodes utf8.0 utf8.1.0 in
    let end : EndsWithoutDot utf8.0 = subst EndsWithoutDot same (shape_again (chars label) h.shape).end in
    free_of_dot label (subst EndsWithoutDot utf8.1.1 (bytes_end utf8.0 end))

pub label_again : (label : List ℕ) → IsLabel label → is_label label ≡ true
unfolding is_label
label_again label h =
    let shaped = shape_again (chars label) h.shape in
    and_from (is_utf8 label) (begins_label (chars label) && (list_all is_label_character (chars label) && not (ends_with_dot label))) (is_utf8-from_IsUtf8 label h.utf8)
    (and_from (begins_label (chars label)) (list_all is_label_character (chars label) && not (ends_with_dot label)) shaped.begins
    (and_from (list_all is_label_character (chars label)) (not (ends_with_dot label)) shaped.each (not_from_false (ends_with_dot label) (label_end label h))))

-- the bytes are a label where they are text, and the text is one
pub whole_label-takes : (bytes text : List ℕ) → utf8_text bytes ≡ Some text → IsLabel text → whole_label bytes ≡ Some text
whole_label-takes bytes text is h =
    let same : bytes ≡ text = (cond_some (is_utf8 bytes) bytes text is).1 in
    cond-true (is_label bytes) (Some bytes) None (label_again bytes (subst IsLabel (sym same) h)) ∙ ap (λ (x : List ℕ). Some x) same

none_whole : (label : List ℕ) → (IsLabel label → ⊥) → whole_label label ≡ None
none_whole label none = by (is_label label) refl
  where
    by : (is : Bool) → is_label label ≡ is → cond is (Some label) None ≡ None
    by true e = absurd (none (label_takes label e))
    by false e = refl

pub whole_label-other : (bytes text : List ℕ) → utf8_text bytes ≡ Some text → (IsLabel text → ⊥) → whole_label bytes ≡ None
whole_label-other bytes text is none =
    let same : bytes ≡ text = (cond_some (is_utf8 bytes) bytes text is).1 in
    none_whole bytes (λ h. none (subst IsLabel same h))

pub whole_label-no_text : (bytes : List ℕ) → utf8_text bytes ≡ None → whole_label bytes ≡ None
whole_label-no_text bytes none = none_whole bytes (λ h. by (is_utf8-from_IsUtf8 bytes h.utf8))
  where
    by : is_utf8 bytes ≡ true → ⊥
    by e = let some : utf8_text bytes ≡ Some bytes = cond-true (is_utf8 bytes) (Some bytes) None e in cc

-- ---- a label among other bytes

-- what goes on no label: the bytes of a label there are none, or a dot that can't be its last
abbrev pub IsLabelStop : List ℕ → Type 0
IsLabelStop rest = (run is_label_byte rest ≡ []) ⊎ (run is_label_byte rest ≡ 46 ∷ [])

label_cut : (label rest : List ℕ) → IsLabel label → IsLabelStop rest → without_dot (run is_label_byte (label ++ rest)) ≡ label
label_cut label rest h stop =
    let passes : list_all is_label_byte label ≡ true =
    text_passes is_label_byte label_high label h.utf8 (all_label_bytes (chars label) (shape_again (chars label) h.shape).each) in
    let all = run-append is_label_byte label rest passes in
    elim stop [
      | inl nothing ↦
          ap without_dot (all ∙ ap (λ (x : List ℕ). label ++ x) nothing ∙ append-nil label)
          ∙ cond-false (ends_with_dot label) (take (length label - 1) label) label (label_end label h)
      | inr dot ↦
          let width : length (label ++ 46 ∷ []) - 1 ≡ length label = omega (arith, length-append label (46 ∷ [])) in
          ap without_dot (all ∙ ap (λ (x : List ℕ). label ++ x) dot)
          ∙ cond-true (ends_with_dot (label ++ 46 ∷ [])) (take (length (label ++ 46 ∷ []) - 1) (label ++ 46 ∷ [])) (label ++ 46 ∷ []) (dot_behind label)
          ∙ ap (λ (n : ℕ). take n (label ++ 46 ∷ [])) width ∙ take-append_seam label (46 ∷ [])
    ]

pub node_again : (label rest : List ℕ) → IsLabel label → IsLabelStop rest → node_at (95 ∷ 58 ∷ (label ++ rest)) ≡ Some (Blank 0 label, rest)
unfolding node_at
node_again label rest h stop =
    ap (λ (x : List ℕ). labelled x (label ++ rest)) (label_cut label rest h stop)
    ∙ cond-true (is_label label) (Some (Blank 0 label, drop (length label) (label ++ rest))) None (label_again label h)
    ∙ ap (λ (x : List ℕ). Some (Blank 0 label, x)) (drop-append_seam label rest)

-- a front of the bytes and what is behind it
front_parts : (k : ℕ) (xs ys : List ℕ) → k ≤ length xs → xs ++ ys ≡ take k xs ++ drop (length (take k xs)) (xs ++ ys)
front_parts k xs ys fits =
    let width : length (take k xs) ≡ k = omega (arith, length-take k xs) in
    sym (take-append-drop k (xs ++ ys)) ∙ ap (λ (x : List ℕ). x ++ drop k (xs ++ ys)) (take-append-le k xs ys fits)
    ∙ ap (λ (n : ℕ). take k xs ++ drop n (xs ++ ys)) (sym width)

without_dot_parts : (xs ys : List ℕ) → xs ++ ys ≡ without_dot xs ++ drop (length (without_dot xs)) (xs ++ ys)
without_dot_parts xs ys =
    elim (ends_with_dot xs) as (λ v. let label = cond v (take (length xs - 1) xs) xs in xs ++ ys ≡ label ++ drop (length label) (xs ++ ys)) [
      | true ↦ front_parts (length xs - 1) xs ys (omega arith)
      | false ↦ ap (λ (x : List ℕ). xs ++ x) (sym (drop-append_seam xs ys))
    ]

pub label_parts : (inside : List ℕ) → inside ≡ without_dot (run is_label_byte inside) ++ drop (length (without_dot (run is_label_byte inside))) inside
label_parts inside =
    let all = run_parts is_label_byte inside in
    let label = without_dot (run is_label_byte inside) in
    all ∙ without_dot_parts (run is_label_byte inside) (behind_run is_label_byte inside) ∙ ap (λ (x : List ℕ). label ++ drop (length label) x) (sym all)
