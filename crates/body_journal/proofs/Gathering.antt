-- The others that are gathered, one after the other, and the one that is looked up.
use Rattle.std.proofs.Common.{◌≡◌, ℕ, zero, suc, ◌+◌, ◌<◌, ◌≤◌, ◌^◌, List, [], ◌∷◌, ◌++◌, length, take, drop, map, get_or, Bool, true, cond, ◌↔◌, refl, sym, ◌∙◌, ap, subst, arith, inl, inr, drop-cons, add-one}
use Rattle.std.proofs.lemmas.List.{append_assoc, length-append}
use Rattle.std.specs.List.{filter}
use Rattle.body_journal.specs.declared.held.Held.{Held}
use Rattle.body_journal.specs.declared.held.Stage.TheVariants.{Waiting, Stored}
use Rattle.body_journal.specs.Groups.{group_size, IsFullest}
use Rattle.body_journal.specs.Held.{bytes_of, is_other, others_in, IsStoredAs, HasStored}
use Rattle.body_journal.proofs.Sizes.{size-append}

cut_at : (helds : List Held) (i : ℕ) (one : Held) → i < length helds → one ≡ get_or helds i one → drop i helds ≡ one ∷ drop (i + 1) helds
cut_at helds i one below is =
    drop-cons helds i one below ∙ ap (λ (first : Held). first ∷ drop (suc i) helds) (sym is) ∙ ap (λ (n : ℕ). one ∷ drop n helds) (sym (add-one i))

-- the next is one of them
pub next_other : (serial : ℕ) (helds : List Held) (i : ℕ) (one : Held) → i < length helds → one ≡ get_or helds i one → is_other serial one ≡ true
    → others_in serial (drop i helds) ≡ bytes_of one ∷ others_in serial (drop (i + 1) helds)
next_other serial helds i one below is other =
    let cut : drop i helds ≡ one ∷ drop (i + 1) helds = cut_at helds i one below is in
    ap (λ (list : List Held). others_in serial list) cut
    ∙ ap (λ (b : Bool). map bytes_of (cond b (one ∷ filter (is_other serial) (drop (i + 1) helds)) (filter (is_other serial) (drop (i + 1) helds)))) other

pub gathered_one : (serial : ℕ) (first : List ℕ) (helds : List Held) (i others size now_size : ℕ) (one : Held) (taken : List (List ℕ))
    → others_in serial helds ≡ taken ++ others_in serial (drop i helds) → others ≡ length taken → size ≡ group_size (first ∷ taken)
    → i < length helds → one ≡ get_or helds i one → is_other serial one ≡ true → now_size ≡ size + 4 + length (bytes_of one)
    → (now : List (List ℕ)) × (others_in serial helds ≡ now ++ others_in serial (drop (i + 1) helds)) × (others + 1 ≡ length now) × (now_size ≡ group_size (first ∷ now))
gathered_one serial first helds i others size now_size one taken cut count sized below is other grows = (
  taken ++ bytes_of one ∷ [],
  cut ∙ ap (λ (rest : List (List ℕ)). taken ++ rest) (next_other serial helds i one below is other) ∙ sym (append_assoc taken (bytes_of one ∷ []) (others_in serial (drop (i + 1) helds))),
  omega (arith, count, length-append taken (bytes_of one ∷ [])),
  omega (arith, sized, grows, size-append taken (bytes_of one)),
)

take_front : {A : Type 0} (xs ys : List A) (n : ℕ) → n ≡ length xs → take n (xs ++ ys) ≡ xs
take_front [] ys zero is = refl
take_front [] ys (suc n) is = absurd (omega (arith, is))
take_front (x ∷ xs) ys zero is = absurd (omega (arith, is))
take_front (x ∷ xs) ys (suc n) is = ap (λ list. x ∷ list) (take_front xs ys n (omega (arith, is)))

-- the next doesn't fit
pub stops : (serial : ℕ) (first : List ℕ) (helds : List Held) (i others size : ℕ) (one : Held) (taken : List (List ℕ))
    → others_in serial helds ≡ taken ++ others_in serial (drop i helds) → others ≡ length taken → size ≡ group_size (first ∷ taken) → size ≤ 2 ^ 30
    → i < length helds → one ≡ get_or helds i one → is_other serial one ≡ true → 2 ^ 30 < size + 4 + length (bytes_of one) → IsFullest first (others_in serial helds) others
stops serial first helds i others size one taken cut count sized within below is other much =
    let rest : List (List ℕ) = others_in serial (drop (i + 1) helds) in
    let all : others_in serial helds ≡ taken ++ bytes_of one ∷ others_in serial (drop (i + 1) helds) =
    cut ∙ ap (λ (list : List (List ℕ)). taken ++ list) (next_other serial helds i one below is other) in
    let front : take others (others_in serial helds) ≡ taken =
    ap (λ (list : List (List ℕ)). take others list) all ∙ take_front taken (bytes_of one ∷ others_in serial (drop (i + 1) helds)) others count in
    let more : take (others + 1) (others_in serial helds) ≡ taken ++ bytes_of one ∷ [] =
    ap (λ (list : List (List ℕ)). take (others + 1) list) (all ∙ sym (append_assoc taken (bytes_of one ∷ []) (others_in serial (drop (i + 1) helds))))
    ∙ take_front (taken ++ bytes_of one ∷ []) (others_in serial (drop (i + 1) helds)) (others + 1) (omega (arith, count, length-append taken (bytes_of one ∷ []))) in
    record {
      front = omega (arith, count, ap (λ (list : List (List ℕ)). length list) all, length-append taken (bytes_of one ∷ others_in serial (drop (i + 1) helds)));
      within = subst (λ (list : List (List ℕ)). group_size (first ∷ list) ≤ 2 ^ 30) (sym front) (subst (λ (n : ℕ). n ≤ 2 ^ 30) sized within);
      longest = λ below. subst (λ (list : List (List ℕ)). 2 ^ 30 < group_size (first ∷ list)) (sym more) (omega (arith, sized, much, size-append taken (bytes_of one)));
    }

-- ---- one is looked up

pub found_at : (helds : List Held) (i : ℕ) (one : Held) (serial : ℕ) (body : List ℕ) (before : ℕ) → i < length helds → one ≡ get_or helds i one → IsStoredAs one serial body before
    → HasStored helds serial body before
found_at [] i one serial body before below is stored = absurd (omega (arith, below))
found_at (held ∷ helds) zero one serial body before below is stored = inl (subst (λ (h : Held). IsStoredAs h serial body before) is stored)
found_at (held ∷ helds) (suc i) one serial body before below is stored = inr (found_at helds i one serial body before (omega (arith, below)) is stored)

not_first : (one : Held) (rest : List Held) (serial : ℕ) (body : List ℕ) (before : ℕ) → ((before : ℕ) → ¬ IsStoredAs one serial body before) → HasStored (one ∷ rest) serial body before
    → HasStored rest serial body before
not_first one rest serial body before none (inl is) = absurd (none before is)
not_first one rest serial body before none (inr has) = has

pub passed : (helds : List Held) (i : ℕ) (one : Held) (serial : ℕ) (body : List ℕ) (before : ℕ) → i < length helds → one ≡ get_or helds i one → ((before : ℕ) → ¬ IsStoredAs one serial body before)
    → HasStored (drop i helds) serial body before → HasStored (drop (i + 1) helds) serial body before
passed helds i one serial body before below is none has =
    let cut : drop i helds ≡ one ∷ drop (i + 1) helds = cut_at helds i one below is in
    not_first one (drop (i + 1) helds) serial body before none (subst (λ (list : List Held). HasStored list serial body before) cut has)

pub has_append : (helds more : List Held) (serial : ℕ) (body : List ℕ) (before : ℕ) → HasStored helds serial body before → HasStored (helds ++ more) serial body before
has_append [] more serial body before has = absurd has
has_append (held ∷ helds) more serial body before (inl is) = inl is
has_append (held ∷ helds) more serial body before (inr has) = inr (has_append helds more serial body before has)

pub append_has : (helds : List Held) (one : Held) (serial : ℕ) (body : List ℕ) (before : ℕ) → ((before : ℕ) → ¬ IsStoredAs one serial body before) → HasStored (helds ++ one ∷ []) serial body before
    → HasStored helds serial body before
append_has [] one serial body before none has = not_first one [] serial body before none has
append_has (held ∷ helds) one serial body before none (inl is) = inl is
append_has (held ∷ helds) one serial body before none (inr has) = inr (append_has helds one serial body before none has)

not_waiting : (one : Held) (serial : ℕ) (body : List ℕ) (before : ℕ) → one.stage ≡ Waiting → IsStoredAs one serial body before → ⊥
not_waiting one serial body before waits is = let no_such : Waiting ≡ Stored before = sym waits ∙ is.stage in cc

-- one more that waits
pub pushed : (helds now : List Held) (one : Held) → now ≡ helds ++ one ∷ [] → one.stage ≡ Waiting → (serial : ℕ) (body : List ℕ) (before : ℕ)
    → HasStored now serial body before ↔ HasStored helds serial body before
pushed helds now one is waits serial body before = (
  (λ has. append_has helds one serial body before (λ before stored. not_waiting one serial body before waits stored) (subst (λ (list : List Held). HasStored list serial body before) is has)),
  (λ has. subst (λ (list : List Held). HasStored list serial body before) (sym is) (has_append helds (one ∷ []) serial body before has)),
)
