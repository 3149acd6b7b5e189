-- Names with dots inside, from left to right.
use Rattle.std.proofs.Common.{◌≡◌, ◌≢◌, ℕ, Bool, true, false, cond, not, ◌||◌, ◌==◌, List, [], ◌∷◌, refl, sym, subst}
use Rattle.std.specs.List.{list_all}
use Rattle.std.proofs.lemmas.Bool.{and_parts, and_from, or_left, or_right, eqb-true, eqb-false}
use Rattle.term_core.specs.Term.{EndsWithoutDot}
use Rattle.query_text.specs.Tokens.{IsDotted}

-- the rest goes on with a name whose last character was a dot or not
abbrev pub dotted : (ℕ → Bool) → Bool → List ℕ → Bool
dotted class dot [] = not dot
dotted class dot (c ∷ cs) = cond (c == 46) (dotted class true cs) (cond (class c) (dotted class false cs) false)

abbrev pub EndsIn : Bool → List ℕ → Type 0
EndsIn true cs = EndsWithoutDot (46 ∷ cs)
EndsIn false cs = EndsWithoutDot cs

abbrev with_dot : (ℕ → Bool) → ℕ → Bool
with_dot class d = class d || d == 46

record IsRest (class : ℕ → Bool) (dot : Bool) (cs : List ℕ) : Type 0 where
  each : list_all (with_dot class) cs ≡ true
  ends : EndsIn dot cs

ends_dot : (dot : Bool) (cs : List ℕ) → EndsIn true cs → EndsIn dot (46 ∷ cs)
ends_dot true cs h = h
ends_dot false cs h = h

dot_ends : (dot : Bool) (cs : List ℕ) → EndsIn dot (46 ∷ cs) → EndsIn true cs
dot_ends true cs h = h
dot_ends false cs h = h

onto : (c : ℕ) (cs : List ℕ) → c ≢ 46 → EndsWithoutDot cs → EndsWithoutDot (c ∷ cs)
onto c [] ne h = ne
onto c (d ∷ ds) ne h = h

off : (c : ℕ) (cs : List ℕ) → EndsWithoutDot (c ∷ cs) → EndsWithoutDot cs
off c [] h = tt
off c (d ∷ ds) h = h

ends_other : (dot : Bool) (c : ℕ) (cs : List ℕ) → c ≢ 46 → EndsIn false cs → EndsIn dot (c ∷ cs)
ends_other true c cs ne h = onto c cs ne h
ends_other false c cs ne h = onto c cs ne h

other_ends : (dot : Bool) (c : ℕ) (cs : List ℕ) → EndsIn dot (c ∷ cs) → EndsIn false cs
other_ends true c cs h = off c cs h
other_ends false c cs h = off c cs h

rest_takes : (class : ℕ → Bool) (cs : List ℕ) (dot : Bool) → dotted class dot cs ≡ true → IsRest class dot cs
rest_takes class [] true h = absurd cc
rest_takes class [] false h = record { each = refl; ends = tt }
rest_takes class (c ∷ cs) dot h = by (c == 46) (class c) refl refl h (rest_takes class cs)
  where
    by : (is_dot is_in : Bool) → (c == 46) ≡ is_dot → class c ≡ is_in → cond is_dot (dotted class true cs) (cond is_in (dotted class false cs) false) ≡ true
        → ((d : Bool) → dotted class d cs ≡ true → IsRest class d cs) → IsRest class dot (c ∷ cs)
    by true is_in p q h again =
        let r = again true h in
        record {
          each = and_from (with_dot class c) (list_all (with_dot class) cs) (or_right (class c) (c == 46) p) r.each;
          ends = subst (λ (x : ℕ). EndsIn dot (x ∷ cs)) (sym (eqb-true c 46 p)) (ends_dot dot cs r.ends);
        }
    by false true p q h again =
        let r = again false h in
        record {
          each = and_from (with_dot class c) (list_all (with_dot class) cs) (or_left (class c) (c == 46) q) r.each;
          ends = ends_other dot c cs (eqb-false c 46 p) r.ends;
        }
    by false false p q h again = absurd cc

rest_again : (class : ℕ → Bool) (cs : List ℕ) (dot : Bool) → list_all (with_dot class) cs ≡ true → EndsIn dot cs → dotted class dot cs ≡ true
rest_again class [] true each ends = absurd (ends refl)
rest_again class [] false each ends = refl
rest_again class (c ∷ cs) dot each ends = by (c == 46) (class c) refl refl (and_parts (with_dot class c) (list_all (with_dot class) cs) each)
    (rest_again class cs)
  where
    by : (is_dot is_in : Bool) → (c == 46) ≡ is_dot → class c ≡ is_in → ((with_dot class c ≡ true) × (list_all (with_dot class) cs ≡ true))
        → ((d : Bool) → list_all (with_dot class) cs ≡ true → EndsIn d cs → dotted class d cs ≡ true)
        → cond is_dot (dotted class true cs) (cond is_in (dotted class false cs) false) ≡ true
    by true is_in p q parts again = again true parts.1 (dot_ends dot cs (subst (λ (x : ℕ). EndsIn dot (x ∷ cs)) (eqb-true c 46 p) ends))
    by false true p q parts again = again false parts.1 (other_ends dot c cs ends)
    by false false p q parts again = let none : (class c || (c == 46)) ≡ true = parts.0 in absurd cc

pub dotted_takes : (begins class : ℕ → Bool) (c : ℕ) (cs : List ℕ) → begins c ≡ true → dotted class false cs ≡ true → IsDotted begins class (c ∷ cs)
dotted_takes begins class c cs first h = let r = rest_takes class cs false h in (first, r.each, r.ends)

pub dotted_again : (begins class : ℕ → Bool) (c : ℕ) (cs : List ℕ) → IsDotted begins class (c ∷ cs) → (begins c ≡ true) × (dotted class false cs ≡ true)
dotted_again begins class c cs h = (h.0, rest_again class cs false h.1 h.2)
