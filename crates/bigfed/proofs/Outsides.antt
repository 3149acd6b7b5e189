-- What a sink took and what a shelf gave, one call after another.
use Rattle.std.proofs.Common.{◌≡◌, ℕ, ◌<◌, ◌≤◌, Bool, true, false, List, [], ◌∷◌, ◌++◌, length, Option, Some, None, refl, sym, ◌∙◌, ap, subst, arith, nat_lt, cond, inl, inr, append_assoc, length-append, ◌^◌}
use Rattle.std.proofs.lemmas.Bool.{le-ltb, lt-ltb, ltb-false}
use Rattle.base_core.specs.Faults.{HasRisen}
use Rattle.work_text.specs.Outside.{IsTaken, IsRead, IsFound, IsFetched, IsDocOf, IsWithin, read_up_to, document_named}
use Rattle.bigfed.specs.Reading.{IsPartly, IsWhole}
use Rattle.work_text.specs.declared.docs.Doc.{Doc}
use Rattle.work_text.specs.declared.docs.Doc.TheVariants.{Bytes, Missing, TooLarge}

append-nil : (xs : List ℕ) → xs ≡ xs ++ []
append-nil [] = refl
append-nil (x ∷ xs) = ap (λ rest. x ∷ rest) (append-nil xs)

-- a sink that was not called took nothing
pub IsTaken-none : (taken : Option (List ℕ)) → IsTaken taken taken []
IsTaken-none None = tt
IsTaken-none (Some bytes) = append-nil bytes

-- a sink took one piece and then another
pub IsTaken-more : (old between new : Option (List ℕ)) (front piece : List ℕ) → IsTaken old between front → IsTaken between new piece → IsTaken old new (front ++ piece)
IsTaken-more None between new front piece first then = tt
IsTaken-more (Some old) None new front piece first then = absurd first
IsTaken-more (Some old) (Some between) None front piece first then = absurd then
IsTaken-more (Some old) (Some between) (Some new) front piece first then =
    then ∙ ap (λ bytes. bytes ++ piece) first ∙ append_assoc old front piece

-- a count that has risen before has risen now
pub HasRisen-later : (before between now : ℕ) → between ≤ now → now < 2 ^ 64 → HasRisen before between → HasRisen before now
HasRisen-later before between now later fits (inl risen) = inl (omega arith)
HasRisen-later before between now later fits (inr last) = inr (omega arith)

pub HasRisen-earlier : (before between now : ℕ) → before ≤ between → HasRisen between now → HasRisen before now
HasRisen-earlier before between now later (inl risen) = inl (omega arith)
HasRisen-earlier before between now later (inr last) = inr last

-- a document that was read is within the limit
pub IsDocOf-within : (told : Option (List (List ℕ × List ℕ))) (limit : ℕ) (name : List ℕ) (doc : Doc) → IsDocOf told limit name doc → IsWithin limit doc
IsDocOf-within None limit name doc h = h
IsDocOf-within (Some documents) limit name doc h = subst (IsWithin limit) (sym h) (within (document_named documents name))
  where
    choose : (bytes : List ℕ) (over : Bool) → nat_lt limit (length bytes) ≡ over → IsWithin limit (cond over TooLarge (Bytes bytes))
    choose bytes true is = tt
    choose bytes false is = omega (arith, ltb-false limit (length bytes) is)

    within : (found : Option (List ℕ)) → IsWithin limit (read_up_to limit found)
    within None = tt
    within (Some bytes) = choose bytes (nat_lt limit (length bytes)) refl

-- one more chunk of a document that is being read
pub IsPartly-more : (told : Option (List (List ℕ × List ℕ))) (name bytes chunk : List ℕ) (old new : Option (List ℕ)) → IsPartly told name bytes old → IsRead old new chunk → IsPartly told name (bytes ++ chunk) new
IsPartly-more None name bytes chunk old new partly read = tt
IsPartly-more (Some documents) name bytes chunk None new partly read = absurd (none partly)
  where
    none : (rest : List ℕ) × (None ≡ Some rest) × (document_named documents name ≡ Some (bytes ++ rest)) → ⊥
    none (rest, is, named) = cc
IsPartly-more (Some documents) name bytes chunk (Some left) None partly read = absurd read
IsPartly-more (Some documents) name bytes chunk (Some left) (Some behind) (rest, is, named) read =
    (behind, refl, named ∙ ap (λ all. Some (bytes ++ all)) (some_inj (sym is) ∙ read.0) ∙ ap Some (sym (append_assoc bytes chunk behind)))
  where
    some_inj : {x y : List ℕ} → Some x ≡ Some y → x ≡ y
    some_inj e = cc

-- where nothing is left the bytes are the document
pub IsPartly-end : (told : Option (List (List ℕ × List ℕ))) (name bytes : List ℕ) (old new : Option (List ℕ)) → IsPartly told name bytes old → IsRead old new [] → IsWhole told name bytes
IsPartly-end None name bytes old new partly read = tt
IsPartly-end (Some documents) name bytes None new (rest, is, named) read = cc
IsPartly-end (Some documents) name bytes (Some left) None partly read = absurd read
IsPartly-end (Some documents) name bytes (Some left) (Some behind) (rest, is, named) read =
    named ∙ ap (λ all. Some (bytes ++ all)) (some_inj (sym is) ∙ read.1 refl) ∙ ap Some (sym (append-nil bytes))
  where
    some_inj : {x y : List ℕ} → Some x ≡ Some y → x ≡ y
    some_inj e = cc

-- a whole document that is within the limit, and a part of one that isn't
pub IsDocOf-whole : (told : Option (List (List ℕ × List ℕ))) (limit : ℕ) (name bytes : List ℕ) → IsWhole told name bytes → length bytes ≤ limit → IsDocOf told limit name (Bytes bytes)
IsDocOf-whole None limit name bytes whole within = within
IsDocOf-whole (Some documents) limit name bytes whole within = rw whole (rw (le-ltb limit (length bytes) within) refl)

pub IsDocOf-over : (told : Option (List (List ℕ × List ℕ))) (limit : ℕ) (name bytes : List ℕ) (left : Option (List ℕ)) → IsPartly told name bytes left → limit < length bytes → IsDocOf told limit name TooLarge
IsDocOf-over None limit name bytes left partly over = tt
IsDocOf-over (Some documents) limit name bytes left (rest, is, named) over =
    rw named (rw (lt-ltb limit (length (bytes ++ rest)) (omega (arith, length-append bytes rest, over))) refl)

-- what a fetch says
pub IsPartly-fetched : (told : Option (List (List ℕ × List ℕ))) (name : List ℕ) (left : Option (List ℕ)) → IsFetched told name true left → IsPartly told name [] left
IsPartly-fetched None name left fetched = tt
IsPartly-fetched (Some documents) name left fetched = by (document_named documents name) refl fetched
  where
    by : (found : Option (List ℕ)) → document_named documents name ≡ found → IsFound found true left → (rest : List ℕ) × (left ≡ Some rest) × (document_named documents name ≡ Some ([] ++ rest))
    by None is h = cc
    by (Some bytes) is h = (bytes, h.1, is)

pub IsDocOf-missing : (told : Option (List (List ℕ × List ℕ))) (limit : ℕ) (name : List ℕ) (left : Option (List ℕ)) → IsFetched told name false left → IsDocOf told limit name Missing
IsDocOf-missing None limit name left fetched = tt
IsDocOf-missing (Some documents) limit name left fetched = by (document_named documents name) fetched
  where
    by : (found : Option (List ℕ)) → IsFound found false left → Missing ≡ read_up_to limit found
    by None h = refl
    by (Some bytes) h = cc
