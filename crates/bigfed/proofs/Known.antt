-- The term of an id, and what is made of one more element.
use Rattle.std.proofs.Common.{◌≡◌, ℕ, zero, suc, ◌+◌, ◌<◌, List, [], ◌∷◌, ◌++◌, length, map, take, get_or, Option, Some, None, refl, sym, ◌∙◌, ap}
use Rattle.std.proofs.lemmas.List.{take_more}
use Rattle.term_core.specs.declared.term.Term.{Term}
use Rattle.change_model.specs.History.{History}
use Rattle.bigfed.specs.Indexed.{IsTermOf}
use Rattle.bigfed.specs.Solving.{term_at}

-- a term that is looked up is the id's
pub term_is : (history : History) (id : ℕ) (found : Option Term) → IsTermOf history id found → found ≡ term_at history id
term_is history id (Some term) (place, at, is) = sym at ∙ ap (term_at history) (sym is)
term_is history zero None none = refl
term_is history (suc place) None none = by (term_at history (suc place)) refl
  where
    by : (found : Option Term) → term_at history (suc place) ≡ found → None ≡ found
    by None e = refl
    by (Some term) e = absurd (none term (place, e, refl))

-- ---- what is made of one more element

map_push : {A B : Type 0} (f : A → B) (xs : List A) (x : A) → map f (xs ++ x ∷ []) ≡ map f xs ++ f x ∷ []
map_push f [] x = refl
map_push f (first ∷ xs) x = ap (λ ys. f first ∷ ys) (map_push f xs x)

pub made_more : {A B : Type 0} (f : A → B) (all : List A) (i : ℕ) (d : A) (made new : List B) (y : B) → i < length all → made ≡ map f (take i all)
    → new ≡ made ++ y ∷ [] → y ≡ f (get_or all i d) → new ≡ map f (take (i + 1) all)
made_more f all i d made new y below so_far pushed is =
    pushed ∙ (λ j. so_far j ++ is j ∷ []) ∙ sym (map_push f (take i all) (get_or all i d)) ∙ ap (map f) (sym (take_more all i d below))
