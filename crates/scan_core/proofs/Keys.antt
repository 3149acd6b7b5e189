-- What a scan has read once it took a reply.
use Rattle.std.proofs.Common.{◌≡◌, ◌↔◌, ◌⊎◌, ◌∙◌, ℕ, List, Bool, true, false, not, refl, sym, ap, subst, inl, inr}
use Rattle.std.specs.Prelude.{Option, Some, None, IfSome}
use Rattle.std.specs.Ordering.{is_lt, is_le, nat_cmp}
use Rattle.std.specs.Cmp.Lexicographic.{slice_cmp}
use Rattle.fed_bytes.specs.declared.span.Span.{Span}
use Rattle.fed_bytes.specs.Keys.{IsBefore, IsUpTo, IsBeforeEnd, IsIn}
use Rattle.fed_bytes.proofs.Orders.{no_answer, turned, up_to-itself, up_to-chain, up_to_before, before_up_to, up_to_end}
use Rattle.row_core.proofs.Order.{before_is_up_to}
use Rattle.scan_core.specs.Parts.{read_end, GoesOn}

-- one key stands before another, or the other stands up to it
pub before_or_up_to : (a b : List ℕ) → IsBefore a b ⊎ IsUpTo b a
before_or_up_to a b = by (is_le (slice_cmp nat_cmp b a)) refl
  where
    by : (t : Bool) → is_le (slice_cmp nat_cmp b a) ≡ t → IsBefore a b ⊎ IsUpTo b a
    by true e = inr e
    by false e = inl (turned a b ∙ ap not e)

-- a key that is not before the end of a span stands behind those that are
not_before_end : (old : Span) (end key : List ℕ) → IsUpTo old.left end → ¬ IsIn old end → IsBeforeEnd key old.right → IsBefore key end
not_before_end old end key from out before = by old.right refl
  where
    by : (right : Option (List ℕ)) → old.right ≡ right → IsBefore key end
    by None e = absurd (out (from, subst (λ (r : Option (List ℕ)). IsBeforeEnd end r) (sym e) tt))
    by (Some r) e = behind (before_or_up_to end r)
      where
        behind : IsBefore end r ⊎ IsUpTo r end → IsBefore key end
        behind (inl b) = absurd (out (from, subst (λ (s : Option (List ℕ)). IsBeforeEnd end s) (sym e) b))
        behind (inr u) = before_up_to key r end (subst (λ (s : Option (List ℕ)). IsBeforeEnd key s) e before) u

-- a key of what is left was passed by the reply, if it stands before the end of what was read
passed : (old part : Span) (next : Option (List ℕ)) (key : List ℕ) → IsIn part old.left → IfSome next (IsIn part) → IsUpTo old.left key
    → IsBeforeEnd key (read_end next part.right) → IsIn part key × IsBeforeEnd key next
passed old part None key begins next from before = ((up_to-chain part.left old.left key begins.0 from, before), tt)
passed old part (Some n) key begins next from before =
    ((up_to-chain part.left old.left key begins.0 from, up_to_end key n part.right (before_is_up_to key n before) next.1), before)

passed_before : (part : Span) (next : Option (List ℕ)) (key : List ℕ) → IsIn part key × IsBeforeEnd key next → IsBeforeEnd key (read_end next part.right)
passed_before part None key p = p.0.1
passed_before part (Some n) key p = p.1

-- the end of what was read stands behind what is left begins with
end_behind : (old part : Span) (next : Option (List ℕ)) (end : List ℕ) → read_end next part.right ≡ Some end → IsIn part old.left
    → ((key : List ℕ) → IsIn part key → IsIn old key) → IfSome next (IsIn part) → IsUpTo old.left end
end_behind old part None end is begins within next =
    before_is_up_to old.left end (subst (λ (r : Option (List ℕ)). IsBeforeEnd old.left r) is begins.1)
end_behind old part (Some n) end is begins within next = (within end (subst (λ (s : Option (List ℕ)). IfSome s (IsIn part)) is next)).0

-- Of the keys of the span, those that were read are those from before, and those that the reply passed.
pub took : (old new part : Span) (next : Option (List ℕ)) (was is : Bool) (key : List ℕ) → was ≡ false
    → GoesOn old (read_end next part.right) new is → IsIn part old.left → ((k : List ℕ) → IsIn part k → IsIn old k) → IfSome next (IsIn part)
    → IsBeforeEnd key old.right
    → (((is ≡ true) ⊎ IsBefore key new.left) ↔ (((was ≡ true) ⊎ IsBefore key old.left) ⊎ (IsIn part key × IsBeforeEnd key next)))
took old new part next was is key unfinished goes begins within next_in before = by (read_end next part.right) refl is refl goes
  where
    here : IsUpTo old.left key → IsBeforeEnd key (read_end next part.right) → IsIn part key × IsBeforeEnd key next
    here from upto = passed old part next key begins next_in from upto

    split : ((end : Option (List ℕ)) → read_end next part.right ≡ end → IsBeforeEnd key end) →
        ((was ≡ true) ⊎ IsBefore key old.left) ⊎ (IsIn part key × IsBeforeEnd key next)
    split upto = either (before_or_up_to key old.left)
      where
        either : IsBefore key old.left ⊎ IsUpTo old.left key → ((was ≡ true) ⊎ IsBefore key old.left) ⊎ (IsIn part key × IsBeforeEnd key next)
        either (inl b) = inl (inr b)
        either (inr u) = inr (here u (upto _ refl))

    back : (end : List ℕ) → read_end next part.right ≡ Some end → IsUpTo old.left end
        → ((was ≡ true) ⊎ IsBefore key old.left) ⊎ (IsIn part key × IsBeforeEnd key next) → IsBefore key end
    back end e from (inl (inl w)) = no_answer (sym unfinished ∙ w)
    back end e from (inl (inr b)) = before_up_to key old.left end b from
    back end e from (inr p) = subst (λ (r : Option (List ℕ)). IsBeforeEnd key r) e (passed_before part next key p)

    by : (end : Option (List ℕ)) → read_end next part.right ≡ end → (done : Bool) → is ≡ done → GoesOn old end new done
        → (((is ≡ true) ⊎ IsBefore key new.left) ↔ (((was ≡ true) ⊎ IsBefore key old.left) ⊎ (IsIn part key × IsBeforeEnd key next)))
    by None e done d g = (
      λ _. split (λ end at. subst (λ (r : Option (List ℕ)). IsBeforeEnd key r) (sym e ∙ at) tt),
      λ _. inl (d ∙ g.0),
    )
    by (Some end) e true d g = (
      λ _. split (λ other at. subst (λ (r : Option (List ℕ)). IsBeforeEnd key r) (sym e ∙ at)
          (not_before_end old end key (end_behind old part next end e begins within next_in) g.0 before)),
      λ _. inl d,
    )
    by (Some end) e false d g = (
      λ r. split (λ other at. subst (λ (s : Option (List ℕ)). IsBeforeEnd key s) (sym e ∙ at) (now r)),
      λ r. inr (subst (λ (s : Span). IsBefore key s.left) (sym g.1) (back end e (end_behind old part next end e begins within next_in) r)),
    )
      where
        now : (is ≡ true) ⊎ IsBefore key new.left → IsBefore key end
        now (inl t) = no_answer (sym d ∙ t)
        now (inr b) = subst (λ (s : Span). IsBefore key s.left) g.1 b
