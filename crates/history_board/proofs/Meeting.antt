-- What is known of a view after it took in another and looked.
use Rattle.std.proofs.Common.{◌≡◌, ℕ, true, false, if◌then◌else◌, List, [], ◌∷◌, length, refl, sym, ap, ◌∙◌, subst, arith}
use Rattle.std.specs.Prelude.{Contains}
use mathlib.Core.List.{IsPrefix}
use Rattle.atomic_table.specs.Table.{Me}
use Rattle.history_board.specs.declared.view.View.{View}
use Rattle.history_board.specs.Bearings.{longer}
use Rattle.history_board.specs.Views.{joined}
use Rattle.history_board.specs.Steps.{Sound, IsFound, Looks}
use Rattle.history_board.proofs.Prefixes.{prefix_shorter, longest, longer_whole}

module _ {E : Type 0} where
  first_of_two : (x y : List E) → Contains (x ∷ y ∷ []) x
  first_of_two x y = (0, omega arith, refl)

  second_of_two : (x y : List E) → Contains (x ∷ y ∷ []) y
  second_of_two x y = (1, omega arith, refl)

  -- the view m has taken in w, which v had not
  pub record HasMet (v w m : View E) : Type 0 where
    pub longer_is : m.seen ≡ longer v.seen w.seen
    pub this : IsPrefix v.seen m.seen
    pub that : IsPrefix w.seen m.seen

  module _ (session_of command_of : E → ℕ) where
    has_met : (found : ℕ) (v w m : View E) → v.is_keeper ≡ false → m.seen ≡ (joined v w).seen → IsFound session_of command_of found (joined v w) → HasMet v w m
    has_met found v w m plain seen is =
        let all : m.seen ≡ longer v.seen w.seen = seen ∙ ap (λ b. if b then v.seen else longer v.seen w.seen) plain in
        let within : IsPrefix m.seen is.history = subst (λ l. IsPrefix l is.history) (sym seen) is.seen in
        let n = ap length all in
        let both = longest v.seen w.seen in record {
          longer_is = all;
          this = prefix_shorter v.seen m.seen is.history (is.olds v.seen (first_of_two v.seen w.seen)) within (let a = both.0 in omega arith);
          that = prefix_shorter w.seen m.seen is.history (is.olds w.seen (second_of_two v.seen w.seen)) within (let a = both.1 in omega arith);
        }

    pub met : (me between after : Me ℕ (View E)) (w : View E) (found : ℕ) → me.0.is_keeper ≡ false → between ≡ (joined me.0 w, me.1) → Looks session_of command_of between found after → HasMet me.0 w after.0
    met me between after w found plain joins looks =
        let mid : between.0 ≡ joined me.0 w = ap (λ (m : Me ℕ (View E)). m.0) joins in
        let end : after.0 ≡ record between.0 { olds = [] } = ap (λ (m : Me ℕ (View E)). m.0) looks.0 in
        has_met found me.0 w after.0 plain (ap (λ (u : View E). u.seen) end ∙ ap (λ (u : View E). u.seen) mid) (subst (IsFound session_of command_of found) mid looks.1)

    -- the keeper's view after a step and a look: nothing is put together in it, and it is sound
    pub record HasLooked (w : View E) (l : List (ℕ × ℕ)) (after : Me ℕ (View E)) : Type 0 where
      pub is : after ≡ (record w { olds = [] }, l)
      pub sound : Sound session_of command_of after.0

    pub looked : (between after : Me ℕ (View E)) (w : View E) (l : List (ℕ × ℕ)) (found : ℕ) → w.is_keeper ≡ true → between ≡ (w, l) → Looks session_of command_of between found after → HasLooked w l after
    looked between after w l found key is looks =
        let mid : between.0 ≡ w = ap (λ (m : Me ℕ (View E)). m.0) is in
        let at : between.0.is_keeper ≡ true = ap (λ (u : View E). u.is_keeper) mid ∙ key in
        let end : after.0 ≡ record between.0 { olds = [] } = ap (λ (m : Me ℕ (View E)). m.0) looks.0 in
        record {
          is = looks.0 ∙ ap (λ (m : Me ℕ (View E)). (record m.0 { olds = [] }, m.1)) is;
          sound = subst (λ (u : View E). Sound session_of command_of u) (sym end) (looks.1.keeper at).1;
        }

    -- what the keeper took in had seen a beginning of its history
    pub took : (between after : Me ℕ (View E)) (v w : View E) (l : List (ℕ × ℕ)) (found : ℕ) → v.is_keeper ≡ true → between ≡ (joined v w, l) → Looks session_of command_of between found after → IsPrefix w.seen v.seen
    took between after v w l found key is looks =
        let mid : between.0 ≡ joined v w = ap (λ (m : Me ℕ (View E)). m.0) is in
        let f = subst (IsFound session_of command_of found) mid looks.1 in
        let whole = (f.keeper key).0 ∙ ap (λ b. if b then v.seen else longer v.seen w.seen) key in
        subst (λ h. IsPrefix w.seen h) whole (f.olds w.seen (second_of_two v.seen w.seen))

    -- a note that took in one which had seen all
    pub whole : (between after : Me ℕ (View E)) (n b : View E) (l : List (ℕ × ℕ)) (found : ℕ) → n.is_keeper ≡ false → between ≡ (joined n b, l) → Looks session_of command_of between found after → IsPrefix n.seen b.seen → after.0.seen ≡ b.seen
    whole between after n b l found plain is looks begins =
        ap (λ (m : Me ℕ (View E)). m.0.seen) looks.0 ∙ (ap (λ (m : Me ℕ (View E)). m.0.seen) is ∙ (ap (λ c. if c then n.seen else longer n.seen b.seen) plain ∙ longer_whole n.seen b.seen begins))
