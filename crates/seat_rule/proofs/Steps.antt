-- What each kind of step owes, so that the rule holds after it. None of it sees a list of views or the number of a seat.
use Rattle.std.proofs.Common.{◌≡◌, ℕ, zero, suc, ◌<◌, Bool, true, false, List, [], ◌∷◌, ◌++◌, set, refl, sym, ◌∙◌, subst, ⊎_elim}
use Rattle.std.specs.Prelude.{slice_index}
use Rattle.std.proofs.lemmas.List.{set-get_or}
use mathlib.Core.Option.{some, some-ne-none, some-injective}
use lib.ListN.{get_elem?}
use Rattle.atomic_table.specs.Table.{Me, keeps, State, Allows, Splits, Joins}
use Rattle.atomic_table.proofs.Lists.{set_else}
use Rattle.seat_rule.specs.Pairs.{IsLive, IsKept, PairRule}
use Rattle.seat_rule.proofs.Seats.{Turned, Added, Dropped, Without, turned, added, dropped, merged}

module _ {V : Type 0} (is_live : V → Bool) (Base : List ℕ → Type 0) (Fits : List ℕ → V → Type 0) (Apart : V → V → Type 0) where
  -- a step that may write: the view of its seat is `v` before it, and the words are these
  pub record Turn (words after : List ℕ) (v : V) (Told : V → Type 0) : Type 0 where
    pub next : V
    pub lives : is_live next ≡ true
    pub base : Base after
    pub fits : Fits after next
    -- any other view fits as before, and is as far from the new view as from the old
    pub others : (u : V) → Fits words u → Apart v u → Fits after u × Apart next u
    pub told : Told next

  -- a step that reads alone
  pub record Read (words : List ℕ) (v : V) (Told : V → Type 0) : Type 0 where
    pub next : V
    pub lives : is_live next ≡ true
    pub fits : Fits words next
    pub others : (u : V) → Fits words u → Apart v u → Apart next u
    pub told : Told next

  -- a view is cut in two
  pub record Cut (words : List ℕ) (v left right : V) : Type 0 where
    pub lives : (is_live left ≡ true) × (is_live right ≡ true)
    pub fits : Fits words left × Fits words right
    pub apart : Apart left right
    pub others : (u : V) → Fits words u → Apart v u → Apart left u × Apart right u

  -- two views are put together
  pub record Merge (words : List ℕ) (v w both : V) : Type 0 where
    pub lives : is_live both ≡ true
    pub fits : Fits words both
    pub others : (u : V) → Fits words u → Apart v u → Apart w u → Apart both u

  -- a new table keeps the rule
  pub begins : (words : List ℕ) (v : V) → Base words → Fits words v → PairRule Base Fits Apart is_live words (v ∷ [])
  begins words v base fits = record {
    base = base;
    each = λ seat u at. subst (Fits words) (is seat u at.0) fits;
    pair = λ seat other u w ne at there. absurd (ne (only seat u at.0 ∙ sym (only other w there.0)));
  }
    where
      only : (seat : ℕ) (u : V) → get_elem? (v ∷ []) seat ≡ some u → seat ≡ 0
      only zero u e = refl
      only (suc seat) u e = absurd (some-ne-none u (sym e))

      is : (seat : ℕ) (u : V) → get_elem? (v ∷ []) seat ≡ some u → v ≡ u
      is zero u e = some-injective v u e
      is (suc seat) u e = absurd (some-ne-none u (sym e))

  module _ (flips : (v w : V) → Apart v w → Apart w v) where
    abbrev Kept : List ℕ → (ℕ → V → Type 0) → Type 0
    Kept = IsKept Base Fits Apart

    module _ (words : List ℕ) (At After : ℕ → V → Type 0) (kept : Kept words At) where
      kept_turned : (after : List ℕ) (id : ℕ) (v w : V) → At id v → Turned At After id w → Base after → Fits after w → ((u : V) → Fits words u → Apart v u → Fits after u × Apart w u) → Kept after After
      kept_turned after id v w at t base fits others =
          let other : (seat : ℕ) (u : V) → ¬ (seat ≡ id) → At seat u → Fits after u × Apart w u = λ seat u ne l. others u (kept.each seat u l) (kept.pair id seat v u (λ e. ne (sym e)) at l) in record {
            base = base;
            each = λ seat u l. ⊎_elim (λ e. subst (Fits after) e.1 fits) (λ e. (other seat u e.0 e.1).0) (t.cases seat u l);
            pair = λ seat further x y ne l l'. ⊎_elim
                (λ e. ⊎_elim
                (λ e'. absurd (ne (e.0 ∙ sym e'.0)))
                (λ e'. subst (λ (z : V). Apart z y) e.1 (other further y e'.0 e'.1).1)
                (t.cases further y l'))
                (λ e. ⊎_elim
                (λ e'. subst (λ (z : V). Apart x z) e'.1 (flips w x (other seat x e.0 e.1).1))
                (λ e'. kept.pair seat further x y ne e.1 e'.1)
                (t.cases further y l'))
                (t.cases seat x l);
          }

      kept_added : (new : ℕ) (r : V) → Added At After new r → Fits words r → ((seat : ℕ) (u : V) → At seat u → Apart r u) → Kept words After
      kept_added new r t fits others = record {
        base = kept.base;
        each = λ seat u l. ⊎_elim (λ e. subst (Fits words) e.1 fits) (λ e. kept.each seat u e.1) (t.cases seat u l);
        pair = λ seat further x y ne l l'. ⊎_elim
            (λ e. ⊎_elim
            (λ e'. absurd (ne (e.0 ∙ sym e'.0)))
            (λ e'. subst (λ (z : V). Apart z y) e.1 (others further y e'.1))
            (t.cases further y l'))
            (λ e. ⊎_elim
            (λ e'. subst (λ (z : V). Apart x z) e'.1 (flips r x (others seat x e.1)))
            (λ e'. kept.pair seat further x y ne e.1 e'.1)
            (t.cases further y l'))
            (t.cases seat x l);
      }

      kept_dropped : (gone : ℕ) → Dropped At After gone → Kept words After
      kept_dropped gone t = record {
        base = kept.base;
        each = λ seat u l. kept.each seat u (t.cases seat u l).1;
        pair = λ seat further x y ne l l'. kept.pair seat further x y ne (t.cases seat x l).1 (t.cases further y l').1;
      }

    module _ {S : Type 0} where
      abbrev pub Ruled : State S V → Type 0
      Ruled s = PairRule Base Fits Apart is_live s.words s.views

      turns_alone : (slots id : ℕ) (v : V) (i : ℕ) (f : ℕ → ℕ) (Told : ℕ → Me S V → Type 0) → is_live v ≡ true
          → ((words : List ℕ) → Base words → Fits words v → slice_index words i < 18446744073709551616 → Turn words (set words i (f (slice_index words i))) v (λ next. Told (slice_index words i) (next, [])))
          → Allows {S = S} {V = V} Ruled slots id (v, []) i f Told
      turns_alone slots id v i f Told lives owes s rule homes at small =
          let o = owes s.words rule.base (rule.each id v (at, lives)) small in
          let t = turned is_live s.views id v o.next at o.lives in
          (o.next, keeps, tt, kept_turned s.words _ _ rule _ id v o.next (at, lives) t o.base o.fits o.others, o.told)

      -- a step on the word i, which becomes f of what it was
      pub turns : (slots id : ℕ) (me : Me S V) (i : ℕ) (f : ℕ → ℕ) (Told : ℕ → Me S V → Type 0) → me.1 ≡ [] → is_live me.0 ≡ true
          → ((words : List ℕ) → Base words → Fits words me.0 → slice_index words i < 18446744073709551616 → Turn words (set words i (f (slice_index words i))) me.0 (λ next. Told (slice_index words i) (next, [])))
          → Allows {S = S} {V = V} Ruled slots id me i f Told
      turns slots id me i f Told none lives owes = subst (λ (l : List (ℕ × S)). Allows {S = S} {V = V} Ruled slots id (me.0, l) i f Told) (sym none) (turns_alone slots id me.0 i f Told lives owes)

      -- a load of the word i
      pub reads : (slots id : ℕ) (me : Me S V) (i : ℕ) (Told : ℕ → Me S V → Type 0) → me.1 ≡ [] → is_live me.0 ≡ true
          → ((words : List ℕ) → Base words → Fits words me.0 → slice_index words i < 18446744073709551616 → Read words me.0 (λ next. Told (slice_index words i) (next, [])))
          → Allows {S = S} {V = V} Ruled slots id me i (λ n. n) Told
      reads slots id me i Told none lives owes = turns slots id me i (λ n. n) Told none lives (λ words base fits small.
          let o = owes words base fits small in
          let same : words ≡ set words i (slice_index words i) = sym (set-get_or words i 0) in
          record {
            next = o.next;
            lives = o.lives;
            base = subst Base same base;
            fits = subst (λ l. Fits l o.next) same o.fits;
            others = λ u h a. (subst (λ l. Fits l u) same h, o.others u h a);
            told = o.told;
          })

      pub cuts : (id : ℕ) (v left right : V) → is_live v ≡ true → ((words : List ℕ) → Base words → Fits words v → Cut words v left right) → Splits {S = S} {V = V} Ruled id v left right
      cuts id v left right lives owes s rule at =
          let c = owes s.words rule.base (rule.each id v (at, lives)) in
          let t = turned is_live s.views id v left at c.lives.0 in
          let a = added is_live (set s.views id left) right c.lives.1 in
          let mid = kept_turned s.words _ _ rule s.words id v left (at, lives) t rule.base c.fits.0 (λ u h x. (h, (c.others u h x).0)) in
          kept_added s.words _ _ mid _ right a c.fits.1 (λ seat u l. ⊎_elim
          (λ e. subst (λ (z : V). Apart right z) e.1 (flips left right c.apart))
          (λ e. (c.others u (rule.each seat u e.1) (rule.pair id seat v u (λ x. e.0 (sym x)) (at, lives) e.1)).1)
          (t.cases seat u l))

      pub merges : (id : ℕ) (v : V) (other : ℕ) (w both spent : V) → is_live v ≡ true → is_live w ≡ true → is_live spent ≡ false
          → ((words : List ℕ) → Base words → Fits words v → Fits words w → Apart v w → Merge words v w both) → Joins {S = S} {V = V} Ruled id v other w both spent
      merges id v other w both spent lives lives' gone owes s rule at apart there =
          let here : IsLive is_live s.views id v = (at, lives) in
          let that : IsLive is_live s.views other w = (sym (set_else s.views id other both apart) ∙ there, lives') in
          let m = owes s.words rule.base (rule.each id v here) (rule.each other w that) (rule.pair id other v w (λ e. apart (sym e)) here that) in
          let d = dropped (IsLive is_live s.views) other in
          let t = merged is_live s.views id other v both spent at apart m.lives gone in
          record {
            base = rule.base;
            each = λ seat u l. ⊎_elim (λ e. subst (Fits s.words) e.1 m.fits) (λ e. rule.each seat u e.1.1) (t.cases seat u l);
            pair = λ seat further x y ne l l'. ⊎_elim
                (λ e. ⊎_elim
                (λ e'. absurd (ne (e.0 ∙ sym e'.0)))
                (λ e'. subst (λ (z : V). Apart z y) e.1 (far s.words rule m here that further y e'.0 e'.1))
                (t.cases further y l'))
                (λ e. ⊎_elim
                (λ e'. subst (λ (z : V). Apart x z) e'.1 (flips both x (far s.words rule m here that seat x e.0 e.1)))
                (λ e'. rule.pair seat further x y ne e.1.1 e'.1.1)
                (t.cases further y l'))
                (t.cases seat x l);
          }
        where
          far : (words : List ℕ) (rule : PairRule Base Fits Apart is_live words s.views) → Merge words v w both → IsLive is_live s.views id v → IsLive is_live s.views other w → (seat : ℕ) (u : V) → ¬ (seat ≡ id) → Without (IsLive is_live s.views) other seat u → Apart both u
          far words rule m here that seat u ne l = m.others u (rule.each seat u l.1) (rule.pair id seat v u (λ e. ne (sym e)) here l.1) (rule.pair other seat w u (λ e. l.0 (sym e)) that l.1)
