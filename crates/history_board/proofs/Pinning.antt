-- The pins after each kind of step.
use Rattle.std.proofs.Common.{◌≡◌, ◌≢◌, ◌⊎◌, ℕ, ◌<◌, ◌≤◌, Bool, true, false, if◌then◌else◌, nat_lt, Option, None, Some, List, [], ◌∷◌, ◌++◌, length, set, refl, sym, ap, ◌∙◌, subst, inl, inr, ⊎_elim, arith}
use Rattle.std.specs.Prelude.{slice_get}
use Rattle.std.proofs.lemmas.Bool.Decides.{nat_tests}
use Rattle.history_board.specs.declared.view.View.{View}
use Rattle.history_board.specs.Pins.{IsOut, IsFree, put_out}
use Rattle.history_board.specs.HistoryRule.{IsPinOf, HoldsPins}
use Rattle.history_board.proofs.Places.{get_within, get_set, get_set_here, get_set_else, get_push, get_push_here, get_longer, one_value}
use Rattle.history_board.proofs.Seats.{Turned, Added, Dropped}

free_is_not_out : (out : List (Option ℕ)) (n t : ℕ) → IsFree out n → n < length out → IsOut out n t → ⊥
free_is_not_out out n t free h is = let e : None ≡ Some t = one_value out n None (Some t) (free.free h) is in cc e

put_cases_by : (out : List (Option ℕ)) (n t : ℕ) → IsFree out n → (b : Bool) → nat_lt n (length out) ≡ b → (m s : ℕ) → IsOut (if b then set out n (Some t) else out ++ Some t ∷ []) m s → ((m ≡ n) × (t ≡ s)) ⊎ IsOut out m s
put_cases_by out n t free true is m s e = ⊎_elim (λ h. let same : Some t ≡ Some s = h.1 in inl (h.0, cc same)) (λ h. inr h.1) (get_set out n m (Some t) (Some s) e)
put_cases_by out n t free false is m s e =
    let h : length out ≤ n = grind (arith, nat_tests) in
    let w = free.within in
    ⊎_elim (λ h'. let same : Some t ≡ Some s = h'.1 in let at : m ≡ length out = h'.0 in inl (omega arith, cc same)) (λ h'. inr h'.1) (get_push out (Some t) (Some s) m e)

put_here_by : (out : List (Option ℕ)) (n t : ℕ) → IsFree out n → (b : Bool) → nat_lt n (length out) ≡ b → IsOut (if b then set out n (Some t) else out ++ Some t ∷ []) n t
put_here_by out n t free true is = get_set_here out n (Some t) (grind (arith, nat_tests))
put_here_by out n t free false is =
    let h : length out ≤ n = grind (arith, nat_tests) in
    let w = free.within in
    let same : length out ≡ n = omega arith in
    subst (λ (k : ℕ). slice_get (out ++ Some t ∷ []) k ≡ Some (Some t)) same (get_push_here out (Some t))

put_stays_by : (out : List (Option ℕ)) (n t : ℕ) → IsFree out n → (b : Bool) → nat_lt n (length out) ≡ b → (m s : ℕ) → IsOut out m s → IsOut (if b then set out n (Some t) else out ++ Some t ∷ []) m s
put_stays_by out n t free true is m s e =
    let h : n < length out = grind (arith, nat_tests) in
    get_set_else out n m (Some t) (λ same. free_is_not_out out n s free h (subst (λ (k : ℕ). IsOut out k s) same e)) ∙ e
put_stays_by out n t free false is m s e = get_longer out (Some t ∷ []) m (Some s) e

pub put_cases : (out : List (Option ℕ)) (n t m s : ℕ) → IsFree out n → IsOut (put_out out n t) m s → ((m ≡ n) × (t ≡ s)) ⊎ IsOut out m s
put_cases out n t m s free e = put_cases_by out n t free (nat_lt n (length out)) refl m s e

pub put_here : (out : List (Option ℕ)) (n t : ℕ) → IsFree out n → IsOut (put_out out n t) n t
put_here out n t free = put_here_by out n t free (nat_lt n (length out)) refl

pub put_stays : (out : List (Option ℕ)) (n t m s : ℕ) → IsFree out n → IsOut out m s → IsOut (put_out out n t) m s
put_stays out n t m s free e = put_stays_by out n t free (nat_lt n (length out)) refl m s e

-- a free number is no pin's
pub free_number : (out : List (Option ℕ)) (n t : ℕ) → IsFree out n → IsOut out n t → ⊥
free_number out n t free is = free_is_not_out out n t free (get_within out n (Some t) is) is

module _ {E : Type 0} where
  -- a pin that has seen more is a pin still
  pub pin_on : (out : List (Option ℕ)) (v w : View E) → w.number ≡ v.number → w.time ≡ v.time → length v.seen ≤ length w.seen → w.floor_seen ≤ v.time → IsOut out v.number v.time → v.time ≤ length v.seen → IsPinOf out w
  pin_on out v w number time more floor is_out seen = record {
    is_out = ap (λ n. slice_get out n) number ∙ (is_out ∙ ap (λ t. Some (Some t)) (sym time));
    seen = omega arith;
    floor = omega arith;
  }

  module _ (At After : ℕ → View E → Type 0) (k : View E) (pins : HoldsPins At k) where
    pub pins_turned : (id : ℕ) (v w k' : View E) → Turned At After id w → At id v → w.is_pin ≡ v.is_pin → w.number ≡ v.number
        → ((n t : ℕ) → IsOut k'.out n t → (k'.floor ≤ t) × (t ≤ length k'.seen))
        → ((by : ℕ) (u : View E) → At by u → by ≢ id → u.is_pin ≡ true → IsOut k'.out u.number u.time)
        → (w.is_pin ≡ true → IsPinOf k'.out w)
        → HoldsPins After k'
    pins_turned id v w k' t at is_pin number within stays own = record {
      within = within;
      each = λ by u l pin. ⊎_elim
          (λ e. subst (IsPinOf k'.out) e.1 (own (ap (λ (z : View E). z.is_pin) e.1 ∙ pin)))
          (λ e. let p = pins.each by u e.1 pin in record { is_out = stays by u e.1 e.0 pin; seen = p.seen; floor = p.floor })
          (t.cases by u l);
      apart = λ by other x y l p l' p' same. ⊎_elim
          (λ e. ⊎_elim
          (λ e'. e.0 ∙ sym e'.0)
          (λ e'. e.0 ∙ pins.apart id other v y at (sym is_pin ∙ (ap (λ (z : View E). z.is_pin) e.1 ∙ p)) e'.1 p' (sym number ∙ (ap (λ (z : View E). z.number) e.1 ∙ same)))
          (t.cases other y l'))
          (λ e. ⊎_elim
          (λ e'. pins.apart by id x v e.1 p at (sym is_pin ∙ (ap (λ (z : View E). z.is_pin) e'.1 ∙ p')) (same ∙ (ap (λ (z : View E). z.number) (sym e'.1) ∙ number)) ∙ sym e'.0)
          (λ e'. pins.apart by other x y e.1 p e'.1 p' same)
          (t.cases other y l'))
          (t.cases by x l);
    }

    -- a step that gives out no pin and takes none back
    pub pins_stay : (id : ℕ) (v w k' : View E) → Turned At After id w → At id v → w.is_pin ≡ v.is_pin → w.number ≡ v.number → w.time ≡ v.time → length v.seen ≤ length w.seen → w.floor_seen ≤ k.floor
        → k'.out ≡ k.out → k'.floor ≡ k.floor → length k.seen ≤ length k'.seen → HoldsPins After k'
    pins_stay id v w k' t at is_pin number time more floor out floor_is longer_history = pins_turned id v w k' t at is_pin number
        (λ n s is. let p = pins.within n s (subst (λ l. IsOut l n s) out is) in let a = p.0 in let b = p.1 in (omega arith, omega arith))
        (λ by u l apart pin. subst (λ l. IsOut l u.number u.time) (sym out) (pins.each by u l pin).is_out)
        (λ pin. let p = pins.each id v at (sym is_pin ∙ pin) in
        let is : IsOut k'.out v.number v.time = subst (λ l. IsOut l v.number v.time) (sym out) p.is_out in
        let a = (pins.within v.number v.time p.is_out).0 in
        pin_on k'.out v w number time more (omega arith) is p.seen)

    pub pins_added : (new : ℕ) (r : View E) → Added At After new r
        → (r.is_pin ≡ true → IsPinOf k.out r)
        → ((by : ℕ) (u : View E) → r.is_pin ≡ true → At by u → u.is_pin ≡ true → u.number ≡ r.number → ⊥)
        → HoldsPins After k
    pins_added new r t own other_number = record {
      within = pins.within;
      each = λ by u l pin. ⊎_elim
          (λ e. subst (IsPinOf k.out) e.1 (own (ap (λ (z : View E). z.is_pin) e.1 ∙ pin)))
          (λ e. pins.each by u e.1 pin)
          (t.cases by u l);
      apart = λ by other x y l p l' p' same. ⊎_elim
          (λ e. ⊎_elim
          (λ e'. e.0 ∙ sym e'.0)
          (λ e'. absurd (other_number other y (ap (λ (z : View E). z.is_pin) e.1 ∙ p) e'.1 p' (sym same ∙ ap (λ (z : View E). z.number) (sym e.1))))
          (t.cases other y l'))
          (λ e. ⊎_elim
          (λ e'. absurd (other_number by x (ap (λ (z : View E). z.is_pin) e'.1 ∙ p') e.1 p (same ∙ ap (λ (z : View E). z.number) (sym e'.1))))
          (λ e'. pins.apart by other x y e.1 p e'.1 p' same)
          (t.cases other y l'))
          (t.cases by x l);
    }

    pub pins_dropped : (gone : ℕ) → Dropped At After gone → HoldsPins After k
    pins_dropped gone t = record {
      within = pins.within;
      each = λ by u l pin. pins.each by u (t.cases by u l).1 pin;
      apart = λ by other x y l p l' p' same. pins.apart by other x y (t.cases by x l).1 p (t.cases other y l').1 p' same;
    }
