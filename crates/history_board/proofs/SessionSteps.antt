-- The sessions after each kind of step.
use Rattle.std.proofs.Common.{◌≡◌, ◌≢◌, ◌⊎◌, ℕ, zero, suc, not, ◌<◌, ◌≤◌, ◌==◌, true, false, true≢false, None, Some, List, [], ◌∷◌, ◌++◌, length, refl, sym, ap, ◌∙◌, subst, inl, inr, ⊎_elim, arith}
use Rattle.std.specs.Prelude.{Contains}
use Rattle.std.proofs.lemmas.List.Elements.{Contains-append_left, Contains-append_right, Contains-append_cases}
use mathlib.Core.Logic.{dite}
use native.Mathlib.Decide.{ℕ_discrete}
use Rattle.history_board.specs.declared.view.View.{View}
use Rattle.history_board.specs.declared.view.Bearing.{Bearing}
use Rattle.history_board.specs.declared.view.Enrolment.{Enrolment}
use Rattle.history_board.specs.Bearings.{since_of, borne, others, Bears, newcomer, unsure_of, IsBorne, IsAccounted}
use Rattle.history_board.specs.Views.{unburdened, bearer, handed, hands, enrolled, enrols}
use Rattle.history_board.specs.HistoryRule.{AllBorne, IsBorneBySome, HoldsSessions}
use Rattle.history_board.proofs.Members.{none_in, one_of_one, has_first, length-filter_le, mapped, mapped_from}
use Rattle.history_board.proofs.Places.{get_within}
use Rattle.history_board.proofs.Seats.{Turned, Added, Dropped}
use Rattle.history_board.proofs.Bearings.{since_else, since_here, still_enrolled, borne_is, is_borne, others_are, is_other, borne-filter_le, borne-map, borne-append, bears_it, without_has}

along : {A B C : Type 0} (P : A → B → C → Type 0) (a a' : A) (b b' : B) (c c' : C) → a ≡ a' → b ≡ b' → c ≡ c' → P a b c → P a' b' c'
along P a a' b b' c c' p q r x = subst (λ z. P a' b' z) r (subst (λ z. P a' z c) q (subst (λ z. P z b c) p x))

pub nobody : (s n : ℕ) (since : List Enrolment) → since ≡ [] → since_of since s ≡ Some n → ⊥
nobody s n since none is = let h : since_of [] s ≡ Some n = ap (λ l. since_of l s) (sym none) ∙ is in cc h

module _ {E : Type 0} (session_of command_of : E → ℕ) where
  abbrev Borne : List E → List Enrolment → List E → Bearing E → Type 0
  Borne = IsBorne session_of command_of

  abbrev Every : (ℕ → View E → Type 0) → List E → List Enrolment → List E → Type 0
  Every = AllBorne session_of command_of

  abbrev Sessions : (ℕ → View E → Type 0) → View E → Type 0
  Sessions = HoldsSessions session_of command_of

  as_turned : (At After : ℕ → View E → Type 0) (new : ℕ) (r : View E) → Added At After new r → Turned At After new r
  as_turned At After new r a = record { cases = a.cases; here = a.here; stay = λ by u l _. a.stay by u l }

  -- one seat bears other sessions
  pub borne_turned : (At After : ℕ → View E → Type 0) (seen : List E) (since : List Enrolment) (doubt : List E) → Every At seen since doubt → (id : ℕ) (w : View E) (seen' : List E) (since' : List Enrolment) (doubt' : List E) → Turned At After id w
      → ((by : ℕ) (u : View E) (b : Bearing E) → At by u → by ≢ id → Contains u.bears b → Borne seen' since' doubt' b)
      → ((b : Bearing E) → Contains w.bears b → Borne seen' since' doubt' b)
      → ((b c : Bearing E) (by : ℕ) (u : View E) → Contains w.bears b → At by u → by ≢ id → Contains u.bears c → b.session ≡ c.session → ⊥)
      → ((s : ℕ) → length (borne s w.bears) ≤ 1)
      → (w.is_pin ≡ true → w.bears ≡ [])
      → Every After seen' since' doubt'
  borne_turned At After seen since doubt all id w seen' since' doubt' t theirs own alone once pin = record {
    each = λ by u b l has. ⊎_elim (λ e. own b (subst (λ (z : View E). Contains z.bears b) (sym e.1) has)) (λ e. theirs by u b e.1 e.0 has) (t.cases by u l);
    apart = λ by other x y b c l has l' has' same. ⊎_elim
        (λ e. ⊎_elim
        (λ e'. e.0 ∙ sym e'.0)
        (λ e'. absurd (alone b c other y (subst (λ (z : View E). Contains z.bears b) (sym e.1) has) e'.1 e'.0 has' same))
        (t.cases other y l'))
        (λ e. ⊎_elim
        (λ e'. absurd (alone c b by x (subst (λ (z : View E). Contains z.bears c) (sym e'.1) has') e.1 e.0 has (sym same)))
        (λ e'. all.apart by other x y b c e.1 has e'.1 has' same)
        (t.cases other y l'))
        (t.cases by x l);
    once = λ by u s l. ⊎_elim (λ e. subst (λ (z : View E). length (borne s z.bears) ≤ 1) e.1 (once s)) (λ e. all.once by u s e.1) (t.cases by u l);
    pins = λ by u l is_pin. ⊎_elim (λ e. ap (λ (z : View E). z.bears) (sym e.1) ∙ pin (ap (λ (z : View E). z.is_pin) e.1 ∙ is_pin)) (λ e. all.pins by u e.1 is_pin) (t.cases by u l);
  }

  borne_dropped : (At After : ℕ → View E → Type 0) (seen : List E) (since : List Enrolment) (doubt : List E) → Every At seen since doubt → (gone : ℕ) → Dropped At After gone → Every After seen since doubt
  borne_dropped At After seen since doubt all gone t = record {
    each = λ by u b l has. all.each by u b (t.cases by u l).1 has;
    apart = λ by other x y b c l has l' has' same. all.apart by other x y b c (t.cases by x l).1 has (t.cases other y l').1 has' same;
    once = λ by u s l. all.once by u s (t.cases by u l).1;
    pins = λ by u l is_pin. all.pins by u (t.cases by u l).1 is_pin;
  }

  -- a session is borne still, where what the seat bore of it went somewhere
  pub by_turned : (At After : ℕ → View E → Type 0) (id : ℕ) (v w : View E) → ((u : View E) → At id u → u ≡ v) → Turned At After id w → (s : ℕ) → ((b : Bearing E) → Contains v.bears b → b.session ≡ s → IsBorneBySome After s) → IsBorneBySome At s → IsBorneBySome After s
  by_turned At After id v w only t s went is =
      let by = is.0 in let u = is.1 in let l = is.2 in let b = is.3.0 in dite (ℕ_discrete by id)
      (λ e. let same : u ≡ v = only u (subst (λ n. At n u) e l) in went b (subst (λ (z : View E). Contains z.bears b) same is.3.1) is.3.2)
      (λ apart. (by, u, t.stay by u l apart, is.3))

  -- a step at which no session moves and the history stays
  pub sessions_stay : (At After : ℕ → View E → Type 0) (k : View E) → Sessions At k → (id : ℕ) (v w k' : View E) → Turned At After id w → At id v → ((u : View E) → At id u → u ≡ v) → w.bears ≡ v.bears → w.is_pin ≡ v.is_pin
      → k'.seen ≡ k.seen → k'.since ≡ k.since → k'.doubt ≡ k.doubt → Sessions After k'
  sessions_stay At After k all id v w k' t at only bears is_pin seen since doubt =
      let back : (b : Bearing E) → Contains w.bears b → Contains v.bears b = λ b has. subst (λ l. Contains l b) bears has in record {
        accounted = along (IsAccounted session_of command_of) k.seen k'.seen k.since k'.since k.doubt k'.doubt (sym seen) (sym since) (sym doubt) all.accounted;
        borne_each = along (Every After) k.seen k'.seen k.since k'.since k.doubt k'.doubt (sym seen) (sym since) (sym doubt)
            (borne_turned At After k.seen k.since k.doubt all.borne_each id w k.seen k.since k.doubt t
            (λ by u b l _ has. all.borne_each.each by u b l has)
            (λ b has. all.borne_each.each id v b at (back b has))
            (λ b c by u has l apart has' same. apart (sym (all.borne_each.apart id by v u b c at (back b has) l has' same)))
            (λ s. subst (λ l. length (borne s l) ≤ 1) (sym bears) (all.borne_each.once id v s at))
            (λ pin. bears ∙ all.borne_each.pins id v at (sym is_pin ∙ pin)));
        borne_by = λ s n is. by_turned At After id v w only t s
            (λ b has same. (id, w, t.here, (b, subst (λ l. Contains l b) (sym bears) has, same)))
            (all.borne_by s n (ap (λ l. since_of l s) (sym since) ∙ is));
      }

  -- a new view that bears nothing
  pub sessions_added : (At After : ℕ → View E → Type 0) (k : View E) → Sessions At k → (new : ℕ) (r : View E) → Added At After new r → r.bears ≡ [] → Sessions After k
  sessions_added At After k all new r a none =
      let empty : (b : Bearing E) → Contains r.bears b → ⊥ = λ b has. none_in ⊥ b (subst (λ l. Contains l b) none has) in record {
        accounted = all.accounted;
        borne_each = borne_turned At After k.seen k.since k.doubt all.borne_each new r k.seen k.since k.doubt (as_turned At After new r a)
            (λ by u b l _ has. all.borne_each.each by u b l has)
            (λ b has. absurd (empty b has))
            (λ b c by u has l apart has' same. empty b has)
            (λ s. subst (λ l. length (borne s l) ≤ 1) (sym none) (omega arith))
            (λ pin. none);
        borne_by = λ s n is. let x = all.borne_by s n is in (x.0, x.1, a.stay x.0 x.1 x.2, x.3);
      }

  -- a view that bears nothing is spent
  pub sessions_dropped : (At After : ℕ → View E → Type 0) (k : View E) → Sessions At k → (gone : ℕ) (w : View E) → ((u : View E) → At gone u → u ≡ w) → Dropped At After gone → w.bears ≡ [] → Sessions After k
  sessions_dropped At After k all gone w only d none = record {
    accounted = all.accounted;
    borne_each = borne_dropped At After k.seen k.since k.doubt all.borne_each gone d;
    borne_by = λ s n is. let x = all.borne_by s n is in dite (ℕ_discrete x.0 gone)
        (λ e. let same : x.1 ≡ w = only x.1 (subst (λ n. At n x.1) e x.2) in none_in _ x.3.0 (subst (λ l. Contains l x.3.0) (ap (λ (z : View E). z.bears) same ∙ none) x.3.1))
        (λ apart. (x.0, x.1, d.stay x.0 x.1 x.2 apart, x.3));
  }

  -- a note gives its sessions away
  pub sessions_unburdened : (At Mid After : ℕ → View E → Type 0) (k : View E) → Sessions At k → (id new : ℕ) (v : View E) → At id v → ((u : View E) → At id u → u ≡ v) → v.is_pin ≡ false
      → Turned At Mid id (unburdened v) → Added Mid After new (bearer v) → Sessions After k
  sessions_unburdened At Mid After k all id new v at only no_pin t a =
      let mid : Every Mid k.seen k.since k.doubt = borne_turned At Mid k.seen k.since k.doubt all.borne_each id (unburdened v) k.seen k.since k.doubt t
      (λ by u b l _ has. all.borne_each.each by u b l has)
      (λ b has. none_in _ b has)
      (λ b c by u has l apart has' same. none_in _ b has)
      (λ s. omega arith)
      (λ pin. refl) in record {
        accounted = all.accounted;
        borne_each = borne_turned Mid After k.seen k.since k.doubt mid new (bearer v) k.seen k.since k.doubt (as_turned Mid After new (bearer v) a)
            (λ by u b l _ has. mid.each by u b l has)
            (λ b has. all.borne_each.each id v b at has)
            (λ b c by u has l _ has' same. ⊎_elim
            (λ e. none_in ⊥ c (subst (λ (z : View E). Contains z.bears c) (sym e.1) has'))
            (λ e. e.0 (sym (all.borne_each.apart id by v u b c at has e.1 has' same)))
            (t.cases by u l))
            (λ s. all.borne_each.once id v s at)
            (λ pin. absurd (true≢false (sym pin)));
        borne_by = λ s n is. let x = all.borne_by s n is in dite (ℕ_discrete x.0 id)
            (λ e. let same : x.1 ≡ v = only x.1 (subst (λ n. At n x.1) e x.2) in (new, bearer v, a.here, (x.3.0, subst (λ (z : View E). Contains z.bears x.3.0) same x.3.1, x.3.2)))
            (λ apart. (x.0, x.1, a.stay x.0 x.1 (t.stay x.0 x.1 x.2 apart), x.3));
      }

  -- the keeper enrols a session that it bears or that was never enrolled
  pub sessions_enrolled : (At Mid After : ℕ → View E → Type 0) (id new : ℕ) (v : View E) (s : ℕ) → Sessions At v → At id v → ((u : View E) → At id u → u ≡ v) → 0 < s
      → (since_of v.since s ≡ None) ⊎ Bears v.bears s
      → Turned At Mid id (enrols session_of s v) → Added Mid After new (enrolled s v) → Sessions After (enrols session_of s v)
  sessions_enrolled At Mid After id new v s all at only positive may t a =
      let w : View E = enrols session_of s v in
      let r : View E = enrolled s v in
      let n : ℕ = length v.seen in
      let foreign : (by : ℕ) (u : View E) (b : Bearing E) → At by u → by ≢ id → Contains u.bears b → s ≢ b.session = λ by u b l apart has same. ⊎_elim
      (λ never. let is = all.borne_each.each by u b l has in let e : None ≡ Some is.length_then = sym never ∙ (ap (λ x. since_of v.since x) same ∙ is.enrolled) in cc e)
      (λ mine. apart (sym (all.borne_each.apart id by v u mine.0 b at mine.1 l has (mine.2 ∙ same))))
      may in
      let still : (b : Bearing E) → s ≢ b.session → Borne v.seen v.since v.doubt b → Borne w.seen w.since w.doubt b = λ b apart is. record {
        length_then = is.length_then;
        enrolled = since_else v.since s n b.session apart ∙ is.enrolled;
        within = is.within;
        own = is.own;
        doubted = λ e has same. is.doubted e (without_has session_of s v.doubt e has).0 same;
      } in
      let mid : Every Mid w.seen w.since w.doubt = borne_turned At Mid v.seen v.since v.doubt all.borne_each id w w.seen w.since w.doubt t
      (λ by u b l apart has. still b (foreign by u b l apart has) (all.borne_each.each by u b l has))
      (λ b has. let o = others_are s v.bears b has in still b (λ e. o.1 (sym e)) (all.borne_each.each id v b at o.0))
      (λ b c by u has l apart has' same. apart (sym (all.borne_each.apart id by v u b c at (others_are s v.bears b has).0 l has' same)))
      (λ x. let h = all.borne_each.once id v x at in let g = borne-filter_le x (λ (b : Bearing E). not (b.session == s)) v.bears in omega arith)
      (λ pin. ap (λ l. others s l) (all.borne_each.pins id v at pin)) in
      let fresh : Borne w.seen w.since w.doubt (newcomer s) = record {
        length_then = n;
        enrolled = since_here v.since s n;
        within = omega arith;
        own = record { stands = λ m has. none_in _ m has; each = λ place e from is same. let h = get_within v.seen place e is in absurd (omega arith) };
        doubted = λ e has same. absurd ((without_has session_of s v.doubt e has).1 same);
      } in record {
        accounted = record {
          from_one = λ x m is. dite (ℕ_discrete s x) (λ e. subst (λ z. 0 < z) e positive) (λ apart. all.accounted.from_one x m (sym (since_else v.since s n x apart) ∙ is));
          each = λ place e is. ⊎_elim (λ z. inl z) (λ y. inr (still_enrolled v.since s n (session_of e) y)) (all.accounted.each place e is);
          after = λ x m place e is from got. dite (ℕ_discrete s x)
              (λ same. let h = get_within v.seen place e got in let o : n ≡ m = same_time x m same is in absurd (omega arith))
              (λ apart. all.accounted.after x m place e (sym (since_else v.since s n x apart) ∙ is) from got);
          rise = λ x m place further d e is from before got got' of_d of_e. dite (ℕ_discrete s x)
              (λ same. let h = get_within v.seen place d got in let o : n ≡ m = same_time x m same is in absurd (omega arith))
              (λ apart. all.accounted.rise x m place further d e (sym (since_else v.since s n x apart) ∙ is) from before got got' of_d of_e);
          doubted = λ e has. still_enrolled v.since s n (session_of e) (all.accounted.doubted e (without_has session_of s v.doubt e has).0);
        };
        borne_each = borne_turned Mid After w.seen w.since w.doubt mid new r w.seen w.since w.doubt (as_turned Mid After new r a)
            (λ by u b l _ has. mid.each by u b l has)
            (λ b has. subst (λ (z : Bearing E). Borne w.seen w.since w.doubt z) (one_of_one (newcomer s) b has) fresh)
            (λ b c by u has l _ has' same. let is_s : s ≡ b.session = ap (λ (z : Bearing E). z.session) (one_of_one (newcomer s) b has) in ⊎_elim
            (λ e. (others_are s v.bears c (subst (λ (z : View E). Contains z.bears c) (sym e.1) has')).1 (sym (is_s ∙ same)))
            (λ e. foreign by u c e.1 e.0 has' (is_s ∙ same))
            (t.cases by u l))
            (λ x. length-filter_le (λ (b : Bearing E). b.session == x) (newcomer s ∷ []))
            (λ pin. absurd (true≢false (sym pin)));
        borne_by = λ x m is. dite (ℕ_discrete s x)
            (λ same. (new, r, a.here, (newcomer s, has_first (newcomer s) [], same)))
            (λ apart. let y = all.borne_by x m (sym (since_else v.since s n x apart) ∙ is) in dite (ℕ_discrete y.0 id)
            (λ e. let is_v : y.1 ≡ v = only y.1 (subst (λ z. At z y.1) e y.2) in
            (id, w, a.stay id w t.here, (y.3.0, is_other s v.bears y.3.0 (λ q. apart (sym q ∙ y.3.2)) (subst (λ (z : View E). Contains z.bears y.3.0) is_v y.3.1), y.3.2)))
            (λ away. (y.0, y.1, a.stay y.0 y.1 (t.stay y.0 y.1 y.2 away), y.3)));
      }
    where
      same_time : (x m : ℕ) → s ≡ x → since_of (record { session = s; length = length v.seen } ∷ v.since) x ≡ Some m → length v.seen ≡ m
      same_time x m same is = let e : Some (length v.seen) ≡ Some m = sym (since_here v.since s (length v.seen)) ∙ (ap (λ z. since_of (record { session = s; length = length v.seen } ∷ v.since) z) same ∙ is) in cc e

  -- the keeper hands a session on, which is unsure of these entries of its own
  pub sessions_handed : (At Mid After : ℕ → View E → Type 0) (id new : ℕ) (v : View E) (s : ℕ) (es : List E) → Sessions At v → At id v → ((u : View E) → At id u → u ≡ v)
      → Bears v.bears s → ((e : E) → Contains es e → session_of e ≡ s)
      → Turned At Mid id (hands s es v) → Added Mid After new (handed s es v) → Sessions After (hands s es v)
  sessions_handed At Mid After id new v s es all at only mine of_s t a =
      let w : View E = hands s es v in
      let r : View E = handed s es v in
      let here = all.borne_each.each id v mine.0 at mine.1 in
      let foreign : (by : ℕ) (u : View E) (b : Bearing E) → At by u → by ≢ id → Contains u.bears b → b.session ≢ s = λ by u b l apart has same. apart (sym (all.borne_each.apart id by v u mine.0 b at mine.1 l has (mine.2 ∙ sym same))) in
      let still : (b : Bearing E) → b.session ≢ s → Borne v.seen v.since v.doubt b → Borne w.seen w.since w.doubt b = λ b apart is. record {
        length_then = is.length_then;
        enrolled = is.enrolled;
        within = is.within;
        own = is.own;
        doubted = λ e has same. ⊎_elim (λ old. is.doubted e old same) (λ newly. absurd (apart (sym same ∙ of_s e newly))) (Contains-append_cases v.doubt es e has);
      } in
      let mid : Every Mid w.seen w.since w.doubt = borne_turned At Mid v.seen v.since v.doubt all.borne_each id w w.seen w.since w.doubt t
      (λ by u b l apart has. still b (foreign by u b l apart has) (all.borne_each.each by u b l has))
      (λ b has. let o = others_are s v.bears b has in still b o.1 (all.borne_each.each id v b at o.0))
      (λ b c by u has l apart has' same. apart (sym (all.borne_each.apart id by v u b c at (others_are s v.bears b has).0 l has' same)))
      (λ x. let h = all.borne_each.once id v x at in let g = borne-filter_le x (λ (b : Bearing E). not (b.session == s)) v.bears in omega arith)
      (λ pin. ap (λ l. others s l) (all.borne_each.pins id v at pin)) in
      let given : (b : Bearing E) → Contains r.bears b → (c : Bearing E) × Contains v.bears c × (c.session ≡ s) × (b ≡ unsure_of es c) = λ b has.
      let m = mapped_from (unsure_of es) (borne s v.bears) b has in let o = borne_is s v.bears m.0 m.1 in (m.0, o.0, o.1, m.2) in
      let unsure : (c : Bearing E) → Borne v.seen v.since v.doubt c → Borne w.seen w.since w.doubt (unsure_of es c) = λ c is. record {
        length_then = is.length_then;
        enrolled = is.enrolled;
        within = is.within;
        own = record {
          stands = is.own.stands;
          each = λ place e from got same. ⊎_elim (λ made. inl made) (λ doubted. inr (Contains-append_left c.unsure es e doubted)) (is.own.each place e from got same);
        };
        doubted = λ e has same. ⊎_elim (λ old. Contains-append_left c.unsure es e (is.doubted e old same)) (λ newly. Contains-append_right c.unsure es e newly) (Contains-append_cases v.doubt es e has);
      } in record {
        accounted = record {
          from_one = all.accounted.from_one;
          each = all.accounted.each;
          after = all.accounted.after;
          rise = all.accounted.rise;
          doubted = λ e has. ⊎_elim
              (λ old. all.accounted.doubted e old)
              (λ newly. (here.length_then, ap (λ x. since_of v.since x) (of_s e newly ∙ sym mine.2) ∙ here.enrolled))
              (Contains-append_cases v.doubt es e has);
        };
        borne_each = borne_turned Mid After w.seen w.since w.doubt mid new r w.seen w.since w.doubt (as_turned Mid After new r a)
            (λ by u b l _ has. mid.each by u b l has)
            (λ b has. let g = given b has in subst (λ (z : Bearing E). Borne w.seen w.since w.doubt z) (sym g.3) (unsure g.0 (all.borne_each.each id v g.0 at g.1)))
            (λ b c by u has l _ has' same. let g = given b has in let is_s : b.session ≡ s = ap (λ (z : Bearing E). z.session) g.3 ∙ g.2 in ⊎_elim
            (λ e. (others_are s v.bears c (subst (λ (z : View E). Contains z.bears c) (sym e.1) has')).1 (sym same ∙ is_s))
            (λ e. foreign by u c e.1 e.0 has' (sym same ∙ is_s))
            (t.cases by u l))
            (λ x. let h = all.borne_each.once id v x at in
            let g = borne-filter_le x (λ (b : Bearing E). b.session == s) v.bears in
            let m = borne-map x (unsure_of es) (λ b. refl) (borne s v.bears) in omega arith)
            (λ pin. absurd (true≢false (sym pin)));
        borne_by = λ x m is. let y = all.borne_by x m is in dite (ℕ_discrete y.0 id)
            (λ e. let is_v : y.1 ≡ v = only y.1 (subst (λ z. At z y.1) e y.2) in
            let has : Contains v.bears y.3.0 = subst (λ (z : View E). Contains z.bears y.3.0) is_v y.3.1 in
            dite (ℕ_discrete y.3.0.session s)
            (λ same. (new, r, a.here, (unsure_of es y.3.0, mapped (unsure_of es) (borne s v.bears) y.3.0 (is_borne s v.bears y.3.0 same has), y.3.2)))
            (λ apart. (id, w, a.stay id w t.here, (y.3.0, is_other s v.bears y.3.0 apart has, y.3.2))))
            (λ away. (y.0, y.1, a.stay y.0 y.1 (t.stay y.0 y.1 y.2 away), y.3));
      }

  -- two views are put together, and so are the sessions that they bear
  pub sessions_joined : (At Mid After : ℕ → View E → Type 0) (k : View E) → Sessions At k → (id other : ℕ) (v w both k' : View E) → At id v → At other w → other ≢ id → ((u : View E) → At id u → u ≡ v) → ((u : View E) → At other u → u ≡ w)
      → Dropped At Mid other → Turned Mid After id both → both.bears ≡ v.bears ++ w.bears → (both.is_pin ≡ true → both.bears ≡ [])
      → k'.seen ≡ k.seen → k'.since ≡ k.since → k'.doubt ≡ k.doubt → Sessions After k'
  sessions_joined At Mid After k all id other v w both k' at there apart_seats only_v only_w d t bears pin seen since doubt =
      let parts : (b : Bearing E) → Contains both.bears b → Contains v.bears b ⊎ Contains w.bears b = λ b has. Contains-append_cases v.bears w.bears b (subst (λ l. Contains l b) bears has) in
      let mid : Every Mid k.seen k.since k.doubt = borne_dropped At Mid k.seen k.since k.doubt all.borne_each other d in
      let after : Every After k.seen k.since k.doubt = borne_turned Mid After k.seen k.since k.doubt mid id both k.seen k.since k.doubt t
      (λ by u b l _ has. mid.each by u b l has)
      (λ b has. ⊎_elim (λ h. all.borne_each.each id v b at h) (λ h. all.borne_each.each other w b there h) (parts b has))
      (λ b c by u has l away has' same. let o = d.cases by u l in ⊎_elim
      (λ h. away (sym (all.borne_each.apart id by v u b c at h o.1 has' same)))
      (λ h. o.0 (sym (all.borne_each.apart other by w u b c there h o.1 has' same)))
      (parts b has))
      (λ s. subst (λ l. length (borne s l) ≤ 1) (sym bears) (once s))
      pin in record {
        accounted = along (IsAccounted session_of command_of) k.seen k'.seen k.since k'.since k.doubt k'.doubt (sym seen) (sym since) (sym doubt) all.accounted;
        borne_each = along (Every After) k.seen k'.seen k.since k'.since k.doubt k'.doubt (sym seen) (sym since) (sym doubt) after;
        borne_by = λ s n is. let y = all.borne_by s n (ap (λ l. since_of l s) (sym since) ∙ is) in dite (ℕ_discrete y.0 other)
            (λ e. let is_w : y.1 ≡ w = only_w y.1 (subst (λ z. At z y.1) e y.2) in
            (id, both, t.here, (y.3.0, subst (λ l. Contains l y.3.0) (sym bears) (Contains-append_right v.bears w.bears y.3.0 (subst (λ (z : View E). Contains z.bears y.3.0) is_w y.3.1)), y.3.2)))
            (λ gone. dite (ℕ_discrete y.0 id)
            (λ e. let is_v : y.1 ≡ v = only_v y.1 (subst (λ z. At z y.1) e y.2) in
            (id, both, t.here, (y.3.0, subst (λ l. Contains l y.3.0) (sym bears) (Contains-append_left v.bears w.bears y.3.0 (subst (λ (z : View E). Contains z.bears y.3.0) is_v y.3.1)), y.3.2)))
            (λ away. (y.0, y.1, t.stay y.0 y.1 (d.stay y.0 y.1 y.2 gone) away, y.3)));
      }
    where
      once : (s : ℕ) → length (borne s (v.bears ++ w.bears)) ≤ 1
      once s =
          let a = all.borne_each.once id v s at in
          let b = all.borne_each.once other w s there in
          let sum = borne-append s v.bears w.bears in
          by_size (length (borne s v.bears)) (length (borne s w.bears)) refl refl
        where
          by_size : (m n : ℕ) → length (borne s v.bears) ≡ m → length (borne s w.bears) ≡ n → length (borne s (v.bears ++ w.bears)) ≤ 1
          by_size zero n p q = let b = all.borne_each.once other w s there in let sum = borne-append s v.bears w.bears in omega arith
          by_size (suc m) zero p q = let a = all.borne_each.once id v s at in let sum = borne-append s v.bears w.bears in omega arith
          by_size (suc m) (suc n) p q =
              let x = bears_it s v.bears (omega arith) in
              let y = bears_it s w.bears (omega arith) in
              absurd (apart_seats (sym (all.borne_each.apart id other v w x.0 y.0 at x.1 there y.1 (x.2 ∙ sym y.2))))
