-- The sessions after a commit.
use Rattle.std.proofs.Common.{◌≡◌, ◌≢◌, ◌⊎◌, ℕ, ◌<◌, ◌≤◌, Bool, true, false, true≢false, if◌then◌else◌, Some, List, [], ◌∷◌, ◌++◌, length, map, refl, sym, ap, ◌∙◌, subst, inl, inr, ⊎_elim, arith, length-append, ne_eqb}
use Rattle.std.specs.Prelude.{Contains, slice_get}
use Rattle.std.proofs.lemmas.List.Elements.{Contains-append_left, Contains-append_right, Contains-append_cases}
use mathlib.Core.Logic.{dite}
use native.Mathlib.Decide.{ℕ_discrete}
use Rattle.history_board.specs.Boards.{BoardId}
use Rattle.history_board.specs.declared.view.View.{View}
use Rattle.history_board.specs.declared.view.Bearing.{Bearing}
use Rattle.history_board.specs.declared.view.Enrolment.{Enrolment}
use Rattle.history_board.specs.declared.view.Placed.{Placed}
use Rattle.history_board.specs.Bearings.{since_of, IsEnrolled, borne, placed, makes, is_doubted, bears_after, IsBorne, IsAccounted}
use Rattle.history_board.specs.Tokens.{Kept, kept_of, MayCommit, IsSound}
use Rattle.history_board.specs.HistoryRule.{HoldsSessions}
use Rattle.history_board.specs.Steps.{committed}
use Rattle.history_board.proofs.Members.{by_cases, one_of_one, has_first, mapped, mapped_from}
use Rattle.history_board.proofs.Places.{get_push, get_push_here, get_longer}
use Rattle.history_board.proofs.Seats.{Turned}
use Rattle.history_board.proofs.Bearings.{borne-map, makes_keeps, makes_own, makes_other, doubted_as, is_in_doubt, borne_on}
use Rattle.history_board.proofs.SessionSteps.{nobody, borne_turned, by_turned}

module _ {E : Type 0} (session_of command_of : E → ℕ) where
  abbrev Borne : List E → List Enrolment → List E → Bearing E → Type 0
  Borne = IsBorne session_of command_of

  -- the session made the entry at the end of the history
  borne_made : (seen : List E) (since : List Enrolment) (doubt : List E) (e : E) (b : Bearing E) → session_of e ≡ b.session → Borne seen since doubt b → Borne (seen ++ e ∷ []) since doubt (record b { mine = b.mine ++ placed (length seen) e ∷ [] })
  borne_made seen since doubt e b same is =
      let at : Placed E = placed (length seen) e in record {
        length_then = is.length_then;
        enrolled = is.enrolled;
        within = (let a = is.within in let n = length-append seen (e ∷ []) in omega arith);
        own = record {
          stands = λ m has. ⊎_elim
              (λ old. let s = is.own.stands m old in (s.0, get_longer seen (e ∷ []) m.place m.entry s.1, s.2))
              (λ newly. subst (λ (x : Placed E). (is.length_then ≤ x.place) × (slice_get (seen ++ e ∷ []) x.place ≡ Some x.entry) × (session_of x.entry ≡ b.session)) (one_of_one at m newly) (is.within, get_push_here seen e, same))
              (Contains-append_cases b.mine (at ∷ []) m has);
          each = λ place d from got of_b. ⊎_elim
              (λ last. inl (subst (λ (x : E). Contains (b.mine ++ at ∷ []) (placed place x)) last.1 (subst (λ (n : ℕ). Contains (b.mine ++ at ∷ []) (placed n e)) (sym last.0) (Contains-append_right b.mine (at ∷ []) at (has_first at [])))))
              (λ old. ⊎_elim (λ made. inl (Contains-append_left b.mine (at ∷ []) (placed place d) made)) (λ doubted. inr doubted) (is.own.each place d from old.1 of_b))
              (get_push seen e d place got);
        };
        doubted = is.doubted;
      }

  -- where an entry may come, it is in doubt exactly where one of its session and command is
  doubted_exactly : (k : Kept E) (e : E) → IsAccounted session_of command_of k.seen k.since k.doubt → ((b : Bearing E) → Contains k.bears b → Borne k.seen k.since k.doubt b) → MayCommit session_of command_of k e
      → is_doubted session_of command_of k.doubt e ≡ true → Contains k.doubt e
  doubted_exactly k e accounted each may test =
      let d = doubted_as session_of command_of k.doubt e test in ⊎_elim
      (λ zero. let x = accounted.doubted d.0 d.1 in absurd (nobody (session_of d.0) x.0 k.since zero.1 x.1))
      (λ rest. ⊎_elim
      (λ mine.
      let b = each mine.0 mine.1 in
      let h = mine.3.unsure d.0 (b.doubted d.0 d.1 (d.2 ∙ sym mine.2)) in
      let same : command_of d.0 ≡ command_of e = d.3 in absurd (omega arith))
      (λ doubted. doubted.0)
      rest)
      may

  -- so a commit of an entry that is not in doubt is its session's own, and one of an entry in doubt is not
  pub bears_own : (k : Kept E) (e : E) → IsSound session_of command_of k → MayCommit session_of command_of k e → ¬ Contains k.doubt e
      → bears_after session_of command_of k.doubt (length k.seen) e k.bears ≡ map (makes session_of (length k.seen) e) k.bears
  bears_own k e sound may sure = by_cases (is_doubted session_of command_of k.doubt e)
      (λ test. absurd (sure (doubted_exactly k e sound.accounted sound.bears may test)))
      (λ test. ap (λ c. if c then k.bears else map (makes session_of (length k.seen) e) k.bears) test)

  pub bears_doubted : (k : Kept E) (e : E) → Contains k.doubt e → bears_after session_of command_of k.doubt (length k.seen) e k.bears ≡ k.bears
  bears_doubted k e has = ap (λ c. if c then k.bears else map (makes session_of (length k.seen) e) k.bears) (is_in_doubt session_of command_of k.doubt e has)

  module _ (At : ℕ → View E → Type 0) (z : BoardId) (id : ℕ) (v : View E) (e : E) (all : HoldsSessions session_of command_of At v) (at : At id v) (may : MayCommit session_of command_of (kept_of z v) e) where
    -- an entry that may come is of no session that was enrolled, or of one that was
    pub may_count : (session_of e ≡ 0) ⊎ IsEnrolled v.since (session_of e)
    may_count = ⊎_elim
        (λ zero. inl zero.0)
        (λ rest. ⊎_elim
        (λ mine. let is = all.borne_each.each id v mine.0 at mine.1 in inr (is.length_then, ap (λ x. since_of v.since x) (sym mine.2) ∙ is.enrolled))
        (λ doubted. inr (all.accounted.doubted e doubted.0))
        rest)
        may

    -- its session is not 0, where one was enrolled
    positive : (s n : ℕ) → since_of v.since s ≡ Some n → 0 < session_of e
    positive s n is = ⊎_elim
        (λ zero. absurd (nobody s n v.since zero.1 is))
        (λ rest. ⊎_elim
        (λ mine. let b = all.borne_each.each id v mine.0 at mine.1 in subst (λ x. 0 < x) mine.2 (all.accounted.from_one mine.0.session b.length_then b.enrolled))
        (λ doubted. let x = all.accounted.doubted e doubted.0 in all.accounted.from_one (session_of e) x.0 x.1)
        rest)
        may

    -- its command is above those of its session since the enrolment
    higher : (n place : ℕ) (d : E) → since_of v.since (session_of e) ≡ Some n → n ≤ place → slice_get v.seen place ≡ Some d → session_of d ≡ session_of e → command_of d < command_of e
    higher n place d is from got same = ⊎_elim
        (λ zero. absurd (nobody (session_of e) n v.since zero.1 is))
        (λ rest. ⊎_elim
        (λ mine.
        let b = all.borne_each.each id v mine.0 at mine.1 in
        let h : Some b.length_then ≡ Some n = sym b.enrolled ∙ (ap (λ x. since_of v.since x) mine.2 ∙ is) in
        let m : b.length_then ≡ n = cc h in
        ⊎_elim (λ made. mine.3.mine (placed place d) made) (λ unsure. mine.3.unsure d unsure) (b.own.each place d (omega arith) got (same ∙ sym mine.2)))
        (λ doubted. doubted.1 n place d is from got same)
        rest)
        may

    -- where another view bears its session, that is unsure of it
    elsewhere : (by : ℕ) (u : View E) (b : Bearing E) → At by u → by ≢ id → Contains u.bears b → session_of e ≡ b.session → Contains b.unsure e
    elsewhere by u b l apart has same = ⊎_elim
        (λ zero. let is = all.borne_each.each by u b l has in absurd (nobody b.session is.length_then v.since zero.1 is.enrolled))
        (λ rest. ⊎_elim
        (λ mine. absurd (apart (sym (all.borne_each.apart id by v u mine.0 b at mine.1 l has (mine.2 ∙ same)))))
        (λ doubted. (all.borne_each.each by u b l has).doubted e doubted.0 same)
        rest)
        may

    in_doubt : is_doubted session_of command_of v.doubt e ≡ true → Contains v.doubt e
    in_doubt test = doubted_exactly (kept_of z v) e all.accounted (λ b has. all.borne_each.each id v b at has) may test

    abbrev w : View E
    w = committed session_of command_of e v

    accounted_on : IsAccounted session_of command_of (v.seen ++ e ∷ []) v.since v.doubt
    accounted_on =
        let was = all.accounted in record {
          from_one = was.from_one;
          each = λ place x got. ⊎_elim
              (λ last. subst (λ (y : E). (session_of y ≡ 0) ⊎ IsEnrolled v.since (session_of y)) last.1 may_count)
              (λ old. was.each place x old.1)
              (get_push v.seen e x place got);
          after = λ s n place x is from got. ⊎_elim
              (λ last. subst (λ (y : E). 0 < session_of y) last.1 (positive s n is))
              (λ old. was.after s n place x is from old.1)
              (get_push v.seen e x place got);
          rise = λ s n place further d x is from before got got' of_d of_x. ⊎_elim
              (λ last. ⊎_elim
              (λ both. let a = both.0 in let b = last.0 in absurd (omega arith))
              (λ old.
              let of_e : session_of e ≡ s = ap session_of last.1 ∙ of_x in
              subst (λ (y : E). command_of d < command_of y) last.1 (higher n place d (ap (λ r. since_of v.since r) of_e ∙ is) from old.1 (of_d ∙ sym of_e)))
              (get_push v.seen e d place got))
              (λ old'. ⊎_elim
              (λ both. let a = both.0 in let b = old'.0 in absurd (omega arith))
              (λ old. was.rise s n place further d x is from before old.1 old'.1 of_d of_x)
              (get_push v.seen e d place got))
              (get_push v.seen e x further got');
          doubted = was.doubted;
        }

    -- a bearing that does not change
    goes_on : (b : Bearing E) → (session_of e ≡ b.session → Contains b.unsure e) → Borne v.seen v.since v.doubt b → Borne (v.seen ++ e ∷ []) v.since v.doubt b
    goes_on b unsure is = borne_on session_of command_of v.seen (e ∷ []) v.since v.doubt b
        (λ place x _ got same late. ⊎_elim
        (λ last. inr (subst (λ (y : E). Contains b.unsure y) last.1 (unsure (ap session_of last.1 ∙ same))))
        (λ old. let h = old.0 in absurd (omega arith))
        (get_push v.seen e x place got))
        is

    -- what the keeper bears, where the entry was in doubt and where it was not
    bears_is : (c : Bool) → is_doubted session_of command_of v.doubt e ≡ c → bears_after session_of command_of v.doubt (length v.seen) e v.bears ≡ (if c then v.bears else map (makes session_of (length v.seen) e) v.bears)
    bears_is c is = ap (λ t. if t then v.bears else map (makes session_of (length v.seen) e) v.bears) is

    -- each bearing after comes from one before
    record From (b : Bearing E) : Type 0 where
      was : Bearing E
      has : Contains v.bears was
      same : b.session ≡ was.session
      borne_so : Borne (v.seen ++ e ∷ []) v.since v.doubt b

    from_doubted : (b : Bearing E) → is_doubted session_of command_of v.doubt e ≡ true → Contains v.bears b → From b
    from_doubted b test has =
        let is = all.borne_each.each id v b at has in
        record { was = b; has = has; same = refl; borne_so = goes_on b (λ same. is.doubted e (in_doubt test) same) is }

    from_sure : (b : Bearing E) → Contains (map (makes session_of (length v.seen) e) v.bears) b → From b
    from_sure b has =
        let m = mapped_from (makes session_of (length v.seen) e) v.bears b has in
        let is = all.borne_each.each id v m.0 at m.1 in
        record {
          was = m.0;
          has = m.1;
          same = ap (λ (x : Bearing E). x.session) m.2 ∙ makes_keeps session_of (length v.seen) e m.0;
          borne_so = subst (λ (x : Bearing E). Borne (v.seen ++ e ∷ []) v.since v.doubt x) (sym m.2) (dite (ℕ_discrete m.0.session (session_of e))
              (λ same. subst (λ (x : Bearing E). Borne (v.seen ++ e ∷ []) v.since v.doubt x) (sym (makes_own session_of (length v.seen) e m.0 same)) (borne_made v.seen v.since v.doubt e m.0 (sym same) is))
              (λ apart. subst (λ (x : Bearing E). Borne (v.seen ++ e ∷ []) v.since v.doubt x) (sym (makes_other session_of (length v.seen) e m.0 (ne_eqb m.0.session (session_of e) apart))) (goes_on m.0 (λ same. absurd (apart (sym same))) is)));
        }

    from : (b : Bearing E) → Contains w.bears b → From b
    from b has = by_cases (is_doubted session_of command_of v.doubt e)
        (λ test. from_doubted b test (subst (λ l. Contains l b) (bears_is true test) has))
        (λ test. from_sure b (subst (λ l. Contains l b) (bears_is false test) has))

    -- and each before goes on in one after
    onward : (b : Bearing E) → Contains v.bears b → (c : Bearing E) × Contains w.bears c × (c.session ≡ b.session)
    onward b has = by_cases (is_doubted session_of command_of v.doubt e)
        (λ test. (b, subst (λ l. Contains l b) (sym (bears_is true test)) has, refl))
        (λ test. (makes session_of (length v.seen) e b, subst (λ l. Contains l (makes session_of (length v.seen) e b)) (sym (bears_is false test)) (mapped (makes session_of (length v.seen) e) v.bears b has), makes_keeps session_of (length v.seen) e b))

    once_on : (s : ℕ) → length (borne s w.bears) ≤ 1
    once_on s = by_cases (is_doubted session_of command_of v.doubt e)
        (λ test. subst (λ l. length (borne s l) ≤ 1) (sym (bears_is true test)) (all.borne_each.once id v s at))
        (λ test. subst (λ l. length (borne s l) ≤ 1) (sym (bears_is false test)) (let a = all.borne_each.once id v s at in let m = borne-map s (makes session_of (length v.seen) e) (makes_keeps session_of (length v.seen) e) v.bears in omega arith))

    pub sessions_committed : (After : ℕ → View E → Type 0) → ((u : View E) → At id u → u ≡ v) → v.is_pin ≡ false → Turned At After id w → HoldsSessions session_of command_of After w
    sessions_committed After only no_pin t = record {
      accounted = accounted_on;
      borne_each = borne_turned session_of command_of At After v.seen v.since v.doubt all.borne_each id w (v.seen ++ e ∷ []) v.since v.doubt t
          (λ by u b l apart has. goes_on b (λ same. elsewhere by u b l apart has same) (all.borne_each.each by u b l has))
          (λ b has. (from b has).borne_so)
          (λ b c by u has l apart has' same. let f = from b has in apart (sym (all.borne_each.apart id by v u f.was c at f.has l has' (sym f.same ∙ same))))
          once_on
          (λ pin. absurd (true≢false (sym pin ∙ no_pin)));
      borne_by = λ s n is. by_turned session_of command_of At After id v w only t s
          (λ b has same. let o = onward b has in (id, w, t.here, (o.0, o.1, o.2 ∙ same)))
          (all.borne_by s n is);
    }
