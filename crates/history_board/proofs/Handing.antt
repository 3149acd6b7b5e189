-- The steps that move a session keep the rule.
use Rattle.std.proofs.Common.{◌≡◌, ◌⊎◌, ℕ, ◌<◌, true, false, true≢false, if◌then◌else◌, None, List, [], ◌∷◌, ◌++◌, length, set, refl, sym, ap, ◌∙◌, subst, arith}
use Rattle.std.specs.Prelude.{Contains}
use mathlib.Core.List.{IsPrefix}
use Rattle.history_board.specs.declared.view.View.{View}
use Rattle.history_board.specs.Bearings.{since_of, Bears}
use Rattle.history_board.specs.Views.{count_of, unburdened, bearer, handed, hands, enrolled, enrols, IsKeeping, IsNoting}
use Rattle.history_board.specs.HistoryRule.{IsLive, HoldsSessions, IsKept, HistoryRule}
use Rattle.history_board.proofs.Members.{none_in}
use Rattle.history_board.proofs.Prefixes.{prefix_self}
use Rattle.history_board.proofs.Seats.{turned, added, same_view}
use Rattle.history_board.proofs.Following.{grows_not, follow_turned, follow_added}
use Rattle.history_board.proofs.Pinning.{pins_stay, pins_added}
use Rattle.history_board.proofs.SessionSteps.{sessions_unburdened, sessions_enrolled, sessions_handed}
use Rattle.history_board.proofs.Keeping.{as_keeper, not_keeper, words_as, follows_self}

module _ {E : Type 0} (session_of command_of : E → ℕ) where
  abbrev Rule : List ℕ → List (View E) → Type 0
  Rule = HistoryRule session_of command_of

  -- a note gives its sessions to a new one
  pub unburden_keeps : (words : List ℕ) (views : List (View E)) (id : ℕ) (v : View E) → IsLive views id v → IsNoting v → Rule words views → Rule words (set views id (unburdened v) ++ bearer v ∷ [])
  unburden_keeps words views id v at noting rule =
      let k = rule.keeper in
      let kept = rule.kept in
      let w : View E = unburdened v in
      let r : View E = bearer v in
      let mid = set views id w in
      let t = turned views id v w at.0 at.1 in
      let a = added mid r refl in
      let own = kept.follow.each id v at in
      let apart = not_keeper session_of command_of words views id v rule at noting.keeper in
      let is_count : count_of v ≡ v.count_seen = ap (λ b. if b then v.posted else v.count_seen) noting.keeper in
      let counted = own.count in record {
        seat = rule.seat;
        keeper = k;
        kept = record {
          here = a.stay rule.seat k (t.stay rule.seat k kept.here (λ e. apart (sym e)));
          keeps = kept.keeps;
          has_words = kept.has_words;
          follow = follow_added (IsLive mid) (IsLive (mid ++ r ∷ [])) rule.seat k
              (follow_turned (IsLive views) (IsLive mid) rule.seat k kept.follow id w k t (grows_not k) (λ key. absurd (true≢false (sym key ∙ noting.keeper)))
              (record { seen = own.seen; olds = own.olds; floor = own.floor; count = own.count }))
              (length mid) r a refl (record { seen = own.seen; olds = λ xs has. none_in _ xs has; floor = own.floor; count = omega arith });
          pins = pins_added (IsLive mid) (IsLive (mid ++ r ∷ [])) k
              (pins_stay (IsLive views) (IsLive mid) k kept.pins id v w k t at refl refl refl (omega arith) own.floor refl refl (omega arith))
              (length mid) r a (λ pin. absurd (true≢false (sym pin))) (λ by u pin l pin' same. true≢false (sym pin));
          sessions = sessions_unburdened session_of command_of (IsLive views) (IsLive mid) (IsLive (mid ++ r ∷ [])) k kept.sessions id (length mid) v at (λ u l. same_view views id id u v l.0 at.0 refl) noting.pin t a;
        };
      }

  -- the keeper gives a session to a new note: what both views are then, beside the sessions
  given : (words : List ℕ) (views : List (View E)) (id : ℕ) (v w r : View E) → IsLive views id v → IsKeeping v → IsKept session_of command_of words (IsLive views) id v
      → w.live ≡ true → w.is_keeper ≡ true → w.is_pin ≡ v.is_pin → w.number ≡ v.number → w.time ≡ v.time → w.seen ≡ v.seen → w.olds ≡ [] → w.floor ≡ v.floor → w.posted ≡ v.posted → w.floor_seen ≡ v.floor_seen → w.count_seen ≡ v.count_seen → w.out ≡ v.out
      → r.live ≡ true → r.is_keeper ≡ false → r.is_pin ≡ false → r.seen ≡ v.seen → r.olds ≡ [] → r.floor_seen ≡ v.floor_seen → r.count_seen ≡ count_of v
      → HoldsSessions session_of command_of (IsLive (set views id w ++ r ∷ [])) w
      → Rule words (set views id w ++ r ∷ [])
  given words views id v w r at keeping kept w_lives w_key w_pin w_number w_time w_seen w_olds w_floor w_posted w_floor_seen w_count w_out r_lives r_key r_pin r_seen r_olds r_floor r_count sessions =
      let mid = set views id w in
      let t = turned views id v w at.0 w_lives in
      let a = added mid r r_lives in
      let own = kept.follow.each id v at in
      let f = own.floor in
      let g = own.count in
      let is_count : count_of v ≡ v.posted = ap (λ b. if b then v.posted else v.count_seen) keeping.keeper in
      let n = ap length w_seen in record {
        seat = id;
        keeper = w;
        kept = record {
          here = a.stay id w t.here;
          keeps = w_key;
          has_words = words_as words v w w_seen w_floor w_posted kept.has_words;
          follow = follow_added (IsLive mid) (IsLive (mid ++ r ∷ [])) id w
              (follow_turned (IsLive views) (IsLive mid) id v kept.follow id w w t
              (record { seen = subst (λ l. IsPrefix v.seen l) (sym w_seen) (prefix_self v.seen); floor = omega arith; posted = omega arith }) (λ _. refl)
              (follows_self w w_olds (omega arith) (omega arith)))
              (length mid) r a r_key
              (record {
                seen = subst (λ l. IsPrefix l w.seen) (sym r_seen) (subst (λ l. IsPrefix v.seen l) (sym w_seen) (prefix_self v.seen));
                olds = λ xs has. none_in _ xs (subst (λ l. Contains l xs) r_olds has);
                floor = omega arith;
                count = omega arith;
              });
          pins = pins_added (IsLive mid) (IsLive (mid ++ r ∷ [])) w
              (pins_stay (IsLive views) (IsLive mid) v kept.pins id v w w t at w_pin w_number w_time (omega arith) (omega arith) w_out w_floor (omega arith))
              (length mid) r a (λ pin. absurd (true≢false (sym pin ∙ r_pin))) (λ by u pin l pin' same. true≢false (sym pin ∙ r_pin));
          sessions = sessions;
        };
      }

  pub enrol_keeps : (words : List ℕ) (views : List (View E)) (id : ℕ) (v : View E) (r : ℕ) → IsLive views id v → IsKeeping v → 0 < r → (since_of v.since r ≡ None) ⊎ Bears v.bears r → Rule words views → Rule words (set views id (enrols session_of r v) ++ enrolled r v ∷ [])
  enrol_keeps words views id v r at keeping positive may rule =
      let kept = as_keeper session_of command_of words views id v rule at keeping.keeper in
      let w : View E = enrols session_of r v in
      let x : View E = enrolled r v in
      let mid = set views id w in
      given words views id v w x at keeping kept keeping.live keeping.keeper refl refl refl refl keeping.olds refl refl refl refl refl refl refl refl refl refl refl refl
      (sessions_enrolled session_of command_of (IsLive views) (IsLive mid) (IsLive (mid ++ x ∷ [])) id (length mid) v r kept.sessions at (λ u l. same_view views id id u v l.0 at.0 refl) positive may (turned views id v w at.0 keeping.live) (added mid x refl))

  pub hand_keeps : (words : List ℕ) (views : List (View E)) (id : ℕ) (v : View E) (r : ℕ) (es : List E) → IsLive views id v → IsKeeping v → Bears v.bears r → ((e : E) → Contains es e → session_of e ≡ r) → Rule words views → Rule words (set views id (hands r es v) ++ handed r es v ∷ [])
  hand_keeps words views id v r es at keeping mine of_r rule =
      let kept = as_keeper session_of command_of words views id v rule at keeping.keeper in
      let w : View E = hands r es v in
      let x : View E = handed r es v in
      let mid = set views id w in
      given words views id v w x at keeping kept keeping.live keeping.keeper refl refl refl refl keeping.olds refl refl refl refl refl refl refl refl refl refl refl refl
      (sessions_handed session_of command_of (IsLive views) (IsLive mid) (IsLive (mid ++ x ∷ [])) id (length mid) v r es kept.sessions at (λ u l. same_view views id id u v l.0 at.0 refl) mine of_r (turned views id v w at.0 keeping.live) (added mid x refl))
