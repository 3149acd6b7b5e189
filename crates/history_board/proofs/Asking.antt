-- What the table asks of each step: the rule is kept, whatever the other views are.
use Rattle.std.proofs.Common.{◌≡◌, ℕ, ◌+◌, ◌%◌, ◌^◌, ◌<◌, ◌≤◌, true, List, [], ◌∷◌, ◌++◌, set, refl, sym, subst, ◌∙◌, arith, ◌⊎◌, None}
use Rattle.std.specs.Prelude.{slice_index, Contains, length}
use Rattle.std.proofs.lemmas.List.{set-get_or}
use Rattle.history_board.specs.Boards.{BoardId}
use Rattle.atomic_table.specs.Table.{Me, keeps, State, Allows, Splits, Joins}
use Rattle.atomic_table.proofs.Lists.{set_else}
use Rattle.history_board.specs.declared.view.View.{View}
use Rattle.history_board.specs.Bearings.{since_of, Bears}
use Rattle.history_board.specs.Pins.{IsFree}
use Rattle.history_board.specs.Tokens.{kept_of, MayCommit}
use Rattle.history_board.specs.Views.{spent, told, joined, gives_pin, pinned, released, unburdened, bearer, handed, hands, enrolled, enrols, IsKeeping, IsNoting, IsPinning}
use Rattle.history_board.specs.HistoryRule.{HistoryRule}
use Rattle.history_board.specs.Steps.{Sound, Looks, committed, Commits, Posts}
use Rattle.history_board.proofs.Keeping.{as_keeper, sound_of, look_keeps, commit_kept, post_kept, tell_keeps, join_keeps, pin_keeps, release_keeps}
use Rattle.history_board.proofs.Handing.{unburden_keeps, enrol_keeps, hand_keeps}

module _ {E : Type 0} (session_of command_of : E → ℕ) where
  abbrev Ruled : State ℕ (View E) → Type 0
  Ruled s = HistoryRule session_of command_of s.words s.views

  look_allowed : (slots id : ℕ) (v : View E) → v.live ≡ true → Allows {S = ℕ} {V = View E} Ruled slots id (v, []) 0 (λ n. n) (Looks session_of command_of (v, []))
  look_allowed slots id v lives s rule homes at small =
      let w : View E = record v { olds = [] } in
      let r = look_keeps session_of command_of s.words s.views id v (at, lives) rule in
      let same : set s.words 0 (slice_index s.words 0) ≡ s.words = set-get_or s.words 0 0 in
      (w, keeps, tt, subst (λ (l : List ℕ). HistoryRule session_of command_of l (set s.views id w)) (sym same) r.0, (refl, r.1))

  pub look_asked : (slots id : ℕ) (me : Me ℕ (View E)) → me.1 ≡ [] → me.0.live ≡ true → Allows {S = ℕ} {V = View E} Ruled slots id me 0 (λ n. n) (Looks session_of command_of me)
  look_asked slots id me none lives = subst (λ (l : List (ℕ × ℕ)). Allows {S = ℕ} {V = View E} Ruled slots id (me.0, l) 0 (λ n. n) (Looks session_of command_of (me.0, l))) (sym none) (look_allowed slots id me.0 lives)

  commit_allowed : (slots : ℕ) (z : BoardId) (id : ℕ) (v : View E) (entries : List E) (e : E) → entries ≡ e ∷ [] → IsKeeping v → length v.seen + 1 < 2 ^ 64 → MayCommit session_of command_of (kept_of z v) e
      → Allows {S = ℕ} {V = View E} Ruled slots id (v, []) 0 (λ n. (n + 1) % 2 ^ 64) (Commits session_of command_of entries (v, []))
  commit_allowed slots z id v entries e is keeping room may s rule homes at small =
      let kept = as_keeper session_of command_of s.words s.views id v rule (at, keeping.live) keeping.keeper in
      let after = commit_kept session_of command_of s.words s.views z id v e (at, keeping.live) keeping.keeper keeping.pin keeping.olds room may kept in
      let w : View E = committed session_of command_of e v in
      let found : slice_index s.words 0 ≡ length v.seen = kept.has_words.commits in
      let sound : Sound session_of command_of w = sound_of session_of command_of _ _ id w after in
      (w, keeps, tt, record { seat = id; keeper = w; kept = after }, λ (d : E) (h : entries ≡ d ∷ []). let same : e ≡ d = cc in subst (λ (x : E). (slice_index s.words 0 ≡ length v.seen) × ◌≡◌ {A = Me ℕ (View E)} (w, []) (committed session_of command_of x v, []) × Sound session_of command_of (committed session_of command_of x v)) same (found, refl, sound))

  pub commit_asked : (slots : ℕ) (z : BoardId) (id : ℕ) (me : Me ℕ (View E)) (entries : List E) (e : E) → entries ≡ e ∷ [] → me.1 ≡ [] → IsKeeping me.0 → length me.0.seen + 1 < 2 ^ 64 → MayCommit session_of command_of (kept_of z me.0) e
      → Allows {S = ℕ} {V = View E} Ruled slots id me 0 (λ n. (n + 1) % 2 ^ 64) (Commits session_of command_of entries me)
  commit_asked slots z id me entries e is none keeping room may = subst (λ (l : List (ℕ × ℕ)). Allows {S = ℕ} {V = View E} Ruled slots id (me.0, l) 0 (λ n. (n + 1) % 2 ^ 64) (Commits session_of command_of entries (me.0, l))) (sym none)
      (commit_allowed slots z id me.0 entries e is keeping room may)

  post_allowed : (slots id : ℕ) (v : View E) (count : ℕ) → IsKeeping v → v.posted ≤ count → Allows {S = ℕ} {V = View E} Ruled slots id (v, []) 2 (λ _. count) (Posts session_of command_of count (v, []))
  post_allowed slots id v count keeping more s rule homes at small =
      let kept = as_keeper session_of command_of s.words s.views id v rule (at, keeping.live) keeping.keeper in
      let after = post_kept session_of command_of s.words s.views id v count (at, keeping.live) keeping.keeper keeping.olds more kept in
      let w : View E = record v { posted = count } in
      (w, keeps, tt, record { seat = id; keeper = w; kept = after }, (kept.has_words.posted_word, refl, sound_of session_of command_of _ _ id w after))

  pub post_asked : (slots id : ℕ) (me : Me ℕ (View E)) (count : ℕ) → me.1 ≡ [] → IsKeeping me.0 → me.0.posted ≤ count → Allows {S = ℕ} {V = View E} Ruled slots id me 2 (λ _. count) (Posts session_of command_of count me)
  post_asked slots id me count none keeping more = subst (λ (l : List (ℕ × ℕ)). Allows {S = ℕ} {V = View E} Ruled slots id (me.0, l) 2 (λ _. count) (Posts session_of command_of count (me.0, l))) (sym none) (post_allowed slots id me.0 count keeping more)

  pub tell_asked : (id : ℕ) (v : View E) → v.live ≡ true → Splits {S = ℕ} {V = View E} Ruled id v v (told v)
  tell_asked id v lives s rule at = tell_keeps session_of command_of s.words s.views id v (at, lives) rule

  pub join_asked : (id : ℕ) (v : View E) (other : ℕ) (w : View E) → v.live ≡ true → IsNoting w → (v.is_pin ≡ true → w.bears ≡ []) → Joins {S = ℕ} {V = View E} Ruled id v other w (joined v w) spent
  join_asked id v other w lives noting free s rule at apart there =
      join_keeps session_of command_of s.words s.views id v other w (at, lives) (sym (set_else s.views id other (joined v w) apart) ∙ there, noting.live) apart noting.keeper free rule

  pub pin_asked : (id : ℕ) (v : View E) (number time n t : ℕ) → n ≡ number → t ≡ time → IsKeeping v → IsFree v.out number → v.floor ≤ time → time ≤ length v.seen → Splits {S = ℕ} {V = View E} Ruled id v (gives_pin n t v) (pinned n t v)
  pin_asked id v number time n t is_n is_t keeping free floor within s rule at =
      pin_keeps session_of command_of s.words s.views id v n t (at, keeping.live) keeping.keeper keeping.olds (subst (λ k. IsFree v.out k) (sym is_n) free) (omega arith) (omega arith) rule

  pub release_asked : (id : ℕ) (v : View E) (other : ℕ) (w : View E) → IsKeeping v → IsPinning w → Joins {S = ℕ} {V = View E} Ruled id v other w (released v w) spent
  release_asked id v other w keeping pinning s rule at apart there =
      release_keeps session_of command_of s.words s.views id v other w (at, keeping.live) (sym (set_else s.views id other (released v w) apart) ∙ there, pinning.live) apart keeping.keeper keeping.olds pinning.pin rule

  pub unburden_asked : (id : ℕ) (v : View E) → IsNoting v → Splits {S = ℕ} {V = View E} Ruled id v (unburdened v) (bearer v)
  unburden_asked id v noting s rule at = unburden_keeps session_of command_of s.words s.views id v (at, noting.live) noting rule

  pub enrol_asked : (id : ℕ) (v : View E) (r n : ℕ) → n ≡ r → IsKeeping v → 0 < r → (since_of v.since r ≡ None) ⊎ Bears v.bears r → Splits {S = ℕ} {V = View E} Ruled id v (enrols session_of n v) (enrolled n v)
  enrol_asked id v r n is keeping positive may s rule at = subst (λ (m : ℕ). HistoryRule session_of command_of s.words (set s.views id (enrols session_of m v) ++ enrolled m v ∷ [])) (sym is)
      (enrol_keeps session_of command_of s.words s.views id v r (at, keeping.live) keeping positive may rule)

  pub hand_asked : (id : ℕ) (v : View E) (r n : ℕ) (es ds : List E) → n ≡ r → ds ≡ es → IsKeeping v → Bears v.bears r → ((e : E) → Contains es e → session_of e ≡ r) → Splits {S = ℕ} {V = View E} Ruled id v (hands n ds v) (handed n ds v)
  hand_asked id v r n es ds is_n is_d keeping mine of_r s rule at =
      let P : ℕ → List E → Type 0 = λ m xs. HistoryRule session_of command_of s.words (set s.views id (hands m xs v) ++ handed m xs v ∷ []) in
      subst (λ (m : ℕ). P m ds) (sym is_n) (subst (λ (xs : List E). P r xs) (sym is_d) (hand_keeps session_of command_of s.words s.views id v r es (at, keeping.live) keeping mine of_r rule))
