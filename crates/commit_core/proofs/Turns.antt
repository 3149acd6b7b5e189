-- A session's turn at the keeper: whom the keeper bears when the session has gone home, and that what it is unsure of may still come in.
use Rattle.std.proofs.Common.{◌≡◌, ℕ, ◌≤◌, ◌==◌, Bool, true, false, if◌then◌else◌, List, [], ◌∷◌, ◌++◌, length, map, refl, sym, ap, ◌∙◌, subst, arith, ⊎_elim, length-append}
use Rattle.std.specs.Prelude.{Contains, not, Some}
use Rattle.std.proofs.lemmas.List.{append-nil}
use Rattle.std.proofs.lemmas.List.Elements.{filter-append, Contains-append_right}
use Rattle.history_board.specs.declared.view.Bearing.{Bearing}
use Rattle.history_board.specs.declared.view.Enrolment.{Enrolment}
use Rattle.history_board.specs.Bearings.{borne, others, placed, makes, since_of, IsAbove, IsBorne}
use Rattle.history_board.specs.Tokens.{Kept}
use Rattle.history_board.proofs.Members.{is_same, has_first}
use Rattle.history_board.proofs.Bearings.{makes_keeps}
use Rattle.change_model.specs.declared.history.Committed.{Committed}
use Rattle.commit_core.specs.Rooms.{session_of, command_of, MayComeIn}

nothing : {A : Type 0} (xs : List A) → length xs ≤ 0 → xs ≡ []
nothing [] h = refl
nothing (x ∷ xs) h = absurd (omega arith)

told : (c : Bool) → (c ≡ true → ⊥) → c ≡ false
told true isnt = absurd (isnt refl)
told false isnt = refl

module _ {E : Type 0} where
  borne_one : (s : ℕ) (b : Bearing E) → b.session ≡ s → borne s (b ∷ []) ≡ b ∷ []
  borne_one s b same = ap (λ c. if c then b ∷ [] else []) (is_same b.session s same)

  -- the keeper bears the session once, so none of the others is of it
  pub no_other : (s : ℕ) (bears : List (Bearing E)) (b : Bearing E) → b.session ≡ s → length (borne s (bears ++ b ∷ [])) ≤ 1 → borne s bears ≡ []
  no_other s bears b same once =
      let parts : borne s (bears ++ b ∷ []) ≡ borne s bears ++ (b ∷ []) = filter-append (λ (x : Bearing E). x.session == s) bears (b ∷ []) ∙ ap (λ l. borne s bears ++ l) (borne_one s b same) in
      nothing (borne s bears) (omega (arith, ap length parts, length-append (borne s bears) (b ∷ []), once))

  not_of : (s : ℕ) (x : Bearing E) (xs : List (Bearing E)) → borne s (x ∷ xs) ≡ [] → (x.session == s) ≡ true → ⊥
  not_of s x xs none q = let e : x ∷ borne s xs ≡ [] = sym (ap (λ c. if c then x ∷ borne s xs else borne s xs) q) ∙ none in absurd cc

  rest_none : (s : ℕ) (x : Bearing E) (xs : List (Bearing E)) → borne s (x ∷ xs) ≡ [] → (x.session == s) ≡ false → borne s xs ≡ []
  rest_none s x xs none q = sym (ap (λ c. if c then x ∷ borne s xs else borne s xs) q) ∙ none

  others_step : (s : ℕ) (x : Bearing E) (xs ys : List (Bearing E)) → (x.session == s) ≡ false → others s xs ≡ ys → others s (x ∷ xs) ≡ x ∷ ys
  others_step s x xs ys q rest = ap (λ c. if not c then x ∷ others s xs else others s xs) q ∙ ap (λ l. x ∷ l) rest

  -- without the session that came last, the keeper bears whom it bore
  pub without_last : (s : ℕ) (bears : List (Bearing E)) (b : Bearing E) → b.session ≡ s → borne s bears ≡ [] → others s (bears ++ b ∷ []) ≡ bears
  without_last s [] b same none = ap (λ c. if not c then b ∷ [] else []) (is_same b.session s same)
  without_last s (x ∷ xs) b same none =
      let q : (x.session == s) ≡ false = told (x.session == s) (not_of s x xs none) in
      others_step s x (xs ++ b ∷ []) xs q (without_last s xs b same (rest_none s x xs none q))

module _ {E : Type 0} (sf : E → ℕ) where
  makes_other : (place : ℕ) (e : E) (x : Bearing E) → (x.session == sf e) ≡ false → makes sf place e x ≡ x
  makes_other place e x q = ap (λ c. if c then record x { mine = x.mine ++ placed place e ∷ [] } else x) q

  -- an entry is only its own session's
  pub makes_last : (place : ℕ) (e : E) (bears : List (Bearing E)) (b : Bearing E) → borne (sf e) bears ≡ [] → map (makes sf place e) (bears ++ b ∷ []) ≡ bears ++ makes sf place e b ∷ []
  makes_last place e [] b none = refl
  makes_last place e (x ∷ xs) b none =
      let q : (x.session == sf e) ≡ false = told (x.session == sf e) (not_of (sf e) x xs none) in
      ap (λ y. y ∷ map (makes sf place e) (xs ++ b ∷ [])) (makes_other place e x q) ∙ ap (λ l. x ∷ l) (makes_last place e xs b (rest_none (sf e) x xs none q))

  -- when the session went home, the keeper bears whom it bore
  pub home_again : (place : ℕ) (e : E) (bears : List (Bearing E)) (b : Bearing E) → b.session ≡ sf e → length (borne (sf e) (bears ++ b ∷ [])) ≤ 1
      → others (sf e) (map (makes sf place e) (bears ++ b ∷ [])) ≡ bears
  home_again place e bears b same once =
      let none : borne (sf e) bears ≡ [] = no_other (sf e) bears b same once in
      ap (λ l. others (sf e) l) (makes_last place e bears b none) ∙ without_last (sf e) bears (makes sf place e b) (makes_keeps sf place e b ∙ same) none

-- what a session is unsure of may still come in: its command is above all that the session made
pub may_come : (seen : List Committed) (since : List Enrolment) (doubt doubt_after : List Committed) (committed : Committed) (b : Bearing Committed)
    → IsBorne session_of command_of seen since doubt b → b.session ≡ session_of committed → IsAbove session_of command_of b (command_of committed)
    → doubt_after ≡ doubt ++ committed ∷ [] → MayComeIn seen since doubt_after committed
may_come seen since doubt doubt_after committed b borne same above is = record {
  doubted = subst (λ l. Contains l committed) (sym is) (Contains-append_right doubt (committed ∷ []) committed (has_first committed []));
  first = λ n place other enrolled from at of_session.
      let then_is : Some borne.length_then ≡ Some n = sym borne.enrolled ∙ (ap (λ s. since_of since s) same ∙ enrolled) in
      let start : borne.length_then ≡ n = cc in
      ⊎_elim (λ mine. above.mine (placed place other) mine) (λ unsure. above.unsure other unsure)
      (borne.own.each place other (omega arith) at (of_session ∙ sym same));
}

-- ---- the keeper after a turn

same_fields : (k : Kept Committed) (s s' : List Committed) (b b' : List (Bearing Committed)) (d d' : List Committed) (f f' n n' : ℕ) → s ≡ s' → b ≡ b' → d ≡ d' → f ≡ f' → n ≡ n'
    → record k { seen = s; bears = b; doubt = d; floor_seen = f; count = n } ≡ record k { seen = s'; bears = b'; doubt = d'; floor_seen = f'; count = n' }
same_fields k s s' b b' d d' f f' n n' es eb ed ef en =
    let make : List Committed → List (Bearing Committed) → List Committed → ℕ → ℕ → Kept Committed =
    λ s b d f n. record k { seen = s; bears = b; doubt = d; floor_seen = f; count = n } in
    ap (λ x. make x b d f n) es ∙ (ap (λ x. make s' x d f n) eb ∙ (ap (λ x. make s' b' x f n) ed ∙ (ap (λ x. make s' b' d' x n) ef ∙ ap (λ x. make s' b' d' f' x) en)))

pub keeper_entered : (k take came hand : Kept Committed) (e : Committed) (b1 b2 : List (Bearing Committed)) (f1 n1 f2 n2 : ℕ)
    → take ≡ record k { bears = b1; floor_seen = f1; count = n1 } → came ≡ record take { seen = came.seen; bears = came.bears } → came.seen ≡ take.seen ++ e ∷ []
    → hand ≡ record came { bears = b2; doubt = came.doubt ++ []; floor_seen = f2; count = n2 } → b2 ≡ k.bears
    → hand ≡ record k { seen = k.seen ++ e ∷ []; floor_seen = hand.floor_seen; count = hand.count }
keeper_entered k take came hand e b1 b2 f1 n1 f2 n2 take_is came_is appended hand_is home =
    let came_of : came ≡ record k { seen = came.seen; bears = came.bears; floor_seen = f1; count = n1 } =
    came_is ∙ ap (λ (t : Kept Committed). record t { seen = came.seen; bears = came.bears }) take_is in
    let hand_of : hand ≡ record k { seen = came.seen; bears = b2; doubt = came.doubt ++ []; floor_seen = f2; count = n2 } =
    hand_is ∙ ap (λ (t : Kept Committed). record t { bears = b2; doubt = came.doubt ++ []; floor_seen = f2; count = n2 }) came_of in
    let seen : came.seen ≡ k.seen ++ e ∷ [] = appended ∙ ap (λ (t : Kept Committed). t.seen ++ e ∷ []) take_is in
    let doubt : came.doubt ++ [] ≡ k.doubt = append-nil came.doubt ∙ ap (λ (t : Kept Committed). t.doubt) came_of in
    hand_of ∙ same_fields k came.seen (k.seen ++ e ∷ []) b2 k.bears (came.doubt ++ []) k.doubt f2 hand.floor_seen n2 hand.count seen home doubt
    (sym (ap (λ (t : Kept Committed). t.floor_seen) hand_of)) (sym (ap (λ (t : Kept Committed). t.count) hand_of))

pub keeper_doubts : (k take hand : Kept Committed) (e : Committed) (b1 b2 : List (Bearing Committed)) (f1 n1 f2 n2 : ℕ)
    → take ≡ record k { bears = b1; floor_seen = f1; count = n1 }
    → hand ≡ record take { bears = b2; doubt = take.doubt ++ e ∷ []; floor_seen = f2; count = n2 } → b2 ≡ k.bears
    → hand ≡ record k { doubt = k.doubt ++ e ∷ []; floor_seen = hand.floor_seen; count = hand.count }
keeper_doubts k take hand e b1 b2 f1 n1 f2 n2 take_is hand_is home =
    let hand_of : hand ≡ record k { bears = b2; doubt = take.doubt ++ e ∷ []; floor_seen = f2; count = n2 } =
    hand_is ∙ ap (λ (t : Kept Committed). record t { bears = b2; doubt = take.doubt ++ e ∷ []; floor_seen = f2; count = n2 }) take_is in
    hand_of ∙ same_fields k k.seen k.seen b2 k.bears (take.doubt ++ e ∷ []) (k.doubt ++ e ∷ []) f2 hand.floor_seen n2 hand.count refl home (ap (λ (t : Kept Committed). t.doubt ++ e ∷ []) take_is)
    (sym (ap (λ (t : Kept Committed). t.floor_seen) hand_of)) (sym (ap (λ (t : Kept Committed). t.count) hand_of))
