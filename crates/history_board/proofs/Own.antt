-- For callers: a session's own after it took a turn at the keeper.
use Rattle.std.proofs.Common.{◌≡◌, ℕ, ◌<◌, ◌≤◌, ◌==◌, Bool, true, false, if◌then◌else◌, List, [], ◌∷◌, ◌++◌, length, map, refl, sym, ap, ◌∙◌, subst, arith, ⊎_elim, length-append}
use Rattle.std.specs.Prelude.{Contains, IfSome, Option, None, Some}
use Rattle.std.proofs.lemmas.List.Elements.{filter-append, Contains-append_right, Contains-append_cases}
use Rattle.history_board.specs.declared.view.Bearing.{Bearing}
use Rattle.history_board.specs.declared.view.Placed.{Placed}
use Rattle.history_board.specs.Bearings.{Bears, borne, placed, makes, newcomer, IsAbove}
use Rattle.history_board.specs.Tokens.{Kept, IsSound}
use Rattle.history_board.proofs.Members.{is_same, has_first, none_in, one_of_one}
use Rattle.history_board.proofs.Bearings.{makes_keeps, makes_own}

nothing : {A : Type 0} (xs : List A) → length xs ≤ 0 → xs ≡ []
nothing [] h = refl
nothing (x ∷ xs) h = absurd (omega arith)

module _ {E : Type 0} where
  borne_one : (s : ℕ) (b : Bearing E) → b.session ≡ s → borne s (b ∷ []) ≡ b ∷ []
  borne_one s b same = ap (λ c. if c then b ∷ [] else []) (is_same b.session s same)

  -- the keeper bears the session once, so what it took in is all
  pub only_one : (s : ℕ) (bears : List (Bearing E)) (b : Bearing E) → b.session ≡ s → length (borne s (bears ++ b ∷ [])) ≤ 1 → borne s (bears ++ b ∷ []) ≡ b ∷ []
  only_one s bears b same once =
      let parts : borne s (bears ++ b ∷ []) ≡ borne s bears ++ (b ∷ []) = filter-append (λ (x : Bearing E). x.session == s) bears (b ∷ []) ∙ ap (λ l. borne s bears ++ l) (borne_one s b same) in
      let n : length (borne s bears) ≤ 0 = omega (arith, ap length parts, length-append (borne s bears) (b ∷ []), once) in
      parts ∙ ap (λ l. l ++ b ∷ []) (nothing (borne s bears) n)

  pub taken : (bears : List (Bearing E)) (b : Bearing E) → Contains (bears ++ b ∷ []) b
  taken bears b = Contains-append_right bears (b ∷ []) b (has_first b [])

  -- a session that came back to the keeper is borne there
  pub back_again : (bears note after : List (Bearing E)) (b : Bearing E) → after ≡ bears ++ note → note ≡ b ∷ [] → Bears after b.session
  back_again bears note after b is one = (b, subst (λ l. Contains l b) (sym (is ∙ ap (λ l. bears ++ l) one)) (taken bears b), refl)

module _ {E : Type 0} (session_of command_of : E → ℕ) where
  borne-makes : (s place : ℕ) (e : E) (xs : List (Bearing E)) → borne s (map (makes session_of place e) xs) ≡ map (makes session_of place e) (borne s xs)
  borne-makes s place e [] = refl
  borne-makes s place e (x ∷ xs) =
      let f = makes session_of place e in
      ap (λ n. if n == s then f x ∷ borne s (map f xs) else borne s (map f xs)) (makes_keeps session_of place e x)
      ∙ (ap (λ l. if x.session == s then f x ∷ l else l) (borne-makes s place e xs) ∙ by (x.session == s))
    where
      by : (c : Bool) → (if c then makes session_of place e x ∷ map (makes session_of place e) (borne s xs) else map (makes session_of place e) (borne s xs)) ≡ map (makes session_of place e) (if c then x ∷ borne s xs else borne s xs)
      by true = refl
      by false = refl

  -- what the keeper bears of the session after the commit
  pub made : (place : ℕ) (e : E) (bears after : List (Bearing E)) (b : Bearing E) → b.session ≡ session_of e → length (borne (session_of e) (bears ++ b ∷ [])) ≤ 1 → after ≡ map (makes session_of place e) (bears ++ b ∷ [])
      → borne (session_of e) after ≡ record b { mine = b.mine ++ placed place e ∷ [] } ∷ []
  made place e bears after b same once is =
      let s = session_of e in
      let f = makes session_of place e in
      ap (λ l. borne s l) is ∙ (borne-makes s place e (bears ++ b ∷ []) ∙ (ap (λ l. map f l) (only_one s bears b same once) ∙ ap (λ (x : Bearing E). x ∷ []) (makes_own session_of place e b same)))

  -- its command is new, so the entry is not in doubt
  pub not_doubted : (k : Kept E) (e : E) (b : Bearing E) → IsSound session_of command_of k → Contains k.bears b → b.session ≡ session_of e → IsAbove session_of command_of b (command_of e) → Contains k.doubt e → ⊥
  not_doubted k e b sound has same above doubted = let h = above.unsure e ((sound.bears b has).doubted e doubted (sym same)) in omega arith

  -- a session that was just enrolled has made nothing
  pub newcomer_above : (s command : ℕ) → IsAbove session_of command_of (newcomer {E = E} s) command
  newcomer_above s command = record { mine = λ m has. none_in _ m has; unsure = λ e has. none_in _ e has }

  -- a session is still below, once it made one entry below
  pub above_after : (b : Bearing E) (place command : ℕ) (e : E) → IsAbove session_of command_of b command → command_of e < command → IsAbove session_of command_of (record b { mine = b.mine ++ placed place e ∷ [] }) command
  above_after b place command e above less = record {
    mine = λ m has. ⊎_elim (λ old. above.mine m old) (λ newly. subst (λ (x : Placed E). command_of x.entry < command) (one_of_one (placed place e) m newly) less) (Contains-append_cases b.mine (placed place e ∷ []) m has);
    unsure = above.unsure;
  }

pub if_some : {A : Type 0} (P Q : A → Type 0) (o : Option A) → ((a : A) → P a → Q a) → IfSome o P → IfSome o Q
if_some P Q None f h = tt
if_some P Q (Some a) f h = f a h
