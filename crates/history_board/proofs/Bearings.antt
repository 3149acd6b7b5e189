-- The sessions that a view bears, before and after a step.
use Rattle.std.proofs.Common.{◌≡◌, ◌≢◌, ◌⊎◌, ℕ, zero, suc, ◌+◌, ◌<◌, ◌≤◌, ◌==◌, ◌&&◌, ◌||◌, not, Bool, true, false, true≢false, if◌then◌else◌, Some, List, [], ◌∷◌, ◌++◌, length, map, filter, refl, sym, ap, ◌∙◌, inl, inr, ⊎_elim, arith, length-append}
use Rattle.std.specs.Prelude.{Contains, slice_get}
use Rattle.std.specs.List.{list_any}
use Rattle.std.proofs.lemmas.List.Elements.{filter-append}
use Rattle.history_board.specs.declared.view.Bearing.{Bearing}
use Rattle.history_board.specs.declared.view.Enrolment.{Enrolment}
use Rattle.history_board.specs.Bearings.{since_of, IsEnrolled, borne, others, Bears, placed, without, makes, is_doubted, IsBorne}
use Rattle.history_board.proofs.Members.{by_cases, same_number, other_number, is_same, none_in, has_first, has_later, has_cases, kept, keeps_one, some_in}
use Rattle.history_board.proofs.Places.{get_longer}

not_true : (b : Bool) → not b ≡ true → b ≡ false
not_true true e = absurd (true≢false (sym e))
not_true false e = refl

false_not : (b : Bool) → b ≡ false → not b ≡ true
false_not b e = ap not e

-- an enrolment of another session leaves one enrolled
pub since_else : (xs : List Enrolment) (s n r : ℕ) → s ≢ r → since_of (record { session = s; length = n } ∷ xs) r ≡ since_of xs r
since_else xs s n r apart = by_cases (s == r) (λ e. absurd (apart (same_number s r e))) (λ e. ap (λ b. if b then Some n else since_of xs r) e)

pub since_here : (xs : List Enrolment) (s n : ℕ) → since_of (record { session = s; length = n } ∷ xs) s ≡ Some n
since_here xs s n = ap (λ b. if b then Some n else since_of xs s) (is_same s s refl)

pub still_enrolled : (xs : List Enrolment) (s n r : ℕ) → IsEnrolled xs r → IsEnrolled (record { session = s; length = n } ∷ xs) r
still_enrolled xs s n r e = by_cases (s == r)
    (λ same. (n, ap (λ b. if b then Some n else since_of xs r) same))
    (λ other. (e.0, ap (λ b. if b then Some n else since_of xs r) other ∙ e.1))

module _ {E : Type 0} where
  pub borne_is : (s : ℕ) (bears : List (Bearing E)) (b : Bearing E) → Contains (borne s bears) b → Contains bears b × (b.session ≡ s)
  borne_is s bears b has = let r = kept (λ (x : Bearing E). x.session == s) bears b has in (r.0, same_number b.session s r.1)

  pub is_borne : (s : ℕ) (bears : List (Bearing E)) (b : Bearing E) → b.session ≡ s → Contains bears b → Contains (borne s bears) b
  is_borne s bears b same has = keeps_one (λ (x : Bearing E). x.session == s) bears b (is_same b.session s same) has

  pub others_are : (s : ℕ) (bears : List (Bearing E)) (b : Bearing E) → Contains (others s bears) b → Contains bears b × (b.session ≢ s)
  others_are s bears b has = let r = kept (λ (x : Bearing E). not (x.session == s)) bears b has in (r.0, other_number b.session s (not_true (b.session == s) r.1))

  pub is_other : (s : ℕ) (bears : List (Bearing E)) (b : Bearing E) → b.session ≢ s → Contains bears b → Contains (others s bears) b
  is_other s bears b apart has = keeps_one (λ (x : Bearing E). not (x.session == s)) bears b
      (by_cases (b.session == s) (λ e. absurd (apart (same_number b.session s e))) (λ e. false_not (b.session == s) e)) has

  -- a part of the bearings has no session more often
  once_by : (r : ℕ) (test : Bearing E → Bool) (b : Bearing E) (xs : List (Bearing E)) (p q : Bool) → length (borne r (filter test xs)) ≤ length (borne r xs)
      → b.session == r ≡ q
      → length (borne r (if p then b ∷ filter test xs else filter test xs)) ≤ length (if q then b ∷ borne r xs else borne r xs)
  once_by r test b xs true true h is = let e : length (if b.session == r then b ∷ borne r (filter test xs) else borne r (filter test xs)) ≡ length (b ∷ borne r (filter test xs)) = ap (λ c. length (if c then b ∷ borne r (filter test xs) else borne r (filter test xs))) is in omega arith
  once_by r test b xs true false h is = let e : length (if b.session == r then b ∷ borne r (filter test xs) else borne r (filter test xs)) ≡ length (borne r (filter test xs)) = ap (λ c. length (if c then b ∷ borne r (filter test xs) else borne r (filter test xs))) is in omega arith
  once_by r test b xs false true h is = omega arith
  once_by r test b xs false false h is = h

  pub borne-filter_le : (r : ℕ) (test : Bearing E → Bool) (xs : List (Bearing E)) → length (borne r (filter test xs)) ≤ length (borne r xs)
  borne-filter_le r test [] = omega arith
  borne-filter_le r test (b ∷ xs) = once_by r test b xs (test b) (b.session == r) (borne-filter_le r test xs) refl

  -- what is done to each bearing, and keeps its session, leaves the count of each session
  pub borne-map : (r : ℕ) (f : Bearing E → Bearing E) → ((b : Bearing E) → (f b).session ≡ b.session) → (xs : List (Bearing E)) → length (borne r (map f xs)) ≡ length (borne r xs)
  borne-map r f same [] = refl
  borne-map r f same (b ∷ xs) =
      let rest = borne-map r f same xs in
      let test : (f b).session == r ≡ (b.session == r) = ap (λ n. n == r) (same b) in
      ap (λ c. length (if c then f b ∷ borne r (map f xs) else borne r (map f xs))) test ∙ by (b.session == r) rest
    where
      by : (c : Bool) → length (borne r (map f xs)) ≡ length (borne r xs) → length (if c then f b ∷ borne r (map f xs) else borne r (map f xs)) ≡ length (if c then b ∷ borne r xs else borne r xs)
      by true h = omega arith
      by false h = h

  pub borne-append : (r : ℕ) (xs ys : List (Bearing E)) → length (borne r (xs ++ ys)) ≡ length (borne r xs) + length (borne r ys)
  borne-append r xs ys = ap length (filter-append (λ (x : Bearing E). x.session == r) xs ys) ∙ length-append (borne r xs) (borne r ys)

  -- a session that is there stands in the bearings
  pub bears_it : (r : ℕ) (xs : List (Bearing E)) → 0 < length (borne r xs) → Bears xs r
  bears_it r xs h = let x = some_in (borne r xs) h in let is = borne_is r xs x.0 x.1 in (x.0, is.0, is.1)

module _ {E : Type 0} (session_of : E → ℕ) where
  pub without_has : (s : ℕ) (doubt : List E) (d : E) → Contains (without session_of s doubt) d → Contains doubt d × (session_of d ≢ s)
  without_has s doubt d has = let r = kept (λ (x : E). not (session_of x == s)) doubt d has in (r.0, other_number (session_of d) s (not_true (session_of d == s) r.1))

  pub makes_keeps : (place : ℕ) (e : E) (b : Bearing E) → (makes session_of place e b).session ≡ b.session
  makes_keeps place e b = by (b.session == session_of e)
    where
      by : (c : Bool) → (if c then record b { mine = b.mine ++ placed place e ∷ [] } else b).session ≡ b.session
      by true = refl
      by false = refl

  pub makes_own : (place : ℕ) (e : E) (b : Bearing E) → b.session ≡ session_of e → makes session_of place e b ≡ record b { mine = b.mine ++ placed place e ∷ [] }
  makes_own place e b same = ap (λ c. if c then record b { mine = b.mine ++ placed place e ∷ [] } else b) (is_same b.session (session_of e) same)

  pub makes_other : (place : ℕ) (e : E) (b : Bearing E) → (b.session == session_of e) ≡ false → makes session_of place e b ≡ b
  makes_other place e b other = ap (λ c. if c then record b { mine = b.mine ++ placed place e ∷ [] } else b) other

module _ {E : Type 0} (session_of command_of : E → ℕ) where
  abbrev Test : E → E → Bool
  Test e d = (session_of d == session_of e) && (command_of d == command_of e)

  any_has : (test : E → Bool) (xs : List E) → list_any test xs ≡ true → (d : E) × Contains xs d × (test d ≡ true)
  any_has test [] e = absurd (true≢false (sym e))
  any_has test (x ∷ xs) e = by (test x) refl e (any_has test xs)
    where
      by : (b : Bool) → test x ≡ b → (test x || list_any test xs) ≡ true → (list_any test xs ≡ true → (d : E) × Contains xs d × (test d ≡ true)) → (d : E) × Contains (x ∷ xs) d × (test d ≡ true)
      by true is h more = (x, has_first x xs, is)
      by false is h more = let r = more (ap (λ c. c || list_any test xs) (sym is) ∙ h) in (r.0, has_later x r.0 xs r.1, r.2)

  has_any : (test : E → Bool) (xs : List E) (d : E) → Contains xs d → test d ≡ true → list_any test xs ≡ true
  has_any test [] d has passes = none_in _ d has
  has_any test (x ∷ xs) d has passes = ⊎_elim
      (λ e. ap (λ c. c || list_any test xs) (ap test e ∙ passes))
      (λ later. by (test x) (has_any test xs d later passes))
      (has_cases x d xs has)
    where
      by : (b : Bool) → list_any test xs ≡ true → (b || list_any test xs) ≡ true
      by true h = refl
      by false h = h

  and_both : (a b : Bool) → (a && b) ≡ true → (a ≡ true) × (b ≡ true)
  and_both true b h = (refl, h)
  and_both false b h = absurd (true≢false (sym h))

  -- an entry of the same session and command is in doubt
  pub doubted_as : (doubt : List E) (e : E) → is_doubted session_of command_of doubt e ≡ true → (d : E) × Contains doubt d × (session_of d ≡ session_of e) × (command_of d ≡ command_of e)
  doubted_as doubt e h = let r = any_has (Test e) doubt h in let t = and_both (session_of r.0 == session_of e) (command_of r.0 == command_of e) r.2 in (r.0, r.1, same_number _ _ t.0, same_number _ _ t.1)

  pub is_in_doubt : (doubt : List E) (e : E) → Contains doubt e → is_doubted session_of command_of doubt e ≡ true
  is_in_doubt doubt e has = has_any (Test e) doubt e has (by (session_of e == session_of e) (command_of e == command_of e) (is_same _ _ refl) (is_same _ _ refl))
    where
      by : (a b : Bool) → a ≡ true → b ≡ true → (a && b) ≡ true
      by a b p q = ap (λ x. x && b) p ∙ q

  -- a history that goes on leaves what a session made
  pub borne_on : (seen more : List E) (since : List Enrolment) (doubt : List E) (b : Bearing E) → ((place : ℕ) (e : E) (r : IsBorne session_of command_of seen since doubt b) → slice_get (seen ++ more) place ≡ Some e → session_of e ≡ b.session → length seen ≤ place → Contains b.mine (placed place e) ⊎ Contains b.unsure e)
      → IsBorne session_of command_of seen since doubt b → IsBorne session_of command_of (seen ++ more) since doubt b
  borne_on seen more since doubt b new is = record {
    length_then = is.length_then;
    enrolled = is.enrolled;
    within = let a = is.within in let n = length-append seen more in omega arith;
    own = record {
      stands = λ m has. let s = is.own.stands m has in (s.0, get_longer seen more m.place m.entry s.1, s.2);
      each = λ place e from at same. ⊎_elim
          (λ old. is.own.each place e from old same)
          (λ later. new place e is at same later)
          (split seen more place e at);
    };
    doubted = is.doubted;
  }
    where
      split : (xs ys : List E) (k : ℕ) (a : E) → slice_get (xs ++ ys) k ≡ Some a → (slice_get xs k ≡ Some a) ⊎ (length xs ≤ k)
      split [] ys k a e = inr (omega arith)
      split (x ∷ xs) ys zero a e = inl e
      split (x ∷ xs) ys (suc k) a e = ⊎_elim (λ t. inl t) (λ t. inr (omega arith)) (split xs ys k a e)
