-- A rule of a table that is one of pairs: it speaks of the words, of one view beside the words, and of two views.
use Rattle.std.specs.Prelude.{◌≡◌, ℕ, Bool, true, List}
use mathlib.Core.Option.{some}
use lib.ListN.{get_elem?}

module _ {V : Type 0} (is_live : V → Bool) where
  -- the seat has this view, which is not spent
  abbrev pub IsLive : List V → ℕ → V → Type 0
  IsLive views seat v = (get_elem? views seat ≡ some v) × (is_live v ≡ true)

module _ {V : Type 0} (Base : List ℕ → Type 0) (Fits : List ℕ → V → Type 0) (Apart : V → V → Type 0) where
  -- the rule of these words, where the relation says which live view each seat has
  pub record IsKept (words : List ℕ) (At : ℕ → V → Type 0) : Type 0 where
    -- of the words alone
    pub base : Base words
    -- of each live view beside the words
    pub each : (seat : ℕ) (v : V) → At seat v → Fits words v
    -- of the live views of two seats
    pub pair : (seat other : ℕ) (v w : V) → ¬ (seat ≡ other) → At seat v → At other w → Apart v w

  -- the rule of these words and these views
  abbrev pub PairRule : (V → Bool) → List ℕ → List V → Type 0
  PairRule is_live words views = IsKept words (IsLive is_live views)
