-- Private: the views of a board: those that steps begin with, and those that they leave.
use Rattle.std.specs.Prelude.{◌≡◌, ℕ, true, false, List, [], ◌∷◌, ◌++◌, max, if◌then◌else◌, slice_set, None, map, length}
use Rattle.history_board.specs.declared.view.View.{View}
use Rattle.history_board.specs.declared.view.Bearing.{Bearing}
use Rattle.history_board.specs.Bearings.{longer, borne, others, newcomer, unsure_of, without}
use Rattle.history_board.specs.Pins.{put_out}

module _ {E : Type 0} where
  -- the keeper of a new board
  abbrev pub first_keeper : View E
  first_keeper = record { live = true; is_keeper = true; is_pin = false; seen = []; olds = []; floor_seen = 0; count_seen = 0; bears = []; number = 0; time = 0; floor = 0; posted = 0; out = []; since = []; doubt = [] }

  -- a view that was joined to another
  abbrev pub spent : View E
  spent = record { live = false; is_keeper = false; is_pin = false; seen = []; olds = []; floor_seen = 0; count_seen = 0; bears = []; number = 0; time = 0; floor = 0; posted = 0; out = []; since = []; doubt = [] }

  -- a note that has seen this, and bears these
  abbrev pub note : List E → ℕ → ℕ → List (Bearing E) → View E
  note seen floor count bears = record { live = true; is_keeper = false; is_pin = false; seen = seen; olds = []; floor_seen = floor; count_seen = count; bears = bears; number = 0; time = 0; floor = 0; posted = 0; out = []; since = []; doubt = [] }

  -- the count of faults that a view can tell of: the keeper's is what it posted
  abbrev pub count_of : View E → ℕ
  count_of v = if v.is_keeper then v.posted else v.count_seen

  -- a note that knows what the view knows, and bears nothing
  abbrev pub told : View E → View E
  told v = note v.seen v.floor_seen (count_of v) []

  -- a view that took in another. The keeper has seen all, so its history stays
  abbrev pub joined : View E → View E → View E
  joined v w = record v {
    seen = if v.is_keeper then v.seen else longer v.seen w.seen;
    olds = v.seen ∷ w.seen ∷ [];
    floor_seen = max v.floor_seen w.floor_seen;
    count_seen = max v.count_seen w.count_seen;
    bears = v.bears ++ w.bears;
  }

  -- the keeper after it gave out a pin of this number and time, and the pin
  abbrev pub gives_pin : ℕ → ℕ → View E → View E
  gives_pin number time v = record v { out = put_out v.out number time }

  abbrev pub pinned : ℕ → ℕ → View E → View E
  pinned number time v = record (told v) { is_pin = true; number = number; time = time }

  -- the keeper after it took a pin back
  abbrev pub released : View E → View E → View E
  released v w = record v { out = slice_set v.out w.number None }

  -- a note that gave its sessions away, and the note that took them
  abbrev pub unburdened : View E → View E
  unburdened v = record v { bears = [] }

  abbrev pub bearer : View E → View E
  bearer v = record (told v) { bears = v.bears }

  -- a note that bears the keeper's session of this number, once it is unsure of these entries too
  abbrev pub handed : ℕ → List E → View E → View E
  handed s es v = record (told v) { bears = map (unsure_of es) (borne s v.bears) }

  -- the keeper then: the session is gone, and the entries are in doubt
  abbrev pub hands : ℕ → List E → View E → View E
  hands s es v = record v { bears = others s v.bears; doubt = v.doubt ++ es }

  -- a note that bears the session of this number, which has made nothing yet
  abbrev pub enrolled : ℕ → View E → View E
  enrolled s v = record (told v) { bears = newcomer s ∷ [] }

  -- the keeper's view, a note's and a pin's between two calls
  pub record IsKeeping (v : View E) : Type 0 where
    pub live : v.live ≡ true
    pub keeper : v.is_keeper ≡ true
    pub pin : v.is_pin ≡ false
    pub olds : v.olds ≡ []

  pub record IsNoting (v : View E) : Type 0 where
    pub live : v.live ≡ true
    pub keeper : v.is_keeper ≡ false
    pub pin : v.is_pin ≡ false
    pub olds : v.olds ≡ []

  pub record IsPinning (v : View E) : Type 0 where
    pub live : v.live ≡ true
    pub keeper : v.is_keeper ≡ false
    pub pin : v.is_pin ≡ true
    pub olds : v.olds ≡ []

module _ {E : Type 0} (session_of : E → ℕ) where
  -- the keeper that enrolled the session: what it bore of it and its entries in doubt are forgotten
  abbrev pub enrols : ℕ → View E → View E
  enrols s v = record v { bears = others s v.bears; since = record { session = s; length = length v.seen } ∷ v.since; doubt = without session_of s v.doubt }
