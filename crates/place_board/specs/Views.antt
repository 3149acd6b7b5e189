-- Private: the views of a board, those that steps begin with and those that they leave.
use Rattle.std.specs.Prelude.{◌≡◌, ℕ, ◌+◌, ◌*◌, true, false, List, [], ◌∷◌, ◌++◌, if◌then◌else◌}
use Rattle.place_board.specs.declared.view.View.{View}
use Rattle.place_board.specs.declared.view.Known.{Known}
use Rattle.place_board.specs.declared.view.Counted.{Counted}
use Rattle.place_board.specs.Words.{without}

-- the list of a new board
abbrev pub first_list : View
first_list = record { live = true; is_service = false; is_list = true; knows = []; dead = []; fresh = []; once = []; counts = []; service = 0; next = 0; mine = []; posted = 0; services = 0; ever = []; listed = [] }

-- a view that was joined to another
abbrev pub spent : View
spent = record { live = false; is_service = false; is_list = false; knows = []; dead = []; fresh = []; once = []; counts = []; service = 0; next = 0; mine = []; posted = 0; services = 0; ever = []; listed = [] }

-- the counts that a view can tell of: a service tells of its own too
abbrev pub counts_of : View → List Counted
counts_of v = if v.is_service then record { service = v.service; count = v.posted } ∷ v.counts else v.counts

-- a note that knows what the view knows, and has this fresh
abbrev pub note : View → List ℕ → View
note v fresh = record { live = true; is_service = false; is_list = false; knows = v.knows; dead = v.dead; fresh = fresh; once = v.once; counts = counts_of v; service = 0; next = 0; mine = []; posted = 0; services = 0; ever = []; listed = [] }

abbrev pub told : View → View
told v = note v []

-- a view that gives a fresh number away, and the note that takes it
abbrev pub releases : ℕ → View → View
releases n v = record v { fresh = without n v.fresh }

abbrev pub released : ℕ → View → View
released n v = note v (n ∷ [])

-- the list that gave out one more seat, and the service that has it
abbrev pub seats_one : View → View
seats_one v = record v { services = v.services + 1 }

abbrev pub seated : View → View
seated v = record { live = true; is_service = true; is_list = false; knows = []; dead = []; fresh = []; once = []; counts = []; service = v.services + 1; next = v.services * 2048; mine = []; posted = 0; services = 0; ever = []; listed = [] }

-- a view that took in another
abbrev pub joined : View → View → View
joined v w = record v { knows = v.knows ++ w.knows; dead = v.dead ++ w.dead; fresh = v.fresh ++ w.fresh; once = v.once ++ w.once; counts = v.counts ++ w.counts }

-- a service that bore its next number
abbrev pub bore : Known → View → View
bore k v = record v { knows = k ∷ v.knows; fresh = v.next ∷ v.fresh; mine = v.next ∷ v.mine; next = v.next + 1 }

-- the list with one more number, and with one less
abbrev pub enlisted : ℕ → View → View
enlisted n v = record v { fresh = without n v.fresh; once = n ∷ v.once; ever = n ∷ v.ever; listed = n ∷ v.listed }

abbrev pub retired : ℕ → View → View
retired n v = record v { dead = n ∷ v.dead; listed = without n v.listed }

-- a service that found a number retired, and one that dropped it
abbrev pub saw : ℕ → View → View
saw n v = record v { dead = n ∷ v.dead }

abbrev pub gave_up : ℕ → View → View
gave_up n v = record v { mine = without n v.mine }

-- a service that posted a count
abbrev pub posted_at : ℕ → View → View
posted_at count v = record v { posted = count }

-- the view of a service seat, of the list seat and of a note between two calls
pub record IsServing (v : View) : Type 0 where
  pub live : v.live ≡ true
  pub service : v.is_service ≡ true
  pub list : v.is_list ≡ false

pub record IsListing (v : View) : Type 0 where
  pub live : v.live ≡ true
  pub service : v.is_service ≡ false
  pub list : v.is_list ≡ true

pub record IsNoting (v : View) : Type 0 where
  pub live : v.live ≡ true
  pub service : v.is_service ≡ false
  pub list : v.is_list ≡ false
