-- Where the bodies of a log stand.
use Rattle.std.specs.Prelude.{◌≡◌, ◌<◌, ◌≤◌, ◌^◌, ℕ, ◌+◌, List, [], ◌∷◌, map}
use Rattle.record_log.specs.declared.extent.Place.{Place}
use Rattle.record_log.specs.declared.extent.Stage.{Stage}
use Rattle.record_log.specs.Sizes.{total_of, undecided_bytes, undecided_count}

-- the places of bodies of these sizes whose first gate stands here
abbrev pub places_from : ℕ → List ℕ → List Place
places_from gate [] = []
places_from gate (size ∷ sizes) = record { start = gate + 5; size = size } ∷ places_from (gate + 5 + size) sizes

abbrev pub sizes_at : List Place → List ℕ
sizes_at places = map (λ (place : Place). place.size) places

-- the bodies stand behind one another, and the last gate behind them; there is room for the undecided record, and its end fits
pub record AreTied (places : List Place) (end : ℕ) (stage : Stage) (room : ℕ) : Type 0 where
  pub stand : places ≡ places_from 0 (sizes_at places)
  pub last : end ≡ total_of (sizes_at places)
  pub enough : undecided_count stage ≤ room
  pub fits : end + undecided_bytes stage < 2 ^ 64
