-- How far the records of a log reach, by their sizes.
use Rattle.std.specs.Prelude.{ℕ, ◌+◌, ◌-◌, List, [], ◌∷◌, ◌++◌, Option, Some, None, option_to_list}
use Rattle.record_log.specs.declared.extent.Stage.{Stage}
use Rattle.record_log.specs.declared.extent.Stage.TheVariants.{Settled, Begun, Opening}

-- what a log knows of its records
pub record LogSizes : Type 0 where
  -- the sizes of the bodies that are in
  pub sizes : List ℕ
  -- how far the last put came
  pub stage : Stage
  -- how many records more it has taken memory for
  pub room : ℕ

-- how many bytes records with bodies of these sizes have, with the gate before each
abbrev pub total_of : List ℕ → ℕ
total_of [] = 0
total_of (size ∷ sizes) = 5 + size + total_of sizes

-- the size of the body of the undecided record
abbrev pub undecided_size : Stage → Option ℕ
undecided_size Settled = None
undecided_size (Begun size) = Some size
undecided_size (Opening size) = Some size

-- how many bytes the undecided record would add
abbrev pub undecided_bytes : Stage → ℕ
undecided_bytes Settled = 0
undecided_bytes (Begun size) = 5 + size
undecided_bytes (Opening size) = 5 + size

-- how many records are undecided
abbrev pub undecided_count : Stage → ℕ
undecided_count Settled = 0
undecided_count (Begun size) = 1
undecided_count (Opening size) = 1

abbrev pub opened : Stage → Stage
opened Settled = Settled
opened (Begun size) = Opening size
opened (Opening size) = Opening size

-- the undecided record is taken in
abbrev pub kept_in : LogSizes → LogSizes
kept_in log = record {
  sizes = log.sizes ++ option_to_list (undecided_size log.stage);
  stage = Settled;
  room = log.room - undecided_count log.stage;
}
