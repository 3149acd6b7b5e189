-- What a crash leaves of a disk when all of its pending writes stand, or none.
use Rattle.std.specs.Prelude.{ℕ, List, Bool, if◌then◌else◌}
use Rattle.disk_core.specs.Files.{IsStored}
use Rattle.disk_core.specs.Moments.{State, Told, Images}

-- what reads give, or what the last sync stored
abbrev pub left : Bool → State → ℕ → List ℕ
left all state file = if all then (state file).content else (state file).stored

-- another disk holds what is left, with nothing pending
pub record IsLeft (all : Bool) (old new : Told) : Type 0 where
  pub stored : (file : ℕ) → IsStored (new.now file) (left all old.now file)
  pub image : Images old.now (left all old.now)
