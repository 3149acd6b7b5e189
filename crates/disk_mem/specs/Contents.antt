-- Private: the bytes of files, in a map by their numbers that has no file without bytes.
use Rattle.std.specs.Prelude.{◌≡◌, ◌≢◌, ℕ, ◌==◌, List, [], Option, Some, None, Vec, if◌then◌else◌}
use Rattle.std.specs.BTreeMap.{BTreeMap, get}
use Rattle.std.specs.Ordering.{nat_cmp}
use Rattle.std.specs.declared.alloc.Global.{Global}

abbrev pub FileMap : Type 0
FileMap = BTreeMap ℕ (Vec ℕ Global)

abbrev pub held_bytes : Option (Vec ℕ Global) → List ℕ
held_bytes None = []
held_bytes (Some bytes) = bytes.items

-- the bytes of a file; a missing one has none
abbrev pub bytes_in : FileMap → ℕ → List ℕ
bytes_in files file = held_bytes (get nat_cmp files file)

abbrev pub HasNoEmpty : FileMap → Type 0
HasNoEmpty files = (file : ℕ) (bytes : Vec ℕ Global) → get nat_cmp files file ≡ Some bytes → bytes.items ≢ []

-- one file has these bytes now, and all others are as they were
abbrev pub IsPut : ℕ → List ℕ → FileMap → FileMap → Type 0
IsPut file bytes old new = (other : ℕ) → bytes_in new other ≡ (if other == file then bytes else bytes_in old other)

abbrev pub SameBytes : FileMap → FileMap → Type 0
SameBytes old new = (file : ℕ) → bytes_in new file ≡ bytes_in old file
