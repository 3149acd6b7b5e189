-- Private: how often a file is synced in calls.
use Rattle.std.specs.Prelude.{◌≡◌, ℕ, ◌+◌, ◌==◌, List, [], ◌∷◌, unwrap_or, if◌then◌else◌}
use Rattle.std.specs.BTreeMap.{BTreeMap, get}
use Rattle.std.specs.Ordering.{nat_cmp}
use Rattle.disk_mem.specs.declared.call.Call.{Call}
use Rattle.disk_mem.specs.declared.call.Call.TheVariants.{Write, Sync, Remove}

abbrev pub syncs_in : ℕ → Call → ℕ
syncs_in file (Write other at bytes) = 0
syncs_in file (Sync other) = if file == other then 1 else 0
syncs_in file (Remove other) = 0

abbrev pub syncs_of : ℕ → List Call → ℕ
syncs_of file [] = 0
syncs_of file (call ∷ calls) = syncs_in file call + syncs_of file calls

-- what a map of counts has for a file
abbrev pub count_in : BTreeMap ℕ ℕ → ℕ → ℕ
count_in counts file = unwrap_or (get nat_cmp counts file) 0

abbrev pub AreCounted : BTreeMap ℕ ℕ → List Call → Type 0
AreCounted counts calls = (file : ℕ) → count_in counts file ≡ syncs_of file calls
