-- Private: how the files of a disk stand after the calls that changed it, one after another.
use Rattle.std.specs.Prelude.{◌≡◌, ℕ, ◌==◌, List, [], ◌∷◌, length, if◌then◌else◌}
use Rattle.disk_core.specs.Files.{FileState, with_bytes, written, synced, removed}
use Rattle.disk_core.specs.Moments.{State, Told, moments}
use Rattle.disk_mem.specs.Contents.{FileMap, bytes_in}
use Rattle.disk_mem.specs.declared.call.Call.{Call}
use Rattle.disk_mem.specs.declared.call.Call.TheVariants.{Write, Sync, Remove}

-- a file of which nothing is pending
abbrev pub stored_file : List ℕ → FileState
stored_file bytes = record { content = bytes; stored = bytes; touched = []; shortest = length bytes; longest = length bytes }

-- a disk that begins with these bytes in its files
abbrev pub begun : (ℕ → List ℕ) → Told
begun bytes = record { now = λ file. stored_file (bytes file); past = [] }

abbrev pub file_of : Call → ℕ
file_of (Write file at bytes) = file
file_of (Sync file) = file
file_of (Remove file) = file

-- what a call does to its file
abbrev pub changed_by : Call → FileState → FileState
changed_by (Write file at bytes) old = written old at bytes.items
changed_by (Sync file) old = synced old
changed_by (Remove file) old = removed old

abbrev pub state_after : State → Call → State
state_after state call = λ file. if file == file_of call then changed_by call (state file) else state file

abbrev pub told_after : Told → Call → Told
told_after told call = record { now = state_after told.now call; past = moments told }

-- the disk after calls, the oldest of which stands first
abbrev pub replayed : Told → List Call → Told
replayed told [] = told
replayed told (call ∷ calls) = replayed (told_after told call) calls

-- ---- the same in a map of what reads give

abbrev pub bytes_after : Call → List ℕ → List ℕ
bytes_after (Write file at bytes) old = with_bytes old at bytes.items
bytes_after (Sync file) old = old
bytes_after (Remove file) old = []

-- the call was done in the map
abbrev pub IsApplied : Call → FileMap → FileMap → Type 0
IsApplied call old new =
    (file : ℕ) → bytes_in new file ≡ (if file == file_of call then bytes_after call (bytes_in old file) else bytes_in old file)
