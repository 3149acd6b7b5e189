-- The words of a board, and lists of what is known of its numbers.
use Rattle.std.specs.Prelude.{◌≡◌, ℕ, ◌+◌, ◌*◌, ◌<◌, ◌≤◌, ◌==◌, if◌then◌else◌, List, [], ◌∷◌, length, slice_index}
use Rattle.base_core.specs.Lists.{Has}
use Rattle.place_board.specs.declared.view.Known.{Known}

-- services are numbered from 1 to 16
abbrev pub IsService : ℕ → Type 0
IsService k = (0 < k) × (k ≤ 16)

-- the number is one of the 2,048 of this service
abbrev pub IsOf : ℕ → ℕ → Type 0
IsOf service n = (n < service * 2048) × (service * 2048 ≤ n + 2048)

-- where the count of faults of this service stands, behind the words of all numbers
abbrev pub count_word : ℕ → ℕ
count_word service = 32767 + service

-- the words are those of a board: the word of a number is 0 where it is unborn, 1 where it is live, 2 where it is retired
pub record IsBoard (words : List ℕ) : Type 0 where
  pub long : length words ≡ 32784
  pub small : (n : ℕ) → n < 32768 → slice_index words n ≤ 2

-- the list without this number
abbrev pub without : ℕ → List ℕ → List ℕ
without n [] = []
without n (x ∷ xs) = if x == n then without n xs else x ∷ without n xs

-- something is known of the number
abbrev pub IsKnown : List Known → ℕ → Type 0
IsKnown knows n = (k : Known) × Has knows k × (k.number ≡ n)

-- what both know of one number is the same
abbrev pub Agree : List Known → List Known → Type 0
Agree ones others = (k l : Known) → Has ones k → Has others l → k.number ≡ l.number → k ≡ l
