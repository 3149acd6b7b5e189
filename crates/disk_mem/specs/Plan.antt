-- Which calls of a disk in memory fail, and what it counts.
use Rattle.std.specs.Prelude.{◌≡◌, ℕ, ◌+◌, ◌-◌, ◌^◌, ◌≤◌, ◌<◌, min, List, Option, Contains, IsSomeAnd, Result, OnOk, IsErr, ◌⊎◌}
use Rattle.base_core.specs.Faults.{HasRisen}
use Rattle.disk_mem.specs.declared.plan.Plan.{Plan}

-- the call of this number is to fail
abbrev pub IsDue : List ℕ → Option ℕ → ℕ → Type 0
IsDue fails stop number = Contains fails number ⊎ IsSomeAnd stop (λ first. first ≤ number)

-- no call was made
pub record IsFresh (numbers : List ℕ) (first : Option ℕ) (plan : Plan) : Type 0 where
  pub fails : plan.fails.items ≡ numbers
  pub stop : plan.stop ≡ first
  pub calls : plan.calls ≡ 0
  pub faults : plan.faults ≡ 0
  pub starved : plan.starved ≡ 0

-- the number of the next call; counts stay at the last value that they have room for
abbrev pub next_number : Plan → ℕ
next_number plan = min (plan.calls + 1) (2 ^ 64 - 1)

-- A call was made. It failed exactly where it was to, or where memory ran out, and only then the count of faults rose.
pub record IsPlanned {T E : Type 0} (old new : Plan) (result : Result T E) : Type 0 where
  pub fails : new.fails ≡ old.fails
  pub stop : new.stop ≡ old.stop
  pub calls : new.calls ≡ next_number old
  pub due : IsDue old.fails.items old.stop new.calls → IsErr result
  pub starved : old.starved < new.starved → IsErr result
  pub cause : IsErr result → IsDue old.fails.items old.stop new.calls ⊎ HasRisen old.starved new.starved
  pub ok : OnOk result (new.faults ≡ old.faults)
  pub err : IsErr result → HasRisen old.faults new.faults
  pub later : old.faults ≤ new.faults
  pub starved_later : old.starved ≤ new.starved

-- a fault was counted, and nothing else
pub record IsFault (old new : Plan) : Type 0 where
  pub fails : new.fails ≡ old.fails
  pub stop : new.stop ≡ old.stop
  pub calls : new.calls ≡ old.calls
  pub starved : new.starved ≡ old.starved
  pub later : old.faults ≤ new.faults
  pub risen : HasRisen old.faults new.faults

-- a fault was counted, and that memory ran out
pub record IsStarved (old new : Plan) : Type 0 where
  pub fails : new.fails ≡ old.fails
  pub stop : new.stop ≡ old.stop
  pub calls : new.calls ≡ old.calls
  pub starved_later : old.starved ≤ new.starved
  pub starved : HasRisen old.starved new.starved
  pub later : old.faults ≤ new.faults
  pub risen : HasRisen old.faults new.faults
