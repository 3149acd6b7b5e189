-- Private: how the memory forms count their calls and faults.
use Rattle.std.specs.Prelude.{◌≡◌, ℕ, ◌+◌, ◌-◌, ◌^◌, min, Bool, false, List, ◌==◌, if◌then◌else◌, Result, IsErr, is_err}
use Rattle.std.specs.List.{list_any}
use Rattle.work_text.specs.declared.fault_plan.FaultPlan.{FaultPlan}

-- no call was made, and those with these numbers fail
pub record IsFresh (numbers : List ℕ) (plan : FaultPlan) : Type 0 where
  pub fails : plan.fails.items ≡ numbers
  pub calls : plan.calls ≡ 0
  pub faults : plan.faults ≡ 0
  pub starved : plan.starved ≡ 0

-- one more, up to the last value of a count
abbrev pub one_more : ℕ → ℕ
one_more count = min (count + 1) (2 ^ 64 - 1)

-- the number of the next call stands in the list
abbrev pub fails_next : FaultPlan → Bool
fails_next plan = list_any (λ number. number == one_more plan.calls) plan.fails.items

abbrev pub after_fault : FaultPlan → FaultPlan
after_fault plan = record plan { faults = one_more plan.faults }

-- a call is counted, and a fault where the plan has one
abbrev pub after_call : FaultPlan → FaultPlan
after_call plan =
    record plan { calls = one_more plan.calls; faults = if fails_next plan then one_more plan.faults else plan.faults }

-- a fault is counted, and that memory ran out
abbrev pub after_starving : FaultPlan → FaultPlan
after_starving plan = after_fault (record plan { starved = one_more plan.starved })

-- a call failed exactly where it was to
pub record IsPlanned {T E : Type 0} (old new : FaultPlan) (result : Result T E) : Type 0 where
  pub due : is_err result ≡ fails_next old
  pub after : new ≡ after_call old

-- a call that wasn't to fail found no memory
pub record IsStarved {T E : Type 0} (old new : FaultPlan) (result : Result T E) : Type 0 where
  pub failed : IsErr result
  pub not_due : fails_next old ≡ false
  pub after : new ≡ after_starving (after_call old)
