-- Which calls on an object in memory fail.
use Rattle.std.specs.Prelude.{ℕ, ◌+◌, ◌-◌, ◌^◌, min, List, Bool, if◌then◌else◌, ◌==◌}
use Rattle.std.specs.List.{list_any}
use Rattle.mw_outside.specs.declared.plan.Plan.{Plan}

-- a count in a u64, one higher, which stays at the last value
abbrev pub counted : ℕ → ℕ
counted count = min (count + 1) (2 ^ 64 - 1)

-- no call was made yet
abbrev pub fresh_plan : List ℕ → Plan
fresh_plan numbers = record { numbers = numbers; next = 0; faults = 0 }

-- the next call's number is one of those that fail
abbrev pub fails_next : Plan → Bool
fails_next plan = list_any (λ number. number == plan.next) plan.numbers

-- after one call more
abbrev pub after_call : Plan → Plan
after_call plan = record {
  numbers = plan.numbers;
  next = counted plan.next;
  faults = if fails_next plan then counted plan.faults else plan.faults;
}

-- how many calls have failed
abbrev pub fault_count : Plan → ℕ
fault_count plan = plan.faults
