-- Answers by outcomes.
use Rattle.std.specs.Prelude.{◌≡◌, ◌≤◌, Option, Some, None, Result, Ok, Err}
use Rattle.mw_term.specs.Terms.{GroundType, ground_value_of}
use Rattle.mw_term.specs.declared.value.Limit.TheVariants.{Fuel}
use Rattle.mw_meaning.specs.Shapes.{IsWordOf}
use Rattle.mw_wasm.specs.Store.{Memory, Store}
use Rattle.mw_exec.specs.InstanceStates.{InstanceState}
use Rattle.mw_machine.specs.declared.kernels.Ran.{Ran}
use Rattle.mw_machine.specs.declared.kernels.Ran.TheVariants as ran
use Rattle.mw_kernel.specs.declared.fault.RunFault.{RunFault}
use Rattle.mw_kernel.specs.declared.fault.RunFault.TheVariants as fault
use Rattle.mw_kernel.specs.declared.outcome.Outcome.{Outcome}
use Rattle.mw_kernel.specs.declared.outcome.Outcome.TheVariants as outcome
use Rattle.mw_kernel.specs.declared.running.Began.{Began}
use Rattle.mw_kernel.specs.declared.running.Began.TheVariants as began
use Rattle.mw_kernel.specs.KernelAnswers.{IsValueAt}

-- where there is a word, the memory has few pages
abbrev pub HasFewPages : Outcome → Store → Type 0
HasFewPages (outcome.Word n units) st = st.memory.pages ≤ 65536
HasFewPages _ st = Unit {0}

-- what an outcome answers at a ground type, beside this memory
abbrev pub IsAnswerOf : Result Ran RunFault → Outcome → GroundType → Memory → Type 0
IsAnswerOf (Ok (ran.Value v left)) (outcome.Word n units) t memory = IsValueAt t (ground_value_of v) n memory
    × (left ≡ units)
IsAnswerOf (Err fault.Bad) (outcome.Word n units) t memory = IsWordOf t n memory → ⊥
IsAnswerOf (Ok (ran.Trap k)) (outcome.Trap j) t memory = k ≡ j
IsAnswerOf (Ok (ran.Bound l)) (outcome.Bound b) t memory = l ≡ b
IsAnswerOf (Err fault.Bad) outcome.Stray t memory = Unit {0}
IsAnswerOf (Err (fault.Memory _)) _ t memory = Unit {0}
IsAnswerOf _ _ t memory = ⊥

abbrev pub IsNoFunction : Result Ran RunFault → Type 0
IsNoFunction (Ok (ran.Function i left)) = ⊥
IsNoFunction _ = Unit {0}

-- the answer of a call as one of a run
abbrev pub IsBegunAnswer : Result Ran RunFault → Result Began RunFault → Type 0
IsBegunAnswer (Ok (ran.Value v left)) (Ok (began.Value w units)) = (w ≡ v) × (units ≡ left)
IsBegunAnswer (Ok (ran.Trap k)) (Ok (began.Trap j)) = j ≡ k
IsBegunAnswer (Ok (ran.Bound l)) (Ok (began.Bound b)) = b ≡ l
IsBegunAnswer (Err f) (Err g) = g ≡ f
IsBegunAnswer _ _ = ⊥

-- an instance is given up where the units were spent
abbrev pub IsHeldAfter : Outcome → InstanceState → Option InstanceState → Type 0
IsHeldAfter (outcome.Bound Fuel) i held = held ≡ None
IsHeldAfter _ i held = held ≡ Some i
