-- Answers are how invocations end.
use Rattle.std.proofs.Common.{◌≡◌, ℕ, ◌≤◌, List, [], ◌∷◌, Option, Some, None, Result, Ok, Err, refl, arith}
use Rattle.mw_term.specs.Terms.{GroundType, KernelType, of_ground, to}
use Rattle.mw_term.specs.declared.value.Limit.TheVariants.{Fuel, Heap, KernelSize}
use Rattle.mw_term.specs.declared.value.TrapKind.TheVariants as kind
use Rattle.mw_meaning.specs.Shapes.{IsWordOf, IsStrayEnd}
use Rattle.mw_wasm.specs.declared.modules.Limits.{Limits}
use Rattle.mw_wasm.specs.declared.modules.Module.{Module}
use Rattle.mw_wasm.specs.declared.values.Trap.{Trap}
use Rattle.mw_wasm.specs.declared.values.Trap.TheVariants as traps
use Rattle.mw_wasm.specs.declared.values.Value.TheVariants.{I64}
use Rattle.mw_wasm.specs.Execution.{End, ended, trapped, spent}
use Rattle.mw_wasm.specs.Instances.{element, segment, unless, instantiated, first_memory, with_segment, with_segments}
use Rattle.mw_wasm.specs.Store.{Memory, Store}
use Rattle.mw_wasm.specs.Syntax.{DataSegment, PureModule}
use Rattle.mw_wasm.specs.Validity.{IsValid, AreLimitsOf}
use Rattle.mw_wasm.proofs.InstanceTypes.{instances_are_typed}
use Rattle.mw_exec.specs.Instancing.{first_store}
use Rattle.mw_machine.specs.declared.kernels.Ran.{Ran}
use Rattle.mw_machine.specs.declared.kernels.Ran.TheVariants as ran
use Rattle.mw_kernel.specs.declared.fault.RunFault.{RunFault}
use Rattle.mw_kernel.specs.declared.fault.RunFault.TheVariants as fault
use Rattle.mw_kernel.specs.declared.outcome.Outcome.{Outcome}
use Rattle.mw_kernel.specs.declared.outcome.Outcome.TheVariants as outcome
use Rattle.mw_kernel.specs.declared.running.Began.{Began}
use Rattle.mw_kernel.specs.declared.running.Began.TheVariants as began
use Rattle.mw_kernel.specs.RunningStates.{IsStoreOf}
use Rattle.mw_kernel.specs.KernelAnswers.{IsStartOf, IsCallOf, IsKeptAs, IsStoreAfter, StartLeavesAtMost}
use Rattle.mw_kernel.specs.KernelAnswers.{CallLeavesAtMost, HasStartType, HasCallType}
use Rattle.mw_kernel.specs.Invoking.{IsOtherTrap, EndsAsOutcome}
use Rattle.mw_kernel.specs.Answering.{IsAnswerOf, IsBegunAnswer}
use Rattle.mw_kernel.proofs.Units.{Leaves}

-- another trap is stray
pub other_is_stray : (P : ℕ → Memory → Type 0) (t : Trap) (st : Store) → IsOtherTrap t → IsStrayEnd P (trapped t st)
other_is_stray P traps.Divide st h = absurd h
other_is_stray P traps.Overflow st h = absurd h
other_is_stray P traps.OutOfBounds st h = absurd h
other_is_stray P t st h = tt

-- the answer of an outcome at a ground type is how the invocation ends
module _ (t : GroundType) (after : Store) where
  at_word : (answer : Result Ran RunFault) (n units : ℕ) → IsAnswerOf answer (outcome.Word n units) t after.memory
      → IsCallOf answer t (ended after (I64 n ∷ []) units)
  at_word (Ok (ran.Value v left)) n units a = a
  at_word (Err fault.Bad) n units a = a
  at_word (Err (fault.Memory e)) n units a = tt
  at_word answer n units a = absurd a

  at_divide : (answer : Result Ran RunFault) → IsAnswerOf answer (outcome.Trap kind.Divide) t after.memory
      → IsCallOf answer t (trapped traps.Divide after)
  at_divide (Ok (ran.Trap kind.Divide)) a = tt
  at_divide (Ok (ran.Trap kind.Overflow)) a = absurd (cc)
  at_divide (Err (fault.Memory e)) a = tt
  at_divide answer a = absurd a

  at_overflow : (answer : Result Ran RunFault) → IsAnswerOf answer (outcome.Trap kind.Overflow) t after.memory
      → IsCallOf answer t (trapped traps.Overflow after)
  at_overflow (Ok (ran.Trap kind.Overflow)) a = tt
  at_overflow (Ok (ran.Trap kind.Divide)) a = absurd (cc)
  at_overflow (Err (fault.Memory e)) a = tt
  at_overflow answer a = absurd a

  at_heap : (answer : Result Ran RunFault) → IsAnswerOf answer (outcome.Bound Heap) t after.memory
      → IsCallOf answer t (trapped traps.OutOfBounds after)
  at_heap (Ok (ran.Bound Heap)) a = tt
  at_heap (Ok (ran.Bound l)) a = absurd (cc)
  at_heap (Err (fault.Memory e)) a = tt
  at_heap answer a = absurd a

  at_spent : (answer : Result Ran RunFault) → IsAnswerOf answer (outcome.Bound Fuel) t after.memory
      → IsCallOf answer t spent
  at_spent (Ok (ran.Bound Fuel)) a = tt
  at_spent (Ok (ran.Bound l)) a = absurd (cc)
  at_spent (Err (fault.Memory e)) a = tt
  at_spent answer a = absurd a

  at_stray : (answer : Result Ran RunFault) (u : Trap) → IsAnswerOf answer outcome.Stray t after.memory → IsOtherTrap u
      → IsCallOf answer t (trapped u after)
  at_stray (Ok (ran.Value v left)) u a h = absurd a
  at_stray (Err fault.Bad) u a h = other_is_stray (IsWordOf t) u after h
  at_stray (Err (fault.Memory e)) u a h = tt
  at_stray answer u a h = absurd a

  pub answer_is_call : (answer : Result Ran RunFault) (o : Outcome) (e : End) → IsAnswerOf answer o t after.memory
      → EndsAsOutcome o after e → IsCallOf answer t e
  answer_is_call answer (outcome.Word n units) e a x = rw x (at_word answer n units a)
  answer_is_call answer (outcome.Trap kind.Divide) e a x = rw x (at_divide answer a)
  answer_is_call answer (outcome.Trap kind.Overflow) e a x = rw x (at_overflow answer a)
  answer_is_call answer (outcome.Bound Heap) e a x = rw x (at_heap answer a)
  answer_is_call answer (outcome.Bound Fuel) e a x = rw x (at_spent answer a)
  answer_is_call answer (outcome.Bound KernelSize) e a x = absurd x
  answer_is_call answer outcome.Stray e a x = rw x.2 (at_stray answer x.0 a x.1)

  -- and of a run of a kernel of the type
  begun_as : (wasm : Module) (r : Result Ran RunFault) (b : Result Began RunFault) (e : End) → IsCallOf r t e
      → IsBegunAnswer r b → IsStartOf b wasm (of_ground t) e
  begun_as wasm (Ok (ran.Value v left)) (Ok (began.Value w units)) e a h = rw (h.0, h.1) a
  begun_as wasm (Ok (ran.Trap k)) (Ok (began.Trap j)) e a h = rw h a
  begun_as wasm (Ok (ran.Bound l)) (Ok (began.Bound b)) e a h = rw h a
  begun_as wasm (Err fault.Bad) (Err fault.Bad) e a h = a
  begun_as wasm (Err f) (Err (fault.Memory g)) e a h = tt
  begun_as wasm (Err (fault.Memory f)) (Err fault.Bad) e a h = absurd (cc)
  begun_as wasm (Ok (ran.Function i left)) b e a h = absurd a
  begun_as wasm r b e a h = absurd h

  pub ground_start : (wasm : Module) (r : Result Ran RunFault) (b : Result Began RunFault) (o : Outcome) (e : End)
      → IsAnswerOf r o t after.memory → IsBegunAnswer r b → EndsAsOutcome o after e → IsStartOf b wasm (of_ground t) e
  ground_start wasm r b o e a h x = begun_as wasm r b e (answer_is_call r o e a x) h

-- a run of a kernel that gives a function
module _ (wasm : Module) (s t : GroundType) (after : Store) where
  pub function_start : (n units : ℕ) (r : _) (e : End) → IsKeptAs wasm after n s t r
      → EndsAsOutcome (outcome.Word n units) after e → IsStartOf (Ok (began.Function r units)) wasm (to s t) e
  function_start n units r e h x = rw x (h, refl)

  pub trap_start : (k : _) (e : End) → EndsAsOutcome (outcome.Trap k) after e → IsStartOf (Ok (began.Trap k)) wasm
      (to s t) e
  trap_start kind.Divide e x = rw x tt
  trap_start kind.Overflow e x = rw x tt

  pub bound_start : (l : _) (e : End) → EndsAsOutcome (outcome.Bound l) after e → IsStartOf (Ok (began.Bound l)) wasm
      (to s t) e
  bound_start Heap e x = rw x tt
  bound_start Fuel e x = rw x tt
  bound_start KernelSize e x = absurd x

-- what a call leaves
pub store_after : (o : Outcome) (after : Store) (e : End) → EndsAsOutcome o after e → IsStoreAfter e after
store_after (outcome.Bound Fuel) after e x = rw x tt
store_after (outcome.Bound KernelSize) after e x = absurd x
store_after outcome.Stray after e x = rw x.2 refl
store_after (outcome.Trap kind.Divide) after e x = rw x refl
store_after o after e x = rw x refl

-- where a module has an instance, it begins with the first store
begins : (o p : Option ℕ) (st is : Store) → unless o element (unless p segment (Ok st)) ≡ Ok is
    → unless o element (unless p segment (Ok st)) ≡ Ok st
begins None None st is e = refl
begins None (Some k) st is e = absurd (cc)
begins (Some k) p st is e = absurd (cc)

pub begins_first : (m : PureModule) (st : Store) → instantiated m ≡ Ok st → instantiated m ≡ Ok (first_store m)
begins_first m st e = begins _ _ (first_store m) st e

segments_pages : (memory : Memory) (ss : List DataSegment) → (with_segments memory ss).pages ≡ memory.pages
segments_pages memory [] = refl
segments_pages memory (s ∷ ss) = segments_pages (with_segment memory s) ss

first_pages : (o : Option Limits) → AreLimitsOf 65536 o → (first_memory o).pages ≤ 65536
first_pages None h = omega arith
first_pages (Some limits) h = omega arith

pub first_is_store : (m : PureModule) → IsValid m → instantiated m ≡ Ok (first_store m) → IsStoreOf m (first_store m)
first_is_store m valid e =
    record {
      typed = instances_are_typed m valid (first_store m) e;
      few =
          rw (segments_pages (first_memory m.memory) m.segments) (first_pages m.memory valid.memory);
    }

-- no more units are left than were given
module _ (k units : ℕ) where
  pub start_left : (answer : Result Began RunFault) (wasm : Module) (kind : KernelType) (e : End)
      → IsStartOf answer wasm kind e → Leaves k units e → StartLeavesAtMost answer units
  start_left (Ok (began.Value v left)) wasm (of_ground t) (ended st (I64 n ∷ []) l) a h = rw a.1 h.0
  start_left (Ok (began.Function r left)) wasm (to s t) (ended st (I64 n ∷ []) l) a h = rw a.1 h.0
  start_left (Ok (began.Value v left)) wasm k e a h = absurd a
  start_left (Ok (began.Function r left)) wasm k e a h = absurd a
  start_left answer wasm k e a h = tt

  pub call_left : (answer : Result Ran RunFault) (t : GroundType) (e : End) → IsCallOf answer t e → Leaves k units e
      → CallLeavesAtMost answer units
  call_left (Ok (ran.Value v left)) t (ended st (I64 n ∷ []) l) a h = rw a.1 h.0
  call_left (Ok (ran.Value v left)) t e a h = absurd a
  call_left (Ok (ran.Function r left)) t e a h = absurd a
  call_left answer t e a h = tt

-- answers have their types
pub start_type : (answer : Result Began RunFault) (wasm : Module) (kind : KernelType) (e : End)
    → IsStartOf answer wasm kind e → HasStartType answer kind
start_type (Ok (began.Value v left)) wasm (of_ground t) (ended st (I64 n ∷ []) l) a = a.0.has_type
start_type (Ok (began.Function r left)) wasm (to s t) (ended st (I64 n ∷ []) l) a = (a.0.argument_is, a.0.result_is)
start_type (Ok (began.Value v left)) wasm k e a = absurd a
start_type (Ok (began.Function r left)) wasm k e a = absurd a
start_type answer wasm k e a = tt

pub call_type_of : (answer : Result Ran RunFault) (t : GroundType) (e : End) → IsCallOf answer t e
    → HasCallType answer t
call_type_of (Ok (ran.Value v left)) t (ended st (I64 n ∷ []) l) a = a.0.has_type
call_type_of (Ok (ran.Value v left)) t e a = absurd a
call_type_of (Ok (ran.Function r left)) t e a = absurd a
call_type_of answer t e a = tt
