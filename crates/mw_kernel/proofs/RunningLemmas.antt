-- Runs and calls, put together.
use Rattle.std.proofs.Common.{◌≡◌, ℕ, ◌+◌, ◌≤◌, List, [], ◌∷◌, Option, Some, None, Result, Ok, Err, refl, sym, ◌∙◌}
use Rattle.std.proofs.Common.{subst, arith}
use Rattle.std.specs.Prelude.{codes}
use Rattle.mw_term.specs.Terms.{GroundType, KernelType, PureGroundValue, ground_value}
use Rattle.mw_term.specs.declared.value.Limit.TheVariants.{Fuel, Heap, KernelSize}
use Rattle.mw_meaning.specs.GroundValues.{HasGroundType}
use Rattle.mw_meaning.specs.Shapes.{Exports, HasShape, call_type}
use Rattle.mw_meaning.specs.StandingFor.{leaves}
use Rattle.mw_wasm.specs.declared.modules.Module.{Module}
use Rattle.mw_wasm.specs.declared.values.Value.TheVariants.{I64}
use Rattle.mw_wasm.specs.declared.values.Value.{Value as WasmValue}
use Rattle.mw_wasm.specs.Execution.{End}
use Rattle.mw_wasm.specs.Instances.{Unfit, exported, instantiated, invoked}
use Rattle.mw_wasm.specs.Store.{Store}
use Rattle.mw_wasm.specs.Validity.{IsValid}
use Rattle.mw_wasm.specs.Views.{module_of}
use Rattle.mw_exec.specs.Instancing.{first_store}
use Rattle.mw_exec.specs.InstanceStates.{InstanceState, store_in}
use Rattle.mw_machine.specs.declared.kernels.Ran.{Ran}
use Rattle.mw_kernel.specs.declared.fault.RunFault.{RunFault}
use Rattle.mw_kernel.specs.declared.fault.RunFault.TheVariants as fault
use Rattle.mw_kernel.specs.declared.outcome.Outcome.{Outcome}
use Rattle.mw_kernel.specs.declared.outcome.Outcome.TheVariants as outcome
use Rattle.mw_kernel.specs.declared.running.Began.{Began}
use Rattle.mw_kernel.specs.RunningStates.{RunningState, IsRunnable, IsStoreOf, store_held, store_of}
use Rattle.mw_kernel.specs.KernelAnswers.{AnswersStart, AnswersCall, StoreAfterCall, IsStoreAfter, StartLeavesAtMost}
use Rattle.mw_kernel.specs.KernelAnswers.{CallLeavesAtMost, call_end}
use Rattle.mw_kernel.specs.Invoking.{GivesWord, EndsAsOutcome, LeavesStore}
use Rattle.mw_kernel.specs.Answering.{IsAnswerOf, IsHeldAfter}
use Rattle.mw_kernel.proofs.Units.{invoked_leaves}
use Rattle.mw_kernel.proofs.WordEnds.{argument_types}
use Rattle.mw_kernel.proofs.AnswerLemmas.{answer_is_call, store_after, first_is_store, start_left, call_left}

same_store : {r : Result Store Unfit} {s t : Store} → r ≡ Ok s → r ≡ Ok t → t ≡ s
same_store e f = cc

-- and how it ends
pub init_ends : (wasm w : Module) (first st after : Store) (f n : ℕ) (o : Outcome) → w ≡ wasm
    → first ≡ first_store (module_of wasm) → instantiated (module_of wasm) ≡ Ok (first_store (module_of wasm))
    → instantiated (module_of wasm) ≡ Ok st
    → exported (module_of wasm) (codes "init") ≡ Some f
    → ((f : ℕ) → exported (module_of w) (codes "init") ≡ Some f
    → EndsAsOutcome o after (invoked (module_of w) first f [] n))
    → EndsAsOutcome o after (invoked (module_of wasm) st f [] n)
init_ends wasm w first st after f n o e s begins here is h =
    subst (λ st. EndsAsOutcome o after (invoked (module_of wasm) st f [] n)) (s ∙ same_store here begins)
    (subst (λ w. EndsAsOutcome o after (invoked (module_of w) first f [] n)) e
    (h f (subst (λ w. exported (module_of w) (codes "init") ≡ Some f) (sym e) is)))

-- what `init` leaves can be called
pub is_runnable : (wasm w : Module) (i : InstanceState) (n : ℕ) (s a t : GroundType) → w ≡ wasm → i.wasm ≡ wasm
    → IsValid (module_of wasm) → instantiated (module_of wasm) ≡ Ok (first_store (module_of wasm))
    → Exports (module_of wasm) (codes "call") (call_type s) → a ≡ s → IsStoreOf (module_of wasm) (store_in i)
    → IsRunnable record { wasm = w; held = Some i; function = n; argument = a; result = t }
is_runnable wasm w i n s a t e f valid begins call g store = record {
  valid = subst (λ w. IsValid (module_of w)) (sym e) valid;
  begins = subst (λ w. instantiated (module_of w) ≡ Ok (first_store (module_of w))) (sym e) begins;
  call = subst (λ w. Exports (module_of w) (codes "call") (call_type a)) (sym e)
      (subst (λ a. Exports (module_of wasm) (codes "call") (call_type a)) (sym g) call);
  instance = f ∙ sym e;
  store = subst (λ w. IsStoreOf (module_of w) (store_in i)) (sym e) store;
}

-- what is left without an instance can be called
pub without_instance : (r : RunningState) (held : Option InstanceState) → held ≡ None → IsRunnable r
    → IsRunnable record { wasm = r.wasm; held = held; function = r.function; argument = r.argument; result = r.result }
without_instance r held e h =
    subst (λ held. IsRunnable record {
      wasm = r.wasm;
      held = held;
      function = r.function;
      argument = r.argument;
      result = r.result;
    }) (sym e)
    record {
      valid = h.valid;
      begins = h.begins;
      call = h.call;
      instance = tt;
      store =
          first_is_store (module_of r.wasm) h.valid h.begins;
    }

-- and what is left after a call
pub after_call : (r : RunningState) (o : Outcome) (i : InstanceState) (held : Option InstanceState)
    → IsHeldAfter o i held → i.wasm ≡ r.wasm → LeavesStore o (module_of r.wasm) (store_in i) → IsRunnable r
    → IsRunnable record { wasm = r.wasm; held = held; function = r.function; argument = r.argument; result = r.result }
after_call r o i held e w s h = at_outcome o e s
  where
    still : IsStoreOf (module_of r.wasm) (store_in i) → held ≡ Some i
        → IsRunnable record {
          wasm = r.wasm;
          held = held;
          function = r.function;
          argument = r.argument;
          result =
              r.result;
        }
    still s e = subst
        (λ held. IsRunnable record {
          wasm = r.wasm;
          held = held;
          function = r.function;
          argument = r.argument;
          result =
              r.result;
        }) (sym e) record { valid = h.valid; begins = h.begins; call = h.call; instance = w; store = s }

    at_outcome : (o : Outcome) → IsHeldAfter o i held → LeavesStore o (module_of r.wasm) (store_in i)
        → IsRunnable record {
          wasm = r.wasm;
          held = held;
          function = r.function;
          argument = r.argument;
          result =
              r.result;
        }
    at_outcome (outcome.Bound Fuel) e s = without_instance r held e h
    at_outcome (outcome.Bound Heap) e s = still s e
    at_outcome (outcome.Bound KernelSize) e s = still s e
    at_outcome (outcome.Word n units) e s = still s e
    at_outcome (outcome.Trap k) e s = still s e
    at_outcome outcome.Stray e s = still s e

-- `call` with an argument
pub call_gives : (r : RunningState) (v : PureGroundValue) (i : InstanceState) (args : List WasmValue) → IsRunnable r
    → HasGroundType r.argument v → i.wasm ≡ r.wasm → store_in i ≡ store_of r → args ≡ I64 r.function
    ∷ leaves (ground_value v)
    → GivesWord i.wasm (store_in i) (codes "call") args
call_gives r v i args h has e s a = record {
  type = call_type r.argument;
  valid = subst (λ w. IsValid (module_of w)) (sym e) h.valid;
  store = subst (λ w. IsStoreOf (module_of w) (store_in i)) (sym e)
      (subst (IsStoreOf (module_of r.wasm)) (sym s) h.store);
  is_there = subst (λ w. Exports (module_of w) (codes "call") (call_type r.argument)) (sym e) h.call;
  fit = argument_types r.argument v r.function args has a;
  word = refl;
}

call_ends : (r : RunningState) (v : PureGroundValue) (i : InstanceState) (args : List WasmValue) (after : Store)
    (g n : ℕ) (o : Outcome) → i.wasm ≡ r.wasm → store_in i ≡ store_of r → args ≡ I64 r.function
    ∷ leaves (ground_value v)
    → exported (module_of r.wasm) (codes "call") ≡ Some g
    → ((f : ℕ) → exported (module_of i.wasm) (codes "call") ≡ Some f
    → EndsAsOutcome o after (invoked (module_of i.wasm) (store_in i) f args n))
    → EndsAsOutcome o after (call_end r g v n)
call_ends r v i args after g n o e s a is h =
    subst (λ args. EndsAsOutcome o after (invoked (module_of r.wasm) (store_of r) g args n)) a
    (subst (λ st. EndsAsOutcome o after (invoked (module_of r.wasm) st g args n)) s
    (subst (λ w. EndsAsOutcome o after (invoked (module_of w) (store_in i) g args n)) e
    (h g (subst (λ w. exported (module_of w) (codes "call") ≡ Some g) (sym e) is))))

-- how it is answered
pub call_answers : (r : RunningState) (v : PureGroundValue) (i : InstanceState) (args : List WasmValue) (after : Store)
    (n : ℕ) (o : Outcome) (answer : Result Ran RunFault) → i.wasm ≡ r.wasm → store_in i ≡ store_of r
    → args ≡ I64 r.function ∷ leaves (ground_value v)
    → ((f : ℕ) → exported (module_of i.wasm) (codes "call") ≡ Some f
    → EndsAsOutcome o after (invoked (module_of i.wasm) (store_in i) f args n))
    → IsAnswerOf answer o r.result after.memory → AnswersCall answer r v n
call_answers r v i args after n o answer e s a h x g is = answer_is_call r.result after answer o (call_end r g v n) x
    (call_ends r v i args after g n o e s a is h)

-- and what it leaves
held_store : (r : RunningState) (o : Outcome) (j : InstanceState) (held : Option InstanceState) (e : End)
    → IsHeldAfter o j held → EndsAsOutcome o (store_in j) e → IsStoreAfter e (store_held r.wasm held)
held_store r (outcome.Bound Fuel) j held e h x = rw x tt
held_store r (outcome.Bound KernelSize) j held e h x = absurd x
held_store r o j held e h x = rw h (store_after o (store_in j) e x)

pub call_leaves_store : (r : RunningState) (v : PureGroundValue) (i j : InstanceState) (args : List WasmValue) (n : ℕ)
    (o : Outcome) (answer : Result Ran RunFault) (held : Option InstanceState) → i.wasm ≡ r.wasm → store_in i
    ≡ store_of r
    → args ≡ I64 r.function ∷ leaves (ground_value v)
    → ((f : ℕ) → exported (module_of i.wasm) (codes "call") ≡ Some f
    → EndsAsOutcome o (store_in j) (invoked (module_of i.wasm) (store_in i) f args n))
    → IsHeldAfter o j held → StoreAfterCall answer r record {
      wasm = r.wasm;
      held = held;
      function = r.function;
      argument = r.argument;
      result = r.result;
    } v n
call_leaves_store r v i j args n o answer held e s a h x = at_answer answer
  where
    is : (g : ℕ) → exported (module_of r.wasm) (codes "call") ≡ Some g
        → IsStoreAfter (call_end r g v n) (store_held r.wasm held)
    is g there = held_store r o j held (call_end r g v n) x (call_ends r v i args (store_in j) g n o e s a there h)

    at_answer : (answer : Result Ran RunFault)
        → StoreAfterCall answer r record {
          wasm = r.wasm;
          held = held;
          function = r.function;
          argument = r.argument;
          result = r.result;
        } v n
    at_answer (Ok b) = is
    at_answer (Err fault.Bad) = is
    at_answer (Err (fault.Memory f)) = tt

-- no more units are left than were given
pub start_leaves : (answer : Result Began RunFault) (wasm : Module) (k : KernelType) (units : ℕ)
    → HasShape (module_of wasm) k → AnswersStart answer wasm k units → StartLeavesAtMost answer units
start_leaves answer wasm k units shape h =
    let most = shape.store.memory.pages + 1024 in
    let large : 1024 ≤ most = omega arith in
    let few : shape.store.memory.pages ≤ most = omega arith in
    start_left most units answer wasm k (invoked (module_of wasm) shape.store shape.init.index [] units)
    (h shape.store shape.init.index shape.has_instance shape.init.is_exported)
    (invoked_leaves (module_of wasm) most large shape.store shape.init.index [] units few)

pub call_leaves : (answer : Result Ran RunFault) (r : RunningState) (v : PureGroundValue) (units : ℕ) → IsRunnable r
    → AnswersCall answer r v units → CallLeavesAtMost answer units
call_leaves answer r v units runnable h =
    let large : 1024 ≤ 65536 = omega arith in
    call_left 65536 units answer r.result (call_end r runnable.call.index v units)
    (h runnable.call.index runnable.call.is_exported)
    (invoked_leaves (module_of r.wasm) 65536 large (store_of r) runnable.call.index
    (I64 r.function ∷ leaves (ground_value v)) units runnable.store.few)
