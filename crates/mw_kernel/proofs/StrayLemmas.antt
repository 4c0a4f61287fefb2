-- Bad answers come of stray modules, and functions that are in play stay so.
use Rattle.std.proofs.Common.{◌≡◌, ℕ, [], ◌∷◌, Result, Ok, Err, refl, sym, ap, subst}
use Rattle.mw_term.specs.Terms.{GroundType, KernelType, PureGroundValue, of_ground, to, ground_value, ground_value_of}
use Rattle.mw_meaning.specs.GroundValues.{HasGroundType}
use Rattle.mw_meaning.specs.Plays.{HasPlayed}
use Rattle.mw_meaning.specs.Shapes.{HasShape, in_init}
use Rattle.mw_meaning.proofs.Plays.{plays_begin, plays_on, stray_play}
use Rattle.mw_wasm.specs.declared.modules.Module.{Module}
use Rattle.mw_wasm.specs.declared.values.Value.TheVariants.{I64}
use Rattle.mw_wasm.specs.Execution.{End, ended}
use Rattle.mw_wasm.specs.Instances.{invoked}
use Rattle.mw_wasm.specs.Store.{Store}
use Rattle.mw_wasm.specs.Views.{module_of}
use Rattle.mw_machine.specs.declared.kernels.Ran.{Ran}
use Rattle.mw_machine.specs.declared.kernels.Ran.TheVariants as ran
use Rattle.mw_kernel.specs.declared.fault.RunFault.{RunFault}
use Rattle.mw_kernel.specs.declared.fault.RunFault.TheVariants as fault
use Rattle.mw_kernel.specs.declared.running.Began.{Began}
use Rattle.mw_kernel.specs.declared.running.Began.TheVariants as began
use Rattle.mw_kernel.specs.RunningStates.{RunningState, IsRunnable, store_of}
use Rattle.mw_kernel.specs.KernelAnswers.{EndsWithValue, EndsWithFunction, IsKeptAs, IsStartOf, AnswersStart}
use Rattle.mw_kernel.specs.KernelAnswers.{AnswersCall, call_end, IsStoreAfter, StoreAfterCall, IsSameFunction}
use Rattle.mw_kernel.specs.KernelAnswers.{FitsUnlessMemory}
use Rattle.mw_kernel.specs.Straying.{IsInPlay, BadStartIsStray, IsStartOver, StartsPlay, BadCallIsStray, PlaysOn}
use Rattle.mw_kernel.proofs.WordEnds.{is_argument}

-- `init` of a module of the shape, with so many units
module _ (wasm : Module) (k : KernelType) (units : ℕ) (shape : HasShape (module_of wasm) k) where
  abbrev start_end : End
  start_end = invoked (module_of wasm) shape.store shape.init.index [] units

  ends : (answer : Result Began RunFault) → AnswersStart answer wasm k units → IsStartOf answer wasm k start_end
  ends answer h = h shape.store shape.init.index shape.has_instance shape.init.is_exported

pub bad_start_is_stray : (answer : Result Began RunFault) (wasm : Module) (k : KernelType) (units : ℕ)
    → HasShape (module_of wasm) k → AnswersStart answer wasm k units → BadStartIsStray answer wasm k
bad_start_is_stray (Ok b) wasm k units shape h = tt
bad_start_is_stray (Err fault.Bad) wasm k units shape h =
    in_init units shape.has_instance shape.init.is_exported (ends wasm k units shape (Err fault.Bad) h)
bad_start_is_stray (Err (fault.Memory e)) wasm k units shape h = tt

-- a function that is kept, by how `init` ended
module _ (wasm : Module) (s t : GroundType) (r : RunningState) where
  kept_over : (left : ℕ) (e : End) → EndsWithFunction wasm s t r left e → r.wasm ≡ wasm
  kept_over left (ended st (I64 n ∷ []) units) h = h.0.wasm_is
  kept_over left e h = absurd h

  in_play : (st : Store) (n : ℕ) → IsKeptAs wasm st n s t r → HasPlayed (module_of wasm) s n st → IsInPlay r
  in_play st n h play =
      subst (λ w. HasPlayed (module_of w) r.argument r.function (store_of r)) (sym h.wasm_is)
      (subst (λ s. HasPlayed (module_of wasm) s r.function (store_of r)) (sym h.argument_is)
      (subst (λ n. HasPlayed (module_of wasm) s n (store_of r)) (sym h.function_is)
      (subst (λ st. HasPlayed (module_of wasm) s n st) (sym h.store_is) play)))

  kept_in_play : (left units : ℕ) (shape : HasShape (module_of wasm) (to s t)) (e : End)
      → start_end wasm (to s t) units shape ≡ e → EndsWithFunction wasm s t r left e → IsInPlay r
  kept_in_play left units shape (ended st (I64 n ∷ []) u) is h =
      in_play st n h.0
      (plays_begin (module_of wasm) s shape.init.index shape.call.index n units u shape.store st shape.has_instance
      shape.init.is_exported shape.call.is_exported is)
  kept_in_play left units shape e is h = absurd h

pub start_is_over : (answer : Result Began RunFault) (wasm : Module) (k : KernelType) (units : ℕ)
    → HasShape (module_of wasm) k → AnswersStart answer wasm k units → IsStartOver answer wasm
start_is_over (Ok (began.Function r left)) wasm (to s t) units shape h =
    kept_over wasm s t r left (start_end wasm (to s t) units shape)
    (ends wasm (to s t) units shape (Ok (began.Function r left)) h)
start_is_over (Ok (began.Function r left)) wasm (of_ground t) units shape h =
    absurd (ends wasm (of_ground t) units shape (Ok (began.Function r left)) h)
start_is_over answer wasm k units shape h = tt

pub starts_play : (answer : Result Began RunFault) (wasm : Module) (k : KernelType) (units : ℕ)
    → HasShape (module_of wasm) k → AnswersStart answer wasm k units → StartsPlay answer
starts_play (Ok (began.Function r left)) wasm (to s t) units shape h =
    kept_in_play wasm s t r left units shape (start_end wasm (to s t) units shape) refl
    (ends wasm (to s t) units shape (Ok (began.Function r left)) h)
starts_play (Ok (began.Function r left)) wasm (of_ground t) units shape h =
    absurd (ends wasm (of_ground t) units shape (Ok (began.Function r left)) h)
starts_play answer wasm k units shape h = tt

-- calls
pub bad_call_is_stray : (answer : Result Ran RunFault) (r : RunningState) (v : PureGroundValue) (units : ℕ)
    → IsRunnable r → HasGroundType r.argument v → FitsUnlessMemory answer v → AnswersCall answer r v units
    → BadCallIsStray answer r
bad_call_is_stray (Ok a) r v units runnable has fits h = tt
bad_call_is_stray (Err fault.Bad) r v units runnable has fits h = λ play.
    stray_play (module_of r.wasm) r.argument r.result r.function runnable.call.index units (store_of r)
    (ground_value v) play runnable.call.is_exported (is_argument r.argument v has fits)
    (h runnable.call.index runnable.call.is_exported)
bad_call_is_stray (Err (fault.Memory e)) r v units runnable has fits h = tt

-- a call that gave a value ended with a word
record EndsWithWord (e : End) (after : Store) : Type 0 where
  word : ℕ
  left : ℕ
  is : e ≡ ended after (I64 word ∷ []) left

with_word : (t : GroundType) (v : PureGroundValue) (left : ℕ) (e : End) (after : Store) → EndsWithValue t v left e
    → IsStoreAfter e after → EndsWithWord e after
with_word t v left (ended st (I64 n ∷ []) units) after h is = record {
  word = n;
  left = units;
  is = ap (λ st. ended st (I64 n ∷ []) units) (sym is);
}
with_word t v left e after h is = absurd h

pub plays_on_after : (answer : Result Ran RunFault) (old new : RunningState) (v : PureGroundValue) (units : ℕ)
    → IsRunnable old → HasGroundType old.argument v → FitsUnlessMemory answer v → AnswersCall answer old v units
    → StoreAfterCall answer old new v units → IsSameFunction old new → PlaysOn answer old new
plays_on_after (Ok (ran.Value x left)) old new v units runnable has fits h after same = λ play.
    let g = runnable.call.index in
    let there = runnable.call.is_exported in
    let e = with_word old.result (ground_value_of x) left (call_end old g v units) (store_of new) (h g there)
    (after g there) in
    in_play old.wasm old.argument old.result new (store_of new) old.function
    record {
      wasm_is = same.wasm_is;
      store_is = refl;
      function_is = same.function_is;
      argument_is = same.argument_is;
      result_is = same.result_is;
    }
    (plays_on (module_of old.wasm) old.argument old.function g units e.word e.left (store_of old) (store_of new)
    (ground_value v) play there (is_argument old.argument v has fits) e.is)
plays_on_after answer old new v units runnable has fits h after same = tt
