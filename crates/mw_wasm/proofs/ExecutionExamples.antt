-- Examples of execution.
use Rattle.std.proofs.Common.{◌≡◌, ℕ, zero, suc, ◌+◌, ◌*◌, ◌<◌, [], ◌∷◌, false, Result, Ok, Err, refl, ◌∙◌, arith}
use Rattle.std.specs.Prelude.{◌-◌, ◌^◌, nat_le}
use Rattle.std.proofs.lemmas.Bool.Decides.{nat_tests}
use Rattle.mw_wasm.specs.declared.values.Value.TheVariants.{I64}
use Rattle.mw_wasm.specs.Store.{Store}
use Rattle.mw_wasm.specs.Execution.{End, ended, trapped, spent, lost, execution}
use Rattle.mw_wasm.specs.Instances.{Unfit, instantiated, invoked}
use Rattle.mw_wasm.specs.ExampleModules.{example_a, example_b}
use Rattle.mw_wasm.specs.ExecutionExamples.{InitAnswersSeven, CubeIsCalledTwice, LoopIsSpent, StoreOutOfBoundsTraps}
use Rattle.mw_wasm.specs.ExecutionExamples.{EmptyElementTraps}
use Rattle.mw_wasm.proofs.ExecutionLaw.{execution_is}

empty : Store
empty = record { globals = []; table = []; memory = record { pages = 0; byte_at = λ address. 0 } }

abbrev instance_of : Result Store Unfit → Store
instance_of (Ok st) = st
instance_of (Err k) = empty

abbrev store_after : End → Store
store_after (ended st vs left) = st
store_after (trapped t st) = st
store_after spent = empty
store_after lost = empty

pub init_answers_seven : InitAnswersSeven
unfolding execution
init_answers_seven = record {
  instance = instance_of (instantiated example_a);
  instance_is = refl;
  init_is = refl;
  answers_seven = λ n. refl;
}

pub loop_is_spent : LoopIsSpent
loop_is_spent m zero st = execution_is m zero st _ ∙ execution_is m zero st _
loop_is_spent m (suc n) st = execution_is m (suc n) st _ ∙ (execution_is m (suc n) st _ ∙ loop_is_spent m n st)

pub cube_is_called_twice : CubeIsCalledTwice
unfolding execution
cube_is_called_twice =
    let started = instance_of (instantiated example_b) in
    let made = store_after (invoked example_b started 1 [] 0) in
    let called = store_after (invoked example_b made 2 (I64 0 ∷ I64 5 ∷ []) 1) in
    record {
      instance = instance_of (instantiated example_b);
      instance_is = refl;
      init_is = refl;
      call_is = refl;
      closure = I64 0;
      made = store_after (invoked example_b started 1 [] 0);
      makes = λ n. refl;
      called = store_after (invoked example_b made 2 (I64 0 ∷ I64 5 ∷ []) 1);
      cube_of_five = λ n. refl;
      again = store_after (invoked example_b called 2 (I64 0 ∷ I64 (2 ^ 64 - 2) ∷ []) 1);
      cube_of_minus_two = λ n. refl;
      needs_a_unit = refl;
    }

above : (a b : ℕ) → b < a → nat_le a b ≡ false
above a b h = grind (arith, nat_tests)

pub store_out_of_bounds_traps : StoreOutOfBoundsTraps
store_out_of_bounds_traps m n st address value align offset h = execution_is m n st _
    ∙ rw (above (address + offset + 8) (st.memory.pages * 65536) h) refl

pub empty_element_traps : EmptyElementTraps
empty_element_traps m st i t h = execution_is m 0 st _ ∙ rw h refl
