-- Examples of shapes and of modules that are stray.
use Rattle.std.proofs.Common.{◌≡◌, ℕ, ◌-◌, ◌^◌, inl, inr, true, false, [], Some, Result, Ok, Err, refl, subst, arith}
use Rattle.std.specs.Prelude.{codes}
use Rattle.mw_term.specs.Terms.{KernelType, of_ground, GroundType}
use Rattle.mw_wasm.specs.Syntax.{Code}
use Rattle.mw_wasm.specs.Store.{Store}
use Rattle.mw_wasm.specs.Execution.{execution}
use Rattle.mw_wasm.specs.Instances.{Unfit, segment, exported, instantiated, invoked}
use Rattle.mw_wasm.specs.ExampleModules.{example_a, example_b}
use Rattle.mw_meaning.specs.Shapes.{HasShape, IsWordOf, IsWordOfKernel, IsStray, IsStrayEnd, in_init}
use Rattle.mw_meaning.specs.ShapeExamples.{truth_kernel, pair_kernel, init_answers, ExamplesHaveTheirShapes}
use Rattle.mw_meaning.specs.ShapeExamples.{AnswersHaveTheirShape, NoIntegerIsStray, TwoIsStrayForTruth}
use Rattle.mw_meaning.specs.ShapeExamples.{MinusOneIsStrayForPairs, writes_byte, ByteFitsUpToTheEnd}
use Rattle.mw_meaning.specs.Examples.{int_kernel}

empty : Store
empty = record { globals = []; table = []; memory = record { pages = 0; byte_at = λ address. 0 } }

abbrev instance_of : Result Store Unfit → Store
instance_of (Ok st) = st
instance_of (Err k) = empty

abbrev first_store : ℕ → Store
first_store n = instance_of (instantiated (init_answers n))

-- the end of an `init` that answers n is stray where n is no word of the type, beside the first memory
answers_stray : (n : ℕ) (k : KernelType) → (IsWordOfKernel k n (first_store n).memory → ⊥) → IsStray (init_answers n) k
unfolding execution
answers_stray n k h = in_init {st = first_store n} {f = 0} 0 refl refl h

answers_no_stray : (n : ℕ) (t : GroundType) → IsWordOf t n (first_store n).memory
    → IsStray (init_answers n) (of_ground t) → ⊥
unfolding execution
answers_no_stray n t h (in_init {st = st} {f = f} units x y z) =
    let e : st ≡ first_store n = cc in
    let i : f ≡ 0 = cc in
    let w = subst (λ s. IsStrayEnd (IsWordOf t) (invoked (init_answers n) s 0 [] units)) e
    (subst (λ i. IsStrayEnd (IsWordOf t) (invoked (init_answers n) st i [] units)) i z) in
    w h

no_call : {i : ℕ} → exported example_a (codes "call") ≡ Some i → ⊥
no_call e = cc

pub examples_have_their_shapes : ExamplesHaveTheirShapes
examples_have_their_shapes = (
  record {
    init = record { index = 0; is_exported = refl; function = _; is_function = refl; has_type = refl };
    call =
        tt;
    memory = refl;
    store = instance_of (instantiated example_a);
    has_instance = refl;
  },
  λ s. no_call s.call.is_exported,
  record {
    init = record { index = 1; is_exported = refl; function = _; is_function = refl; has_type = refl };
    call =
        record { index = 2; is_exported = refl; function = _; is_function = refl; has_type = refl };
    memory = refl;
    store = instance_of (instantiated example_b);
    has_instance = refl;
  },
)

pub answers_have_their_shape : AnswersHaveTheirShape
answers_have_their_shape n t =
    record {
      init = record { index = 0; is_exported = refl; function = _; is_function = refl; has_type = refl };
      call =
          tt;
      memory = refl;
      store = first_store n;
      has_instance = refl;
    }

pub no_integer_is_stray : NoIntegerIsStray
no_integer_is_stray n = answers_no_stray n _ tt

two_is_no_truth : IsWordOfKernel truth_kernel 2 (first_store 2).memory → ⊥
two_is_no_truth (inl e) = absurd (omega arith)
two_is_no_truth (inr e) = absurd (omega arith)

pub two_is_stray_for_truth : TwoIsStrayForTruth
two_is_stray_for_truth =
    (answers_no_stray 0 _ (inl refl), answers_no_stray 1 _ (inr refl), answers_stray 2 _ two_is_no_truth)

past_the_end : IsWordOfKernel pair_kernel (2 ^ 64 - 1) (first_store (2 ^ 64 - 1)).memory → ⊥
past_the_end h = let e : false ≡ true = h.0 in cc

pub minus_one_is_stray_for_pairs : MinusOneIsStrayForPairs
minus_one_is_stray_for_pairs = (answers_no_stray 0 _ (refl, tt, tt), answers_stray (2 ^ 64 - 1) _ past_the_end)

-- a module that writes one byte has the shape for int where the byte fits
byte_fits : (offset : Code) → instantiated (writes_byte offset) ≡ Ok (instance_of (instantiated (writes_byte offset)))
    → HasShape (writes_byte offset) int_kernel
byte_fits offset fits = record {
  init = record { index = 0; is_exported = refl; function = _; is_function = refl; has_type = refl };
  call = tt;
  memory = refl;
  store = _;
  has_instance = fits;
}

past_the_last : (offset : Code) → instantiated (writes_byte offset) ≡ Err (segment 0)
    → HasShape (writes_byte offset) int_kernel → ⊥
past_the_last offset e s = let h = s.has_instance in cc (e, h)

pub byte_fits_up_to_the_end : ByteFitsUpToTheEnd
byte_fits_up_to_the_end =
    (byte_fits _ refl, past_the_last _ refl, past_the_last _ refl, byte_fits _ refl, byte_fits _ refl)

pub ruleset example_laws = (
  examples_have_their_shapes,
  answers_have_their_shape,
  no_integer_is_stray,
  two_is_stray_for_truth,
  minus_one_is_stray_for_pairs,
)
