-- The example modules are valid.
use Rattle.std.proofs.Common.{◌≡◌, true, List, [], ◌∷◌, Some, refl, arith}
use Rattle.std.specs.Prelude.{slice_get}
use Rattle.mw_wasm.specs.declared.values.ValType.{ValType}
use Rattle.mw_wasm.specs.declared.values.ValType.TheVariants.{I32, I64}
use Rattle.mw_wasm.specs.Syntax.{Code, br, next}
use Rattle.mw_wasm.specs.ExampleModules.{example_a, example_b, closure_type, init_type, cube_body, closure_body}
use Rattle.mw_wasm.specs.ExampleModules.{call_body}
use Rattle.mw_wasm.specs.Validity.{Context, CodeHasType, of_end, of_next, of_local_get, of_local_set, of_local_tee}
use Rattle.mw_wasm.specs.Validity.{of_global_get, of_global_set, of_const_i32, of_const_i64, of_numeric, of_store}
use Rattle.mw_wasm.specs.Validity.{of_load, of_br, of_call_indirect, context_of, IsValid}
use Rattle.mw_wasm.proofs.ValidSteps.{on, heads}

pub example_a_valid : IsValid example_a
example_a_valid = record {
  types = (omega arith, (omega arith, tt));
  funcs = ((init_type, refl, on [] [] (I64 ∷ []) of_const_i64 of_end), tt);
  table = (omega arith, (omega arith, omega arith));
  memory = (omega arith, (omega arith, omega arith));
  globals = (tt, tt);
  exports = (omega arith, tt);
  names = (tt, tt);
  elements = tt;
  segments = tt;
}

abbrev t : ValType
t = I64

abbrev w : ValType
w = I32

-- a function of example_b that gives one i64
abbrev within : List ValType → Context
within ls = record (context_of example_b) { locals = ls; labels = (t ∷ []) ∷ []; results = t ∷ [] }

pub example_b_valid : IsValid example_b
example_b_valid = record {
  types = (omega arith, (omega arith, (omega arith, tt)));
  funcs = ((closure_type, refl, cube), ((init_type, refl, init), ((closure_type, refl, call), tt)));
  table = (omega arith, (omega arith, omega arith));
  memory = (omega arith, (omega arith, omega arith));
  globals = (tt, tt);
  exports = (omega arith, (omega arith, tt));
  names = ((λ e. let h = heads e in omega arith, tt), (tt, tt));
  elements = ((refl, tt, (omega arith, tt)), tt);
  segments = tt;
}
  where
    cube : CodeHasType (within (t ∷ t ∷ [])) cube_body [] (t ∷ [])
    cube =
        on [] [] (t ∷ []) (of_local_get refl) (
        on (t ∷ []) [] (t ∷ []) (of_local_get refl) (
        on (t ∷ t ∷ []) [] (t ∷ []) (of_local_get refl) (
        on (t ∷ t ∷ t ∷ []) [] (t ∷ []) of_const_i64 (
        on (t ∷ t ∷ []) (t ∷ t ∷ []) (t ∷ []) (of_numeric refl refl) (
        on (t ∷ []) (t ∷ t ∷ []) (t ∷ []) (of_numeric refl refl) (
        on [] (t ∷ t ∷ []) (t ∷ []) (of_numeric refl refl) of_end))))))

    init : CodeHasType (within []) closure_body [] (t ∷ [])
    init =
        on [] [] (w ∷ []) (of_global_get true refl) (
        on (w ∷ []) [] (t ∷ []) of_const_i64 (
        on [] (w ∷ t ∷ []) [] (of_store {c = within []} refl (omega arith) refl) (
        on [] [] (w ∷ []) (of_global_get true refl) (
        on [] (w ∷ []) (t ∷ []) (of_numeric refl refl) (
        on (t ∷ []) [] (w ∷ []) (of_global_get true refl) (
        on (t ∷ w ∷ []) [] (w ∷ []) of_const_i32 (
        on (t ∷ []) (w ∷ w ∷ []) (w ∷ []) (of_numeric refl refl) (
        on (t ∷ []) (w ∷ []) [] (of_global_set refl) of_end))))))))

    call : CodeHasType (within (t ∷ t ∷ t ∷ t ∷ w ∷ [])) call_body [] (t ∷ [])
    call =
        on [] [] (w ∷ []) (of_global_get true refl) (
        on [] (w ∷ []) [] (of_local_set refl) (
        on [] [] (t ∷ []) (of_local_get refl) (
        on (t ∷ []) [] (t ∷ []) (of_local_get refl) (
        on (t ∷ []) (t ∷ []) [] (of_local_set refl) (
        on [] (t ∷ []) (t ∷ []) (of_local_tee refl) (
        on (t ∷ []) [] (t ∷ []) (of_local_get refl) (
        on (t ∷ t ∷ []) [] (t ∷ []) (of_local_get refl) (
        on (t ∷ t ∷ []) (t ∷ []) (w ∷ []) (of_numeric refl refl) (
        on (t ∷ t ∷ []) (w ∷ []) (w ∷ []) (of_load {c = within (t ∷ t ∷ t ∷ t ∷ w ∷ [])} refl (omega arith) refl) (
        on [] (t ∷ t ∷ w ∷ []) (t ∷ []) (of_call_indirect {c = within (t ∷ t ∷ t ∷ t ∷ w ∷ [])} closure_type refl refl
        refl refl) (
        on (t ∷ []) [] (w ∷ []) (of_local_get refl) (
        on (t ∷ []) (w ∷ []) [] (of_global_set refl) of_end))))))))))))

-- after a branch to label 0 nothing is known of the operands
pub after_branch : (c : Context) (code : Code) (label ins outs : List ValType) → slice_get c.labels 0 ≡ Some label
    → CodeHasType c code ins outs → CodeHasType c (next (br 0) code) label outs
after_branch c code label ins outs e h = of_next [] label ins (of_br [] label e refl) refl h
