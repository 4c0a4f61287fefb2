use Rattle.std.proofs.Common.{◌≡◌, [], ◌∷◌, length, refl, sym, ◌∙◌, ap, subst, arith}
use Rattle.std.proofs.lemmas.List.{length-map}
use Rattle.mw_term.specs.Terms.{base}
use Rattle.mw_term.specs.declared.term.Base.TheVariants.{Int}
use Rattle.mw_meaning.specs.Shapes.{init_type, call_type}
use Rattle.mw_wasm.specs.declared.modules.Module.{Module}
use Rattle.mw_wasm.specs.declared.values.ValType.{ValType}
use Rattle.mw_wasm.specs.declared.values.ValType.TheVariants.{I32, I64}
use Rattle.mw_wasm.specs.Syntax.{Code}
use Rattle.mw_wasm.specs.Validity.{Context, CodeHasType, of_end, of_call, of_drop, of_local_get, of_const_i32, of_load}
use Rattle.mw_wasm.specs.Validity.{of_store, of_numeric, context_of, IsValid}
use Rattle.mw_wasm.specs.Views.{code_of, element_of, module_of, segment_of}
use Rattle.mw_wasm.proofs.ValidSteps.{on, heads}
use Rattle.mw_validate.specs.Kept.{IsKept}
use Rattle.mw_exec.specs.Instancing.{first_store}
use Rattle.mw_tests.specs.KernelModules.{test_module, call_body, IsInitCode, HasTestShapes}
use Rattle.mw_tests.proofs.kernel.modules.built.Goals as goal

abbrev t : ValType
t = I64

abbrev w : ValType
w = I32

abbrev within : Code → Context
within init = record (context_of (test_module init)) { locals = t ∷ t ∷ []; labels = (t ∷ []) ∷ []; results = t ∷ [] }

call_typed : (init : Code) → CodeHasType (within init) call_body [] (t ∷ [])
call_typed init =
    on [] [] (t ∷ []) (of_call init_type (0, refl, refl) refl refl) (
    on [] (t ∷ []) [] of_drop (
    on [] [] (w ∷ []) of_const_i32 (
    on (w ∷ []) [] (w ∷ []) of_const_i32 (
    on (w ∷ []) (w ∷ []) (t ∷ []) (of_load {c = within init} refl (omega arith) refl) (
    on (w ∷ t ∷ []) [] (t ∷ []) (of_local_get refl) (
    on (w ∷ []) (t ∷ t ∷ []) (t ∷ []) (of_numeric refl refl) (
    on (w ∷ t ∷ []) [] (t ∷ []) (of_local_get refl) (
    on (w ∷ []) (t ∷ t ∷ []) (t ∷ []) (of_numeric refl refl) (
    on [] (w ∷ t ∷ []) [] (of_store {c = within init} refl (omega arith) refl) (
    on [] [] (w ∷ []) of_const_i32 (
    on [] (w ∷ []) (t ∷ []) (of_load {c = within init} refl (omega arith) refl) of_end)))))))))))

valid : (init : Code) → IsInitCode init → IsValid (test_module init)
valid init h = record {
  types = (omega arith, (omega arith, tt));
  funcs = ((init_type, refl, h), ((call_type (base Int), refl, call_typed init), tt));
  table = tt;
  memory = (omega arith, tt);
  globals = tt;
  exports = (omega arith, (omega arith, tt));
  names = ((λ e. let h = heads e in omega arith, tt), (tt, tt));
  elements = tt;
  segments = ((refl, tt), ((refl, tt), tt));
}

kept : (wasm : Module) (init : Code) → module_of wasm ≡ test_module init → IsInitCode init → IsKept wasm
kept wasm init e h = record {
  valid = subst IsValid (sym e) (valid init h);
  elements = let n = sym (length-map wasm.elements element_of) ∙ ap (λ m. length m.elements) e in omega arith;
  segments = let n = sym (length-map wasm.segments segment_of) ∙ ap (λ m. length m.segments) e in omega arith;
}

shapes : (init : Code) → HasTestShapes (test_module init)
shapes init = (
  λ t. record {
    init = record { index = 0; is_exported = refl; function = _; is_function = refl; has_type = refl };
    call = tt;
    memory = refl;
    store = first_store (test_module init);
    has_instance = refl;
  },
  record {
    init = record { index = 0; is_exported = refl; function = _; is_function = refl; has_type = refl };
    call = record { index = 1; is_exported = refl; function = _; is_function = refl; has_type = refl };
    memory = refl;
    store = first_store (test_module init);
    has_instance = refl;
  },
)

pub sure-requires : goal.sure-requires
sure-requires c = kept _ (code_of c.in_ok-init_code.field-0)
    (rw (
      c.in_ok-types.ensures,
      c.in_ok-funcs.ensures,
      c.new.ensures,
      c.in_ok-exports.ensures,
      c.new-2.ensures,
      c.in_ok-segments.ensures,
    ) refl) c.in_ok-init_code.ensures

pub returns : goal.returns
returns c =
    let e : module_of c.sure.result ≡ test_module (code_of c.in_ok-init_code.field-0) =
    rw (
      c.sure.ensures,
      c.in_ok-types.ensures,
      c.in_ok-funcs.ensures,
      c.new.ensures,
      c.in_ok-exports.ensures,
      c.new-2.ensures,
      c.in_ok-segments.ensures,
    ) refl in
    subst HasTestShapes (sym (ap module_of c.in_ok-new.ensures.ok ∙ e)) (shapes (code_of c.in_ok-init_code.field-0))
