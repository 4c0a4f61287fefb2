use Rattle.std.proofs.Common.{subst}
use Rattle.mw_wasm.specs.Views.{module_of, function_of}
use Rattle.mw_validate.specs.Checks.{PartsPass, PassesBody}
use Rattle.mw_validate.specs.Deciding.{NoneWhere, FirstFailing}
use Rattle.mw_validate.proofs.MappedElements.{kept, refused}
use Rattle.mw_validate.proofs.validation.first_fault.Goals as goal

pub returns-in-Some-2 : goal.returns-in-Some-2
returns-in-Some-2 c = λ k. refused (PassesBody (module_of c.args.wasm.now)) function_of c.args.wasm.now.funcs
    c.as_slice.result.now c.as_slice.ensures
    (subst (λ at. FirstFailing (λ f. PassesBody (module_of c.args.wasm.now) (function_of f)) c.as_slice.result.now at)
    c.in-Some-2.is c.in_ok-func.ensures) k.bodies

pub returns-in-None : goal.returns-in-None
returns-in-None c = record {
  parts = subst (λ found. NoneWhere found (PartsPass (module_of c.args.wasm.now))) c.in_default.is
      c.in_ok-found.ensures;
  bodies = kept (PassesBody (module_of c.args.wasm.now)) function_of c.args.wasm.now.funcs c.as_slice.result.now
      c.as_slice.ensures
      (subst (λ at. FirstFailing (λ f. PassesBody (module_of c.args.wasm.now) (function_of f)) c.as_slice.result.now at)
      c.in-None.is c.in_ok-func.ensures);
}
