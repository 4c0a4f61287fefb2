use Rattle.std.proofs.Common.{subst, map}
use Rattle.std.specs.List.{AllByRecursion}
use Rattle.mw_wasm.specs.Syntax.{Exporting}
use Rattle.mw_wasm.specs.Views.{module_of, global_of, export_of, element_of, segment_of}
use Rattle.mw_wasm.specs.Validity.{IsThere, IsValidElement, IsValidData, NamesDiffer}
use Rattle.mw_validate.specs.Deciding.{Decides, FewResults, InitFits}
use Rattle.mw_validate.proofs.MappedElements.{kept, refused}
use Rattle.mw_validate.proofs.validation.first_faulty_part.Goals as goal

pub returns-in-Some-first_failing_global : goal.returns-in-Some-first_failing_global
returns-in-Some-first_failing_global c = λ k. refused InitFits global_of c.args.wasm.now.globals c.as_slice-2.result.now
    c.as_slice-2.ensures c.in-Some-first_failing_global.ensures k.globals

pub returns-in-Some-first_failing_export : goal.returns-in-Some-first_failing_export
returns-in-Some-first_failing_export c = λ k. refused (λ (e : Exporting). IsThere (module_of c.args.wasm.now) e.what)
    export_of c.args.wasm.now.exports c.as_slice-3.result.now c.as_slice-3.ensures
    c.in-Some-first_failing_export.ensures k.exports

pub returns-in-Some-first_failing_element : goal.returns-in-Some-first_failing_element
returns-in-Some-first_failing_element c = λ k. refused (IsValidElement (module_of c.args.wasm.now)) element_of
    c.args.wasm.now.elements c.as_slice-5.result.now c.as_slice-5.ensures c.in-Some-first_failing_element.ensures
    k.elements

pub returns-in-Some-first_failing_segment : goal.returns-in-Some-first_failing_segment
returns-in-Some-first_failing_segment c = λ k. refused (IsValidData (module_of c.args.wasm.now)) segment_of
    c.args.wasm.now.segments c.as_slice-6.result.now c.as_slice-6.ensures c.in-Some-first_failing_segment.ensures
    k.segments

pub returns : goal.returns
returns c = record {
  types = subst (AllByRecursion FewResults) c.as_slice.ensures c.in_default.ensures;
  table = c.if-not-limits_hold.ensures;
  memory = c.if-not-limits_hold-2.ensures;
  globals = kept InitFits global_of c.args.wasm.now.globals c.as_slice-2.result.now c.as_slice-2.ensures
      c.in_default-first_failing_global.ensures;
  exports = kept (λ (e : Exporting). IsThere (module_of c.args.wasm.now) e.what) export_of c.args.wasm.now.exports
      c.as_slice-3.result.now c.as_slice-3.ensures c.in_default-first_failing_export.ensures;
  names = subst (λ es. NamesDiffer (map export_of es)) c.as_slice-4.ensures
      (subst (λ b. Decides b (NamesDiffer (map export_of c.as_slice-4.result.now))) c.if-not-branch.false
      c.in_ok-names_differ.ensures);
  elements = kept (IsValidElement (module_of c.args.wasm.now)) element_of c.args.wasm.now.elements
      c.as_slice-5.result.now c.as_slice-5.ensures c.in_default-first_failing_element.ensures;
  segments = kept (IsValidData (module_of c.args.wasm.now)) segment_of c.args.wasm.now.segments c.as_slice-6.result.now
      c.as_slice-6.ensures c.in_default-first_failing_segment.ensures;
}
