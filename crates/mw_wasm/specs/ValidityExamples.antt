-- Worked examples of validity.
use Rattle.std.specs.Prelude.{◌≡◌, List, Some, slice_get}
use Rattle.mw_wasm.specs.declared.values.ValType.{ValType}
use Rattle.mw_wasm.specs.Syntax.{Code, br, next}
use Rattle.mw_wasm.specs.ExampleModules.{example_a, example_b}
use Rattle.mw_wasm.specs.Validity.{Context, CodeHasType, IsValid}

abbrev pub ConstantModuleIsValid : Type 0
ConstantModuleIsValid = IsValid example_a

abbrev pub CubeModuleIsValid : Type 0
CubeModuleIsValid = IsValid example_b

-- code after a branch may take any operands: what has a type has one from the label's operands, after the branch
abbrev pub CodeAfterBranchHasAnyOperands : Type 0
CodeAfterBranchHasAnyOperands = (c : Context) (code : Code) (label ins outs : List ValType)
    → slice_get c.labels 0 ≡ Some label → CodeHasType c code ins outs
    → CodeHasType c (next (br 0) code) label outs
