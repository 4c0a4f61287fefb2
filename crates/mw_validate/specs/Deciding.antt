-- A test decides.
use Rattle.std.specs.Prelude.{◌≤◌, ◌<◌, ℕ, length, Bool, true, false, List, Option, Some, None}
use Rattle.std.specs.List.{AllByRecursion}
use Rattle.mw_wasm.specs.declared.values.ValType.{ValType}
use Rattle.mw_wasm.specs.declared.modules.FuncType.{FuncType}
use Rattle.mw_wasm.specs.declared.instructions.Instr.{Instr}
use Rattle.mw_wasm.specs.Syntax.{Global, end, next}
use Rattle.mw_wasm.specs.Views.{instruction_of}
use Rattle.mw_wasm.specs.Validity.{IsConstantOf}

abbrev pub Decides : Bool → Type 0 → Type 0
Decides true P = P
Decides false P = P → ⊥

-- the same of an answer that is none exactly where the property holds
abbrev pub NoneWhere : {F : Type 0} → Option F → Type 0 → Type 0
NoneWhere None P = P
NoneWhere (Some fault) P = P → ⊥

-- the first fault of some elements: none where all pass
abbrev pub FirstFailing : {X F : Type 0} → (X → Type 0) → List X → Option F → Type 0
FirstFailing P xs fault = NoneWhere fault (AllByRecursion P xs)

-- the properties that are tried
abbrev pub FewResults : FuncType → Type 0
FewResults t = length t.results ≤ 1

abbrev pub InitFits : Global → Type 0
InitFits g = IsConstantOf g.kind g.init

abbrev pub IsBelow : ℕ → ℕ → Type 0
IsBelow most n = n < most

abbrev pub Gives : ValType → Instr → Type 0
Gives t i = IsConstantOf t (next (instruction_of i) end)
