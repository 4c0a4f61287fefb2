-- What an instruction takes and gives, as a function answers it.
use Rattle.std.specs.Prelude.{◌≡◌, Bool, true, false, List, [], ◌∷◌, ◌++◌, Option, Some, None}
use Rattle.mw_wasm.specs.declared.values.ValType.{ValType}
use Rattle.mw_wasm.specs.declared.values.ValType.TheVariants.{I32}
use Rattle.mw_wasm.specs.Syntax.{Instruction, block, loop, cond, drop_value, select}
use Rattle.mw_validate.specs.Checks.{Operands, ◌>>=◌, pop_any, pop, joined, push}
use Rattle.mw_validate.specs.declared.effects.Effect.{Effect}

-- these operands, and a condition above them
abbrev pub taken_by : Effect → List ValType
taken_by e = with_condition e.condition
  where
    with_condition : Bool → List ValType
    with_condition true = e.takes.now ++ I32 ∷ []
    with_condition false = e.takes.now

abbrev pub effect_of : Effect → Option (List ValType × List ValType)
effect_of e = Some (taken_by e, e.gives.now)

abbrev pub IsEffect : Option Effect → Option (List ValType × List ValType) → Type 0
IsEffect None effect = effect ≡ None
IsEffect (Some e) effect = effect ≡ effect_of e

abbrev pub IsLast : Option Effect → Option (List ValType) → Type 0
IsLast None taken = taken ≡ None
IsLast (Some e) taken = taken ≡ Some (taken_by e)

-- an instruction with neither lists inside nor operands of any type
abbrev pub IsPlain : Instruction → Type 0
IsPlain (block t body) = ⊥
IsPlain (loop t body) = ⊥
IsPlain (cond t a b) = ⊥
IsPlain drop_value = ⊥
IsPlain select = ⊥
IsPlain _ = Unit {0}

-- one operand of any type is dropped; of two, one is chosen
abbrev pub dropped : Operands → Option Operands
dropped s = do
  p ← pop_any s
  Some p.1

abbrev pub selected : Operands → Option Operands
selected s = do
  below ← pop I32 s
  a ← pop_any below
  b ← pop_any a.1
  t ← joined a.0 b.0
  Some (push t b.1)
