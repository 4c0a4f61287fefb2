-- Steps of the proofs that written modules are valid.
use Rattle.std.proofs.Common.{◌≡◌, ℕ, List, ◌∷◌, ◌++◌, refl}
use Rattle.mw_wasm.specs.declared.values.ValType.{ValType}
use Rattle.mw_wasm.specs.Syntax.{Instruction, Code, next}
use Rattle.mw_wasm.specs.Validity.{Context, HasType, CodeHasType, of_next}

-- an instruction on top of what stands below
pub on : {c : Context} {i : Instruction} {code : Code} {outs : List ValType} (below taken left : List ValType)
    → HasType c i taken left → CodeHasType c code (below ++ left) outs → CodeHasType c (next i code) (below ++ taken)
    outs
on below taken left h rest = of_next below taken left h refl rest

-- bytes that are the same begin with the same byte
pub heads : {a b : ℕ} {xs ys : List ℕ} → a ∷ xs ≡ b ∷ ys → a ≡ b
heads e = cc
