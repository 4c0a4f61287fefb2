-- The offset that a constant expression gives.
use Rattle.std.proofs.lemmas.Option.{same_Some}
use Rattle.std.proofs.Common.{◌≡◌, ℕ, List, [], ◌∷◌, refl, sym, ◌∙◌, ap, Some, subst}
use Rattle.std.specs.Prelude.{slice_get}
use Rattle.mw_wasm.specs.declared.instructions.Instr.{Instr}
use Rattle.mw_wasm.specs.declared.instructions.Instr as instr
use Rattle.mw_wasm.specs.declared.values.ValType.TheVariants.{I32}
use Rattle.mw_wasm.specs.Syntax.{Code, const_i32, end, next}
use Rattle.mw_wasm.specs.Validity.{IsConstantOf}
use Rattle.mw_wasm.specs.Views.{instruction_of, list_code}
use Rattle.mw_wasm.specs.Instances.{offset_of}

-- the first instruction of a constant expression of type i32
pub constant_offset : (code : List Instr) (x : Instr) (n : ℕ) → slice_get code 0 ≡ Some x → instruction_of x
    ≡ const_i32 n → IsConstantOf I32 (list_code code) → n ≡ offset_of (list_code code)
constant_offset [] x n e f h = absurd (h)
constant_offset (y ∷ []) x n e f h = sym (ap (λ i. offset_of (next i end)) (ap instruction_of (same_Some _ _ e) ∙ f))
constant_offset (y ∷ z ∷ code) x n e f h =
    absurd (subst (λ i. IsConstantOf I32 (next i (next (instruction_of z) (list_code code))))
    (ap instruction_of (same_Some _ _ e) ∙ f) h)

-- no other instruction begins one
not_other : (y : Instr) (c : Code) → ((n : ℕ) → y ≡ instr.ConstI32 n → ⊥) → IsConstantOf I32 (next (instruction_of y) c)
    → ⊥
not_other (instr.ConstI32 n) c none h = none n refl
not_other y c none h = h

pub only_constants : (code : List Instr) (x : Instr) → slice_get code 0 ≡ Some x → ((n : ℕ) → x ≡ instr.ConstI32 n → ⊥)
    → IsConstantOf I32 (list_code code) → ⊥
only_constants [] x e none h = h
only_constants (y ∷ code) x e none h = not_other y (list_code code) (λ n f. none n (sym (same_Some _ _ e) ∙ f)) h
