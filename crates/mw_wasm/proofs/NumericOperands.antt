-- Operands of numeric instructions.
use Rattle.std.proofs.Common.{◌≡◌, ℕ, refl}
use Rattle.mw_wasm.specs.declared.numbers.IntOp.TheVariants as int
use Rattle.mw_wasm.specs.declared.numbers.IntOp.{IntOp}
use Rattle.mw_wasm.specs.declared.numbers.NumOp.TheVariants as num
use Rattle.mw_wasm.specs.declared.values.ValType.TheVariants as type
use Rattle.mw_wasm.specs.declared.values.Value.TheVariants as value
use Rattle.mw_wasm.specs.declared.values.Value.{Value}
use Rattle.mw_wasm.specs.NumericTypes.{OperandsFit, type_of_value}
use Rattle.mw_wasm.specs.Numerics.{number_of, number_result}

-- x and y are the operands' numbers wherever they are i32; an operation of one operand never looks at y
pub number_result_of_i32 : (o : IntOp) (a b : Value) (x y : ℕ) → OperandsFit (num.I32 o) a b
    → (type_of_value a ≡ type.I32 → x ≡ number_of a) → (type_of_value b ≡ type.I32 → y ≡ number_of b)
    → number_result (num.I32 o) (value.I32 x) (value.I32 y) ≡ number_result (num.I32 o) a b
number_result_of_i32 int.Eqz a b x y fits first second = rw (first fits) refl
number_result_of_i32 int.Clz a b x y fits first second = rw (first fits) refl
number_result_of_i32 int.Ctz a b x y fits first second = rw (first fits) refl
number_result_of_i32 int.Popcnt a b x y fits first second = rw (first fits) refl
number_result_of_i32 o a b x y fits first second = rw (first fits.0, second fits.1) refl

-- two values of a type are operands of each operation at it
pub operands_fit_i32 : (o : IntOp) (a b : ℕ) → OperandsFit (num.I32 o) (value.I32 a) (value.I32 b)
operands_fit_i32 int.Eqz a b = refl
operands_fit_i32 int.Clz a b = refl
operands_fit_i32 int.Ctz a b = refl
operands_fit_i32 int.Popcnt a b = refl
operands_fit_i32 o a b = (refl, refl)

pub operands_fit_i64 : (o : IntOp) (a b : ℕ) → OperandsFit (num.I64 o) (value.I64 a) (value.I64 b)
operands_fit_i64 int.Eqz a b = refl
operands_fit_i64 int.Clz a b = refl
operands_fit_i64 int.Ctz a b = refl
operands_fit_i64 int.Popcnt a b = refl
operands_fit_i64 o a b = (refl, refl)
