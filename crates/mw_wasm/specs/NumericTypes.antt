-- The types of numeric instructions (standard: Validation, Instructions, Numeric Instructions).
use Rattle.std.specs.Prelude.{◌≡◌, List, [], ◌∷◌}
use Rattle.mw_wasm.specs.declared.numbers.IntOp.TheVariants as int
use Rattle.mw_wasm.specs.declared.numbers.IntOp.{IntOp}
use Rattle.mw_wasm.specs.declared.numbers.NumOp.TheVariants as num
use Rattle.mw_wasm.specs.declared.numbers.NumOp.{NumOp}
use Rattle.mw_wasm.specs.declared.values.ValType.TheVariants as type
use Rattle.mw_wasm.specs.declared.values.ValType.{ValType}
use Rattle.mw_wasm.specs.declared.values.Value.TheVariants as value
use Rattle.mw_wasm.specs.declared.values.Value.{Value}

-- the four kinds of integer operations (standard: Structure, Instructions, Numeric Instructions)
pub data Kind : Type 0 where
  test : Kind
  comparison : Kind
  unary : Kind
  binary : Kind

abbrev pub kind_of : IntOp → Kind
kind_of int.Eqz = test
kind_of int.Eq = comparison
kind_of int.Ne = comparison
kind_of int.LtS = comparison
kind_of int.LtU = comparison
kind_of int.GtS = comparison
kind_of int.GtU = comparison
kind_of int.LeS = comparison
kind_of int.LeU = comparison
kind_of int.GeS = comparison
kind_of int.GeU = comparison
kind_of int.Clz = unary
kind_of int.Ctz = unary
kind_of int.Popcnt = unary
kind_of int.Add = binary
kind_of int.Sub = binary
kind_of int.Mul = binary
kind_of int.DivS = binary
kind_of int.DivU = binary
kind_of int.RemS = binary
kind_of int.RemU = binary
kind_of int.And = binary
kind_of int.Or = binary
kind_of int.Xor = binary
kind_of int.Shl = binary
kind_of int.ShrS = binary
kind_of int.ShrU = binary
kind_of int.Rotl = binary
kind_of int.Rotr = binary

-- the operands of an operation on integers of type t
abbrev pub operands_at : Kind → ValType → List ValType
operands_at test t = t ∷ []
operands_at comparison t = t ∷ t ∷ []
operands_at unary t = t ∷ []
operands_at binary t = t ∷ t ∷ []

-- its result: tests and comparisons give an i32, 0 or 1
abbrev pub result_at : Kind → ValType → ValType
result_at test t = type.I32
result_at comparison t = type.I32
result_at unary t = t
result_at binary t = t

abbrev pub operands_of : NumOp → List ValType
operands_of (num.I32 o) = operands_at (kind_of o) type.I32
operands_of (num.I64 o) = operands_at (kind_of o) type.I64
operands_of num.Wrap = type.I64 ∷ []
operands_of num.ExtendS = type.I32 ∷ []
operands_of num.ExtendU = type.I32 ∷ []

abbrev pub result_type : NumOp → ValType
result_type (num.I32 o) = result_at (kind_of o) type.I32
result_type (num.I64 o) = result_at (kind_of o) type.I64
result_type num.Wrap = type.I32
result_type num.ExtendS = type.I64
result_type num.ExtendU = type.I64

abbrev pub type_of_value : Value → ValType
type_of_value (value.I32 n) = type.I32
type_of_value (value.I64 n) = type.I64

-- the values are of these types, the first one's first; where there is one type alone, the second value is any
abbrev pub HaveTypes : List ValType → Value → Value → Type 0
HaveTypes [] a b = Unit {0}
HaveTypes (s ∷ []) a b = type_of_value a ≡ s
HaveTypes (s ∷ t ∷ _) a b = (type_of_value a ≡ s) × (type_of_value b ≡ t)

-- operands of the operation's types; the second one is any where the operation has one operand
abbrev pub OperandsFit : NumOp → Value → Value → Type 0
OperandsFit o a b = HaveTypes (operands_of o) a b
