-- What the numeric instructions compute, on numbers below 2 ^ N (standard: Execution, Numerics). N is `bits w`, and N -
-- 1 is `hbits w`. `cast_signed w n` is the signed reading of n, and `cast_unsigned w z` the number with the signed
-- reading z.
use Rattle.std.specs.Prelude.{ℕ, ◌+◌, ◌-◌, ◌*◌, ◌/◌, ◌%◌, ◌^◌, ◌==◌, nat_lt, nat_le, Bool, not, ◌&&◌, if◌then◌else◌}
use Rattle.std.specs.Prelude.{Result, Ok, Err, bit_and, bit_or, bit_xor, count_ones, int_lt, int_le, int_div, int_rem}
use Rattle.std.specs.Int.{Width, w32, w64, cast_signed, cast_unsigned, from_bool, leading_zeros, trailing_zeros}
use Rattle.std.specs.Int.{rotate_left, rotate_right, int_shr}
use mir.Val.{bits, hbits}
use Rattle.mw_wasm.specs.declared.numbers.IntOp.TheVariants as int
use Rattle.mw_wasm.specs.declared.numbers.IntOp.{IntOp}
use Rattle.mw_wasm.specs.declared.numbers.NumOp.TheVariants as num
use Rattle.mw_wasm.specs.declared.numbers.NumOp.{NumOp}
use Rattle.mw_wasm.specs.declared.values.Trap.{Trap}
use Rattle.mw_wasm.specs.declared.values.Trap.TheVariants as trap
use Rattle.mw_wasm.specs.declared.values.ValType.TheVariants as type
use Rattle.mw_wasm.specs.declared.values.ValType.{ValType}
use Rattle.mw_wasm.specs.declared.values.Value.TheVariants as value
use Rattle.mw_wasm.specs.declared.values.Value.{Value}
use Rattle.mw_wasm.specs.NumericTypes.{result_type}

-- a number whose signed reading is the least one, and one whose signed reading is -1
abbrev pub is_least : Width → ℕ → Bool
is_least w a = a == 2 ^ hbits w

abbrev pub is_minus_one : Width → ℕ → Bool
is_minus_one w b = b == 2 ^ bits w - 1

-- the result of a division by b, which traps where b is 0
abbrev pub divided_by : ℕ → Result ℕ Trap → Result ℕ Trap
divided_by b r = if b == 0 then Err trap.Divide else r

-- the quotient of the signed readings, rounded toward zero; that of the least one by -1 would be 2 ^ (N - 1), which is
-- no signed reading
abbrev pub signed_quotient : Width → ℕ → ℕ → Result ℕ Trap
signed_quotient w a b =
    if is_least w a && is_minus_one w b
    then Err trap.Overflow
    else Ok (cast_unsigned w (int_div (cast_signed w a) (cast_signed w b)))

-- the remainder of the signed readings, with the dividend's sign; that of the least one by -1 is 0
abbrev pub signed_remainder : Width → ℕ → ℕ → ℕ
signed_remainder w a b = cast_unsigned w (int_rem (cast_signed w a) (cast_signed w b))

-- An operation on integers of a width (standard: Execution, Numerics, Integer Operations). Tests and comparisons give 1
-- or 0. Shifts and rotations go by b modulo N bits. `int_shr` divides the signed reading by a power of two and rounds
-- down, which fills with the sign bit.
abbrev pub int_result : Width → IntOp → ℕ → ℕ → Result ℕ Trap
int_result w int.Eqz a b = Ok (from_bool (a == 0))
int_result w int.Eq a b = Ok (from_bool (a == b))
int_result w int.Ne a b = Ok (from_bool (not (a == b)))
int_result w int.LtS a b = Ok (from_bool (int_lt (cast_signed w a) (cast_signed w b)))
int_result w int.LtU a b = Ok (from_bool (nat_lt a b))
int_result w int.GtS a b = Ok (from_bool (int_lt (cast_signed w b) (cast_signed w a)))
int_result w int.GtU a b = Ok (from_bool (nat_lt b a))
int_result w int.LeS a b = Ok (from_bool (int_le (cast_signed w a) (cast_signed w b)))
int_result w int.LeU a b = Ok (from_bool (nat_le a b))
int_result w int.GeS a b = Ok (from_bool (int_le (cast_signed w b) (cast_signed w a)))
int_result w int.GeU a b = Ok (from_bool (nat_le b a))
int_result w int.Clz a b = Ok (leading_zeros w a)
int_result w int.Ctz a b = Ok (trailing_zeros w a)
int_result w int.Popcnt a b = Ok (count_ones a)
int_result w int.Add a b = Ok ((a + b) % 2 ^ bits w)
int_result w int.Sub a b = Ok ((a + 2 ^ bits w - b) % 2 ^ bits w)
int_result w int.Mul a b = Ok (a * b % 2 ^ bits w)
int_result w int.DivS a b = divided_by b (signed_quotient w a b)
int_result w int.DivU a b = divided_by b (Ok (a / b))
int_result w int.RemS a b = divided_by b (Ok (signed_remainder w a b))
int_result w int.RemU a b = divided_by b (Ok (a % b))
int_result w int.And a b = Ok (bit_and a b)
int_result w int.Or a b = Ok (bit_or a b)
int_result w int.Xor a b = Ok (bit_xor a b)
int_result w int.Shl a b = Ok (a * 2 ^ (b % bits w) % 2 ^ bits w)
int_result w int.ShrS a b = Ok (cast_unsigned w (int_shr (cast_signed w a) (b % bits w)))
int_result w int.ShrU a b = Ok (a / 2 ^ (b % bits w))
int_result w int.Rotl a b = Ok (rotate_left w a (b % bits w))
int_result w int.Rotr a b = Ok (rotate_right w a (b % bits w))

-- A numeric instruction on numbers. Wrapping keeps the lowest 32 bits, and extension the signed or the unsigned reading
-- (standard: Execution, Numerics, Conversions).
abbrev pub result_number : NumOp → ℕ → ℕ → Result ℕ Trap
result_number (num.I32 o) a b = int_result w32 o a b
result_number (num.I64 o) a b = int_result w64 o a b
result_number num.Wrap a b = Ok (a % 2 ^ 32)
result_number num.ExtendS a b = Ok (cast_unsigned w64 (cast_signed w32 a))
result_number num.ExtendU a b = Ok a

-- the bits of a value read unsigned, and the value of a type with these bits
abbrev pub number_of : Value → ℕ
number_of (value.I32 n) = n
number_of (value.I64 n) = n

abbrev pub value_at : ValType → ℕ → Value
value_at type.I32 n = value.I32 n
value_at type.I64 n = value.I64 n

-- the value of a type with a result's bits, or the trap
abbrev pub as_value : ValType → Result ℕ Trap → Result Value Trap
as_value t (Ok n) = Ok (value_at t n)
as_value t (Err e) = Err e

-- a numeric instruction on values of its operands' types
abbrev pub number_result : NumOp → Value → Value → Result Value Trap
number_result o a b = as_value (result_type o) (result_number o (number_of a) (number_of b))
