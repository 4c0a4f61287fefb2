-- The names of instructions: the type, where there is one, a dot and the operation (standard: Text Format,
-- Instructions).
use Rattle.std.specs.Prelude.{ℕ, List, ◌++◌, codes}
use Rattle.mw_wasm.specs.declared.values.ValType.{ValType}
use Rattle.mw_wasm.specs.declared.values.ValType.TheVariants as value
use Rattle.mw_wasm.specs.declared.numbers.IntOp.{IntOp}
use Rattle.mw_wasm.specs.declared.numbers.IntOp.TheVariants as op
use Rattle.mw_wasm.specs.declared.numbers.NumOp.{NumOp}
use Rattle.mw_wasm.specs.declared.numbers.NumOp.TheVariants as number
use Rattle.mw_wasm.specs.declared.numbers.LoadOp.{LoadOp}
use Rattle.mw_wasm.specs.declared.numbers.LoadOp.TheVariants as load_op
use Rattle.mw_wasm.specs.declared.numbers.StoreOp.{StoreOp}
use Rattle.mw_wasm.specs.declared.numbers.StoreOp.TheVariants as store_op

abbrev pub type_name : ValType → List ℕ
type_name value.I32 = codes "i32"
type_name value.I64 = codes "i64"

abbrev pub operation_name : IntOp → List ℕ
operation_name op.Eqz = codes "eqz"
operation_name op.Eq = codes "eq"
operation_name op.Ne = codes "ne"
operation_name op.LtS = codes "lt_s"
operation_name op.LtU = codes "lt_u"
operation_name op.GtS = codes "gt_s"
operation_name op.GtU = codes "gt_u"
operation_name op.LeS = codes "le_s"
operation_name op.LeU = codes "le_u"
operation_name op.GeS = codes "ge_s"
operation_name op.GeU = codes "ge_u"
operation_name op.Clz = codes "clz"
operation_name op.Ctz = codes "ctz"
operation_name op.Popcnt = codes "popcnt"
operation_name op.Add = codes "add"
operation_name op.Sub = codes "sub"
operation_name op.Mul = codes "mul"
operation_name op.DivS = codes "div_s"
operation_name op.DivU = codes "div_u"
operation_name op.RemS = codes "rem_s"
operation_name op.RemU = codes "rem_u"
operation_name op.And = codes "and"
operation_name op.Or = codes "or"
operation_name op.Xor = codes "xor"
operation_name op.Shl = codes "shl"
operation_name op.ShrS = codes "shr_s"
operation_name op.ShrU = codes "shr_u"
operation_name op.Rotl = codes "rotl"
operation_name op.Rotr = codes "rotr"

abbrev pub number_name : NumOp → List ℕ
number_name (number.I32 o) = codes "i32." ++ operation_name o
number_name (number.I64 o) = codes "i64." ++ operation_name o
number_name number.Wrap = codes "i32.wrap_i64"
number_name number.ExtendS = codes "i64.extend_i32_s"
number_name number.ExtendU = codes "i64.extend_i32_u"

abbrev pub load_name : LoadOp → List ℕ
load_name load_op.I32 = codes "i32.load"
load_name load_op.I64 = codes "i64.load"
load_name load_op.I32S8 = codes "i32.load8_s"
load_name load_op.I32U8 = codes "i32.load8_u"
load_name load_op.I32S16 = codes "i32.load16_s"
load_name load_op.I32U16 = codes "i32.load16_u"
load_name load_op.I64S8 = codes "i64.load8_s"
load_name load_op.I64U8 = codes "i64.load8_u"
load_name load_op.I64S16 = codes "i64.load16_s"
load_name load_op.I64U16 = codes "i64.load16_u"
load_name load_op.I64S32 = codes "i64.load32_s"
load_name load_op.I64U32 = codes "i64.load32_u"

abbrev pub store_name : StoreOp → List ℕ
store_name store_op.I32 = codes "i32.store"
store_name store_op.I64 = codes "i64.store"
store_name store_op.I32To8 = codes "i32.store8"
store_name store_op.I32To16 = codes "i32.store16"
store_name store_op.I64To8 = codes "i64.store8"
store_name store_op.I64To16 = codes "i64.store16"
store_name store_op.I64To32 = codes "i64.store32"
