-- Every numeric operation at edge values, by computation.
use Rattle.std.proofs.Common.{refl}
use lib.Count
use Rattle.mw_wasm.specs.Execution.{execution}
use Rattle.mw_wasm.specs.NumericRows.{NumericRows32, NumericRows64, ConversionRows}

pub numeric_rows_32 : NumericRows32
unfolding execution lib.Count.count_leading_zeros lib.Count.count_trailing_zeros lib.Count.ones
numeric_rows_32 = record {
  eqz = refl;
  eq = refl;
  ne = refl;
  lt_s = refl;
  lt_u = refl;
  gt_s = refl;
  gt_u = refl;
  le_s = refl;
  le_u = refl;
  ge_s = refl;
  ge_u = refl;
  clz = refl;
  ctz = refl;
  popcnt = refl;
  add = refl;
  sub = refl;
  mul = refl;
  div_s = refl;
  div_u = refl;
  rem_s = refl;
  rem_u = refl;
  and = refl;
  or = refl;
  xor = refl;
  shl = refl;
  shr_s = refl;
  shr_u = refl;
  rotl = refl;
  rotr = refl;
}

pub numeric_rows_64 : NumericRows64
unfolding execution lib.Count.count_leading_zeros lib.Count.count_trailing_zeros lib.Count.ones
numeric_rows_64 = record {
  eqz = refl;
  eq = refl;
  ne = refl;
  lt_s = refl;
  lt_u = refl;
  gt_s = refl;
  gt_u = refl;
  le_s = refl;
  le_u = refl;
  ge_s = refl;
  ge_u = refl;
  clz = refl;
  ctz = refl;
  popcnt = refl;
  add = refl;
  sub = refl;
  mul = refl;
  div_s = refl;
  div_u = refl;
  rem_s = refl;
  rem_u = refl;
  and = refl;
  or = refl;
  xor = refl;
  shl = refl;
  shr_s = refl;
  shr_u = refl;
  rotl = refl;
  rotr = refl;
}

pub conversion_rows : ConversionRows
unfolding execution
conversion_rows = record {
  wrap = refl;
  extend_s = refl;
  extend_u = refl;
}
