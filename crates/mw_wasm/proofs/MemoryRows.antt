-- Loads, stores and growth, by computation.
use Rattle.std.proofs.Common.{refl}
use Rattle.mw_wasm.specs.Execution.{execution}
use Rattle.mw_wasm.specs.MemoryRows.{LoadRows, StoreRows, GrowthRows}

pub load_rows : LoadRows
unfolding execution
load_rows = record {
  i32_load = refl;
  i64_load = refl;
  i32_load8_s = refl;
  i32_load8_u = refl;
  i32_load16_s = refl;
  i32_load16_u = refl;
  i64_load8_s = refl;
  i64_load8_u = refl;
  i64_load16_s = refl;
  i64_load16_u = refl;
  i64_load32_s = refl;
  i64_load32_u = refl;
}

pub store_rows : StoreRows
unfolding execution
store_rows = record {
  i32_store = refl;
  i64_store = refl;
  i32_store8 = refl;
  i32_store16 = refl;
  i64_store8 = refl;
  i64_store16 = refl;
  i64_store32 = refl;
}

pub growth_rows : GrowthRows
unfolding execution
growth_rows = record {
  no_maximum = refl;
  maximum_of_2 = refl;
  maximum_of_1024 = refl;
  maximum_of_2000 = refl;
  no_pages = refl;
  old_and_new_bytes = refl;
}
