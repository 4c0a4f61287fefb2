-- Branches, calls and units, by computation.
use Rattle.std.proofs.Common.{refl}
use Rattle.mw_wasm.specs.Execution.{execution}
use Rattle.mw_wasm.specs.ControlRows.{NestedRows, UnitRows, PlainRows, IndirectCallRows}

pub nested_rows : NestedRows
unfolding execution
nested_rows = record {
  falls_through = refl;
  to_the_inner = refl;
  to_the_outer = refl;
  to_the_function = refl;
  returns = refl;
  inner_if = refl;
  outer_if = refl;
  function_if = refl;
  by_table = refl;
  empty_table = refl;
  by_cond = refl;
}

pub unit_rows : UnitRows
unfolding execution
unit_rows = record {
  two_turns = refl;
  two_turns_of_three = refl;
  one_turn = refl;
  no_turn = refl;
  three_hundred_turns = refl;
  three_calls = refl;
}

pub plain_rows : PlainRows
unfolding execution
plain_rows = record {
  nop_keeps = refl;
  drop_takes_one = refl;
  select_takes_three = refl;
  set_takes = refl;
  tee_keeps = refl;
  unreachable_traps = refl;
  argument_first = refl;
  i32_begins_at_0 = refl;
  i64_begins_at_0 = refl;
  globals_begin = refl;
  sets_the_first = refl;
  sets_the_second = refl;
}

pub indirect_call_rows : IndirectCallRows
unfolding execution
indirect_call_rows = record {
  to_i32 = refl;
  to_i64 = refl;
  of_two_i32 = refl;
  of_i64 = refl;
  same_content = refl;
  of_another = refl;
  without_units = refl;
}
