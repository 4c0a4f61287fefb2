-- Examples of control, segments and memory, by computation.
use Rattle.std.proofs.Common.{refl}
use Rattle.mw_wasm.specs.Execution.{execution}
use Rattle.mw_wasm.specs.ControlExamples.{ControlRows, MemoryRows, IndirectRows, SegmentRows}

pub control_rows : ControlRows
unfolding execution
control_rows = record {
  branch_drops = λ n st. refl;
  branch_out_of_two = λ n st. refl;
  return_drops = λ n st. refl;
  branch_past_all = λ n st. refl;
  four_turns = λ n st. refl;
  three_units = λ st. refl;
  first_label = λ n st. refl;
  second_label = λ n st. refl;
  default_label = λ n st. refl;
  far_past = λ n st. refl;
  cond_zero = λ n st. refl;
  cond_other = λ n st. refl;
  select_zero = λ n st. refl;
  select_other = λ n st. refl;
  calls_spend = λ st. refl;
}

pub memory_rows : MemoryRows
unfolding execution
memory_rows = record {
  first_growth = λ n. (_, refl);
  second_growth = λ n. (_, refl);
  size = λ n. (_, refl);
  little_endian = λ n. (_, refl);
  sign = λ n. (_, refl);
  no_sign = λ n. (_, refl);
  at_the_end = λ n. (_, refl);
}

pub indirect_rows : IndirectRows
unfolding execution
indirect_rows = record {
  undefined = refl;
  wrong_type = refl;
  defined = refl;
}

pub segment_rows : SegmentRows
segment_rows = record {
  empty_at_the_end = (refl, refl);
  element_past = refl;
  segment_past = refl;
  no_wrapping = refl;
  elements_first = refl;
  later_over_earlier = refl;
  later_bytes = (refl, refl, refl);
}
