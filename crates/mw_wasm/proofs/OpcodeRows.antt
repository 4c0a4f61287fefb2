-- Each opcode, cut into its pieces.
use Rattle.std.proofs.Common.{lit<, lit≤, negsuc, inl, inr, refl}
use Rattle.mw_wasm.specs.OpcodeRows.{InstructionRows, OpcodeRows}
use Rattle.mw_wasm.proofs.FormatCuts.{cut, small, small_i32, small_i64}

pub instruction_rows : InstructionRows
instruction_rows = record {
  unreachable_00 = refl;
  nop_01 = refl;
  block_02 = cut 1 refl (cut 1 refl (cut 1 (cut 1 refl refl) refl));
  block_of_i32 = cut 1 refl (cut 1 refl (cut 2 (cut 2 (cut 1 refl (small_i32 7 tt)) refl) refl));
  block_of_i64 = cut 1 refl (cut 1 refl (cut 2 (cut 2 (cut 1 refl (small_i64 7 tt)) refl) refl));
  loop_03 = cut 1 refl (cut 1 refl (cut 1 (cut 1 refl refl) refl));
  if_04 = cut 1 refl (cut 1 refl (cut 1 (cut 1 refl refl) (inl (refl, refl))));
  else_05 = cut 1 refl (cut 1 refl (cut 1 (cut 1 refl refl) (inr (cut 1 refl (cut 1 (cut 1 refl refl) refl)))));
  br_0C = cut 1 refl (small 5 tt);
  br_if_0D = cut 1 refl (small 5 tt);
  br_table_0E = cut 1 refl (cut 3 (cut 1 (small 2 tt) (cut 1 (small 5 tt) (cut 1 (small 6 tt) refl))) (small 7 tt));
  return_0F = refl;
  call_10 = cut 1 refl (small 5 tt);
  call_indirect_11 = cut 1 refl (cut 1 (small 5 tt) refl);
  drop_1A = refl;
  select_1B = refl;
  local_get_20 = cut 1 refl (small 5 tt);
  local_set_21 = cut 1 refl (small 5 tt);
  local_tee_22 = cut 1 refl (small 5 tt);
  global_get_23 = cut 1 refl (small 5 tt);
  global_set_24 = cut 1 refl (small 5 tt);
  memory_size_3F = cut 1 refl refl;
  memory_grow_40 = cut 1 refl refl;
  const_i32_41 = cut 1 refl (small_i32 5 tt);
  const_i64_42 = cut 1 refl (small_i64 5 tt);
  minus_one_i32 = cut 1 refl (negsuc 0, inr (lit≤ tt, lit< tt, lit≤ tt, refl), refl);
  minus_one_i64 = cut 1 refl (negsuc 0, inr (lit≤ tt, lit< tt, lit≤ tt, refl), refl);
  two_bytes = cut 1 refl (lit≤ tt, lit< tt, lit< tt, (2, (lit< tt, lit< tt, refl), refl));
}

pub opcode_rows : OpcodeRows
opcode_rows = record {
  loads = (
    cut 1 refl (cut 1 (small 1 tt) (small 2 tt)),
    (
      cut 1 refl (cut 1 (small 1 tt) (small 2 tt)),
      (
        cut 1 refl (cut 1 (small 1 tt) (small 2 tt)),
        (
          cut 1 refl (cut 1 (small 1 tt) (small 2 tt)),
          (
            cut 1 refl (cut 1 (small 1 tt) (small 2 tt)),
            (
              cut 1 refl (cut 1 (small 1 tt) (small 2 tt)),
              (
                cut 1 refl (cut 1 (small 1 tt) (small 2 tt)),
                (
                  cut 1 refl (cut 1 (small 1 tt) (small 2 tt)),
                  (
                    cut 1 refl (cut 1 (small 1 tt) (small 2 tt)),
                    (
                      cut 1 refl (cut 1 (small 1 tt) (small 2 tt)),
                      (
                        cut 1 refl (cut 1 (small 1 tt) (small 2 tt)),
                        (cut 1 refl (cut 1 (small 1 tt) (small 2 tt)), tt),
                      ),
                    ),
                  ),
                ),
              ),
            ),
          ),
        ),
      ),
    ),
  );
  stores = (
    cut 1 refl (cut 1 (small 1 tt) (small 2 tt)),
    (
      cut 1 refl (cut 1 (small 1 tt) (small 2 tt)),
      (
        cut 1 refl (cut 1 (small 1 tt) (small 2 tt)),
        (
          cut 1 refl (cut 1 (small 1 tt) (small 2 tt)),
          (
            cut 1 refl (cut 1 (small 1 tt) (small 2 tt)),
            (cut 1 refl (cut 1 (small 1 tt) (small 2 tt)), (cut 1 refl (cut 1 (small 1 tt) (small 2 tt)), tt)),
          ),
        ),
      ),
    ),
  );
  at_32 = (
    refl,
    (
      refl,
      (
        refl,
        (
          refl,
          (
            refl,
            (
              refl,
              (
                refl,
                (
                  refl,
                  (
                    refl,
                    (
                      refl,
                      (
                        refl,
                        (
                          refl,
                          (
                            refl,
                            (
                              refl,
                              (
                                refl,
                                (
                                  refl,
                                  (
                                    refl,
                                    (
                                      refl,
                                      (
                                        refl,
                                        (
                                          refl,
                                          (
                                            refl,
                                            (
                                              refl,
                                              (refl, (refl, (refl, (refl, (refl, (refl, (refl, tt))))))),
                                            ),
                                          ),
                                        ),
                                      ),
                                    ),
                                  ),
                                ),
                              ),
                            ),
                          ),
                        ),
                      ),
                    ),
                  ),
                ),
              ),
            ),
          ),
        ),
      ),
    ),
  );
  at_64 = (
    refl,
    (
      refl,
      (
        refl,
        (
          refl,
          (
            refl,
            (
              refl,
              (
                refl,
                (
                  refl,
                  (
                    refl,
                    (
                      refl,
                      (
                        refl,
                        (
                          refl,
                          (
                            refl,
                            (
                              refl,
                              (
                                refl,
                                (
                                  refl,
                                  (
                                    refl,
                                    (
                                      refl,
                                      (
                                        refl,
                                        (
                                          refl,
                                          (
                                            refl,
                                            (
                                              refl,
                                              (refl, (refl, (refl, (refl, (refl, (refl, (refl, tt))))))),
                                            ),
                                          ),
                                        ),
                                      ),
                                    ),
                                  ),
                                ),
                              ),
                            ),
                          ),
                        ),
                      ),
                    ),
                  ),
                ),
              ),
            ),
          ),
        ),
      ),
    ),
  );
  conversions = (refl, (refl, (refl, tt)));
}
