use Rattle.mw_tests.proofs.wat.rewritten.Goals as goal

pub write_wat-requires : goal.write_wat-requires
write_wat-requires c = c.in_ok-wasm.ensures.read.0.2.has.profile
