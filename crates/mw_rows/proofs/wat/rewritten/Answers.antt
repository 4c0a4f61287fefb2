use Rattle.mw_rows.proofs.wat.rewritten.Goals as goal

pub write_wat-requires : goal.write_wat-requires
write_wat-requires c = c.in-Ok.ensures.read.0.2.has.profile
