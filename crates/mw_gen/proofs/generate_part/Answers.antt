use Rattle.mw_gen.specs.Generated.{functions_in, outer_in}
use Rattle.mw_gen.proofs.Ranges.{converted_short}
use Rattle.mw_gen.proofs.generate_part.Goals as goal

pub put_functions-requires : goal.put_functions-requires
put_functions-requires c =
    (converted_short (functions_in c.args.converted.now) (outer_in c.args.converted.now) c.requires.converted).functions

pub restarting_init-requires-clause-short : goal.restarting_init-requires-clause-short
restarting_init-requires-clause-short c =
    (converted_short (functions_in c.args.converted.now) (outer_in c.args.converted.now) c.requires.converted).body
