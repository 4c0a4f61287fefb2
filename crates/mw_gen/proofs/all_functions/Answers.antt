use Rattle.mw_gen.specs.Generated.{functions_in, outer_in}
use Rattle.mw_gen.proofs.Ranges.{converted_short}
use Rattle.mw_gen.proofs.all_functions.Goals as goal

pub put_all-requires : goal.put_all-requires
put_all-requires c =
    (converted_short (functions_in c.args.converted.now) (outer_in c.args.converted.now) c.requires.converted).functions

pub init_alone-requires-clause-short : goal.init_alone-requires-clause-short
init_alone-requires-clause-short c =
    (converted_short (functions_in c.args.converted.now) (outer_in c.args.converted.now) c.requires.converted).body
