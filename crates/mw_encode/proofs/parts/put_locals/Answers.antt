use Rattle.std.proofs.Common.{◌^◌, ◌<◌, length, arith}
use Rattle.std.proofs.lemmas.Grind.{common_steps}
use Rattle.mw_encode.specs.Encoding.{runs_of}
use Rattle.mw_encode.proofs.BestLocals.{runs_few}
use Rattle.mw_encode.proofs.parts.put_locals.Goals as goal

pub put_count-requires : goal.put_count-requires
put_count-requires c = let h : length (runs_of c.args.types.now) < 2 ^ 32 = runs_few _ _ c.requires.spell in
    grind (arith, common_steps)
