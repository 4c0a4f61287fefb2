use Rattle.std.proofs.Common.{arith}
use Rattle.mw_term.specs.Terms.{expression_of}
use Rattle.mw_infer.proofs.Owned.{size-positive}
use Rattle.mw_infer.proofs.owners.+own_all.Goals as goal

pub own-requires : goal.own-requires
own-requires t c = let x = size-positive (expression_of c.args.term.now) in omega (arith, x)
