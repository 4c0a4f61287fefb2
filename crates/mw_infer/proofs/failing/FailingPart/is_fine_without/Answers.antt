use Rattle.std.proofs.Common.{arith}
use Rattle.mw_types.specs.Equations.{equations_of}
use Rattle.mw_types.proofs.Halving.{eqs_length}
use Rattle.mw_infer.proofs.Copying.{within-without}
use Rattle.mw_infer.proofs.failing.FailingPart.is_fine_without.Goals as goal

pub rest_copied-requires : goal.rest_copied-requires
rest_copied-requires c = rw (c.as_slice.ensures.value, c.as_slice-pairs.ensures)
    (omega (arith, c.requires.owners, eqs_length c.args.self.now.equations.pairs))

pub is_fine-requires : goal.is_fine-requires
is_fine-requires c = rw (c.in_ok-rest_copied.ensures, c.as_slice-pairs.ensures)
    (within-without c.args.first c.args.end _ _ _ (equations_of c.args.self.now.equations.pairs) c.requires.within)
