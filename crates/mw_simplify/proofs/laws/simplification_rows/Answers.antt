use Rattle.std.proofs.Common.{refl}
use Rattle.std.specs.Int.{int_wrap}
use Rattle.mw_meaning.specs.Simplification.{simplified}
use Rattle.mw_simplify.proofs.laws.simplification_rows.Goals as goal

pub returns : goal.returns
unfolding simplified int_wrap
returns c = record {
  primitives = (refl, refl, refl, refl, refl, refl, refl, refl);
  branches = (refl, refl, refl);
  parts = (refl, refl, refl, refl, refl);
  names = (refl, refl, refl, refl);
  unused = (refl, refl, refl, refl, refl);
}
