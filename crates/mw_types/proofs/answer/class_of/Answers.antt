use Rattle.std.proofs.Common.{sym, arith}
use Rattle.mw_types.proofs.answer.class_of.Goals as goal

pub class_shape-requires-clause-inside : goal.class_shape-requires-clause-inside
class_shape-requires-clause-inside c = omega (arith, c.requires.inside, c.find-root.ensures.below)

pub returns : goal.returns
returns c = record {
  leads = rw c.as_slice.ensures.value at c.find-root.ensures.leads;
  root = rw c.as_slice.ensures.value at c.find-root.ensures.root;
  shape = sym c.class_shape.ensures.shape;
}
