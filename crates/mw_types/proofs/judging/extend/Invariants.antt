use Rattle.std.proofs.Common.{length}
use Rattle.mw_types.specs.Judged.{StatesFront}
use Rattle.mw_types.proofs.judging.extend.Given as goal

abbrev pub invariant-loop-index : goal.invariant-loop-index
invariant-loop-index l = StatesFront l.unknowns (length l.fn.state.classifier.items) l.equations l.index l.state
