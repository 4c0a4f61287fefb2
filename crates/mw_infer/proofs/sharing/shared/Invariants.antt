use Rattle.std.proofs.Common.{map}
use Rattle.mw_types.specs.Equations.{equations_of}
use Rattle.mw_infer.specs.Sharing.{Alike, AreUses, meaning}
use Rattle.mw_infer.specs.Views.{tops_of}
use Rattle.mw_infer.proofs.sharing.shared.Given as goal

abbrev pub invariant-loop-one : goal.invariant-loop-one
invariant-loop-one l = record {
  alike : Alike (map (meaning (tops_of l.names)) l.yielded) (equations_of l.pairs);
  uses : AreUses (tops_of l.names) (map (meaning (tops_of l.names)) l.yielded) l.firsts.items;
}
