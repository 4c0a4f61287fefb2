use Rattle.std.proofs.Common.{take}
use Rattle.mw_types.specs.Equations.{equations_of, AllWithin}
use Rattle.mw_types.proofs.types.Equations.is_within.Given as goal

abbrev pub invariant-loop-equation : goal.invariant-loop-equation
invariant-loop-equation l = AllWithin l.self.unknowns l.self.classifiers
    (equations_of (take l.equation-index l.self.pairs))
