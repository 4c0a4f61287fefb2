use Rattle.std.proofs.Common.{◌≡◌, take}
use Rattle.mw_tests.proofs.parts.value_types.Given as goal

abbrev pub invariant-loop-kind : goal.invariant-loop-kind
invariant-loop-kind l = l.types ≡ take l.kind-index l.kinds
