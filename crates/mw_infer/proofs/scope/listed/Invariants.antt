use Rattle.std.proofs.Common.{◌≡◌, map, ◌++◌}
use Rattle.mw_infer.specs.Views.{slot_of, slots_of}
use Rattle.mw_infer.proofs.scope.listed.Given as goal

abbrev pub invariant-loop-rest : goal.invariant-loop-rest
invariant-loop-rest l = map slot_of l.list.items ++ slots_of l.rest ≡ slots_of l.scope
