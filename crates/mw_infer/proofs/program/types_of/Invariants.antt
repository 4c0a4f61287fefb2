use Rattle.std.proofs.Common.{◌≡◌, map, take}
use Rattle.mw_types.specs.Types.{type_of}
use Rattle.mw_infer.specs.Schemes.{type_of_scheme}
use Rattle.mw_infer.specs.Views.{tops_of}
use Rattle.mw_infer.proofs.program.types_of.Given as goal

abbrev pub invariant-loop-named : goal.invariant-loop-named
invariant-loop-named l = map type_of l.types.items ≡ map type_of_scheme (tops_of (take l.named-index l.names))
