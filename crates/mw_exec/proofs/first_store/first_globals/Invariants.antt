use Rattle.std.proofs.Common.{◌≡◌, map, take}
use Rattle.mw_exec.specs.FirstStores.{value_of_global}
use Rattle.mw_exec.proofs.first_store.first_globals.Given as goal

abbrev pub invariant-loop-global : goal.invariant-loop-global
invariant-loop-global l = l.values.items ≡ map value_of_global (take l.global-index l.globals)
