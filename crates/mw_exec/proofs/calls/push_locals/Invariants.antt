use Rattle.std.proofs.Common.{◌≡◌, ◌++◌, take}
use Rattle.std.specs.Prelude.{map}
use Rattle.mw_wasm.specs.Store.{zero_of}
use Rattle.mw_exec.proofs.calls.push_locals.Given as goal

abbrev pub invariant-loop-t : goal.invariant-loop-t
invariant-loop-t l = l.locals.items ≡ l.initial.locals.items ++ map zero_of (take l.t-index l.further)
