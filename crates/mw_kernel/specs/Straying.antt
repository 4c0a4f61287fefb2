-- When an answer is bad, and which functions may be called on.
use Rattle.std.specs.Prelude.{◌≡◌, Result, Ok, Err}
use Rattle.mw_term.specs.Terms.{KernelType, to}
use Rattle.mw_meaning.specs.Plays.{HasPlayed}
use Rattle.mw_meaning.specs.Shapes.{IsStray}
use Rattle.mw_wasm.specs.declared.modules.Module.{Module}
use Rattle.mw_wasm.specs.Views.{module_of}
use Rattle.mw_machine.specs.declared.kernels.Ran.{Ran}
use Rattle.mw_machine.specs.declared.kernels.Ran.TheVariants as ran
use Rattle.mw_kernel.specs.declared.fault.RunFault.{RunFault}
use Rattle.mw_kernel.specs.declared.fault.RunFault.TheVariants as fault
use Rattle.mw_kernel.specs.declared.running.Began.{Began}
use Rattle.mw_kernel.specs.declared.running.Began.TheVariants as began
use Rattle.mw_kernel.specs.RunningStates.{RunningState, store_of}

-- What is kept is in play: the invocations of its module so far all ended with a word, `init`'s with the function's,
-- and the last one left the store.
abbrev pub IsInPlay : RunningState → Type 0
IsInPlay r = HasPlayed (module_of r.wasm) r.argument r.function (store_of r)

-- a start is bad only where the module is stray for the kernel type
abbrev pub BadStartIsStray : Result Began RunFault → Module → KernelType → Type 0
BadStartIsStray (Err fault.Bad) wasm k = IsStray (module_of wasm) k
BadStartIsStray _ wasm k = Unit {0}

-- the function that a start gives is one of the module
abbrev pub IsStartOver : Result Began RunFault → Module → Type 0
IsStartOver (Ok (began.Function r left)) wasm = r.wasm ≡ wasm
IsStartOver _ wasm = Unit {0}

-- and is in play
abbrev pub StartsPlay : Result Began RunFault → Type 0
StartsPlay (Ok (began.Function r left)) = IsInPlay r
StartsPlay _ = Unit {0}

-- a call of a function in play is bad only where its module is stray for its type
abbrev pub BadCallIsStray : Result Ran RunFault → RunningState → Type 0
BadCallIsStray (Err fault.Bad) r = IsInPlay r → IsStray (module_of r.wasm) (to r.argument r.result)
BadCallIsStray _ r = Unit {0}

-- after a call that gave a value it is still in play
abbrev pub PlaysOn : Result Ran RunFault → RunningState → RunningState → Type 0
PlaysOn (Ok (ran.Value v left)) old new = IsInPlay old → IsInPlay new
PlaysOn _ old new = Unit {0}
