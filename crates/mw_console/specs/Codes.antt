-- The exit codes.
use Rattle.std.specs.Prelude.{ℕ}
use Rattle.mw_console.specs.declared.status.Status.{Status}
use Rattle.mw_console.specs.declared.status.Status.TheVariants.{Answer, Trap, Usage, Refused, Bound, Read, Write, Cache}
use Rattle.mw_console.specs.declared.status.Status.TheVariants.{Memory}
use Rattle.mw_console.specs.declared.status.Status.TheVariants.{BadCache, BadModule, Invalid, NotTyped}

abbrev pub code_of : Status → ℕ
code_of Answer = 0
code_of (Trap t) = 1
code_of Usage = 2
code_of (Refused r) = 3
code_of (Bound l) = 4
code_of Read = 5
code_of Write = 6
code_of Cache = 7
code_of (Memory error) = 8
code_of (BadCache digest) = 9
code_of BadModule = 10
code_of Invalid = 11
code_of NotTyped = 12
