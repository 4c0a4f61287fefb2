-- With which names the keeper of a cache file was started, as a run's end says.
use Rattle.std.specs.Prelude.{ℕ, List, Result, Ok, Err}
use Rattle.mw_keeping.specs.CacheFiles.{IsStartedWith, IsStartedAtMost}
use Rattle.mw_console.specs.declared.status.Status.{Status}
use Rattle.mw_console.specs.declared.status.Status.TheVariants.{Answer, Trap, Bound}
use Rattle.mw_drive.specs.declared.fault.RunFault.{RunFault}

-- After an answer, a trap or a bound with the file's name, once. After any other status so, or with none.
abbrev pub IsOpenedWith : Status → (name : List ℕ) → (old new : List (List ℕ)) → Type 0
IsOpenedWith Answer name old new = IsStartedWith name old new
IsOpenedWith (Trap t) name old new = IsStartedWith name old new
IsOpenedWith (Bound l) name old new = IsStartedWith name old new
IsOpenedWith s name old new = IsStartedAtMost name old new

-- the same, of a run that ends with this status or with a fault
abbrev pub IsOpenedAfter : Result Status RunFault → (name : List ℕ) → (old new : List (List ℕ)) → Type 0
IsOpenedAfter (Ok s) name old new = IsOpenedWith s name old new
IsOpenedAfter (Err f) name old new = IsStartedAtMost name old new
