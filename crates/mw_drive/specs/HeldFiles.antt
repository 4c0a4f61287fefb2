-- What a cache file holds after a run, as the run's end says.
use Rattle.std.specs.Prelude.{◌≡◌, ◌⊎◌, ℕ, List, map, Contains, Result, Ok, Err}
use Rattle.std.specs.Prelude.{IfOk}
use Rattle.mw_outside.specs.declared.errors.WriteFault.TheVariants as fault
use Rattle.mw_cache.specs.Gots.{CacheState, text_in}
use Rattle.mw_keeping.specs.KeptFiles.{IsKeptFile, IsKept, HasGoodFront}
use Rattle.mw_keeping.specs.Migrations.{IsMigratedFile}
use Rattle.mw_keeping.specs.declared.opening.CacheFile.{CacheFile}
use Rattle.mw_keeping.specs.declared.opening.CacheFile.TheVariants as file
use Rattle.mw_console.specs.declared.status.Status.{Status}
use Rattle.mw_console.specs.declared.status.Status.TheVariants.{Answer, Trap, Usage, Refused, Bound, Read, Write}
use Rattle.mw_console.specs.declared.status.Status.TheVariants.{Cache, Memory, BadCache, BadModule, Invalid, NotTyped}
use Rattle.mw_drive.specs.declared.fault.RunFault.{RunFault}
use Rattle.mw_drive.specs.declared.fault.RunFault.TheVariants.{Unwritten, Bad}
use Rattle.mw_drive.specs.declared.items.Built.{Built}
use Rattle.mw_drive.specs.Extents.{Kind, on_a_cache}

-- A file is kept so for some texts, among which are all of these.
pub record CoversAll (texts : List (List ℕ)) (held after : List ℕ) : Type 0 where
  pub wanted : List (List ℕ)
  pub among : (text : List ℕ) → Contains texts text → Contains wanted text
  pub keeps : IsKeptFile held after wanted

-- After an answer, a trap or a bound: what counted of it, and behind that what was kept. Where keeping failed, or there
-- was no memory, at least what counted. After any other status what it held.
abbrev pub IsHeldWith : Status → (held after : List ℕ) → Type 0
IsHeldWith Answer held after = IsKept held after
IsHeldWith (Trap t) held after = IsKept held after
IsHeldWith (Bound l) held after = IsKept held after
IsHeldWith Cache held after = HasGoodFront held after
IsHeldWith (Memory e) held after = HasGoodFront held after
IsHeldWith Usage held after = after ≡ held
IsHeldWith (Refused r) held after = after ≡ held
IsHeldWith Read held after = after ≡ held
IsHeldWith Write held after = after ≡ held
IsHeldWith (BadCache d) held after = after ≡ held
IsHeldWith BadModule held after = after ≡ held
IsHeldWith Invalid held after = after ≡ held
IsHeldWith NotTyped held after = after ≡ held

-- What it holds after a migration: with an answer what counted of it, and behind that exactly the records that are
-- added; where the lines weren't written, what it held; and else at least what counted.
abbrev pub IsMigratedWith : Status → (held after : List ℕ) → Type 0
IsMigratedWith Answer held after = IsMigratedFile held after
IsMigratedWith Write held after = after ≡ held
IsMigratedWith s held after = HasGoodFront held after

-- what it holds after a command of the kind
abbrev pub IsHeldBy : Kind → Status → (held after : List ℕ) → Type 0
IsHeldBy on_a_cache s held after = IsMigratedWith s held after
IsHeldBy kind s held after = IsHeldWith s held after

-- the same, of a run that ends with this status or with a fault
abbrev pub IsHeldAfter : Result Status RunFault → (held after : List ℕ) → Type 0
IsHeldAfter (Ok s) held after = IsHeldWith s held after
IsHeldAfter (Err (Unwritten fault.Failed)) held after = after ≡ held
IsHeldAfter (Err (Unwritten (fault.Memory e))) held after = HasGoodFront held after
IsHeldAfter (Err (Bad d)) held after = after ≡ held

-- each of these texts is covered, unless keeping failed
abbrev pub IsKeptOf : List (List ℕ) → Result Status RunFault → (held after : List ℕ) → Type 0
IsKeptOf texts result held after = IfOk result (λ s. (s ≡ Cache → ⊥) → CoversAll texts held after)

-- The status of a run with a cache file: its own, or that the file couldn't be read, or wasn't kept.
abbrev pub IsStatusAfter : CacheFile → Status → Status → Type 0
IsStatusAfter file.Absent own s = s ≡ own
IsStatusAfter file.Unread own s = s ≡ Cache
IsStatusAfter (file.Read count) own s = (s ≡ own) ⊎ (s ≡ Cache)

-- the texts of kernels, of which these are the modules
abbrev pub texts_built : CacheState → List Built → List (List ℕ)
texts_built cache built = map (λ b. text_in cache b.got.now) built

-- the same of a run's status, where that is of a whole text
abbrev pub IsKeptWith : List (List ℕ) → Status → (held after : List ℕ) → Type 0
IsKeptWith texts Answer held after = CoversAll texts held after
IsKeptWith texts (Trap t) held after = CoversAll texts held after
IsKeptWith texts (Bound l) held after = CoversAll texts held after
IsKeptWith texts _ held after = Unit {0}
