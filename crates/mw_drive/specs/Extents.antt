-- How much was written when a command ended, as its status says.
use Rattle.mw_console.specs.declared.status.Status.{Status}
use Rattle.mw_console.specs.declared.status.Status.TheVariants.{Answer, Trap, Usage, Refused, Bound, Read, Write}
use Rattle.mw_console.specs.declared.status.Status.TheVariants.{Cache, Memory, BadCache, BadModule, Invalid, NotTyped}

-- nothing; a front of the output; all of it, with the status that is its own; all of it, where the cache file wasn't
-- kept; all of it or nothing, as the cache file wasn't kept or wasn't read; or it isn't said, as a record of the cache
-- file was bad; or a command of the kind never ends so
pub data Extent : Type 0 where
  nothing a_front whole unkept all_or_nothing unsaid never : Extent

-- A command's work is on a file, for a source with a cache file or without one; on a source that is made from a number;
-- or on a cache file alone.
pub data Kind : Type 0 where
  on_a_file over_a_cache on_a_number on_a_cache : Kind

-- What each status says of a command of the kind.
abbrev pub extent : Kind → Status → Extent
extent kind Answer = whole
extent kind (Trap t) = whole
extent kind (Refused r) = whole
extent kind (Bound l) = whole
extent kind BadModule = whole
extent kind Invalid = whole
extent kind NotTyped = whole
extent on_a_file Read = nothing
extent over_a_cache Read = nothing
extent on_a_number Read = never
extent on_a_cache Read = never
extent kind Write = a_front
extent kind (Memory error) = a_front
extent kind Usage = never
extent on_a_file Cache = never
extent over_a_cache Cache = unkept
extent on_a_number Cache = never
extent on_a_cache Cache = all_or_nothing
extent on_a_file (BadCache digest) = never
extent over_a_cache (BadCache digest) = unsaid
extent on_a_number (BadCache digest) = never
extent on_a_cache (BadCache digest) = never
