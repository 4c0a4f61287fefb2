-- What was asked of a cache.
use Rattle.std.specs.Prelude.{List, [], ◌∷◌, ◌++◌}
use Rattle.mw_cache.specs.declared.asked.Trace.{Trace, Nothing, After', Joined'}
use Rattle.mw_cache.specs.declared.got.Got.{Got}

-- the answers, in order
abbrev pub gots_of : Trace → List Got
gots_of Nothing = []
gots_of (After' m before got) = gots_of before ++ got.value ∷ []
gots_of (Joined' m front n back) = gots_of front ++ gots_of back
