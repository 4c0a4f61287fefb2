-- What the walk that finds functions does to the finder that it goes with.
use Rattle.std.specs.Prelude.{◌≡◌, ℕ, ◌+◌, ◌++◌, length}
use Rattle.mw_term.specs.Terms.{Expression}
use Rattle.mw_term.specs.Limits.{LiteralsFit}
use Rattle.mw_meaning.specs.KernelMeaning.{occurs}
use Rattle.mw_conv.specs.declared.find.Finder.{Finder}
use Rattle.mw_conv.specs.Convert.{lets}
use Rattle.mw_conv.specs.Finding.{joined, all_found}

-- The term stands under the binders that have marks, and then under some more. Its variables are marked, its functions
-- are added at the end, and so many slots are what its lets need.
pub record Finds (before after : Finder) (e : Expression) (under slots : ℕ) : Type 0 where
  pub count : length after.marks.items ≡ length before.marks.items
  pub marks : after.marks.items ≡ joined before.marks.items (λ i. occurs e (under + i))
  pub found : after.found.items ≡ before.found.items ++ all_found e (length before.marks.items + under)
  pub needed : slots ≡ lets e
  pub literals : LiteralsFit e
