-- What top-level names have, as the code holds it.
use Rattle.std.specs.Prelude.{◌<◌, ◌-◌, Bool, if◌then◌else◌, List, [], ◌∷◌, map, length}
use Rattle.mw_term.specs.Terms.{kernel_type_of}
use Rattle.mw_lines.specs.TypeLines.{TypeLine}
use Rattle.mw_lines.specs.Tables.{lines_of, type_at, AreHeld}
use Rattle.mw_recheck.specs.Notes.{TopNote, let_root, kernel_root, hidden}
use Rattle.mw_recheck.specs.Judging.{PlacedBinder, plain_at, quoted_at}
use Rattle.mw_recheck.specs.declared.names.Root.{Root}
use Rattle.mw_recheck.specs.declared.names.Root.TheVariants.{Let, Kernel}

-- the view: kernels are in scope or hidden
abbrev pub top_of : Bool → Root → TopNote
top_of kernels (Let l) = let_root (type_at l (length (lines_of l) - 1))
top_of kernels (Kernel k) = if kernels then kernel_root (kernel_type_of k.now) else hidden

abbrev pub tops_of : Bool → List Root → List TopNote
tops_of kernels roots = map (top_of kernels) roots

-- a let has type lines, and one at least
abbrev pub IsHeldRoot : Root → Type 0
IsHeldRoot (Let l) = AreHeld l × (0 < length (lines_of l))
IsHeldRoot (Kernel k) = Unit {0}

abbrev pub AreRoots : List Root → Type 0
AreRoots [] = Unit {0}
AreRoots (r ∷ roots) = IsHeldRoot r × AreRoots roots

-- the binders' places are of lines
abbrev pub AreWithin : List TypeLine → List PlacedBinder → Type 0
AreWithin ls [] = Unit {0}
AreWithin ls (plain_at i ∷ g) = (i < length ls) × AreWithin ls g
AreWithin ls (quoted_at c i ∷ g) = (i < length ls) × AreWithin ls g
