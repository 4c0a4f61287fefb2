-- Laws of module texts.
use Rattle.std.specs.Prelude.{◌≡◌, ◌⊎◌, ℕ, List, Ok, Err}
use Rattle.mw_wasm.specs.Syntax.{PureModule}
use Rattle.mw_wasm.specs.Profile.{IsWithinProfile, IsWithinFileLimit}
use Rattle.mw_wasm.specs.BinaryModules.{Spells}
use Rattle.mw_wat.specs.ModuleTexts.{HasTexts, IsTextOf, IsBadPlace, IsFirstBadPlace}
use Rattle.mw_wat.specs.CanonicalTexts.{canonical_text}
use Rattle.mw_wat.specs.Modules.{module_read}

-- no text is of two modules
abbrev pub HasOneModule : Type 0
HasOneModule = (bytes : List ℕ) (m n : PureModule) → IsTextOf bytes m → IsTextOf bytes n → m ≡ n

-- the canonical text is a text of its module
abbrev pub CanonicalIsText : Type 0
CanonicalIsText = (m : PureModule) → HasTexts m → IsTextOf (canonical_text m) m

-- a text within the limit is read
abbrev pub TextIsRead : Type 0
TextIsRead = (bytes : List ℕ) (m : PureModule) → IsTextOf bytes m → IsWithinFileLimit bytes → module_read bytes ≡ Ok m

-- where reading stops is the first bad place
abbrev pub StopsAtFirstBadPlace : Type 0
StopsAtFirstBadPlace = (bytes : List ℕ) (at : ℕ) → module_read bytes ≡ Err at → IsFirstBadPlace bytes at

-- bytes are a text within the limit, or have a first bad place
abbrev pub HasTextOrBadPlace : Type 0
HasTextOrBadPlace = (bytes : List ℕ)
    → ((m : PureModule) × IsTextOf bytes m × IsWithinFileLimit bytes) ⊎ ((at : ℕ) × IsFirstBadPlace bytes at)

-- and never both
abbrev pub HasNeverBoth : Type 0
HasNeverBoth = (bytes : List ℕ) (m : PureModule) (at : ℕ) → IsTextOf bytes m → IsWithinFileLimit bytes
    → IsBadPlace bytes at → ⊥

-- what is read is what the bytes are a text of, within the limit
abbrev pub ReadIsText : Type 0
ReadIsText = (bytes : List ℕ) (m : PureModule) → module_read bytes ≡ Ok m → IsTextOf bytes m × IsWithinFileLimit bytes

-- a module within the profile that bytes spell has texts
abbrev pub SpelledHasTexts : Type 0
SpelledHasTexts = (bytes : List ℕ) (m : PureModule) → Spells bytes m → IsWithinProfile m → HasTexts m

-- so its canonical text is read again, where it is short enough
abbrev pub WrittenIsRead : Type 0
WrittenIsRead = (bytes : List ℕ) (m : PureModule) → Spells bytes m → IsWithinProfile m
    → IsWithinFileLimit (canonical_text m) → module_read (canonical_text m) ≡ Ok m
