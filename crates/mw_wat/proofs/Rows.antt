-- Worked texts, by computation.
use Rattle.std.proofs.Common.{refl}
use Rattle.std.specs.Fmt.{digits}
use Rattle.mw_wat.specs.Lexing.{tokens}
use Rattle.mw_wat.specs.Instructions.{meaning, instructions}
use Rattle.mw_wat.specs.Modules.{whole_module}
use Rattle.mw_wat.specs.WorkedTexts.{ExamplesHaveTexts, ExamplesAreRead, RefusedAtPlaces}

pub texts : ExamplesHaveTexts
unfolding digits
texts = (refl, refl)

pub read : ExamplesAreRead
unfolding digits tokens meaning instructions whole_module
read = (refl, refl)

pub places : RefusedAtPlaces
unfolding digits tokens meaning instructions whole_module
places = refl
