use Rattle.mw_wasm.proofs.FormatNumbers.{unsigned_fits, integer_fits}
use Rattle.mw_wasm.proofs.laws.format.numbers_fit.Goals as goal

pub returns : goal.returns
returns c = record { unsigned = unsigned_fits; integers = integer_fits }
