use Rattle.mw_wasm.proofs.FormatCuts.{unused_bits_are_the_sign}
use Rattle.mw_wasm.proofs.laws.format.unused_bits_are_the_sign.Goals as goal

pub returns : goal.returns
returns c = unused_bits_are_the_sign
