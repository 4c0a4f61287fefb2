use Rattle.std.proofs.Common.{◌≡◌, replicate}
use Rattle.mw_wasm.specs.declared.values.ValType.TheVariants.{I64}
use Rattle.mw_gen.proofs.functions.words.Given as goal

abbrev pub invariant-loop : goal.invariant-loop
invariant-loop l = l.types ≡ replicate l.counter I64
