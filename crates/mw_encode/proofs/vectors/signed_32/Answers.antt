use Rattle.std.proofs.Common.{sym, ◌∙◌, refl, arith}
use Rattle.std.proofs.lemmas.Bool.{lt-ltb, le-ltb}
use Rattle.std.proofs.lemmas.Int.{ints, to_z_pos}
use mir.Syntax.{w32}
use Rattle.mw_encode.proofs.vectors.signed_32.Goals as goal

pub overflow_cast-result : goal.overflow_cast-result
overflow_cast-result c = omega (arith, ints)

pub overflow_sub-result : goal.overflow_sub-result
overflow_sub-result c = omega arith

pub overflow_cast-result-else-bits-lt2147483648 : goal.overflow_cast-result-else-bits-lt2147483648
overflow_cast-result-else-bits-lt2147483648 c = omega (arith, ints)

pub overflow_sub-result-else-bits-lt2147483648 : goal.overflow_sub-result-else-bits-lt2147483648
overflow_sub-result-else-bits-lt2147483648 c = omega (arith, ints)

pub overflow_sub-result-else-bits-lt2147483648-2 : goal.overflow_sub-result-else-bits-lt2147483648-2
overflow_sub-result-else-bits-lt2147483648-2 c = omega (arith, ints)

pub returns-then-bits-lt2147483648 : goal.returns-then-bits-lt2147483648
returns-then-bits-lt2147483648 c = to_z_pos w32 c.args.bits c.if-bits-lt2147483648.true
    ∙ sym (rw (lt-ltb c.args.bits 2147483648 c.if-bits-lt2147483648.true) refl)

pub returns-else-bits-lt2147483648 : goal.returns-else-bits-lt2147483648
returns-else-bits-lt2147483648 c = rw (le-ltb c.args.bits 2147483648 c.if-bits-lt2147483648.false) (omega (arith, ints))
