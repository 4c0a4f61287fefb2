use Rattle.std.proofs.Common.{sym, ◌∙◌, refl, arith}
use Rattle.std.proofs.lemmas.Bool.{lt-ltb, le-ltb}
use Rattle.std.proofs.lemmas.Int.{ints, to_z_pos}
use mir.Syntax.{w64}
use Rattle.mw_encode.proofs.vectors.signed_64.Goals as goal

pub overflow_cast-result : goal.overflow_cast-result
overflow_cast-result c = omega (arith, ints)

pub overflow_sub-result : goal.overflow_sub-result
overflow_sub-result c = omega arith

pub overflow_cast-result-else-bits-lt9223372036854775808 : goal.overflow_cast-result-else-bits-lt9223372036854775808
overflow_cast-result-else-bits-lt9223372036854775808 c = omega (arith, ints)

pub overflow_sub-result-else-bits-lt9223372036854775808 : goal.overflow_sub-result-else-bits-lt9223372036854775808
overflow_sub-result-else-bits-lt9223372036854775808 c = omega (arith, ints)

pub overflow_sub-result-else-bits-lt9223372036854775808-2 : goal.overflow_sub-result-else-bits-lt9223372036854775808-2
overflow_sub-result-else-bits-lt9223372036854775808-2 c = omega (arith, ints)

pub returns-then-bits-lt9223372036854775808 : goal.returns-then-bits-lt9223372036854775808
returns-then-bits-lt9223372036854775808 c = to_z_pos w64 c.args.bits c.if-bits-lt9223372036854775808.true
    ∙ sym (rw (lt-ltb c.args.bits 9223372036854775808 c.if-bits-lt9223372036854775808.true) refl)

pub returns-else-bits-lt9223372036854775808 : goal.returns-else-bits-lt9223372036854775808
returns-else-bits-lt9223372036854775808 c =
    rw (le-ltb c.args.bits 9223372036854775808 c.if-bits-lt9223372036854775808.false) (omega (arith, ints))
