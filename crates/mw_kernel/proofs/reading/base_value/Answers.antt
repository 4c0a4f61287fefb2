use Rattle.std.proofs.Common.{sym}
use Rattle.std.proofs.Math.Facts.{of_z-to_z, sfits_to_z}
use Rattle.mw_kernel.proofs.reading.base_value.Goals as goal

pub returns-in-Int-default : goal.returns-in-Int-default
returns-in-Int-default c = λ memory.
    rw (c.in-Int-default.is-0, c.cast_signed.ensures, of_z-to_z c.ranges.word)
    (record { has_type = tt; fits = sfits_to_z c.ranges.word; is_word = sym (of_z-to_z c.ranges.word) })
