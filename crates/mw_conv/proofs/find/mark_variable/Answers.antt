use Rattle.std.proofs.Common.{◌+◌, sym, arith}
use Rattle.std.proofs.lemmas.Bool.{ne_eqb}
use Rattle.mw_conv.proofs.Marks.{set_joined, joined_none}
use Rattle.mw_conv.proofs.find.mark_variable.Goals as goal

pub returns-then-index-len-clause-marks : goal.returns-then-index-len-clause-marks
returns-then-index-len-clause-marks c = set_joined c.args.marks.now.items c.len-then-index-len.result c.args.under
    c.args.variable (omega arith) (omega arith) (omega arith)

pub returns-else-index-len-clause-marks : goal.returns-else-index-len-clause-marks
returns-else-index-len-clause-marks c =
    sym (joined_none c.args.marks.now.items _ (λ i lt. ne_eqb c.args.variable (c.args.under + i) (λ e. omega arith)))

pub returns-else-variable-under-clause-marks : goal.returns-else-variable-under-clause-marks
returns-else-variable-under-clause-marks c =
    sym (joined_none c.args.marks.now.items _ (λ i lt. ne_eqb c.args.variable (c.args.under + i) (λ e. omega arith)))
