use Rattle.std.proofs.Common.{sym, ◌∙◌}
use Rattle.mw_term.specs.Terms.{kernel_type_of}
use Rattle.mw_lines.specs.Tables.{lines_of}
use Rattle.mw_recheck.proofs.LineTypes.{kernel-at}
use Rattle.mw_recheck.proofs.agree.agrees.Goals as goal

pub returns-then-is_kernel : goal.returns-then-is_kernel
returns-then-is_kernel c =
    let own = sym (kernel-at (lines_of c.args.setting.now.types.now) c.requires.held.lines c.args.line.own
    (kernel_type_of c.in-Run.kind) c.requires.own) ∙ sym c.is_kernel.ensures ∙ c.if-is_kernel.true in
    rw (c.in-Run.is, own) c.is_line.ensures

pub returns-else-is_kernel : goal.returns-else-is_kernel
returns-else-is_kernel c =
    let own = sym (kernel-at (lines_of c.args.setting.now.types.now) c.requires.held.lines c.args.line.own
    (kernel_type_of c.in-Run.kind) c.requires.own) ∙ sym c.is_kernel.ensures ∙ c.if-is_kernel.false in
    rw (c.in-Run.is, own) c.if-is_kernel.false
