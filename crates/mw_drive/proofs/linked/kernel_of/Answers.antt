use Rattle.std.proofs.Common.{ap}
use Rattle.mw_term.specs.Terms.{expression_of}
use Rattle.mw_term.specs.Programs.{definition_of}
use Rattle.mw_drive.proofs.KernelsToLink.{item_with}
use Rattle.mw_drive.proofs.linked.kernel_of.Goals as goal

pub returns-in-Kernel : goal.returns-in-Kernel
returns-in-Kernel c = (expression_of c.in-Kernel.term, ap (item_with c.args.item.name) c.in-Kernel.is)

pub returns-in-Value : goal.returns-in-Value
returns-in-Value c = (expression_of c.in-Value.term, ap definition_of c.in-Value.is)
