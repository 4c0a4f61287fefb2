use Rattle.std.proofs.Common.{ap, subst}
use Rattle.mw_types.specs.Equations.{equations_of}
use Rattle.mw_types.specs.Judged.{Faults}
use Rattle.mw_types.proofs.Answering.{ready_at}
use Rattle.mw_types.proofs.Faults.{first_fault_of}
use Rattle.mw_types.proofs.solving.settled.Goals as goal

pub returns-then-is_fine-clause-ready : goal.returns-then-is_fine-clause-ready
returns-then-is_fine-clause-ready c =
    ready_at c.in_ok-state.ensures.node_count c.in_ok-state.ensures.classifier_count
    (ap equations_of c.as_slice-pairs.ensures)
    (c.in_ok-whole.ensures.ready (c.is_fine.ensures.0 c.if-is_fine.true))

pub returns-in_ok-first_fault-clause-fault : goal.returns-in_ok-first_fault-clause-fault
returns-in_ok-first_fault-clause-fault c = first_fault_of c.args.equations.now.unknowns c.args.equations.now.classifiers
    (equations_of c.args.equations.now.pairs) c.in_ok-first_fault.field-0 c.requires.within
    (subst (λ ps. Faults c.args.equations.now.unknowns (equations_of ps) c.in_ok-first_fault.field-0)
    c.as_slice-pairs.ensures c.in_ok-first_fault.ensures)
