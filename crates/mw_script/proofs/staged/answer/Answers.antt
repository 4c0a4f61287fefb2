use Rattle.mw_term.specs.Programs.{program_of}
use Rattle.mw_script.specs.Scripts.{functions_of}
use Rattle.mw_script.proofs.StartedMachines.{started_ready}
use Rattle.mw_script.proofs.staged.answer.Goals as goal

pub driven-ending-requires : goal.driven-ending-requires
driven-ending-requires c =
    started_ready (program_of c.in-Ok.program) c.in_ok-machine.field-0 c.in-Some.machine
    (functions_of c.in_ok-kernels.kernels)
    c.in_ok-kernels.kernels.stopped c.in-Some.is c.in_ok-machine.ensures c.in_ok-kernels.ensures.«open»
