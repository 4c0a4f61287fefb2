use Rattle.std.proofs.Common.{subst}
use Rattle.mw_term.specs.Programs.{program_of}
use Rattle.mw_script.specs.Starts.{HasItsCode}
use Rattle.mw_script.proofs.StartedMachines.{code_of_drive}
use Rattle.mw_script.proofs.staged.driven.Goals as goal

pub returns-in-Ok : goal.returns-in-Ok
returns-in-Ok g c =
    subst (λ r. HasItsCode c.drive.new.self r) c.in-Ok.is
    (code_of_drive (program_of c.args.program.now) (g.K.Kernels.kept c.args.kernels.now)
    (g.K.Kernels.stopped c.args.kernels.now) c.args.machine.now
    c.drive.new.self c.drive.result c.requires (λ f q. (c.drive.ensures.again f q).0) c.drive.ensures.keeps)

pub returns-in-Err : goal.returns-in-Err
returns-in-Err g c =
    code_of_drive (program_of c.args.program.now) (g.K.Kernels.kept c.drive.new.kernels)
    (g.K.Kernels.stopped c.drive.new.kernels) c.drive.new.self
    c.drive-in-Err.new.self c.drive-in-Err.result (λ none. c.in-Err.ensures.on none none)
    (λ f q. (c.drive-in-Err.ensures.again f q).0)
    c.drive-in-Err.ensures.keeps
