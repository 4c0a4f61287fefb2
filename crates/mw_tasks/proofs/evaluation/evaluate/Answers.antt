use Rattle.std.proofs.Common.{refl}
use Rattle.mw_term.specs.Terms.{expression_of}
use Rattle.mw_term.specs.Programs.{program_of}
use Rattle.mw_machine.specs.Evaluations.{item}
use Rattle.mw_tasks.proofs.MachineEvaluation.{named, ready, no_fault, typed, ends_as, costs, fails_as, fault_is}
use Rattle.mw_tasks.proofs.evaluation.evaluate.Goals as goal

pub drive-requires : goal.drive-requires
drive-requires g c = record {
  ready =
      let p = program_of c.args.program.now in
      ready p (item c.requires.body.0) c.args.fuel c.in_ok-machine.machine
      (c.in_ok-machine.ensures.begins c.requires.body.0 c.requires.body.1)
      (named p c.requires.body.0 (expression_of c.args.body.now) c.requires.body.1) p refl
      (g.K.Kernels.kept c.args.kernels.now)
      (g.K.Kernels.stopped c.args.kernels.now) c.requires.«open»;
}

pub returns-in_err-outcome-clause-means : goal.returns-in_err-outcome-clause-means
returns-in_err-outcome-clause-means g c = λ i names is has sound.
    let p = program_of c.args.program.now in
    fails_as p (item i) c.args.fuel c.in_ok-machine.machine (c.in_ok-machine.ensures.begins i is) (names, has) p refl
    (g.K.Kernels.mode c.args.kernels.now) (g.K.Kernels.kept c.args.kernels.now) (g.K.Kernels.sound c.args.kernels.now)
    (g.K.Kernels.price c.args.kernels.now)
    (g.K.Kernels.cost c.args.kernels.now)
    (g.K.Kernels.cost c.drive.new.kernels) c.drive.result c.drive.new.self c.drive.ensures.means names has sound
    c.from_residual-in_err-outcome.result c.in_err-outcome.field-0.0 c.from_residual-in_err-outcome.ensures.1
    c.in_err-outcome.was

pub returns-in_err-outcome-clause-bad : goal.returns-in_err-outcome-clause-bad
returns-in_err-outcome-clause-bad g c =
    let p = program_of c.args.program.now in
    fault_is _ c.from_residual-in_err-outcome.result c.drive.result c.in_err-outcome.field-0.0
    c.from_residual-in_err-outcome.ensures.1
    c.in_err-outcome.was c.drive.ensures.bad
    (no_fault p (item c.requires.body.0) c.args.fuel c.in_ok-machine.machine
    (c.in_ok-machine.ensures.begins c.requires.body.0 c.requires.body.1)
    (named p c.requires.body.0 (expression_of c.args.body.now) c.requires.body.1) p refl
    (g.K.Kernels.kept c.args.kernels.now))

pub returns-clause-means : goal.returns-clause-means
returns-clause-means g c = λ i names is has sound.
    let p = program_of c.args.program.now in
    ends_as p (item i) c.args.fuel c.in_ok-machine.machine (c.in_ok-machine.ensures.begins i is) (names, has) p refl
    (g.K.Kernels.mode c.args.kernels.now) (g.K.Kernels.kept c.args.kernels.now) (g.K.Kernels.sound c.args.kernels.now)
    (g.K.Kernels.price c.args.kernels.now)
    (g.K.Kernels.cost c.args.kernels.now)
    (g.K.Kernels.cost c.drive.new.kernels) c.drive.result c.drive.new.self c.drive.ensures.means names has sound
    c.in_ok-outcome.outcome c.in_ok-outcome.was

pub returns-clause-cost : goal.returns-clause-cost
returns-clause-cost g c = λ i names is has sound.
    let p = program_of c.args.program.now in
    costs p (item i) c.args.fuel c.in_ok-machine.machine (c.in_ok-machine.ensures.begins i is) (names, has) p refl
    (g.K.Kernels.mode c.args.kernels.now) (g.K.Kernels.kept c.args.kernels.now) (g.K.Kernels.sound c.args.kernels.now)
    (g.K.Kernels.price c.args.kernels.now)
    (g.K.Kernels.cost c.args.kernels.now)
    (g.K.Kernels.cost c.drive.new.kernels) c.drive.result c.drive.new.self c.drive.ensures.means names has sound
    c.in_ok-outcome.outcome c.in_ok-outcome.was

pub returns-clause-typed : goal.returns-clause-typed
returns-clause-typed g c = λ i is.
    let p = program_of c.args.program.now in
    typed p (item i) c.args.fuel c.in_ok-machine.machine (c.in_ok-machine.ensures.begins i is)
    (named p i (expression_of c.args.body.now) is) p refl
    (g.K.Kernels.kept c.args.kernels.now) c.drive.result c.in_ok-outcome.outcome c.drive.new.self
    c.in_ok-outcome.was
    c.drive.ensures.keeps
