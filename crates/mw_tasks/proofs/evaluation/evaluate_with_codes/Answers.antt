use Rattle.std.proofs.Common.{refl}
use Rattle.mw_term.specs.Programs.{program_of}
use Rattle.mw_meaning.specs.Outcomes.{names_of_main}
use Rattle.mw_machine.specs.CodesInPlace.{expressions_of, built_program}
use Rattle.mw_machine.specs.Evaluations.{main}
use Rattle.mw_tasks.proofs.MachineEvaluation.{built_has_names, ready, no_fault, typed, ends_as, costs, fails_as}
use Rattle.mw_tasks.proofs.MachineEvaluation.{fault_is}
use Rattle.mw_tasks.proofs.MachineEvaluation.{main_outcome_typed}
use Rattle.mw_tasks.proofs.evaluation.evaluate_with_codes.Goals as goal

pub drive-requires : goal.drive-requires
drive-requires g c = record {
  ready =
      let p = program_of c.args.program.now in
      let codes = expressions_of c.args.codes.now in
      ready (built_program p codes) main c.args.fuel c.in_ok-machine.machine c.in_ok-machine.ensures.begins
      (names_of_main p.items codes, built_has_names p codes c.requires.codes) p refl
      (g.K.Kernels.kept c.args.kernels.now)
      (g.K.Kernels.stopped c.args.kernels.now) c.requires.«open»;
}

pub returns-in_err-outcome-clause-means : goal.returns-in_err-outcome-clause-means
returns-in_err-outcome-clause-means g c = λ sound.
    let p = program_of c.args.program.now in
    let codes = expressions_of c.args.codes.now in
    let names = names_of_main p.items codes in
    let has = built_has_names p codes c.requires.codes in
    fails_as (built_program p codes) main c.args.fuel c.in_ok-machine.machine c.in_ok-machine.ensures.begins
    (names, has) p refl
    (g.K.Kernels.mode c.args.kernels.now) (g.K.Kernels.kept c.args.kernels.now) (g.K.Kernels.sound c.args.kernels.now)
    (g.K.Kernels.price c.args.kernels.now)
    (g.K.Kernels.cost c.args.kernels.now)
    (g.K.Kernels.cost c.drive.new.kernels) c.drive.result c.drive.new.self c.drive.ensures.means names has sound
    c.from_residual-in_err-outcome.result c.in_err-outcome.field-0.0 c.from_residual-in_err-outcome.ensures.1
    c.in_err-outcome.was

pub returns-in_err-outcome-clause-bad : goal.returns-in_err-outcome-clause-bad
returns-in_err-outcome-clause-bad g c =
    let p = program_of c.args.program.now in
    let codes = expressions_of c.args.codes.now in
    fault_is _ c.from_residual-in_err-outcome.result c.drive.result c.in_err-outcome.field-0.0
    c.from_residual-in_err-outcome.ensures.1
    c.in_err-outcome.was c.drive.ensures.bad
    (no_fault (built_program p codes) main c.args.fuel c.in_ok-machine.machine c.in_ok-machine.ensures.begins
    (names_of_main p.items codes, built_has_names p codes c.requires.codes) p refl
    (g.K.Kernels.kept c.args.kernels.now))

pub returns-clause-means : goal.returns-clause-means
returns-clause-means g c = λ sound.
    let p = program_of c.args.program.now in
    let codes = expressions_of c.args.codes.now in
    let names = names_of_main p.items codes in
    let has = built_has_names p codes c.requires.codes in
    ends_as (built_program p codes) main c.args.fuel c.in_ok-machine.machine c.in_ok-machine.ensures.begins
    (names, has) p refl
    (g.K.Kernels.mode c.args.kernels.now) (g.K.Kernels.kept c.args.kernels.now) (g.K.Kernels.sound c.args.kernels.now)
    (g.K.Kernels.price c.args.kernels.now)
    (g.K.Kernels.cost c.args.kernels.now)
    (g.K.Kernels.cost c.drive.new.kernels) c.drive.result c.drive.new.self c.drive.ensures.means names has sound
    c.in_ok-outcome.outcome c.in_ok-outcome.was

pub returns-clause-cost : goal.returns-clause-cost
returns-clause-cost g c = λ sound.
    let p = program_of c.args.program.now in
    let codes = expressions_of c.args.codes.now in
    let names = names_of_main p.items codes in
    let has = built_has_names p codes c.requires.codes in
    costs (built_program p codes) main c.args.fuel c.in_ok-machine.machine c.in_ok-machine.ensures.begins
    (names, has) p refl
    (g.K.Kernels.mode c.args.kernels.now) (g.K.Kernels.kept c.args.kernels.now) (g.K.Kernels.sound c.args.kernels.now)
    (g.K.Kernels.price c.args.kernels.now)
    (g.K.Kernels.cost c.args.kernels.now)
    (g.K.Kernels.cost c.drive.new.kernels) c.drive.result c.drive.new.self c.drive.ensures.means names has sound
    c.in_ok-outcome.outcome c.in_ok-outcome.was

pub returns-clause-typed : goal.returns-clause-typed
returns-clause-typed g c =
    let p = program_of c.args.program.now in
    let codes = expressions_of c.args.codes.now in
    main_outcome_typed (built_program p codes) p c.in_ok-outcome.outcome c.drive.new.self refl
    (typed (built_program p codes) main c.args.fuel c.in_ok-machine.machine c.in_ok-machine.ensures.begins
    (names_of_main p.items codes, built_has_names p codes c.requires.codes) p refl
    (g.K.Kernels.kept c.args.kernels.now) c.drive.result
    c.in_ok-outcome.outcome c.drive.new.self c.in_ok-outcome.was c.drive.ensures.keeps)
