use Rattle.std.proofs.Common.{refl, subst}
use Rattle.std.specs.List.{AllByRecursion}
use Rattle.mw_term.specs.Programs.{definition_of, program_of}
use Rattle.mw_machine.specs.Evaluations.{main, main_part}
use Rattle.mw_script.specs.Starts.{IsBuilt}
use Rattle.mw_script.proofs.CheckedPrograms.{all_built}
use Rattle.mw_script.proofs.StartedMachines.{main_started}
use Rattle.mw_script.proofs.staged.start.Goals as goal

pub start-requires-clause-body : goal.start-requires-clause-body
start-requires-clause-body c =
    let built = all_built c.args.program.now.items
    (subst (λ items. AllByRecursion (λ i. IsBuilt (definition_of i.kind)) items) c.as_slice.ensures
    (c.if-are_built.ensures refl)) in
    (main, main_part built.0 built.1)

pub returns-in_ok-start-in-None : goal.returns-in_ok-start-in-None
returns-in_ok-start-in-None c =
    main_started (program_of c.args.program.now) c.in_ok-start-in-None.field-0 c.args.fuel
    (all_built c.args.program.now.items
    (subst (λ items. AllByRecursion (λ i. IsBuilt (definition_of i.kind)) items) c.as_slice.ensures
    (c.if-are_built.ensures refl)))
    c.in_ok-start-in-None.ensures.begins
