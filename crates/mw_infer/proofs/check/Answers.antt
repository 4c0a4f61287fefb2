use Rattle.mw_term.specs.Programs.{program_of}
use Rattle.mw_infer.specs.Typings.{Typing}
use Rattle.mw_infer.specs.Views.{tops_of}
use Rattle.mw_infer.proofs.Answer.{typable-answer, first-answer}
use Rattle.mw_infer.proofs.Progressing.{resolved-written}
use Rattle.mw_infer.proofs.Refusals.{faultless-typable, faultless-none_too_big, faultless-refused}
use Rattle.mw_infer.proofs.SmallRuns.{faultless-small_types, faultless-small_kernels}
use Rattle.mw_infer.proofs.Stepping.{types-of}
use Rattle.mw_infer.proofs.check.Goals as goal

pub returns-in_ok-types-in-Ok-clause-typable : goal.returns-in_ok-types-in-Ok-clause-typable
returns-in_ok-types-in-Ok-clause-typable c = let p = program_of c.args.program.now in
    faultless-typable p (resolved-written p c.requires) c.in-Ok.ensures.faultless

pub returns-in_ok-types-in-Ok-clause-small : goal.returns-in_ok-types-in-Ok-clause-small
returns-in_ok-types-in-Ok-clause-small c = let p = program_of c.args.program.now in
    faultless-none_too_big p (resolved-written p c.requires) c.in-Ok.ensures.faultless

pub returns-in_ok-types-in-Ok-clause-runs : goal.returns-in_ok-types-in-Ok-clause-runs
returns-in_ok-types-in-Ok-clause-runs c = faultless-small_types (program_of c.args.program.now)
    c.in-Ok.ensures.faultless

pub returns-in_ok-types-in-Ok-clause-kernels : goal.returns-in_ok-types-in-Ok-clause-kernels
returns-in_ok-types-in-Ok-clause-kernels c = faultless-small_kernels (program_of c.args.program.now)
    c.in-Ok.ensures.faultless

pub returns-in_ok-types-in-Ok-clause-types : goal.returns-in_ok-types-in-Ok-clause-types
returns-in_ok-types-in-Ok-clause-types c = rw (c.in_ok-types-in-Ok.ensures, c.as_slice.ensures.value)
    (types-of (program_of c.args.program.now) (tops_of c.in-Ok.found.names.items) c.in-Ok.ensures.faultless
    c.in-Ok.ensures.principal)

pub returns-in_ok-types-in-Ok-clause-first : goal.returns-in_ok-types-in-Ok-clause-first
returns-in_ok-types-in-Ok-clause-first c = let p = program_of c.args.program.now in
    λ r a. faultless-refused p (resolved-written p c.requires) r c.in-Ok.ensures.faultless a

pub returns-in-Err-clause-only : goal.returns-in-Err-clause-only
returns-in-Err-clause-only c = let p = program_of c.args.program.now in λ t n. typable-answer Typing p c.in-Err.stop
    (resolved-written p c.requires) c.in-Err.ensures.refused t n

pub returns-in-Err-clause-first : goal.returns-in-Err-clause-first
returns-in-Err-clause-first c = let p = program_of c.args.program.now in λ r a. first-answer Typing p c.in-Err.stop r
    (resolved-written p c.requires) c.in-Err.ensures.refused a
