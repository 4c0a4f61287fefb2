use Rattle.mw_term.specs.Programs.{program_of}
use Rattle.mw_infer.proofs.Answer.{typable-answer, first-answer}
use Rattle.mw_infer.proofs.Progressing.{resolved-written}
use Rattle.mw_infer.proofs.Refusals.{faultless-typable, faultless-none_too_big, faultless-refused}
use Rattle.mw_infer.proofs.SmallRuns.{faultless-small_types, faultless-small_kernels}
use Rattle.mw_infer.proofs.ensure_typed.Goals as goal
use Rattle.mw_infer.proofs.ensure_typed.Goals.{in-Ok, in-Err}

pub returns : goal.returns
returns c = let p = program_of c.args.program.now in let w = resolved-written p c.requires in
    elim c.match-whole.branch [
      | in-Ok b ↦ let f = b.in-Ok.ensures.faultless in rw b.result-is (record {
        typable = faultless-typable p w f;
        small = faultless-none_too_big p w f;
        runs = faultless-small_types p f;
        kernels = faultless-small_kernels p f;
        only = λ t n. tt;
        refused = tt;
        first = λ r a. faultless-refused p w r f a;
      })
      | in-Err b ↦ let f = b.in-Err.ensures.refused in rw b.result-is (record {
        typable = tt;
        small = tt;
        runs = tt;
        kernels = tt;
        only = λ t n. typable-answer (Unit {0}) p b.in-Err.stop w f t n;
        refused = f;
        first = λ r a. first-answer (Unit {0}) p b.in-Err.stop r w f a;
      })
    ]
