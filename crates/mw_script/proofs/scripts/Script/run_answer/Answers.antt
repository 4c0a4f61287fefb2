use Rattle.std.proofs.Common.{ap}
use Rattle.mw_term.specs.Terms.{ground_of, kernel_type_of}
use Rattle.mw_script.proofs.scripts.Script.run_answer.Goals as goal

pub keep-requires : goal.keep-requires
keep-requires c = (
  ground_of c.in-Some-Function-Fun.field-0-1,
  ground_of c.in-Some-Function-Fun.field-1-1,
  ap kernel_type_of c.in-Some-Function-Fun.is-1,
)
