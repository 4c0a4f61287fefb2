use Rattle.mw_gen.proofs.Examples.{self_tail_call_is_a_call, self_tail_call_is_a_branch}
use Rattle.mw_gen.proofs.laws.self_tail_calls.Goals as goal

pub returns-clause-call : goal.returns-clause-call
returns-clause-call c = self_tail_call_is_a_call

pub returns-clause-branch : goal.returns-clause-branch
returns-clause-branch c = self_tail_call_is_a_branch
