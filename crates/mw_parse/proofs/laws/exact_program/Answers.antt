use Rattle.mw_grammar.proofs.Exactly.{answer}
use Rattle.mw_parse.proofs.laws.exact_program.Goals as goal

pub returns : goal.returns
returns c = answer
