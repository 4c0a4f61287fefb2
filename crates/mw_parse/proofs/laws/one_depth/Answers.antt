use Rattle.mw_grammar.proofs.Exactly.{one_depth}
use Rattle.mw_parse.proofs.laws.one_depth.Goals as goal

pub returns : goal.returns
returns c = one_depth
