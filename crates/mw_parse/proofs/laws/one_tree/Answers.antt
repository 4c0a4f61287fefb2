use Rattle.mw_grammar.proofs.Exactly.{one_tree}
use Rattle.mw_parse.proofs.laws.one_tree.Goals as goal

pub returns : goal.returns
returns c = one_tree
