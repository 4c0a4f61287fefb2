use Rattle.mw_recheck.proofs.TextPrefixes.{stripped}
use Rattle.mw_recheck.proofs.text.behind.Goals as goal

pub returns : goal.returns
returns c = stripped c.args.text.now c.args.bytes.now c.strip_prefix.result c.strip_prefix.ensures.cases
