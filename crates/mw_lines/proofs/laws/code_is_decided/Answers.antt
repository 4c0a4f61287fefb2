use Rattle.mw_lines.proofs.NamedTypes.{code_absent, absent_code}
use Rattle.mw_lines.proofs.laws.code_is_decided.Goals as goal

pub returns : goal.returns
returns c t = (code_absent t, absent_code t)
