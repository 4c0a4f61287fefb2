use Rattle.mw_exec.proofs.ExportedFunctions.{Seeking}
use Rattle.mw_exec.proofs.exports.index_of.Given as goal

abbrev pub invariant-loop-export : goal.invariant-loop-export
invariant-loop-export l = Seeking l.name l.export-index l.exports
