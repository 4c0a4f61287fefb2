use Rattle.mw_exec.proofs.memory.load.Goals as goal

pub returns-in_default-clause-comes : goal.returns-in_default-clause-comes
returns-in_default-clause-comes c m align ls = c.in_default.ensures.none.lacks _
