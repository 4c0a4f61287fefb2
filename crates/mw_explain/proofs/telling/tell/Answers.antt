use Rattle.mw_explain.proofs.telling.tell.Goals as goal

pub returns-in-None-clause-some : goal.returns-in-None-clause-some
returns-in-None-clause-some c = λ r h. rw c.in-None.is at c.in_ok-first_fault.ensures.first r h
