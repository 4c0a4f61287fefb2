use Rattle.mw_tasks.proofs.job.evaluated_alone.Given as goal

abbrev pub ghosts-evaluated : goal.ghosts-evaluated
ghosts-evaluated g a = record { name = a.blank.name; parts = a.blank.parts }
