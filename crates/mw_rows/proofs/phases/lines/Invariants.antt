use Rattle.mw_rows.proofs.phases.lines.Given as goal

abbrev pub ghosts-phases : goal.ghosts-phases
ghosts-phases g a = record { name = a.blank.name; parts = a.blank.parts }
