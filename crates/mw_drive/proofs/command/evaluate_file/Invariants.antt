use Rattle.mw_drive.proofs.command.evaluate_file.Given as goal

abbrev pub ghosts-write_source : goal.ghosts-write_source
ghosts-write_source g a = record { name = a.blank.name; parts = a.blank.parts }
