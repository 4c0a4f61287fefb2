use Rattle.mw_rows.proofs.kernels.module_bytes.Given as goal

abbrev pub ghosts-module_line : goal.ghosts-module_line
ghosts-module_line g a = record { name = a.blank.name; parts = a.blank.parts }
