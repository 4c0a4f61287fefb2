use Rattle.mw_tests.proofs.code.read.Given as goal

abbrev pub ghosts-read_last : goal.ghosts-read_last
ghosts-read_last a = record { name = a.blank.name; parts = a.blank.parts }
