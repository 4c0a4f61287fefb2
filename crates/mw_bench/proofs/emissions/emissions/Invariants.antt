use Rattle.mw_bench.proofs.emissions.emissions.Given as goal

abbrev pub ghosts-large_bytes : goal.ghosts-large_bytes
ghosts-large_bytes g a = record { name = a.blank.name; parts = a.blank.parts }
