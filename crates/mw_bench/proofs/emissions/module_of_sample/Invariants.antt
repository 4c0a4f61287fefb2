use Rattle.mw_bench.proofs.emissions.module_of_sample.Given as goal

abbrev pub ghosts-sample_bytes : goal.ghosts-sample_bytes
ghosts-sample_bytes g a = record { name = a.blank.name; parts = a.blank.parts }
