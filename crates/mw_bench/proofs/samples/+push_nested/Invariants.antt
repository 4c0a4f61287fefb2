use Rattle.mw_bench.proofs.samples.+push_nested.Given as goal

abbrev pub decreases-push_nested : goal.decreases-push_nested
decreases-push_nested l = l.levels
