use Rattle.std.proofs.Common.{◌≤◌, ◌<◌, ℕ}
use Rattle.std.specs.Prelude.{slice_index_or}
use Rattle.mw_types.proofs.judging.judge_longer.Given as goal

abbrev pub invariant-loop-index : goal.invariant-loop-index
invariant-loop-index l = (u : ℕ) → u < l.index → slice_index_or l.all.items u 0 ≤ 10000
