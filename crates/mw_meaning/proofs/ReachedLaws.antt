-- What reduction says of evaluation, of kernels and of simplification.
use Rattle.mw_meaning.proofs.Confluence.{confluence, ground_values_are_unique}
use Rattle.mw_meaning.proofs.ReachedAnswers.{evaluation_reaches, building_reaches}
use Rattle.mw_meaning.proofs.KernelSimulation.{kernel_reaches, call_reaches, runs_reach}
use Rattle.mw_meaning.proofs.SimplificationReaches.{simplified_reaches}

-- reduction joins, and reaches what evaluation gives
pub ruleset reached_laws = (
  confluence,
  ground_values_are_unique,
  evaluation_reaches,
  building_reaches,
  kernel_reaches,
  call_reaches,
  runs_reach,
  simplified_reaches,
)
