use Rattle.std.proofs.Common.{◌≡◌, ◌++◌, take, IsTrue}
use Rattle.std.specs.List.{AllByRecursion, flat_map}
use Rattle.mw_meaning.specs.declared.mode.Mode.{Mode}
use Rattle.mw_cache.specs.HonestFiles.{IsHonest}
use Rattle.mw_drive.specs.PrintedKernels.{printed_text, printed_in}
use Rattle.mw_drive.specs.Works.{kernel_lines}
use Rattle.mw_drive.specs.ProgramRuns.{kernels_of, IsBuilt}
use Rattle.mw_drive.proofs.shown.write_all.Given as goal

abbrev pub invariant-loop-at : goal.invariant-loop-at
invariant-loop-at g l = record {
  written : IsHonest l.cache.load → (mode : Mode) → AllByRecursion (IsBuilt mode l.cache) l.kernels
      → IsTrue g.K.Sink.tells
      → g.K.Sink.written l.sink ≡ g.K.Sink.written l.fn.sink ++ flat_map (kernel_lines mode)
      (kernels_of (take l.at l.kernels));
  printed : IsTrue g.K.Sink.tells
      → g.K.Sink.written l.sink ≡ g.K.Sink.written l.fn.sink ++ printed_text
      (printed_in l.cache (take l.at l.kernels));
  count : g.K.Sink.faults l.sink ≡ g.K.Sink.faults l.fn.sink;
}
