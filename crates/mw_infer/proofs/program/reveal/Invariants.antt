use Rattle.std.proofs.Common.{◌≡◌, length, map}
use Rattle.mw_term.specs.Programs.{definition_of}
use Rattle.mw_infer.specs.Progress.{revealed_to}
use Rattle.mw_infer.specs.Views.{tops_of}
use Rattle.mw_infer.proofs.program.reveal.Given as goal

abbrev pub invariant-loop-at : goal.invariant-loop-at
invariant-loop-at l = record {
  names : length l.names.items ≡ length l.items;
  revealed : tops_of l.names.items ≡ revealed_to l.at (map (λ item. definition_of item.kind) l.items)
      (tops_of l.initial.names.items);
}
