use Rattle.std.proofs.Common.{◌≡◌, drop, []}
use Rattle.mw_recheck.specs.Following.{definitions_of, main_notes_at, AreSmall}
use Rattle.mw_recheck.specs.Roots.{AreRoots}
use Rattle.mw_recheck.proofs.Items.{notes_after}
use Rattle.mw_recheck.proofs.program.roots_of.Given as goal

abbrev pub invariant-loop-item : goal.invariant-loop-item
invariant-loop-item l = record {
  same : notes_after l.roots.items (definitions_of (drop l.item-index l.items)) l.rest ≡ main_notes_at []
      (definitions_of l.items) l.fn.bytes;
  held : AreRoots l.roots.items;
  small : AreSmall (definitions_of (drop l.item-index l.items));
}
