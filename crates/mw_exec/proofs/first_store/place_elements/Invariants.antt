use Rattle.mw_exec.proofs.FirstStores.{PlacingElements}
use Rattle.mw_exec.proofs.first_store.place_elements.Given as goal

abbrev pub invariant-loop-element : goal.invariant-loop-element
invariant-loop-element l = PlacingElements l.element-index l.elements l.initial.table.items l.table.items
