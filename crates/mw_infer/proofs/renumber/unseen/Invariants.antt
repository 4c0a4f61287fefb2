use Rattle.std.proofs.Common.{◌≡◌, length}
use Rattle.mw_infer.proofs.Renumbering.{AllNone}
use Rattle.mw_infer.proofs.renumber.unseen.Given as goal

abbrev pub invariant-loop-number : goal.invariant-loop-number
invariant-loop-number l = AllNone l.places.items × (length l.places.items ≡ l._number)
