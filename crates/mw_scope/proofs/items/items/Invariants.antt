use Rattle.std.proofs.Common.{map, take, drop}
use Rattle.mw_grammar.specs.SurfaceTrees.{item_of}
use Rattle.mw_scope.proofs.Progress.{Progress}
use Rattle.mw_scope.proofs.items.items.Given as goal

abbrev pub invariant-loop-one : goal.invariant-loop-one
invariant-loop-one l = Progress (map item_of l.list) (map item_of (take l.one-index l.list))
    (map item_of (drop l.one-index l.list)) l.done l.names l.fn.first l.first
