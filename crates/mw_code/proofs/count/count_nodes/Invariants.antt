use Rattle.std.proofs.Common.{◌≡◌, ◌+◌}
use Rattle.mw_code.specs.ReadViews.{sizes, size_at, AreHere}
use Rattle.mw_code.proofs.count.count_nodes.Given as goal

abbrev pub invariant-loop-next : goal.invariant-loop-next
invariant-loop-next g l =
    (l.fn.budget + sizes l.pool.items l.left.items ≡ size_at l.pool.items l.fn.id.place + l.budget)
    × AreHere l.pool.items l.left.items
    × (l.steps + l.budget ≡ l.fn.steps + l.fn.budget)

abbrev pub decreases-loop-next : goal.decreases-loop-next
decreases-loop-next g l = l.budget
