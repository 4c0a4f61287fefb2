use Rattle.std.proofs.Common.{arith}
use Rattle.mw_code.proofs.TermSizes.{last_here, counts_on, counts_over, AreHere_append, node_here}
use Rattle.mw_code.proofs.count.count_nodes.Goals as goal

pub visit-node-requires : goal.visit-node-requires
visit-node-requires g c = (last_here _ _ _ _ c.in-Some.ensures.items c.loop-next.invariant.1).0

pub returns-then-not-count_own-clause-count : goal.returns-then-not-count_own-clause-count
returns-then-not-count_own-clause-count g c =
    counts_over _ _ _ _ _ _ _ _ c.requires.down c.in-Some.ensures.items c.visit-node.ensures.node
    c.loop-next.invariant.0 (omega (arith, c.if-not-count_own.ensures.count, c.if-budget-eq0.false))

pub loop-next-preserved : goal.loop-next-preserved
loop-next-preserved g c =
    let last = last_here _ _ _ _ c.in-Some.ensures.items c.loop-next.invariant.1 in
    let own = c.if-not-count_own.ensures in
    rw c.in_ok-push_parts.ensures (
      counts_on _ _ _ _ _ _ _ _ _ c.requires.down c.in-Some.ensures.items c.visit-node.ensures.node
          c.loop-next.invariant.0 (omega (arith, own.count, c.if-budget-eq0.false)),
      AreHere_append _ _ _ last.1 (node_here _ _ _ c.requires.down last.0 c.visit-node.ensures.node),
      omega (arith, c.loop-next.invariant.2, c.visit-node.ensures.step, own.visits, c.if-budget-eq0.false),
    )
