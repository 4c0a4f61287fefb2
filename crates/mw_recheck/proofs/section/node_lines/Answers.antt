use Rattle.std.proofs.Common.{◌≡◌, suc, ◌+◌, ◌-◌, map, sym, ◌∙◌, arith}
use Rattle.mw_recheck.specs.Answers.{numbers_of}
use Rattle.mw_recheck.proofs.OneByOne.{nodes_stop, nodes_step, map_pushed}
use Rattle.mw_recheck.proofs.section.node_lines.Goals as goal

pub returns-in_default : goal.returns-in_default
returns-in_default c =
    sym c.loop-node.invariant
    ∙ nodes_stop (map numbers_of c.loop-node.nodes.items) (c.args.count - c.loop-node._node) c.loop-node.rest.now
    (omega (arith, c.loop-node-test.true)) (sym c.in_default.ensures)

pub loop-node-preserved : goal.loop-node-preserved
loop-node-preserved c =
    let next : c.args.count - c.loop-node._node ≡ suc (c.args.count - (c.loop-node._node + 1)) =
    omega (arith, c.loop-node-test.true) in
    rw (map_pushed numbers_of c.loop-node.nodes.items c.push.new.self.items c.in-Some.node c.in_ok-push.ensures.items)
    (sym (nodes_step (map numbers_of c.loop-node.nodes.items) (c.args.count - c.loop-node._node) (c.args.count -
    (c.loop-node._node + 1)) c.loop-node.rest.now (numbers_of c.in-Some.node) c.in-Some.more.now next
    (sym c.in-Some.ensures)) ∙ c.loop-node.invariant)
