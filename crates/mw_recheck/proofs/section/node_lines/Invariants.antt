use Rattle.std.proofs.Common.{◌≡◌, ◌-◌, map}
use Rattle.mw_recheck.specs.Answers.{numbers_of}
use Rattle.mw_recheck.specs.Reading.{node_lines_at}
use Rattle.mw_recheck.proofs.OneByOne.{nodes_after}
use Rattle.mw_recheck.proofs.section.node_lines.Given as goal

abbrev pub invariant-loop-node : goal.invariant-loop-node
invariant-loop-node l =
    nodes_after (map numbers_of l.nodes.items) (l.count - l._node) l.rest ≡ node_lines_at l.count l.bytes
