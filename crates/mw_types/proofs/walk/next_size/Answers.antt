use Rattle.std.proofs.Common.{◌≡◌, ◌≢◌, ◌∙◌, arith}
use Rattle.std.specs.Prelude.{slice_index_or}
use Rattle.std.proofs.lemmas.List.{get_or_default}
use Rattle.mw_types.proofs.Walking.{sized_up}
use Rattle.mw_types.proofs.walk.next_size.Goals as goal

pub returns-then-up-node-clause-sized : goal.returns-then-up-node-clause-sized
returns-then-up-node-clause-sized c =
    let ps = c.args.state.now.parent.items in
    let up = c.index-up.result.now in
    let e : up ≡ slice_index_or ps c.args.node 0 =
    c.index-up.ensures ∙ get_or_default ps c.args.node up 0 c.requires.inside in
    let o : up ≢ c.args.node = λ q. absurd (omega (arith, q, c.if-up-node.true)) in
    sized_up c.args.state.now c.args.node up _ c.requires.inside e o
    (c.requires.lower.each up (let low = c.requires.sound.low c.args.node c.requires.inside in
    omega (arith, low, e, o)))
