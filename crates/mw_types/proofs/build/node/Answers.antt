use Rattle.std.proofs.Common.{◌≡◌, refl, ap, ◌∙◌, ◌++◌, ◌∷◌, [], arith, length}
use Rattle.mw_types.proofs.Growing.{node_grew, grew_at, node_shaped_at}
use Rattle.mw_types.proofs.build.node.Goals as goal

pub returns-clause-grew : goal.returns-clause-grew
returns-clause-grew c = grew_at c.args.shape (length c.args.state.now.parent.items) _
    (omega (arith, c.len-next.ensures))
    (node_grew c.args.state.now _ c.args.shape c.requires.sound c.requires.inside
    (c.in_ok-push.ensures.items ∙ ap (λ n. c.args.state.now.parent.items ++ n ∷ [])
    (let e : c.len-next.result ≡ length c.args.state.now.parent.items = omega (arith, c.len-next.ensures) in e))
    c.in_ok-push-2.ensures.items refl refl)

pub returns-clause-shaped : goal.returns-clause-shaped
returns-clause-shaped c f = node_shaped_at c.args.state.now.parent.items _ c.args.state.now.shape.items _ c.args.shape
    (c.in_ok-push.ensures.items ∙ ap (λ n. c.args.state.now.parent.items ++ n ∷ [])
    (let e : c.len-next.result ≡ length c.args.state.now.parent.items = omega (arith, c.len-next.ensures) in e))
    c.in_ok-push-2.ensures.items c.requires.sound.lengths f
