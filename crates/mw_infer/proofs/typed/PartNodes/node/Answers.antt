use Rattle.std.proofs.Common.{◌≡◌, Some, length, ap, sym, subst, ◌∙◌, arith}
use Rattle.std.proofs.lemmas.List.{length-map}
use Rattle.std.specs.Prelude.{slice_get}
use Rattle.mw_infer.specs.NodeViews.{numbers_of}
use Rattle.mw_infer.specs.Typings.{IsNodeWithin, nodes_of}
use Rattle.mw_infer.proofs.NodeLists.{node-within, node-at}
use Rattle.mw_infer.proofs.typed.PartNodes.node.Goals as goal

pub invariant_of-result : goal.invariant_of-result
invariant_of-result c =
    let e : length c.self.inside.nodes.items ≡ length c.args.self.now.nodes =
    sym (length-map c.self.inside.nodes.items numbers_of) ∙ ap (λ s. length s.nodes) c.self.view_is in
    node-within (IsNodeWithin (length c.self.inside.solved.types) (length c.self.inside.solved.classifiers))
    c.self.inside.nodes.items c.args.node c.index.result.now c.self.invariant (omega (arith, e, c.requires))
    c.index.ensures

pub returns : goal.returns
returns c =
    let e : length c.self.inside.nodes.items ≡ length c.args.self.now.nodes =
    sym (length-map c.self.inside.nodes.items numbers_of) ∙ ap (λ s. length s.nodes) c.self.view_is in
    subst (λ s. slice_get (nodes_of s) c.args.node
    ≡ Some (record { solution = c.self.inside.solved; numbers = numbers_of c.index.result.now })) c.self.view_is
    (node-at c.self.inside.solved c.self.inside.nodes.items c.args.node c.index.result.now
    (omega (arith, e, c.requires)) c.index.ensures)
