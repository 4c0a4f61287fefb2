use Rattle.std.proofs.Common.{refl}
use Rattle.mw_types.specs.Types.{type_of}
use Rattle.mw_cert.specs.Nodes.{type_of_tree}
use Rattle.mw_cert.proofs.Trees.{type_held}
use Rattle.mw_cert.proofs.node.put_type.Goals as goal

pub returns : goal.returns
returns c =
    let s = c.args.node.now.solution in
    let t = type_of c.args.ty.now in
    c.in_ok-put_tree-in-Some.ensures (type_of_tree s)
    (type_held s c.in-Some.tree t (c.in-Some.ensures.held c.in-Some.tree t refl c.requires))
