use Rattle.std.proofs.Common.{sym}
use Rattle.mw_types.specs.Types.{type_of}
use Rattle.mw_section.proofs.WriterContents.{tree_found, tree_put}
use Rattle.mw_section.proofs.writer.LineWriter.put_tree.Goals as goal

pub returns-in-Some : goal.returns-in-Some
returns-in-Some c = λ types same.
    tree_found types c.args.self.now c.args.tree c.in-Some.place.now (type_of c.args.ty.now)
    (sym c.in-Some.ensures.value) same

pub returns : goal.returns
returns c = λ types same.
    tree_put types c.args.self.now c.put_type.new.self c.insert.new.self c.args.tree c.in_ok-place.place
    (type_of c.args.ty.now) (c.in_ok-place.ensures types) c.in_ok-insert.ensures.updates same
