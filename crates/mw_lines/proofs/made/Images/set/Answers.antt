use Rattle.std.proofs.Common.{None, ◌∙◌}
use Rattle.mw_lines.proofs.ImageSearch.{read, refuses_other}
use Rattle.mw_lines.proofs.made.Images.set.Goals as goal

pub returns-in-Some-clause-refused : goal.returns-in-Some-clause-refused
returns-in-Some-clause-refused c n =
    refuses_other c.args.self.now c.args.line c.args.image c.in-Some.other
    (read c.args.self.now.places.items c.args.line c.index.result.now None c.requires c.index.ensures ∙ c.in-Some.is) n
