use Rattle.std.proofs.Common.{sym, ◌∙◌}
use Rattle.mw_section.proofs.WriterContents.{line_found, line_put}
use Rattle.mw_section.proofs.table.LineTable.put.Goals as goal

pub returns-in-Some : goal.returns-in-Some
returns-in-Some c = line_found c.args.self.now c.args.line c.in-Some.place.now (sym c.in-Some.ensures.value)

pub returns : goal.returns
returns c =
    line_put c.args.self.now (record { places = c.insert.new.self; lines = c.push.new.self }) c.args.line
    c.len-place.result
    (sym c.in_default.ensures.value) (c.len-place.ensures ∙ c.args.self.now.lines.ok.0)
    c.in_ok-insert.ensures.updates c.in_ok-push.ensures.items
