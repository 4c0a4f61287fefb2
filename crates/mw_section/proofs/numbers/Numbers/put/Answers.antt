use Rattle.std.proofs.Common.{sym, ◌∙◌}
use Rattle.mw_section.proofs.WriterContents.{number_found, number_put, number_more}
use Rattle.mw_section.proofs.numbers.Numbers.put.Goals as goal

pub returns-in-Some : goal.returns-in-Some
returns-in-Some c =
    number_found c.args.self.now c.args.met c.in-Some.number.now (sym c.in-Some.ensures.value)

pub returns : goal.returns
returns c =
    number_put c.args.self.now (record { numbers = c.insert.new.self }) c.args.met c.len-number.result
    (sym c.in_default.ensures.value) c.len-number.ensures.len c.in_ok-insert.ensures.updates
    (number_more c.in_ok-insert.field-0 c.insert.new.self c.args.self.now.numbers
    (c.in_ok-insert.ensures.old ∙ sym c.in_default.ensures.value) c.in_ok-insert.ensures.len)
