use Rattle.mw_lines.proofs.StoredLines.{front_lines, front_held}
use Rattle.mw_lines.proofs.table.TypeLines.front.Goals as goal

pub returns-clause-lines : goal.returns-clause-lines
returns-clause-lines c =
    front_lines c.args.self (record { lines = c.truncate.new.self; codes = c.truncate-2.new.self }) c.args.count
    c.truncate.ensures.items

pub returns-clause-held : goal.returns-clause-held
returns-clause-held c =
    front_held c.args.self (record { lines = c.truncate.new.self; codes = c.truncate-2.new.self }) c.args.count
    c.requires
    c.truncate.ensures.items c.truncate-2.ensures.items
