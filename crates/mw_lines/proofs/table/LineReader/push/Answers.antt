use Rattle.std.proofs.Common.{sym, ◌∙◌, ap, ◌∷◌, [], ◌++◌}
use Rattle.mw_lines.proofs.NamedTypes.{not-false}
use Rattle.mw_lines.proofs.StoredLines.{push_reading}
use Rattle.mw_lines.proofs.table.LineReader.push.Goals as goal

pub returns-clause-added : goal.returns-clause-added
returns-clause-added c t =
    push_reading c.args.self.now
    (record { known = record { lines = c.push.new.self; codes = c.push-2.new.self }; seen = c.insert.new.self })
    c.args.line c.requires
    (sym c.has_parts.ensures ∙ c.if-not-has_parts.false)
    (sym (c.requires.seen c.args.line) ∙ not-false _ (sym c.in_ok-insert.ensures.added ∙ c.if-not-branch.false))
    c.in_ok-push.ensures.items
    (c.in_ok-push-2.ensures.items ∙ ap (λ x. c.args.self.now.known.codes.items ++ x ∷ []) c.makes_code-code.ensures)
    c.in_ok-insert.ensures.updates
