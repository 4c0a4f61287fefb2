use Rattle.std.proofs.Common.{false, true, map, sym, ◌∙◌}
use Rattle.mw_term.specs.Terms.{expression_of}
use Rattle.mw_lines.specs.Tables.{lines_of}
use Rattle.mw_recheck.specs.Answers.{numbers_of}
use Rattle.mw_recheck.specs.Forms.{line_at}
use Rattle.mw_recheck.specs.Parts.{places_of_parts}
use Rattle.mw_recheck.specs.Roots.{tops_of}
use Rattle.mw_recheck.specs.Views.{level_at, binders_of}
use Rattle.mw_recheck.proofs.PartByPart.{judged_there}
use Rattle.mw_recheck.proofs.walk.+terms.Goals as goal

pub judge-returns-then-not-branch-clause-judged : goal.judge-returns-then-not-branch-clause-judged
judge-returns-then-not-branch-clause-judged t c =
    judged_there (lines_of c.args.setting.now.types.now)
    (tops_of c.args.setting.now.kernels c.args.setting.now.roots.now)
    (binders_of c.args.scope.now) (level_at c.args.level) (expression_of c.args.term.now)
    (map numbers_of c.args.nodes.now)
    (line_at c.in-Some.line) (map numbers_of c.in-Some.rest.now) (places_of_parts c.in_ok-parts.parts)
    (map numbers_of c.in_ok-parts.rest.now) false (sym c.in-Some.ensures) c.in_ok-parts.ensures
    (sym c.in_ok-agrees.ensures ∙ c.if-not-branch.true)

pub judge-returns-clause-judged : goal.judge-returns-clause-judged
judge-returns-clause-judged t c =
    judged_there (lines_of c.args.setting.now.types.now)
    (tops_of c.args.setting.now.kernels c.args.setting.now.roots.now)
    (binders_of c.args.scope.now) (level_at c.args.level) (expression_of c.args.term.now)
    (map numbers_of c.args.nodes.now)
    (line_at c.in-Some.line) (map numbers_of c.in-Some.rest.now) (places_of_parts c.in_ok-parts.parts)
    (map numbers_of c.in_ok-parts.rest.now) true (sym c.in-Some.ensures) c.in_ok-parts.ensures
    (sym c.in_ok-agrees.ensures ∙ c.if-not-branch.false)
