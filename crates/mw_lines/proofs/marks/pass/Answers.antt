use Rattle.std.proofs.Common.{◌∙◌, sym, arith}
use Rattle.mw_lines.specs.TypeLines.{line_of}
use Rattle.mw_lines.proofs.ImageSearch.{parts_within}
use Rattle.mw_lines.proofs.ClassifierMarks.{found_here, passed_line, passes_line, none_past}
use Rattle.mw_lines.proofs.marks.pass.Goals as goal

pub mark_parts-requires-clause-below : goal.mark_parts-requires-clause-below
mark_parts-requires-clause-below c =
    parts_within c.args.types.now c.args.place _ (line_of c.in-Some.line) c.requires.held (sym c.in-Some.ensures)
    (let n = c.requires.within in omega arith)

pub returns-in-Some-clause-passes : goal.returns-in-Some-clause-passes
returns-in-Some-clause-passes c =
    rw c.mark_parts.ensures.marks
    (passes_line c.args.types.now c.requires.held c.args.classifier c.args.place (line_of c.in-Some.line)
    (sym c.in-Some.ensures)
    c.args.marks.now c.if-not-marks-place.false)

pub returns-in-Some-clause-here : goal.returns-in-Some-clause-here
returns-in-Some-clause-here c h =
    found_here c.args.types.now c.requires.held c.args.classifier c.args.place (line_of c.in-Some.line)
    (sym c.in-Some.ensures)
    (sym c.mark_parts.ensures.found ∙ h)

pub returns-in-Some-clause-passed : goal.returns-in-Some-clause-passed
returns-in-Some-clause-passed c h m =
    rw c.mark_parts.ensures.marks
    (passed_line c.args.types.now c.requires.held c.args.classifier c.args.place (line_of c.in-Some.line)
    (sym c.in-Some.ensures)
    c.args.marks.now c.requires.within (sym c.mark_parts.ensures.found ∙ h))

pub returns-in-None-clause-passed : goal.returns-in-None-clause-passed
returns-in-None-clause-passed c h m all =
    none_past c.args.types.now c.requires.held c.args.classifier c.args.place (sym c.in-None.ensures)
