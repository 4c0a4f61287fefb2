use Rattle.std.proofs.Common.{◌≡◌, suc, ◌+◌, ◌-◌, refl, sym, ◌∙◌, arith}
use Rattle.mw_lines.specs.TypeLines.{line_of}
use Rattle.mw_lines.specs.Tables.{lines_of}
use Rattle.mw_recheck.proofs.OneByOne.{lines_stop, lines_refused, lines_step}
use Rattle.mw_recheck.proofs.section.type_lines.Goals as goal

pub returns-in_default-clause-lines : goal.returns-in_default-clause-lines
returns-in_default-clause-lines c =
    sym c.loop-line.invariant.same
    ∙ lines_stop (lines_of c.loop-line.lines.known) (c.args.count - c.loop-line._line) c.loop-line.rest.now
    (omega (arith, c.loop-line-test.true)) (sym c.in_default.ensures)

pub returns-then-not-branch-clause-lines : goal.returns-then-not-branch-clause-lines
returns-then-not-branch-clause-lines c =
    sym c.loop-line.invariant.same
    ∙ lines_refused (lines_of c.loop-line.lines.known) (c.args.count - c.loop-line._line) c.loop-line.rest.now
    (line_of c.in-Some.line) c.in-Some.more.now
    (omega (arith, c.loop-line-test.true)) (sym c.in-Some.ensures) (sym c.in_ok-push.ensures.answer
    ∙ c.if-not-branch.true)

pub loop-line-preserved : goal.loop-line-preserved
loop-line-preserved c =
    let next : c.args.count - c.loop-line._line ≡ suc (c.args.count - (c.loop-line._line + 1)) =
    omega (arith, c.loop-line-test.true) in
    let read = c.in_ok-push.ensures.added c.if-not-branch.false in
    let step = lines_step (lines_of c.loop-line.lines.known) (c.args.count - c.loop-line._line) (c.args.count -
    (c.loop-line._line + 1)) c.loop-line.rest.now (line_of c.in-Some.line) c.in-Some.more.now next
    (sym c.in-Some.ensures) (sym c.in_ok-push.ensures.answer ∙ c.if-not-branch.false) in
    record {
      reading = record { known = refl; held = read.held; seen = rw read.known read.seen };
      same = rw read.known (sym step ∙ c.loop-line.invariant.same);
    }
