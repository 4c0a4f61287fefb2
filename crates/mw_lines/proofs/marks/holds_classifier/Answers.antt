use Rattle.std.proofs.Common.{sym, subst}
use Rattle.mw_lines.specs.Marks.{EndsCode}
use Rattle.std.proofs.Common.{length}
use Rattle.mw_lines.proofs.ClassifierMarks.{none_ends}
use Rattle.mw_lines.proofs.marks.holds_classifier.Goals as goal

pub returns-then-end-eq0 : goal.returns-then-end-eq0
returns-then-end-eq0 c =
    sym (none_ends c.args.types.now c.args.classifier c.args.places.now
    (subst (λ n. EndsCode c.args.types.now c.args.places.now (length c.args.places.now) n) c.if-end-eq0.true
    c.code_end-end.ensures))
