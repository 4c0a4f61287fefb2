use Rattle.std.proofs.Common.{◌+◌, ◌-◌, ◌∙◌, sym, ap, take, drop, length, ◌++◌, arith}
use Rattle.mw_keeping.specs.KeptFiles.{fitting}
use Rattle.mw_keeping.proofs.AppendedRecords.{record_at, fitting_next, fitting_ends, all_fitted}
use Rattle.mw_keeping.proofs.Migrations.{count_taken}
use Rattle.mw_keeping.proofs.migrating.fitting_count.Goals as goal

pub returns-then-record-left-clause-fitting : goal.returns-then-record-left-clause-fitting
returns-then-record-left-clause-fitting c = λ ks are.
    let at = c.loop-at.at in
    let here = record_at ks at c.get.result.now (rw are at c.get.ensures) in
    let size = ap length c.as_slice-record.ensures in
    count_taken c.args.room at ks c.args.records.now are (omega arith)
    (fitting_ends c.args.room c.loop-at.left at ks c.get.result.now here (c.loop-at.invariant ks are)
    (omega (arith, size, c.if-record-left.true)))

pub loop-at-preserved : goal.loop-at-preserved
loop-at-preserved c = λ ks are.
    let at = c.loop-at.at in
    let here = record_at ks at c.get.result.now (rw are at c.get.ensures) in
    let size = ap length c.as_slice-record.ensures in
    fitting_next c.args.room c.loop-at.left at ks c.get.result.now here (c.loop-at.invariant ks are)
    (omega (arith, size, c.if-record-left.false))
    ∙ ap (λ n. take (at + 1) ks ++ fitting (c.loop-at.left - n) (drop (at + 1) ks)) (sym size)

pub returns-clause-fitting : goal.returns-clause-fitting
returns-clause-fitting c = λ ks are.
    let all =
    count_taken c.args.room c.loop-at.at ks c.args.records.now are (omega arith)
    (all_fitted c.args.room c.loop-at.left c.loop-at.at ks c.args.records.now are
    (omega (arith, c.len-at-end.ensures, c.loop-at-test.false)) (c.loop-at.invariant ks are)) in
    omega (arith, all, c.len-at-end.ensures, c.len.ensures, c.loop-at-test.false)
