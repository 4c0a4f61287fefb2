use Rattle.std.proofs.Common.{◌++◌, ◌+◌, ◌-◌, ◌∙◌, sym, ap, take, drop, length, arith}
use Rattle.mw_store.specs.Records.{file_of}
use Rattle.mw_keeping.specs.KeptFiles.{fitting}
use Rattle.mw_keeping.proofs.AppendedRecords.{record_at, fitting_next, fitting_ends, added, all_fitted}
use Rattle.mw_keeping.proofs.GrownFiles.{part_taken, part_cut}
use Rattle.mw_keeping.proofs.keeping.append_fitting.Goals as goal

pub returns-then-record-left-clause-fitting : goal.returns-then-record-left-clause-fitting
returns-then-record-left-clause-fitting g c = λ ks are tells.
    let at = c.loop-at.at in
    let here = record_at ks at c.get.result.now (rw are at c.get.ensures) in
    let size = ap length c.as_slice-record.ensures in
    c.loop-at.invariant.added ks are tells
    ∙ ap (λ xs. g.C.Keeper.held c.args.keeper.now ++ file_of xs)
    (sym (fitting_ends c.args.room c.loop-at.left at ks c.get.result.now here (c.loop-at.invariant.fit ks are)
    (omega (arith, size, c.if-record-left.true))))

pub loop-at-preserved : goal.loop-at-preserved
loop-at-preserved g c = record {
  fit = λ ks are.
      let at = c.loop-at.at in
      let here = record_at ks at c.get.result.now (rw are at c.get.ensures) in
      let size = ap length c.as_slice-record.ensures in
      fitting_next c.args.room c.loop-at.left at ks c.get.result.now here (c.loop-at.invariant.fit ks are)
      (omega (arith, size, c.if-record-left.false))
      ∙ ap (λ n. take (at + 1) ks ++ fitting (c.loop-at.left - n) (drop (at + 1) ks)) (sym size);
  added = λ ks are tells.
      let at = c.loop-at.at in
      let here = record_at ks at c.get.result.now (rw are at c.get.ensures) in
      added ks at c.get.result.now _ _ _ here (c.loop-at.invariant.added ks are tells)
      (c.in_ok-append.ensures.ok tells ∙ ap (λ bs. g.C.Keeper.held c.loop-at.keeper ++ bs) c.as_slice-record.ensures);
  names = λ tells. c.in_ok-append.ensures.same_names tells ∙ c.loop-at.invariant.names tells;
  count = c.in_ok-append.ensures.same_count ∙ c.loop-at.invariant.count;
}

pub returns-clause-fitting : goal.returns-clause-fitting
returns-clause-fitting g c = λ ks are tells.
    c.loop-at.invariant.added ks are tells
    ∙ ap (λ xs. g.C.Keeper.held c.args.keeper.now ++ file_of xs)
    (sym (all_fitted c.args.room c.loop-at.left c.loop-at.at ks c.args.records.now are
    (omega (arith, c.len-at-end.ensures, c.loop-at-test.false)) (c.loop-at.invariant.fit ks are)))

pub returns-then-record-left-clause-front : goal.returns-then-record-left-clause-front
returns-then-record-left-clause-front g c = λ ks are tells.
    part_taken ks c.loop-at.at _ _ (c.loop-at.invariant.added ks are tells)

pub returns-in_err-append-clause-front : goal.returns-in_err-append-clause-front
returns-in_err-append-clause-front g c = λ ks are tells.
    let here = record_at ks c.loop-at.at c.get.result.now (rw are at c.get.ensures) in
    part_cut ks c.loop-at.at c.get.result.now _ _ _ here (c.loop-at.invariant.added ks are tells)
    (rw c.as_slice-record.ensures at c.in_err-append.ensures.front tells)

pub returns-clause-front : goal.returns-clause-front
returns-clause-front g c = λ ks are tells.
    part_taken ks c.loop-at.at _ _ (c.loop-at.invariant.added ks are tells)
