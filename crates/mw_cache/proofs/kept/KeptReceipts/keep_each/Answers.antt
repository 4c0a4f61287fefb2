use Rattle.std.proofs.Common.{arith}
use Rattle.std.proofs.lemmas.Option.{slice_get_within}
use Rattle.mw_slots.specs.Receipts.{IsOf}
use Rattle.mw_cache.proofs.ReceiptSlots.{slot_stays, all_kept, each_more, one_of}
use Rattle.mw_cache.proofs.kept.KeptReceipts.keep_each.Goals as goal

pub returns-in_err-keep-clause-stay : goal.returns-in_err-keep-clause-stay
returns-in_err-keep-clause-stay c = λ slot old.
    slot_stays c.loop-at.self c.keep.new.self c.get.result.now slot c.keep.ensures.added
    (c.loop-at.invariant.stay slot old)

pub returns-in_err-keep-clause-table : goal.returns-in_err-keep-clause-table
returns-in_err-keep-clause-table c = λ cells more old.
    all_kept (IsOf cells) c.loop-at.self c.keep.new.self c.get.result.now c.keep.ensures.added
    (one_of (IsOf cells) c.args.more.now c.loop-at.at c.get.result.now c.get.ensures more)
    (c.loop-at.invariant.table cells more old)

pub loop-at-preserved : goal.loop-at-preserved
loop-at-preserved c = record {
  kept =
      each_more c.args.more.now c.loop-at.self c.keep.new.self c.loop-at.at c.get.result.now c.get.ensures
      c.keep.ensures.added c.in_ok-keep.ensures.kept c.loop-at.invariant.kept;
  stay = λ slot old.
      slot_stays c.loop-at.self c.keep.new.self c.get.result.now slot c.keep.ensures.added
      (c.loop-at.invariant.stay slot old);
  table = λ cells more old.
      all_kept (IsOf cells) c.loop-at.self c.keep.new.self c.get.result.now c.keep.ensures.added
      (one_of (IsOf cells) c.args.more.now c.loop-at.at c.get.result.now c.get.ensures more)
      (c.loop-at.invariant.table cells more old);
}

pub returns-clause-kept : goal.returns-clause-kept
returns-clause-kept c = λ k r here.
    let less = slice_get_within c.args.more.now k r here in
    c.loop-at.invariant.kept k r (omega (arith, less, c.loop-at-test.false, c.len-at-end.ensures)) here
