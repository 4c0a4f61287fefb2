use Rattle.std.proofs.Common.{subst, arith}
use Rattle.std.specs.Prelude.{MatchBool}
use Rattle.mw_store.specs.Whole.{HasKernelModule, NoKernelModule}
use Rattle.mw_store.proofs.WholeRecords.{too_long, damaged, no_module, whole_begins, parts_length}
use Rattle.mw_store.proofs.whole.whole_record.Goals as goal

pub returns-then-len-room : goal.returns-then-len-room
returns-then-len-room c =
    let size = c.len.ensures in let long = c.if-len-room.true in
    too_long c.in-Some.parts c.args.bytes.now c.args.room c.in-Some.ensures.some (omega (arith, size, long))

pub returns-then-not-is_undamaged : goal.returns-then-not-is_undamaged
returns-then-not-is_undamaged c = λ r begun.
    absurd (damaged c.in-Some.parts c.args.bytes.now c.in-Some.ensures.some c.if-not-is_undamaged.ensures r begun)

pub returns-then-not-branch : goal.returns-then-not-branch
returns-then-not-branch c = λ r begun.
    let parts = c.in-Some.parts in let text = parts.text.now in let wasm = parts.module.now in
    let none = subst (λ b. MatchBool b (HasKernelModule text wasm) (NoKernelModule text wasm)) c.if-not-branch.true
    c.in_ok-has_kernel_module.ensures in
    absurd (no_module parts c.args.bytes.now c.in-Some.ensures.some none r begun)

pub returns : goal.returns
returns c =
    let parts = c.in-Some.parts in let text = parts.text.now in let wasm = parts.module.now in
    let cut = c.in-Some.ensures.some in
    let has = subst (λ b. MatchBool b (HasKernelModule text wasm) (NoKernelModule text wasm)) c.if-not-branch.false
    c.in_ok-has_kernel_module.ensures in
    let size = c.len.ensures in let short = c.if-len-room.false in let long =
    parts_length parts c.args.bytes.now cut in (
      whole_begins parts c.args.bytes.now cut c.if-not-is_undamaged.ensures has,
      omega (arith, size, short, long),
    )
