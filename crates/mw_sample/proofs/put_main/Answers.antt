use Rattle.std.proofs.Common.{◌+◌, ap, ◌∙◌, arith}
use Rattle.std.specs.String.{string_bytes}
use Rattle.mw_sample.proofs.Counting.{first_call_put, next_call_put, main_put, on_room}
use Rattle.mw_sample.proofs.put_main.Goals as goal
use Rattle.mw_sample.proofs.put_main.Goals.{else-loop-number-test}
use Rattle.mw_sample.proofs.put_main.Goals.{then-loop-number-test+in_ok-push_str-2+in_ok-put_call-2+else-number-kernels}

pub loop-number-init : goal.loop-number-init
loop-number-init c = (omega arith, first_call_put _ _ _ c.in_ok-push_str.ensures.bytes c.in_ok-put_call.ensures)

pub loop-number-preserved : goal.loop-number-preserved
loop-number-preserved c =
    let before = c.loop-number in (
      omega arith,
      next_call_put before.number _ _ _ _ before.auto.number before.invariant.1
          c.in_ok-push_str-2.ensures.bytes c.in_ok-put_call-2.ensures,
    )

pub returns : goal.returns
returns c =
    let before = c.loop-number in
    on_room c.push_str-2.result _ _ _ c.push_str-2.ensures.bytes (λ put. elim c.loop-number-test.branch [
      | else-loop-number-test w ↦
          main_put c.args.kernels before.number _ _ _ c.requires.some (omega arith)
          (ap string_bytes w.text-is ∙ before.invariant.1) put
      | then-loop-number-test+in_ok-push_str-2+in_ok-put_call-2+else-number-kernels w ↦
          let last = next_call_put before.number _ _ _ _ before.auto.number before.invariant.1
          w.in_ok-push_str-2.ensures.bytes w.in_ok-put_call-2.ensures in
          main_put c.args.kernels (before.number + 1) _ _ _ c.requires.some (omega arith)
          (ap string_bytes w.text-is ∙ last) put
    ])
