use Rattle.std.proofs.Common.{◌≡◌, ◌++◌, ◌+◌, ◌-◌, ◌∙◌, ap, arith}
use Rattle.std.specs.List.{range_with_len, flat_map}
use Rattle.std.specs.String.{string_bytes}
use Rattle.mw_sample.specs.Sample.{kernel_line}
use Rattle.mw_sample.proofs.Counting.{next_put}
use Rattle.mw_sample.proofs.put_kernels.Goals as goal

pub loop-number-preserved : goal.loop-number-preserved
loop-number-preserved c =
    next_put kernel_line 1 c.loop-number.number _ _ _ c.loop-number.auto.number c.loop-number.invariant
    c.in_ok-put_kernel.ensures

pub returns : goal.returns
returns c = absurd (omega arith)

pub returns-in_ok-put_kernel : goal.returns-in_ok-put_kernel
returns-in_ok-put_kernel c =
    let all : c.loop-number.number + 1 - 1 ≡ c.args.kernels = omega arith in
    next_put kernel_line 1 c.loop-number.number _ _ _ c.loop-number.auto.number c.loop-number.invariant
    c.in_ok-put_kernel.ensures
    ∙ ap (λ n. string_bytes c.args.text.now ++ flat_map kernel_line (range_with_len 1 n)) all
