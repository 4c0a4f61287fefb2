use Rattle.std.proofs.Common.{◌≡◌, ◌++◌}
use Rattle.std.specs.String.{string_bytes}
use Rattle.mw_sample.specs.Sample.{kernel_line}
use Rattle.mw_sample.proofs.Counting.{texts_below}
use Rattle.mw_sample.proofs.put_kernels.Given as goal

-- the lines of the kernels below the number are there
abbrev pub invariant-loop-number : goal.invariant-loop-number
invariant-loop-number l = string_bytes l.text ≡ string_bytes l.fn.text ++ texts_below kernel_line 1 l.number
