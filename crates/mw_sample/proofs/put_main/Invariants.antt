use Rattle.std.proofs.Common.{◌≡◌, ◌+◌, ◌≤◌}
use Rattle.std.specs.String.{string_bytes}
use Rattle.mw_sample.proofs.Counting.{main_begun}
use Rattle.mw_sample.proofs.put_main.Given as goal

-- the calls of the kernels below the number are there, and the number is at most one past the last kernel
abbrev pub invariant-loop-number : goal.invariant-loop-number
invariant-loop-number l = (l.number ≤ l.kernels + 1)
    × (string_bytes l.text ≡ main_begun (string_bytes l.fn.text) l.number)
