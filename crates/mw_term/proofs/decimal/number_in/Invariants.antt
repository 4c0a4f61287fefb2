use Rattle.std.proofs.Common.{◌≡◌, ◌≤◌, ◌^◌, drop}
use Rattle.mw_term.specs.Decimals.{number_in}
use Rattle.mw_term.proofs.decimal.number_in.Given as goal

abbrev pub invariant-loop-n : goal.invariant-loop-n
invariant-loop-n l =
    record { in_range : l.value ≤ 2 ^ 63; same : number_in l.value (drop l.n l.digits) ≡ number_in 0 l.digits }
