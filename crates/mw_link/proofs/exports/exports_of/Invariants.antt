use Rattle.std.proofs.Common.{◌≡◌, ◌≤◌, ◌+◌, ◌*◌, ◌++◌, drop, map}
use Rattle.mw_wasm.specs.Views.{export_of}
use Rattle.mw_link.specs.Linked.{exports_from}
use Rattle.mw_link.specs.Views.{kernels_of}
use Rattle.mw_link.proofs.exports.exports_of.Given as goal

abbrev pub invariant-loop-kernel : goal.invariant-loop-kernel
invariant-loop-kernel l =
    (map export_of l.out ++ exports_from l.number (kernels_of (drop l.kernel-index l.kernels))
    ≡ exports_from l.count (kernels_of l.kernels))
    × (l.number ≤ l.count + 2 * l.kernel-index)
