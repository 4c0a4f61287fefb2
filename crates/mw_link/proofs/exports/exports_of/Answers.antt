use Rattle.std.proofs.Common.{map, arith}
use Rattle.mw_term.specs.Terms.{kernel_type_of}
use Rattle.mw_wasm.specs.Views.{export_of}
use Rattle.mw_link.proofs.LinkProgress.{exports_next, exports_end}
use Rattle.mw_link.proofs.PartPlaces.{calls_one}
use Rattle.mw_link.proofs.exports.exports_of.Goals as goal

pub loop-kernel-preserved : goal.loop-kernel-preserved
loop-kernel-preserved c = (
  exports_next c.args.kernels.now c.loop-kernel.kernel-index c.loop-kernel.number c.in_ok-number.number c.args.count
      c.kernel-item.result (map export_of c.loop-kernel.out) (map export_of c.put_exports.new.out)
      c.loop-kernel-test.true c.kernel-item.is c.loop-kernel.invariant.0 c.in_ok-number.ensures.exports
      c.in_ok-number.ensures.next,
  (let n = c.in_ok-number.ensures.next in let o = calls_one (kernel_type_of c.kernel-item.result.kind) in
      let i = c.loop-kernel.invariant.1 in omega arith),
)

pub returns : goal.returns
returns c =
    exports_end c.args.kernels.now c.loop-kernel.kernel-index c.loop-kernel.number c.args.count
    (map export_of c.loop-kernel.out) (omega (arith, c.loop-kernel-test.false)) c.loop-kernel.invariant.0
