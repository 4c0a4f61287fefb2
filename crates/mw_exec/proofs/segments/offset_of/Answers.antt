use Rattle.std.proofs.Common.{ap}
use Rattle.mw_wasm.specs.Views.{instruction_of}
use Rattle.mw_exec.proofs.Offsets.{constant_offset}
use Rattle.mw_exec.proofs.segments.offset_of.Goals as goal

pub returns : goal.returns
returns c = constant_offset c.args.code.now.inner.items c.get.result.now c.in-ConstI32.n c.get.ensures
    (ap instruction_of c.in-ConstI32.is) c.requires
