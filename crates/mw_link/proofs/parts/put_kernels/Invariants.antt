use Rattle.std.proofs.Common.{drop, map}
use Rattle.mw_wasm.specs.Views.{function_of}
use Rattle.mw_link.specs.Views.{kernels_of}
use Rattle.mw_link.proofs.LinkProgress.{Going}
use Rattle.mw_link.proofs.parts.put_kernels.Given as goal

abbrev pub invariant-loop-kernel : goal.invariant-loop-kernel
invariant-loop-kernel l =
    Going (kernels_of l.kernels) (kernels_of (drop l.kernel-index l.kernels)) (map function_of l.out.inner)
    (map function_of l.out.outer) l.out.types
