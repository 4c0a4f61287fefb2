use Rattle.std.proofs.Common.{map, drop, arith}
use Rattle.std.proofs.lemmas.List.{length-map}
use Rattle.mw_term.specs.Terms.{expression_of}
use Rattle.mw_wasm.specs.Views.{function_of}
use Rattle.mw_link.specs.Views.{kernels_of}
use Rattle.mw_link.proofs.LinkProgress.{limits_kept, going_first, going_here, going_next, going_end, going_few}
use Rattle.mw_link.proofs.parts.put_kernels.Goals as goal

pub loop-kernel-init : goal.loop-kernel-init
loop-kernel-init c =
    rw (c.new.ensures, c.new-2.ensures, c.in_ok-first_types.ensures)
    (going_first (kernels_of c.args.kernels.now) c.requires.linkable)

pub put_kernel-requires-clause-closed : goal.put_kernel-requires-clause-closed
put_kernel-requires-clause-closed c =
    (going_here (kernels_of c.args.kernels.now) c.args.kernels.now c.loop-kernel.kernel-index c.kernel-item.result _ _ _
    c.loop-kernel-test.true c.kernel-item.is c.loop-kernel.invariant).linkable.0.closed

pub put_kernel-requires-clause-limits : goal.put_kernel-requires-clause-limits
put_kernel-requires-clause-limits c =
    let p =
    (going_here (kernels_of c.args.kernels.now) c.args.kernels.now c.loop-kernel.kernel-index
    c.kernel-item.result _ _ _ c.loop-kernel-test.true c.kernel-item.is
    c.loop-kernel.invariant).linkable.0 in
    limits_kept (expression_of c.kernel-item.result.code) p.few p.flat

pub put_kernel-requires-clause-nodes : goal.put_kernel-requires-clause-nodes
put_kernel-requires-clause-nodes c =
    (going_here (kernels_of c.args.kernels.now) c.args.kernels.now c.loop-kernel.kernel-index c.kernel-item.result _ _ _
    c.loop-kernel-test.true c.kernel-item.is c.loop-kernel.invariant).linkable.0.nodes

pub put_kernel-requires-clause-few : goal.put_kernel-requires-clause-few
put_kernel-requires-clause-few c =
    let f =
    (going_few (kernels_of c.args.kernels.now) (kernels_of (drop c.loop-kernel.kernel-index c.args.kernels.now))
    (map function_of c.loop-kernel.out.inner) (map function_of c.loop-kernel.out.outer)
    c.loop-kernel.out.types c.requires.linkable c.loop-kernel.invariant).0 in
    omega (arith, length-map c.loop-kernel.out.inner function_of)

pub put_kernel-requires-clause-types : goal.put_kernel-requires-clause-types
put_kernel-requires-clause-types c =
    (going_few (kernels_of c.args.kernels.now) (kernels_of (drop c.loop-kernel.kernel-index c.args.kernels.now))
    (map function_of c.loop-kernel.out.inner) (map function_of c.loop-kernel.out.outer) c.loop-kernel.out.types
    c.requires.linkable c.loop-kernel.invariant).1

pub loop-kernel-preserved : goal.loop-kernel-preserved
loop-kernel-preserved c =
    going_next c.args.kernels.now c.loop-kernel.kernel-index c.kernel-item.result c.loop-kernel.out.inner
    c.put_kernel.new.out.inner c.loop-kernel.out.outer c.put_kernel.new.out.outer c.loop-kernel.out.types
    c.put_kernel.new.out.types
    c.loop-kernel-test.true c.kernel-item.is c.loop-kernel.invariant c.in_ok-put_kernel.ensures.inner
    c.in_ok-put_kernel.ensures.outer c.in_ok-put_kernel.ensures.types c.in_ok-put_kernel.ensures.literals

pub returns : goal.returns
returns c =
    let e =
    going_end c.args.kernels.now c.loop-kernel.kernel-index _ _ _ (omega (arith, c.loop-kernel-test.false))
    c.loop-kernel.invariant in
    record { inner = e.0; outer = e.1; types = e.2; literals = e.3 }
