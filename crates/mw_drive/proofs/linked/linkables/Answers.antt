use Rattle.std.proofs.Common.{subst, sym, ap, ◌∙◌, ◌∷◌, ◌++◌, []}
use Rattle.std.specs.Vec.Iter.{into_iter_items}
use Rattle.std.proofs.IntoIterSteps.{All-taken}
use Rattle.std.proofs.lemmas.List.{map-append}
use Rattle.mw_link.specs.Views.{kernel_of, kernels_of}
use Rattle.mw_drive.proofs.KernelsToLink.{Gathers, gathers_kernel, gathers_none, gathered_all}
use Rattle.mw_drive.proofs.linked.linkables.Goals as goal

pub loop-item-preserved-in-Continue-1 : goal.loop-item-preserved-in-Continue-1
loop-item-preserved-in-Continue-1 c =
    subst
    (λ ls. Gathers c.args.outcomes (c.loop-item.yielded ++ c.in-Some.item ∷ []) ls
    (into_iter_items c.next_kernel.new.left))
    (sym (ap kernels_of c.in_ok-push.ensures.items
    ∙ map-append kernel_of c.loop-item.linkables.items (c.in-Some-next_kernel.kernel ∷ [])))
    (gathers_kernel c.args.outcomes c.loop-item.yielded c.in-Some.item (kernels_of c.loop-item.linkables.items)
    (into_iter_items c.loop-item.left) c.loop-item.invariant c.in-Some-next_kernel.kernel
    (into_iter_items c.next_kernel.new.left) c.in-Some-next_kernel.ensures)

pub loop-item-preserved : goal.loop-item-preserved
loop-item-preserved c =
    gathers_none c.args.outcomes c.loop-item.yielded c.in-Some.item (kernels_of c.loop-item.linkables.items)
    (into_iter_items c.loop-item.left) c.loop-item.invariant (into_iter_items c.next_kernel.new.left)
    c.in_default.ensures

pub returns : goal.returns
returns c =
    let it = c.into_iter-item-iterator in
    let taken =
    All-taken it.result c.loop-item.yielded
    (c.next.new.self, (c.loop-item.item-iterator, c.loop-item.yielded_by, c.in-None.ensures.steps))
    ∙ (it.ensures.into_iter_gives.0 ∙ c.into_vec-item-items.ensures) in
    gathered_all c.args.outcomes c.args.program.items (kernels_of c.loop-item.linkables.items)
    (into_iter_items c.loop-item.left)
    (subst
    (λ front. Gathers c.args.outcomes front (kernels_of c.loop-item.linkables.items) (into_iter_items c.loop-item.left))
    taken c.loop-item.invariant)
