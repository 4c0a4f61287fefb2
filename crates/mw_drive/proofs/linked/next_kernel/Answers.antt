use Rattle.std.proofs.Common.{sym, ap, subst}
use Rattle.std.specs.Vec.Iter.{into_iter_items}
use Rattle.mw_reading.specs.NamedPrograms.{NamedItem, item_of}
use Rattle.mw_drive.specs.ItemOutcomes.{IsNextKernel, not_a_kernel, with_code, without_code}
use Rattle.mw_drive.proofs.linked.next_kernel.Goals as goal

pub returns-in_err-name : goal.returns-in_err-name
returns-in_err-name c =
    let left = into_iter_items c.args.left.now in
    subst (λ r. IsNextKernel (item_of c.args.item) left r left) (sym c.from_residual.ensures)
    (not_a_kernel c.in_err-name.ensures.1)

pub returns-in_err-code : goal.returns-in_err-code
returns-in_err-code c =
    subst
    (λ r. IsNextKernel (item_of c.args.item) (into_iter_items c.args.left.now) r
    (into_iter_items c.next_code.new.left)) (sym c.from_residual-in_err-code.ensures)
    (without_code (ap (λ (i : NamedItem). i.is) c.in_ok-name.ensures.1) c.in_err-code.ensures)

pub returns : goal.returns
returns c = with_code c.in_ok-name.ensures.1 c.in_ok-code.ensures.1
