use Rattle.std.proofs.Common.{arith}
use Rattle.mw_types.proofs.Walking.{found_size, found_root, new_undone, open_undone}
use Rattle.mw_types.proofs.walk.below.Goals as goal

pub returns-in-Done : goal.returns-in-Done
returns-in-Done c = found_size c.args.state.now c.args.marks.now c.args.node c.find-root.result c.in-Done.size _
    c.requires.marked (rw c.as_slice.ensures.value at c.find-root.ensures.leads) (omega arith) c.in-Done.is

pub returns-in-New : goal.returns-in-New
returns-in-New c = found_root c.args.state.now c.args.marks.now c.args.node c.find-root.result _ c.requires.marked
    (rw c.as_slice.ensures.value at c.find-root.ensures.leads) (omega arith)
    (rw c.as_slice.ensures.value at c.find-root.ensures.root) (new_undone c.in-New.is)

pub returns-in-Open : goal.returns-in-Open
returns-in-Open c = found_root c.args.state.now c.args.marks.now c.args.node c.find-root.result _ c.requires.marked
    (rw c.as_slice.ensures.value at c.find-root.ensures.leads) (omega arith)
    (rw c.as_slice.ensures.value at c.find-root.ensures.root) (open_undone c.in-Open.is)
