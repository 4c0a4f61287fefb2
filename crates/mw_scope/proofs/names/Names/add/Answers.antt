use Rattle.std.proofs.Common.{refl}
use Rattle.mw_term.specs.Terms.{kernel_type_of}
use Rattle.mw_grammar.specs.SurfaceTrees.{tree_of}
use Rattle.mw_scope.specs.declared.names.Names.{Names}
use Rattle.mw_scope.proofs.Places.{knows_let, knows_kernel}
use Rattle.mw_scope.proofs.names.Names.add.Goals as goal

pub returns-in_ok-add-in-Let-2 : goal.returns-in_ok-add-in-Let-2
returns-in_ok-add-in-Let-2 c = λ before knows n.
    let new : Names = record { lets = c.add.new.self; all = c.add-in-Let.new.self } in
    rw c.in-Let.is (knows_let c.args.self.now new before c.in-Let.name.name c.in-Let.name.at c.in-Let.field-1
    (tree_of c.in-Let.field-2) c.args.index knows n c.in_ok-add-in-Let.ensures c.in_ok-add-in-Let-2.ensures)

pub returns-in_ok-add-in-Kernel : goal.returns-in_ok-add-in-Kernel
returns-in_ok-add-in-Kernel c = λ before knows n.
    let new : Names = record { lets = c.args.self.now.lets; all = c.add-in-Kernel.new.self } in
    rw c.in-Kernel.is (knows_kernel c.args.self.now new before c.in-Kernel.name.name c.in-Kernel.name.at
    (kernel_type_of c.in-Kernel.field-1) (tree_of c.in-Kernel.field-2) c.args.index knows n (λ x. refl)
    c.in_ok-add-in-Kernel.ensures)
