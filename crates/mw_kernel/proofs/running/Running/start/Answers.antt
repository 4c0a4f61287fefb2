use Rattle.std.proofs.Common.{[]}
use Rattle.std.specs.Arc.{arc_value}
use Rattle.mw_term.specs.Terms.{kernel_type_of}
use Rattle.mw_wasm.specs.Instances.{invoked}
use Rattle.mw_wasm.specs.Views.{module_of}
use Rattle.mw_kernel.proofs.AnswerLemmas.{start_type}
use Rattle.mw_kernel.proofs.MeaningLemmas.{start_meant}
use Rattle.mw_kernel.proofs.RunningLemmas.{start_leaves}
use Rattle.mw_kernel.proofs.StrayLemmas.{bad_start_is_stray, start_is_over, starts_play}
use Rattle.mw_kernel.proofs.running.Running.start.Goals as goal

pub returns-clause-left : goal.returns-clause-left
returns-clause-left c = start_leaves c.begin.result (arc_value c.args.module.now) (kernel_type_of c.args.kind.now)
    c.args.fuel c.requires.shape c.begin.ensures

pub returns-clause-means : goal.returns-clause-means
returns-clause-means c = start_meant c.begin.result (arc_value c.args.module.now) (kernel_type_of c.args.kind.now)
    c.args.fuel c.begin.ensures

pub returns-clause-types : goal.returns-clause-types
returns-clause-types c =
    let shape = c.requires.shape in
    start_type c.begin.result (arc_value c.args.module.now) (kernel_type_of c.args.kind.now)
    (invoked (module_of (arc_value c.args.module.now)) shape.store shape.init.index [] c.args.fuel)
    (c.begin.ensures shape.store shape.init.index shape.has_instance shape.init.is_exported)

pub returns-clause-stray : goal.returns-clause-stray
returns-clause-stray c = bad_start_is_stray c.begin.result (arc_value c.args.module.now)
    (kernel_type_of c.args.kind.now) c.args.fuel c.requires.shape c.begin.ensures

pub returns-clause-over : goal.returns-clause-over
returns-clause-over c = start_is_over c.begin.result (arc_value c.args.module.now) (kernel_type_of c.args.kind.now)
    c.args.fuel c.requires.shape c.begin.ensures

pub returns-clause-plays : goal.returns-clause-plays
returns-clause-plays c = starts_play c.begin.result (arc_value c.args.module.now) (kernel_type_of c.args.kind.now)
    c.args.fuel c.requires.shape c.begin.ensures
