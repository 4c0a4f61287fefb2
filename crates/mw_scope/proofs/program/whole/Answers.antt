use Rattle.std.proofs.Common.{◌≡◌, [], None}
use Rattle.mw_grammar.specs.SurfaceTrees.{surface_of}
use Rattle.mw_scope.specs.Faults.{faults_of_items}
use Rattle.mw_scope.specs.Keeping.{kept}
use Rattle.mw_scope.specs.Views.{Knows}
use Rattle.mw_scope.proofs.Answer.{kept_of_all}
use Rattle.mw_scope.proofs.program.whole.Goals as goal

pub returns-clause-faults : goal.returns-clause-faults
returns-clause-faults c =
    let s = surface_of c.args.surface.now in
    let same = c.as_slice.ensures in
    let knows : Knows c.items.new.names s.items = rw same at c.in_ok-items.ensures.known in
    let from_none : c.items.new.first ≡ kept None (faults_of_items [] s.items) =
    rw (same, c.requires.none) at c.in_ok-items.ensures.faults in
    kept_of_all s c.items.new.names c.items.new.first c.outer_term.new.first knows from_none c.in_ok-body.ensures.faults
