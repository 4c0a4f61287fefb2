use Rattle.std.proofs.Common.{sym}
use Rattle.mw_grammar.specs.SurfaceTrees.{tree_of}
use Rattle.mw_scope.specs.Views.{place_at}
use Rattle.mw_scope.proofs.Looked.{outer_named, outer_faults}
use Rattle.mw_scope.proofs.items.outer_term.Goals as goal

pub returns-clause-term : goal.returns-clause-term
returns-clause-term c =
    rw (sym (outer_named (place_at c.args.tops.now) c.new-binders.result (tree_of c.args.tree.now)
    c.new-binders.ensures.none c.new-binders.ensures.count)) c.term.ensures.term

pub returns-clause-faults : goal.returns-clause-faults
returns-clause-faults c =
    rw (sym (outer_faults (place_at c.args.tops.now) c.new-binders.result (tree_of c.args.tree.now)
    c.new-binders.ensures.none c.new-binders.ensures.count)) c.term.ensures.faults
