use Rattle.mw_grammar.specs.SurfaceTrees.{surface_of}
use Rattle.mw_scope.proofs.Answer.{IsAnswer, is_answer}
use Rattle.mw_scope.proofs.Sizes.{is_small}
use Rattle.mw_scope.proofs.resolve.Goals as goal

whole_is : (c : goal.After-answer) → IsAnswer (surface_of c.args.surface.now) c.answer.result
whole_is c = is_answer (surface_of c.args.surface.now) c.whole.new.first c.in_ok-program.program c.answer.result
    c.in_ok-program.ensures.program c.in_ok-program.ensures.faults c.answer.ensures

pub returns-clause-found : goal.returns-clause-found
returns-clause-found c = (whole_is c).found

pub returns-clause-nodes : goal.returns-clause-nodes
returns-clause-nodes c = is_small (surface_of c.args.surface.now) c.answer.result c.requires.nodes (whole_is c).found

pub returns-clause-only : goal.returns-clause-only
returns-clause-only c = (whole_is c).only

pub returns-clause-refused : goal.returns-clause-refused
returns-clause-refused c = (whole_is c).refused

pub returns-clause-first : goal.returns-clause-first
returns-clause-first c = (whole_is c).first
