use Rattle.std.proofs.Common.{ℕ, ◌+◌, ◌-◌, ◌*◌, ◌^◌}
use Rattle.mw_grammar.specs.Grammar.{Row, sum, product, application}
use Rattle.mw_grammar.specs.Levels.{row_of}
use Rattle.mw_parse.specs.declared.room.Room.{Room}
use Rattle.mw_parse.specs.declared.trees.Connective.{Connective}
use Rattle.mw_parse.specs.declared.trees.Connective.TheVariants.{And, Or}
use Rattle.mw_parse.proofs.trees.+trees.Given as goal

-- room first, then the functions in turn
abbrev before : Room → ℕ → ℕ
before room turn = room.nodes * 20000000000 + (10000000000 + turn)

-- what is left of a row of operators, after all of these
abbrev after_rows : Room → ℕ → ℕ
after_rows room height = room.nodes * 20000000000 + (2 ^ 32 - height) * 2

abbrev level : Row → ℕ
level sum = 700
level product = 600
level application = 500

abbrev connective_level : Connective → ℕ
connective_level And = 800
connective_level Or = 850

abbrev pub decreases-atom_tree : goal.decreases-atom_tree
decreases-atom_tree l = before l.room 10

abbrev pub decreases-atom_inside : goal.decreases-atom_inside
decreases-atom_inside l = before l.room 980

abbrev pub decreases-bracketed : goal.decreases-bracketed
decreases-bracketed l = before l.room 960

abbrev pub decreases-escaped : goal.decreases-escaped
decreases-escaped l = before l.room 20

abbrev pub decreases-in_parens : goal.decreases-in_parens
decreases-in_parens l = before l.room 970

abbrev pub decreases-grouped : goal.decreases-grouped
decreases-grouped l = before l.room 965

abbrev pub decreases-paired : goal.decreases-paired
decreases-paired l = before l.room 962

abbrev pub decreases-head_tree : goal.decreases-head_tree
decreases-head_tree l = before l.room 20

abbrev pub decreases-head_inside : goal.decreases-head_inside
decreases-head_inside l = before l.room 40

abbrev pub decreases-running : goal.decreases-running
decreases-running l = before l.room 30

abbrev pub decreases-comparison_tree : goal.decreases-comparison_tree
decreases-comparison_tree l = before l.room 790

abbrev pub decreases-connected_tree : goal.decreases-connected_tree
decreases-connected_tree l = before l.room (connective_level l.connective + 5)

abbrev pub decreases-connective_operand : goal.decreases-connective_operand
decreases-connective_operand l = before l.room (connective_level l.connective)

abbrev pub decreases-expr_tree : goal.decreases-expr_tree
decreases-expr_tree l = before l.room 950

abbrev pub decreases-function_tree : goal.decreases-function_tree
decreases-function_tree l = before l.room 940

abbrev pub decreases-conditional : goal.decreases-conditional
decreases-conditional l = before l.room 960

abbrev pub decreases-branches : goal.decreases-branches
decreases-branches l = before l.room 955

abbrev pub decreases-bound_tree : goal.decreases-bound_tree
decreases-bound_tree l = before l.room 985

abbrev pub decreases-binding : goal.decreases-binding
decreases-binding l = before l.room 984

abbrev pub decreases-recursive : goal.decreases-recursive
decreases-recursive l = before l.room 983

abbrev pub decreases-scoped : goal.decreases-scoped
decreases-scoped l = before l.room 955

abbrev pub decreases-parameter_tree : goal.decreases-parameter_tree
decreases-parameter_tree l = before l.room 1

abbrev pub decreases-body_tree : goal.decreases-body_tree
decreases-body_tree l = before l.room 980

abbrev pub decreases-behind_tree : goal.decreases-behind_tree
decreases-behind_tree l = before l.room 970

abbrev pub decreases-row_tree : goal.decreases-row_tree
decreases-row_tree l = before l.room (level (row_of l.row) + 50)

abbrev pub decreases-operand_tree : goal.decreases-operand_tree
decreases-operand_tree l = before l.room (level (row_of l.row))

abbrev pub decreases-right_tree : goal.decreases-right_tree
decreases-right_tree l = before l.room (level (row_of l.row))

abbrev pub decreases-more_trees : goal.decreases-more_trees
decreases-more_trees l = after_rows l.room l.height + 1

abbrev pub decreases-next_operand : goal.decreases-next_operand
decreases-next_operand l = after_rows l.room l.height
