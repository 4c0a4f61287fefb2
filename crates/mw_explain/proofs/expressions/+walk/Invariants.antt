use Rattle.std.proofs.Common.{ℕ, ◌+◌, ◌*◌}
use Rattle.mw_grammar.specs.declared.rows.Row.{Row}
use Rattle.mw_grammar.specs.declared.rows.Row.TheVariants.{Sum, Product, Application}
use Rattle.mw_explain.proofs.expressions.+walk.Given as goal

-- room first, then the functions in turn

abbrev level_of : Row → ℕ
level_of Sum = 300
level_of Product = 200
level_of Application = 100

abbrev pub decreases-operand : goal.decreases-operand
decreases-operand l = l.room * 1000 + level_of l.level

abbrev pub decreases-right_operand : goal.decreases-right_operand
decreases-right_operand l = l.room * 1000 + (level_of l.level + 5)

abbrev pub decreases-row : goal.decreases-row
decreases-row l = l.room * 1000 + (level_of l.level + 10)

abbrev pub decreases-atom : goal.decreases-atom
decreases-atom l = l.room * 1000 + 10

abbrev pub decreases-prefixed : goal.decreases-prefixed
decreases-prefixed l = l.room * 1000 + 20

abbrev pub decreases-negated : goal.decreases-negated
decreases-negated l = l.room * 1000 + 20

abbrev pub decreases-headed : goal.decreases-headed
decreases-headed l = l.room * 1000 + 30

abbrev pub decreases-head : goal.decreases-head
decreases-head l = l.room * 1000 + 40

abbrev pub decreases-comparison : goal.decreases-comparison
decreases-comparison l = l.room * 1000 + 400

abbrev pub decreases-conjunction : goal.decreases-conjunction
decreases-conjunction l = l.room * 1000 + 410

abbrev pub decreases-disjunction : goal.decreases-disjunction
decreases-disjunction l = l.room * 1000 + 420

abbrev pub decreases-function : goal.decreases-function
decreases-function l = l.room * 1000 + 425

abbrev pub decreases-expression : goal.decreases-expression
decreases-expression l = l.room * 1000 + 430

abbrev pub decreases-defined : goal.decreases-defined
decreases-defined l = l.room * 1000 + 440

abbrev pub decreases-recursive : goal.decreases-recursive
decreases-recursive l = l.room * 1000 + 445

abbrev pub decreases-binding : goal.decreases-binding
decreases-binding l = l.room * 1000 + 450

abbrev pub decreases-conditional : goal.decreases-conditional
decreases-conditional l = l.room * 1000 + 460

abbrev pub decreases-scoped : goal.decreases-scoped
decreases-scoped l = l.room * 1000 + 460

abbrev pub decreases-grouped : goal.decreases-grouped
decreases-grouped l = l.room * 1000 + 470

abbrev pub decreases-bracketed : goal.decreases-bracketed
decreases-bracketed l = l.room * 1000 + 470

abbrev pub decreases-in_parens : goal.decreases-in_parens
decreases-in_parens l = l.room * 1000 + 480
