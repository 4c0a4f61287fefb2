use Rattle.std.proofs.Common.{◌+◌, ◌*◌}
use Rattle.mw_term.specs.Terms.{expression_of, size}
use Rattle.mw_conv.proofs.code.Converter.+convert.Given as goal

abbrev pub decreases-convert : goal.decreases-convert
decreases-convert l = 4 * size (expression_of l.term.now)

abbrev pub decreases-convert_boxed : goal.decreases-convert_boxed
decreases-convert_boxed l = 4 * size (expression_of l.term.now) + 1

abbrev pub decreases-convert_function : goal.decreases-convert_function
decreases-convert_function l = 4 * size (expression_of l.body.now) + 1

abbrev pub decreases-convert_two : goal.decreases-convert_two
decreases-convert_two l = 4 * (size (expression_of l.first.now) + size (expression_of l.second.now)) + 2

abbrev pub decreases-convert_let : goal.decreases-convert_let
decreases-convert_let l = 4 * (size (expression_of l.definition.now) + size (expression_of l.body.now)) + 2

abbrev pub decreases-convert_if : goal.decreases-convert_if
decreases-convert_if l =
    4 * (size (expression_of l.condition.now) + size (expression_of l.yes.now) + size (expression_of l.no.now)) + 3
