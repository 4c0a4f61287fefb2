-- The rows of operators of the reader, as the grammar's.
use Rattle.mw_grammar.specs.Grammar as Pure
use Rattle.mw_grammar.specs.Forms as forms
use Rattle.mw_grammar.specs.declared.rows.Row.{Row}
use Rattle.mw_grammar.specs.declared.rows.Row.TheVariants as rows
use Rattle.mw_grammar.specs.declared.rows.Operator.{Operator}
use Rattle.mw_grammar.specs.declared.rows.Operator.TheVariants as operators

abbrev pub row_of : Row → Pure.Row
row_of rows.Sum = Pure.sum
row_of rows.Product = Pure.product
row_of rows.Application = Pure.application

abbrev pub op_of : Operator → forms.Op
op_of (operators.Sign p) = forms.by_sign p
op_of operators.Apply = forms.apply
