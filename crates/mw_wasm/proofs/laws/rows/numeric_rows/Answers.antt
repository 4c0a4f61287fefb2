use Rattle.mw_wasm.proofs.NumericRows.{numeric_rows_32, numeric_rows_64, conversion_rows}
use Rattle.mw_wasm.proofs.laws.rows.numeric_rows.Goals as goal

pub returns-clause-at_32 : goal.returns-clause-at_32
returns-clause-at_32 c = numeric_rows_32

pub returns-clause-at_64 : goal.returns-clause-at_64
returns-clause-at_64 c = numeric_rows_64

pub returns-clause-conversions : goal.returns-clause-conversions
returns-clause-conversions c = conversion_rows
