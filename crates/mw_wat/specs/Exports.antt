-- What an export gives, as the functions that read texts answer.
use Rattle.std.specs.Prelude.{ℕ}
use Rattle.mw_wasm.specs.declared.modules.Exported.{Exported}
use Rattle.mw_wasm.specs.declared.modules.Exported.TheVariants as what
use Rattle.mw_wat.specs.declared.reading.parts.Kind.{Kind}
use Rattle.mw_wat.specs.declared.reading.parts.Kind.TheVariants.{Func, Table, Memory, Global}

abbrev pub exporting : Kind → ℕ → Exported
exporting Func = what.Func
exporting Table = what.Table
exporting Memory = what.Memory
exporting Global = what.Global
