-- The module of converted code, as programs hold it.
use Rattle.std.specs.Prelude.{List, map}
use Rattle.mw_term.specs.Terms.{KernelType}
use Rattle.mw_wasm.specs.Syntax.{PureModule}
use Rattle.mw_ir.specs.declared.code.Converted.{Converted}
use Rattle.mw_ir.specs.Ir.{IrFunc}
use Rattle.mw_ir.specs.Views.{ir_func_of}
use Rattle.mw_key.specs.declared.version.Version.{Version}
use Rattle.mw_gen.specs.Generate.{module_with}
use Rattle.mw_gen.specs.Generation.{MeansConverted}

-- its functions, and the code outside them
abbrev pub functions_in : Converted → List IrFunc
functions_in c = map ir_func_of c.funcs

abbrev pub outer_in : Converted → IrFunc
outer_in c = ir_func_of c.body

abbrev pub generated : Version → Converted → KernelType → PureModule
generated v c k = module_with v (functions_in c) (outer_in c).slots (outer_in c).body k

-- a module does what converted code means
abbrev pub DoesConverted : PureModule → Converted → KernelType → Type 0
DoesConverted m c k = MeansConverted m (functions_in c) (outer_in c).body k
