-- The module of a kernel's code at a kernel type, in either version.
use Rattle.mw_term.specs.Terms.{Expression, KernelType}
use Rattle.mw_wasm.specs.Syntax.{PureModule}
use Rattle.mw_conv.specs.Convert.{converted_functions, converted_outside}
use Rattle.mw_key.specs.declared.version.Version.{Version}
use Rattle.mw_gen.specs.Generate.{module_with}

abbrev pub emitted : Version → Expression → KernelType → PureModule
emitted v c k = module_with v (converted_functions c) (converted_outside c).slots (converted_outside c).body k
