use Rattle.std.proofs.Common.{◌≡◌, ◌++◌, drop, map}
use Rattle.mw_wasm.specs.Views.{function_of}
use Rattle.mw_ir.specs.Views.{ir_func_of}
use Rattle.mw_key.specs.declared.version.Version.TheVariants.{Two}
use Rattle.mw_gen.specs.Generate.{function_for}
use Rattle.mw_gen.specs.Listing.{AllShort}
use Rattle.mw_gen.specs.Parts.{moved_function}
use Rattle.mw_gen.proofs.functions.put_functions.Given as goal

abbrev pub invariant-loop-func : goal.invariant-loop-func
invariant-loop-func l = AllShort (map ir_func_of (drop l.func-index l.list))
    × (map function_of l.out ++ map (function_for Two) (map (moved_function l.fn.from)
    (map ir_func_of (drop l.func-index l.list))) ≡ map function_of l.fn.out
    ++ map (function_for Two) (map (moved_function l.fn.from) (map ir_func_of l.list)))
