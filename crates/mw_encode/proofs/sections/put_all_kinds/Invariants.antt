use Rattle.std.proofs.Common.{◌++◌, drop, map}
use Rattle.mw_wasm.specs.BinaryModules.{function_kind}
use Rattle.mw_wasm.specs.Views.{function_of}
use Rattle.mw_encode.specs.Encoding.{function_kind_bytes, vector_bytes}
use Rattle.mw_encode.proofs.Pieces.{Rest}
use Rattle.mw_encode.proofs.sections.put_all_kinds.Given as goal

abbrev pub invariant-loop-one : goal.invariant-loop-one
invariant-loop-one l = Rest (λ x. function_kind (function_of x)) (λ x. function_kind_bytes (function_of x))
    (drop l.one-index l.items) l.out.items
    (l.fn.out.items ++ vector_bytes function_kind_bytes (map function_of l.items))
