-- The canonical bytes of modules.
use Rattle.std.proofs.Common.{◌≡◌, ℕ, List, [], ◌∷◌, ◌++◌, Bool, true, false, Option, Some, None, append_assoc}
use Rattle.std.proofs.Common.{append-nil, refl, arith}
use Rattle.mw_wasm.specs.declared.modules.Limits.{Limits}
use Rattle.mw_wasm.specs.declared.modules.FuncType.{FuncType}
use Rattle.mw_wasm.specs.declared.modules.Exported.{Exported}
use Rattle.mw_wasm.specs.declared.modules.Exported.TheVariants.{Func, Table, Memory, Global as Variable}
use Rattle.mw_wasm.specs.Syntax.{Function, Global, Exporting, ElementSegment, DataSegment, PureModule}
use Rattle.mw_wasm.specs.Pieces.{octet, u32}
use Rattle.mw_wasm.specs.BinaryInstructions.{value_type}
use Rattle.mw_wasm.specs.BinaryModules.{function_type, limits_of, limits, table, mutability, global, function_kind}
use Rattle.mw_wasm.specs.BinaryModules.{exported, export, element, data_segment, function_code, import_section, customs}
use Rattle.mw_wasm.specs.BinaryModules.{at_most_one, Spells}
use Rattle.mw_encode.specs.Encoding.{number, value_type_bytes, octet_bytes, function_type_bytes, limits_of_bytes}
use Rattle.mw_encode.specs.Encoding.{limits_bytes, table_bytes, mutability_byte, global_bytes, function_kind_bytes}
use Rattle.mw_encode.specs.Encoding.{exported_bytes, export_bytes, element_bytes, segment_bytes, function_code_bytes}
use Rattle.mw_encode.specs.Encoding.{header_bytes, encoding, EncodingIsShortest}
use Rattle.mw_encode.proofs.Best.{Best, best_exactly, best_byte, best_octet, best_then, best_u32, best_vector}
use Rattle.mw_encode.proofs.Best.{best_sized, best_section, best_or_left}
use Rattle.mw_encode.proofs.BestInstructions.{best_value_type, best_expression}
use Rattle.mw_encode.proofs.BestLocals.{best_locals}

pub best_function_type : (t : FuncType) → Best (function_type t) (function_type_bytes t)
best_function_type t =
    best_then (best_byte 0x60) (best_then (best_vector value_type value_type_bytes best_value_type t.params)
    (best_vector value_type value_type_bytes best_value_type t.results))

best_limits_of : (min : ℕ) (max : Option ℕ) → Best (limits_of min max) (limits_of_bytes min max)
best_limits_of min None = best_then (best_byte 0x00) (best_u32 min)
best_limits_of min (Some max) = best_then (best_byte 0x01) (best_then (best_u32 min) (best_u32 max))

pub best_limits : (l : Limits) → Best (limits l) (limits_bytes l)
best_limits l = best_limits_of l.min l.max

pub best_table : (l : Limits) → Best (table l) (table_bytes l)
best_table l = best_then (best_byte 0x70) (best_limits l)

best_mutability : (b : Bool) → Best (mutability b) (mutability_byte b ∷ [])
best_mutability false = best_byte 0x00
best_mutability true = best_byte 0x01

pub best_global : (g : Global) → Best (global g) (global_bytes g)
best_global g = best_then (best_value_type g.kind) (best_then (best_mutability g.variable) (best_expression g.init))

pub best_function_kind : (f : Function) → Best (function_kind f) (function_kind_bytes f)
best_function_kind f = best_u32 f.kind

best_exported : (e : Exported) → Best (exported e) (exported_bytes e)
best_exported (Func x) = best_then (best_byte 0x00) (best_u32 x)
best_exported (Table x) = best_then (best_byte 0x01) (best_u32 x)
best_exported (Memory x) = best_then (best_byte 0x02) (best_u32 x)
best_exported (Variable x) = best_then (best_byte 0x03) (best_u32 x)

pub best_export : (e : Exporting) → Best (export e) (export_bytes e)
best_export e = best_then (best_vector octet octet_bytes best_octet e.name) (best_exported e.what)

pub best_element : (e : ElementSegment) → Best (element e) (element_bytes e)
best_element e = best_then (best_u32 0) (best_then (best_expression e.offset) (best_vector u32 number best_u32 e.funcs))

pub best_segment : (d : DataSegment) → Best (data_segment d) (segment_bytes d)
best_segment d =
    best_then (best_u32 0) (best_then (best_expression d.offset) (best_vector octet octet_bytes best_octet d.bytes))

pub best_function_code : (f : Function) → Best (function_code f) (function_code_bytes f)
best_function_code f = best_sized (best_then (best_locals f.locals) (best_expression f.body))

best_import : Best import_section []
best_import = best_or_left (best_exactly []) refl (λ other p. omega arith)

best_customs : Best customs []
best_customs = record { spells = λ other p. record { contents = []; spelled = refl }; least = λ other p. omega arith }

regroup : (h a b c d e f g i j : List ℕ) → h ++ a ++ b ++ c ++ d ++ e ++ f ++ g ++ i ++ j ≡ h
    ++ (a ++ (b ++ (c ++ (d ++ (e ++ (f ++ (g ++ (i ++ (j ++ [])))))))))
regroup h a b c d e f g i j = simp (append_assoc, append-nil)

pub best_module : (m : PureModule) → Best (λ bytes. Spells bytes m) (encoding m)
best_module m = rw (regroup _ _ _ _ _ _ _ _ _ _)
    (best_then (best_exactly header_bytes)
    (best_then best_customs (best_then (best_section 1 function_type function_type_bytes best_function_type m.types)
    (best_then best_customs (best_then best_import
    (best_then best_customs (best_then (best_section 3 function_kind function_kind_bytes best_function_kind m.funcs)
    (best_then best_customs (best_then (best_section 4 table table_bytes best_table (at_most_one m.table))
    (best_then best_customs (best_then (best_section 5 limits limits_bytes best_limits (at_most_one m.memory))
    (best_then best_customs (best_then (best_section 6 global global_bytes best_global m.globals)
    (best_then best_customs (best_then (best_section 7 export export_bytes best_export m.exports)
    (best_then best_customs (best_then (best_section 9 element element_bytes best_element m.elements)
    (best_then best_customs (best_then (best_section 10 function_code function_code_bytes best_function_code m.funcs)
    (best_then best_customs (best_then (best_section 11 data_segment segment_bytes best_segment m.segments)
    best_customs)))))))))))))))))))))

pub encoding_shortest : EncodingIsShortest
encoding_shortest m bytes p = let b = best_module m in (b.spells bytes p, b.least bytes p)
