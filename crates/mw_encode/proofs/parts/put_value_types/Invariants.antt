use Rattle.std.proofs.Common.{◌≡◌, ◌++◌, drop}
use Rattle.std.specs.List.{flat_map}
use Rattle.mw_encode.specs.Encoding.{value_type_bytes, vector_bytes}
use Rattle.mw_encode.proofs.parts.put_value_types.Given as goal

abbrev pub invariant-loop-kind : goal.invariant-loop-kind
invariant-loop-kind l = l.out.items ++ flat_map value_type_bytes (drop l.kind-index l.list) ≡ l.fn.out.items
    ++ vector_bytes value_type_bytes l.list
