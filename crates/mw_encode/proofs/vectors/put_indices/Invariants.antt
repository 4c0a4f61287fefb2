use Rattle.std.proofs.Common.{◌≡◌, ◌++◌, drop}
use Rattle.std.specs.List.{flat_map}
use Rattle.mw_encode.specs.Encoding.{number, vector_bytes}
use Rattle.mw_encode.proofs.vectors.put_indices.Given as goal

abbrev pub invariant-loop-index : goal.invariant-loop-index
invariant-loop-index l = l.out.items ++ flat_map number (drop l.index-index l.list) ≡ l.fn.out.items
    ++ vector_bytes number l.list
