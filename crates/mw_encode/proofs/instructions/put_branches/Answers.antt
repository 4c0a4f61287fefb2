use Rattle.std.proofs.Common.{◌++◌, ◌∷◌, [], append_assoc}
use Rattle.mw_encode.specs.Encoding.{number, vector_bytes}
use Rattle.mw_encode.proofs.instructions.put_branches.Goals as goal

pub returns : goal.returns
returns c =
    rw (
      c.in_ok-put_indices.ensures,
      c.in_ok-put_byte.ensures,
      append_assoc (c.args.out.now.items ++ 14 ∷ []) (vector_bytes number c.args.labels.now) _,
      append_assoc c.args.out.now.items (14 ∷ []) _,
    ) at c.put_u32.ensures.exact
