use Rattle.std.proofs.Common.{append_assoc}
use Rattle.mw_encode.proofs.instructions.put_indirect_call.Goals as goal

pub returns : goal.returns
returns c = simp (c.in_ok-put_indexed.ensures, append_assoc) at c.put_byte.ensures
