-- Worked examples of the emission, by computation.
use Rattle.std.proofs.Common.{refl}
use Rattle.mw_encode.specs.Encoding.{runs_of, runs_from}
use Rattle.mw_leb.specs.Shortest.{shortest_unsigned, shortest_signed, groups}
use Rattle.mw_key.specs.declared.version.Version.TheVariants.{One, Two}
use Rattle.mw_gen.specs.Examples.{SevenIsEmitted, CubeIsEmitted, SelfTailCallIsACall, SelfTailCallIsABranch}

pub seven_is_emitted : SevenIsEmitted
seven_is_emitted v = refl

pub cube_is_emitted : CubeIsEmitted
cube_is_emitted One = refl
cube_is_emitted Two = refl

pub self_tail_call_is_a_call : SelfTailCallIsACall
unfolding runs_of runs_from shortest_unsigned shortest_signed groups
self_tail_call_is_a_call = refl

pub self_tail_call_is_a_branch : SelfTailCallIsABranch
unfolding runs_of runs_from shortest_unsigned shortest_signed groups
self_tail_call_is_a_branch = refl
