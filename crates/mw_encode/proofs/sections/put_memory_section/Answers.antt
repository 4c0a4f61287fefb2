use Rattle.std.proofs.Common.{◌<◌, ◌^◌, ◌∷◌, [], length, append-nil, arith}
use Rattle.std.proofs.lemmas.Grind.{common_steps}
use Rattle.mw_wasm.specs.BinaryModules.{limits}
use Rattle.mw_encode.specs.Encoding.{limits_bytes, vector_bytes}
use Rattle.mw_encode.proofs.Pieces.{section_small}
use Rattle.mw_encode.proofs.BestModules.{best_limits}
use Rattle.mw_encode.proofs.sections.put_memory_section.Goals as goal

pub put_section-requires : goal.put_section-requires
put_section-requires c =
    let small : length (vector_bytes limits_bytes (c.in-Some.limits ∷ [])) < 2 ^ 32 =
    section_small 5 limits limits_bytes best_limits (c.in-Some.limits ∷ []) (omega arith)
    (rw c.in-Some.is at c.requires) in
    grind (arith, common_steps, append-nil)
