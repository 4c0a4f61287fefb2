use Rattle.std.proofs.Common.{◌<◌, ◌^◌, ◌∷◌, [], length, append-nil, arith}
use Rattle.std.proofs.lemmas.Grind.{common_steps}
use Rattle.mw_wasm.specs.BinaryModules.{table}
use Rattle.mw_encode.specs.Encoding.{table_bytes, vector_bytes}
use Rattle.mw_encode.proofs.Pieces.{section_small}
use Rattle.mw_encode.proofs.BestModules.{best_table}
use Rattle.mw_encode.proofs.sections.put_table_section.Goals as goal

pub put_section-requires : goal.put_section-requires
put_section-requires c =
    let small : length (vector_bytes table_bytes (c.in-Some.limits ∷ [])) < 2 ^ 32 =
    section_small 4 table table_bytes best_table (c.in-Some.limits ∷ []) (omega arith)
    (rw c.in-Some.is at c.requires) in
    grind (arith, common_steps, append-nil)
