-- The sections of a module that is spelled.
use Rattle.std.proofs.Common.{◌≡◌, ℕ, List}
use Rattle.mw_wasm.specs.Syntax.{PureModule}
use Rattle.mw_wasm.specs.BinaryModules.{section, function_type, function_kind, table, limits, global, export, element}
use Rattle.mw_wasm.specs.BinaryModules.{function_code, data_segment, at_most_one, Spells}
use Rattle.mw_encode.specs.Encoding.{Spelled, encoding}
use Rattle.mw_encode.proofs.BestModules.{best_module}

pub record Sections (m : PureModule) : Type 0 where
  pub types : Spelled (section 1 function_type m.types)
  pub kinds : Spelled (section 3 function_kind m.funcs)
  pub table : Spelled (section 4 table (at_most_one m.table))
  pub memory : Spelled (section 5 limits (at_most_one m.memory))
  pub globals : Spelled (section 6 global m.globals)
  pub exports : Spelled (section 7 export m.exports)
  pub elements : Spelled (section 9 element m.elements)
  pub bodies : Spelled (section 10 function_code m.funcs)
  pub segments : Spelled (section 11 data_segment m.segments)

pub sections_of : (m : PureModule) → (bytes : List ℕ) × Spells bytes m → Sections m
sections_of m (bytes, p) =
    let p1 = p.second.second in
    let p3 = p1.second.second.second.second in
    let p4 = p3.second.second in
    let p5 = p4.second.second in
    let p6 = p5.second.second in
    let p7 = p6.second.second in
    let p9 = p7.second.second in
    let p10 = p9.second.second in
    let p11 = p10.second.second in
    record {
      types = record { bytes = _; spell = p1.first };
      kinds = record { bytes = _; spell = p3.first };
      table = record { bytes = _; spell = p4.first };
      memory = record { bytes = _; spell = p5.first };
      globals = record { bytes = _; spell = p6.first };
      exports = record { bytes = _; spell = p7.first };
      elements = record { bytes = _; spell = p9.first };
      bodies = record { bytes = _; spell = p10.first };
      segments = record { bytes = _; spell = p11.first };
    }

pub encoding_spells : (m : PureModule) (bytes : List ℕ) → (other : List ℕ) × Spells other m → bytes ≡ encoding m
    → Spells bytes m
encoding_spells m bytes (other, p) e = rw e ((best_module m).spells other p)
