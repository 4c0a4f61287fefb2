use Rattle.std.proofs.Common.{rules}
use Rattle.std.proofs.lemmas.Iterator.{items_from_drains, YieldsList-from_slice, YieldsList-from_map_by}
use Rattle.std.proofs.lemmas.Bool.Decides.{eqb_tells}
use Rattle.mw_wasm.specs.declared.modules.Export.{Export}
use Rattle.mw_wasm.specs.Views.{export_of}
use Rattle.mw_validate.proofs.NameSets.{counted}
use Rattle.mw_validate.proofs.names.names_differ.Goals as goal

pub returns : goal.returns
returns c =
    let made = c.in_ok-names.ensures.ran in
    let road = YieldsList-from_map_by _ _ (λ (e : Export). (export_of e).name)
    (YieldsList-from_slice c.args.exports.now (search rules)) c.map.ensures.closure (λ x r q k. search rules) in
    rw c.len.ensures.len
    (counted made.0 c.in_ok-names.names c.args.exports.now made.2 (items_from_drains made.0 made.1 road) _
    (eqb_tells _ _))
