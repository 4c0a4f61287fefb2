use Rattle.std.proofs.Common.{ap, ◌∙◌, ◌++◌, map}
use Rattle.std.specs.List.{flat_map}
use Rattle.std.proofs.lemmas.List.{map-id}
use Rattle.mw_wasm.specs.BinaryModules.{at_most_one}
use Rattle.mw_wasm.specs.Views.{function_of, global_of, export_of, element_of, segment_of}
use Rattle.mw_wat.specs.CanonicalTexts.{line}
use Rattle.mw_wat.specs.Lexemes.{function_type, function, table, memory, global, export, element, data_segment}
use Rattle.mw_wat.proofs.FieldTexts.{seen_as, seen_last, then_lines, last_lines}
use Rattle.mw_wat.proofs.put_fields.Goals as goal

pub returns : goal.returns
returns c =
    let m = c.args.wasm.now in
    let types = map function_type m.types in
    let funcs = map function (map function_of m.funcs) in
    let tables = map table (at_most_one m.table) in
    let memories = map memory (at_most_one m.memory) in
    let globals = map global (map global_of m.globals) in
    let exports = map export (map export_of m.exports) in
    let elements = map element (map element_of m.elements) in
    let segments = map data_segment (map segment_of m.segments) in
    last_lines c.put_all-6.result _ _ _
    (types ++ funcs ++ tables ++ memories ++ globals ++ exports ++ elements) segments
    (then_lines _ _ _ (types ++ funcs ++ tables ++ memories ++ globals ++ exports) elements
    (then_lines _ _ _ (types ++ funcs ++ tables ++ memories ++ globals) exports
    (then_lines _ _ _ (types ++ funcs ++ tables ++ memories) globals
    (then_lines _ _ _ (types ++ funcs ++ tables) memories
    (then_lines _ _ _ (types ++ funcs) tables
    (then_lines _ _ _ types funcs
    (c.in_ok-put_all.ensures ∙ ap (λ ls. c.args.out.now.items ++ flat_map line ls)
    (ap (λ ts. map function_type (map (λ kind. kind) ts)) c.as_slice.ensures ∙ ap (λ ts. map function_type ts)
    (map-id m.types)))
    (seen_as _ _ function function_of c.as_slice-2.ensures c.in_ok-put_all-2.ensures))
    c.in_ok-put_tables.ensures)
    c.in_ok-put_memories.ensures)
    (seen_as _ _ global global_of c.as_slice-3.ensures c.in_ok-put_all-3.ensures))
    (seen_as _ _ export export_of c.as_slice-4.ensures c.in_ok-put_all-4.ensures))
    (seen_as _ _ element element_of c.as_slice-5.ensures c.in_ok-put_all-5.ensures))
    (seen_last c.put_all-6.result _ _ data_segment segment_of c.as_slice-6.ensures c.put_all-6.ensures)
