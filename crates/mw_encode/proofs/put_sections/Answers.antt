use Rattle.mw_encode.proofs.Modules.{sections_of}
use Rattle.mw_encode.proofs.AppendedBytes.{after, after_last}
use Rattle.mw_encode.proofs.put_sections.Goals as goal

pub put_types-requires : goal.put_types-requires
put_types-requires c = (sections_of _ c.requires).types

pub put_kinds-requires : goal.put_kinds-requires
put_kinds-requires c = (sections_of _ c.requires).kinds

pub put_table_section-requires : goal.put_table_section-requires
put_table_section-requires c = (sections_of _ c.requires).table

pub put_memory_section-requires : goal.put_memory_section-requires
put_memory_section-requires c = (sections_of _ c.requires).memory

pub put_globals-requires : goal.put_globals-requires
put_globals-requires c = (sections_of _ c.requires).globals

pub put_exports-requires : goal.put_exports-requires
put_exports-requires c = (sections_of _ c.requires).exports

pub put_elements-requires : goal.put_elements-requires
put_elements-requires c = (sections_of _ c.requires).elements

pub put_bodies-requires : goal.put_bodies-requires
put_bodies-requires c = (sections_of _ c.requires).bodies

pub put_segments-requires : goal.put_segments-requires
put_segments-requires c = (sections_of _ c.requires).segments

pub returns : goal.returns
returns c = after_last c.put_segments.result c.put_segments.new.out.items _
    (after _ (after _
    (after _ (after _
    (after _ (after _ (after _ c.in_ok-put_types.ensures c.in_ok-put_kinds.ensures) c.in_ok-put_table_section.ensures)
    c.in_ok-put_memory_section.ensures) c.in_ok-put_globals.ensures) c.in_ok-put_exports.ensures)
    c.in_ok-put_elements.ensures) c.in_ok-put_bodies.ensures) c.put_segments.ensures
