-- What items have, as a certificate is followed.
use Rattle.std.specs.Prelude.{ℕ, ◌<◌, ◌^◌, true, false, if◌then◌else◌, List, [], ◌∷◌, map, Option, Some, None}
use Rattle.mw_term.specs.Terms.{size}
use Rattle.mw_term.specs.declared.program.Item.{Item}
use Rattle.mw_term.specs.Programs.{Definition, value as defines, kernel, definition_of}
use Rattle.mw_types.specs.Types.{TypeExpression}
use Rattle.mw_recheck.specs.Options.{◌>>=◌}
use Rattle.mw_recheck.specs.Notes.{TopNote, let_root, kernel_root}
use Rattle.mw_recheck.specs.Certificates.{defined_term, notes_for_main}
use Rattle.mw_recheck.specs.Deciding.{note_seen, is_root, root_at, roots_at}
use Rattle.mw_recheck.specs.Roots.{top_of}
use Rattle.mw_recheck.specs.declared.names.Root.{Root}

abbrev pub definitions_of : List Item → List Definition
definitions_of items = map (λ i. definition_of i.kind) items

-- terms have numbers of nodes of 32 bits
abbrev pub AreSmall : List Definition → Type 0
AreSmall [] = Unit {0}
AreSmall (d ∷ items) = (size (defined_term d) < 2 ^ 32) × AreSmall items

-- what main sees of an item
abbrev pub main_note : Definition → TypeExpression → TopNote
main_note (defines e) t = let_root t
main_note (kernel k e) t = kernel_root k

-- what later items see of an item, and what main sees
pub record SeenAs : Type 0 where
  pub by_items : TopNote
  pub by_main : TopNote

abbrev pub seen_as : Root → SeenAs
seen_as r = record { by_items = top_of false r; by_main = top_of true r }

-- an item with whose section the bytes begin
abbrev pub item_at : List TopNote → Definition → List ℕ → Option (SeenAs × List ℕ)
item_at tops d bytes =
    root_at tops (defined_term d) bytes >>= λ x.
    (if is_root d x.0 then Some (record { by_items = note_seen d x.0; by_main = main_note d x.0 }, x.1) else None)

-- what main sees of items with whose sections the bytes begin
abbrev pub main_notes_at : List TopNote → List Definition → List ℕ → Option (List TopNote × List ℕ)
main_notes_at tops items bytes = roots_at tops items bytes >>= λ r. Some (notes_for_main items r.0, r.1)
