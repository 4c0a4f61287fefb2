-- Sections that are written for what inference tells of a program's nodes.
use Rattle.std.specs.Prelude.{ℕ, ◌≡◌, List, [], ◌∷◌, map, length}
use Rattle.mw_types.specs.Types.{TypeExpression}
use Rattle.mw_types.specs.Numbered.{IsNumbered}
use Rattle.mw_lines.specs.TypeLines.{AreTypeLines}
use Rattle.mw_recheck.specs.Sections.{SectionLines}
use Rattle.mw_infer.specs.Nodes.{NodeFacts}
use Rattle.mw_agree.specs.Telling.{Tell, NewNumbers, with_numbers, root_of}

-- the numbers that the type names stand in their order, from 0
abbrev pub StartsInOrder : TypeExpression → Type 0
StartsInOrder t = (k l : ℕ) × IsNumbered 0 0 t k l

-- A section tells the types and classifiers of a term's nodes, with new numbers: those of the term's type, which is
-- read first, are in order.
pub record IsSectionOf (facts : List NodeFacts) (x : SectionLines) : Type 0 where
  pub numbers : NewNumbers
  pub in_order : StartsInOrder (root_of (map (with_numbers numbers) facts))
  pub types : List TypeExpression
  pub table : AreTypeLines x.types types
  pub count : length x.nodes ≡ length facts
  pub told : Tell (record { types = types; nodes = x.nodes }) 0 (map (with_numbers numbers) facts)

-- a section for each part
abbrev pub AreSectionsOf : List (List NodeFacts) → List SectionLines → Type 0
AreSectionsOf [] [] = Unit {0}
AreSectionsOf [] (x ∷ xs) = ⊥
AreSectionsOf (facts ∷ parts) [] = ⊥
AreSectionsOf (facts ∷ parts) (x ∷ xs) = IsSectionOf facts x × AreSectionsOf parts xs
