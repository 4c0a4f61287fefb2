-- The sections that are made for what inference tells of a program are those of its written certificate.
use Rattle.std.proofs.Common.{◌≡◌, ℕ, zero, suc, ◌+◌, ◌<◌, List, [], ◌∷◌, map, length, Some, refl, ap, sym, ◌∙◌, subst}
use Rattle.std.proofs.Common.{arith}
use Rattle.std.specs.Prelude.{slice_get, option_map}
use Rattle.std.proofs.lemmas.Option.{same_Some, slice_get-map, slice_get_within}
use Rattle.mw_term.specs.Terms.{Expression}
use Rattle.mw_term.specs.Programs.{Definition, value as defines, kernel, PureProgram}
use Rattle.mw_term.specs.Typing.{TopLevel}
use Rattle.mw_term.specs.Typable.{seen_by_item, seen_by_main}
use Rattle.mw_term.specs.Parts.{Part, part_of_item, part_of_main, IsPart, an_item, main, IsResolved}
use Rattle.mw_types.specs.Types.{TypeExpression}
use Rattle.mw_types.specs.Numbered.{IsNumbered}
use Rattle.mw_types.proofs.InOrder.{low, last, low_or_last}
use Rattle.mw_recheck.specs.Sections.{SectionLines}
use Rattle.mw_recheck.specs.Certificates.{CertifiesBy, IsRootOf, notes_for_item, notes_for_main, defined_term}
use Rattle.mw_infer.specs.Schemes.{Scheme, TopScheme, IsInOrder}
use Rattle.mw_infer.specs.Inferring.{IsSchemeOf}
use Rattle.mw_infer.specs.Checking.{ArePrincipal}
use Rattle.mw_infer.specs.Nodes.{NodeFacts, AreNodesOf}
use Rattle.mw_infer.proofs.Extended.{Extends, IsSchemeOf-extended}
use Rattle.mw_infer.proofs.OneScheme.{one_scheme}
use Rattle.mw_infer.proofs.Progressing.{scoped-source}
use Rattle.mw_agree.specs.Writing.{IsSectionOf, AreSectionsOf}
use Rattle.mw_agree.proofs.Parts.{part-root}
use Rattle.mw_agree.proofs.RootSchemes.{root-scheme}
use Rattle.mw_agree.proofs.VisibleNames.{item_sees, main_sees}
use Rattle.mw_agree.proofs.ProgramCertificates.{inferred_certified}
use Rattle.mw_written.specs.Written.{IsWrittenSection, IsMainRoot}
use Rattle.mw_general.specs.Telling.{AreRootsOf}
use Rattle.mw_made.specs.Making.{section_of}
use Rattle.mw_made.specs.MakingLaws.{MadeAreWritten}
use Rattle.mw_made.proofs.Lists.{there}
use Rattle.mw_made.proofs.ReadingOrder.{numbers_of}
use Rattle.mw_made.proofs.PartSections.{part_writing, part_starts, part_section, part_root, part_written}
use Rattle.mw_made.proofs.SchemeNotes.{item_notes, main_notes}

-- the section at an index is made for the part there
made_at : (parts : List (List NodeFacts)) (i : ℕ) (x : SectionLines) → slice_get (map section_of parts) i ≡ Some x
    → (facts : List NodeFacts) × (slice_get parts i ≡ Some facts) × (section_of facts ≡ x)
made_at [] i x e = absurd (cc)
made_at (facts ∷ parts) zero x e = (facts, refl, same_Some (section_of facts) x e)
made_at (facts ∷ parts) (suc i) x e = made_at parts i x e

each_section : (parts : List (List NodeFacts))
    → ((i : ℕ) (facts : List NodeFacts) → slice_get parts i ≡ Some facts → IsSectionOf facts (section_of facts))
    → AreSectionsOf parts (map section_of parts)
each_section [] f = tt
each_section (facts ∷ parts) f = (f 0 facts refl, each_section parts (λ i xs e. f (suc i) xs e))

module _ (p : PureProgram) (parts : List (List NodeFacts)) (resolved : IsResolved p) (nodes : AreNodesOf p parts) where
  part_at : (i : ℕ) → i < length p.items + 1 → (x : Part) × IsPart p i x
  part_at i lt = elim (low_or_last (length p.items) i (omega arith)) [
    | low a ↦ let d = there p.items i a in (part_of_item (seen_by_item p.items i) d.0, an_item d.1)
    | last e ↦ (part_of_main p, main e)
  ]

  sections : AreSectionsOf parts (map section_of parts)
  sections = each_section parts (λ i facts e.
      let within = slice_get_within parts i facts e in
      let count = nodes.count in
      let x = part_at i (omega arith) in
      part_section x.0 facts (nodes.each i x.0 facts x.1 e))

  right : CertifiesBy (map section_of parts) p
  right = inferred_certified p parts (map section_of parts) resolved nodes sections

  -- a let's root is the scheme that its users have
  root-is : (j : ℕ) (e : Expression) (r : Scheme) (t : TypeExpression) (names : List TopLevel)
      → slice_get p.items j ≡ Some (defines e) → slice_get right.roots j ≡ Some t
      → Extends (seen_by_item p.items j) names → IsSchemeOf names e r → IsInOrder r → t ≡ r.type
  root-is j e r t names item at_root x scheme order =
      let within = slice_get_within p.items j (defines e) item in
      let count = nodes.count in
      let f = there parts j (omega arith) in
      let part : Part = part_of_item (seen_by_item p.items j) (defines e) in
      let y = nodes.each j part f.0 (an_item item) f.1 in
      let section = slice_get-map section_of parts j ∙ ap (λ z. option_map section_of z) f.1 in
      let c = right.item j (defines e) (section_of f.0) t item section at_root in
      let numbers = numbers_of (part_writing f.0) in
      let type = part-root part f.0 y numbers in
      let k = part_starts part f.0 y in
      let in_order = subst (λ z. IsNumbered 0 0 z k.0 k.1) type k.2 in
      let s = root-scheme (seen_by_item p.items j) e f.0
      (scoped-source _ _ _ e (resolved.scoped j part (an_item item))) y numbers k.0 k.1 in_order in
      let one = one_scheme names e r _ scheme (IsSchemeOf-extended (seen_by_item p.items j) names x e _ s) order
      in_order in
      let type_of : Scheme → TypeExpression = λ z. z.type in
      part_root part f.0 y _ t c.1 ∙ type ∙ sym (ap type_of one)

  item_roots : (i : ℕ) (schemes : List TopScheme) → ArePrincipal (seen_by_item p.items i) schemes
      → AreRootsOf schemes (notes_for_item p.items right.roots i)
  item_roots i schemes h =
      let names = seen_by_item p.items i in
      item_notes names p.items right.roots i schemes right.root_count h.of h.in_order
      (λ j e r t lt a b s o. root-is j e r t names a b (item_sees p.items j i lt) s o)

  main_roots : (schemes : List TopScheme) → ArePrincipal (seen_by_main p.items) schemes
      → AreRootsOf schemes (notes_for_main p.items right.roots)
  main_roots schemes h =
      let names = seen_by_main p.items in
      main_notes names p.items right.roots schemes right.root_count h.of h.in_order
      (λ j e r t lt a b s o. root-is j e r t names a b (main_sees p.items j) s o)

  item_written : (i : ℕ) (d : Definition) (facts : List NodeFacts) → slice_get p.items i ≡ Some d
      → slice_get parts i ≡ Some facts
      → IsWrittenSection (notes_for_item p.items right.roots i) (defined_term d) (IsRootOf d) (section_of facts)
  item_written i (defines e) facts here at_part =
      let part = part_of_item (seen_by_item p.items i) (defines e) in
      let y = nodes.each i part facts (an_item here) at_part in
      part_written part facts y (notes_for_item p.items right.roots i) (IsRootOf (defines e))
      (item_roots i y.schemes y.principal) (λ t q. tt)
  item_written i (kernel k e) facts here at_part =
      let part = part_of_item (seen_by_item p.items i) (kernel k e) in
      let y = nodes.each i part facts (an_item here) at_part in
      part_written part facts y (notes_for_item p.items right.roots i) (IsRootOf (kernel k e))
      (item_roots i y.schemes y.principal) (λ t q. q)

  main_written : (facts : List NodeFacts) → slice_get parts (length p.items) ≡ Some facts
      → IsWrittenSection (notes_for_main p.items right.roots) p.body (IsMainRoot p) (section_of facts)
  main_written facts at_part =
      let y = nodes.each (length p.items) (part_of_main p) facts (main refl) at_part in
      part_written (part_of_main p) facts y (notes_for_main p.items right.roots) (IsMainRoot p)
      (main_roots y.schemes y.principal) (λ t q. q)

  item_is : (i : ℕ) (d : Definition) (x : SectionLines) → slice_get p.items i ≡ Some d
      → slice_get (map section_of parts) i ≡ Some x
      → IsWrittenSection (notes_for_item p.items right.roots i) (defined_term d) (IsRootOf d) x
  item_is i d x here section =
      let f = made_at parts i x section in
      subst (λ z. IsWrittenSection (notes_for_item p.items right.roots i) (defined_term d) (IsRootOf d) z) f.2
      (item_written i d f.0 here f.1)

  main_is : (x : SectionLines) → slice_get (map section_of parts) (length p.items) ≡ Some x
      → IsWrittenSection (notes_for_main p.items right.roots) p.body (IsMainRoot p) x
  main_is x section =
      let f = made_at parts (length p.items) x section in
      subst (λ z. IsWrittenSection (notes_for_main p.items right.roots) p.body (IsMainRoot p) z) f.2
      (main_written f.0 f.1)

pub made_written : MadeAreWritten
made_written p parts resolved nodes = record {
  right = right p parts resolved nodes;
  item = λ i d x a b. item_is p parts resolved nodes i d x a b;
  main = λ x a. main_is p parts resolved nodes x a;
}
