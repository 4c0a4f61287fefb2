-- The section that is made for a part tells what inference tells of it, and is the written one among those that are
-- right.
use Rattle.std.proofs.Common.{◌≡◌, ℕ, List, [], ◌∷◌, ◌++◌, map, length, refl, ap, sym, ◌∙◌, subst, append_assoc}
use Rattle.std.specs.Prelude.{option_to_list}
use Rattle.std.proofs.lemmas.List.{length-map}
use Rattle.mw_term.specs.Parts.{Part}
use Rattle.mw_types.specs.Types.{TypeExpression}
use Rattle.mw_types.specs.Numbered.{IsNumbered, an_int}
use Rattle.mw_lines.specs.Naming.{types_named}
use Rattle.mw_lines.proofs.NamedTypes.{one_list}
use Rattle.mw_recheck.specs.Notes.{Notes, TopNote, Noted}
use Rattle.mw_recheck.specs.Certificates.{Certified}
use Rattle.mw_term.specs.Types.{live}
use Rattle.mw_infer.specs.Nodes.{NodeFacts, AreNodesOfPart}
use Rattle.mw_section.specs.Writing.{Writing, nothing_written}
use Rattle.mw_section.proofs.LaterWrites.{continued_same}
use Rattle.mw_section.proofs.NamedTypes.{are_type_lines}
use Rattle.mw_agree.specs.Telling.{Tell, with_numbers, first_type, root_of}
use Rattle.mw_agree.specs.Writing.{StartsInOrder, IsSectionOf}
use Rattle.mw_agree.proofs.WrittenNodeLines.{told-section}
use Rattle.mw_written.specs.Readings.{Reading, a_type, a_classifier, readings, section_readings, reading_value}
use Rattle.mw_written.specs.Order.{AreNumbered, type_read, AreCompleted, with_readings}
use Rattle.mw_written.specs.Written.{IsWrittenSection}
use Rattle.mw_general.specs.Telling.{fact_readings, AreRootsOf, IsRootAt}
use Rattle.mw_general.proofs.General.{inferred_general}
use Rattle.mw_made.specs.Making.{nodes_written, section_of}
use Rattle.mw_made.proofs.WrittenNodes.{nodes_there, nodes_count}
use Rattle.mw_made.proofs.PartTypeLines.{part_formed, part_typed}
use Rattle.mw_made.proofs.ReadingOrder.{numbers_of, facts_numbered}
use Rattle.mw_made.proofs.CompletedTypes.{facts_completed}
use Rattle.mw_made.proofs.NodeReadings.{told_read, part_counts}
use Rattle.mw_made.proofs.RenumberedAssignments.{earlier, facts_earlier}
use Rattle.mw_made.proofs.RootTypes.{root_told}

-- the type that is read first has its numbers in order
starts_at : {n m : ℕ} {t : TypeExpression} {rs : List Reading} → AreNumbered n m (a_type t ∷ rs)
    → (k l : ℕ) × IsNumbered n m t k l
starts_at (type_read h r) = (_, _, h)

starts_types : (ts : List TypeExpression) (rs : List Reading) → AreNumbered 0 0 (map (λ t. a_type t) ts ++ rs)
    → StartsInOrder (first_type ts)
starts_types [] rs h = (0, 0, an_int)
starts_types (t ∷ ts) rs h = starts_at h

starts : (facts : List NodeFacts) → AreNumbered 0 0 (fact_readings facts) → StartsInOrder (root_of facts)
starts [] h = (0, 0, an_int)
starts (x ∷ facts) h =
    let types = map (λ t. a_type t) x.types in
    let ends = map (λ c. a_classifier c) (option_to_list x.classifier) in
    starts_types x.types (ends ++ fact_readings facts)
    (subst (λ rs. AreNumbered 0 0 rs) (append_assoc types ends (fact_readings facts)) h)

-- what is written for nodes, and the nodes with its numbers
abbrev pub part_writing : List NodeFacts → Writing
part_writing facts = (nodes_written facts nothing_written).writing

abbrev pub renumbered : List NodeFacts → List NodeFacts
renumbered facts = map (with_numbers (numbers_of (part_writing facts))) facts

abbrev pub part_notes : List NodeFacts → Notes
part_notes facts =
    record { types = types_named (part_writing facts).lines; nodes = (nodes_written facts nothing_written).lines }

module _ (x : Part) (facts : List NodeFacts) (h : AreNodesOfPart x facts) where
  part_told : Tell (part_notes facts) 0 (renumbered facts)
  part_told = told-section (part_writing facts) (part_typed x facts h) (nodes_written facts nothing_written).lines facts
      (nodes_there (part_writing facts) facts nothing_written (continued_same (part_writing facts)))

  part_numbered : AreNumbered 0 0 (fact_readings (renumbered facts))
  part_numbered =
      facts_numbered (part_writing facts) facts nothing_written (continued_same (part_writing facts))

  pub part_starts : StartsInOrder (root_of (renumbered facts))
  part_starts = starts (renumbered facts) part_numbered

  pub part_section : IsSectionOf facts (section_of facts)
  part_section = record {
    numbers = numbers_of (part_writing facts);
    in_order = part_starts;
    types = types_named (part_writing facts).lines;
    table = part_typed x facts h;
    count = nodes_count facts nothing_written;
    told = part_told;
  }

  -- what is read of the section
  part_read : section_readings x.term (section_of facts) ≡ fact_readings (renumbered facts)
  part_read =
      let nodes = (nodes_written facts nothing_written).lines in
      let count : length nodes ≡ length (renumbered facts) =
      nodes_count facts nothing_written
      ∙ sym (length-map facts (with_numbers (numbers_of (part_writing facts)))) in
      ap (λ ks. readings (types_named (part_writing facts).lines) ks nodes)
      (sym (part_counts x facts (numbers_of (part_writing facts)) h))
      ∙ told_read (part_notes facts) 0 nodes (renumbered facts) refl count part_told

  part_completed : AreCompleted (section_readings x.term (section_of facts)) (types_named (section_of facts).types)
  part_completed =
      sym (facts_completed (part_writing facts) facts nothing_written (part_formed x facts h) are_type_lines.nothing
      (continued_same (part_writing facts)))
      ∙ ap (λ rs. with_readings [] rs) (sym part_read)

  -- where it is right, its root is what is told of the first node
  pub part_root : (tops : List TopNote) (t : TypeExpression) → Certified tops x.term (section_of facts) t
      → t ≡ root_of (renumbered facts)
  part_root tops t c =
      root_told (part_notes facts) tops x.term (renumbered facts) t part_told
      (part_counts x facts (numbers_of (part_writing facts)) h)
      (subst (λ ts. Noted (record { types = ts; nodes = (section_of facts).nodes }) tops [] live 0 x.term t)
      (one_list (section_of facts).types c.types c.table) c.noted)

  -- it is the written one among those whose root types are as asked
  pub part_written : (tops : List TopNote) (asked : TypeExpression → Type 0) → AreRootsOf h.schemes tops
      → ((t : TypeExpression) → asked t → IsRootAt x.place t)
      → IsWrittenSection tops x.term asked (section_of facts)
  part_written tops asked roots f = record {
    general = λ y t c q b.
        let w = part_writing facts in
        let d = inferred_general x facts h tops roots y t c (f t q) b in (
          earlier w.unknowns w.classifiers d.0,
          ap (λ rs. map (reading_value (earlier w.unknowns w.classifiers d.0)) rs) part_read
              ∙ facts_earlier w.unknowns w.classifiers d.0 facts ∙ d.1,
        );
    numbered = subst (λ rs. AreNumbered 0 0 rs) (sym part_read) part_numbered;
    completed = part_completed;
  }
