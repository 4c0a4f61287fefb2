-- What inference tells of a part is most general among the part's certificates.
use Rattle.std.proofs.Common.{◌≡◌, ◌+◌, List, [], map, refl, ap, sym, ◌∙◌, zero-add, arith}
use Rattle.mw_term.specs.Types.{live}
use Rattle.mw_term.specs.Parts.{Part, Place, let_place, kernel_place, main_place}
use Rattle.mw_types.specs.Types.{TypeExpression, Assignment, value, after}
use Rattle.mw_types.specs.Equations.{Solves, Agree}
use Rattle.mw_types.proofs.Expressions.{value-ground_expression, value-kernel_expression}
use Rattle.mw_lines.proofs.NamedTypes.{one_list}
use Rattle.mw_infer.specs.ItemEquations.{unknowns_of, classifiers_of, equations}
use Rattle.mw_infer.specs.Inferring.{own_equations}
use Rattle.mw_infer.specs.Nodes.{NodeFacts, AreNodesOfPart, node_numbers}
use Rattle.mw_infer.proofs.Extending.{Solves-append}
use Rattle.mw_infer.proofs.Growing.{principal-own}
use Rattle.mw_recheck.specs.Sections.{SectionLines}
use Rattle.mw_recheck.specs.Notes.{TopNote, Notes}
use Rattle.mw_recheck.specs.Certificates.{Certified}
use Rattle.mw_written.specs.Readings.{type_counts, readings, section_readings, reading_value}
use Rattle.mw_general.specs.Telling.{fact_readings, AreRootsOf, IsRootAt}
use Rattle.mw_general.proofs.Values.{node_values, agree_same, same_values, told_values}
use Rattle.mw_general.proofs.NodeLineReadings.{say_values}
use Rattle.mw_general.proofs.Counts.{counted}
use Rattle.mw_general.proofs.Forms.{Followed}
use Rattle.mw_general.proofs.TermEquations.{followed}

own_solved : (place : Place) (a b : Assignment) (t : TypeExpression) → a.ty 0 ≡ value b t → IsRootAt place t
    → Solves a (own_equations place)
own_solved let_place a b t e h = tt
own_solved (kernel_place k) a b t e h =
    (e ∙ rw (h, value-kernel_expression a k, value-kernel_expression b k) refl, tt)
own_solved (main_place g) a b t e h =
    (e ∙ rw (h, value-ground_expression a g, value-ground_expression b g) refl, tt)

pub inferred_general : (x : Part) (facts : List NodeFacts) (h : AreNodesOfPart x facts) (tops : List TopNote)
    → AreRootsOf h.schemes tops → (y : SectionLines) (t : TypeExpression) → Certified tops x.term y t
    → IsRootAt x.place t → (b : Assignment)
    → (d : Assignment)
    × (map (reading_value d) (fact_readings facts) ≡ map (reading_value b) (section_readings x.term y))
inferred_general x facts h tops roots y t c asked b =
    let p : Notes = record { types = c.types; nodes = y.nodes } in
    let a : Assignment = record { ty = λ u. value b t; classifier = λ k. 0 } in
    let nodes = node_numbers h.schemes 0 1 0 x.term in
    let z : Followed p b h.schemes a 0 1 0 [] live 0 x.term =
    followed p tops h.schemes (principal-own x.names h.schemes h.principal) roots b a 0 1 0 0 [] live [] live x.term t
    (record { own = omega arith; gives = refl; slots = tt; level = tt; env = refl; at = refl }) c.noted in
    let gives : z.grown.by.ty 0 ≡ value b t = sym (z.grown.keeps.types 0 (omega arith)) in
    let solved = Solves-append z.grown.by (own_equations x.place) (equations h.schemes 0 1 0 [] live x.term)
    (own_solved x.place z.grown.by b t gives asked) z.grown.solves in
    let r = h.solves.general.general z.grown.by solved in
    let same : Agree (1 + unknowns_of h.schemes x.term) (0 + classifiers_of h.schemes x.term) z.grown.by
    (after r.0 h.solution) = rw (zero-add (classifiers_of h.schemes x.term)) r.1 in
    let told = ap (λ k. map (reading_value r.0) (fact_readings k)) h.told ∙ told_values r.0 h.solution nodes in
    let agreed = same_values z.grown.by (after r.0 h.solution) nodes (agree_same same nodes z.within) in
    let read = say_values p b z.grown.by 0 y.nodes nodes refl (let e = z.ends in let k = c.count in omega arith)
    z.says in
    let counts : map (reading_value b) (readings c.types (type_counts x.term) y.nodes)
    ≡ node_values z.grown.by nodes = rw (counted h.schemes 0 1 0 x.term) at read in
    let named : map (reading_value b) (section_readings x.term y)
    ≡ map (reading_value b) (readings c.types (type_counts x.term) y.nodes) =
    sym (ap (λ ts. map (reading_value b) (readings ts (type_counts x.term) y.nodes))
    (one_list y.types c.types c.table)) in
    (r.0, told ∙ sym agreed ∙ sym counts ∙ sym named)
