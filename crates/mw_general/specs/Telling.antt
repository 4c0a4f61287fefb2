-- What inference tells of a part, as node lines name it, and what a certificate of the part sees and is asked.
use Rattle.std.specs.Prelude.{◌≡◌, List, [], ◌∷◌, ◌++◌, map, option_to_list}
use Rattle.mw_term.specs.Parts.{Place, let_place, kernel_place, main_place}
use Rattle.mw_types.specs.Types.{TypeExpression, closed_ty}
use Rattle.mw_types.specs.Expressions.{ground_expression, kernel_expression}
use Rattle.mw_infer.specs.Schemes.{TopScheme, let_scheme, kernel_scheme, scheme_out_of_scope}
use Rattle.mw_infer.specs.Nodes.{NodeFacts}
use Rattle.mw_recheck.specs.Notes.{TopNote, let_root, kernel_root, hidden}
use Rattle.mw_written.specs.Readings.{Reading, a_type, a_classifier}

-- what is told of nodes, in the order in which node lines are read: of each node its types and then its classifier
abbrev pub fact_readings : List NodeFacts → List Reading
fact_readings [] = []
fact_readings (x ∷ facts) = map (λ t. a_type t) x.types ++ map (λ c. a_classifier c) (option_to_list x.classifier)
    ++ fact_readings facts

-- what a certificate has of a name: of a let its most general type as its root, of a kernel in scope its kernel type
abbrev pub root_of : TopScheme → TopNote
root_of (let_scheme s) = let_root s.type
root_of (kernel_scheme k) = kernel_root k
root_of scheme_out_of_scope = hidden

-- the notes are those of names with these schemes, one for each
abbrev pub AreRootsOf : List TopScheme → List TopNote → Type 0
AreRootsOf schemes tops = tops ≡ map root_of schemes

-- what a place asks of a certificate's root type: closed code of a kernel item's type, and of main its ground type
abbrev pub IsRootAt : Place → TypeExpression → Type 0
IsRootAt let_place t = Unit {0}
IsRootAt (kernel_place k) t = t ≡ closed_ty (kernel_expression k)
IsRootAt (main_place g) t = t ≡ ground_expression g
