-- The lines that are written for what inference tells of a part are type lines.
use Rattle.std.proofs.Common.{◌≡◌, ℕ, List, [], ◌∷◌, map, Option, Some, None, refl, subst}
use Rattle.std.specs.Option.{option_map}
use Rattle.mw_term.specs.Parts.{Part}
use Rattle.mw_types.specs.Types.{TypeExpression, int_ty, bool_ty, unknown, pair_ty, function_ty, code_ty, closed_ty}
use Rattle.mw_types.specs.Types.{apply}
use Rattle.mw_infer.specs.Nodes.{NodeFacts, AreNodesOfPart}
use Rattle.mw_section.specs.Writing.{Writing, nothing_written, type_written}
use Rattle.mw_section.specs.WritingLaws.{AreTyped, all_written}
use Rattle.mw_section.proofs.NamedTypes.{typed, are_type_lines}
use Rattle.mw_agree.specs.Telling.{AllFormed, NodesAreFormed, NewNumbers, renaming, with_numbers}
use Rattle.mw_agree.proofs.ProgramCertificates.{no_code_under_code}
use Rattle.mw_made.specs.Making.{line_ended, node_written, nodes_written}

pub typed_all : (ts : List TypeExpression) (w : Writing) → AllFormed ts → AreTyped w
    → AreTyped (all_written ts w).writing
typed_all [] w f y = y
typed_all (t ∷ ts) w f y = typed_all ts (type_written t w).writing f.1 (typed t w f.0 y)

pub typed_end : (c : Option ℕ) (ps : List ℕ) (w : Writing) → AreTyped w → AreTyped (line_ended c ps w).writing
typed_end None ps w y = y
typed_end (Some c) ps w y = y

pub typed_nodes : (facts : List NodeFacts) (w : Writing) → NodesAreFormed facts → AreTyped w
    → AreTyped (nodes_written facts w).writing
typed_nodes [] w f y = y
typed_nodes (x ∷ facts) w f y =
    let a = all_written x.types w in
    typed_nodes facts (node_written x w).writing f.1
    (typed_end x.classifier a.places a.writing (typed_all x.types w f.0 y))

-- each number as it is
abbrev same_numbers : NewNumbers
same_numbers = record {
  unknown = λ u. u;
  classifier = λ c. c;
  one_unknown = λ u v e. e;
  one_classifier = λ c d e. e;
}

type_same : (t : TypeExpression) → apply (renaming same_numbers) t ≡ t
type_same int_ty = refl
type_same bool_ty = refl
type_same (unknown u) = refl
type_same (pair_ty s t) = rw (type_same s, type_same t) refl
type_same (function_ty s t) = rw (type_same s, type_same t) refl
type_same (code_ty c t) = rw (type_same t) refl
type_same (closed_ty t) = rw (type_same t) refl

types_same : (ts : List TypeExpression) → map (apply (renaming same_numbers)) ts ≡ ts
types_same [] = refl
types_same (t ∷ ts) = rw (type_same t, types_same ts) refl

classifier_same : (k : Option ℕ) → option_map same_numbers.classifier k ≡ k
classifier_same None = refl
classifier_same (Some c) = refl

facts_same : (facts : List NodeFacts) → map (with_numbers same_numbers) facts ≡ facts
facts_same [] = refl
facts_same (x ∷ facts) = rw (types_same x.types, classifier_same x.classifier, facts_same facts) refl

-- no code type stands under a code type
pub part_formed : (x : Part) (facts : List NodeFacts) → AreNodesOfPart x facts → NodesAreFormed facts
part_formed x facts h =
    subst (λ z. NodesAreFormed z) (facts_same facts) (no_code_under_code x facts same_numbers h)

pub part_typed : (x : Part) (facts : List NodeFacts) → AreNodesOfPart x facts
    → AreTyped (nodes_written facts nothing_written).writing
part_typed x facts h = typed_nodes facts nothing_written (part_formed x facts h) are_type_lines.nothing
