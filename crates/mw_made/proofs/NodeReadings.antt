-- What is read of node lines that tell nodes is what is told of these.
use Rattle.std.proofs.Common.{◌≡◌, ℕ, suc, ◌+◌, List, [], ◌∷◌, ◌++◌, map, length, drop, refl, ap, sym, ◌∙◌}
use Rattle.std.proofs.Common.{arith}
use Rattle.std.specs.Prelude.{option_to_list}
use Rattle.std.proofs.lemmas.List.{length-map}
use Rattle.mw_term.specs.Types.{live}
use Rattle.mw_term.specs.Parts.{Part}
use Rattle.mw_types.specs.Types.{Substitution, apply}
use Rattle.mw_recheck.specs.Notes.{Notes, IsNodeLine}
use Rattle.mw_recheck.proofs.NodeLines.{drop_head}
use Rattle.mw_infer.specs.Nodes.{NodeNumbers, NodeFacts, facts_at, node_numbers, AreNodesOfPart}
use Rattle.mw_agree.specs.Telling.{IsLineOf, Tell, NewNumbers, renaming, with_numbers}
use Rattle.mw_written.specs.Readings.{type_counts, readings}
use Rattle.mw_written.proofs.LineReadings.{line_says, line_read}
use Rattle.mw_general.specs.Telling.{fact_readings}
use Rattle.mw_general.proofs.NodeLineReadings.{counts_of}
use Rattle.mw_general.proofs.Counts.{counted}

-- how many types each node has
abbrev pub type_numbers : List NodeFacts → List ℕ
type_numbers facts = map (λ (x : NodeFacts). length x.types) facts

line_of_node : (p : Notes) (n : ℕ) (x : NodeFacts) → IsLineOf p n x
    → IsNodeLine p live n x.types (option_to_list x.classifier)
line_of_node p n x h = record { lines = h.lines; line = h.line; named = h.named; fit = tt }

pub told_read : (p : Notes) (n : ℕ) (l : List (List ℕ)) (facts : List NodeFacts) → drop n p.nodes ≡ l
    → length l ≡ length facts → Tell p n facts → readings p.types (type_numbers facts) l ≡ fact_readings facts
told_read p n [] [] d c h = refl
told_read p n [] (x ∷ facts) d c h = absurd (omega (arith, c))
told_read p n (k ∷ l) [] d c h = absurd (omega (arith, c))
told_read p n (k ∷ l) (x ∷ facts) d c h =
    let y = drop_head p.nodes n k l d in
    let step : n + 1 ≡ suc n = omega arith in
    let later : drop (n + 1) p.nodes ≡ l = ap (λ i. drop i p.nodes) step ∙ sym y.1 in
    let cs = option_to_list x.classifier in
    ap (λ rs. rs ++ readings p.types (type_numbers facts) l)
    (line_read p live n x.types cs k (line_of_node p n x h.0) y.0)
    ∙ ap (λ rs. line_says x.types cs ++ rs) (told_read p (n + 1) l facts later (omega (arith, c)) h.1)

-- a part's nodes have as many types as their lines name
counts_at : (s : Substitution) (xs : List NodeNumbers) → type_numbers (map (facts_at s) xs) ≡ counts_of xs
counts_at s [] = refl
counts_at s (x ∷ xs) = rw (length-map x.types s.ty, counts_at s xs) refl

counts_renamed : (r : NewNumbers) (facts : List NodeFacts) → type_numbers (map (with_numbers r) facts)
    ≡ type_numbers facts
counts_renamed r [] = refl
counts_renamed r (x ∷ facts) = rw (length-map x.types (apply (renaming r)), counts_renamed r facts) refl

pub part_counts : (x : Part) (facts : List NodeFacts) (r : NewNumbers) → AreNodesOfPart x facts
    → type_numbers (map (with_numbers r) facts) ≡ type_counts x.term
part_counts x facts r h =
    counts_renamed r facts ∙ ap (λ z. type_numbers z) h.told
    ∙ counts_at h.solution (node_numbers h.schemes 0 1 0 x.term) ∙ counted h.schemes 0 1 0 x.term
