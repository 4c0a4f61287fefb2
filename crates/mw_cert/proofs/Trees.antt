-- Types by the trees that hold them.
use Rattle.std.proofs.Common.{◌≡◌, ℕ, zero, suc, Bool, true, false, cond, nat_eq, List, [], ◌∷◌, map, length, Option, Some}
use Rattle.std.proofs.Common.{None, refl, ap, sym, ◌∙◌, ◌<◌, arith}
use Rattle.std.specs.Prelude.{slice_get, option_map}
use Rattle.std.proofs.lemmas.Bool.{eqb-true, eqb-false}
use Rattle.std.proofs.lemmas.Option.{same_Some, none-some, slice_get-map}
use Rattle.mw_types.specs.Types.{TypeExpression, int_ty}
use Rattle.mw_types.specs.Solutions.{Solution}
use Rattle.mw_infer.specs.Nodes.{NodeNumbers}
use Rattle.mw_infer.specs.Typings.{PartTypes, Typing, NodeTyping, HoldsType, facts_of, facts_of_node, facts_of_part}
use Rattle.mw_infer.specs.Typings.{nodes_of, nodes_at}
use Rattle.mw_section.specs.Writing.{place_of}
use Rattle.mw_cert.specs.Nodes.{type_of_tree, type_at_part, facts_at_part}

-- what is among numbers stands at its place
there_behind : (b : Bool) (m r p : ℕ) (ms : List ℕ) → (b ≡ true → m ≡ r) → (b ≡ false → slice_get ms p ≡ Some r)
    → slice_get (m ∷ ms) (cond b 0 (suc p)) ≡ Some r
there_behind true m r p ms e f = ap (λ z. Some z) (e refl)
there_behind false m r p ms e f = f refl

there : (u r : ℕ) (rs : List ℕ) → slice_get rs u ≡ Some r → slice_get rs (place_of r rs) ≡ Some r
there u r [] h = absurd (none-some r h)
there zero r (m ∷ ms) h =
    there_behind (nat_eq m r) m r (place_of r ms) ms (eqb-true m r)
    (λ n. absurd (eqb-false m r n (same_Some m r h)))
there (suc u) r (m ∷ ms) h =
    there_behind (nat_eq m r) m r (place_of r ms) ms (eqb-true m r) (λ n. there u r ms h)

-- a tree's type is the one that it holds
pub type_held : (s : Solution) (r : ℕ) (t : TypeExpression) → HoldsType s r t → type_of_tree s r ≡ t
type_held s r t h = h.one (place_of r s.roots) (there h.unknown r s.roots h.held)

-- the nodes of a part are of one solution
one_solution : (s : Solution) (ns : List NodeNumbers) (k : ℕ) (n : NodeTyping)
    → slice_get (nodes_of (record { solution = s; nodes = ns })) k ≡ Some n → n.solution ≡ s
one_solution s [] k n h = absurd (none-some n h)
one_solution s (m ∷ ns) zero n h =
    ap (λ (z : NodeTyping). z.solution) (sym (same_Some (record { solution = s; numbers = m }) n h))
one_solution s (m ∷ ns) (suc k) n h = one_solution s ns k n h

node_held : (o : Option PartTypes) (k : ℕ) (n : NodeTyping)
    → slice_get (elim o [ Some x ↦ nodes_of x | None ↦ [] ]) k ≡ Some n
    → type_of_tree n.solution ≡ elim o [ Some x ↦ type_of_tree x.solution | None ↦ λ r. int_ty ]
node_held (Some x) k n h = ap type_of_tree (one_solution x.solution x.nodes k n h)
node_held None k n h = absurd (none-some n h)

pub node_types : (t : Typing) (i k : ℕ) (n : NodeTyping) → slice_get (nodes_at t i) k ≡ Some n
    → type_of_tree n.solution ≡ type_at_part t i
node_types t i k n h = node_held (slice_get t.parts i) k n h

-- what is known of a node, and of a part
pub node_facts : (t : Typing) (i k : ℕ) (n : NodeTyping) → slice_get (nodes_at t i) k ≡ Some n
    → slice_get (facts_at_part t i) k ≡ Some (facts_of_node n)
node_facts t i k n h =
    slice_get-map facts_of_node (nodes_at t i) k ∙ ap (λ o. option_map facts_of_node o) h

part_facts_in : (xs : List PartTypes) (i : ℕ) → i < length xs
    → slice_get (map facts_of_part xs) i
    ≡ Some (map facts_of_node (elim (slice_get xs i) [ Some x ↦ nodes_of x | None ↦ [] ]))
part_facts_in [] i h = absurd (omega arith)
part_facts_in (x ∷ xs) zero h = refl
part_facts_in (x ∷ xs) (suc i) h = part_facts_in xs i (omega arith)

pub part_facts : (t : Typing) (i : ℕ) → i < length t.parts
    → slice_get (facts_of t) i ≡ Some (facts_at_part t i)
part_facts t i h = part_facts_in t.parts i h
