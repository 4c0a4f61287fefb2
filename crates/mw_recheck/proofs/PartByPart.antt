-- A term is judged by its root's line, its parts, and their agreement.
use Rattle.std.proofs.Common.{◌≡◌, ℕ, Bool, List, ◌∷◌, Option, Some, None, refl}
use Rattle.std.proofs.Common.{◌∙◌, if◌then◌else◌}
use Rattle.mw_term.specs.Terms.{Expression, num, truth, var, glob, app, bind, cond, pair, prim}
use Rattle.mw_term.specs.Terms.{done}
use Rattle.mw_term.specs.Types.{Level}
use Rattle.mw_lines.specs.TypeLines.{TypeLine}
use Rattle.mw_recheck.specs.Options.{◌>>=◌}
use Rattle.mw_recheck.specs.Notes.{TopNote}
use Rattle.mw_recheck.specs.Judging.{PlacedBinder, placed, NodeLine}
use Rattle.mw_recheck.specs.Judging.{own_at, agrees, ended, judged}
use Rattle.mw_recheck.specs.Parts.{Places, parts_judged}
use Rattle.mw_recheck.proofs.NodeLines.{bind_some, same_after, one_after}

abbrev parts : ℕ → ℕ → ℕ → List (List ℕ) → Option (Places × List (List ℕ))
parts a b c rest = Some (record { first = a; second = b; third = c }, rest)

module _ (ls : List TypeLine) (tops : List TopNote) (g : List PlacedBinder) (m : Level) where
  -- the end of a term, after its parts
  abbrev Ending : Type 0
  Ending = (Places × List (List ℕ)) → Option (ℕ × List (List ℕ))

  abbrev pub ending : Expression → NodeLine → Ending
  ending e x p = ended ls tops g m e x p.0.first p.0.second p.0.third p.1

  abbrev pub by_parts : Expression → List (List ℕ) → Option (ℕ × List (List ℕ))
  by_parts e nodes = own_at ls m e nodes >>= λ x. (parts_judged ls tops g m e x.0 x.1 >>= λ p. ending e x.0 p)

  -- the ending after one part, after two and after three
  abbrev Step : Type 0
  Step = NodeLine × List (List ℕ) → Option (ℕ × List (List ℕ))

  abbrev Next : Type 0
  Next = NodeLine × List (List ℕ) → ℕ × List (List ℕ) → Option (ℕ × List (List ℕ))

  one_is : (e : Expression) (part : Step) (o : Option (NodeLine × List (List ℕ)))
      → (o >>= λ x. (part x >>= λ a. ended ls tops g m e x.0 a.0 0 0 a.1))
      ≡ (o >>= λ x. ((part x >>= λ a. parts a.0 0 0 a.1) >>= λ p. ending e x.0 p))
  one_is e part o = same_after o _ _ (λ x. one_after (part x) (λ a. parts a.0 0 0 a.1) (ending e x.0))

  two_is : (e : Expression) (part : Step) (next : Next) (o : Option (NodeLine × List (List ℕ)))
      → (o >>= λ x. (part x >>= λ a. (next x a >>= λ b. ended ls tops g m e x.0 a.0 b.0 0 b.1)))
      ≡ (o >>= λ x. ((part x >>= λ a. (next x a >>= λ b. parts a.0 b.0 0 b.1)) >>= λ p. ending e x.0 p))
  two_is e part next o = same_after o _ _ (λ x.
      same_after (part x) _ _ (λ a. one_after (next x a) (λ b. parts a.0 b.0 0 b.1) (ending e x.0))
      ∙ one_after (part x) (λ a. (next x a >>= λ b. parts a.0 b.0 0 b.1)) (ending e x.0))

  three_is : (e : Expression) (part : Step) (next : Next)
      (last : NodeLine × List (List ℕ) → ℕ × List (List ℕ) → ℕ × List (List ℕ) → Option (ℕ × List (List ℕ)))
      (o : Option (NodeLine × List (List ℕ)))
      → (o >>= λ x. (part x >>= λ a. (next x a >>= λ b.
      (last x a b >>= λ c. ended ls tops g m e x.0 a.0 b.0 c.0 c.1))))
      ≡ (o >>= λ x. ((part x >>= λ a. (next x a >>= λ b. (last x a b >>= λ c. parts a.0 b.0 c.0 c.1)))
      >>= λ p. ending e x.0 p))
  three_is e part next last o = same_after o _ _ (λ x.
      same_after (part x) _ _ (λ a.
      same_after (next x a) _ _ (λ b. one_after (last x a b) (λ c. parts a.0 b.0 c.0 c.1) (ending e x.0))
      ∙ one_after (next x a) (λ b. (last x a b >>= λ c. parts a.0 b.0 c.0 c.1)) (ending e x.0))
      ∙ one_after (part x) (λ a. (next x a >>= λ b. (last x a b >>= λ c. parts a.0 b.0 c.0 c.1))) (ending e x.0))

  pub judged_by_parts : (e : Expression) (nodes : List (List ℕ)) → judged ls tops g m e nodes ≡ by_parts e nodes
  judged_by_parts (num z) nodes = refl
  judged_by_parts (truth z) nodes = refl
  judged_by_parts (var i) nodes = refl
  judged_by_parts (glob i) nodes = refl
  judged_by_parts (done v) nodes = refl
  judged_by_parts (app f e) nodes =
      two_is (app f e) (λ x. judged ls tops g m f x.1) (λ x a. judged ls tops g m e a.1) (own_at ls m (app f e) nodes)
  judged_by_parts (bind d e) nodes =
      two_is (bind d e) (λ x. judged ls tops g m d x.1) (λ x a. judged ls tops (placed m x.0.second ∷ g) m e a.1)
      (own_at ls m (bind d e) nodes)
  judged_by_parts (cond p d e) nodes =
      three_is (cond p d e) (λ x. judged ls tops g m p x.1) (λ x a. judged ls tops g m d a.1)
      (λ x a b. judged ls tops g m e b.1) (own_at ls m (cond p d e) nodes)
  judged_by_parts (pair d e) nodes =
      two_is (pair d e) (λ x. judged ls tops g m d x.1) (λ x a. judged ls tops g m e a.1) (own_at ls m (pair d e) nodes)
  judged_by_parts (prim o d e) nodes =
      two_is (prim o d e) (λ x. judged ls tops g m d x.1) (λ x a. judged ls tops g m e a.1)
      (own_at ls m (prim o d e) nodes)
  judged_by_parts e nodes = one_is e _ (own_at ls m e nodes)

  -- once root and parts are judged, their agreement decides
  pub judged_there : (e : Expression) (nodes : List (List ℕ)) (x : NodeLine) (ns : List (List ℕ)) (p : Places)
      (rest : List (List ℕ)) (b : Bool)
      → own_at ls m e nodes ≡ Some (x, ns) → parts_judged ls tops g m e x ns ≡ Some (p, rest)
      → agrees ls tops g m e x p.first p.second p.third ≡ b
      → judged ls tops g m e nodes ≡ (if b then Some (x.own, rest) else None)
  judged_there e nodes x ns p rest b o q a =
      judged_by_parts e nodes ∙ bind_some (own_at ls m e nodes) _ (x, ns) o
      ∙ bind_some (parts_judged ls tops g m e x ns) (ending e x) (p, rest) q ∙ rw a refl
