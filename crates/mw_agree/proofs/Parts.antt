-- What inference tells of a part's nodes, with new numbers, follows the rules of a certificate.
use Rattle.std.proofs.Common.{◌≡◌, ℕ, List, [], ◌∷◌, map, length, Option, Some, None, refl, ap}
use Rattle.std.proofs.Common.{◌∙◌}
use Rattle.std.specs.Option.{option_map}
use Rattle.std.proofs.lemmas.List.{length-map}
use Rattle.mw_term.specs.Terms.{Expression, num}
use Rattle.mw_term.specs.Terms.{size}
use Rattle.mw_term.specs.Types.{Level, live, under}
use Rattle.mw_term.specs.Parts.{Part, Place, let_place, kernel_place, main_place}
use Rattle.mw_types.specs.Types.{TypeExpression, int_ty, bool_ty, unknown, pair_ty, function_ty, code_ty, closed_ty}
use Rattle.mw_types.specs.Types.{Substitution, apply}
use Rattle.mw_types.specs.Expressions.{ground_expression, kernel_expression}
use Rattle.mw_recheck.specs.Notes.{TopNote}
use Rattle.mw_infer.specs.Schemes.{TopScheme}
use Rattle.mw_infer.specs.ItemEquations.{equations}
use Rattle.mw_infer.specs.Inferring.{item_unknowns, item_classifiers, item_closes, own_equations, item_equations}
use Rattle.mw_infer.specs.Nodes.{NodeNumbers, NodeFacts, node_numbers, facts_at, AreNodesOfPart}
use Rattle.mw_section.specs.WritingLaws.{IsFormed as IsFormedExpression}
use Rattle.mw_agree.specs.Telling.{Agreed, NodesAreFormed, NewNumbers, renaming, with_numbers}
use Rattle.mw_agree.specs.Telling.{root_of}
use Rattle.mw_agree.proofs.Unifiers.{Unifies, Unifies-parts, general-unifies, fresh-unused, then, Unifies-then}
use Rattle.mw_agree.proofs.Unifiers.{AreUnused-renamed, no_code-renamed}
use Rattle.mw_agree.proofs.NodeCounts.{node_count}
use Rattle.mw_agree.proofs.CertificateRules.{RootsOf, noted, apply-kernel, apply-ground}
use Rattle.mw_agree.proofs.FittingSolutions.{FitsAt}
use Rattle.mw_agree.proofs.NoCode.{KeepsLevels, keeps_levels, no_code-flat, nodes-flat}

module _ (r : NewNumbers) where
  flat-renamed : (t : TypeExpression) → IsFormedExpression t → IsFormedExpression (apply (renaming r) t)
  flat-renamed int_ty h = tt
  flat-renamed bool_ty h = tt
  flat-renamed (unknown u) h = tt
  flat-renamed (pair_ty s t) h = (flat-renamed s h.0, flat-renamed t h.1)
  flat-renamed (function_ty s t) h = (flat-renamed s h.0, flat-renamed t h.1)
  flat-renamed (code_ty c t) h = no_code-renamed r t h
  flat-renamed (closed_ty t) h = no_code-renamed r t h

  -- new numbers of what a substitution tells are what the substitution with them tells
  types-renamed : (s : Substitution) (us : List ℕ) → map (apply (renaming r)) (map s.ty us)
      ≡ map (then s (renaming r)).ty us
  types-renamed s [] = refl
  types-renamed s (u ∷ us) = rw (types-renamed s us) refl

  classifier-renamed : (s : Substitution) (k : Option ℕ) → option_map r.classifier (option_map s.classifier k)
      ≡ option_map (then s (renaming r)).classifier k
  classifier-renamed s None = refl
  classifier-renamed s (Some c) = refl

  pub facts-renamed : (s : Substitution) (xs : List NodeNumbers) → map (with_numbers r) (map (facts_at s) xs)
      ≡ map (facts_at (then s (renaming r))) xs
  facts-renamed s [] = refl
  facts-renamed s (x ∷ xs) =
      rw (types-renamed s x.types, classifier-renamed s x.classifier, facts-renamed s xs) refl

-- the first type of the first node is the term's
root-first : (tops : List TopScheme) (s : Substitution) (u o c : ℕ) (e : Expression)
    → root_of (map (facts_at s) (node_numbers tops u o c e)) ≡ s.ty u
root-first tops s u o c (num z) = refl
root-first tops s u o c e = refl

-- what a place asks of a root
abbrev pub IsAsked : Place → TypeExpression → Type 0
IsAsked let_place t = Unit {0}
IsAsked (kernel_place k) t = t ≡ closed_ty (kernel_expression k)
IsAsked (main_place g) t = t ≡ ground_expression g

asked : (s : Substitution) (place : Place) → Unifies s (own_equations place) → IsAsked place (s.ty 0)
asked s let_place h = tt
asked s (kernel_place k) h = h.0 ∙ ap closed_ty (apply-kernel s k)
asked s (main_place g) h = h.0 ∙ apply-ground s g

module _ (x : Part) (facts : List NodeFacts) (h : AreNodesOfPart x facts) (r : NewNumbers) where
  abbrev renamed : Substitution
  renamed = then h.solution (renaming r)

  unified : Unifies renamed (item_equations h.schemes x.place x.term)
  unified = Unifies-then h.solution (renaming r) _
      (general-unifies (item_unknowns h.schemes x.term) (item_classifiers h.schemes x.term)
      (item_equations h.schemes x.place x.term) h.solution h.solves.general)

  kept : KeepsLevels h.schemes x.term h.solution
  kept = keeps_levels x.names h.schemes x.place x.term h.solution h.principal.of h.solves.general

  told-renamed : map (with_numbers r) facts ≡ map (facts_at renamed) (node_numbers h.schemes 0 1 0 x.term)
  told-renamed = ap (λ z. map (with_numbers r) z) h.told ∙ facts-renamed r h.solution _

  -- the part's root
  pub part-root : root_of (map (with_numbers r) facts) ≡ apply (renaming r) (h.solution.ty 0)
  part-root = ap (λ z. root_of z) told-renamed ∙ root-first h.schemes renamed 0 1 0 x.term

  pub part-asked : IsAsked x.place (root_of (map (with_numbers r) facts))
  part-asked = rw part-root (asked renamed x.place
      (Unifies-parts renamed (own_equations x.place) (equations h.schemes 0 1 0 [] live x.term) unified).0)

  -- as many nodes as the term has, and the rules for them
  pub part-count : length facts ≡ size x.term
  part-count = ap (λ z. length z) h.told ∙ length-map (node_numbers h.schemes 0 1 0 x.term) (facts_at h.solution)
      ∙ node_count h.schemes 0 1 0 x.term

  pub part-flat : NodesAreFormed (map (with_numbers r) facts)
  part-flat = rw told-renamed (nodes-flat h.schemes renamed (FitsAt (item_unknowns h.schemes x.term) kept.by) flat 0 1 0
      live x.term kept.fits)
    where
      flat : (m : Level) (u : ℕ) → FitsAt (item_unknowns h.schemes x.term) kept.by m u
          → IsFormedExpression (apply (renaming r) (h.solution.ty u))
      flat live u f = flat-renamed r (h.solution.ty u) (kept.follows live u f)
      flat (under c) u f = flat-renamed r (h.solution.ty u) (no_code-flat (h.solution.ty u) (kept.follows (under c) u
          f))

  pub part-agreed : (tops : List TopNote) → RootsOf h.schemes tops
      → Agreed tops (map (with_numbers r) facts) x.term (root_of (map (with_numbers r) facts))
  part-agreed tops roots p told = rw part-root (noted tops h.schemes roots renamed
      (FitsAt (item_unknowns h.schemes x.term) kept.by)
      (λ c u f. no_code-renamed r (h.solution.ty u) (kept.follows (under c) u f)) p 0 1 0 0 [] live x.term
      (Unifies-parts renamed (own_equations x.place) (equations h.schemes 0 1 0 [] live x.term) unified).1
      (AreUnused-renamed r h.solution (item_closes h.schemes x.term)
      (fresh-unused h.solution (item_closes h.schemes x.term) h.fresh)) kept.fits (rw told-renamed at told))
