-- What is followed of a term, and of the forms that come twice: a part of a pair, and a lift.
use Rattle.std.proofs.Common.{◌≡◌, ℕ, ◌+◌, ◌<◌, List, [], ◌∷◌, ◌++◌, refl, sym, ◌∙◌, arith}
use Rattle.mw_term.specs.declared.term.Base.{Base}
use Rattle.mw_term.specs.Terms.{Expression}
use Rattle.mw_term.specs.Terms.{size}
use Rattle.mw_term.specs.Types.{TermType, int_type, code_type, Level}
use Rattle.mw_term.specs.Types.{live, Entry, base_type}
use Rattle.mw_types.specs.Types.{TypeExpression, unknown, Within, Assignment, value}
use Rattle.mw_types.proofs.Expressions.{value-base_expression}
use Rattle.mw_types.proofs.Expressions.{Within-base_expression}
use Rattle.mw_infer.specs.Schemes.{TopScheme}
use Rattle.mw_infer.specs.ItemEquations.{Slot, equation, unknowns_of, classifiers_of}
use Rattle.mw_infer.specs.ItemEquations.{lift_equations, equations}
use Rattle.mw_infer.specs.Nodes.{plain_node, quoted_node, node_numbers}
use Rattle.mw_infer.proofs.NodeLists.{plain as plain-within, quoted as quoted-within}
use Rattle.mw_infer.proofs.Extending.{started, started-starts, Ready, Own-started, Ready-part, Ready-gives}
use Rattle.mw_recheck.specs.Notes.{Notes}
use Rattle.mw_general.proofs.NodeLineReadings.{Says}
use Rattle.mw_general.proofs.AssignmentExtensions.{Follows, first, ending}

module _ (p : Notes) (b : Assignment) (schemes : List TopScheme) where
  -- a term whose node lines begin at a place
  abbrev pub Followed : Assignment → ℕ → ℕ → ℕ → List Slot → Level → ℕ → Expression → Type 0
  Followed a u o c g m n e = Follows p b a o c (o + unknowns_of schemes e) (c + classifiers_of schemes e)
      (equations schemes u o c g m e) n (n + size e) (node_numbers schemes u o c e)

  -- what is followed of a part, from each assignment that is ready for it
  abbrev pub FollowedPart : ℕ → ℕ → ℕ → List Slot → Level → List Entry → Level → ℕ → Expression → TermType → Type 0
  FollowedPart v q d g m h l n e s = (a : Assignment) → Ready a v q d g m h l s → Followed a v q d g m n e

  -- a part of a pair: q is the pair's type, which is whole where this part has the type own and the other part the type
  -- other
  pub followed-part : (a : Assignment) (u o c : ℕ) (g : List Slot) (m : Level) (h : List Entry) (l : Level) (n : ℕ)
      (e : Expression) (own other whole : TermType) (q : TypeExpression)
      → ((d : Assignment) → d.ty u ≡ own → d.ty o ≡ other → whole ≡ value d q) → (u < o → Within (o + 2) c q)
      → Ready a u o c g m h l own → Says p b n (own ∷ other ∷ []) []
      → FollowedPart (o + 1) (o + 2) c g m h l (n + 1) e whole
      → Follows p b a o c (o + (2 + unknowns_of schemes e)) (c + classifiers_of schemes e)
      (equation (unknown (o + 1)) q ∷ equations schemes (o + 1) (o + 2) c g m e) n (n + (size e + 1))
      (plain_node (u ∷ o ∷ []) ∷ node_numbers schemes (o + 1) (o + 2) c e)
  followed-part a u o c g m h l n e own other whole q gives within r w part =
      let z = started-starts a o c other whole other 0 in
      let y = r.own in
      let x = Own-started (equation (unknown (o + 1)) q ∷ []) (o + 2) c (omega arith) (omega arith) z
      ((omega arith, within y), tt)
      (z.second ∙ gives _ (Ready-gives z.keeps r) z.first, tt) in
      ending (omega arith) refl (omega arith)
      (first (plain_node (u ∷ o ∷ [])) x (plain-within (omega arith, (omega arith, tt)))
      (rw (Ready-gives z.keeps r, z.first) w)
      (part _ (Ready-part (o + 1) (o + 2) c (omega arith) (omega arith) (omega arith) z.keeps z.second r)))

  -- both lifts, at a base type
  pub followed-lift : (k : Base) (a : Assignment) (u o c : ℕ) (g : List Slot) (h : List Entry) (n i : ℕ)
      (e : Expression) → Ready a u o c g live h live (code_type i (base_type k))
      → Says p b n (code_type i (base_type k) ∷ []) (i ∷ [])
      → FollowedPart o (o + 1) (c + 1) g live h live (n + 1) e (base_type k)
      → Follows p b a o c (o + (1 + unknowns_of schemes e)) (c + (1 + classifiers_of schemes e))
      (lift_equations u o c k ++ equations schemes o (o + 1) (c + 1) g live e) n (n + (size e + 1))
      (quoted_node (u ∷ []) c ∷ node_numbers schemes o (o + 1) (c + 1) e)
  followed-lift k a u o c g h n i e r w part =
      let z = started-starts a o c (base_type k) int_type int_type i in
      let y = r.own in
      let x = Own-started (lift_equations u o c k) (o + 1) (c + 1) (omega arith) (omega arith) z
      ((omega arith, Within-base_expression _ _ k), ((omega arith, (omega arith, Within-base_expression _ _ k)), tt)) (
        z.first ∙ sym (value-base_expression _ k),
        (
          Ready-gives z.keeps r
              ∙ rw (z.label, value-base_expression (started a o c (base_type k) int_type int_type i) k) refl,
          tt,
        ),
      ) in
      ending (omega arith) (omega arith) (omega arith)
      (first (quoted_node (u ∷ []) c) x (quoted-within (omega arith, tt) (omega arith))
      (rw (Ready-gives z.keeps r, z.label) w)
      (part _ (Ready-part o (o + 1) (c + 1) (omega arith) (omega arith) (omega arith) z.keeps z.first r)))
