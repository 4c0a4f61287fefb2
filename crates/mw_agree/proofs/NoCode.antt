-- A most general solution holds no code at level 1, and none under code.
use Rattle.std.proofs.Common.{◌≡◌, ℕ, ◌+◌, List, [], ◌∷◌, ◌++◌, map, refl, ap, sym, ◌∙◌, arith}
use Rattle.mw_term.specs.Terms.{Expression, of_ground, fun, fix, app, bind, cond, pair, fst, snd}
use Rattle.mw_term.specs.Terms.{prim, bracket, escape, run, close, opened, lift, lift_b}
use Rattle.mw_term.specs.Types.{Level, live, under, Fits, IsPlain, IsFormed, closed_type, kernel_type}
use Rattle.mw_term.specs.Types.{ground_type}
use Rattle.mw_term.specs.Typing.{TopLevel}
use Rattle.mw_term.specs.Parts.{Place, let_place, kernel_place, main_place}
use Rattle.mw_term.specs.FlatTypes.{formed_type}
use Rattle.mw_term.proofs.TypesFormed.{IsPlain-kernel_type}
use Rattle.mw_term.proofs.FlatTypes.{formed_type-plain, flat_type-plain}
use Rattle.mw_types.specs.Types.{TypeExpression, int_ty, bool_ty, unknown, pair_ty, function_ty, code_ty, closed_ty}
use Rattle.mw_types.specs.Types.{Assignment, value, Substitution, after}
use Rattle.mw_types.specs.Equations.{Solves, MostGeneral}
use Rattle.mw_types.proofs.Expressions.{value-kernel_expression, value-ground_expression}
use Rattle.mw_lines.specs.TypeLines.{HoldsNoCode}
use Rattle.mw_infer.specs.Schemes.{TopScheme}
use Rattle.mw_infer.specs.ItemEquations.{equations, unknowns_of, classifiers_of}
use Rattle.mw_infer.specs.Inferring.{item_unknowns, item_classifiers, own_equations, item_equations, least}
use Rattle.mw_infer.specs.Inferring.{AreSchemesOf}
use Rattle.mw_infer.specs.Nodes.{NodeNumbers, node_numbers, facts_at}
use Rattle.mw_infer.proofs.Sound.{Solves-parts}
use Rattle.mw_infer.proofs.Extending.{Solves-append}
use Rattle.mw_section.specs.WritingLaws.{IsFormed as IsFormedExpression}
use Rattle.mw_agree.specs.Telling.{AllFormed, NodesAreFormed}
use Rattle.mw_agree.proofs.Levels.{AllAre, Levelled}
use Rattle.mw_agree.proofs.FittingSolutions.{FitsAt, Reaches, refit}

-- what an assignment makes of a type holds the code that the type holds
plain-no_code : (b : Assignment) (t : TypeExpression) → IsPlain (value b t) → HoldsNoCode t
plain-no_code b int_ty h = tt
plain-no_code b bool_ty h = tt
plain-no_code b (unknown u) h = tt
plain-no_code b (pair_ty s t) h = (plain-no_code b s h.0, plain-no_code b t h.1)
plain-no_code b (function_ty s t) h = (plain-no_code b s h.0, plain-no_code b t h.1)
plain-no_code b (code_ty c t) h = absurd h
plain-no_code b (closed_ty t) h = absurd h

formed-flat : (b : Assignment) (t : TypeExpression) → IsFormed (value b t) → IsFormedExpression t
formed-flat b int_ty h = tt
formed-flat b bool_ty h = tt
formed-flat b (unknown u) h = tt
formed-flat b (pair_ty s t) h = (formed-flat b s h.0, formed-flat b t h.1)
formed-flat b (function_ty s t) h = (formed-flat b s h.0, formed-flat b t h.1)
formed-flat b (code_ty c t) h = plain-no_code b t h
formed-flat b (closed_ty t) h = plain-no_code b t h

pub no_code-flat : (t : TypeExpression) → HoldsNoCode t → IsFormedExpression t
no_code-flat int_ty h = tt
no_code-flat bool_ty h = tt
no_code-flat (unknown u) h = tt
no_code-flat (pair_ty s t) h = (no_code-flat s h.0, no_code-flat t h.1)
no_code-flat (function_ty s t) h = (no_code-flat s h.0, no_code-flat t h.1)
no_code-flat (code_ty c t) h = absurd h
no_code-flat (closed_ty t) h = absurd h

-- what a type made one of the language solves, where a place asks a type
asked : (a d : Assignment) (place : Place) → d.ty 0 ≡ formed_type (a.ty 0) → Solves a (own_equations place)
    → Solves d (own_equations place)
asked a d let_place e h = tt
asked a d (kernel_place k) e h = (
  e ∙ ap (λ t. formed_type t) (h.0 ∙ ap closed_type (value-kernel_expression a k))
      ∙ ap closed_type (flat_type-plain (kernel_type k) (IsPlain-kernel_type k) ∙ sym (value-kernel_expression d k)),
  tt,
)
asked a d (main_place g) e h = (
  e ∙ ap (λ t. formed_type t) (h.0 ∙ value-ground_expression a g)
      ∙ formed_type-plain (ground_type g) (IsPlain-kernel_type (of_ground g)) ∙ sym (value-ground_expression d g),
  tt,
)

-- at level 1 the type holds no code, and at level 0 none under code
abbrev pub IsLevelled : Substitution → Level → ℕ → Type 0
IsLevelled s live u = IsFormedExpression (s.ty u)
IsLevelled s (under c) u = HoldsNoCode (s.ty u)

-- the levels of a part's nodes are kept, in some sense from which these follow
pub record KeepsLevels (schemes : List TopScheme) (e : Expression) (s : Substitution) : Type 0 where
  pub by : Assignment
  pub fits : Levelled (FitsAt (item_unknowns schemes e) by) schemes 0 1 0 live e
  pub follows : (m : Level) (u : ℕ) → FitsAt (item_unknowns schemes e) by m u → IsLevelled s m u

pub keeps_levels : (tops : List TopLevel) (schemes : List TopScheme) (place : Place) (e : Expression)
    (s : Substitution) → AreSchemesOf tops tops schemes → MostGeneral (item_unknowns schemes e)
    (item_classifiers schemes e) (item_equations schemes place e) s → KeepsLevels schemes e s
keeps_levels tops schemes place e s known g =
    let a = after least s in
    let h = Solves-parts a (own_equations place) (equations schemes 0 1 0 [] live e) (g.sound least) in
    let b : Assignment = record { ty = λ u. formed_type (a.ty u); classifier = a.classifier } in
    let r : Reaches b 1 0 (1 + unknowns_of schemes e) (0 + classifiers_of schemes e) (λ d.
    Solves d (equations schemes 0 1 0 [] live e)
    × Levelled (FitsAt (item_unknowns schemes e) d) schemes 0 1 0 live e) =
    refit tops schemes known a (item_unknowns schemes e) b 0 1 0 [] live e (omega arith) (omega arith) h.1 refl
    (record { slots = tt; level = tt; refit = tt; at = tt }) in
    let x = r.gives r.by (record { types = λ u lt. refl; classifiers = λ c lt. refl }) in
    let o = asked a r.by place (sym (r.keeps.types 0 (omega arith))) h.0 in
    let q = g.general r.by (Solves-append r.by (own_equations place) (equations schemes 0 1 0 [] live e) o x.0) in
    record {
      by = r.by;
      fits = x.1;
      follows = λ m u f. levelled q.0 s r.by m u (q.1.types u f.0) f.1;
    }
  where
    levelled : (b : Assignment) (s : Substitution) (d : Assignment) (m : Level) (u : ℕ) → d.ty u ≡ value b (s.ty u)
        → Fits m (d.ty u) → IsLevelled s m u
    levelled b s d live u e f = formed-flat b (s.ty u) (rw e at f)
    levelled b s d (under c) u e f = plain-no_code b (s.ty u) (rw e at f)

-- so no code type stands under a code type in any type of a node
nodes-append : (s : Substitution) (xs ys : List NodeNumbers) → NodesAreFormed (map (facts_at s) xs)
    → NodesAreFormed (map (facts_at s) ys) → NodesAreFormed (map (facts_at s) (xs ++ ys))
nodes-append s [] ys h k = k
nodes-append s (x ∷ xs) ys h k = (h.0, nodes-append s xs ys h.1 k)

module _ (schemes : List TopScheme) (s : Substitution) (R : Level → ℕ → Type 0)
    (flat : (m : Level) (u : ℕ) → R m u → IsFormedExpression (s.ty u)) where
  all-flat : (m : Level) (us : List ℕ) → AllAre R m us → AllFormed (map s.ty us)
  all-flat m [] h = tt
  all-flat m (u ∷ us) h = (flat m u h.0, all-flat m us h.1)

  pub nodes-flat : (u o c : ℕ) (m : Level) (e : Expression) → Levelled R schemes u o c m e
      → NodesAreFormed (map (facts_at s) (node_numbers schemes u o c e))
  nodes-flat u o c m (fun e) h = (all-flat m (u ∷ o ∷ []) h.0, nodes-flat (o + 1) (o + 2) c m e h.1)
  nodes-flat u o c m (fix e) h = (all-flat m (u ∷ (o + 1) ∷ o ∷ []) h.0, nodes-flat (o + 2) (o + 3) c m e h.1)
  nodes-flat u o c m (app e f) h = (
    all-flat m (u ∷ []) h.0,
    nodes-append s _ _ (nodes-flat o (o + 2) c m e h.1)
        (nodes-flat (o + 1) (o + 2 + unknowns_of schemes e) (c + classifiers_of schemes e) m f h.2),
  )
  nodes-flat u o c m (bind e f) h = (
    all-flat m (u ∷ o ∷ []) h.0,
    nodes-append s _ _ (nodes-flat (o + 1) (o + 3) c m e h.1)
        (nodes-flat (o + 2) (o + 3 + unknowns_of schemes e) (c + classifiers_of schemes e) m f h.2),
  )
  nodes-flat u o c m (cond x e f) h = (
    all-flat m (u ∷ []) h.0,
    nodes-append s _ _ (nodes-append s _ _ (nodes-flat o (o + 3) c m x h.1)
        (nodes-flat (o + 1) (o + 3 + unknowns_of schemes x) (c + classifiers_of schemes x) m e h.2))
        (nodes-flat (o + 2) (o + 3 + unknowns_of schemes x + unknowns_of schemes e)
        (c + classifiers_of schemes x + classifiers_of schemes e) m f h.3),
  )
  nodes-flat u o c m (pair e f) h = (
    all-flat m (u ∷ []) h.0,
    nodes-append s _ _ (nodes-flat o (o + 2) c m e h.1)
        (nodes-flat (o + 1) (o + 2 + unknowns_of schemes e) (c + classifiers_of schemes e) m f h.2),
  )
  nodes-flat u o c m (fst e) h = (all-flat m (u ∷ o ∷ []) h.0, nodes-flat (o + 1) (o + 2) c m e h.1)
  nodes-flat u o c m (snd e) h = (all-flat m (u ∷ o ∷ []) h.0, nodes-flat (o + 1) (o + 2) c m e h.1)
  nodes-flat u o c m (prim x e f) h = (
    all-flat m (u ∷ []) h.0,
    nodes-append s _ _ (nodes-flat o (o + 2) c m e h.1)
        (nodes-flat (o + 1) (o + 2 + unknowns_of schemes e) (c + classifiers_of schemes e) m f h.2),
  )
  nodes-flat u o c m (bracket e) h = (all-flat m (u ∷ []) h.0, nodes-flat o (o + 1) (c + 1) (under c) e h.1)
  nodes-flat u o c m (escape e) h = (all-flat m (u ∷ []) h.0, nodes-flat o (o + 1) c live e h.1)
  nodes-flat u o c m (run x e) h = (all-flat m (u ∷ []) h.0, nodes-flat o (o + 1) c live e h.1)
  nodes-flat u o c m (close at e) h = (all-flat m (u ∷ o ∷ []) h.0, nodes-flat (o + 1) (o + 2) (c + 1) live e h.1)
  nodes-flat u o c m (opened e) h = (all-flat m (u ∷ o ∷ []) h.0, nodes-flat (o + 1) (o + 2) (c + 1) live e h.1)
  nodes-flat u o c m (lift e) h = (all-flat m (u ∷ []) h.0, nodes-flat o (o + 1) (c + 1) live e h.1)
  nodes-flat u o c m (lift_b e) h = (all-flat m (u ∷ []) h.0, nodes-flat o (o + 1) (c + 1) live e h.1)
  nodes-flat u o c m e h = (all-flat m (u ∷ []) h, tt)
