-- What the typing of a part tells of the nodes of its term, in pre-order.
use Rattle.std.specs.Prelude.{ℕ, ◌≡◌, ◌+◌, List, [], ◌∷◌, ◌++◌, map, length, option_map, Option, Some, None, slice_get}
use Rattle.mw_term.specs.Terms.{Expression, fun, fix, app, bind, cond, pair, fst, snd, prim}
use Rattle.mw_term.specs.Terms.{bracket, escape, run, close, opened, lift, lift_b}
use Rattle.mw_term.specs.Programs.{PureProgram}
use Rattle.mw_term.specs.Parts.{Part, IsPart}
use Rattle.mw_types.specs.Types.{TypeExpression, Substitution, after}
use Rattle.mw_infer.specs.Schemes.{TopScheme}
use Rattle.mw_infer.specs.ItemEquations.{unknowns_of, classifiers_of}
use Rattle.mw_infer.specs.Inferring.{item_closes, AreFresh, least}
use Rattle.mw_infer.specs.Checking.{ArePrincipal, IsItemSolution}

-- A node's numbers: the unknown of its type, then those of its further types, and its classifier unknown, if it has
-- one. Further types are a function's argument, a recursive function itself and its argument, what a let binds, and, of
-- a pair's part, a close and an open, the part of a type that the node leaves open.
pub record NodeNumbers : Type 0 where
  pub types : List ℕ
  pub classifier : Option ℕ

abbrev pub plain_node : List ℕ → NodeNumbers
plain_node us = record { types = us; classifier = None }

abbrev pub quoted_node : List ℕ → ℕ → NodeNumbers
quoted_node us c = record { types = us; classifier = Some c }

-- The numbers of a term's nodes as its equations have them: u is its type's unknown, and o and c are the next free
-- numbers of unknowns and of classifier unknowns.
abbrev pub node_numbers : List TopScheme → ℕ → ℕ → ℕ → Expression → List NodeNumbers
node_numbers tops u o c (fun e) = plain_node (u ∷ o ∷ []) ∷ node_numbers tops (o + 1) (o + 2) c e
node_numbers tops u o c (fix e) = plain_node (u ∷ (o + 1) ∷ o ∷ []) ∷ node_numbers tops (o + 2) (o + 3) c e
node_numbers tops u o c (app f a) = plain_node (u ∷ []) ∷ (node_numbers tops o (o + 2) c f
    ++ node_numbers tops (o + 1) (o + 2 + unknowns_of tops f) (c + classifiers_of tops f) a)
node_numbers tops u o c (bind d e) = plain_node (u ∷ o ∷ []) ∷ (node_numbers tops (o + 1) (o + 3) c d
    ++ node_numbers tops (o + 2) (o + 3 + unknowns_of tops d) (c + classifiers_of tops d) e)
node_numbers tops u o c (cond p a b) = plain_node (u ∷ []) ∷ ((node_numbers tops o (o + 3) c p
    ++ node_numbers tops (o + 1) (o + 3 + unknowns_of tops p) (c + classifiers_of tops p) a)
    ++ node_numbers tops (o + 2) (o + 3 + unknowns_of tops p + unknowns_of tops a)
    (c + classifiers_of tops p + classifiers_of tops a) b)
node_numbers tops u o c (pair a b) = plain_node (u ∷ []) ∷ (node_numbers tops o (o + 2) c a
    ++ node_numbers tops (o + 1) (o + 2 + unknowns_of tops a) (c + classifiers_of tops a) b)
node_numbers tops u o c (fst e) = plain_node (u ∷ o ∷ []) ∷ node_numbers tops (o + 1) (o + 2) c e
node_numbers tops u o c (snd e) = plain_node (u ∷ o ∷ []) ∷ node_numbers tops (o + 1) (o + 2) c e
node_numbers tops u o c (prim p a b) = plain_node (u ∷ []) ∷ (node_numbers tops o (o + 2) c a
    ++ node_numbers tops (o + 1) (o + 2 + unknowns_of tops a) (c + classifiers_of tops a) b)
node_numbers tops u o c (bracket e) = quoted_node (u ∷ []) c ∷ node_numbers tops o (o + 1) (c + 1) e
node_numbers tops u o c (escape e) = plain_node (u ∷ []) ∷ node_numbers tops o (o + 1) c e
node_numbers tops u o c (run k e) = plain_node (u ∷ []) ∷ node_numbers tops o (o + 1) c e
node_numbers tops u o c (close at e) = quoted_node (u ∷ o ∷ []) c ∷ node_numbers tops (o + 1) (o + 2) (c + 1) e
node_numbers tops u o c (opened e) = quoted_node (u ∷ o ∷ []) c ∷ node_numbers tops (o + 1) (o + 2) (c + 1) e
node_numbers tops u o c (lift e) = quoted_node (u ∷ []) c ∷ node_numbers tops o (o + 1) (c + 1) e
node_numbers tops u o c (lift_b e) = quoted_node (u ∷ []) c ∷ node_numbers tops o (o + 1) (c + 1) e
node_numbers tops u o c e = plain_node (u ∷ []) ∷ []

-- the types and the classifier of a node
pub record NodeFacts : Type 0 where
  pub types : List TypeExpression
  pub classifier : Option ℕ

-- those that a substitution gives the node of these numbers
abbrev pub facts_at : Substitution → NodeNumbers → NodeFacts
facts_at s n = record { types = map s.ty n.types; classifier = option_map s.classifier n.classifier }

-- What is known of a part's nodes: one most general solution of its equations, on which its closes are fresh, at the
-- numbers of its nodes.
pub record AreNodesOfPart (x : Part) (facts : List NodeFacts) : Type 0 where
  pub schemes : List TopScheme
  pub principal : ArePrincipal x.names schemes
  pub solution : Substitution
  pub solves : IsItemSolution schemes x.place x.term solution
  pub fresh : AreFresh (after least solution) (item_closes schemes x.term)
  pub told : facts ≡ map (facts_at solution) (node_numbers schemes 0 1 0 x.term)

-- of the nodes of a program's items, in order, and then of main's
pub record AreNodesOf (p : PureProgram) (parts : List (List NodeFacts)) : Type 0 where
  pub count : length parts ≡ length p.items + 1
  pub each : (i : ℕ) (x : Part) (facts : List NodeFacts) → IsPart p i x → slice_get parts i ≡ Some facts
      → AreNodesOfPart x facts
