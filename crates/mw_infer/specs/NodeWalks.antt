-- What the walk of a term adds to the numbers of nodes that are there.
use Rattle.std.specs.Prelude.{ℕ, ◌≡◌, ◌+◌, ◌^◌, ◌≤◌, List, [], ◌∷◌, ◌++◌, map}
use Rattle.mw_term.specs.Terms.{Expression, fun, fix, bind, fst, snd, bracket, close, opened, lift, lift_b}
use Rattle.mw_infer.specs.declared.nodes.Numbers.{Numbers}
use Rattle.mw_infer.specs.Schemes.{TopScheme}
use Rattle.mw_infer.specs.ItemEquations.{unknowns_of, classifiers_of}
use Rattle.mw_infer.specs.OwnParts.{own_unknowns, own_classifiers}
use Rattle.mw_infer.specs.Nodes.{NodeNumbers, plain_node, quoted_node, node_numbers}
use Rattle.mw_infer.specs.NodeViews.{numbers_of}

-- so many new unknowns and classifier unknowns, and these nodes after those that were there
pub record AddsNodes (old new : Numbers) (n m : ℕ) (nodes : List NodeNumbers) : Type 0 where
  pub unknowns : new.unknowns ≡ old.unknowns + n
  pub classifiers : new.classifiers ≡ old.classifiers + m
  pub added : map numbers_of new.nodes.items ≡ map numbers_of old.nodes.items ++ nodes

-- those of a term of type u
abbrev pub AddsTermNodes : Numbers → Numbers → List TopScheme → ℕ → Expression → Type 0
AddsTermNodes old new tops u e = AddsNodes old new (unknowns_of tops e) (classifiers_of tops e)
    (node_numbers tops u old.unknowns old.classifiers e)

-- the numbers of a term's own node, before those of its parts
abbrev pub own_node : ℕ → ℕ → ℕ → Expression → NodeNumbers
own_node u o c (fun e) = plain_node (u ∷ o ∷ [])
own_node u o c (fix e) = plain_node (u ∷ (o + 1) ∷ o ∷ [])
own_node u o c (bind d e) = plain_node (u ∷ o ∷ [])
own_node u o c (fst e) = plain_node (u ∷ o ∷ [])
own_node u o c (snd e) = plain_node (u ∷ o ∷ [])
own_node u o c (bracket e) = quoted_node (u ∷ []) c
own_node u o c (close at e) = quoted_node (u ∷ o ∷ []) c
own_node u o c (opened e) = quoted_node (u ∷ o ∷ []) c
own_node u o c (lift e) = quoted_node (u ∷ []) c
own_node u o c (lift_b e) = quoted_node (u ∷ []) c
own_node u o c _ = plain_node (u ∷ [])

-- that node and its own numbers alone
abbrev pub AddsOwnNode : Numbers → Numbers → List TopScheme → ℕ → Expression → Type 0
AddsOwnNode old new tops u e = AddsNodes old new (own_unknowns tops e) (own_classifiers tops e)
    (own_node u old.unknowns old.classifiers e ∷ [])

-- there are numbers for so many more
pub record HasSpace (old : Numbers) (n m : ℕ) : Type 0 where
  pub unknowns : old.unknowns + n ≤ 2 ^ 63
  pub classifiers : old.classifiers + m ≤ 2 ^ 63

-- and for those of a term
abbrev pub CanNumber : Numbers → List TopScheme → Expression → Type 0
CanNumber old tops e = HasSpace old (unknowns_of tops e) (classifiers_of tops e)
