-- The node that each equation of an item is of.
use Rattle.std.specs.Prelude.{ℕ, ◌≡◌, ◌+◌, ◌^◌, ◌≤◌, Bool, true, false, List, [], ◌∷◌, ◌++◌, Option, Some, None, map}
use Rattle.std.specs.Prelude.{replicate}
use Rattle.mw_term.specs.Terms.{Expression, num, truth, var, glob, fun, fix, app, bind, cond, pair, fst, snd, prim}
use Rattle.mw_term.specs.Terms.{bracket, escape, run, close, opened, lift, lift_b, done, size}
use Rattle.mw_term.specs.Parts.{Place, let_place, kernel_place, main_place}
use Rattle.mw_infer.specs.declared.owners.Owners.{Owners}

-- How many equations a node has of its own, in a term whose levels are right. A variable at level 1 has one more, on
-- its binder's classifier.
abbrev pub own_count : Bool → Expression → ℕ
own_count true (var i) = 2
own_count q (fix e) = 2
own_count q (bind d e) = 2
own_count q (cond c a b) = 3
own_count q (prim p a b) = 3
own_count q (run k e) = 2
own_count q (close at e) = 2
own_count q (opened e) = 2
own_count q (lift e) = 2
own_count q (lift_b e) = 2
own_count q _ = 1

-- The node of each equation of a term, in the order of the equations: the term's own node has the number n, and nodes
-- are counted in pre-order. q says whether the term stands at level 1.
abbrev pub equation_nodes : Bool → ℕ → Expression → List ℕ
equation_nodes q n (num k) = n ∷ []
equation_nodes q n (truth b) = n ∷ []
equation_nodes q n (var i) = replicate (own_count q (var i)) n
equation_nodes q n (glob i) = n ∷ []
equation_nodes q n (fun e) = n ∷ equation_nodes q (n + 1) e
equation_nodes q n (fix e) = n ∷ n ∷ equation_nodes q (n + 1) e
equation_nodes q n (app f a) = n ∷ (equation_nodes q (n + 1) f ++ equation_nodes q (n + 1 + size f) a)
equation_nodes q n (bind d e) = n ∷ n ∷ (equation_nodes q (n + 1) d ++ equation_nodes q (n + 1 + size d) e)
equation_nodes q n (cond c a b) = n ∷ n ∷ n ∷ ((equation_nodes q (n + 1) c ++ equation_nodes q (n + 1 + size c) a)
    ++ equation_nodes q (n + 1 + size c + size a) b)
equation_nodes q n (pair a b) = n ∷ (equation_nodes q (n + 1) a ++ equation_nodes q (n + 1 + size a) b)
equation_nodes q n (fst e) = n ∷ equation_nodes q (n + 1) e
equation_nodes q n (snd e) = n ∷ equation_nodes q (n + 1) e
equation_nodes q n (prim p a b) = n ∷ n ∷ n ∷ (equation_nodes q (n + 1) a ++ equation_nodes q (n + 1 + size a) b)
equation_nodes q n (bracket e) = n ∷ equation_nodes true (n + 1) e
equation_nodes q n (escape e) = n ∷ equation_nodes false (n + 1) e
equation_nodes q n (run k e) = n ∷ n ∷ equation_nodes q (n + 1) e
equation_nodes q n (close at e) = n ∷ n ∷ equation_nodes q (n + 1) e
equation_nodes q n (opened e) = n ∷ n ∷ equation_nodes q (n + 1) e
equation_nodes q n (lift e) = n ∷ n ∷ equation_nodes q (n + 1) e
equation_nodes q n (lift_b e) = n ∷ n ∷ equation_nodes q (n + 1) e
equation_nodes q n (done v) = n ∷ []

-- what the place of a part asks of its type is an equation of no node
abbrev pub place_owners : Place → List (Option ℕ)
place_owners let_place = []
place_owners (kernel_place k) = None ∷ []
place_owners (main_place g) = None ∷ []

-- the node of each equation of a part, if it is one's
abbrev pub item_owners : Place → Expression → List (Option ℕ)
item_owners place e = place_owners place ++ map (λ n. Some n) (equation_nodes false 0 e)

-- so many nodes more were counted, and these are the nodes of the equations after those that were there
pub record AddsOwners (old new : Owners) (count : ℕ) (added : List ℕ) : Type 0 where
  pub next : new.next ≡ old.next + count
  pub nodes : new.nodes.items ≡ old.nodes.items ++ map (λ n. Some n) added

-- those of a term
abbrev pub AddsTermOwners : Owners → Owners → Bool → Expression → Type 0
AddsTermOwners old new q e = AddsOwners old new (size e) (equation_nodes q old.next e)

-- there are numbers for so many nodes more
abbrev pub HasNumbers : Owners → Expression → Type 0
HasNumbers old e = old.next + size e ≤ 2 ^ 63
