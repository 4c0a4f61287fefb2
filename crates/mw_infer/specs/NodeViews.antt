-- The views from the types of the code to what the specs say of nodes.
use Rattle.std.specs.Prelude.{ℕ, List, [], ◌∷◌, Option, Some, None, cond, eqb}
use Rattle.mw_infer.specs.declared.nodes.NodeNumbers.{NodeNumbers as RustNodeNumbers}
use Rattle.mw_infer.specs.Nodes.{NodeNumbers}
use Rattle.mw_infer.specs.Numbering.{none}

-- a number where there is one
abbrev pub number_of : ℕ → Option ℕ
number_of n = cond (eqb n none) None (Some n)

-- two numbers, or the first alone, or none
abbrev pub further_of : ℕ → ℕ → List ℕ
further_of n m = cond (eqb n none) [] (n ∷ cond (eqb m none) [] (m ∷ []))

abbrev pub numbers_of : RustNodeNumbers → NodeNumbers
numbers_of n = record { types = n.own ∷ further_of n.first n.second; classifier = number_of n.classifier }
