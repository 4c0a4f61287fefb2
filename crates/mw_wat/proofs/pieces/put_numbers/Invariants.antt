use Rattle.std.proofs.Common.{◌≡◌, ◌++◌, ◌∷◌, [], drop}
use Rattle.std.specs.List.{flat_map}
use Rattle.mw_wat.specs.Lexemes.{number}
use Rattle.mw_wat.specs.Spacing.{spaced}
use Rattle.mw_wat.proofs.pieces.put_numbers.Given as goal

abbrev pub invariant-loop-index : goal.invariant-loop-index
invariant-loop-index l = l.out.items ++ flat_map (λ n. spaced (number n ∷ [])) (drop l.index-index l.list)
    ≡ l.fn.out.items ++ flat_map (λ n. spaced (number n ∷ [])) l.list
