use Rattle.std.proofs.Common.{◌≡◌, ◌++◌, ◌∷◌, [], drop}
use Rattle.std.specs.List.{flat_map}
use Rattle.mw_wat.specs.Names.{type_name}
use Rattle.mw_wat.specs.Lexemes.{word}
use Rattle.mw_wat.specs.Spacing.{spaced}
use Rattle.mw_wat.proofs.fields.put_names_of_types.Given as goal

abbrev pub invariant-loop-kind : goal.invariant-loop-kind
invariant-loop-kind l = l.out.items ++ flat_map (λ t. spaced (word (type_name t) ∷ [])) (drop l.kind-index l.list)
    ≡ l.fn.out.items ++ flat_map (λ t. spaced (word (type_name t) ∷ [])) l.list
