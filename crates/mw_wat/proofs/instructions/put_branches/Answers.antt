use Rattle.std.proofs.Common.{refl, [], ◌∷◌, map}
use Rattle.std.specs.Prelude.{codes}
use Rattle.mw_wat.specs.Lexemes.{word, number}
use Rattle.mw_wat.proofs.TextParts.{each_closed, then_spaced, last_spaced}
use Rattle.mw_wat.proofs.instructions.put_branches.Goals as goal

pub returns : goal.returns
returns c = last_spaced c.put_number.result _ _ _ (word (codes "br_table") ∷ map number c.args.labels.now)
    (number c.args.label ∷ [])
    (each_closed number (λ _. refl) c.args.labels.now)
    (then_spaced _ _ _ (word (codes "br_table") ∷ [])
    (map number c.args.labels.now) refl c.in_ok-put_word.ensures c.in_ok-put_numbers.ensures)
    c.put_number.ensures
