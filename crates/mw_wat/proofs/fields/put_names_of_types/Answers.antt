use Rattle.std.proofs.Common.{refl, ap, sym, ◌∙◌, ◌++◌, ◌∷◌, [], map}
use Rattle.mw_wat.specs.Names.{type_name}
use Rattle.mw_wat.specs.Lexemes.{word}
use Rattle.mw_wat.specs.Spacing.{spaced}
use Rattle.mw_wat.proofs.TextParts.{left_step, left_end, spaced_map}
use Rattle.mw_wat.proofs.fields.put_names_of_types.Goals as goal

pub loop-kind-preserved : goal.loop-kind-preserved
loop-kind-preserved c = left_step
    (λ t. spaced (word (type_name t) ∷ [])) c.as_slice-list.result.now c.loop-kind.kind-index _ _
    c.loop-kind.out.items c.put_word.new.out.items _ c.loop-kind-test.true refl
    (c.in_ok-put_word.ensures ∙ ap (λ w. c.loop-kind.out.items ++ spaced (word w ∷ [])) c.name_of_type.ensures)
    c.loop-kind.invariant

pub returns : goal.returns
returns c = left_end
    (λ t. spaced (word (type_name t) ∷ [])) c.as_slice-list.result.now c.loop-kind.kind-index c.loop-kind.out.items _
    c.loop-kind-test.false c.loop-kind.invariant
    ∙ ap (λ text. c.args.out.now.items ++ text)
    (sym (spaced_map (λ t. word (type_name t)) (λ t. refl) c.as_slice-list.result.now))
    ∙ ap (λ list. c.args.out.now.items ++ spaced (map (λ t. word (type_name t)) list)) c.as_slice-list.ensures
