use Rattle.std.proofs.Common.{refl, ap, sym, ◌∙◌, ◌++◌, ◌∷◌, [], map}
use Rattle.mw_wat.specs.Lexemes.{number}
use Rattle.mw_wat.specs.Spacing.{spaced}
use Rattle.mw_wat.proofs.TextParts.{left_step, left_end, spaced_map}
use Rattle.mw_wat.proofs.pieces.put_numbers.Goals as goal

pub loop-index-preserved : goal.loop-index-preserved
loop-index-preserved c = left_step
    (λ n. spaced (number n ∷ [])) c.as_slice-list.result.now c.loop-index.index-index _ _
    c.loop-index.out.items c.put_number.new.out.items _ c.loop-index-test.true refl c.in_ok-put_number.ensures
    c.loop-index.invariant

pub returns : goal.returns
returns c = left_end
    (λ n. spaced (number n ∷ [])) c.as_slice-list.result.now c.loop-index.index-index c.loop-index.out.items _
    c.loop-index-test.false c.loop-index.invariant
    ∙ ap (λ text. c.args.out.now.items ++ text) (sym (spaced_map number (λ n. refl) c.as_slice-list.result.now))
    ∙ ap (λ list. c.args.out.now.items ++ spaced (map number list)) c.as_slice-list.ensures
