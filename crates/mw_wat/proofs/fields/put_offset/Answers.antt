use Rattle.std.proofs.Common.{refl, [], ◌∷◌}
use Rattle.std.specs.Prelude.{codes}
use Rattle.mw_wasm.specs.Views.{code_of}
use Rattle.mw_wat.specs.Lexemes.{left, right, word, code}
use Rattle.mw_wat.proofs.TextParts.{then_spaced, last_spaced}
use Rattle.mw_wat.proofs.InstructionTexts.{code_closed}
use Rattle.mw_wat.proofs.fields.put_offset.Goals as goal

pub returns : goal.returns
returns c =
    let body = code (code_of c.args.instructions.now) in
    last_spaced c.put_closing.result _ _ _ (left ∷ word (codes "offset") ∷ body) (right ∷ [])
    (code_closed (code_of c.args.instructions.now))
    (then_spaced _ _ _
    (left ∷ word (codes "offset") ∷ []) body refl c.in_ok-put_opening.ensures c.in_ok-put_code.ensures)
    c.put_closing.ensures
