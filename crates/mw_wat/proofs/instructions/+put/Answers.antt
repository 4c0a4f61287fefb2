use Rattle.std.proofs.Common.{refl, ap, ◌∙◌, [], ◌∷◌, ◌++◌, arith}
use Rattle.std.specs.Prelude.{codes}
use Rattle.mw_wasm.specs.BinaryModules.{at_most_one}
use Rattle.mw_wasm.specs.Views.{code_of, list_code}
use Rattle.mw_wat.specs.Lexemes.{word, types_behind, code, otherwise}
use Rattle.mw_wat.specs.Spacing.{spaced}
use Rattle.mw_wat.proofs.TextParts.{types_closed, both_closed, then_spaced, last_spaced, as_spaced, left_step, left_end}
use Rattle.mw_wat.proofs.InstructionTexts.{list_lexemes, list_closed, otherwise_closed, otherwise_some}
use Rattle.mw_wat.proofs.InstructionTexts.{instruction_text, code_text, block_lexemes, loop_lexemes, cond_lexemes}
use Rattle.mw_wat.proofs.instructions.+put.Goals as goal

pub put_code-loop-instruction-preserved : goal.put_code-loop-instruction-preserved
put_code-loop-instruction-preserved t c =
    left_step instruction_text c.as_slice-list.result.now c.loop-instruction.instruction-index _ _
    c.loop-instruction.out.items c.put_instruction.new.out.items _ c.loop-instruction-test.true c.instruction-item.is
    c.in_ok-put_instruction.ensures c.loop-instruction.invariant

pub put_code-returns : goal.put_code-returns
put_code-returns t c =
    left_end instruction_text c.as_slice-list.result.now c.loop-instruction.instruction-index
    c.loop-instruction.out.items _
    c.loop-instruction-test.false c.loop-instruction.invariant
    ∙ ap (λ text. c.args.out.now.items ++ text) (code_text c.as_slice-list.result.now)
    ∙ ap (λ list. c.args.out.now.items ++ spaced (code (list_code list))) c.as_slice-list.ensures

pub put_else-returns : goal.put_else-returns
put_else-returns t c = as_spaced c.put_code.result _ _ (word (codes "else") ∷ code (code_of c.args.second.now)) _
    (otherwise_some c.args.second.now.inner.items (omega (arith, c.if-len-eq0.false, c.len.ensures)))
    (last_spaced c.put_code.result _ _ _ (word (codes "else") ∷ [])
    (code (code_of c.args.second.now)) refl c.in_ok-put_word.ensures c.put_code.ensures)

pub put_list-returns : goal.put_list-returns
put_list-returns t c =
    let kind = types_behind (codes "result") (at_most_one c.args.kind) in
    let closed = types_closed (codes "result") (at_most_one c.args.kind) in
    last_spaced c.put_code.result _ _ _ (word c.args.text.now ∷ kind) (code (code_of c.args.list.now)) closed
    (then_spaced _ _ _ (word c.args.text.now ∷ []) kind refl c.in_ok-put_word.ensures c.in_ok-put_result.ensures)
    c.put_code.ensures

pub put_instruction-returns-in_ok-put_list-in-Block : goal.put_instruction-returns-in_ok-put_list-in-Block
put_instruction-returns-in_ok-put_list-in-Block t c = as_spaced _ _ _ _ _
    (block_lexemes c.args.one.now c.in-Block.kind c.in-Block.body c.in-Block.is)
    (last_spaced c.put_word-in-Block.result _ _ _ (list_lexemes (codes "block") c.in-Block.kind c.in-Block.body)
    (word (codes "end") ∷ [])
    (list_closed (codes "block") c.in-Block.kind c.in-Block.body) c.in_ok-put_list-in-Block.ensures
    c.put_word-in-Block.ensures)

pub put_instruction-returns-in_ok-put_list-in-Loop : goal.put_instruction-returns-in_ok-put_list-in-Loop
put_instruction-returns-in_ok-put_list-in-Loop t c = as_spaced _ _ _ _ _
    (loop_lexemes c.args.one.now c.in-Loop.kind c.in-Loop.body c.in-Loop.is)
    (last_spaced c.put_word-in-Loop.result _ _ _ (list_lexemes (codes "loop") c.in-Loop.kind c.in-Loop.body)
    (word (codes "end") ∷ [])
    (list_closed (codes "loop") c.in-Loop.kind c.in-Loop.body) c.in_ok-put_list-in-Loop.ensures
    c.put_word-in-Loop.ensures)

pub put_instruction-returns-in_ok-put_else-in-If : goal.put_instruction-returns-in_ok-put_else-in-If
put_instruction-returns-in_ok-put_else-in-If t c =
    let first = list_lexemes (codes "if") c.in-If.kind c.in-If.then in
    let second = otherwise (code_of c.in-If.second) in
    let closed = list_closed (codes "if") c.in-If.kind c.in-If.then in
    as_spaced _ _ _ _ _ (cond_lexemes c.args.one.now c.in-If.kind c.in-If.then c.in-If.second c.in-If.is)
    (last_spaced c.put_word-in-If.result _ _ _ (first ++ second) (word (codes "end") ∷ [])
    (both_closed first second closed (otherwise_closed (code_of c.in-If.second)))
    (then_spaced _ _ _ first second closed c.in_ok-put_list-in-If.ensures c.in_ok-put_else-in-If.ensures)
    c.put_word-in-If.ensures)
