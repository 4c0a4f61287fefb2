use Rattle.std.proofs.Common.{rules, ◌≡◌, ◌-◌, ap, sym, ◌∙◌, Some}
use Rattle.mw_wasm.specs.Views.{instruction_of}
use Rattle.mw_wat.specs.Tokens.{word}
use Rattle.mw_wat.specs.Reading.{and_then, got}
use Rattle.mw_wat.specs.Instructions.{instructions, meaning, opens}
use Rattle.mw_wat.specs.Cursors.{next, tokens_at, token_of}
use Rattle.mw_wat.specs.Parts.{behind_opener}
use Rattle.mw_wat.specs.Steps.{one, step, step_of, place_of}
use Rattle.mw_wat.specs.Words.{opener_of, meaning_of}
use Rattle.mw_wat.proofs.CursorReaders.{gives_same}
use Rattle.mw_wat.proofs.CodeSteps.{list_shorter, step_opens}
use Rattle.mw_wat.proofs.reading.code.+code.Goals as goal

pub listed-loop-e-smaller : goal.listed-loop-e-smaller
listed-loop-e-smaller t c =
    list_shorter c.args.room (place_of c.loop-e.now) (tokens_at c.loop-e.left) (instruction_of c.in-One.instruction)
    (tokens_at c.in-Ok.rest) (c.in-Ok.ensures ∙ ap (λ s. got (step_of s) (tokens_at c.in-Ok.rest)) c.in-One.is)

pub next_step-returns-in_err-instr-in-Some-Opens : goal.next_step-returns-in_err-instr-in-Some-Opens
next_step-returns-in_err-instr-in-Some-Opens t c =
    let e : next (tokens_at c.args.cursor) ≡ got (word c.in-Word.word.now) (tokens_at c.in_ok-token.rest) =
    c.in_ok-token.ensures ∙ ap (λ k. got (token_of k) (tokens_at c.in_ok-token.rest)) c.in-Word.is in
    let k : Some (opens (opener_of c.in-Some-Opens.opener)) ≡ meaning c.in-Word.word.now =
    sym (ap (λ f. Some (meaning_of f)) c.in-Some-Opens.field-0-is) ∙ c.in-Some-Opens.ensures in
    gives_same _ _
    (and_then (behind_opener (c.args.room - 1) (opener_of c.in-Some-Opens.opener) (tokens_at c.in_ok-token.rest))
    λ i us. got (one i) us)
    (step instructions c.args.room (place_of c.args.place) (tokens_at c.args.cursor))
    (step_opens c.args.room (place_of c.args.place) (tokens_at c.args.cursor) (tokens_at c.in_ok-token.rest)
    c.in-Word.word.now (opener_of c.in-Some-Opens.opener) e k c.if-room-eq0.false)
    (search rules)

pub next_step-returns-in_ok-instr-in-Some-Opens : goal.next_step-returns-in_ok-instr-in-Some-Opens
next_step-returns-in_ok-instr-in-Some-Opens t c =
    let e : next (tokens_at c.args.cursor) ≡ got (word c.in-Word.word.now) (tokens_at c.in_ok-token.rest) =
    c.in_ok-token.ensures ∙ ap (λ k. got (token_of k) (tokens_at c.in_ok-token.rest)) c.in-Word.is in
    let k : Some (opens (opener_of c.in-Some-Opens.opener)) ≡ meaning c.in-Word.word.now =
    sym (ap (λ f. Some (meaning_of f)) c.in-Some-Opens.field-0-is) ∙ c.in-Some-Opens.ensures in
    step_opens c.args.room (place_of c.args.place) (tokens_at c.args.cursor) (tokens_at c.in_ok-token.rest)
    c.in-Word.word.now (opener_of c.in-Some-Opens.opener) e k c.if-room-eq0.false
    ∙ ap (λ r. and_then r λ i us. got (one i) us) c.in_ok-instr-in-Some-Opens.ensures
