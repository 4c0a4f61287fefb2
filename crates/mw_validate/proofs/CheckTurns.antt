-- Turns of checking, over what a function holds.
use Rattle.std.proofs.Common.{◌≡◌, ◌<◌, ◌+◌, true, false, List, [], ◌∷◌, ◌++◌, map, Option, Some, None, refl, sym, ap}
use Rattle.std.proofs.Common.{◌∙◌, arith}
use Rattle.std.proofs.lemmas.List.{reverse-append}
use Rattle.mw_wasm.specs.declared.values.ValType.{ValType}
use Rattle.mw_wasm.specs.declared.values.ValType.TheVariants.{I32}
use Rattle.mw_wasm.specs.declared.instructions.Instr.{Instr}
use Rattle.mw_wasm.specs.Syntax.{Instruction, Code, unreachable, block, loop, cond}
use Rattle.mw_wasm.specs.Syntax.{end}
use Rattle.mw_wasm.specs.Syntax.{next}
use Rattle.mw_wasm.specs.Validity.{Context, results_of}
use Rattle.mw_wasm.specs.Views.{instruction_of, list_code}
use Rattle.mw_validate.specs.declared.frames.Frame.{Frame}
use Rattle.mw_validate.specs.declared.frames.Kind.{Kind}
use Rattle.mw_validate.specs.declared.frames.Kind.TheVariants.{Block, Loop}
use Rattle.mw_validate.specs.declared.frames.Checking.{Checking}
use Rattle.mw_validate.specs.declared.frames.Turn.TheVariants.{On}
use Rattle.mw_validate.specs.Checks as acts
use Rattle.mw_validate.specs.Checks.{Operands, opened, pop, pushes, closes}
use Rattle.mw_validate.specs.Lists.{operands_of}
use Rattle.mw_validate.specs.Frames as frames
use Rattle.mw_validate.specs.Frames.{Waiting, last_list, first_list, still_passes}
use Rattle.mw_validate.specs.Turns.{as_waiting, waiting_of, waitings_of, weight_of, weight, waiting_weight, work}
use Rattle.mw_validate.specs.Turns.{all_passes, Turned, Entered}
use Rattle.mw_validate.proofs.CheckSteps.{leave_last, not_closed, plain_step, plain_fails, enter_block, enter_loop}
use Rattle.mw_validate.proofs.CheckSteps.{enter_if, if_fails}

pub frame_on_top : (fs : List Frame) (f : Frame) → waitings_of (fs ++ f ∷ []) ≡ waiting_of f ∷ waitings_of fs
frame_on_top fs f = ap (map waiting_of) (reverse-append fs (f ∷ []))

passes_as : (c : Context) (k : Checking) (ws : List Waiting) (code : Code) → waitings_of k.frames.items ≡ ws
    → list_code k.code.now ≡ code → all_passes c k ≡ still_passes c ws code (operands_of k.list)
passes_as c k ws code e f = ap (λ ws. still_passes c ws (list_code k.code.now) (operands_of k.list)) e
    ∙ ap (λ code. still_passes c ws code (operands_of k.list)) f

work_as : (k : Checking) (ws : List Waiting) (code : Code) → waitings_of k.frames.items ≡ ws → list_code k.code.now
    ≡ code → work k ≡ weight code + waiting_weight ws
work_as k ws code e f = ap (λ ws. weight (list_code k.code.now) + waiting_weight ws) e
    ∙ ap (λ code. weight code + waiting_weight ws) f

pub body_ends : (c : Context) (k : Checking) → k.code.now ≡ [] → k.frames.items ≡ [] → all_passes c k
    ≡ closes c.results (Some (operands_of k.list))
body_ends c k e f = passes_as c k [] end (ap waitings_of f) (ap list_code e)

top_is : (k : Checking) (fs : List Frame) (f : Frame) → k.frames.items ≡ fs ++ f ∷ [] → waitings_of k.frames.items
    ≡ waiting_of f ∷ waitings_of fs
top_is k fs f e = ap waitings_of e ∙ frame_on_top fs f

kind_same : (k : Kind) (t : Option ValType) (s : Operands) (code : Code) → frames.kind_of (as_waiting k t s code) ≡ t
kind_same Block t s code = refl
kind_same k t s code = refl

pub list_fails : (c : Context) (k : Checking) (fs : List Frame) (f : Frame) → k.code.now ≡ [] → k.frames.items ≡ fs ++ f
    ∷ [] → closes (results_of f.result) (Some (operands_of k.list)) ≡ false → all_passes c k ≡ false
list_fails c k fs f e g h = passes_as c k (waiting_of f ∷ waitings_of fs) end (top_is k fs f g) (ap list_code e)
    ∙ not_closed c (waitings_of fs) (waiting_of f) (operands_of k.list)
    (ap (λ t. closes (results_of t) (Some (operands_of k.list)))
    (kind_same f.kind f.result (operands_of f.below) (list_code f.code.now)) ∙ h)

module _ (c : Context) (before after : Checking) (fs : List Frame) (f : Frame) (ended : before.code.now ≡ [])
    (top : before.frames.items ≡ fs ++ f ∷ []) (fits : closes (results_of f.result) (Some (operands_of before.list))
    ≡ true) where
  left_so : (label : List ValType) → waiting_of f ≡ last_list label f.result (operands_of f.below)
      (list_code f.code.now)
      → after.frames.items ≡ fs → after.code.now ≡ f.code.now → operands_of after.list ≡ pushes (results_of f.result)
      (operands_of f.below) → Turned c On before after
  left_so label w frames code list =
      let e : waitings_of before.frames.items ≡ last_list label f.result (operands_of f.below) (list_code f.code.now)
      ∷ waitings_of fs = top_is before fs f top ∙ ap (λ w. w ∷ waitings_of fs) w in
      let work_before = work_as before _ end e (ap list_code ended) in
      let work_after = work_as after (waitings_of fs) (list_code f.code.now) (ap waitings_of frames)
      (ap list_code code) in (
        passes_as c before _ end e (ap list_code ended)
            ∙ (leave_last c (waitings_of fs) label f.result (operands_of f.below) (operands_of before.list)
            (list_code f.code.now) fits
            ∙ (ap (λ s. still_passes c (waitings_of fs) (list_code f.code.now) s) (sym list)
            ∙ sym (passes_as c after (waitings_of fs) (list_code f.code.now) (ap waitings_of frames)
            (ap list_code code)))),
        rw (work_before, work_after) (omega arith),
      )

  pub block_left : f.kind ≡ Block → after.frames.items ≡ fs → after.code.now ≡ f.code.now → operands_of after.list
      ≡ pushes (results_of f.result) (operands_of f.below) → Turned c On before after
  block_left k =
      left_so (results_of f.result) (ap (λ k. as_waiting k f.result (operands_of f.below) (list_code f.code.now)) k)

  pub loop_left : f.kind ≡ Loop → after.frames.items ≡ fs → after.code.now ≡ f.code.now → operands_of after.list
      ≡ pushes (results_of f.result) (operands_of f.below) → Turned c On before after
  loop_left k = left_so [] (ap (λ k. as_waiting k f.result (operands_of f.below) (list_code f.code.now)) k)

-- instructions
weighs : (i : Instruction) → 0 < weight_of i
weighs unreachable = omega arith
weighs i = omega arith

pub plain_turn : (c : Context) (before after : Checking) (i : Instr) (rest : List Instr) (left : Operands)
    → before.code.now ≡ i ∷ rest → acts.after (frames.inside c (waitings_of before.frames.items)) (instruction_of i)
    (operands_of before.list) ≡ Some left
    → operands_of after.list ≡ left → after.frames.items ≡ before.frames.items → after.code.now ≡ rest
    → Turned c On before after
plain_turn c before after i rest left here e list fs code =
    let w = weighs (instruction_of i) in
    let a = work_as before (waitings_of before.frames.items) (next (instruction_of i) (list_code rest)) refl
    (ap list_code here) in
    let b = work_as after (waitings_of before.frames.items) (list_code rest) (ap waitings_of fs) (ap list_code code) in (
      passes_as c before (waitings_of before.frames.items) (next (instruction_of i) (list_code rest)) refl
          (ap list_code here)
          ∙ (plain_step c (waitings_of before.frames.items) (instruction_of i) (list_code rest)
          (operands_of before.list) left e
          ∙ (ap (λ s. still_passes c (waitings_of before.frames.items) (list_code rest) s) (sym list)
          ∙ sym (passes_as c after (waitings_of before.frames.items) (list_code rest) (ap waitings_of fs)
          (ap list_code code)))),
      rw (a, b) (omega (arith, w)),
    )

pub failed_turn : (c : Context) (before : Checking) (i : Instr) (rest : List Instr) → before.code.now ≡ i ∷ rest
    → acts.after (frames.inside c (waitings_of before.frames.items)) (instruction_of i) (operands_of before.list) ≡ None
    → all_passes c before ≡ false
failed_turn c before i rest here e = passes_as c before (waitings_of before.frames.items)
    (next (instruction_of i) (list_code rest)) refl (ap list_code here)
    ∙ plain_fails c (waitings_of before.frames.items) (instruction_of i) (list_code rest) (operands_of before.list) e

entered_so : (c : Context) (before after : Checking) (i : Instr) (rest : List Instr) (w : Waiting) (body : Code)
    → before.code.now ≡ i ∷ rest → Entered w body before after
    → still_passes c (waitings_of before.frames.items) (next (instruction_of i) (list_code rest))
    (operands_of before.list) ≡ still_passes c (w ∷ waitings_of before.frames.items) body opened
    → weight body + waiting_weight (w ∷ waitings_of before.frames.items)
    < weight (next (instruction_of i) (list_code rest)) + waiting_weight (waitings_of before.frames.items)
    → Turned c On before after
entered_so c before after i rest w body here h e less =
    let a = work_as before (waitings_of before.frames.items) (next (instruction_of i) (list_code rest)) refl
    (ap list_code here) in
    let b = work_as after (w ∷ waitings_of before.frames.items) body h.frames h.code in (
      passes_as c before (waitings_of before.frames.items) (next (instruction_of i) (list_code rest)) refl
          (ap list_code here)
          ∙ (e ∙ (ap (λ s. still_passes c (w ∷ waitings_of before.frames.items) body s) (sym h.list)
          ∙ sym (passes_as c after (w ∷ waitings_of before.frames.items) body h.frames h.code))),
      rw (a, b) less,
    )

pub block_turn : (c : Context) (before after : Checking) (i : Instr) (rest : List Instr) (t : Option ValType)
    (body : Code) → before.code.now ≡ i ∷ rest → instruction_of i ≡ block t body
    → Entered (as_waiting Block t (operands_of before.list) (list_code rest)) body before after
    → Turned c On before after
block_turn c before after i rest t body here k h = entered_so c before after i rest _ body here h
    (ap (λ j. still_passes c (waitings_of before.frames.items) (next j (list_code rest)) (operands_of before.list)) k
    ∙ enter_block c (waitings_of before.frames.items) t body (list_code rest) (operands_of before.list))
    (rw k (omega arith))

pub loop_turn : (c : Context) (before after : Checking) (i : Instr) (rest : List Instr) (t : Option ValType)
    (body : Code) → before.code.now ≡ i ∷ rest → instruction_of i ≡ loop t body
    → Entered (as_waiting Loop t (operands_of before.list) (list_code rest)) body before after
    → Turned c On before after
loop_turn c before after i rest t body here k h = entered_so c before after i rest _ body here h
    (ap (λ j. still_passes c (waitings_of before.frames.items) (next j (list_code rest)) (operands_of before.list)) k
    ∙ enter_loop c (waitings_of before.frames.items) t body (list_code rest) (operands_of before.list))
    (rw k (omega arith))

pub if_turn : (c : Context) (before mid after : Checking) (i : Instr) (rest : List Instr) (t : Option ValType)
    (a b : Code) → before.code.now ≡ i ∷ rest → instruction_of i ≡ cond t a b
    → pop I32 (operands_of before.list) ≡ Some (operands_of mid.list) → mid.frames.items ≡ before.frames.items
    → Entered (first_list t b (operands_of mid.list) (list_code rest)) a mid after → Turned c On before after
if_turn c before mid after i rest t a b here e p fs h =
    entered_so c before after i rest (first_list t b (operands_of mid.list) (list_code rest)) a here
    (record {
      frames = h.frames ∙ ap (λ fs. first_list t b (operands_of mid.list) (list_code rest) ∷ waitings_of fs) fs;
      list = h.list;
      code = h.code;
    })
    (ap (λ j. still_passes c (waitings_of before.frames.items) (next j (list_code rest)) (operands_of before.list)) e
    ∙ enter_if c (waitings_of before.frames.items) t a b (list_code rest) (operands_of before.list)
    (operands_of mid.list) p)
    (rw e (omega arith))

pub if_failed : (c : Context) (before : Checking) (i : Instr) (rest : List Instr) (t : Option ValType) (a b : Code)
    → before.code.now ≡ i ∷ rest → instruction_of i ≡ cond t a b → pop I32 (operands_of before.list) ≡ None
    → all_passes c before ≡ false
if_failed c before i rest t a b here e p = passes_as c before (waitings_of before.frames.items)
    (next (instruction_of i) (list_code rest)) refl (ap list_code here)
    ∙ (ap (λ j. still_passes c (waitings_of before.frames.items) (next j (list_code rest)) (operands_of before.list)) e
    ∙ if_fails c (waitings_of before.frames.items) t a b (list_code rest) (operands_of before.list) p)

-- what a turn of the check leaves
pub ruleset turn_laws = (body_ends, list_fails, block_left, loop_left)
