-- A turn of checking a body, over what a function holds.
use Rattle.std.specs.Prelude.{◌≡◌, ◌<◌, ℕ, zero, suc, ◌+◌, Bool, true, false, List, [], ◌∷◌, ◌++◌, reverse, map, Option}
use Rattle.mw_wasm.specs.declared.values.ValType.{ValType}
use Rattle.mw_wasm.specs.Syntax.{Instruction, Code, block, loop, cond, end, next}
use Rattle.mw_wasm.specs.Validity.{Context, context_of, results_of}
use Rattle.mw_wasm.specs.Views.{instruction_of, list_code, code_of, module_of}
use Rattle.mw_validate.specs.declared.frames.Frame.{Frame}
use Rattle.mw_validate.specs.declared.frames.Kind.{Kind}
use Rattle.mw_validate.specs.declared.frames.Kind.TheVariants.{Block, Loop, First}
use Rattle.mw_validate.specs.declared.frames.Checking.{Checking}
use Rattle.mw_validate.specs.declared.frames.Turn.{Turn}
use Rattle.mw_validate.specs.declared.frames.Turn.TheVariants.{On, Passed, Failed}
use Rattle.mw_wasm.specs.declared.instructions.Instr.{Instr}
use Rattle.mw_wasm.specs.declared.instructions.Instrs.{Instrs}
use Rattle.mw_validate.specs.declared.context.Surroundings.{Surroundings}
use Rattle.mw_validate.specs.declared.operands.OperandList.{OperandList}
use Rattle.mw_validate.specs.Checks.{Operands, opened, closes, after, after_code}
use Rattle.mw_validate.specs.Lists.{operands_of}
use Rattle.mw_validate.specs.Frames.{Waiting, last_list, first_list, labels_of, inside, still_passes}

abbrev pub as_waiting : Kind → Option ValType → Operands → Code → Waiting
as_waiting Block t s code = last_list (results_of t) t s code
as_waiting Loop t s code = last_list [] t s code
as_waiting (First second) t s code = first_list t (code_of second.now) s code

abbrev pub waiting_of : Frame → Waiting
waiting_of f = as_waiting f.kind f.result (operands_of f.below) (list_code f.code.now)

abbrev pub waitings_of : List Frame → List Waiting
waitings_of fs = map waiting_of (reverse fs)

-- what code in a function may speak of, without labels
abbrev pub context_in : Surroundings → Context
context_in s = record (context_of (module_of s.wasm.now)) {
  locals = s.params.now ++ s.locals.now;
  labels = [];
  results = s.results.now;
}

-- and inside lists that wait
abbrev pub labels_at : Surroundings → List Frame → List (List ValType)
labels_at s fs = labels_of (context_in s) (waitings_of fs)

abbrev pub context_at : Surroundings → List Frame → Context
context_at s fs = inside (context_in s) (waitings_of fs)

-- the operands behind an instruction there: none where a test fails
abbrev pub after_in : Surroundings → List Frame → Instr → OperandList → Option Operands
after_in s fs i list = after (context_at s fs) (instruction_of i) (operands_of list)

-- how much is still to be checked: each instruction, and each end of a list
abbrev mutual
  pub weight_of : Instruction → ℕ
  weight_of (block t body) = suc (weight body)
  weight_of (loop t body) = suc (weight body)
  weight_of (cond t a b) = suc (weight a + weight b)
  weight_of _ = suc zero

  pub weight : Code → ℕ
  weight end = suc zero
  weight (next i code) = weight_of i + weight code

abbrev pub waiting_weight : List Waiting → ℕ
waiting_weight [] = zero
waiting_weight (last_list label t s code ∷ ws) = weight code + waiting_weight ws
waiting_weight (first_list t second s code ∷ ws) = weight second + (weight code + waiting_weight ws)

abbrev pub work : Checking → ℕ
work k = weight (list_code k.code.now) + waiting_weight (waitings_of k.frames.items)

-- whether all that is still to be checked passes
abbrev pub all_passes : Context → Checking → Bool
all_passes c k =
    still_passes c (waitings_of k.frames.items) (list_code k.code.now) (operands_of k.list)

abbrev pub Turned : Context → Turn → Checking → Checking → Type 0
Turned c On before after = (all_passes c before ≡ all_passes c after) × (work after < work before)
Turned c Passed before after = all_passes c before ≡ true
Turned c Failed before after = all_passes c before ≡ false

-- A list is entered: this waits for its end.
pub record Entered (w : Waiting) (body : Code) (before after : Checking) : Type 0 where
  pub frames : waitings_of after.frames.items ≡ w ∷ waitings_of before.frames.items
  pub list : operands_of after.list ≡ opened
  pub code : list_code after.code.now ≡ body

abbrev pub Enters : Kind → Option ValType → List Instr → Instrs → Checking → Checking → Type 0
Enters kind t rest body before after =
    Entered (as_waiting kind t (operands_of before.list) (list_code rest)) (code_of body) before after

-- a body passes: its label takes and ends with the function's results
abbrev pub body_passes : Context → Code → Bool
body_passes c code = closes c.results (after_code (record c { labels = c.results ∷ [] }) code opened)
