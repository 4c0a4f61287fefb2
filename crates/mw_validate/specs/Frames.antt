-- Checking code with lists that wait: what is still to be checked of a function's body.
use Rattle.std.specs.Prelude.{Bool, ◌&&◌, List, [], ◌∷◌, Option}
use Rattle.mw_wasm.specs.declared.values.ValType.{ValType}
use Rattle.mw_wasm.specs.Syntax.{Code}
use Rattle.mw_wasm.specs.Validity.{Context, results_of}
use Rattle.mw_validate.specs.Checks.{Operands, opened, pushes, closes, after_code}

-- what waits for the end of a list inside an instruction: the operands below it, and the code behind the instruction
pub data Waiting : Type 0 where
  -- the body of a block or a loop, or an if's last list, with the types that a branch to its label takes
  last_list : (label : List ValType) (t : Option ValType) (s : Operands) (code : Code) → Waiting
  -- the first list of an if, whose second is to come
  first_list : (t : Option ValType) (second : Code) (s : Operands) (code : Code) → Waiting

abbrev pub label_of : Waiting → List ValType
label_of (last_list label t s code) = label
label_of (first_list t second s code) = results_of t

-- the result of the instruction that holds the list
abbrev pub kind_of : Waiting → Option ValType
kind_of (last_list label t s code) = t
kind_of (first_list t second s code) = t

module _ (c : Context) where
  -- the labels round the code, the innermost first, and the function's own behind them
  abbrev pub labels_of : List Waiting → List (List ValType)
  labels_of [] = c.results ∷ []
  labels_of (w ∷ ws) = label_of w ∷ labels_of ws

  abbrev pub inside : List Waiting → Context
  inside ws = record c { labels = labels_of ws }

  -- whether all that waits passes, where the innermost list leaves these operands
  abbrev pub passes : List Waiting → Option Operands → Bool
  passes [] left = closes c.results left
  passes (last_list label t s code ∷ ws) left =
      closes (results_of t) left
      && passes ws (after_code (inside ws) code (pushes (results_of t) s))
  passes (first_list t second s code ∷ ws) left =
      closes (results_of t) left
      && (closes (results_of t) (after_code (record c { labels = results_of t ∷ labels_of ws }) second opened)
      && passes ws (after_code (inside ws) code (pushes (results_of t) s)))

  -- whether this code passes from these operands on, and then all that waits
  abbrev pub still_passes : List Waiting → Code → Operands → Bool
  still_passes ws code s = passes ws (after_code (inside ws) code s)
