-- Code read one instruction after the other, as a loop reads it.
use Rattle.std.specs.Prelude.{ℕ, List, [], ◌∷◌, Option, Some, None}
use Rattle.mw_wasm.specs.declared.instructions.Instr.{Instr}
use Rattle.mw_wasm.specs.declared.instructions.Instrs.{Instrs}
use Rattle.mw_wasm.specs.Syntax as pure
use Rattle.mw_wasm.specs.Syntax.{Instruction, Code}
use Rattle.mw_wasm.specs.Views.{instruction_of, code_of}
use Rattle.mw_wat.specs.declared.reading.code.Mark.{Mark as Ending}
use Rattle.mw_wat.specs.declared.reading.code.Mark.TheVariants.{Closing, End, Else}
use Rattle.mw_wat.specs.declared.reading.code.Place.{Place as Standing}
use Rattle.mw_wat.specs.declared.reading.code.Place.TheVariants.{Whole, Inner, First, Fresh}
use Rattle.mw_wat.specs.declared.reading.code.Step.{Step as Taken}
use Rattle.mw_wat.specs.declared.reading.code.Step.TheVariants.{Marked, One}
use Rattle.mw_wat.specs.Tokens.{PureToken, right, word}
use Rattle.mw_wat.specs.Lexing.{Tokens}
use Rattle.mw_wat.specs.Reading.{Read, got, bad, and_then, Reader, ◌>>=◌, gives, fails, peek, skip}
use Rattle.mw_wat.specs.Instructions.{Meaning, ends, turns, opens, alone, meaning, Place, whole, inner, first, fresh}
use Rattle.mw_wat.specs.Instructions.{Mark, closed, ended, turned, Listed, Lists, opened, more}

-- a mark, or one more instruction
pub data Step : Type 0 where
  marked : (m : Mark) → Step
  one : (i : Instruction) → Step

abbrev pub place_of : Standing → Place
place_of Whole = whole
place_of Inner = inner
place_of First = first
place_of Fresh = fresh

abbrev pub mark_of : Ending → Mark
mark_of Closing = closed
mark_of End = ended
mark_of Else = turned

abbrev pub step_of : Taken → Step
step_of (Marked m) = marked (mark_of m)
step_of (One i) = one (instruction_of i)

abbrev pub listed_of : Instrs → Ending → Listed
listed_of list m = record { code = code_of list; mark = mark_of m }

-- the mark of a token at a place, where it is one
abbrev pub closing_mark : Place → Option Mark
closing_mark whole = Some closed
closing_mark _ = None

abbrev pub end_mark : Place → Option Mark
end_mark inner = Some ended
end_mark first = Some ended
end_mark _ = None

abbrev pub else_mark : Place → Option Mark
else_mark first = Some turned
else_mark _ = None

abbrev pub option_of : {X A : Type 0} → (X → A) → Option X → Option A
option_of view None = None
option_of view (Some x) = Some (view x)

-- a mark that stands here with this behind it, or nothing that can
abbrev pub marks_or_bad : Option Mark → Tokens → Tokens → Read Step
marks_or_bad None ts rest = bad ts
marks_or_bad (Some m) ts rest = got (marked m) rest

abbrev pub one_step : Reader Instruction → Reader Step
one_step r = r >>= λ i. gives (one i)

abbrev pub marks : Option Mark → Reader Step
marks None = fails
marks (Some m) = skip (gives (marked m))

abbrev pub step_meant : Lists → ℕ → Place → Option Meaning → Reader Step
step_meant lists room p None = fails
step_meant lists room p (Some ends) = marks (end_mark p)
step_meant lists room p (Some turns) = marks (else_mark p)
step_meant lists room p (Some (opens o)) = one_step (opened lists room o)
step_meant lists room p (Some (alone r)) = one_step (skip r)

abbrev pub step_by : Lists → ℕ → Place → PureToken → Reader Step
step_by lists room p right = marks (closing_mark p)
step_by lists room p (word w) = step_meant lists room p (meaning w)
step_by lists room p _ = fails

abbrev pub step : Lists → ℕ → Place → Reader Step
step lists room p = peek (step_by lists room p)

abbrev pub go_on : Lists → ℕ → Place → Step → Reader Listed
go_on lists room p (marked m) = gives (record { code = pure.end; mark = m })
go_on lists room p (one i) = more lists room p i

-- instructions before code
abbrev pub before : List Instr → Code → Code
before [] c = c
before (i ∷ is) c = pure.next (instruction_of i) (before is c)

-- instructions that were read before a list
abbrev pub with_front : List Instr → Read Listed → Read Listed
with_front is read = and_then read λ l rest. got (record { code = before is l.code; mark = l.mark }) rest
