-- The texts of instructions, as a program writes them.
use Rattle.std.proofs.Common.{◌≡◌, ℕ, ◌<◌, List, [], ◌∷◌, ◌++◌, map, length, refl, ap, sym, ◌∙◌, arith, Option, false}
use Rattle.std.specs.Prelude.{codes}
use Rattle.std.specs.List.{flat_map}
use Rattle.mw_wasm.specs.declared.values.ValType.{ValType}
use Rattle.mw_wasm.specs.declared.instructions.Instr as instr
use Rattle.mw_wasm.specs.declared.instructions.Instr.{Instr}
use Rattle.mw_wasm.specs.declared.instructions.Instrs.{Instrs}
use Rattle.mw_wasm.specs.BinaryModules.{at_most_one}
use Rattle.mw_wasm.specs.Syntax.{Instruction, Code, block, loop, cond, br_table}
use Rattle.mw_wasm.specs.Syntax.{end}
use Rattle.mw_wasm.specs.Syntax.{next}
use Rattle.mw_wasm.specs.Views.{instruction_of, list_code, code_of, block_is, loop_is, cond_is}
use Rattle.mw_wat.specs.Lexemes.{Lexeme, word, number, types_behind, instruction, code, otherwise}
use Rattle.mw_wat.specs.Spacing.{spaced}
use Rattle.mw_wat.proofs.TextParts.{ends_open, ends_append, types_closed, both_closed, spaced_append}

pub instruction_closed : (i : Instruction) → ends_open false (instruction i) ≡ false
instruction_closed (block t body) = ends_append false
    (word (codes "block") ∷ types_behind (codes "result") (at_most_one t) ++ code body) (word (codes "end") ∷ [])
instruction_closed (loop t body) = ends_append false
    (word (codes "loop") ∷ types_behind (codes "result") (at_most_one t) ++ code body) (word (codes "end") ∷ [])
instruction_closed (cond t a b) = ends_append false
    (word (codes "if") ∷ types_behind (codes "result") (at_most_one t) ++ code a ++ otherwise b)
    (word (codes "end") ∷ [])
instruction_closed (br_table ls l) = ends_append false (word (codes "br_table") ∷ map number ls) (number l ∷ [])
instruction_closed _ = refl

pub code_closed : (c : Code) → ends_open false (code c) ≡ false
code_closed end = refl
code_closed (next i c) = both_closed (instruction i) (code c) (instruction_closed i) (code_closed c)

pub otherwise_closed : (c : Code) → ends_open false (otherwise c) ≡ false
otherwise_closed end = refl
otherwise_closed (next i c) = both_closed (word (codes "else") ∷ instruction i) (code c) (instruction_closed i)
    (code_closed c)

pub otherwise_some : (is : List Instr) → 0 < length is → otherwise (list_code is) ≡ word (codes "else") ∷ code
    (list_code is)
otherwise_some [] p = absurd (omega arith)
otherwise_some (i ∷ is) p = refl

-- instructions as the program holds them
abbrev pub instruction_text : Instr → List ℕ
instruction_text i = spaced (instruction (instruction_of i))

pub code_text : (is : List Instr) → flat_map instruction_text is ≡ spaced (code (list_code is))
code_text [] = refl
code_text (i ∷ is) = ap (λ t. instruction_text i ++ t) (code_text is) ∙ sym
    (spaced_append (instruction (instruction_of i)) (code (list_code is)) (instruction_closed (instruction_of i)))

pub block_lexemes : (i : Instr) (t : Option ValType) (c : Instrs) → i ≡ instr.Block t c → instruction
    (instruction_of i) ≡ instruction (block t (code_of c))
block_lexemes i t c e = ap (λ i. instruction (instruction_of i)) e ∙ ap instruction (block_is t c)

pub loop_lexemes : (i : Instr) (t : Option ValType) (c : Instrs) → i ≡ instr.Loop t c → instruction
    (instruction_of i) ≡ instruction (loop t (code_of c))
loop_lexemes i t c e = ap (λ i. instruction (instruction_of i)) e ∙ ap instruction (loop_is t c)

pub cond_lexemes : (i : Instr) (t : Option ValType) (a b : Instrs) → i ≡ instr.If t a b → instruction
    (instruction_of i) ≡ instruction (cond t (code_of a) (code_of b))
cond_lexemes i t a b e = ap (λ i. instruction (instruction_of i)) e ∙ ap instruction (cond_is t a b)

-- what begins a block, and its first list
abbrev pub list_lexemes : List ℕ → Option ValType → Instrs → List Lexeme
list_lexemes w t c = word w ∷ types_behind (codes "result") (at_most_one t) ++ code (code_of c)

pub list_closed : (w : List ℕ) (t : Option ValType) (c : Instrs) → ends_open false (list_lexemes w t c) ≡ false
list_closed w t c = both_closed (types_behind (codes "result") (at_most_one t)) (code (code_of c))
    (types_closed (codes "result") (at_most_one t)) (code_closed (code_of c))
