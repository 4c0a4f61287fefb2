-- Instructions as the program holds them.
use Rattle.std.proofs.Common.{◌≡◌, ℕ, ◌<◌, ◌^◌, inl, inr, List, [], ◌∷◌, ◌++◌, length, Option, refl, ap, subst, ◌∙◌}
use Rattle.std.proofs.Common.{arith}
use Rattle.std.specs.List.{flat_map}
use Rattle.mw_wasm.specs.declared.values.ValType.{ValType}
use Rattle.mw_wasm.specs.declared.instructions.Instr as instr
use Rattle.mw_wasm.specs.declared.instructions.Instr.{Instr}
use Rattle.mw_wasm.specs.declared.instructions.Instrs.{Instrs}
use Rattle.mw_wasm.specs.Syntax.{Instruction, Code, block, loop, cond, end}
use Rattle.mw_wasm.specs.Pieces.{Piece, byte, ◌then◌, ◌or◌, ◌when◌, u32, items}
use Rattle.mw_wasm.specs.BinaryInstructions.{code, instruction}
use Rattle.mw_wasm.specs.Views.{instruction_of, list_code, code_of, block_is, loop_is, cond_is}
use Rattle.mw_encode.specs.Encoding.{Spelled, instruction_bytes, code_bytes, else_bytes, block_type_byte}
use Rattle.mw_encode.proofs.Pieces.{same_first, spelled_first, spelled_second, spelled_count}

abbrev pub each_instruction : Instr → Piece
each_instruction i = instruction (instruction_of i)

abbrev pub each_bytes : Instr → List ℕ
each_bytes i = instruction_bytes (instruction_of i)

as_items : (is : List Instr) (bytes : List ℕ) → code (list_code is) bytes → items each_instruction is bytes
as_items [] bytes p = p
as_items (i ∷ is) bytes p = same_first p (as_items is p.back p.second)

pub code_items : (is : List Instr) → Spelled (code (list_code is)) → Spelled (items each_instruction is)
code_items is s = record { bytes = s.bytes; spell = as_items is s.bytes s.spell }

pub bytes_of_items : (is : List Instr) → flat_map each_bytes is ≡ code_bytes (list_code is)
bytes_of_items [] = refl
bytes_of_items (i ∷ is) = ap (λ t. each_bytes i ++ t) (bytes_of_items is)

-- The forms that hold instructions.
block_pure : (i : Instr) (t : Option ValType) (c : Instrs) → i ≡ instr.Block t c → instruction_of i
    ≡ block t (code_of c)
block_pure i t c e = ap instruction_of e ∙ block_is t c

loop_pure : (i : Instr) (t : Option ValType) (c : Instrs) → i ≡ instr.Loop t c → instruction_of i ≡ loop t (code_of c)
loop_pure i t c e = ap instruction_of e ∙ loop_is t c

cond_pure : (i : Instr) (t : Option ValType) (a b : Instrs) → i ≡ instr.If t a b → instruction_of i
    ≡ cond t (code_of a) (code_of b)
cond_pure i t a b e = ap instruction_of e ∙ cond_is t a b

spelled_as : (i : Instruction) (j : Instruction) → i ≡ j → Spelled (instruction i) → Spelled (instruction j)
spelled_as i j e s = subst (λ (k : Instruction). Spelled (instruction k)) e s

pub block_body : (i : Instr) (t : Option ValType) (c : Instrs) → i ≡ instr.Block t c
    → Spelled (instruction (instruction_of i)) → Spelled (code (code_of c))
block_body i t c e s = let h = spelled_as _ _ (block_pure i t c e) s in
    spelled_first (spelled_second (spelled_second h))

pub loop_body : (i : Instr) (t : Option ValType) (c : Instrs) → i ≡ instr.Loop t c
    → Spelled (instruction (instruction_of i)) → Spelled (code (code_of c))
loop_body i t c e s = let h = spelled_as _ _ (loop_pure i t c e) s in spelled_first (spelled_second (spelled_second h))

pub cond_first : (i : Instr) (t : Option ValType) (a b : Instrs) → i ≡ instr.If t a b
    → Spelled (instruction (instruction_of i)) → Spelled (code (code_of a))
cond_first i t a b e s = let h = spelled_as _ _ (cond_pure i t a b e) s in
    spelled_first (spelled_second (spelled_second h))

of_else : (c : Code) → Spelled (byte 0x0B when (c ≡ end) or byte 0x05 then code c then byte 0x0B) → Spelled (code c)
of_else c s = elim s.spell [
  | inl p ↦ let e : c ≡ end = p.0 in rw e (record { bytes = []; spell = refl })
  | inr p ↦ record { bytes = p.second.front; spell = p.second.first }
]

pub cond_second : (i : Instr) (t : Option ValType) (a b : Instrs) → i ≡ instr.If t a b
    → Spelled (instruction (instruction_of i)) → Spelled (code (code_of b))
cond_second i t a b e s = let h = spelled_as _ _ (cond_pure i t a b e) s in
    of_else (code_of b) (spelled_second (spelled_second (spelled_second h)))

pub block_bytes : (i : Instr) (t : Option ValType) (c : Instrs) → i ≡ instr.Block t c
    → instruction_bytes (instruction_of i) ≡ 0x02 ∷ block_type_byte t ∷ (code_bytes (code_of c) ++ 0x0B ∷ [])
block_bytes i t c e = ap instruction_bytes (block_pure i t c e)

pub loop_bytes : (i : Instr) (t : Option ValType) (c : Instrs) → i ≡ instr.Loop t c
    → instruction_bytes (instruction_of i) ≡ 0x03 ∷ block_type_byte t ∷ (code_bytes (code_of c) ++ 0x0B ∷ [])
loop_bytes i t c e = ap instruction_bytes (loop_pure i t c e)

else_none : (is : List Instr) → length is ≡ 0 → else_bytes (list_code is) ≡ 0x0B ∷ []
else_none [] e = refl
else_none (i ∷ is) e = absurd (omega arith)

else_some : (is : List Instr) → 0 < length is → else_bytes (list_code is) ≡ 0x05
    ∷ (code_bytes (list_code is) ++ 0x0B ∷ [])
else_some [] e = absurd (omega arith)
else_some (i ∷ is) e = refl

pub cond_bytes_none : (i : Instr) (t : Option ValType) (a b : Instrs) → i ≡ instr.If t a b → length b.inner.items ≡ 0
    → instruction_bytes (instruction_of i) ≡ 0x04 ∷ block_type_byte t ∷ (code_bytes (code_of a) ++ 0x0B ∷ [])
cond_bytes_none i t a b e h = ap instruction_bytes (cond_pure i t a b e)
    ∙ ap (λ x. 0x04 ∷ block_type_byte t ∷ (code_bytes (code_of a) ++ x)) (else_none b.inner.items h)

pub cond_bytes_some : (i : Instr) (t : Option ValType) (a b : Instrs) → i ≡ instr.If t a b → 0 < length b.inner.items
    → instruction_bytes (instruction_of i) ≡ 0x04 ∷ block_type_byte t
    ∷ (code_bytes (code_of a) ++ 0x05 ∷ (code_bytes (code_of b) ++ 0x0B ∷ []))
cond_bytes_some i t a b e h = ap instruction_bytes (cond_pure i t a b e)
    ∙ ap (λ x. 0x04 ∷ block_type_byte t ∷ (code_bytes (code_of a) ++ x)) (else_some b.inner.items h)

pub table_count : (i : Instr) (ls : List ℕ) (l : ℕ) → i ≡ instr.BrTable ls l → Spelled (instruction (instruction_of i))
    → length ls < 2 ^ 32
table_count i ls l e s = let h = spelled_as _ _ (ap instruction_of e) s in
    spelled_count u32 ls (spelled_first (spelled_second h))
