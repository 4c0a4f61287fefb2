-- No spelling of an instruction begins another.
use Rattle.std.proofs.Common.{◌≡◌, ℕ, true, T, eqb, inl, inr, List, [], ◌∷◌, ◌++◌, Option, Some, None, refl, sym, ap}
use Rattle.std.proofs.Common.{◌∙◌, append_assoc, arith}
use Rattle.mw_wasm.specs.declared.values.ValType.{ValType}
use Rattle.mw_wasm.specs.declared.values.ValType.TheVariants as value
use Rattle.mw_wasm.specs.Syntax.{Instruction, Code, unreachable, nop, block, loop, cond, br, br_if, br_table, give_back}
use Rattle.mw_wasm.specs.Syntax.{call, call_indirect, drop_value, select, local_get, local_set, local_tee, global_get}
use Rattle.mw_wasm.specs.Syntax.{global_set, load, store, memory_size, memory_grow, const_i32, const_i64, numeric, end}
use Rattle.mw_wasm.specs.Syntax.{next}
use Rattle.mw_wasm.specs.Pieces.{byte, ◌then◌, ◌or◌, ◌when◌, u32}
use Rattle.mw_wasm.specs.BinaryInstructions.{value_type, block_type, load_opcode, store_opcode, opcode_of_number}
use Rattle.mw_wasm.specs.BinaryInstructions.{instruction, code, expression}
use Rattle.mw_wasm.proofs.FormatPieces.{Agree, split, behind, joined, agree_so, agree_byte, agree_then, agree_u32}
use Rattle.mw_wasm.proofs.FormatPieces.{agree_integer, agree_vector}
use Rattle.mw_wasm.proofs.FormatOpcodes.{opcode, group, form, same_form, ends, never_ends, same_load, same_store}
use Rattle.mw_wasm.proofs.FormatOpcodes.{same_number}

pub agree_value_type : (t u : ValType) → Agree (value_type t) (value_type u) (t ≡ u)
agree_value_type value.I32 value.I32 = agree_so (agree_byte 0x7F 0x7F) (λ e. refl)
agree_value_type value.I32 value.I64 = agree_so (agree_byte 0x7F 0x7E) (λ e. absurd (omega arith))
agree_value_type value.I64 value.I32 = agree_so (agree_byte 0x7E 0x7F) (λ e. absurd (omega arith))
agree_value_type value.I64 value.I64 = agree_so (agree_byte 0x7E 0x7E) (λ e. refl)

no_value_type : (t : ValType) {E : Type 0} → Agree (byte 0x40) (value_type t) E
no_value_type value.I32 = agree_so (agree_byte 0x40 0x7F) (λ e. absurd (omega arith))
no_value_type value.I64 = agree_so (agree_byte 0x40 0x7E) (λ e. absurd (omega arith))

no_empty_type : (t : ValType) {E : Type 0} → Agree (value_type t) (byte 0x40) E
no_empty_type value.I32 = agree_so (agree_byte 0x7F 0x40) (λ e. absurd (omega arith))
no_empty_type value.I64 = agree_so (agree_byte 0x7E 0x40) (λ e. absurd (omega arith))

agree_block_type : (t u : Option ValType) → Agree (block_type t) (block_type u) (t ≡ u)
agree_block_type None None = agree_so (agree_byte 0x40 0x40) (λ e. refl)
agree_block_type None (Some u) = no_value_type u
agree_block_type (Some t) None = no_empty_type t
agree_block_type (Some t) (Some u) = agree_so (agree_value_type t u) (λ e. ap Some e)

-- how an instruction begins
begin_then : (n : ℕ) {Q : List ℕ → Type 0} (bytes : List ℕ) → (byte n then Q) bytes → (rest : List ℕ)
    × (bytes ≡ n ∷ rest)
begin_then n bytes h = (h.back, h.whole ∙ ap (λ f. f ++ h.back) h.first)

begins : (i : Instruction) (bytes : List ℕ) → instruction i bytes → (rest : List ℕ) × (bytes ≡ opcode i ∷ rest)
begins unreachable bytes h = ([], h)
begins nop bytes h = ([], h)
begins (block t body) bytes h = begin_then 0x02 bytes h
begins (loop t body) bytes h = begin_then 0x03 bytes h
begins (cond t a b) bytes h = begin_then 0x04 bytes h
begins (br l) bytes h = begin_then 0x0C bytes h
begins (br_if l) bytes h = begin_then 0x0D bytes h
begins (br_table ls l) bytes h = begin_then 0x0E bytes h
begins give_back bytes h = ([], h)
begins (call f) bytes h = begin_then 0x10 bytes h
begins (call_indirect t) bytes h = begin_then 0x11 bytes h
begins drop_value bytes h = ([], h)
begins select bytes h = ([], h)
begins (local_get x) bytes h = begin_then 0x20 bytes h
begins (local_set x) bytes h = begin_then 0x21 bytes h
begins (local_tee x) bytes h = begin_then 0x22 bytes h
begins (global_get x) bytes h = begin_then 0x23 bytes h
begins (global_set x) bytes h = begin_then 0x24 bytes h
begins (load o align offset) bytes h = begin_then (load_opcode o) bytes h
begins (store o align offset) bytes h = begin_then (store_opcode o) bytes h
begins memory_size bytes h = begin_then 0x3F bytes h
begins memory_grow bytes h = begin_then 0x40 bytes h
begins (const_i32 n) bytes h = begin_then 0x41 bytes h
begins (const_i64 n) bytes h = begin_then 0x42 bytes h
begins (numeric o) bytes h = ([], h)

-- the form of both instructions, where they begin the same bytes
same_beginning : (i j : Instruction) (a b r s : List ℕ) → instruction i a → instruction j b → a ++ r ≡ b ++ s
    → T (eqb (form i) (form j))
same_beginning i j a b r s p q e =
    let x = begins i a p in
    let y = begins j b q in
    let h : opcode i ∷ (x.0 ++ r) ≡ opcode j ∷ (y.0 ++ s) = rw (x.1, y.1) at e in
    same_form i j (cc)

-- the bytes begin with 0B or 05
pub record Stops (bytes : List ℕ) : Type 0 where
  pub byte_is : ℕ
  pub rest : List ℕ
  pub whole : bytes ≡ byte_is ∷ rest
  pub alone : group byte_is ≡ byte_is
  pub ends_there : ends byte_is ≡ true

no_instruction : (i : Instruction) (a r bytes : List ℕ) → instruction i a → Stops bytes → a ++ r ≡ bytes → ⊥
no_instruction i a r bytes p stops e =
    let x = begins i a p in
    let h : opcode i ∷ (x.0 ++ r) ≡ stops.byte_is ∷ stops.rest = (rw (x.1) at e) ∙ stops.whole in
    never_ends i stops.byte_is (cc) stops.alone stops.ends_there

-- Where instructions and what ends them begin the same bytes, the instructions are one list.
pub record SameCode (c d : Code) : Type 0 where
  pub same : (a b r s : List ℕ) → code c a → code d b → Stops r → Stops s → a ++ r ≡ b ++ s → (a ≡ b) × (c ≡ d)

-- a piece that begins with 0B or 05
pub record Closes (P : List ℕ → Type 0) : Type 0 where
  pub stops : (a r : List ℕ) → P a → Stops (a ++ r)

pub closes_at_end : Closes (byte 0x0B)
closes_at_end =
    record { stops = λ a r p. record { byte_is = 0x0B; rest = r; whole = rw p refl; alone = refl; ends_there = refl } }

closes_if : (b : Code) → Closes (byte 0x0B when (b ≡ end) or byte 0x05 then code b then byte 0x0B)
closes_if b = record { stops = λ a r p. go a r p }
  where
    go : (a r : List ℕ) → (byte 0x0B when (b ≡ end) or byte 0x05 then code b then byte 0x0B) a → Stops (a ++ r)
    go a r (inl h) = record { byte_is = 0x0B; rest = r; whole = rw (h.1) refl; alone = refl; ends_there = refl }
    go a r (inr h) = let x = begin_then 0x05 a h in
        record { byte_is = 0x05; rest = x.0 ++ r; whole = ap (λ t. t ++ r) x.1; alone = refl; ends_there = refl }

pub agree_code_then : {P Q : List ℕ → Type 0} {F : Type 0} (c d : Code) → SameCode c d → Closes P → Closes Q
    → (c ≡ d → Agree P Q F)
    → Agree (code c then P) (code d then Q) ((c ≡ d) × F)
agree_code_then {P} {Q} {F} c d first closes closes' second = record { agree = λ a b r s p q e. both a b r s p q e }
  where
    both : (a b r s : List ℕ) → (code c then P) a → (code d then Q) b → a ++ r ≡ b ++ s → (a ≡ b) × ((c ≡ d) × F)
    both a b r s p q e =
        let h = split p q r s e in
        let x = first.same p.front q.front (p.back ++ r) (q.back ++ s) p.first q.first (closes.stops p.back r p.second)
        (closes'.stops q.back s q.second) h in
        let y = (second x.1).agree p.back q.back r s p.second q.second
        (behind p.front q.front (p.back ++ r) (q.back ++ s) x.0 h) in
        (joined p q x.0 y.0, (x.1, y.1))

agree_closed : (c d : Code) → SameCode c d → Agree (code c then byte 0x0B) (code d then byte 0x0B) (c ≡ d)
agree_closed c d h = agree_so (agree_code_then c d h closes_at_end closes_at_end (λ e. agree_byte 0x0B 0x0B)) (λ e. e.0)

-- with and without 05
agree_else : (b d : Code) → SameCode b d → Agree (byte 0x0B when (b ≡ end) or byte 0x05 then code b then byte 0x0B)
    (byte 0x0B when (d ≡ end) or byte 0x05 then code d then byte 0x0B) (b ≡ d)
agree_else b d h = record { agree = λ a a' r s p q e. go a a' r s p q e }
  where
    go : (a a' r s : List ℕ) → (byte 0x0B when (b ≡ end) or byte 0x05 then code b then byte 0x0B) a
        → (byte 0x0B when (d ≡ end) or byte 0x05 then code d then byte 0x0B) a' → a ++ r ≡ a' ++ s → (a ≡ a') × (b ≡ d)
    go a a' r s (inl p) (inl q) e = (p.1 ∙ sym q.1, p.0 ∙ sym q.0)
    go a a' r s (inl p) (inr q) e = let y = begin_then 0x05 a' q in let k : 0x0B ∷ r ≡ 0x05 ∷ (y.0 ++ s) =
        rw (p.1, y.1) at e in absurd (cc)
    go a a' r s (inr p) (inl q) e = let x = begin_then 0x05 a p in let k : 0x05 ∷ (x.0 ++ r) ≡ 0x0B ∷ s =
        rw (x.1, q.1) at e in absurd (cc)
    go a a' r s (inr p) (inr q) e =
        (agree_so (agree_then (agree_byte 0x05 0x05) (λ _. agree_closed b d h)) (λ t. t.1)).agree a a' r s p q e

only_end : SameCode end end
only_end = record { same = λ a b r s p q _ _ e. (p ∙ sym q, refl) }

end_first : (j : Instruction) (d : Code) → SameCode end (next j d)
end_first j d = record {
  same = λ a b r s p q x y e.
      let h : r ≡ q.front ++ (q.back ++ s) = (ap (λ t. t ++ r) (sym p) ∙ e)
      ∙ (ap (λ t. t ++ s) q.whole ∙ append_assoc q.front q.back s) in
      absurd (no_instruction j q.front (q.back ++ s) r q.first x (sym h));
}

end_second : (i : Instruction) (c : Code) → SameCode (next i c) end
end_second i c = record {
  same = λ a b r s p q x y e.
      let h : p.front ++ (p.back ++ r) ≡ s = sym (append_assoc p.front p.back r)
      ∙ (ap (λ t. t ++ r) (sym p.whole) ∙ (e ∙ ap (λ t. t ++ s) q)) in
      absurd (no_instruction i p.front (p.back ++ r) s p.first y h);
}

both_next : (i j : Instruction) (c d : Code)
    → (T (eqb (form i) (form j)) → Agree (instruction i) (instruction j) (i ≡ j)) → SameCode c d
    → SameCode (next i c) (next j d)
both_next i j c d first others = record { same = λ a b r s p q x y e. both a b r s p q x y e }
  where
    both : (a b r s : List ℕ) → code (next i c) a → code (next j d) b → Stops r → Stops s → a ++ r ≡ b ++ s → (a ≡ b)
        × (next i c ≡ next j d)
    both a b r s p q x y e =
        let h = split p q r s e in
        let k = (first (same_beginning i j p.front q.front (p.back ++ r) (q.back ++ s) p.first q.first h)).agree p.front
        q.front (p.back ++ r) (q.back ++ s) p.first q.first h in
        let l = others.same p.back q.back r s p.second q.second x y
        (behind p.front q.front (p.back ++ r) (q.back ++ s) k.0 h) in
        (joined p q k.0 l.0, rw (k.1, l.1) refl)

-- an opcode and an index
pub agree_index : (m x y : ℕ) → Agree (byte m then u32 x) (byte m then u32 y) (x ≡ y)
agree_index m x y = agree_so (agree_then (agree_byte m m) (λ _. agree_u32 x y)) (λ e. e.1)

agree_memory : (m n a b x y : ℕ) → Agree (byte m then u32 a then u32 x) (byte n then u32 b then u32 y)
    ((m ≡ n) × ((a ≡ b) × (x ≡ y)))
agree_memory m n a b x y = agree_then (agree_byte m n) (λ _. agree_then (agree_u32 a b) (λ _. agree_u32 x y))

agree_typed : (m : ℕ) {P Q : List ℕ → Type 0} {E : Type 0} (t u : Option ValType) → Agree P Q E
    → Agree (byte m then block_type t then P) (byte m then block_type u then Q) ((t ≡ u) × E)
agree_typed m t u h = agree_so (agree_then (agree_byte m m) (λ _. agree_then (agree_block_type t u) (λ _. h)))
    (λ e. e.1)

mutual
  agree_instruction : (i j : Instruction) → T (eqb (form i) (form j)) → Agree (instruction i) (instruction j) (i ≡ j)
  agree_instruction unreachable unreachable h = agree_so (agree_byte 0x00 0x00) (λ e. refl)
  agree_instruction nop nop h = agree_so (agree_byte 0x01 0x01) (λ e. refl)
  agree_instruction (block t c) (block u d) h = agree_so (agree_typed 0x02 t u (agree_closed c d (same_code c d)))
      (λ e. rw (e.0, e.1) refl)
  agree_instruction (loop t c) (loop u d) h = agree_so (agree_typed 0x03 t u (agree_closed c d (same_code c d)))
      (λ e. rw (e.0, e.1) refl)
  agree_instruction (cond t a b) (cond u c d) h =
      agree_so (agree_typed 0x04 t u
      (agree_code_then a c (same_code a c) (closes_if b) (closes_if d) (λ _. agree_else b d (same_code b d))))
      (λ e. rw (e.0, e.1.0, e.1.1) refl)
  agree_instruction (br x) (br y) h = agree_so (agree_index 0x0C x y) (λ e. ap br e)
  agree_instruction (br_if x) (br_if y) h = agree_so (agree_index 0x0D x y) (λ e. ap br_if e)
  agree_instruction (br_table xs x) (br_table ys y) h =
      agree_so (agree_then (agree_byte 0x0E 0x0E)
      (λ _. agree_then (agree_vector u32 agree_u32 xs ys) (λ _. agree_u32 x y))) (λ e. rw (e.1.0, e.1.1) refl)
  agree_instruction give_back give_back h = agree_so (agree_byte 0x0F 0x0F) (λ e. refl)
  agree_instruction (call x) (call y) h = agree_so (agree_index 0x10 x y) (λ e. ap call e)
  agree_instruction (call_indirect x) (call_indirect y) h =
      agree_so (agree_then (agree_byte 0x11 0x11) (λ _. agree_then (agree_u32 x y) (λ _. agree_byte 0x00 0x00)))
      (λ e. ap call_indirect e.1.0)
  agree_instruction drop_value drop_value h = agree_so (agree_byte 0x1A 0x1A) (λ e. refl)
  agree_instruction select select h = agree_so (agree_byte 0x1B 0x1B) (λ e. refl)
  agree_instruction (local_get x) (local_get y) h = agree_so (agree_index 0x20 x y) (λ e. ap local_get e)
  agree_instruction (local_set x) (local_set y) h = agree_so (agree_index 0x21 x y) (λ e. ap local_set e)
  agree_instruction (local_tee x) (local_tee y) h = agree_so (agree_index 0x22 x y) (λ e. ap local_tee e)
  agree_instruction (global_get x) (global_get y) h = agree_so (agree_index 0x23 x y) (λ e. ap global_get e)
  agree_instruction (global_set x) (global_set y) h = agree_so (agree_index 0x24 x y) (λ e. ap global_set e)
  agree_instruction (load o a x) (load p b y) h =
      agree_so (agree_memory (load_opcode o) (load_opcode p) a b x y)
      (λ e. let k = same_load o p e.0 in rw (k, e.1.0, e.1.1) refl)
  agree_instruction (store o a x) (store p b y) h =
      agree_so (agree_memory (store_opcode o) (store_opcode p) a b x y)
      (λ e. let k = same_store o p e.0 in rw (k, e.1.0, e.1.1) refl)
  agree_instruction memory_size memory_size h = agree_so (agree_then (agree_byte 0x3F 0x3F) (λ _. agree_byte 0x00 0x00))
      (λ e. refl)
  agree_instruction memory_grow memory_grow h = agree_so (agree_then (agree_byte 0x40 0x40) (λ _. agree_byte 0x00 0x00))
      (λ e. refl)
  agree_instruction (const_i32 x) (const_i32 y) h =
      agree_so (agree_then (agree_byte 0x41 0x41) (λ _. agree_integer 32 x y)) (λ e. ap const_i32 e.1)
  agree_instruction (const_i64 x) (const_i64 y) h =
      agree_so (agree_then (agree_byte 0x42 0x42) (λ _. agree_integer 64 x y)) (λ e. ap const_i64 e.1)
  agree_instruction (numeric o) (numeric p) h = agree_so (agree_byte (opcode_of_number o) (opcode_of_number p))
      (λ e. ap numeric (same_number o p e))
  agree_instruction _ _ h = absurd h

  same_code : (c d : Code) → SameCode c d
  same_code end end = only_end
  same_code end (next j d) = end_first j d
  same_code (next i c) end = end_second i c
  same_code (next i c) (next j d) = both_next i j c d (λ h. agree_instruction i j h) (same_code c d)

pub agree_expression : (c d : Code) → Agree (expression c) (expression d) (c ≡ d)
agree_expression c d = agree_closed c d (same_code c d)

pub one_expression : (a b r s : List ℕ) (c d : Code) → expression c a → expression d b → a ++ r ≡ b ++ s → (a ≡ b)
    × (c ≡ d)
one_expression a b r s c d p q e = (agree_expression c d).agree a b r s p q e
