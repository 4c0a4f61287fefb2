-- What is spelled is read again, whatever stands behind it.
use Rattle.std.proofs.Common.{◌≡◌, ℕ, zero, suc, ◌≤◌, ◌⊎◌, inl, inr, max, Bool, true, false, List, [], ◌∷◌, ◌++◌}
use Rattle.std.proofs.Common.{length, Option, Some, None, refl, sym, ap, subst, ◌∙◌, append_assoc, arith}
use Rattle.mw_wasm.specs.declared.values.ValType.{ValType}
use Rattle.mw_wasm.specs.declared.values.ValType.TheVariants.{I32, I64}
use Rattle.mw_wasm.specs.declared.numbers.IntOp.TheVariants as op
use Rattle.mw_wasm.specs.declared.numbers.NumOp.{NumOp}
use Rattle.mw_wasm.specs.declared.numbers.NumOp.TheVariants as number
use Rattle.mw_wasm.specs.declared.numbers.LoadOp.{LoadOp}
use Rattle.mw_wasm.specs.declared.numbers.LoadOp.TheVariants as load_op
use Rattle.mw_wasm.specs.declared.numbers.StoreOp.{StoreOp}
use Rattle.mw_wasm.specs.declared.numbers.StoreOp.TheVariants as store_op
use Rattle.mw_wasm.specs.Leb.{IsInteger, unsigned_of}
use Rattle.mw_wasm.specs.Pieces as piece
use Rattle.mw_wasm.specs.Pieces.{Joined, byte, items}
use Rattle.mw_wasm.specs.Syntax as pure
use Rattle.mw_wasm.specs.Syntax.{Instruction, Code, unreachable, nop, block, loop, cond as if_else, br, br_if, br_table}
use Rattle.mw_wasm.specs.Syntax.{give_back, call, call_indirect, drop_value, select, local_get, local_set, local_tee}
use Rattle.mw_wasm.specs.Syntax.{global_get, global_set, load, store, memory_size, memory_grow, const_i32, const_i64}
use Rattle.mw_wasm.specs.Syntax.{numeric, next}
use Rattle.mw_wasm.specs.BinaryInstructions as grammar
use Rattle.mw_wasm.specs.BinaryInstructions.{instruction, code, load_opcode, store_opcode, opcode_of_number}
use Rattle.mw_wasm.specs.Profile.{depth_of, depth}
use Rattle.mw_leb.specs.Reading.{signed}
use Rattle.mw_leb.proofs.ReadNumbers.{unsigned_read, signed_read}
use Rattle.mw_decode.specs.Reading.{got, Reader, place, and_then, ◌>>=◌, gives, Meaning, is, meant, byte_of}
use Rattle.mw_decode.specs.Reading.{only, numbered, u32, i32, i64, times, vector}
use Rattle.mw_decode.specs.Opcodes.{Mark, closing, otherwise, Opener, a_block, a_loop, an_if, Opcode, opens, alone}
use Rattle.mw_decode.specs.Opcodes.{indexed, at_address, before_zero}
use Rattle.mw_decode.specs.Opcodes.{loading, storing, jump_of, variable_of, constant_of, accessing_of, load_of}
use Rattle.mw_decode.specs.Opcodes.{store_of, number_of, alone_of, opcode}
use Rattle.mw_decode.specs.Instructions.{block_type_of, block_type, ahead, closed, second, inside, opened, more, behind}
use Rattle.mw_decode.specs.Instructions.{instructions}
use Rattle.mw_decode.specs.Instructions.{expression}
use Rattle.mw_decode.proofs.CodeSoundness.{mark_byte}
use Rattle.mw_decode.proofs.ReadingFixedPoint.{instructions_are}

pub record Again {A : Type 0} (r : Reader A) (P : A → List ℕ → Type 0) : Type 0 where
  pub again : (end : ℕ) (x : A) (front rest : List ℕ) → P x front → r end (front ++ rest) ≡ got x rest

pub again_u32 : Again u32 piece.u32
again_u32 =
    record { again = λ end x front rest h. ap (numbered (place end (front ++ rest))) (unsigned_read 32 x front rest h) }

again_integer : (N end : ℕ) (x : ℕ) (front rest : List ℕ) → IsInteger N front x
    → and_then (numbered (place end (front ++ rest)) (signed N (front ++ rest))) (λ z r. got (unsigned_of N z) r)
    ≡ got x rest
again_integer N end x front rest h =
    ap (λ n. and_then (numbered (place end (front ++ rest)) n) (λ z r. got (unsigned_of N z) r))
    (signed_read N h.0 front rest h.1) ∙ ap (λ n. got n rest) (sym h.2)

pub again_i32 : Again i32 piece.i32
again_i32 = record { again = λ end x front rest h. again_integer 32 end x front rest h }

pub again_i64 : Again i64 piece.i64
again_i64 = record { again = λ end x front rest h. again_integer 64 end x front rest h }

-- a spelling of two parts, regrouped before what stands behind it
pub parted : {P Q : List ℕ → Type 0} (front rest : List ℕ) (h : Joined P Q front)
    → front ++ rest ≡ h.front ++ (h.back ++ rest)
parted front rest h = ap (λ z. z ++ rest) h.whole ∙ append_assoc h.front h.back rest

-- a reader gives this value wherever a piece stands in front
pub record Gives {A : Type 0} (r : Reader A) (x : A) (Q : List ℕ → Type 0) : Type 0 where
  pub given : (end : ℕ) (front rest : List ℕ) → Q front → r end (front ++ rest) ≡ got x rest

-- this value, of all that the reader reads again
pub gives_at : {A : Type 0} {r : Reader A} {P : A → List ℕ → Type 0} → Again r P → (x : A) → Gives r x (P x)
gives_at a x = record { given = λ end front rest h. a.again end x front rest h }

-- the same of values that a condition holds for
pub gives_under : {A : Type 0} {r : Reader A} {P : A → List ℕ → Type 0} {W : A → Type 0}
    → Again r (λ x front. P x front × W x) → (x : A) → W x → Gives r x (P x)
gives_under a x w = record { given = λ end front rest h. a.again end x front rest (h, w) }

-- the other way
pub again_by : {A : Type 0} {r : Reader A} {P : A → List ℕ → Type 0} → ((x : A) → Gives r x (P x)) → Again r P
again_by g = record { again = λ end x front rest h. (g x).given end front rest h }

pub again_under : {A : Type 0} {r : Reader A} {P : A → List ℕ → Type 0} {W : A → Type 0}
    → ((x : A) → W x → Gives r x (P x)) → Again r (λ x front. P x front × W x)
again_under g = record { again = λ end x front rest h. (g x h.1).given end front rest h.0 }

-- a byte that means a value
pub gives_byte : {A : Type 0} (meaning : ℕ → Meaning A) (m : ℕ) (x : A) → meaning m ≡ is x
    → Gives (byte_of meaning) x (byte m)
gives_byte meaning m x e = record {
  given = λ end front rest h.
      ap (λ z. byte_of meaning end (z ++ rest)) h ∙ ap (meant (place end (m ∷ rest)) rest) e;
}

-- one thing, and what is read behind it
pub gives_then : {A B : Type 0} {r : Reader A} {P Q : List ℕ → Type 0} {x : A} {y : B} (f : A → Reader B) → Gives r x P
    → Gives (f x) y Q → Gives (r >>= f) y (Joined P Q)
gives_then {r = r} f a b = record {
  given = λ end front rest h.
      ap ((r >>= f) end) (parted front rest h)
      ∙ (ap (λ m. and_then m λ x rest. f x end rest) (a.given end h.front (h.back ++ rest) h.first)
      ∙ b.given end h.back rest h.second);
}

-- a value that is made of the last thing
pub gives_last : {A B : Type 0} {r : Reader A} {x : A} {P : List ℕ → Type 0} (g : A → B) → Gives r x P
    → Gives (r >>= λ x. gives (g x)) (g x) P
gives_last g a = record {
  given = λ end front rest h. ap (λ m. and_then m λ x rest. got (g x) rest) (a.given end front rest h);
}

pub gives_times : {A : Type 0} {r : Reader A} {P : A → List ℕ → Type 0} → Again r P → (xs : List A)
    → Gives (times (length xs) r) xs (items P xs)
gives_times a [] = record { given = λ end front rest h. ap (λ z. got [] (z ++ rest)) h }
gives_times a (x ∷ xs) = gives_then _ (gives_at a x) (gives_last (λ xs. x ∷ xs) (gives_times a xs))

pub again_vector : {A : Type 0} {r : Reader A} {P : A → List ℕ → Type 0} → Again r P
    → Again (vector r) (λ xs. piece.vector P xs)
again_vector a = again_by λ xs. gives_then _ (gives_at again_u32 (length xs)) (gives_times a xs)

-- opcodes that stand alone: by computation for each instruction, the first alone so that the others are told apart
opcode_of_load : (o : LoadOp) → opcode (load_opcode o) ≡ alone (is (loading o))
unfolding opcode alone_of jump_of variable_of constant_of accessing_of load_of store_of number_of
opcode_of_load load_op.I32 = refl
opcode_of_load o = refl

opcode_of_store : (o : StoreOp) → opcode (store_opcode o) ≡ alone (is (storing o))
unfolding opcode alone_of jump_of variable_of constant_of accessing_of load_of store_of number_of
opcode_of_store store_op.I32 = refl
opcode_of_store o = refl

opcode_of_numeric : (o : NumOp) → opcode (opcode_of_number o) ≡ alone (is (gives (numeric o)))
unfolding opcode alone_of jump_of variable_of constant_of accessing_of load_of store_of number_of
opcode_of_numeric (number.I32 op.Eqz) = refl
opcode_of_numeric (number.I64 op.Eqz) = refl
opcode_of_numeric o = refl

-- how an instruction is read: its opcode, and the list that goes on behind it
pub record Reread (i : Instruction) (front : List ℕ) : Type 0 where
  pub again : (room : ℕ) (first : Bool) (end : ℕ) (rest : List ℕ) → depth_of i ≤ room
      → instructions room first end (front ++ rest) ≡ more instructions room first i end rest

-- by its opcode
by_opcode : (i : Instruction) (b : ℕ) (o : Opcode) (front back : List ℕ) → front ≡ b ∷ back → opcode b ≡ o
    → ((room : ℕ) (first : Bool) (at end : ℕ) (rest : List ℕ) → depth_of i ≤ room
    → behind instructions room first at o end (back ++ rest) ≡ more instructions room first i end rest)
    → Reread i front
by_opcode i b o front back f e go = record {
  again = λ room first end rest d.
      ap (λ z. instructions room first end (z ++ rest)) f ∙ (instructions_are room first end (b ∷ (back ++ rest))
      ∙ (ap (λ o. behind instructions room first (place end (b ∷ (back ++ rest))) o end (back ++ rest)) e
      ∙ go room first (place end (b ∷ (back ++ rest))) end rest d));
}

begins : {m : ℕ} {P : List ℕ → Type 0} {front : List ℕ} (h : Joined (byte m) P front) → front ≡ m ∷ h.back
begins h = h.whole ∙ ap (λ z. z ++ h.back) h.first

-- an opcode that stands alone, and what is read behind it
by_reader : {P : List ℕ → Type 0} {r : Reader Instruction} (i : Instruction) (b : ℕ) (front : List ℕ)
    → Joined (byte b) P front → opcode b ≡ alone (is r) → Gives r i P → Reread i front
by_reader {r = r} i b front h e g = by_opcode i b (alone (is r)) front h.back (begins h) e (λ room first at end rest d.
    ap (λ m. and_then m λ j rest. more instructions room first j end rest) (g.given end h.back rest h.second))

plain : (i : Instruction) (b : ℕ) (front : List ℕ) → front ≡ b ∷ [] → opcode b ≡ alone (is (gives i)) → Reread i front
plain i b front f e = by_opcode i b (alone (is (gives i))) front [] f e (λ room first at end rest d. refl)

with_index : (i : ℕ → Instruction) (x b : ℕ) (front : List ℕ) → Joined (byte b) (piece.u32 x) front
    → opcode b ≡ alone (is (indexed i)) → Reread (i x) front
with_index i x b front h e = by_reader (i x) b front h e (gives_last i (gives_at again_u32 x))

with_address : (i : ℕ → ℕ → Instruction) (x y b : ℕ) (front : List ℕ)
    → Joined (byte b) (Joined (piece.u32 x) (piece.u32 y)) front → opcode b ≡ alone (is (at_address i))
    → Reread (i x y) front
with_address i x y b front h e =
    by_reader (i x y) b front h e (gives_then _ (gives_at again_u32 x) (gives_last (i x) (gives_at again_u32 y)))

with_zero : (i : Instruction) (b : ℕ) (front : List ℕ) → Joined (byte b) (byte 0) front
    → opcode b ≡ alone (is (before_zero i)) → Reread i front
with_zero i b front h e = by_reader i b front h e (gives_last (λ _. i) (gives_byte (only 0x00 tt) 0x00 tt refl))

-- block types
pub again_type : Again block_type grammar.block_type
again_type = again_by go
  where
    go : (t : Option ValType) → Gives block_type t (grammar.block_type t)
    go None = gives_byte block_type_of 0x40 None refl
    go (Some I32) = gives_byte block_type_of 0x7F (Some I32) refl
    go (Some I64) = gives_byte block_type_of 0x7E (Some I64) refl

-- code before its mark
pub record RereadCode (c : Code) (front : List ℕ) : Type 0 where
  pub again : (room : ℕ) (first : Bool) (m : Mark) (end : ℕ) (rest : List ℕ) → depth c ≤ room
      → (first ≡ false → m ≡ closing)
      → instructions room first end (front ++ mark_byte m ∷ rest) ≡ got (record { code = c; mark = m }) rest

marked : (room : ℕ) (first : Bool) (m : Mark) (end : ℕ) (rest : List ℕ) → (first ≡ false → m ≡ closing)
    → instructions room first end (mark_byte m ∷ rest) ≡ got (record { code = pure.end; mark = m }) rest
unfolding opcode
marked room first closing end rest h = instructions_are room first end (0x0B ∷ rest)
marked room true otherwise end rest h = instructions_are room true end (0x05 ∷ rest)
marked room false otherwise end rest h = absurd (let k = h refl in cc)

-- code and 0B
again_closed : (c : Code) (room end : ℕ) (front rest : List ℕ) (h : Joined (code c) (byte 0x0B) front)
    → RereadCode c h.front → depth c ≤ room → closed instructions room end (front ++ rest) ≡ got c rest
again_closed c room end front rest h r d =
    ap (λ m. and_then m (λ l rest. got l.code rest)) (ap (instructions room false end)
    (parted front rest h ∙ ap (λ z. h.front ++ (z ++ rest)) h.second)
    ∙ r.again room false closing end rest d (λ e. refl))

fewer : (m room : ℕ) → suc m ≤ room → (n : ℕ) × (room ≡ suc n) × (m ≤ n)
fewer m zero h = absurd (omega arith)
fewer m (suc n) h = (n, refl, omega arith)

-- behind a block's opcode: its type, and what stands inside
again_opened : (i : Instruction) (m : ℕ) (o : Opener) (t : Option ValType) (P : List ℕ → Type 0) (front : List ℕ)
    (h : Joined (byte m) (Joined (grammar.block_type t) P) front) → opcode m ≡ opens o
    → (low : ℕ) → depth_of i ≡ suc low
    → ((room end : ℕ) (rest : List ℕ) → low ≤ room
    → inside instructions room o t end (h.second.back ++ rest) ≡ got i rest) → Reread i front
again_opened i m o t P front h e low d go =
    by_opcode i m (opens o) front h.back (begins h) e step
  where
    step : (room : ℕ) (first : Bool) (at end : ℕ) (rest : List ℕ) → depth_of i ≤ room
        → behind instructions room first at (opens o) end (h.back ++ rest) ≡ more instructions room first i end rest
    step room first at end rest l =
        let n = fewer low room (omega (arith, d)) in
        let k = h.second in
        subst
        (λ (room : ℕ). behind instructions room first at (opens o) end (h.back ++ rest)
        ≡ more instructions room first i end rest) (sym n.1)
        (ap (λ m. and_then m λ j rest. more instructions (suc n.0) first j end rest)
        (ap (opened instructions (suc n.0) o at end) (parted h.back rest k)
        ∙ (ap (λ m. and_then m λ t rest. inside instructions n.0 o t end rest)
        (again_type.again end t k.front (k.back ++ rest) k.first) ∙ go n.0 end rest n.2)))

ahead_again : (i : Instruction) (c : Code) (front : List ℕ) (h : Joined (instruction i) (code c) front)
    → Reread i h.front → RereadCode c h.back → RereadCode (next i c) front
ahead_again i c front h r s = record {
  again = λ room first m end rest d e.
      let di : depth_of i ≤ room = omega arith in
      let dc : depth c ≤ room = omega arith in
      ap (instructions room first end) (parted front (mark_byte m ∷ rest) h)
      ∙ (r.again room first end (h.back ++ mark_byte m ∷ rest) di
      ∙ ap (λ x. and_then x λ l rest. got (ahead i l) rest) (s.again room first m end rest dc e));
}

-- the two lists of an if
again_if : (t : Option ValType) (a b : Code) (room end : ℕ) (front rest : List ℕ) (h : Joined (code a)
    (λ f. ((b ≡ pure.end) × byte 0x0B f) ⊎ Joined (byte 0x05) (Joined (code b) (byte 0x0B)) f) front)
    → RereadCode a h.front → ((f : List ℕ) → code b f → RereadCode b f)
    → max (depth a) (depth b) ≤ room → inside instructions room an_if t end (front ++ rest) ≡ got (if_else t a b) rest
again_if t a b room end front rest h r s d = go h.second refl
  where
    da : depth a ≤ room
    da = omega arith

    db : depth b ≤ room
    db = omega arith

    go : (tail : ((b ≡ pure.end) × byte 0x0B h.back) ⊎ Joined (byte 0x05) (Joined (code b) (byte 0x0B)) h.back)
        → h.second ≡ tail → inside instructions room an_if t end (front ++ rest) ≡ got (if_else t a b) rest
    go (inl p) _ =
        ap (λ m. and_then m (λ l rest. second instructions room t l.code l.mark end rest))
        (ap (instructions room true end) (parted front rest h ∙ ap (λ z. h.front ++ (z ++ rest)) p.1)
        ∙ r.again room true closing end rest da (λ e. refl))
        ∙ ap (λ c. got (if_else t a c) rest) (sym p.0)
    go (inr p) _ =
        ap (λ m. and_then m (λ l rest. second instructions room t l.code l.mark end rest))
        (ap (instructions room true end) (parted front rest h
        ∙ ap (λ z. h.front ++ (z ++ rest)) (begins p))
        ∙ r.again room true otherwise end (p.back ++ rest) da (λ e. absurd (cc)))
        ∙ ap (λ m. and_then m (λ c rest. got (if_else t a c) rest))
        (again_closed b room end p.back rest p.second (s p.second.front p.second.first) db)

mutual
  unfolding opcode alone_of jump_of variable_of constant_of

  pub reread : (i : Instruction) (front : List ℕ) → instruction i front → Reread i front
  reread unreachable front h = plain unreachable 0x00 front h refl
  reread nop front h = plain nop 0x01 front h refl
  reread (block t c) front h =
      again_opened (block t c) 0x02 a_block t (Joined (code c) (byte 0x0B)) front h refl (depth c) refl
      (λ room end rest d. ap (λ m. and_then m (λ b rest. got (block t b) rest)) (again_closed c room end
      h.second.back rest h.second.second (reread_code c h.second.second.front h.second.second.first) d))
  reread (loop t c) front h =
      again_opened (loop t c) 0x03 a_loop t (Joined (code c) (byte 0x0B)) front h refl (depth c) refl
      (λ room end rest d. ap (λ m. and_then m (λ b rest. got (loop t b) rest)) (again_closed c room end
      h.second.back rest h.second.second (reread_code c h.second.second.front h.second.second.first) d))
  reread (if_else t a b) front h =
      again_opened (if_else t a b) 0x04 an_if t _ front h refl (max (depth a) (depth b)) refl
      (λ room end rest d. again_if t a b room end h.second.back rest h.second.second
      (reread_code a h.second.second.front h.second.second.first) (λ f s. reread_code b f s) d)
  reread (br l) front h = with_index br l 0x0C front h refl
  reread (br_if l) front h = with_index br_if l 0x0D front h refl
  reread (br_table ls l) front h =
      by_reader (br_table ls l) 0x0E front h refl
      (gives_then _ (gives_at (again_vector again_u32) ls) (gives_last (br_table ls) (gives_at again_u32 l)))
  reread give_back front h = plain give_back 0x0F front h refl
  reread (call f) front h = with_index call f 0x10 front h refl
  reread (call_indirect t) front h =
      by_reader (call_indirect t) 0x11 front h refl
      (gives_then _ (gives_at again_u32 t) (gives_last (λ _. call_indirect t) (gives_byte (only 0x00 tt) 0x00 tt refl)))
  reread drop_value front h = plain drop_value 0x1A front h refl
  reread select front h = plain select 0x1B front h refl
  reread (local_get x) front h = with_index local_get x 0x20 front h refl
  reread (local_set x) front h = with_index local_set x 0x21 front h refl
  reread (local_tee x) front h = with_index local_tee x 0x22 front h refl
  reread (global_get x) front h = with_index global_get x 0x23 front h refl
  reread (global_set x) front h = with_index global_set x 0x24 front h refl
  reread (load o align offset) front h = with_address (load o) align offset (load_opcode o) front h (opcode_of_load o)
  reread (store o align offset) front h =
      with_address (store o) align offset (store_opcode o) front h (opcode_of_store o)
  reread memory_size front h = with_zero memory_size 0x3F front h refl
  reread memory_grow front h = with_zero memory_grow 0x40 front h refl
  reread (const_i32 n) front h =
      by_reader (const_i32 n) 0x41 front h refl (gives_last const_i32 (gives_at again_i32 n))
  reread (const_i64 n) front h =
      by_reader (const_i64 n) 0x42 front h refl (gives_last const_i64 (gives_at again_i64 n))
  reread (numeric o) front h = plain (numeric o) (opcode_of_number o) front h (opcode_of_numeric o)

  pub reread_code : (c : Code) (front : List ℕ) → code c front → RereadCode c front
  reread_code pure.end front h = record {
    again = λ room first m end rest d e.
        ap (λ z. instructions room first end (z ++ mark_byte m ∷ rest)) h ∙ marked room first m end rest e;
  }
  reread_code (next i c) front h = ahead_again i c front h (reread i h.front h.first) (reread_code c h.back h.second)

-- Code that is spelled, and 0B, is read again where blocks stand at most 500 deep.
pub expression_again : (c : Code) (end : ℕ) (front rest : List ℕ) → grammar.expression c front → depth c ≤ 500
    → expression end (front ++ rest) ≡ got c rest
expression_again c end front rest h d = again_closed c 500 end front rest h (reread_code c h.front h.first) d
