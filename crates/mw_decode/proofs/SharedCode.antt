-- Code that is read from bytes that begin alike.
use Rattle.std.proofs.Common.{◌≡◌, ◌<◌, ℕ, zero, suc, ◌+◌, Bool, true, false, cond, eqb, List}
use Rattle.std.proofs.Common.{◌∷◌, ◌++◌, length, Option, Some, None, sym, ◌∙◌, arith}
use Rattle.std.proofs.lemmas.Bool.{cond_both}
use Rattle.mw_wasm.specs.declared.values.ValType.{ValType}
use Rattle.mw_wasm.specs.Syntax as pure
use Rattle.mw_wasm.specs.Syntax.{Instruction, Code, unreachable, nop, block, loop, cond as if_else, br, br_if, br_table}
use Rattle.mw_wasm.specs.Syntax.{give_back, call, call_indirect, drop_value, select, local_get, local_set, local_tee}
use Rattle.mw_wasm.specs.Syntax.{global_get, global_set, load, store, memory_size, memory_grow, const_i32, const_i64}
use Rattle.mw_wasm.specs.Syntax.{numeric}
use Rattle.mw_decode.specs.Reading.{Reader, place, ◌>>=◌, Meaning, is, wrong, outside}
use Rattle.mw_decode.specs.Opcodes.{Mark, closing, otherwise, Opener, a_block, a_loop, an_if, Opcode, marks}
use Rattle.mw_decode.specs.Opcodes.{or_else, mapped, number_of, load_of, store_of, is_left_out, indexed, at_address}
use Rattle.mw_decode.specs.Opcodes.{before_zero, jump_table, indirect, jump_of, variable_of}
use Rattle.mw_decode.specs.Opcodes.{constant_of, loading, storing, computing, known_or, accessing_of, or_meaning}
use Rattle.mw_decode.specs.Opcodes.{alone_of, opcode}
use Rattle.mw_decode.specs.Instructions.{value_type_of, value_type, block_type_of, block_type, Lists, ahead}
use Rattle.mw_decode.specs.Instructions.{closed, second, inside, opened, more, immediates, behind, listed, within}
use Rattle.mw_decode.specs.Instructions.{instructions, expression}
use Rattle.mw_decode.proofs.ReadingFixedPoint.{enough}
use Rattle.mw_decode.proofs.SharedFronts.{Shared, Follows, shared_head, follows_shared, follows_wrong, follows_silent}
use Rattle.mw_decode.proofs.SharedFronts.{shared_silent, shared_gives, shared_then}
use Rattle.mw_decode.proofs.SharedNumbers.{silent_outside_here, silent_end, shared_byte, shared_fixed}
use Rattle.mw_decode.proofs.SharedNumbers.{shared_u32, shared_i32, shared_i64, shared_vector}

-- what stands behind an opcode
abbrev OptionShared : Option (Reader Instruction) → Type 0
OptionShared None = Unit {0}
OptionShared (Some r) = Shared r

abbrev MeaningShared : Meaning (Reader Instruction) → Type 0
MeaningShared (is r) = Shared r
MeaningShared wrong = Unit {0}
MeaningShared outside = Unit {0}

option_if : (c : Bool) (r : Reader Instruction) (o : Option (Reader Instruction)) → Shared r → OptionShared o
    → OptionShared (cond c (Some r) o)
option_if true r o s t = s
option_if false r o s t = t

option_or : (o p : Option (Reader Instruction)) → OptionShared o → OptionShared p → OptionShared (or_else o p)
option_or None p s t = t
option_or (Some r) p s t = s

meaning_or : (o : Option (Reader Instruction)) (m : Meaning (Reader Instruction)) → OptionShared o → MeaningShared m
    → MeaningShared (or_meaning o m)
meaning_or None m s t = t
meaning_or (Some r) m s t = s

known_shared : (b : ℕ) (o : Option (Reader Instruction)) → OptionShared o → MeaningShared (known_or b o)
known_shared b (Some r) s = s
known_shared b None s = go (is_left_out b)
  where
    go : (c : Bool) → MeaningShared (cond c outside wrong)
    go true = tt
    go false = tt

mapped_shared : {A : Type 0} (g : A → Reader Instruction) → ((x : A) → Shared (g x)) → (o : Option A)
    → OptionShared (mapped g o)
mapped_shared g s None = tt
mapped_shared g s (Some x) = s x

shared_indexed : (i : ℕ → Instruction) → Shared (indexed i)
shared_indexed i = shared_then shared_u32 λ x. shared_gives (i x)

shared_address : (i : ℕ → ℕ → Instruction) → Shared (at_address i)
shared_address i = shared_then shared_u32 λ x. shared_then shared_u32 λ y. shared_gives (i x y)

shared_zero : (i : Instruction) → Shared (before_zero i)
shared_zero i = shared_then (shared_fixed 0x00) λ _. shared_gives i

shared_table : Shared jump_table
shared_table = shared_then (shared_vector shared_u32) λ ls. shared_then shared_u32 λ l. shared_gives (br_table ls l)

shared_indirect : Shared indirect
shared_indirect = shared_then shared_u32 λ t. shared_then (shared_fixed 0x00) λ _. shared_gives (call_indirect t)

jump_shared : (b : ℕ) → OptionShared (jump_of b)
unfolding jump_of
jump_shared b =
    option_if (eqb b 0x00) _ _ (shared_gives unreachable) (option_if (eqb b 0x01) _ _ (shared_gives nop)
    (option_if (eqb b 0x0C) _ _ (shared_indexed br) (option_if (eqb b 0x0D) _ _ (shared_indexed br_if)
    (option_if (eqb b 0x0E) _ _ shared_table (option_if (eqb b 0x0F) _ _ (shared_gives give_back)
    (option_if (eqb b 0x10) _ _ (shared_indexed call) (option_if (eqb b 0x11) _ _ shared_indirect
    (option_if (eqb b 0x1A) _ _ (shared_gives drop_value)
    (option_if (eqb b 0x1B) _ _ (shared_gives select) tt)))))))))

variable_shared : (b : ℕ) → OptionShared (variable_of b)
unfolding variable_of
variable_shared b =
    option_if (eqb b 0x20) _ _ (shared_indexed local_get) (option_if (eqb b 0x21) _ _ (shared_indexed local_set)
    (option_if (eqb b 0x22) _ _ (shared_indexed local_tee) (option_if (eqb b 0x23) _ _ (shared_indexed global_get)
    (option_if (eqb b 0x24) _ _ (shared_indexed global_set) tt))))

constant_shared : (b : ℕ) → OptionShared (constant_of b)
unfolding constant_of
constant_shared b =
    option_if (eqb b 0x3F) _ _ (shared_zero memory_size) (option_if (eqb b 0x40) _ _ (shared_zero memory_grow)
    (option_if (eqb b 0x41) _ _ (shared_then shared_i32 λ n. shared_gives (const_i32 n))
    (option_if (eqb b 0x42) _ _ (shared_then shared_i64 λ n. shared_gives (const_i64 n)) tt)))

accessing_shared : (b : ℕ) → MeaningShared (accessing_of b)
unfolding accessing_of
accessing_shared b =
    known_shared b _ (option_or _ _ (mapped_shared loading (λ o. shared_address (load o)) (load_of b))
    (option_or _ _ (mapped_shared storing (λ o. shared_address (store o)) (store_of b))
    (mapped_shared computing (λ o. shared_gives (numeric o)) (number_of b))))

alone_shared : (b : ℕ) → MeaningShared (alone_of b)
unfolding alone_of
alone_shared b =
    meaning_or _ _ (jump_shared b) (meaning_or _ _ (variable_shared b) (meaning_or _ _ (constant_shared b)
    (accessing_shared b)))

pub shared_value_type : Shared value_type
shared_value_type = shared_byte value_type_of

shared_block_type : Shared block_type
shared_block_type = shared_byte block_type_of

-- lists of instructions
record ListsShared (lists : Lists) : Type 0 where
  each : (room : ℕ) (first : Bool) → Shared (lists room first)

module _ (lists : Lists) (s : ListsShared lists) where
  shared_closed : (room : ℕ) → Shared (closed lists room)
  shared_closed room = shared_then (s.each room false) λ l. shared_gives l.code

  shared_second : (room : ℕ) (t : Option ValType) (a : Code) (m : Mark) → Shared (second lists room t a m)
  shared_second room t a closing = shared_gives (if_else t a pure.end)
  shared_second room t a otherwise = shared_then (shared_closed room) λ b. shared_gives (if_else t a b)

  shared_inside : (room : ℕ) (o : Opener) (t : Option ValType) → Shared (inside lists room o t)
  shared_inside room a_block t = shared_then (shared_closed room) λ body. shared_gives (block t body)
  shared_inside room a_loop t = shared_then (shared_closed room) λ body. shared_gives (loop t body)
  shared_inside room an_if t = shared_then (s.each room true) λ l. shared_second room t l.code l.mark

  shared_more : (room : ℕ) (first : Bool) (i : Instruction) → Shared (more lists room first i)
  shared_more room first i = shared_then (s.each room first) λ l. shared_gives (ahead i l)

  -- behind an opcode, whose place the reader may tell
  follows_opened : (b room : ℕ) (first : Bool) (o : Opener)
      → Follows b (λ e rest. (opened lists room o (place e (b ∷ rest)) >>= more lists room first) e rest)
  follows_opened b zero first o = follows_silent b (silent_outside_here b)
  follows_opened b (suc room) first o =
      follows_shared b (shared_then (shared_then shared_block_type (λ t. shared_inside room o t))
      (λ i. shared_more (suc room) first i))

  follows_alone : (b room : ℕ) (first : Bool) (m : Meaning (Reader Instruction)) → MeaningShared m
      → Follows b (λ e rest. (immediates (place e (b ∷ rest)) m >>= more lists room first) e rest)
  follows_alone b room first (is r) t = follows_shared b (shared_then t (λ i. shared_more room first i))
  follows_alone b room first wrong t = follows_wrong b
  follows_alone b room first outside t = follows_silent b (silent_outside_here b)

  abbrev After : ℕ → ℕ → Bool → Opcode → Type 0
  After b room first o = Follows b (λ e rest. behind lists room first (place e (b ∷ rest)) o e rest)

  follows_else : (b room : ℕ) (first : Bool) → After b room first (marks otherwise)
  follows_else b room true = follows_shared b (shared_gives (record { code = pure.end; mark = otherwise }))
  follows_else b room false = follows_wrong b

  follows_opcode : (b room : ℕ) (first : Bool) → After b room first (opcode b)
  unfolding opcode
  follows_opcode b room first =
      cond_both (eqb b 0x02) _ _ (After b room first) (λ _. follows_opened b room first a_block)
      (λ _. cond_both (eqb b 0x03) _ _ (After b room first) (λ _. follows_opened b room first a_loop)
      (λ _. cond_both (eqb b 0x04) _ _ (After b room first) (λ _. follows_opened b room first an_if)
      (λ _. cond_both (eqb b 0x05) _ _ (After b room first) (λ _. follows_else b room first)
      (λ _. cond_both (eqb b 0x0B) _ _ (After b room first)
      (λ _. follows_shared b (shared_gives (record { code = pure.end; mark = closing })))
      (λ _. follows_alone b room first (alone_of b) (alone_shared b))))))

  shared_listed : (room : ℕ) (first : Bool) → Shared (listed lists room first)
  shared_listed room first =
      shared_head (listed lists room first) (λ e at h. cc) (λ e h. cc) (λ e x rest h. absurd (cc))
      (λ b. follows_opcode b room first)

shared_within : (n : ℕ) → ListsShared (within n)
shared_within zero = record { each = λ room first. shared_silent silent_end }
shared_within (suc n) = record {
  each = λ room first.
      shared_listed (λ room first end bytes. within n room first end bytes)
      (record { each = (shared_within n).each }) room first;
}

-- room for all the lists there may be
more_room : (k room : ℕ) (first : Bool) (e : ℕ) (bytes : List ℕ) → length bytes < k
    → instructions room first e bytes ≡ within k room first e bytes
unfolding instructions
more_room k room first e bytes h =
    (enough (suc (length bytes)) k (length bytes) (omega arith) h).agree room first e bytes (omega arith)

shared_instructions : ListsShared instructions
shared_instructions = record {
  each = λ room first. record {
    fault = λ p e1 e2 at f c1 c2 w1 w2 h l y rest g.
        let k = suc (length (f ++ c1) + length (f ++ c2)) in
        ((shared_within k).each room first).fault p e1 e2 at f c1 c2 w1 w2
        (sym (more_room k room first e1 (f ++ c1) (omega arith)) ∙ h) l y rest
        (sym (more_room k room first e2 (f ++ c2) (omega arith)) ∙ g);
    both = λ p e1 e2 f c1 c2 x y rest1 rest2 w1 w2 h g.
        let k = suc (length (f ++ c1) + length (f ++ c2)) in
        ((shared_within k).each room first).both p e1 e2 f c1 c2 x y rest1 rest2 w1 w2
        (sym (more_room k room first e1 (f ++ c1) (omega arith)) ∙ h)
        (sym (more_room k room first e2 (f ++ c2) (omega arith)) ∙ g);
    placed = λ p e at bytes w h.
        let k = suc (length bytes) in
        ((shared_within k).each room first).placed p e at bytes w
        (sym (more_room k room first e bytes (omega arith)) ∙ h);
    shorter = λ e bytes x rest h.
        let k = suc (length bytes) in
        ((shared_within k).each room first).shorter e bytes x rest
        (sym (more_room k room first e bytes (omega arith)) ∙ h);
    no_header = λ e bytes h.
        let k = suc (length bytes) in
        ((shared_within k).each room first).no_header e bytes
        (sym (more_room k room first e bytes (omega arith)) ∙ h);
  };
}

pub shared_expression : Shared expression
shared_expression = shared_closed instructions shared_instructions 500
