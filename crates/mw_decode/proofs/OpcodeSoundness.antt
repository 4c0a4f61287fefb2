-- An opcode that stands alone, and what is read behind it, spell the instruction that is given.
use Rattle.std.proofs.Common.{◌≡◌, ℕ, zero, suc, ◌+◌, ◌-◌, Bool, true, ◌&&◌, cond, eqb, leb, List}
use Rattle.std.proofs.Common.{[]}
use Rattle.std.proofs.Common.{◌∷◌, ◌++◌, Option, Some, None, refl, sym, ap, subst, ◌∙◌, arith}
use Rattle.std.specs.Prelude.{slice_get}
use Rattle.std.proofs.lemmas.Bool.{eqb-true, leb-true, cond_both}
use Rattle.std.proofs.lemmas.Option.{none-some}
use Rattle.mw_wasm.specs.Pieces.{Joined, byte}
use Rattle.mw_wasm.specs.Syntax.{Instruction, unreachable, nop, br, br_if, br_table, give_back, call, call_indirect}
use Rattle.mw_wasm.specs.Syntax.{drop_value, select, local_get, local_set, local_tee, global_get, global_set, load}
use Rattle.mw_wasm.specs.Syntax.{store, memory_size, memory_grow, const_i32, const_i64, numeric}
use Rattle.mw_wasm.specs.declared.numbers.IntOp.{IntOp}
use Rattle.mw_wasm.specs.declared.numbers.NumOp.{NumOp}
use Rattle.mw_wasm.specs.declared.numbers.NumOp.TheVariants as number
use Rattle.mw_wasm.specs.declared.numbers.LoadOp.{LoadOp}
use Rattle.mw_wasm.specs.declared.numbers.LoadOp.TheVariants as load_op
use Rattle.mw_wasm.specs.declared.numbers.StoreOp.{StoreOp}
use Rattle.mw_wasm.specs.declared.numbers.StoreOp.TheVariants as store_op
use Rattle.mw_wasm.specs.BinaryInstructions.{instruction, load_opcode, store_opcode, opcode_of_number}
use Rattle.mw_wasm.specs.Profile.{depth_of}
use Rattle.mw_decode.specs.Reading.{Reader, ◌>>=◌, gives, Meaning, is, wrong, outside, only, fixed}
use Rattle.mw_decode.specs.Opcodes.{row, or_else, tests, others, number_of, load_of, store_of, mapped}
use Rattle.mw_decode.specs.Opcodes.{loading, storing, computing, known_or, is_left_out, or_meaning, accessing_of}
use Rattle.mw_decode.specs.Opcodes.{alone_of}
use Rattle.mw_decode.specs.Opcodes.{jump_of, variable_of, constant_of}
use Rattle.mw_list.proofs.Conjunctions.{both_true}
use Rattle.mw_decode.proofs.Choices.{passes, not_wrong}
use Rattle.mw_decode.proofs.ReaderSoundness.{Sound, joined, sound_then, sound_gives, sound_last, sound_byte, by_byte}
use Rattle.mw_decode.proofs.ReaderSoundness.{sound_u32, sound_i32, sound_i64, sound_vector}

-- an instruction behind its opcode
abbrev pub Behind : ℕ → Instruction → List ℕ → Type 0
Behind b i front = instruction i (b ∷ front) × (depth_of i ≡ zero)

abbrev pub OptionSound : ℕ → Option (Reader Instruction) → Type 0
OptionSound b None = Unit {0}
OptionSound b (Some r) = Sound r (Behind b)

pub option_if : (b k : ℕ) (r : Reader Instruction) (o : Option (Reader Instruction)) → (b ≡ k → Sound r (Behind b))
    → OptionSound b o → OptionSound b (cond (eqb b k) (Some r) o)
option_if b k r o s t = cond_both (eqb b k) (Some r) o (OptionSound b) (λ e. s (eqb-true b k e)) (λ e. t)

pub option_or : (b : ℕ) (o p : Option (Reader Instruction)) → OptionSound b o → OptionSound b p
    → OptionSound b (or_else o p)
option_or b None p s t = t
option_or b (Some r) p s t = s

-- this opcode before what stands behind it
pub opened_by : (m b : ℕ) (P : List ℕ → Type 0) (front : List ℕ) → b ≡ m → P front → Joined (byte m) P (b ∷ front)
opened_by m b P front e h =
    record { front = m ∷ []; back = front; whole = ap (λ z. z ∷ front) e; first = refl; second = h }

plain_sound : (m b : ℕ) (i : Instruction) → ((bytes : List ℕ) → bytes ≡ m ∷ [] → instruction i bytes)
    → depth_of i ≡ zero → b ≡ m → Sound (gives i) (Behind b)
plain_sound m b i made flat e = sound_gives i (made (b ∷ []) (ap (λ z. z ∷ []) e), flat)

-- one operand, of any kind
operand_sound : {A : Type 0} {r : Reader A} {P : A → List ℕ → Type 0} (m b : ℕ) (i : A → Instruction) → Sound r P
    → ((x : A) (bytes : List ℕ) → Joined (byte m) (P x) bytes → instruction (i x) bytes)
    → ((x : A) → depth_of (i x) ≡ zero) → b ≡ m → Sound (r >>= λ x. gives (i x)) (Behind b)
operand_sound {P = P} m b i s made flat e =
    sound_last i s (λ x front p. (made x (b ∷ front) (opened_by m b (P x) front e p), flat x))

-- two operands
operands_sound : {A B : Type 0} {r : Reader A} {q : Reader B} {P : A → List ℕ → Type 0} {Q : B → List ℕ → Type 0}
    (m b : ℕ) (i : A → B → Instruction) → Sound r P → Sound q Q
    → ((x : A) (y : B) (bytes : List ℕ) → Joined (byte m) (Joined (P x) (Q y)) bytes → instruction (i x y) bytes)
    → ((x : A) (y : B) → depth_of (i x y) ≡ zero) → b ≡ m
    → Sound (r >>= λ x. q >>= λ y. gives (i x y)) (Behind b)
operands_sound {P = P} {Q = Q} m b i s t made flat e = sound_then s λ x. sound_last (i x) t (λ y back q front p.
    (made x y (b ∷ (front ++ back)) (opened_by m b _ (front ++ back) e (joined front back p q)), flat x y))

-- a fixed byte
pub sound_fixed : (m : ℕ) → Sound (fixed m) (λ x front. byte m front)
sound_fixed m =
    sound_byte (only m tt) (λ b x e low. by_byte (λ x. byte m) b m tt x wrong refl (λ e. absurd (not_wrong x e)) e)

pub jump_sound : (b : ℕ) → OptionSound b (jump_of b)
unfolding jump_of
jump_sound b =
    option_if b 0x00 _ _ (plain_sound 0x00 b unreachable (λ bytes h. h) refl) (
    option_if b 0x01 _ _ (plain_sound 0x01 b nop (λ bytes h. h) refl) (
    option_if b 0x0C _ _ (operand_sound 0x0C b br sound_u32 (λ x bytes h. h) (λ x. refl)) (
    option_if b 0x0D _ _ (operand_sound 0x0D b br_if sound_u32 (λ x bytes h. h) (λ x. refl)) (
    option_if b 0x0E _ _ (operands_sound 0x0E b br_table (sound_vector sound_u32) sound_u32 (λ ls l bytes h. h)
    (λ ls l. refl)) (
    option_if b 0x0F _ _ (plain_sound 0x0F b give_back (λ bytes h. h) refl) (
    option_if b 0x10 _ _ (operand_sound 0x10 b call sound_u32 (λ x bytes h. h) (λ x. refl)) (
    option_if b 0x11 _ _ (operands_sound 0x11 b (λ t x. call_indirect t) sound_u32 (sound_fixed 0) (λ t x bytes h. h)
    (λ t x. refl)) (
    option_if b 0x1A _ _ (plain_sound 0x1A b drop_value (λ bytes h. h) refl) (
    option_if b 0x1B _ None (plain_sound 0x1B b select (λ bytes h. h) refl) tt)))))))))

pub variable_sound : (b : ℕ) → OptionSound b (variable_of b)
unfolding variable_of
variable_sound b =
    option_if b 0x20 _ _ (operand_sound 0x20 b local_get sound_u32 (λ x bytes h. h) (λ x. refl)) (
    option_if b 0x21 _ _ (operand_sound 0x21 b local_set sound_u32 (λ x bytes h. h) (λ x. refl)) (
    option_if b 0x22 _ _ (operand_sound 0x22 b local_tee sound_u32 (λ x bytes h. h) (λ x. refl)) (
    option_if b 0x23 _ _ (operand_sound 0x23 b global_get sound_u32 (λ x bytes h. h) (λ x. refl)) (
    option_if b 0x24 _ None (operand_sound 0x24 b global_set sound_u32 (λ x bytes h. h) (λ x. refl)) tt))))

pub constant_sound : (b : ℕ) → OptionSound b (constant_of b)
unfolding constant_of
constant_sound b =
    option_if b 0x3F _ _ (operand_sound 0x3F b (λ x. memory_size) (sound_fixed 0) (λ x bytes h. h) (λ x. refl)) (
    option_if b 0x40 _ _ (operand_sound 0x40 b (λ x. memory_grow) (sound_fixed 0) (λ x bytes h. h) (λ x. refl)) (
    option_if b 0x41 _ _ (operand_sound 0x41 b const_i32 sound_i32 (λ x bytes h. h) (λ x. refl)) (
    option_if b 0x42 _ None (operand_sound 0x42 b const_i64 sound_i64 (λ x bytes h. h) (λ x. refl)) tt)))

-- opcodes in a row, each one more than the one before
abbrev in_row : {A : Type 0} → (A → ℕ) → ℕ → List A → Bool
in_row f first [] = true
in_row f first (o ∷ os) = eqb (f o) first && in_row f (suc first) os

at_place : {A : Type 0} (f : A → ℕ) (first k : ℕ) (ops : List A) (o : A) → in_row f first ops ≡ true
    → slice_get ops k ≡ Some o → f o ≡ first + k
at_place f first k [] o h e = absurd (cc)
at_place f first zero (p ∷ ops) o h e =
    let q : p ≡ o = (cc) in
    let r : f o ≡ first = subst (λ x. f x ≡ first) q (eqb-true (f p) first (both_true _ _ h).0) in
    omega arith
at_place f first (suc k) (p ∷ ops) o h e =
    let r = at_place f (suc first) k ops o (both_true (eqb (f p) first) (in_row f (suc first) ops) h).1 e in omega arith

row_is : {A : Type 0} (f : A → ℕ) (first b : ℕ) (ops : List A) (o : A) → in_row f first ops ≡ true
    → row first ops b ≡ Some o
    → f o ≡ b
row_is f first b ops o h e =
    let q = passes (leb first b) _ None (Some o) e (none-some o) in
    let le = leb-true first b q.0 in
    let r = at_place f first (b - first) ops o h q.1 in
    omega arith

or_so : {A : Type 0} (P : A → Type 0) (o p : Option A) → ((x : A) → o ≡ Some x → P x) → ((x : A) → p ≡ Some x → P x)
    → (x : A) → or_else o p ≡ Some x → P x
or_so P None p f g x e = g x e
or_so P (Some y) p f g x e = f x e

mapped_is : {A B : Type 0} (f : A → B) (o : Option A) (y : B) → mapped f o ≡ Some y → (x : A) × (o ≡ Some x) × (y ≡ f x)
mapped_is f None y e = absurd (cc)
mapped_is f (Some x) y e = (x, refl, (cc))

number_row : (make : IntOp → NumOp) (first b : ℕ) (ops : List IntOp) (o : NumOp)
    → in_row (λ x. opcode_of_number (make x)) first ops ≡ true → mapped make (row first ops b) ≡ Some o
    → opcode_of_number o ≡ b
number_row make first b ops o h e =
    let k = mapped_is make (row first ops b) o e in
    ap opcode_of_number k.2 ∙ row_is (λ x. opcode_of_number (make x)) first b ops k.0 h k.1

pub number_opcode : (b : ℕ) (o : NumOp) → number_of b ≡ Some o → opcode_of_number o ≡ b
unfolding number_of
number_opcode b =
    or_so (λ o. opcode_of_number o ≡ b) _ _ (λ o h. number_row number.I32 0x45 b tests o refl h)
    (or_so _ _ _ (λ o h. number_row number.I64 0x50 b tests o refl h)
    (or_so _ _ _ (λ o h. number_row number.I32 0x67 b others o refl h)
    (or_so _ _ _ (λ o h. number_row number.I64 0x79 b others o refl h)
    (or_so _ _ _ (λ o h. row_is opcode_of_number 0xA7 b (number.Wrap ∷ []) o refl h)
    (λ o h. row_is opcode_of_number 0xAC b (number.ExtendS ∷ number.ExtendU ∷ []) o refl h)))))

pub load_opcode_is : (b : ℕ) (o : LoadOp) → load_of b ≡ Some o → load_opcode o ≡ b
unfolding load_of
load_opcode_is b =
    or_so (λ o. load_opcode o ≡ b) _ _ (λ o h. row_is load_opcode 0x28 b (load_op.I32 ∷ load_op.I64 ∷ []) o refl h)
    (λ o h. row_is load_opcode 0x2C b
    (load_op.I32S8 ∷ load_op.I32U8 ∷ load_op.I32S16 ∷ load_op.I32U16 ∷ load_op.I64S8 ∷ load_op.I64U8
    ∷ load_op.I64S16 ∷ load_op.I64U16 ∷ load_op.I64S32 ∷ load_op.I64U32 ∷ []) o refl h)

pub store_opcode_is : (b : ℕ) (o : StoreOp) → store_of b ≡ Some o → store_opcode o ≡ b
unfolding store_of
store_opcode_is b =
    or_so (λ o. store_opcode o ≡ b) _ _ (λ o h. row_is store_opcode 0x36 b (store_op.I32 ∷ store_op.I64 ∷ []) o refl h)
    (λ o h. row_is store_opcode 0x3A b
    (store_op.I32To8 ∷ store_op.I32To16 ∷ store_op.I64To8 ∷ store_op.I64To16 ∷ store_op.I64To32 ∷ []) o refl h)

pub mapped_sound : {A : Type 0} (b : ℕ) (f : A → Reader Instruction) (o : Option A)
    → ((x : A) → o ≡ Some x → Sound (f x) (Behind b)) → OptionSound b (mapped f o)
mapped_sound b f None h = tt
mapped_sound b f (Some x) h = h x refl

abbrev pub MeaningSound : ℕ → Meaning (Reader Instruction) → Type 0
MeaningSound b (is r) = Sound r (Behind b)
MeaningSound b wrong = Unit {0}
MeaningSound b outside = Unit {0}

known_sound : (b : ℕ) (o : Option (Reader Instruction)) → OptionSound b o → MeaningSound b (known_or b o)
known_sound b (Some r) s = s
known_sound b None s = cond_both (is_left_out b) outside wrong (MeaningSound b) (λ e. tt) (λ e. tt)

or_meaning_sound : (b : ℕ) (o : Option (Reader Instruction)) (m : Meaning (Reader Instruction)) → OptionSound b o
    → MeaningSound b m → MeaningSound b (or_meaning o m)
or_meaning_sound b None m s t = t
or_meaning_sound b (Some r) m s t = s

accessing_sound : (b : ℕ) → MeaningSound b (accessing_of b)
unfolding accessing_of
accessing_sound b = known_sound b _
    (option_or b _ _ (mapped_sound b loading (load_of b)
    (λ o e. operands_sound (load_opcode o) b (load o) sound_u32 sound_u32 (λ x y bytes h. h) (λ x y. refl)
    (sym (load_opcode_is b o e))))
    (option_or b _ _ (mapped_sound b storing (store_of b) (λ o e.
    operands_sound (store_opcode o) b (store o) sound_u32 sound_u32 (λ x y bytes h. h) (λ x y. refl)
    (sym (store_opcode_is b o e))))
    (mapped_sound b computing (number_of b)
    (λ o e. plain_sound (opcode_of_number o) b (numeric o) (λ bytes h. h) refl (sym (number_opcode b o e))))))

pub alone_sound : (b : ℕ) → MeaningSound b (alone_of b)
unfolding alone_of
alone_sound b =
    or_meaning_sound b _ _ (jump_sound b)
    (or_meaning_sound b _ _ (variable_sound b) (or_meaning_sound b _ _ (constant_sound b) (accessing_sound b)))
