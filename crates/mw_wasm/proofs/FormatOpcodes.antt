-- An opcode tells which instruction it begins.
use Rattle.std.proofs.Common.{◌≡◌, ℕ, ◌-◌, Bool, true, false, ◌||◌, T, eqb, List, [], ◌∷◌, get_or, nat_lt}
use Rattle.std.proofs.Common.{if◌then◌else◌, refl, sym, ap, ◌∙◌, subst}
use Rattle.std.proofs.Math.Dec.{eqb_refl}
use Rattle.mw_wasm.specs.declared.numbers.IntOp.{IntOp}
use Rattle.mw_wasm.specs.declared.numbers.IntOp.TheVariants as op
use Rattle.mw_wasm.specs.declared.numbers.NumOp.{NumOp}
use Rattle.mw_wasm.specs.declared.numbers.NumOp.TheVariants as number
use Rattle.mw_wasm.specs.declared.numbers.LoadOp.{LoadOp}
use Rattle.mw_wasm.specs.declared.numbers.LoadOp.TheVariants as load_op
use Rattle.mw_wasm.specs.declared.numbers.StoreOp.{StoreOp}
use Rattle.mw_wasm.specs.declared.numbers.StoreOp.TheVariants as store_op
use Rattle.mw_wasm.specs.Syntax.{Instruction, unreachable, nop, block, loop, cond, br, br_if, br_table, give_back, call}
use Rattle.mw_wasm.specs.Syntax.{call_indirect, drop_value, select, local_get, local_set, local_tee, global_get}
use Rattle.mw_wasm.specs.Syntax.{global_set, load, store, memory_size, memory_grow, const_i32, const_i64, numeric}
use Rattle.mw_wasm.specs.BinaryInstructions.{load_opcode, store_opcode, int_opcode, opcode_of_number}

-- the first byte of an instruction
abbrev pub opcode : Instruction → ℕ
opcode unreachable = 0x00
opcode nop = 0x01
opcode (block t body) = 0x02
opcode (loop t body) = 0x03
opcode (cond t a b) = 0x04
opcode (br l) = 0x0C
opcode (br_if l) = 0x0D
opcode (br_table ls l) = 0x0E
opcode give_back = 0x0F
opcode (call f) = 0x10
opcode (call_indirect t) = 0x11
opcode drop_value = 0x1A
opcode select = 0x1B
opcode (local_get x) = 0x20
opcode (local_set x) = 0x21
opcode (local_tee x) = 0x22
opcode (global_get x) = 0x23
opcode (global_set x) = 0x24
opcode (load o align offset) = load_opcode o
opcode (store o align offset) = store_opcode o
opcode memory_size = 0x3F
opcode memory_grow = 0x40
opcode (const_i32 n) = 0x41
opcode (const_i64 n) = 0x42
opcode (numeric o) = opcode_of_number o

-- the least opcode of the same form of instruction
abbrev pub group : ℕ → ℕ
group b = if nat_lt b 0x28 then b else if nat_lt b 0x36 then 0x28 else if nat_lt b 0x3F then 0x36 else if nat_lt b 0x45
    then b else 0x45

abbrev pub form : Instruction → ℕ
form unreachable = 0x00
form nop = 0x01
form (block t body) = 0x02
form (loop t body) = 0x03
form (cond t a b) = 0x04
form (br l) = 0x0C
form (br_if l) = 0x0D
form (br_table ls l) = 0x0E
form give_back = 0x0F
form (call f) = 0x10
form (call_indirect t) = 0x11
form drop_value = 0x1A
form select = 0x1B
form (local_get x) = 0x20
form (local_set x) = 0x21
form (local_tee x) = 0x22
form (global_get x) = 0x23
form (global_set x) = 0x24
form (load o align offset) = 0x28
form (store o align offset) = 0x36
form memory_size = 0x3F
form memory_grow = 0x40
form (const_i32 n) = 0x41
form (const_i64 n) = 0x42
form (numeric o) = 0x45

group_load : (o : LoadOp) → group (load_opcode o) ≡ 0x28
group_load load_op.I32 = refl
group_load _ = refl

group_store : (o : StoreOp) → group (store_opcode o) ≡ 0x36
group_store store_op.I32 = refl
group_store _ = refl

group_i32 : (o : IntOp) → group (int_opcode 0x45 0x67 o) ≡ 0x45
group_i32 op.Eqz = refl
group_i32 _ = refl

group_i64 : (o : IntOp) → group (int_opcode 0x50 0x79 o) ≡ 0x45
group_i64 op.Eqz = refl
group_i64 _ = refl

group_number : (o : NumOp) → group (opcode_of_number o) ≡ 0x45
group_number (number.I32 o) = group_i32 o
group_number (number.I64 o) = group_i64 o
group_number number.Wrap = refl
group_number number.ExtendS = refl
group_number number.ExtendU = refl

pub group_opcode : (i : Instruction) → group (opcode i) ≡ form i
group_opcode (load o align offset) = group_load o
group_opcode (store o align offset) = group_store o
group_opcode (numeric o) = group_number o
group_opcode _ = refl

-- equal opcodes, equal forms
pub same_form : (i j : Instruction) → opcode i ≡ opcode j → T (eqb (form i) (form j))
same_form i j e =
    let forms : form i ≡ form j = sym (group_opcode i) ∙ (ap group e ∙ group_opcode j) in
    let P : ℕ → Type 0 = λ k. T (eqb (form i) k) in
    subst P forms (eqb_refl (form i))

-- 0B and 05, which end instructions
abbrev pub ends : ℕ → Bool
ends b = eqb b 0x0B || eqb b 0x05

form_goes_on : (i : Instruction) → ends (form i) ≡ false
form_goes_on unreachable = refl
form_goes_on _ = refl

pub never_ends : (i : Instruction) (b : ℕ) → opcode i ≡ b → group b ≡ b → ends b ≡ true → ⊥
never_ends i b e g t =
    let forms : form i ≡ b = sym (group_opcode i) ∙ (ap group e ∙ g) in
    let h : ends b ≡ false = ap ends (sym forms) ∙ form_goes_on i in
    cc

loads : List LoadOp
loads = load_op.I32 ∷ load_op.I64 ∷ load_op.I32 ∷ load_op.I32 ∷ load_op.I32S8 ∷ load_op.I32U8 ∷ load_op.I32S16
    ∷ load_op.I32U16
    ∷ load_op.I64S8 ∷ load_op.I64U8 ∷ load_op.I64S16 ∷ load_op.I64U16 ∷ load_op.I64S32 ∷ load_op.I64U32 ∷ []

load_of : ℕ → LoadOp
load_of b = get_or loads (b - 0x28) load_op.I32

load_of_opcode : (o : LoadOp) → load_of (load_opcode o) ≡ o
unfolding load_of loads
load_of_opcode load_op.I32 = refl
load_of_opcode _ = refl

pub same_load : (o p : LoadOp) → load_opcode o ≡ load_opcode p → o ≡ p
same_load o p e = sym (load_of_opcode o) ∙ (ap load_of e ∙ load_of_opcode p)

stores : List StoreOp
stores = store_op.I32 ∷ store_op.I64 ∷ store_op.I32 ∷ store_op.I32 ∷ store_op.I32To8 ∷ store_op.I32To16
    ∷ store_op.I64To8 ∷ store_op.I64To16 ∷ store_op.I64To32 ∷ []

store_of : ℕ → StoreOp
store_of b = get_or stores (b - 0x36) store_op.I32

store_of_opcode : (o : StoreOp) → store_of (store_opcode o) ≡ o
unfolding store_of stores
store_of_opcode store_op.I32 = refl
store_of_opcode _ = refl

pub same_store : (o p : StoreOp) → store_opcode o ≡ store_opcode p → o ≡ p
same_store o p e = sym (store_of_opcode o) ∙ (ap store_of e ∙ store_of_opcode p)

tests : List IntOp
tests = op.Eqz ∷ op.Eq ∷ op.Ne ∷ op.LtS ∷ op.LtU ∷ op.GtS ∷ op.GtU ∷ op.LeS ∷ op.LeU ∷ op.GeS ∷ op.GeU ∷ []

others : List IntOp
others = op.Clz ∷ op.Ctz ∷ op.Popcnt ∷ op.Add ∷ op.Sub ∷ op.Mul ∷ op.DivS ∷ op.DivU ∷ op.RemS ∷ op.RemU ∷ op.And ∷ op.Or
    ∷ op.Xor ∷ op.Shl ∷ op.ShrS ∷ op.ShrU ∷ op.Rotl ∷ op.Rotr ∷ []

number_of : ℕ → NumOp
number_of b = if nat_lt b 0x50 then number.I32 (get_or tests (b - 0x45) op.Eqz)
    else if nat_lt b 0x67 then number.I64 (get_or tests (b - 0x50) op.Eqz)
    else if nat_lt b 0x79 then number.I32 (get_or others (b - 0x67) op.Clz)
    else if nat_lt b 0xA7 then number.I64 (get_or others (b - 0x79) op.Clz)
    else if nat_lt b 0xA8 then number.Wrap
    else if nat_lt b 0xAD then number.ExtendS
    else number.ExtendU

number_of_i32 : (o : IntOp) → number_of (int_opcode 0x45 0x67 o) ≡ number.I32 o
unfolding number_of tests others
number_of_i32 op.Eqz = refl
number_of_i32 _ = refl

number_of_i64 : (o : IntOp) → number_of (int_opcode 0x50 0x79 o) ≡ number.I64 o
unfolding number_of tests others
number_of_i64 op.Eqz = refl
number_of_i64 _ = refl

number_of_opcode : (o : NumOp) → number_of (opcode_of_number o) ≡ o
unfolding number_of
number_of_opcode (number.I32 o) = number_of_i32 o
number_of_opcode (number.I64 o) = number_of_i64 o
number_of_opcode number.Wrap = refl
number_of_opcode number.ExtendS = refl
number_of_opcode number.ExtendU = refl

pub same_number : (o p : NumOp) → opcode_of_number o ≡ opcode_of_number p → o ≡ p
same_number o p e = sym (number_of_opcode o) ∙ (ap number_of e ∙ number_of_opcode p)
