-- Generated code as instructions, one after the other, as the program appends them.
use Rattle.std.specs.Prelude.{ℕ, ◌+◌, ◌*◌, ◌<◌, ◌≤◌, ◌≡◌, if◌then◌else◌, List, [], ◌∷◌, ◌++◌, length, map, Some}
use Rattle.std.specs.Int.{cast_unsigned}
use mir.Syntax.{w64}
use Rattle.mw_term.specs.declared.term.Primitive.{Primitive as Prim}
use Rattle.mw_term.specs.declared.term.Primitive.TheVariants.{Add, Sub, Mul, Div, Mod, Eq, Lt, Le}
use Rattle.mw_wasm.specs.declared.values.ValType.TheVariants.{I64}
use Rattle.mw_wasm.specs.declared.numbers.IntOp.TheVariants as op
use Rattle.mw_wasm.specs.declared.numbers.NumOp.TheVariants as number
use Rattle.mw_wasm.specs.declared.numbers.LoadOp.TheVariants as load_op
use Rattle.mw_wasm.specs.declared.numbers.StoreOp.TheVariants as store_op
use Rattle.mw_wasm.specs.declared.instructions.Instrs.{Instrs}
use Rattle.mw_wasm.specs.Syntax.{Instruction, Code, end, next, cond, br, call_indirect, local_get, local_set, local_tee}
use Rattle.mw_wasm.specs.Syntax.{global_get, global_set, load, store, const_i32, const_i64, numeric}
use Rattle.mw_wasm.specs.Views.{instruction_of}
use Rattle.mw_ir.specs.declared.place.Place.{Place}
use Rattle.mw_ir.specs.declared.place.Place.TheVariants.{Argument, Own, Slot, Free}
use Rattle.mw_ir.specs.Ir as i
use Rattle.mw_ir.specs.Ir.{Ir, IrFunc}
use Rattle.std.specs.List.{AllByRecursion}
use Rattle.mw_ir.specs.Ranges.{ir_depth}
use Rattle.mw_gen.specs.Generate.{expression_code, tail_code, is_own, truth_code}

-- instructions before a rest
abbrev pub before : List Instruction → Code → Code
before [] rest = rest
before (x ∷ xs) rest = next x (before xs rest)

-- the new instructions are the old ones and these
abbrev pub Appends : Instrs → Instrs → List Instruction → Type 0
Appends old new xs = map instruction_of new.inner.items ≡ map instruction_of old.inner.items ++ xs

abbrev pub place_list : Place → ℕ → List Instruction
place_list Argument b = local_get 1 ∷ []
place_list Own b = local_get 0 ∷ []
place_list (Slot s) b = local_get (b + s) ∷ []
place_list (Free j) b = local_get 0 ∷ numeric number.Wrap ∷ load load_op.I64 3 (8 * (j + 1)) ∷ []

abbrev pub stores_list : List Place → ℕ → ℕ → List Instruction
stores_list [] j b = []
stores_list (p ∷ ps) j b = global_get 0 ∷ (place_list p b ++ store store_op.I64 3 (8 * j) ∷ stores_list ps (j + 1) b)

abbrev pub address_list : ℕ → List Instruction
address_list m = global_get 0 ∷ numeric number.ExtendU ∷ global_get 0 ∷ const_i32 m ∷ numeric (number.I32 op.Add)
    ∷ global_set 0 ∷ []

abbrev pub apply_list : ℕ → List Instruction
apply_list t = local_set (t + 1) ∷ local_tee t ∷ local_get (t + 1) ∷ local_get t ∷ numeric number.Wrap
    ∷ load load_op.I32 2 0 ∷ call_indirect 0 ∷ []

abbrev pub stored_list : (local offset : ℕ) → List Instruction
stored_list x offset = global_get 0 ∷ local_get x ∷ store store_op.I64 3 offset ∷ []

abbrev pub parts_list : ℕ → List Instruction
parts_list t = stored_list t 0 ++ (stored_list (t + 1) 8 ++ address_list 16)

abbrev pub pair_list : ℕ → List Instruction
pair_list t = local_set (t + 1) ∷ local_set t ∷ parts_list t

abbrev pub word_list : ℕ → List Instruction
word_list offset = numeric number.Wrap ∷ load load_op.I64 3 offset ∷ []

abbrev pub prim_list : Prim → List Instruction
prim_list Add = numeric (number.I64 op.Add) ∷ []
prim_list Sub = numeric (number.I64 op.Sub) ∷ []
prim_list Mul = numeric (number.I64 op.Mul) ∷ []
prim_list Div = numeric (number.I64 op.DivS) ∷ []
prim_list Mod = numeric (number.I64 op.RemS) ∷ []
prim_list Eq = numeric (number.I64 op.Eq) ∷ numeric number.ExtendU ∷ []
prim_list Lt = numeric (number.I64 op.LtS) ∷ numeric number.ExtendU ∷ []
prim_list Le = numeric (number.I64 op.LeS) ∷ numeric number.ExtendU ∷ []

abbrev pub closure_list : ℕ → List Place → ℕ → List Instruction
closure_list k ps b = global_get 0 ∷ const_i64 k ∷ store store_op.I64 3 0
    ∷ (stores_list ps 1 b ++ address_list (8 * (length ps + 1)))

abbrev pub choice_list : Code → Code → List Instruction
choice_list x y = numeric number.Wrap ∷ cond (Some I64) x y ∷ []

-- the code of an expression
abbrev pub code_list : Ir → ℕ → ℕ → List Instruction
code_list (i.num n) b t = const_i64 (cast_unsigned w64 n) ∷ []
code_list (i.truth c) b t = const_i64 (truth_code c) ∷ []
code_list (i.get p) b t = place_list p b
code_list (i.closure k ps) b t = closure_list k ps b
code_list (i.app f a) b t = code_list f b t ++ (code_list a b t ++ apply_list t)
code_list (i.bind s d e) b t = code_list d b t ++ local_set (b + s) ∷ code_list e b t
code_list (i.cond c x y) b t = code_list c b t ++ choice_list (expression_code x b t end) (expression_code y b t end)
code_list (i.pair x y) b t = code_list x b t ++ (code_list y b t ++ pair_list t)
code_list (i.fst e) b t = code_list e b t ++ word_list 0
code_list (i.snd e) b t = code_list e b t ++ word_list 8
code_list (i.prim p x y) b t = code_list x b t ++ (code_list y b t ++ prim_list p)

-- the code at a tail place of a loop
abbrev pub tail_list : Ir → ℕ → ℕ → ℕ → List Instruction
tail_list (i.app f a) b t d = if is_own f then code_list a b t ++ local_set 1 ∷ br d ∷ [] else code_list f b t
    ++ (code_list a b t ++ apply_list t)
tail_list (i.bind s a e) b t d = code_list a b t ++ local_set (b + s) ∷ tail_list e b t d
tail_list (i.cond c x y) b t d = code_list c b t ++ choice_list (tail_code x b t (d + 1)) (tail_code y b t (d + 1))
tail_list e b t d = code_list e b t

-- slots and numbers of free variables so small that locals and offsets are numbers of 32 bits
abbrev pub IsShortPlace : Place → Type 0
IsShortPlace (Slot s) = s < 1000000
IsShortPlace (Free j) = j < 1000000
IsShortPlace _ = Unit {0}

abbrev pub IsShort : Ir → Type 0
IsShort (i.get p) = IsShortPlace p
IsShort (i.closure k ps) = (length ps < 1000000) × AllByRecursion IsShortPlace ps
IsShort (i.app f a) = IsShort f × IsShort a
IsShort (i.bind s d e) = (s < 1000000) × IsShort d × IsShort e
IsShort (i.cond c x y) = IsShort c × IsShort x × IsShort y
IsShort (i.pair x y) = IsShort x × IsShort y
IsShort (i.fst e) = IsShort e
IsShort (i.snd e) = IsShort e
IsShort (i.prim p x y) = IsShort x × IsShort y
IsShort _ = Unit {0}

-- functions of such code, with few slots and of little depth
abbrev pub AllShort : List IrFunc → Type 0
AllShort [] = Unit {0}
AllShort (f ∷ fs) = IsShort f.body × (f.slots ≤ 400) × (ir_depth f.body ≤ 400) × AllShort fs
