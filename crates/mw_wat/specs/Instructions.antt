-- Reading code. Room is the number of blocks that may still stand one in another.
use Rattle.std.specs.Prelude.{ℕ, zero, suc, ◌^◌, if◌then◌else◌, List, [], ◌∷◌, ◌++◌, map, codes, Option, Some, None}
use Rattle.std.specs.Prelude.{take, drop, length}
use Rattle.std.specs.Str.{bytes_eq}
use Rattle.std.specs.Map.{lookup}
use Rattle.std.specs.Int.{Width, w32, w64, cast_unsigned}
use Rattle.mw_wasm.specs.declared.values.ValType.{ValType}
use Rattle.mw_wasm.specs.declared.numbers.IntOp.{IntOp}
use Rattle.mw_wasm.specs.declared.numbers.IntOp.TheVariants as op
use Rattle.mw_wasm.specs.declared.numbers.NumOp.{NumOp}
use Rattle.mw_wasm.specs.declared.numbers.NumOp.TheVariants as num
use Rattle.mw_wasm.specs.declared.numbers.LoadOp.{LoadOp}
use Rattle.mw_wasm.specs.declared.numbers.LoadOp.TheVariants as load_op
use Rattle.mw_wasm.specs.declared.numbers.StoreOp.{StoreOp}
use Rattle.mw_wasm.specs.declared.numbers.StoreOp.TheVariants as store_op
use Rattle.mw_wasm.specs.Syntax as pure
use Rattle.mw_wasm.specs.Syntax.{Instruction, Code, unreachable, nop, block, loop, cond, br, br_if, br_table, give_back}
use Rattle.mw_wasm.specs.Syntax.{call, call_indirect, drop_value, select, local_get, local_set, local_tee, global_get}
use Rattle.mw_wasm.specs.Syntax.{global_set, load, store, memory_size, memory_grow, const_i32, const_i64, numeric, next}
use Rattle.mw_wat.specs.Tokens.{PureToken, right, word}
use Rattle.mw_key.specs.Numbers.{below, natural_of, integer_of}
use Rattle.mw_wat.specs.Names.{number_name, load_name, store_name}
use Rattle.mw_wat.specs.Reading.{bad, Reader, count, ◌>>=◌, gives, fails, peek, one_of, skip, this, opening, closing}
use Rattle.mw_wat.specs.Reading.{as_number, index, all_of, value_type, if_opened}
use Rattle.std.specs.Prelude.{ℤ, pos, negsuc, nat_lt, ◌-◌}
use mir.Val.{hbits}

-- the number with this signed reading
abbrev pub fits : Width → ℤ → Option ℕ
fits w (pos n) = if nat_lt n (2 ^ hbits w) then Some (cast_unsigned w (pos n)) else None
fits w (negsuc n) = if nat_lt n (2 ^ hbits w) then Some (cast_unsigned w (negsuc n)) else None

abbrev pub fits_some : Width → Option ℤ → Option ℕ
fits_some w None = None
fits_some w (Some z) = fits w z

abbrev pub as_constant : Width → PureToken → Option ℕ
as_constant w (word x) = fits_some w (integer_of x)
as_constant w _ = None

-- the number behind a key, in one word
abbrev pub as_keyed : List ℕ → PureToken → Option ℕ
as_keyed key (word x) = if bytes_eq (take (length key) x) key then below (2 ^ 32)
    (natural_of (drop (length key) x)) else None
as_keyed key _ = None

abbrev pub indexed : (ℕ → Instruction) → Reader Instruction
indexed i = do
  x ← index
  gives (i x)

abbrev pub at_address : (ℕ → ℕ → Instruction) → Reader Instruction
at_address i = do
  offset ← one_of (as_keyed (codes "offset="))
  align ← one_of (as_keyed (codes "exp="))
  gives (i align offset)

-- labels, the last of which is the default
abbrev pub table_behind : List ℕ → ℕ → List ℕ → Instruction
table_behind front l [] = br_table front l
table_behind front l (k ∷ ls) = table_behind (front ++ l ∷ []) k ls

abbrev pub labels : Reader Instruction
labels = do
  l ← index
  ls ← all_of (as_number (2 ^ 32 - 1))
  gives (table_behind [] l ls)

abbrev pub indirect : Reader Instruction
indirect = do
  _ ← opening
  _ ← this (codes "type")
  t ← index
  _ ← closing
  gives (call_indirect t)

-- what begins a list of instructions inside another
pub data Opener : Type 0 where
  a_block : Opener
  a_loop : Opener
  an_if : Opener

-- what a word means among instructions
pub data Meaning : Type 0 where
  ends : Meaning
  turns : Meaning
  opens : (o : Opener) → Meaning
  alone : (r : Reader Instruction) → Meaning

abbrev pub alone_words : List (List ℕ × Meaning)
alone_words =
    (codes "unreachable", alone (gives unreachable)) ∷ (codes "nop", alone (gives nop)) ∷
    (codes "return", alone (gives give_back)) ∷ (codes "drop", alone (gives drop_value)) ∷
    (codes "select", alone (gives select))
    ∷ (codes "memory.size", alone (gives memory_size)) ∷ (codes "memory.grow", alone (gives memory_grow))
    ∷ (codes "br", alone (indexed br)) ∷ (codes "br_if", alone (indexed br_if)) ∷ (codes "call", alone (indexed call))
    ∷ (codes "local.get", alone (indexed local_get)) ∷ (codes "local.set", alone (indexed local_set)) ∷
    (codes "local.tee", alone (indexed local_tee))
    ∷ (codes "global.get", alone (indexed global_get)) ∷ (codes "global.set", alone (indexed global_set))
    ∷ (codes "i32.const", alone (one_of (as_constant w32) >>= λ n. gives (const_i32 n))) ∷
    (codes "i64.const", alone (one_of (as_constant w64) >>= λ n. gives (const_i64 n)))
    ∷ (codes "br_table", alone labels) ∷ (codes "call_indirect", alone indirect)
    ∷ (codes "block", opens a_block) ∷ (codes "loop", opens a_loop) ∷ (codes "if", opens an_if) ∷
    (codes "else", turns) ∷ (codes "end", ends) ∷ []

abbrev pub operations : List IntOp
operations =
    op.Eqz ∷ op.Eq ∷ op.Ne ∷ op.LtS ∷ op.LtU ∷ op.GtS ∷ op.GtU ∷ op.LeS ∷ op.LeU ∷ op.GeS ∷ op.GeU ∷ op.Clz ∷ op.Ctz ∷
    op.Popcnt ∷ op.Add ∷ op.Sub ∷ op.Mul ∷ op.DivS ∷ op.DivU ∷ op.RemS ∷ op.RemU ∷ op.And ∷ op.Or ∷ op.Xor ∷
    op.Shl ∷ op.ShrS ∷ op.ShrU ∷ op.Rotl ∷ op.Rotr ∷ []

abbrev pub loads : List LoadOp
loads = load_op.I32 ∷ load_op.I64 ∷ load_op.I32S8 ∷ load_op.I32U8 ∷ load_op.I32S16 ∷ load_op.I32U16 ∷ load_op.I64S8 ∷
    load_op.I64U8 ∷ load_op.I64S16 ∷ load_op.I64U16 ∷ load_op.I64S32 ∷ load_op.I64U32 ∷ []

abbrev pub stores : List StoreOp
stores = store_op.I32 ∷ store_op.I64 ∷ store_op.I32To8 ∷ store_op.I32To16 ∷ store_op.I64To8 ∷ store_op.I64To16 ∷
    store_op.I64To32 ∷ []

abbrev pub numbers : List NumOp
numbers = map num.I32 operations ++ map num.I64 operations ++ num.Wrap ∷ num.ExtendS ∷ num.ExtendU ∷ []

abbrev pub number_words : List (List ℕ × Meaning)
number_words = map (λ o. (number_name o, alone (gives (numeric o)))) numbers

abbrev pub load_words : List (List ℕ × Meaning)
load_words = map (λ o. (load_name o, alone (at_address (load o)))) loads

abbrev pub store_words : List (List ℕ × Meaning)
store_words = map (λ o. (store_name o, alone (at_address (store o)))) stores

abbrev pub words : List (List ℕ × Meaning)
words = alone_words ++ number_words ++ load_words ++ store_words

unfoldable pub meaning : List ℕ → Option Meaning
meaning w = lookup (bytes_eq w) words

-- Where a list of instructions stands: what may end it, and a second list of an if before its first instruction.
pub data Place : Type 0 where
  whole : Place
  inner : Place
  first : Place
  fresh : Place

abbrev pub onward : Place → Place
onward fresh = inner
onward p = p

pub data Mark : Type 0 where
  closed : Mark
  ended : Mark
  turned : Mark

pub record Listed : Type 0 where
  pub code : Code
  pub mark : Mark

abbrev pub Lists : Type 0
Lists = (room : ℕ) (p : Place) → Reader Listed

abbrev pub nothing : Mark → Reader Listed
nothing m = skip (gives (record { code = pure.end; mark = m }))

abbrev pub ahead : Instruction → Listed → Listed
ahead i l = record { code = next i l.code; mark = l.mark }

abbrev pub result : Reader ValType
result = do
  _ ← this (codes "result")
  t ← value_type
  _ ← closing
  gives t

abbrev pub block_type : Reader (Option ValType)
block_type = if_opened (result >>= λ t. gives (Some t)) (gives None)

abbrev pub second : Lists → ℕ → Option ValType → Code → Mark → Reader Instruction
second lists room t a turned = lists room fresh >>= λ l. gives (cond t a l.code)
second lists room t a _ = gives (cond t a pure.end)

abbrev pub inside : Lists → ℕ → Opener → Option ValType → Reader Instruction
inside lists room a_block t = lists room inner >>= λ l. gives (block t l.code)
inside lists room a_loop t = lists room inner >>= λ l. gives (loop t l.code)
inside lists room an_if t = lists room first >>= λ l. second lists room t l.code l.mark

-- where there is no room the word itself is bad
abbrev pub opened : Lists → ℕ → Opener → Reader Instruction
opened lists zero o = fails
opened lists (suc room) o = skip (block_type >>= inside lists room o)

abbrev pub more : Lists → ℕ → Place → Instruction → Reader Listed
more lists room p i = lists room (onward p) >>= λ l. gives (ahead i l)

abbrev pub meant : Lists → ℕ → Place → Option Meaning → Reader Listed
meant lists room p None = fails
meant lists room inner (Some ends) = nothing ended
meant lists room first (Some ends) = nothing ended
meant lists room p (Some ends) = fails
meant lists room first (Some turns) = nothing turned
meant lists room p (Some turns) = fails
meant lists room p (Some (opens o)) = opened lists room o >>= more lists room p
meant lists room p (Some (alone r)) = skip r >>= more lists room p

abbrev pub by_token : Lists → ℕ → Place → PureToken → Reader Listed
by_token lists room whole right = nothing closed
by_token lists room p (word w) = meant lists room p (meaning w)
by_token lists room p _ = fails

abbrev pub listed : Lists → Lists
listed lists room p = peek (by_token lists room p)

abbrev pub within : ℕ → Lists
within zero room p ts = bad ts
within (suc n) room p ts = listed (λ room p ts. within n room p ts) room p ts

unfoldable pub instructions : Lists
instructions room p ts = within (suc (count ts)) room p ts

-- code up to a closing parenthesis; blocks may stand 500 deep
abbrev pub expression : Reader Code
expression = instructions 500 whole >>= λ l. gives l.code
