-- Code that stands there is read.
use Rattle.std.proofs.Common.{◌≡◌, ℕ, zero, suc, ◌-◌, ◌<◌, ◌≤◌, ◌^◌, List, [], ◌∷◌, ◌++◌, map, refl, ap, sym, ◌∙◌}
use Rattle.std.proofs.Common.{subst, arith, Bool, true, false, Option, Some, None, append_assoc, append-nil}
use Rattle.std.specs.Prelude.{codes}
use Rattle.std.proofs.lemmas.Bool.{false≢true}
use Rattle.std.specs.Int.{w32, w64}
use Rattle.mw_wasm.specs.declared.values.ValType.{ValType}
use Rattle.mw_wasm.specs.declared.values.ValType.TheVariants.{I32, I64}
use Rattle.mw_wasm.specs.declared.numbers.IntOp.{IntOp}
use Rattle.mw_wasm.specs.declared.numbers.IntOp.TheVariants as op
use Rattle.mw_wasm.specs.declared.numbers.NumOp.{NumOp}
use Rattle.mw_wasm.specs.declared.numbers.NumOp.TheVariants as num
use Rattle.mw_wasm.specs.declared.numbers.LoadOp.{LoadOp}
use Rattle.mw_wasm.specs.declared.numbers.LoadOp.TheVariants as load_op
use Rattle.mw_wasm.specs.declared.numbers.StoreOp.{StoreOp}
use Rattle.mw_wasm.specs.declared.numbers.StoreOp.TheVariants as store_op
use Rattle.mw_wasm.specs.Syntax as pure
use Rattle.mw_wasm.specs.Syntax.{Instruction, Code, unreachable, nop, block, loop, cond, br, br_if, br_table, give_back}
use Rattle.mw_wasm.specs.Syntax.{call, call_indirect, drop_value, select, local_get, local_set, local_tee, global_get}
use Rattle.mw_wasm.specs.Syntax.{global_set, load, store, memory_size, memory_grow, const_i32, const_i64, numeric, end}
use Rattle.mw_wasm.specs.Syntax.{next}
use Rattle.mw_wasm.specs.Profile.{depth, depth_of}
use Rattle.mw_wasm.specs.BinaryModules.{at_most_one}
use Rattle.mw_wat.specs.Tokens.{PureToken}
use Rattle.mw_wat.specs.Tokens as t
use Rattle.mw_wat.specs.Names.{number_name, load_name, store_name}
use Rattle.mw_wat.specs.Lexemes.{Lexeme, left, right, word, number, keyed, types_behind, instruction, code}
use Rattle.mw_wat.specs.Lexing.{Tokens, token}
use Rattle.mw_wat.specs.Reading.{got, Reader, ◌>>=◌, gives, one_of, count, all_of, as_number, if_left}
use Rattle.mw_wat.specs.Instructions.{Opener, as_constant, indexed, at_address, labels, table_behind}
use Rattle.mw_wat.specs.Instructions.{indirect, ends, opens, alone, a_block, a_loop, an_if, meaning}
use Rattle.mw_wat.specs.Instructions.{Place, whole, inner, first, fresh, onward, Mark, closed, ended, turned, Listed}
use Rattle.mw_wat.specs.Instructions.{Lists, more, block_type, inside, listed, instructions}
use Rattle.mw_wat.specs.Instructions as read
use Rattle.mw_wat.proofs.TokensStand.{Stands, here, there, parted, counted, number_means, constant_32, constant_64}
use Rattle.mw_wat.proofs.TokensStand.{offset_means, align_means, all_got}

-- the words
number_32 : (o : IntOp) → meaning (number_name (num.I32 o)) ≡ Some (alone (gives (numeric (num.I32 o))))
unfolding meaning
number_32 op.Eqz = refl
number_32 _ = refl

number_64 : (o : IntOp) → meaning (number_name (num.I64 o)) ≡ Some (alone (gives (numeric (num.I64 o))))
unfolding meaning
number_64 op.Eqz = refl
number_64 _ = refl

number_word : (o : NumOp) → meaning (number_name o) ≡ Some (alone (gives (numeric o)))
unfolding meaning
number_word (num.I32 o) = number_32 o
number_word (num.I64 o) = number_64 o
number_word _ = refl

load_word : (o : LoadOp) → meaning (load_name o) ≡ Some (alone (at_address (load o)))
unfolding meaning
load_word load_op.I32 = refl
load_word _ = refl

store_word : (o : StoreOp) → meaning (store_name o) ≡ Some (alone (at_address (store o)))
unfolding meaning
store_word store_op.I32 = refl
store_word _ = refl

-- what stands behind an instruction, an offset or locals: no number and no opening parenthesis
abbrev pub is_left : PureToken → Bool
is_left t.left = true
is_left _ = false

abbrev pub most : ℕ
most = 2 ^ 32 - 1

pub data Other : Tokens → Type 0 where
  other : {at : ℕ} {t : PureToken} {rest : Tokens} → as_number most t ≡ None → is_left t ≡ false → Other
      (token at t rest)

load_other : (o : LoadOp) → as_number most (t.word (load_name o)) ≡ None
load_other load_op.I32 = refl
load_other _ = refl

store_other : (o : StoreOp) → as_number most (t.word (store_name o)) ≡ None
store_other store_op.I32 = refl
store_other _ = refl

number_other : (o : NumOp) → as_number most (t.word (number_name o)) ≡ None
number_other (num.I32 o) = refl
number_other _ = refl

-- an instruction begins with its name
record Named (i : Instruction) : Type 0 where
  name : List ℕ
  behind : List Lexeme
  lexemes_are : instruction i ≡ word name ∷ behind
  no_number : as_number most (t.word name) ≡ None

named : (i : Instruction) → Named i
named (load o align offset) = record { name = _; behind = _; lexemes_are = refl; no_number = load_other o }
named (store o align offset) = record { name = _; behind = _; lexemes_are = refl; no_number = store_other o }
named (numeric o) = record { name = _; behind = _; lexemes_are = refl; no_number = number_other o }
named _ = record { name = _; behind = _; lexemes_are = refl; no_number = refl }

begins_word : {ts rest : Tokens} (w : List ℕ) (xs : List Lexeme) → as_number most (t.word w) ≡ None → Stands ts
    (word w ∷ xs) rest → Other ts
begins_word w xs e (there r s) = other e refl

pub code_other : {ts mid : Tokens} (c : Code) → Stands ts (code c) mid → Other mid → Other ts
code_other end here o = o
code_other {ts = ts} (next i c) s o =
    let p = parted (instruction i) (code c) s in
    let n = named i in
    begins_word n.name n.behind n.no_number (subst (λ xs. Stands ts xs p.mid) n.lexemes_are p.front)

shorter : {ts mid : Tokens} (i : Instruction) → Stands ts (instruction i) mid → count mid < count ts
shorter {ts = ts} {mid = mid} i s =
    let n = named i in
    omega (arith, counted (word n.name ∷ n.behind) (subst (λ xs. Stands ts xs mid) n.lexemes_are s))

-- single instructions
addressed_got : (i : ℕ → ℕ → Instruction) (align offset : ℕ) {ts mid : Tokens} → Stands ts
    (keyed (codes "offset=") offset ∷ keyed (codes "exp=") align ∷ []) mid → at_address i ts ≡ got
    (i align offset) mid
addressed_got i align offset (there p (there q here)) = rw (offset_means offset p, align_means align q) refl

indexed_got : (i : ℕ → Instruction) (x : ℕ) {ts mid : Tokens} → Stands ts (number x ∷ []) mid → indexed i ts ≡ got
    (i x) mid
indexed_got i x (there r here) = rw (number_means most x (omega arith) r) refl

table_is : (front : List ℕ) (k : ℕ) (ls : List ℕ) (l : ℕ) → table_behind front k (ls ++ l ∷ []) ≡ br_table
    (front ++ k ∷ ls) l
table_is front k [] l = refl
table_is front k (m ∷ ls) l = table_is (front ++ k ∷ []) m ls l ∙ ap (λ f. br_table f l)
    (append_assoc front (k ∷ []) (m ∷ ls))

pub numbers_got : (xs : List ℕ) {ts : Tokens} {at : ℕ} {t : PureToken} {rest : Tokens} → Stands ts (map number xs)
    (token at t rest) → as_number most t ≡ None → all_of (as_number most) ts ≡ got xs (token at t rest)
numbers_got xs s e = all_got (as_number most) number (λ n r. number_means most n (omega arith) r) xs s e

numbers_before : (xs : List ℕ) {ts mid : Tokens} → Stands ts (map number xs) mid → Other mid → all_of
    (as_number most) ts ≡ got xs mid
numbers_before xs s (other e l) = numbers_got xs s e

one_behind : (xs : List ℕ) (x : ℕ) → map number xs ++ number x ∷ [] ≡ map number (xs ++ x ∷ [])
one_behind [] x = refl
one_behind (y ∷ xs) x = ap (λ r. number y ∷ r) (one_behind xs x)

labels_got : (ls : List ℕ) (l : ℕ) {ts mid : Tokens} → Stands ts (map number ls ++ number l ∷ []) mid → Other mid
    → labels ts ≡ got (br_table ls l) mid
labels_got [] l (there r s) o = rw (number_means most l (omega arith) r, numbers_before [] s o) refl
labels_got (k ∷ ls) l {mid = mid} (there {ts = ts} r s) o =
    rw (
      number_means most k (omega arith) r,
      numbers_before (ls ++ l ∷ [])
          (subst (λ xs. Stands ts xs mid) (one_behind ls l) s) o,
    ) (ap (λ i. got i mid) (table_is [] k ls l))

indirect_got : (k : ℕ) {ts mid : Tokens} → Stands ts (left ∷ word (codes "type") ∷ number k ∷ right ∷ []) mid
    → indirect ts ≡ got (call_indirect k) mid
indirect_got k (there _ (there _ (there r (there _ here)))) = rw (number_means most k (omega arith) r) refl

pub by_left : (t : PureToken) → is_left t ≡ false → {A : Type 0} (r q : Reader A) → if_left r q t ≡ q
by_left t.left e r q = absurd (false≢true (sym e))
by_left _ e r q = refl

block_type_got : (o : Option ValType) {ts mid : Tokens} → Stands ts
    (types_behind (codes "result") (at_most_one o)) mid → Other mid → block_type ts ≡ got o mid
block_type_got None here (other {at = at} {t = t} {rest = rest} e l) =
    ap (λ (r : Reader (Option ValType)). r (token at t rest))
    (by_left t l (read.result >>= λ t. gives (Some t)) (gives None))
block_type_got (Some I32) (there _ (there _ (there _ (there _ here)))) o = refl
block_type_got (Some I64) (there _ (there _ (there _ (there _ here)))) o = refl

-- where a list ends
pub data Ends : Place → Tokens → Mark → Tokens → Type 0 where
  by_right : {at : ℕ} {rest : Tokens} → Ends whole (token at t.right rest) closed rest
  by_end : {at : ℕ} {rest : Tokens} → Ends inner (token at (t.word (codes "end")) rest) ended rest
  first_end : {at : ℕ} {rest : Tokens} → Ends first (token at (t.word (codes "end")) rest) ended rest
  by_else : {at : ℕ} {rest : Tokens} → Ends first (token at (t.word (codes "else")) rest) turned rest

ends_other : {p : Place} {ts rest : Tokens} {m : Mark} → Ends p ts m rest → Other ts
ends_other by_right = other refl refl
ends_other _ = other refl refl

goes_on : {p : Place} {ts rest : Tokens} {m : Mark} → Ends p ts m rest → onward p ≡ p
goes_on by_right = refl
goes_on _ = refl

abbrev pub list_of : Code → Mark → Listed
list_of c m = record { code = c; mark = m }

nothing_left : (L : Lists) (room : ℕ) {p : Place} {ts rest : Tokens} {m : Mark} → Ends p ts m rest
    → listed L room p ts ≡ got (record { code = pure.end; mark = m }) rest
unfolding meaning
nothing_left L room by_right = refl
nothing_left L room _ = refl

-- a word of one instruction
alone_got : (L : Lists) (room : ℕ) (p : Place) (w : List ℕ) (r : Reader Instruction) (i : Instruction) (at : ℕ)
    (ts : Tokens) {mid : Tokens} → meaning w ≡ Some (alone r) → r ts ≡ got i mid
    → listed L room p (token at (t.word w) ts) ≡ more L room p i mid
alone_got L room whole w r i at ts e f = rw (e, f) refl
alone_got L room _ w r i at ts e f = rw (e, f) refl

opener_got : (L : Lists) (room : ℕ) (p : Place) (w : List ℕ) (o : Opener) (i : Instruction) (at : ℕ)
    (ts : Tokens) {mid : Tokens} → meaning w ≡ Some (opens o) → (block_type >>= inside L room o) ts ≡ got i mid
    → listed L (suc room) p (token at (t.word w) ts) ≡ more L (suc room) p i mid
opener_got L room whole w o i at ts e f = rw (e, f) refl
opener_got L room _ w o i at ts e f = rw (e, f) refl

ends_it : {ts mid : Tokens} → Stands ts (word (codes "end") ∷ []) mid → Ends inner ts ended mid
ends_it (there _ here) = by_end

ends_first : {ts mid : Tokens} → Stands ts (word (codes "end") ∷ []) mid → Ends first ts ended mid
ends_first (there _ here) = first_end

less : {ts mid : Tokens} (xs : List Lexeme) → Stands ts xs mid → count mid ≤ count ts
less xs s = omega (arith, counted xs s)

record BehindElse (ts : Tokens) (xs : List Lexeme) (mid : Tokens) : Type 0 where
  rest : Tokens
  ends : Ends first ts turned rest
  back : Stands rest xs mid
  shorter : count rest < count ts

behind_else : {ts mid : Tokens} (xs : List Lexeme) → Stands ts (word (codes "else") ∷ xs) mid → BehindElse ts xs mid
behind_else xs (there {ts = ts} _ s) = record { rest = ts; ends = by_else; back = s; shorter = omega arith }

mutual
  unfolding meaning

  pub instruction_got : (i : Instruction) (n room : ℕ) (p : Place) {ts mid : Tokens} → depth_of i ≤ room
      → count ts ≤ n → Stands ts (instruction i) mid → Other mid → listed (read.within n) room p ts ≡ more
      (read.within n) room p i mid
  instruction_got unreachable n room p d f (there {at = at} {ts = ts} _ here) o = alone_got (read.within n) room p
      (codes "unreachable") (gives unreachable) unreachable at ts refl refl
  instruction_got nop n room p d f (there {at = at} {ts = ts} _ here) o = alone_got (read.within n) room p
      (codes "nop") (gives nop) nop at ts refl refl
  instruction_got give_back n room p d f (there {at = at} {ts = ts} _ here) o = alone_got (read.within n) room p
      (codes "return") (gives give_back) give_back at ts refl refl
  instruction_got drop_value n room p d f (there {at = at} {ts = ts} _ here) o = alone_got (read.within n) room p
      (codes "drop") (gives drop_value) drop_value at ts refl refl
  instruction_got select n room p d f (there {at = at} {ts = ts} _ here) o = alone_got (read.within n) room p
      (codes "select") (gives select) select at ts refl refl
  instruction_got memory_size n room p d f (there {at = at} {ts = ts} _ here) o = alone_got (read.within n) room p
      (codes "memory.size") (gives memory_size) memory_size at ts refl refl
  instruction_got memory_grow n room p d f (there {at = at} {ts = ts} _ here) o = alone_got (read.within n) room p
      (codes "memory.grow") (gives memory_grow) memory_grow at ts refl refl
  instruction_got (br x) n room p d f (there {at = at} {ts = ts} _ s) o = alone_got (read.within n) room p
      (codes "br") (indexed br) (br x) at ts refl (indexed_got br x s)
  instruction_got (br_if x) n room p d f (there {at = at} {ts = ts} _ s) o = alone_got (read.within n) room p
      (codes "br_if") (indexed br_if) (br_if x) at ts refl (indexed_got br_if x s)
  instruction_got (call x) n room p d f (there {at = at} {ts = ts} _ s) o = alone_got (read.within n) room p
      (codes "call") (indexed call) (call x) at ts refl (indexed_got call x s)
  instruction_got (local_get x) n room p d f (there {at = at} {ts = ts} _ s) o = alone_got (read.within n) room p
      (codes "local.get") (indexed local_get) (local_get x) at ts refl (indexed_got local_get x s)
  instruction_got (local_set x) n room p d f (there {at = at} {ts = ts} _ s) o = alone_got (read.within n) room p
      (codes "local.set") (indexed local_set) (local_set x) at ts refl (indexed_got local_set x s)
  instruction_got (local_tee x) n room p d f (there {at = at} {ts = ts} _ s) o = alone_got (read.within n) room p
      (codes "local.tee") (indexed local_tee) (local_tee x) at ts refl (indexed_got local_tee x s)
  instruction_got (global_get x) n room p d f (there {at = at} {ts = ts} _ s) o = alone_got (read.within n) room p
      (codes "global.get") (indexed global_get) (global_get x) at ts refl (indexed_got global_get x s)
  instruction_got (global_set x) n room p d f (there {at = at} {ts = ts} _ s) o = alone_got (read.within n) room p
      (codes "global.set") (indexed global_set) (global_set x) at ts refl (indexed_got global_set x s)
  instruction_got (br_table ls l) n room p d f (there {at = at} {ts = ts} _ s) o = alone_got (read.within n) room p
      (codes "br_table") labels (br_table ls l) at ts refl (labels_got ls l s o)
  instruction_got (call_indirect k) n room p d f (there {at = at} {ts = ts} _ s) o = alone_got (read.within n) room p
      (codes "call_indirect") indirect (call_indirect k) at ts refl (indirect_got k s)
  instruction_got (load a align offset) n room p d f (there {at = at} {ts = ts} _ s) o = alone_got
      (read.within n) room p (load_name a) (at_address (load a)) (load a align offset) at ts (load_word a)
      (addressed_got (load a) align offset s)
  instruction_got (store a align offset) n room p d f (there {at = at} {ts = ts} _ s) o = alone_got
      (read.within n) room p (store_name a) (at_address (store a)) (store a align offset) at ts (store_word a)
      (addressed_got (store a) align offset s)
  instruction_got (const_i32 k) n room p d f (there {at = at} {ts = ts} _ (there r here)) o =
      alone_got (read.within n) room p (codes "i32.const") (one_of (as_constant w32) >>= λ n. gives (const_i32 n))
      (const_i32 k) at ts refl (rw (constant_32 k r) refl)
  instruction_got (const_i64 k) n room p d f (there {at = at} {ts = ts} _ (there r here)) o =
      alone_got (read.within n) room p (codes "i64.const") (one_of (as_constant w64) >>= λ n. gives (const_i64 n))
      (const_i64 k) at ts refl (rw (constant_64 k r) refl)
  instruction_got (numeric a) n room p d f (there {at = at} {ts = ts} _ here) o = alone_got (read.within n) room p
      (number_name a) (gives (numeric a)) (numeric a) at ts (number_word a) refl
  instruction_got (block t body) n zero p d f s o = absurd (omega arith)
  instruction_got (block t body) n (suc room) p d f (there {at = at} {ts = ts} _ s) o =
      let q = parted (types_behind (codes "result") (at_most_one t) ++ code body) (word (codes "end") ∷ []) s in
      let r = parted (types_behind (codes "result") (at_most_one t)) (code body) q.front in
      let e = ends_it q.back in
      opener_got (read.within n) room p (codes "block") a_block (block t body) at ts refl
      (rw (
        block_type_got t r.front (code_other body r.back (ends_other e)),
        code_got body n room inner (omega arith)
            (omega (arith, less (types_behind (codes "result") (at_most_one t)) r.front)) r.back e,
      ) refl)
  instruction_got (loop t body) n zero p d f s o = absurd (omega arith)
  instruction_got (loop t body) n (suc room) p d f (there {at = at} {ts = ts} _ s) o =
      let q = parted (types_behind (codes "result") (at_most_one t) ++ code body) (word (codes "end") ∷ []) s in
      let r = parted (types_behind (codes "result") (at_most_one t)) (code body) q.front in
      let e = ends_it q.back in
      opener_got (read.within n) room p (codes "loop") a_loop (loop t body) at ts refl
      (rw (
        block_type_got t r.front (code_other body r.back (ends_other e)),
        code_got body n room inner (omega arith)
            (omega (arith, less (types_behind (codes "result") (at_most_one t)) r.front)) r.back e,
      ) refl)
  instruction_got (cond t a b) n zero p d f s o = absurd (omega arith)
  instruction_got (cond t a end) n (suc room) p d f (there {at = at} {ts = ts} _ s) o =
      let types = types_behind (codes "result") (at_most_one t) in
      let q = parted (types ++ code a ++ []) (word (codes "end") ∷ []) s in
      let r = parted types (code a) (subst (λ xs. Stands ts xs q.mid) (append-nil (types ++ code a)) q.front) in
      let e = ends_first q.back in
      opener_got (read.within n) room p (codes "if") an_if (cond t a end) at ts refl
      (rw (
        block_type_got t r.front (code_other a r.back (ends_other e)),
        code_got a n room first (omega arith)
            (omega (arith, less types r.front)) r.back e,
      ) refl)
  instruction_got (cond t a (next i c)) zero (suc room) p d f (there _ s) o = absurd (omega arith)
  instruction_got (cond t a (next i c)) (suc n) (suc room) p d f (there {at = at} {ts = ts} _ s) o =
      let types = types_behind (codes "result") (at_most_one t) in
      let q = parted (types ++ code a ++ (word (codes "else") ∷ instruction i ++ code c))
      (word (codes "end") ∷ []) s in
      let r = parted (types ++ code a) (word (codes "else") ∷ instruction i ++ code c) q.front in
      let h = parted types (code a) r.front in
      let b = behind_else (instruction i ++ code c) r.back in
      let k = parted (instruction i) (code c) b.back in
      let e = ends_it q.back in
      let small : count b.rest < suc n = omega (arith, less (types ++ code a) r.front, b.shorter) in
      opener_got (read.within (suc n)) room p (codes "if") an_if (cond t a (next i c)) at ts refl
      (rw (
        block_type_got t h.front (code_other a h.back (ends_other b.ends)),
        code_got a (suc n) room first
            (omega arith) (omega (arith, less types h.front)) h.back b.ends,
      )
      (rw (
        instruction_got i n room fresh (omega arith) (omega arith) k.front
            (code_other c k.back (ends_other e)),
        code_got c n room inner (omega arith)
            (omega (arith, shorter i k.front)) k.back e,
      ) refl))

  pub code_got : (c : Code) (n room : ℕ) (p : Place) {ts mid rest : Tokens} {m : Mark} → depth c ≤ room → count ts < n
      → Stands ts (code c) mid → Ends p mid m rest → read.within n room p ts ≡ got (list_of c m) rest
  code_got c zero room p d f s e = absurd (omega arith)
  code_got end (suc n) room p d f here e = nothing_left (read.within n) room e
  code_got (next i c) (suc n) room p {ts = ts} {mid = mid} {rest = rest} {m = m} d f s e =
      let q = parted (instruction i) (code c) s in
      instruction_got i n room p (omega arith) (omega arith) q.front (code_other c q.back (ends_other e))
      ∙ rw (goes_on e, code_got c n room p (omega arith) (omega (arith, shorter i q.front)) q.back e) refl
