-- Fields that stand there are read.
use Rattle.std.proofs.Common.{◌≡◌, ℕ, suc, ◌-◌, ◌≤◌, ◌^◌, List, [], ◌∷◌, ◌++◌, length, map, refl, ap, arith, Bool, true}
use Rattle.std.proofs.Common.{false, Option, Some, None}
use Rattle.std.specs.Prelude.{codes}
use Rattle.mw_wasm.specs.declared.values.ValType.{ValType}
use Rattle.mw_wasm.specs.declared.values.ValType.TheVariants.{I32, I64}
use Rattle.mw_wasm.specs.declared.modules.Limits.{Limits}
use Rattle.mw_wasm.specs.declared.modules.FuncType.{FuncType}
use Rattle.mw_wasm.specs.declared.modules.Exported.{Exported}
use Rattle.mw_wasm.specs.declared.modules.Exported.TheVariants as what
use Rattle.mw_wasm.specs.Syntax.{Code, Function, Global, Exporting, ElementSegment, DataSegment}
use Rattle.mw_wasm.specs.Profile.{depth}
use Rattle.mw_wat.specs.Tokens.{PureToken}
use Rattle.mw_wat.specs.Tokens as t
use Rattle.mw_wat.specs.Names.{type_name}
use Rattle.mw_wat.specs.Lexemes.{Lexeme, left, right, word, number, name, octets, token_of, within, types_behind, code}
use Rattle.mw_wat.specs.Lexemes as lexemes
use Rattle.mw_wat.specs.Lexing.{Tokens, token}
use Rattle.mw_wat.specs.Reading.{got, Reader, ◌>>=◌, gives, count, some_of, all_of, as_type, types_and_close, if_opened}
use Rattle.mw_wat.specs.Reading.{closing}
use Rattle.mw_wat.specs.Instructions.{instructions, expression, whole}
use Rattle.mw_wat.specs.Modules.{function_type, function, table, memory, global, export, element, data_segment, offset}
use Rattle.mw_wat.specs.Modules.{some_locals, behind_params, params_then, element_behind, data_behind}
use Rattle.mw_wat.proofs.TokensStand.{Stands, here, there, parted, number_means, type_means, some_got, all_got}
use Rattle.mw_wat.proofs.TokensStand.{printable}
use Rattle.mw_wat.proofs.CodeIsRead.{Other, other, code_other, code_got, by_right, numbers_got, by_left}

-- what a parenthesis closes
record Closed (ts : Tokens) (xs : List Lexeme) (mid : Tokens) : Type 0 where
  at : ℕ
  front : Stands ts xs (token at t.right mid)

joined : {ts mid rest : Tokens} (xs : List Lexeme) {ys : List Lexeme} → Stands ts xs mid → Stands mid ys rest
    → Stands ts (xs ++ ys) rest
joined [] here b = b
joined {mid = mid} (_ ∷ xs) (there {ts = ts} r s) b = there r (joined {ts = ts} xs s b)

closed_by : {ts mid : Tokens} (xs : List Lexeme) → Stands ts (xs ++ right ∷ []) mid → Closed ts xs mid
closed_by [] (there {at = at} _ here) = record { at = at; front = here }
closed_by {mid = mid} (_ ∷ xs) (there {at = at} {i = i} {ts = ts} r s) = let c = closed_by {ts = ts} xs s in
    record { at = c.at; front = there r c.front }

pub expression_got : (c : Code) {ts mid : Tokens} → depth c ≤ 500 → Stands ts (code c ++ right ∷ []) mid
    → expression ts ≡ got c mid
unfolding instructions
expression_got c {ts = ts} d s = let q = closed_by (code c) s in
    rw (code_got c (suc (count ts)) 500 whole d (omega arith) q.front by_right) refl

abbrev type_word : ValType → Lexeme
type_word t = word (type_name t)

some_types : (n : ℕ) (xs : List ValType) {ts mid : Tokens} {at : ℕ} → length xs ≤ n → Stands ts (map type_word xs)
    (token at t.right mid) → some_of n as_type ts ≡ got xs (token at t.right mid)
some_types n xs p s = some_got as_type type_word (λ t _. type_means t) n xs p s refl

all_types : (xs : List ValType) {ts mid : Tokens} {at : ℕ} → Stands ts (map type_word xs) (token at t.right mid)
    → all_of as_type ts ≡ got xs (token at t.right mid)
all_types xs s = all_got as_type type_word (λ t _. type_means t) xs s refl

all_closed : (t : ValType) (xs : List ValType) {ts mid : Tokens} → Stands ts
    (map type_word (t ∷ xs) ++ right ∷ []) mid → types_and_close (all_of as_type) ts ≡ got (t ∷ xs) mid
all_closed t xs (there r s) = let q = closed_by (map type_word xs) s in rw (type_means t, all_types xs q.front) refl

some_closed : (t : ValType) (xs : List ValType) {ts mid : Tokens} → length xs ≤ 49_999 → Stands ts
    (map type_word (t ∷ xs) ++ right ∷ []) mid → types_and_close (some_of 49_999 as_type) ts ≡ got (t ∷ xs) mid
some_closed t xs p (there r s) = let q = closed_by (map type_word xs) s in
    rw (type_means t, some_types 49_999 xs p q.front) refl

-- types
abbrev pub type_tail : FuncType → List Lexeme
type_tail t = within
    (word (codes "func") ∷ types_behind (codes "param") t.params ++ types_behind (codes "result") t.results)
    ++ right ∷ []

type_ends : (ps rs : List ValType) {ts a b mid : Tokens} → length rs ≤ 1 → Stands ts
    (types_behind (codes "result") rs) a → Stands a (right ∷ []) b → Stands b (right ∷ []) mid
    → (params_then ps >>= λ t. closing >>= λ _. gives t) ts ≡ got (record { params = ps; results = rs }) mid
type_ends ps [] p here (there _ here) (there _ here) = refl
type_ends ps (I32 ∷ []) p (there _ (there _ (there _ (there _ here)))) (there _ here) (there _ here) = refl
type_ends ps (I64 ∷ []) p (there _ (there _ (there _ (there _ here)))) (there _ here) (there _ here) = refl
type_ends ps (r ∷ q ∷ rs) p s b c = absurd (omega arith)

type_behind : (x : ValType) (xs rs : List ValType) {ts mid : Tokens} → length rs ≤ 1 → Stands ts
    (map type_word (x ∷ xs) ++ right ∷ [] ++ types_behind (codes "result") rs ++ right ∷ [] ++ right ∷ []) mid
    → (behind_params >>= λ t. closing >>= λ _. gives t) ts ≡ got (record { params = x ∷ xs; results = rs }) mid
type_behind x xs rs p s =
    let m = map type_word (x ∷ xs) ++ right ∷ [] in
    let r = types_behind (codes "result") rs in
    let q1 = parted (m ++ r ++ right ∷ []) (right ∷ []) s in
    let q2 = parted (m ++ r) (right ∷ []) q1.front in
    let q3 = parted m r q2.front in
    rw (all_closed x xs q3.front) (type_ends (x ∷ xs) rs p q3.back q2.back q1.back)

type_of_lists : (ps rs : List ValType) {ts mid : Tokens} → length rs ≤ 1 → Stands ts
    (type_tail (record { params = ps; results = rs })) mid → function_type ts ≡ got
    (record { params = ps; results = rs }) mid
type_of_lists [] [] p (there _ (there _ (there _ (there _ here)))) = refl
type_of_lists [] (I32 ∷ []) p (there _ (there _ (there _ (there _ (there _ (there _ (there _ (there _ here)))))))) =
    refl
type_of_lists [] (I64 ∷ []) p (there _ (there _ (there _ (there _ (there _ (there _ (there _ (there _ here)))))))) =
    refl
type_of_lists [] (r ∷ q ∷ rs) p s = absurd (omega arith)
type_of_lists (x ∷ xs) rs p (there _ (there _ (there _ (there _ s)))) = type_behind x xs rs p s

pub type_got : (f : FuncType) {ts mid : Tokens} → length f.results ≤ 1 → Stands ts (type_tail f) mid
    → function_type ts ≡ got f mid
type_got f p s = type_of_lists f.params f.results p s

-- functions
abbrev pub function_tail : Function → List Lexeme
function_tail f = within (word (codes "type") ∷ number f.kind ∷ []) ++ types_behind (codes "local") f.locals
    ++ code f.body ++ right ∷ []

pub record FitsFunction (f : Function) : Type 0 where
  pub locals : length f.locals ≤ 50_000
  pub body : depth f.body ≤ 500

closing_other : {ts mid : Tokens} → Stands ts (right ∷ []) mid → Other ts
closing_other (there _ here) = other refl refl

locals_got : (ls : List ValType) {ts mid : Tokens} → length ls ≤ 50_000 → Stands ts
    (types_behind (codes "local") ls) mid → Other mid → if_opened some_locals (gives []) ts ≡ got ls mid
locals_got [] p here (other {at = at} {t = t} {rest = rest} e l) =
    ap (λ (r : Reader (List ValType)). r (token at t rest)) (by_left t l some_locals (gives []))
locals_got (x ∷ xs) p (there _ (there _ s)) o = some_closed x xs (omega arith) s

pub function_got : (f : Function) {ts mid : Tokens} → FitsFunction f → Stands ts (function_tail f) mid
    → function ts ≡ got f mid
function_got f fit (there _ (there _ (there r (there _ s)))) =
    let q = parted (types_behind (codes "local") f.locals ++ code f.body) (right ∷ []) s in
    let p = parted (types_behind (codes "local") f.locals) (code f.body) q.front in
    let o = code_other f.body p.back (closing_other q.back) in
    rw (
      number_means (2 ^ 32 - 1) f.kind
          (omega arith) r,
      locals_got f.locals fit.locals p.front o,
      expression_got f.body fit.body
          (joined (code f.body) p.back q.back),
    ) refl

-- tables and memories
abbrev pub table_tail : Limits → List Lexeme
table_tail l = lexemes.limits l ++ word (codes "funcref") ∷ [] ++ right ∷ []

abbrev pub memory_tail : Limits → List Lexeme
memory_tail l = lexemes.limits l ++ right ∷ []

table_of : (min : ℕ) (max : Option ℕ) {ts mid : Tokens} → min ≤ 100_000 → Stands ts
    (table_tail (record { min = min; max = max })) mid → table ts ≡ got (record { min = min; max = max }) mid
table_of min None p (there r (there _ (there _ here))) = rw (number_means 100_000 min p r) refl
table_of min (Some max) p (there r (there q (there _ (there _ here)))) =
    rw (number_means 100_000 min p r, number_means (2 ^ 32 - 1) max (omega arith) q) refl

pub table_got : (l : Limits) {ts mid : Tokens} → l.min ≤ 100_000 → Stands ts (table_tail l) mid → table ts ≡ got l mid
table_got l p s = table_of l.min l.max p s

memory_of : (min : ℕ) (max : Option ℕ) {ts mid : Tokens} → min ≤ 1_024 → Stands ts
    (memory_tail (record { min = min; max = max })) mid → memory ts ≡ got (record { min = min; max = max }) mid
memory_of min None p (there r (there _ here)) = rw (number_means 1_024 min p r) refl
memory_of min (Some max) p (there r (there q (there _ here))) =
    rw (number_means 1_024 min p r, number_means (2 ^ 32 - 1) max (omega arith) q) refl

pub memory_got : (l : Limits) {ts mid : Tokens} → l.min ≤ 1_024 → Stands ts (memory_tail l) mid
    → memory ts ≡ got l mid
memory_got l p s = memory_of l.min l.max p s

-- globals
abbrev pub global_tail : Global → List Lexeme
global_tail g = lexemes.global_type g.variable g.kind ++ code g.init ++ right ∷ []

global_of : (kind : ValType) (v : Bool) (c : Code) {ts mid : Tokens} → depth c ≤ 500 → Stands ts
    (global_tail (record { kind = kind; variable = v; init = c })) mid → global ts ≡ got
    (record { kind = kind; variable = v; init = c }) mid
global_of I32 false c d (there _ s) = rw (expression_got c d s) refl
global_of I64 false c d (there _ s) = rw (expression_got c d s) refl
global_of I32 true c d (there _ (there _ (there _ (there _ s)))) = rw (expression_got c d s) refl
global_of I64 true c d (there _ (there _ (there _ (there _ s)))) = rw (expression_got c d s) refl

pub global_got : (g : Global) {ts mid : Tokens} → depth g.init ≤ 500 → Stands ts (global_tail g) mid
    → global ts ≡ got g mid
global_got g d s = global_of g.kind g.variable g.init d s

-- exports
abbrev pub export_tail : Exporting → List Lexeme
export_tail e = name e.name ∷ within (lexemes.exported e.what) ++ right ∷ []

export_of : (n : List ℕ) (w : Exported) {ts mid : Tokens} → Stands ts
    (export_tail (record { name = n; what = w })) mid → export ts ≡ got (record { name = n; what = w }) mid
export_of n (what.Func x) (there p (there _ (there _ (there r (there _ (there _ here)))))) =
    rw (printable n p, number_means (2 ^ 32 - 1) x (omega arith) r) refl
export_of n (what.Table x) (there p (there _ (there _ (there r (there _ (there _ here)))))) =
    rw (printable n p, number_means (2 ^ 32 - 1) x (omega arith) r) refl
export_of n (what.Memory x) (there p (there _ (there _ (there r (there _ (there _ here)))))) =
    rw (printable n p, number_means (2 ^ 32 - 1) x (omega arith) r) refl
export_of n (what.Global x) (there p (there _ (there _ (there r (there _ (there _ here)))))) =
    rw (printable n p, number_means (2 ^ 32 - 1) x (omega arith) r) refl

pub export_got : (e : Exporting) {ts mid : Tokens} → Unit {0} → Stands ts (export_tail e) mid → export ts ≡ got e mid
export_got e u s = export_of e.name e.what s

-- segments
offset_got : (c : Code) (ys : List Lexeme) {ts mid : Tokens} → depth c ≤ 500 → Stands ts (lexemes.offset c ++ ys) mid
    → (m : Tokens) × (offset ts ≡ got c m) × Stands m ys mid
offset_got c ys d (there _ (there _ s)) = let q = parted (code c ++ right ∷ []) ys s in
    (q.mid, expression_got c d q.front, q.back)

abbrev pub element_tail : ElementSegment → List Lexeme
element_tail e = lexemes.offset e.offset ++ map number e.funcs ++ right ∷ []

element_end : (c : Code) (fs : List ℕ) {ts mid : Tokens} → Stands ts (map number fs ++ right ∷ []) mid
    → element_behind c ts ≡ got (record { offset = c; funcs = fs }) mid
element_end c fs s = let q = closed_by (map number fs) s in rw (numbers_got fs q.front refl) refl

pub element_got : (e : ElementSegment) {ts mid : Tokens} → depth e.offset ≤ 500 → Stands ts (element_tail e) mid
    → element ts ≡ got e mid
element_got e {ts = ts} {mid = mid} d s =
    let q = parted (lexemes.offset e.offset ++ map number e.funcs) (right ∷ []) s in
    let o = offset_got e.offset (map number e.funcs) d q.front in
    rw o.1 (element_end e.offset e.funcs (joined (map number e.funcs) o.2 q.back))

abbrev pub data_tail : DataSegment → List Lexeme
data_tail d = lexemes.offset d.offset ++ octets d.bytes ∷ [] ++ right ∷ []

data_end : (c : Code) (bytes : List ℕ) {ts mid : Tokens} → Stands ts (octets bytes ∷ right ∷ []) mid
    → data_behind c ts ≡ got (record { offset = c; bytes = bytes }) mid
data_end c bytes (there _ (there _ here)) = refl

pub data_got : (s : DataSegment) {ts mid : Tokens} → depth s.offset ≤ 500 → Stands ts (data_tail s) mid
    → data_segment ts ≡ got s mid
data_got e d s =
    let q = parted (lexemes.offset e.offset ++ octets e.bytes ∷ []) (right ∷ []) s in
    let o = offset_got e.offset (octets e.bytes ∷ []) d q.front in
    rw o.1 (data_end e.offset e.bytes (joined (octets e.bytes ∷ []) o.2 q.back))
