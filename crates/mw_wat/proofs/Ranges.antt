-- A module that bytes spell has its numbers in range.
use Rattle.std.proofs.Common.{◌≡◌, inl, inr, ℕ, ◌<◌, ◌^◌, List, [], ◌∷◌, ◌++◌, map, sym, subst, arith, Bool, true}
use Rattle.std.proofs.Common.{false, Option, Some, None}
use Rattle.std.specs.Prelude.{codes}
use Rattle.std.specs.List.{AllByRecursion, flat_map}
use Rattle.mw_wasm.specs.declared.values.ValType.{ValType}
use Rattle.mw_wasm.specs.declared.modules.Limits.{Limits}
use Rattle.mw_wasm.specs.declared.modules.FuncType.{FuncType}
use Rattle.mw_wasm.specs.declared.modules.Exported.{Exported}
use Rattle.mw_wasm.specs.declared.modules.Exported.TheVariants as what
use Rattle.mw_wasm.specs.Syntax.{Instruction, Code, block, loop, cond, br, br_if, br_table}
use Rattle.mw_wasm.specs.Syntax.{call, call_indirect, local_get, local_set, local_tee, global_get}
use Rattle.mw_wasm.specs.Syntax.{global_set, load, store, const_i32, const_i64, end}
use Rattle.mw_wasm.specs.Syntax.{next, Function, Global, Exporting, ElementSegment, DataSegment, PureModule}
use Rattle.mw_wasm.specs.Pieces.{Piece, items, octet, u32}
use Rattle.mw_wasm.specs.BinaryInstructions as binary
use Rattle.mw_wasm.specs.BinaryModules as binary_modules
use Rattle.mw_wasm.specs.BinaryModules.{at_most_one, section, Spells}
use Rattle.mw_wasm.specs.Profile.{IsPrintable, IsWithinProfile}
use Rattle.mw_wasm.proofs.FormatNumbers.{unsigned_fits, integer_fits}
use Rattle.mw_wat.specs.Names.{type_name}
use Rattle.mw_wat.specs.Lexemes.{Lexeme, right, word, number, octets, IsInRange, within, types_behind, instruction}
use Rattle.mw_wat.specs.Lexemes.{code, otherwise, function_type, function, limits, table, memory, global_type, global}
use Rattle.mw_wat.specs.Lexemes.{exported, export, offset, element, data_segment, fields, lines}
use Rattle.mw_wat.specs.ModuleTexts.{HasTexts}
use Rattle.mw_wat.proofs.MeaningsOfWords.{both as both_of}
use Rattle.mw_wat.proofs.FieldsOfModules.{fields_hold}

abbrev AreInRange : List Lexeme → Type 0
AreInRange is = AllByRecursion IsInRange is

both : (xs ys : List Lexeme) → AreInRange xs → AreInRange ys → AreInRange (xs ++ ys)
both [] ys a b = b
both (x ∷ xs) ys a b = (a.0, both xs ys a.1 b)

inside : (xs : List Lexeme) → AreInRange xs → AreInRange (within xs)
inside xs a = (tt, both xs (right ∷ []) a (tt, tt))

names_fit : (ts : List ValType) → AreInRange (map (λ t. word (type_name t)) ts)
names_fit [] = tt
names_fit (t ∷ ts) = (tt, names_fit ts)

types_fit : (w : List ℕ) (ts : List ValType) → AreInRange (types_behind w ts)
types_fit w [] = tt
types_fit w (t ∷ ts) = inside (word w ∷ map (λ t. word (type_name t)) (t ∷ ts)) (tt, names_fit (t ∷ ts))

index_fits : (n : ℕ) (bytes : List ℕ) → u32 n bytes → n < 2 ^ 32
index_fits n bytes p = unsigned_fits 32 bytes n p

numbers_fit : (ns : List ℕ) (bytes : List ℕ) → items u32 ns bytes → AreInRange (map number ns)
numbers_fit [] bytes p = tt
numbers_fit (n ∷ ns) bytes p = (index_fits n p.front p.first, numbers_fit ns p.back p.second)

octets_fit : (bs : List ℕ) (bytes : List ℕ) → items octet bs bytes → AllByRecursion (λ b. b < 2 ^ 8) bs
octets_fit [] bytes p = tt
octets_fit (b ∷ bs) bytes p = (p.first.0, octets_fit bs p.back p.second)

-- code
else_fits : (c : Code) → AreInRange (code c) → AreInRange (otherwise c)
else_fits end a = tt
else_fits (next i c) a = (tt, a)

no_else : (c : Code) → c ≡ end → AreInRange (otherwise c)
no_else c e = subst (λ c. AreInRange (otherwise c)) (sym e) tt

result_fits : (t : Option ValType) → AreInRange (types_behind (codes "result") (at_most_one t))
result_fits t = types_fit (codes "result") (at_most_one t)

list_fits : (t : Option ValType) (c : Code) → AreInRange (code c) → AreInRange
    (types_behind (codes "result") (at_most_one t) ++ code c)
list_fits t c a = both (types_behind (codes "result") (at_most_one t)) (code c) (result_fits t) a

mutual
  instruction_fits : (i : Instruction) (bytes : List ℕ) → binary.instruction i bytes → AreInRange (instruction i)
  instruction_fits (block t body) bytes p = (
    tt,
    both (types_behind (codes "result") (at_most_one t) ++ code body) (word (codes "end") ∷ [])
        (list_fits t body (code_fits body p.second.second.front p.second.second.first)) (tt, tt),
  )
  instruction_fits (loop t body) bytes p = (
    tt,
    both (types_behind (codes "result") (at_most_one t) ++ code body) (word (codes "end") ∷ [])
        (list_fits t body (code_fits body p.second.second.front p.second.second.first)) (tt, tt),
  )
  instruction_fits (cond t a b) bytes p =
      let first = list_fits t a (code_fits a p.second.second.front p.second.second.first) in
      let second : AreInRange (otherwise b) = elim p.second.second.second [
        | inl q ↦ no_else b q.0
        | inr q ↦ else_fits b (code_fits b q.second.front q.second.first)
      ] in (
        tt,
        both (types_behind (codes "result") (at_most_one t) ++ code a ++ otherwise b) (word (codes "end") ∷ [])
            (both (types_behind (codes "result") (at_most_one t) ++ code a) (otherwise b) first second) (tt, tt),
      )
  instruction_fits (br l) bytes p = (tt, (index_fits l p.back p.second, tt))
  instruction_fits (br_if l) bytes p = (tt, (index_fits l p.back p.second, tt))
  instruction_fits (br_table ls l) bytes p = (
    tt,
    both (map number ls) (number l ∷ []) (numbers_fit ls p.second.first.back p.second.first.second)
        (index_fits l p.second.back p.second.second, tt),
  )
  instruction_fits (call f) bytes p = (tt, (index_fits f p.back p.second, tt))
  instruction_fits (call_indirect t) bytes p =
      (tt, (tt, (tt, (index_fits t p.second.front p.second.first, (tt, tt)))))
  instruction_fits (local_get x) bytes p = (tt, (index_fits x p.back p.second, tt))
  instruction_fits (local_set x) bytes p = (tt, (index_fits x p.back p.second, tt))
  instruction_fits (local_tee x) bytes p = (tt, (index_fits x p.back p.second, tt))
  instruction_fits (global_get x) bytes p = (tt, (index_fits x p.back p.second, tt))
  instruction_fits (global_set x) bytes p = (tt, (index_fits x p.back p.second, tt))
  instruction_fits (load o align offset) bytes p =
      (tt, (index_fits offset p.second.back p.second.second, (index_fits align p.second.front p.second.first, tt)))
  instruction_fits (store o align offset) bytes p =
      (tt, (index_fits offset p.second.back p.second.second, (index_fits align p.second.front p.second.first, tt)))
  instruction_fits (const_i32 n) bytes p = (tt, (integer_fits 32 p.back n (omega arith) p.second, tt))
  instruction_fits (const_i64 n) bytes p = (tt, (integer_fits 64 p.back n (omega arith) p.second, tt))
  instruction_fits _ bytes p = (tt, tt)

  code_fits : (c : Code) (bytes : List ℕ) → binary.code c bytes → AreInRange (code c)
  code_fits end bytes p = tt
  code_fits (next i c) bytes p = both (instruction i) (code c) (instruction_fits i p.front p.first)
      (code_fits c p.back p.second)

-- fields
module _ {A : Type 0} (P : A → Piece) (R : A → Type 0) (fits : (x : A) (bytes : List ℕ) → P x bytes → R x) where
  items_fit : (xs : List A) (bytes : List ℕ) → items P xs bytes → AllByRecursion R xs
  items_fit [] bytes p = tt
  items_fit (x ∷ xs) bytes p = (fits x p.front p.first, items_fit xs p.back p.second)

  section_fits : (id : ℕ) (xs : List A) (bytes : List ℕ) → section id P xs bytes → AllByRecursion R xs
  section_fits id xs bytes (inl q) = subst (AllByRecursion R) (sym q.0) tt
  section_fits id xs bytes (inr q) = items_fit xs q.second.inside.back q.second.inside.second

type_fits : (t : FuncType) → AreInRange (function_type t)
type_fits t =
    let lists = both (types_behind (codes "param") t.params) (types_behind (codes "result") t.results)
    (types_fit (codes "param") t.params) (types_fit (codes "result") t.results) in (
      tt,
      (
        tt,
        both
            (within (word (codes "func") ∷ types_behind (codes "param") t.params ++ types_behind
            (codes "result") t.results)) (right ∷ [])
            (inside (word (codes "func") ∷ types_behind (codes "param") t.params ++ types_behind
            (codes "result") t.results) (tt, lists)) (tt, tt),
      ),
    )

function_fits : (f : Function) → f.kind < 2 ^ 32 → AreInRange (code f.body) → AreInRange (function f)
function_fits f k b =
    let lists = both (types_behind (codes "local") f.locals) (code f.body) (types_fit (codes "local") f.locals) b in
    let all = both (types_behind (codes "local") f.locals ++ code f.body) (right ∷ []) lists (tt, tt) in
    (tt, (tt, (tt, (tt, (k, (tt, all))))))

functions_fit : (fs : List Function) → AllByRecursion (λ f. f.kind < 2 ^ 32) fs → AllByRecursion
    (λ f. AreInRange (code f.body)) fs → AllByRecursion (λ f. AreInRange (function f)) fs
functions_fit [] k b = tt
functions_fit (f ∷ fs) k b = (function_fits f k.0 b.0, functions_fit fs k.1 b.1)

bounds_fit : (min : ℕ) (max : Option ℕ) (bytes : List ℕ) → binary_modules.limits_of min max bytes → AreInRange
    (number min ∷ map number (at_most_one max))
bounds_fit min None bytes p = (index_fits min p.back p.second, tt)
bounds_fit min (Some max) bytes p =
    (index_fits min p.second.front p.second.first, (index_fits max p.second.back p.second.second, tt))

table_fits : (l : Limits) (bytes : List ℕ) → binary_modules.table l bytes → AreInRange (table l)
table_fits l bytes p =
    let front = both (limits l) (word (codes "funcref") ∷ []) (bounds_fit l.min l.max p.back p.second) (tt, tt) in
    (tt, (tt, both (limits l ++ word (codes "funcref") ∷ []) (right ∷ []) front (tt, tt)))

memory_fits : (l : Limits) (bytes : List ℕ) → binary_modules.limits l bytes → AreInRange (memory l)
memory_fits l bytes p = (tt, (tt, both (limits l) (right ∷ []) (bounds_fit l.min l.max bytes p) (tt, tt)))

global_type_fits : (v : Bool) (t : ValType) → AreInRange (global_type v t)
global_type_fits false t = (tt, tt)
global_type_fits true t = (tt, (tt, (tt, (tt, tt))))

global_fits : (g : Global) (bytes : List ℕ) → binary_modules.global g bytes → AreInRange (global g)
global_fits g bytes p =
    let init = code_fits g.init p.second.second.front p.second.second.first in
    let kind = global_type g.variable g.kind in
    let front = both kind (code g.init) (global_type_fits g.variable g.kind) init in
    (tt, (tt, both (kind ++ code g.init) (right ∷ []) front (tt, tt)))

exported_fits : (e : Exported) (bytes : List ℕ) → binary_modules.exported e bytes → AreInRange (exported e)
exported_fits (what.Func x) bytes p = (tt, (index_fits x p.back p.second, tt))
exported_fits (what.Table x) bytes p = (tt, (index_fits x p.back p.second, tt))
exported_fits (what.Memory x) bytes p = (tt, (index_fits x p.back p.second, tt))
exported_fits (what.Global x) bytes p = (tt, (index_fits x p.back p.second, tt))

export_fits : (e : Exporting) → AllByRecursion IsPrintable e.name → AreInRange (exported e.what) → AreInRange
    (export e)
export_fits e n w =
    (tt, (tt, (n, both (within (exported e.what)) (right ∷ []) (inside (exported e.what) w) (tt, tt))))

exports_fit : (es : List Exporting) → AllByRecursion (λ e. AllByRecursion IsPrintable e.name) es → AllByRecursion
    (λ e. AreInRange (exported e.what)) es → AllByRecursion (λ e. AreInRange (export e)) es
exports_fit [] n w = tt
exports_fit (e ∷ es) n w = (export_fits e n.0 w.0, exports_fit es n.1 w.1)

offset_fits : (c : Code) → AreInRange (code c) → AreInRange (offset c)
offset_fits c a = inside (word (codes "offset") ∷ code c) (tt, a)

element_fits : (e : ElementSegment) (bytes : List ℕ) → binary_modules.element e bytes → AreInRange (element e)
element_fits e bytes p =
    let start = offset_fits e.offset (code_fits e.offset p.second.first.front p.second.first.first) in
    let numbers = numbers_fit e.funcs p.second.second.back p.second.second.second in
    let front = both (offset e.offset) (map number e.funcs) start numbers in
    (tt, (tt, both (offset e.offset ++ map number e.funcs) (right ∷ []) front (tt, tt)))

segment_fits : (d : DataSegment) (bytes : List ℕ) → binary_modules.data_segment d bytes → AreInRange (data_segment d)
segment_fits d bytes p =
    let start = offset_fits d.offset (code_fits d.offset p.second.first.front p.second.first.first) in
    let bytes = octets_fit d.bytes p.second.second.back p.second.second.second in
    let front = both (offset d.offset) (octets d.bytes ∷ []) start (bytes, tt) in
    (tt, (tt, both (offset d.offset ++ octets d.bytes ∷ []) (right ∷ []) front (tt, tt)))

-- lines
abbrev LinesFit : List (List Lexeme) → Type 0
LinesFit ls = AllByRecursion AreInRange ls

mapped : {A : Type 0} (f : A → List Lexeme) (xs : List A) → AllByRecursion (λ x. AreInRange (f x)) xs → LinesFit
    (map f xs)
mapped f [] a = tt
mapped f (x ∷ xs) a = (a.0, mapped f xs a.1)

joined : (ls : List (List Lexeme)) → LinesFit ls → AreInRange (flat_map (λ l. l) ls)
joined [] a = tt
joined (l ∷ ls) a = both l (flat_map (λ l. l) ls) a.0 (joined ls a.1)

all_types : (ts : List FuncType) → AllByRecursion (λ t. AreInRange (function_type t)) ts
all_types [] = tt
all_types (t ∷ ts) = (type_fits t, all_types ts)

fields_fit : (bytes : List ℕ) (m : PureModule) → Spells bytes m → IsWithinProfile m → LinesFit (fields m)
fields_fit bytes m p w =
    let r = p.second.second.second.second.second.second in
    let kinds = section_fits binary_modules.function_kind (λ f. f.kind < 2 ^ 32)
    (λ f bytes k. index_fits f.kind bytes k) 3 m.funcs r.front r.first in
    let r4 = r.second.second in
    let r5 = r4.second.second in
    let r6 = r5.second.second in
    let r7 = r6.second.second in
    let r9 = r7.second.second in
    let r10 = r9.second.second in
    let r11 = r10.second.second in
    let bodies = section_fits binary_modules.function_code (λ f. AreInRange (code f.body))
    (λ f bytes b. code_fits f.body b.inside.second.front b.inside.second.first) 10 m.funcs r10.front r10.first in
    let names = section_fits binary_modules.export (λ e. AreInRange (exported e.what))
    (λ e bytes x. exported_fits e.what x.back x.second) 7 m.exports r7.front r7.first in
    fields_hold AreInRange m (mapped function_type m.types (all_types m.types))
    (mapped function m.funcs (functions_fit m.funcs kinds bodies))
    (mapped table (at_most_one m.table)
    (section_fits binary_modules.table (λ l. AreInRange (table l)) table_fits 4
    (at_most_one m.table) r4.front r4.first))
    (mapped memory (at_most_one m.memory)
    (section_fits binary_modules.limits (λ l. AreInRange (memory l)) memory_fits 5
    (at_most_one m.memory) r5.front r5.first))
    (mapped global m.globals
    (section_fits binary_modules.global (λ g. AreInRange (global g)) global_fits 6 m.globals r6.front r6.first))
    (mapped export m.exports (exports_fit m.exports w.export_names names))
    (mapped element m.elements
    (section_fits binary_modules.element
    (λ e. AreInRange (element e)) element_fits 9 m.elements r9.front r9.first))
    (mapped data_segment m.segments
    (section_fits binary_modules.data_segment
    (λ d. AreInRange (data_segment d)) segment_fits 11 m.segments r11.front r11.first))

lines_fit : (m : PureModule) → LinesFit (fields m) → LinesFit (lines m)
lines_fit m a = ((tt, (tt, tt)), both_of AreInRange (fields m) ((right ∷ []) ∷ []) a ((tt, tt), tt))

pub spelled_has_texts : (bytes : List ℕ) (m : PureModule) → Spells bytes m → IsWithinProfile m → HasTexts m
spelled_has_texts bytes m p w =
    record { profile = w; ranges = joined (lines m) (lines_fit m (fields_fit bytes m p w)) }
