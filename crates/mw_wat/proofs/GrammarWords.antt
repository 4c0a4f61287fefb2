-- The words of the grammar are words.
use Rattle.std.proofs.Common.{◌≡◌, ℕ, List, [], ◌∷◌, ◌++◌, map, refl, Bool, true, false, Option}
use Rattle.std.specs.Prelude.{codes, ◌&&◌}
use Rattle.std.specs.List.{AllByRecursion}
use Rattle.mw_wasm.specs.declared.values.ValType.{ValType}
use Rattle.mw_wasm.specs.declared.values.ValType.TheVariants.{I32, I64}
use Rattle.mw_wasm.specs.declared.numbers.IntOp.{IntOp}
use Rattle.mw_wasm.specs.declared.numbers.IntOp.TheVariants as op
use Rattle.mw_wasm.specs.declared.numbers.NumOp.{NumOp}
use Rattle.mw_wasm.specs.declared.numbers.NumOp.TheVariants as num
use Rattle.mw_wasm.specs.declared.numbers.LoadOp.{LoadOp}
use Rattle.mw_wasm.specs.declared.numbers.LoadOp.TheVariants as load_op
use Rattle.mw_wasm.specs.declared.numbers.StoreOp.{StoreOp}
use Rattle.mw_wasm.specs.declared.numbers.StoreOp.TheVariants as store_op
use Rattle.mw_wasm.specs.declared.modules.Limits.{Limits}
use Rattle.mw_wasm.specs.declared.modules.FuncType.{FuncType}
use Rattle.mw_wasm.specs.declared.modules.Exported.{Exported}
use Rattle.mw_wasm.specs.declared.modules.Exported.TheVariants as what
use Rattle.mw_wasm.specs.Syntax.{Instruction, Code, unreachable, nop, block, loop, cond, br_table, give_back}
use Rattle.mw_wasm.specs.Syntax.{call_indirect, drop_value, select}
use Rattle.mw_wasm.specs.Syntax.{load, store, memory_size, memory_grow, numeric, end}
use Rattle.mw_wasm.specs.Syntax.{next, Function, Global, Exporting, ElementSegment, DataSegment, PureModule}
use Rattle.mw_wasm.specs.BinaryModules.{at_most_one}
use Rattle.mw_wat.specs.Lexing.{is_word_byte}
use Rattle.mw_wat.specs.Names.{type_name, operation_name, number_name, load_name, store_name}
use Rattle.mw_wat.specs.Lexemes.{Lexeme, right, word, number, keyed, octets, within, types_behind, instruction, code}
use Rattle.mw_wat.specs.Lexemes.{otherwise, function_type, function, limits, table, memory, global_type, global}
use Rattle.mw_wat.specs.Lexemes.{exported, export, offset, element, data_segment, fields, lines}
use Rattle.mw_wat.proofs.MeaningsOfWords.{both as both_of, each as each_of}
use Rattle.mw_wat.proofs.FieldsOfModules.{fields_hold}

abbrev pub are_word_bytes : List ℕ → Bool
are_word_bytes [] = true
are_word_bytes (b ∷ bytes) = is_word_byte b && are_word_bytes bytes

abbrev pub is_word : List ℕ → Bool
is_word [] = false
is_word w = are_word_bytes w

-- a word of the grammar is one
abbrev pub IsWordLexeme : Lexeme → Type 0
IsWordLexeme (word w) = is_word w ≡ true
IsWordLexeme (keyed key n) = is_word key ≡ true
IsWordLexeme _ = Unit {0}

abbrev pub AreWords : List Lexeme → Type 0
AreWords is = AllByRecursion IsWordLexeme is

pub both : (xs ys : List Lexeme) → AreWords xs → AreWords ys → AreWords (xs ++ ys)
both [] ys a b = b
both (x ∷ xs) ys a b = (a.0, both xs ys a.1 b)

each : {A : Type 0} (f : A → Lexeme) → ((x : A) → IsWordLexeme (f x)) → (xs : List A) → AreWords (map f xs)
each f g [] = tt
each f g (x ∷ xs) = (g x, each f g xs)

inside : (xs : List Lexeme) → AreWords xs → AreWords (within xs)
inside xs a = (tt, both xs _ a (tt, tt))

type_is_word : (t : ValType) → is_word (type_name t) ≡ true
type_is_word I32 = refl
type_is_word I64 = refl

operation_is_word : (o : IntOp) → are_word_bytes (operation_name o) ≡ true
operation_is_word op.Eqz = refl
operation_is_word _ = refl

number_is_word : (o : NumOp) → is_word (number_name o) ≡ true
number_is_word (num.I32 o) = operation_is_word o
number_is_word (num.I64 o) = operation_is_word o
number_is_word _ = refl

load_is_word : (o : LoadOp) → is_word (load_name o) ≡ true
load_is_word load_op.I32 = refl
load_is_word _ = refl

store_is_word : (o : StoreOp) → is_word (store_name o) ≡ true
store_is_word store_op.I32 = refl
store_is_word _ = refl

types_are_words : (w : List ℕ) → is_word w ≡ true → (ts : List ValType) → AreWords (types_behind w ts)
types_are_words w e [] = tt
types_are_words w e (t ∷ ts) = inside (word w ∷ map (λ t. word (type_name t)) (t ∷ ts))
    (e, each (λ t. word (type_name t)) type_is_word (t ∷ ts))

numbers_are_words : (ns : List ℕ) → AreWords (map number ns)
numbers_are_words ns = each number (λ n. tt) ns

result_words : (t : Option ValType) → AreWords (types_behind (codes "result") (at_most_one t))
result_words t = types_are_words (codes "result") refl (at_most_one t)

block_words : (t : Option ValType) (c : Code) → AreWords (code c)
    → AreWords (types_behind (codes "result") (at_most_one t) ++ code c ++ word (codes "end") ∷ [])
block_words t c a = both (types_behind (codes "result") (at_most_one t) ++ code c) _
    (both (types_behind (codes "result") (at_most_one t)) _ (result_words t) a) (refl, tt)

mutual
  instruction_words : (i : Instruction) → AreWords (instruction i)
  instruction_words unreachable = (refl, tt)
  instruction_words nop = (refl, tt)
  instruction_words give_back = (refl, tt)
  instruction_words drop_value = (refl, tt)
  instruction_words select = (refl, tt)
  instruction_words memory_size = (refl, tt)
  instruction_words memory_grow = (refl, tt)
  instruction_words (br_table ls l) = (refl, both (map number ls) _ (numbers_are_words ls) (tt, tt))
  instruction_words (call_indirect t) = (refl, (tt, (refl, (tt, (tt, tt)))))
  instruction_words (load o align offset) = (load_is_word o, (refl, (refl, tt)))
  instruction_words (store o align offset) = (store_is_word o, (refl, (refl, tt)))
  instruction_words (numeric o) = (number_is_word o, tt)
  instruction_words (block t body) = (refl, block_words t body (code_words body))
  instruction_words (loop t body) = (refl, block_words t body (code_words body))
  instruction_words (cond t a b) = (
    refl,
    both (types_behind (codes "result") (at_most_one t) ++ code a ++ otherwise b) _
        (both (types_behind (codes "result") (at_most_one t) ++ code a) _
        (both (types_behind (codes "result") (at_most_one t)) _ (result_words t) (code_words a))
        (otherwise_words b)) (refl, tt),
  )
  instruction_words _ = (refl, (tt, tt))

  code_words : (c : Code) → AreWords (code c)
  code_words end = tt
  code_words (next i c) = both (instruction i) _ (instruction_words i) (code_words c)

  otherwise_words : (c : Code) → AreWords (otherwise c)
  otherwise_words end = tt
  otherwise_words (next i c) = (refl, both (instruction i) _ (instruction_words i) (code_words c))

type_words : (t : FuncType) → AreWords (function_type t)
type_words t =
    let lists = both (types_behind (codes "param") t.params) _ (types_are_words (codes "param") refl t.params)
    (types_are_words (codes "result") refl t.results) in
    inside (word (codes "type") ∷ within
    (word (codes "func") ∷ types_behind (codes "param") t.params ++ types_behind (codes "result") t.results)) (
      refl,
      inside
          (word (codes "func") ∷ types_behind (codes "param") t.params ++ types_behind
          (codes "result") t.results) (refl, lists),
    )

function_words : (f : Function) → AreWords (function f)
function_words f =
    let lists = both (types_behind (codes "local") f.locals) (code f.body)
    (types_are_words (codes "local") refl f.locals) (code_words f.body) in
    let all = both (types_behind (codes "local") f.locals ++ code f.body) (right ∷ []) lists (tt, tt) in
    (tt, (refl, (tt, (refl, (tt, (tt, all))))))

limits_words : (l : Limits) → AreWords (limits l)
limits_words l = (tt, numbers_are_words (at_most_one l.max))

table_words : (l : Limits) → AreWords (table l)
table_words l =
    let front = both (limits l) (word (codes "funcref") ∷ []) (limits_words l) (refl, tt) in
    (tt, (refl, both (limits l ++ word (codes "funcref") ∷ []) _ front (tt, tt)))

memory_words : (l : Limits) → AreWords (memory l)
memory_words l = (tt, (refl, both (limits l) _ (limits_words l) (tt, tt)))

global_type_words : (v : Bool) (t : ValType) → AreWords (global_type v t)
global_type_words false t = (type_is_word t, tt)
global_type_words true t = (tt, (refl, (type_is_word t, (tt, tt))))

global_words : (g : Global) → AreWords (global g)
global_words g =
    let kind = global_type g.variable g.kind in
    let front = both kind (code g.init) (global_type_words g.variable g.kind) (code_words g.init) in
    (tt, (refl, both (kind ++ code g.init) _ front (tt, tt)))

exported_words : (w : Exported) → AreWords (exported w)
exported_words (what.Func x) = (refl, (tt, tt))
exported_words _ = (refl, (tt, tt))

export_words : (e : Exporting) → AreWords (export e)
export_words e =
    (tt, (refl, (tt, both (within (exported e.what)) _ (inside (exported e.what) (exported_words e.what)) (tt, tt))))

offset_words : (c : Code) → AreWords (offset c)
offset_words c = (tt, (refl, both (code c) _ (code_words c) (tt, tt)))

element_words : (e : ElementSegment) → AreWords (element e)
element_words e =
    let front = both (offset e.offset) (map number e.funcs) (offset_words e.offset) (numbers_are_words e.funcs) in
    (tt, (refl, both (offset e.offset ++ map number e.funcs) _ front (tt, tt)))

data_words : (d : DataSegment) → AreWords (data_segment d)
data_words d =
    let front = both (offset d.offset) (octets d.bytes ∷ []) (offset_words d.offset) (tt, tt) in
    (tt, (refl, both (offset d.offset ++ octets d.bytes ∷ []) _ front (tt, tt)))

-- of each line
abbrev pub LinesAreWords : List (List Lexeme) → Type 0
LinesAreWords ls = AllByRecursion AreWords ls

fields_are_words : (m : PureModule) → LinesAreWords (fields m)
fields_are_words m = fields_hold AreWords m (each_of AreWords function_type type_words m.types)
    (each_of AreWords function function_words m.funcs) (each_of AreWords table table_words (at_most_one m.table))
    (each_of AreWords memory memory_words (at_most_one m.memory)) (each_of AreWords global global_words m.globals)
    (each_of AreWords export export_words m.exports) (each_of AreWords element element_words m.elements)
    (each_of AreWords data_segment data_words m.segments)

pub lines_are_words : (m : PureModule) → LinesAreWords (lines m)
lines_are_words m =
    ((tt, (refl, tt)), both_of AreWords (fields m) ((right ∷ []) ∷ []) (fields_are_words m) ((tt, tt), tt))
