-- No bytes spell two modules.
use Rattle.std.proofs.Common.{◌≡◌, ℕ, Bool, true, false, List, [], ◌∷◌, map, replicate, Option, Some, None, refl, sym}
use Rattle.std.proofs.Common.{ap, ◌∙◌, subst, lit<, arith}
use Rattle.std.specs.List.{flat_map}
use Rattle.mw_wasm.specs.declared.values.ValType.{ValType}
use Rattle.mw_wasm.specs.declared.modules.Limits.{Limits}
use Rattle.mw_wasm.specs.declared.modules.FuncType.{FuncType}
use Rattle.mw_wasm.specs.declared.modules.Exported.{Exported}
use Rattle.mw_wasm.specs.declared.modules.Exported.TheVariants.{Func, Table, Memory, Global as Variable}
use Rattle.mw_wasm.specs.Syntax.{Code, Function, Global, Exporting, ElementSegment, DataSegment, PureModule}
use Rattle.mw_wasm.specs.Pieces.{Piece, byte, octet, ◌then◌, u32, vector}
use Rattle.mw_wasm.specs.BinaryInstructions.{value_type}
use Rattle.mw_wasm.specs.BinaryModules.{function_type, limits_of, limits, table, mutability, global, function_kind}
use Rattle.mw_wasm.specs.BinaryModules.{exported, export, element, data_segment, Run, run, locals, function_code}
use Rattle.mw_wasm.specs.BinaryModules.{section, import_section, customs, at_most_one, Spells}
use Rattle.mw_wasm.proofs.FormatPieces.{Agree, Whole, behind, agree_whole, agree_so, agree_byte, agree_octet}
use Rattle.mw_wasm.proofs.FormatPieces.{agree_then, agree_u32, agree_parts, agree_vector, agree_sized}
use Rattle.mw_wasm.proofs.FormatInstructions.{agree_value_type, agree_index, agree_expression}
use Rattle.mw_wasm.proofs.FormatSections.{FoundSections, Behind, IsNone, Tails, found_end, found_more, found_import, tails_end}
use Rattle.mw_wasm.proofs.FormatSections.{tails_more, found_agree, Section}

agree_function_type : (t u : FuncType) → Agree (function_type t) (function_type u) (t ≡ u)
agree_function_type t u = agree_so
    (agree_then (agree_byte 0x60 0x60) (λ _. agree_then (agree_vector value_type agree_value_type t.params u.params)
    (λ _. agree_vector value_type agree_value_type t.results u.results)))
    (λ e i. record { params = e.1.0 i; results = e.1.1 i })

agree_limits_of : (m n : ℕ) (o p : Option ℕ) → Agree (limits_of m o) (limits_of n p) ((m ≡ n) × (o ≡ p))
agree_limits_of m n None None = agree_so (agree_then (agree_byte 0x00 0x00) (λ _. agree_u32 m n)) (λ e. (e.1, refl))
agree_limits_of m n None (Some y) = agree_so (agree_then (agree_byte 0x00 0x01) (λ e. absurd (omega arith))) (λ e. e.1)
agree_limits_of m n (Some x) None = agree_so (agree_then (agree_byte 0x01 0x00) (λ e. absurd (omega arith))) (λ e. e.1)
agree_limits_of m n (Some x) (Some y) =
    agree_so (agree_then (agree_byte 0x01 0x01) (λ _. agree_then (agree_u32 m n) (λ _. agree_u32 x y)))
    (λ e. (e.1.0, ap Some e.1.1))

agree_limits : (k l : Limits) → Agree (limits k) (limits l) (k ≡ l)
agree_limits k l = agree_so (agree_limits_of k.min l.min k.max l.max) (λ e i. record { min = e.0 i; max = e.1 i })

agree_table : (k l : Limits) → Agree (table k) (table l) (k ≡ l)
agree_table k l = agree_so (agree_then (agree_byte 0x70 0x70) (λ _. agree_limits k l)) (λ e. e.1)

agree_mutability : (x y : Bool) → Agree (mutability x) (mutability y) (x ≡ y)
agree_mutability false false = agree_so (agree_byte 0x00 0x00) (λ _. refl)
agree_mutability false true = agree_so (agree_byte 0x00 0x01) (λ e. absurd (omega arith))
agree_mutability true false = agree_so (agree_byte 0x01 0x00) (λ e. absurd (omega arith))
agree_mutability true true = agree_so (agree_byte 0x01 0x01) (λ _. refl)

agree_global : (g h : Global) → Agree (global g) (global h) (g ≡ h)
agree_global g h = agree_so
    (agree_then (agree_value_type g.kind h.kind)
    (λ _. agree_then (agree_mutability g.variable h.variable) (λ _. agree_expression g.init h.init)))
    (λ e i. record { kind = e.0 i; variable = e.1.0 i; init = e.1.1 i })

agree_kind : (f g : Function) → Agree (function_kind f) (function_kind g) (f.kind ≡ g.kind)
agree_kind f g = agree_u32 f.kind g.kind

-- different kinds of exports
other_kind : (m n x y : ℕ) {E : Type 0} → (m ≡ n → ⊥) → Agree (byte m then u32 x) (byte n then u32 y) E
other_kind m n x y h = agree_so (agree_then (agree_byte m n) (λ e. absurd (h e))) (λ e. e.1)

agree_exported : (a b : Exported) → Agree (exported a) (exported b) (a ≡ b)
agree_exported (Func x) (Func y) = agree_so (agree_index 0 x y) (λ e. ap Func e)
agree_exported (Func x) (Table y) = other_kind 0 1 x y (λ e. omega arith)
agree_exported (Func x) (Memory y) = other_kind 0 2 x y (λ e. omega arith)
agree_exported (Func x) (Variable y) = other_kind 0 3 x y (λ e. omega arith)
agree_exported (Table x) (Func y) = other_kind 1 0 x y (λ e. omega arith)
agree_exported (Table x) (Table y) = agree_so (agree_index 1 x y) (λ e. ap Table e)
agree_exported (Table x) (Memory y) = other_kind 1 2 x y (λ e. omega arith)
agree_exported (Table x) (Variable y) = other_kind 1 3 x y (λ e. omega arith)
agree_exported (Memory x) (Func y) = other_kind 2 0 x y (λ e. omega arith)
agree_exported (Memory x) (Table y) = other_kind 2 1 x y (λ e. omega arith)
agree_exported (Memory x) (Memory y) = agree_so (agree_index 2 x y) (λ e. ap Memory e)
agree_exported (Memory x) (Variable y) = other_kind 2 3 x y (λ e. omega arith)
agree_exported (Variable x) (Func y) = other_kind 3 0 x y (λ e. omega arith)
agree_exported (Variable x) (Table y) = other_kind 3 1 x y (λ e. omega arith)
agree_exported (Variable x) (Memory y) = other_kind 3 2 x y (λ e. omega arith)
agree_exported (Variable x) (Variable y) = agree_so (agree_index 3 x y) (λ e. ap Variable e)

agree_export : (a b : Exporting) → Agree (export a) (export b) (a ≡ b)
agree_export a b =
    agree_so (agree_then (agree_vector octet agree_octet a.name b.name) (λ _. agree_exported a.what b.what))
    (λ e i. record { name = e.0 i; what = e.1 i })

agree_element : (a b : ElementSegment) → Agree (element a) (element b) (a ≡ b)
agree_element a b = agree_so
    (agree_then (agree_u32 0 0)
    (λ _. agree_then (agree_expression a.offset b.offset) (λ _. agree_vector u32 agree_u32 a.funcs b.funcs)))
    (λ e i. record { offset = e.1.0 i; funcs = e.1.1 i })

agree_data_segment : (a b : DataSegment) → Agree (data_segment a) (data_segment b) (a ≡ b)
agree_data_segment a b = agree_so
    (agree_then (agree_u32 0 0)
    (λ _. agree_then (agree_expression a.offset b.offset) (λ _. agree_vector octet agree_octet a.bytes b.bytes)))
    (λ e i. record { offset = e.1.0 i; bytes = e.1.1 i })

agree_run : (a b : Run) → Agree (run a) (run b) (a ≡ b)
agree_run a b = agree_so (agree_then (agree_u32 a.count b.count) (λ _. agree_value_type a.kind b.kind))
    (λ e i. record { count = e.0 i; kind = e.1 i })

agree_locals : (ts us : List ValType) → Agree (locals ts) (locals us) (ts ≡ us)
agree_locals ts us = record {
  agree = λ a b r s p q e.
      let k = (agree_vector run agree_run p.runs q.runs).agree a b r s p.spelled q.spelled e in
      (k.0, p.types_are ∙ (ap (λ rs. flat_map (λ (r : Run). replicate r.count r.kind) rs) k.1 ∙ sym q.types_are));
}

-- what the code section holds of a function
pub record CodePart : Type 0 where
  pub locals : List ValType
  pub body : Code

abbrev code_part : Function → CodePart
code_part f = record { locals = f.locals; body = f.body }

agree_function_code : (f g : Function) → Agree (function_code f) (function_code g) (code_part f ≡ code_part g)
agree_function_code f g = agree_sized (agree_whole (agree_so
    (agree_then (agree_locals f.locals g.locals) (λ _. agree_expression f.body g.body))
    (λ e i. record { locals = e.0 i; body = e.1 i })))

-- a function is its parts in both sections
same_functions : (fs gs : List Function) → map (λ f. f.kind) fs ≡ map (λ f. f.kind) gs → map code_part fs
    ≡ map code_part gs → fs ≡ gs
same_functions [] [] h k = refl
same_functions [] (g ∷ gs) h k = absurd (cc)
same_functions (f ∷ fs) [] h k = absurd (cc)
same_functions (f ∷ fs) (g ∷ gs) h k =
    let kinds : f.kind ≡ g.kind = (cc) in
    let parts : code_part f ≡ code_part g = (cc) in
    let first : f ≡ g = λ i. record { kind = kinds i; locals = (parts i).locals; body = (parts i).body } in
    let rest : fs ≡ gs = same_functions fs gs (cc) (cc) in
    rw (first, rest) refl

same_option : {A : Type 0} (o p : Option A) → at_most_one o ≡ at_most_one p → o ≡ p
same_option None None e = refl
same_option None (Some y) e = absurd (cc)
same_option (Some x) None e = absurd (cc)
same_option (Some x) (Some y) e = let h : x ≡ y = (cc) in ap Some h

-- two vector sections
whole_vector : {A : Type 0} (P : A → Piece) → ((x y : A) → Agree (P x) (P y) (x ≡ y)) → (xs ys : List A)
    → Whole (vector P xs) (vector P ys) (xs ≡ ys)
whole_vector P each xs ys = agree_whole (agree_vector P each xs ys)

both_empty : {A : Type 0} {xs ys : List A} → xs ≡ [] → ys ≡ [] → xs ≡ ys
both_empty p q = p ∙ sym q

-- the sections of a module after its header
abbrev Sections : PureModule → List ℕ → Type 0
Sections m = customs then section 1 function_type m.types
    then customs then import_section
    then customs then section 3 function_kind m.funcs
    then customs then section 4 table (at_most_one m.table)
    then customs then section 5 limits (at_most_one m.memory)
    then customs then section 6 global m.globals
    then customs then section 7 export m.exports
    then customs then section 9 element m.elements
    then customs then section 10 function_code m.funcs
    then customs then section 11 data_segment m.segments
    then customs

-- the same as a list of sections, from each one on
abbrev from_11 : PureModule → List Section → Type 0
from_11 m = Behind 11 (m.segments ≡ []) (vector data_segment m.segments) IsNone

abbrev from_10 : PureModule → List Section → Type 0
from_10 m = Behind 10 (m.funcs ≡ []) (vector function_code m.funcs) (from_11 m)

abbrev from_9 : PureModule → List Section → Type 0
from_9 m = Behind 9 (m.elements ≡ []) (vector element m.elements) (from_10 m)

abbrev from_7 : PureModule → List Section → Type 0
from_7 m = Behind 7 (m.exports ≡ []) (vector export m.exports) (from_9 m)

abbrev from_6 : PureModule → List Section → Type 0
from_6 m = Behind 6 (m.globals ≡ []) (vector global m.globals) (from_7 m)

abbrev from_5 : PureModule → List Section → Type 0
from_5 m = Behind 5 (at_most_one m.memory ≡ []) (vector limits (at_most_one m.memory)) (from_6 m)

abbrev from_4 : PureModule → List Section → Type 0
from_4 m = Behind 4 (at_most_one m.table ≡ []) (vector table (at_most_one m.table)) (from_5 m)

abbrev from_3 : PureModule → List Section → Type 0
from_3 m = Behind 3 (m.funcs ≡ []) (vector function_kind m.funcs) (from_4 m)

abbrev from_2 : PureModule → List Section → Type 0
from_2 m = Behind 2 (Unit {0}) (u32 0) (from_3 m)

abbrev from_1 : PureModule → List Section → Type 0
from_1 m = Behind 1 (m.types ≡ []) (vector function_type m.types) (from_2 m)

found : (m : PureModule) (bytes : List ℕ) → Sections m bytes → FoundSections (from_1 m) bytes
found m = found_more 0
    (found_import
    (found_more 2
    (found_more 3
    (found_more 4 (found_more 5 (found_more 6 (found_more 8 (found_more 9 (found_more 10 found_end)))))))))

-- what two modules have in common that the same sections spell
abbrev Same : PureModule → PureModule → Type 0
Same m n = (m.types ≡ n.types)
    × (Unit {0}
    × ((map (λ f. f.kind) m.funcs ≡ map (λ f. f.kind) n.funcs) × ((at_most_one m.table ≡ at_most_one n.table)
    × ((at_most_one m.memory ≡ at_most_one n.memory)
    × ((m.globals ≡ n.globals) × ((m.exports ≡ n.exports) × ((m.elements ≡ n.elements)
    × ((map code_part m.funcs ≡ map code_part n.funcs) × ((m.segments ≡ n.segments) × Unit {0})))))))))

tails : (m n : PureModule) → Tails 0 (from_1 m) (from_1 n) (Same m n)
tails m n =
    let t11 = tails_more 10 11 (lit< tt) (tails_end 11)
    (whole_vector data_segment agree_data_segment m.segments n.segments) both_empty in
    let t10 = tails_more 9 10 (lit< tt) t11
    (agree_whole (agree_parts function_code code_part agree_function_code m.funcs n.funcs))
    (λ p q. ap (map code_part) (p ∙ sym q)) in
    let t9 = tails_more 7 9 (lit< tt) t10 (whole_vector element agree_element m.elements n.elements) both_empty in
    let t7 = tails_more 6 7 (lit< tt) t9 (whole_vector export agree_export m.exports n.exports) both_empty in
    let t6 = tails_more 5 6 (lit< tt) t7 (whole_vector global agree_global m.globals n.globals) both_empty in
    let t5 = tails_more 4 5 (lit< tt) t6
    (whole_vector limits agree_limits (at_most_one m.memory) (at_most_one n.memory)) both_empty in
    let t4 = tails_more 3 4 (lit< tt) t5 (whole_vector table agree_table (at_most_one m.table) (at_most_one n.table))
    both_empty in
    let t3 = tails_more 2 3 (lit< tt) t4
    (agree_whole (agree_parts function_kind (λ f. f.kind) agree_kind m.funcs n.funcs))
    (λ p q. ap (map (λ f. f.kind)) (p ∙ sym q)) in
    let t2 = tails_more 1 2 (lit< tt) t3 (agree_whole (agree_so (agree_u32 0 0) (λ _. tt))) (λ _ _. tt) in
    tails_more 0 1 (lit< tt) t2 (whole_vector function_type agree_function_type m.types n.types) both_empty

same_module : (m n : PureModule) → Same m n → m ≡ n
same_module m n h =
    let rest = h.1.1 in
    let rest' = rest.1.1.1 in
    let funcs : m.funcs ≡ n.funcs = same_functions m.funcs n.funcs rest.0 rest'.1.1.1.0 in
    let tables : m.table ≡ n.table = same_option m.table n.table rest.1.0 in
    let memories : m.memory ≡ n.memory = same_option m.memory n.memory rest.1.1.0 in
    λ i. record {
      types = h.0 i;
      funcs = funcs i;
      table = tables i;
      memory = memories i;
      globals = rest'.0 i;
      exports = rest'.1.0 i;
      elements = rest'.1.1.0 i;
      segments = rest'.1.1.1.1.0 i;
    }

pub one_module : (bytes : List ℕ) (m n : PureModule) → Spells bytes m → Spells bytes n → m ≡ n
one_module bytes m n p q =
    let h : q.back ≡ p.back = behind q.front p.front q.back p.back (q.first ∙ sym p.first) (sym q.whole ∙ p.whole) in
    same_module m n
    (found_agree 0 (tails m n) p.back (found m p.back p.second) (found n p.back (subst (Sections n) h q.second)))
