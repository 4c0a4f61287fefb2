-- Some bytes spell an emitted module.
use Rattle.std.proofs.Common.{◌≤◌, ◌<◌, ℕ, zero, suc, ◌+◌, ◌*◌, ◌^◌, List, [], ◌∷◌, ◌++◌, length, refl, sym, arith, map}
use Rattle.std.proofs.Common.{replicate, length-append, Some}
use Rattle.std.specs.Prelude.{codes}
use Rattle.std.specs.List.{AllByRecursion}
use Rattle.std.proofs.lemmas.List.{length-replicate, length-map}
use Rattle.std.proofs.Common.{append-nil}
use Rattle.mw_term.specs.Terms.{KernelType, GroundType, base, of_ground, to, product}
use Rattle.mw_term.specs.Limits.{ground_nodes, kernel_nodes}
use Rattle.mw_wasm.specs.declared.values.ValType.TheVariants.{I32, I64}
use Rattle.mw_wasm.specs.declared.modules.Exported.TheVariants.{Func}
use Rattle.mw_wasm.specs.Pieces.{u32, items}
use Rattle.mw_wasm.specs.BinaryInstructions.{value_type}
use Rattle.mw_wasm.specs.BinaryModules.{locals, run, Run, function_code, function_type, function_kind, export, element}
use Rattle.mw_wasm.specs.BinaryModules.{data_segment, section, wasm_module}
use Rattle.mw_wasm.specs.Syntax.{Function, Exporting, ElementSegment, next, end, const_i32}
use Rattle.mw_ir.specs.Ir.{Ir, IrFunc}
use Rattle.mw_meaning.specs.Shapes.{leaf_count, init_type, call_type}
use Rattle.mw_key.specs.declared.version.Version.{Version}
use Rattle.mw_gen.specs.Generate.{wants_spare, spare_count, is_loop, body_wants_spare, function_for}
use Rattle.mw_gen.specs.Generate.{init_function, call_function, call_of, argument_of, counting, elements_of, more_types}
use Rattle.mw_gen.specs.Generate.{more_functions, more_exports, closure_type, module_with}
use Rattle.mw_gen.proofs.Slots.{slots_needed}
use Rattle.mw_gen.proofs.Correctness.{Fine}
use Rattle.mw_gen.proofs.Invocations.{argument_need, argument_fine}
use Rattle.mw_gen.proofs.Instance.{counting_length}
use Rattle.mw_gen.proofs.Valid.{Sees}
use Rattle.mw_gen.proofs.Modules.{argument_sees}
use Rattle.mw_gen.proofs.Profile.{temps_two}
use Rattle.mw_gen.proofs.Pieces.{SpelledWithin, within_then, within_more, within_byte, within_u32, within_sized}
use Rattle.mw_gen.proofs.Pieces.{within_nil, within_cons, within_vector, within_section, within_absent, within_one}
use Rattle.mw_gen.proofs.Pieces.{customs_within, no_imports, header_within, one_result, closure_within, init_within}
use Rattle.mw_gen.proofs.Pieces.{table_within, memory_within, globals_within, zero_code_within}
use Rattle.mw_gen.proofs.Pieces.{export_within}
use Rattle.mw_gen.proofs.CodeSpelling.{expression_within, breadth, body_width, expression_width, Near, expression_fit}
use Rattle.mw_gen.proofs.CodeSpelling.{body_fit}

-- what the code of a function's body needs to be spelled
pub record CanSpell (f : IrFunc) : Type 0 where
  pub fine : Fine f.body
  pub near : Near f.body
  pub sees : (n : ℕ) → 2 + f.slots ≤ n → Sees f.body 2 n
  pub needs : slots_needed f.body ≤ f.slots
  pub few : f.slots ≤ 20000

-- the bytes of functions, in all
abbrev pub total : List IrFunc → ℕ
total [] = 0
total (f ∷ fs) = breadth f.body + 60 + total fs

-- further locals of one type
pub locals_within : (n : ℕ) → n < 2 ^ 32 → SpelledWithin 11 (locals (replicate n I64))
locals_within n h =
    let s = within_one {k = 6} run record { count = n; kind = I64 }
    (within_then {j = 5} {k = 1} (within_u32 n h) (within_byte 0x7E)) in
    record {
      bytes = s.bytes;
      spell =
          record {
            runs = record { count = n; kind = I64 } ∷ [];
            spelled = s.spell;
            types_are =
                sym (append-nil (replicate n I64));
            few = omega (arith, length-replicate n I64);
          };
      short = s.short;
    }

abbrev words_run : Run
words_run = record { count = 2; kind = I64 }

abbrev top_run : Run
top_run = record { count = 1; kind = I32 }

call_locals_within : SpelledWithin 17 (locals (I64 ∷ I64 ∷ I32 ∷ []))
call_locals_within =
    let s = within_vector {k = 12} run (words_run ∷ top_run ∷ []) (omega arith)
    (within_cons {j = 6} {k = 6} run words_run (top_run ∷ [])
    (within_then {j = 5} {k = 1} (within_u32 2 (omega arith)) (within_byte 0x7E))
    (within_cons {j = 6} {k = 0} run top_run []
    (within_then {j = 5} {k = 1} (within_u32 1 (omega arith)) (within_byte 0x7F)) (within_nil run))) in
    record {
      bytes = s.bytes;
      spell = record {
        runs = words_run ∷ top_run ∷ [];
        spelled = s.spell;
        types_are = refl;
        few = omega arith;
      };
      short = s.short;
    }

pub func_within : (v : Version) (f : IrFunc) → CanSpell f → breadth f.body < 2 ^ 31
    → SpelledWithin (breadth f.body + 60) (function_code (function_for v f))
func_within v f c small =
    let z = is_loop v f.body in
    let n = f.slots + spare_count (body_wants_spare z f.body) in
    let two = temps_two (body_wants_spare z f.body) in
    let slots = c.few in
    within_more (breadth f.body + 60) (omega (arith, body_width z f.body (2 + f.slots)))
    (within_sized (omega (arith, body_width z f.body (2 + f.slots)))
    (within_then {j = 11} (locals_within n (omega arith))
    (expression_within _ (body_fit z (2 + n) (2 + f.slots) f.body (omega arith) (omega arith) (omega arith) c.fine
    (c.sees (2 + n) (omega arith)) c.near (omega (arith, c.needs))))))

-- whose code's size can be spelled
abbrev pub IsSmall : IrFunc → Type 0
IsSmall f = breadth f.body < 2 ^ 31

all_small : (fs : List IrFunc) → total fs < 2 ^ 31 → AllByRecursion IsSmall fs
all_small [] h = tt
all_small (f ∷ fs) h = (omega arith, all_small fs (omega arith))

pub funcs_within : (v : Version) (fs : List IrFunc) (rest : List Function) (r : ℕ) → AllByRecursion CanSpell fs
    → AllByRecursion IsSmall fs → SpelledWithin r (items function_code rest)
    → SpelledWithin (total fs + r) (items function_code (map (function_for v) fs ++ rest))
funcs_within v [] rest r c small s = within_more (0 + r) (omega arith) s
funcs_within v (f ∷ fs) rest r c small s = within_more (total (f ∷ fs) + r) (omega arith)
    (within_then (func_within v f c.0 small.0) (funcs_within v fs rest r c.1 small.1 s))

pub kinds_within : (v : Version) (fs : List IrFunc) (rest : List Function) (r : ℕ)
    → SpelledWithin r (items function_kind rest) → SpelledWithin (5 * length fs + r)
    (items function_kind (map (function_for v) fs ++ rest))
kinds_within v [] rest r s = within_more (0 + r) (omega arith) s
kinds_within v (f ∷ fs) rest r s = within_more (5 * length (f ∷ fs) + r) (omega arith)
    (within_then {j = 5} (within_u32 0 (omega arith)) (kinds_within v fs rest r s))

-- a type has no more leaves than nodes
pub leaves_few : (s : GroundType) → leaf_count s ≤ ground_nodes s
leaves_few (base b) = omega arith
leaves_few (product s t) = omega (arith, leaves_few s, leaves_few t)

-- `call`
argument_breadth : (s : GroundType) (k : ℕ) → breadth (argument_of s k) + 154 ≤ 187 * leaf_count s
argument_breadth (base b) k = omega arith
argument_breadth (product s t) k = omega (arith, argument_breadth s k, argument_breadth t (k + leaf_count s))

argument_near : (s : GroundType) (k : ℕ) → Near (argument_of s k)
argument_near (base b) k = tt
argument_near (product s t) k = (argument_near s k, argument_near t (k + leaf_count s))

pub call_within : (s : GroundType) → leaf_count s ≤ 10000 → SpelledWithin 2000000 (function_code (call_function s))
call_within s few =
    let m = leaf_count s in
    let rest = next (Rattle.mw_wasm.specs.Syntax.local_get (suc (suc (suc m))))
    (next (Rattle.mw_wasm.specs.Syntax.global_set 0) end) in
    let w = expression_width (call_of s) 0 (0 + suc m) rest in
    let a = argument_breadth s 1 in
    within_more 2000000 (omega arith)
    (within_sized (omega arith) (within_then {j = 17} call_locals_within (expression_within (call_function s).body (
      omega arith,
      (
        omega arith,
        expression_fit 0 (m + 3) (omega arith) (0 + suc m) (omega arith) (call_of s)
            (tt, argument_fine s 1) (omega arith, argument_sees s 1 (m + 3) (omega arith)) (tt, argument_near s 1)
            (omega (arith, argument_need s 1)) rest (omega arith, (omega arith, tt)),
      ),
    ))))

more_within : (k : KernelType) → kernel_nodes k ≤ 10000 → SpelledWithin 2000000 (items function_code (more_functions k))
more_within (of_ground g) few = within_more 2000000 (omega arith) (within_nil function_code)
more_within (to s b) few = within_cons {j = 2000000} {k = 0} function_code (call_function s) []
    (call_within s (omega (arith, leaves_few s))) (within_nil function_code)

more_kinds : (k : KernelType) → SpelledWithin 5 (items function_kind (more_functions k))
more_kinds (of_ground g) = within_more 5 (omega arith) (within_nil function_kind)
more_kinds (to s b) = within_cons {j = 5} {k = 0} function_kind (call_function s) [] (within_u32 2 (omega arith))
    (within_nil function_kind)

leaves_within : (n : ℕ) → SpelledWithin n (items value_type (replicate n I64))
leaves_within zero = within_nil value_type
leaves_within (suc n) =
    within_more (suc n) (omega arith) (within_then {j = 1} {k = n} (within_byte 0x7E) (leaves_within n))

pub call_type_within : (s : GroundType) → leaf_count s ≤ 10000 → SpelledWithin 10013 (function_type (call_type s))
call_type_within s few = within_then {j = 1} {k = 10012} (within_byte 0x60)
    (within_then {j = 10006} {k = 6}
    (within_more 10006 (omega arith)
    (within_vector value_type (I64 ∷ replicate (leaf_count s) I64) (omega (arith, length-replicate (leaf_count s) I64))
    (leaves_within (suc (leaf_count s))))) one_result)

types_within : (k : KernelType) → kernel_nodes k ≤ 10000
    → SpelledWithin 10050 (section 1 function_type (closure_type ∷ init_type ∷ more_types k))
types_within (of_ground g) few =
    within_more 10050 (omega arith)
    (within_section {k = 31} 1 function_type (closure_type ∷ init_type ∷ []) (omega arith)
    (within_vector {k = 26} function_type (closure_type ∷ init_type ∷ []) (omega arith)
    (within_cons {j = 14} {k = 12} function_type closure_type (init_type ∷ []) closure_within
    (within_cons {j = 12} {k = 0} function_type init_type [] init_within (within_nil function_type)))))
types_within (to s b) few =
    within_more 10050 (omega arith)
    (within_section {k = 10044} 1 function_type (closure_type ∷ init_type ∷ call_type s ∷ []) (omega arith)
    (within_vector {k = 10039} function_type (closure_type ∷ init_type ∷ call_type s ∷ []) (omega arith)
    (within_cons {j = 14} {k = 10025} function_type closure_type (init_type ∷ call_type s ∷ []) closure_within
    (within_cons {j = 12} {k = 10013} function_type init_type (call_type s ∷ []) init_within
    (within_cons {j = 10013} {k = 0} function_type (call_type s) []
    (call_type_within s (omega (arith, leaves_few s))) (within_nil function_type))))))

abbrev init_named : ℕ → Exporting
init_named n = record { name = codes "init"; what = Func n }

abbrev call_named : ℕ → Exporting
call_named n = record { name = codes "call"; what = Func n }

exports_within : (k : KernelType) (n : ℕ) → suc n < 2 ^ 32
    → SpelledWithin 41 (section 7 export (record { name = codes "init"; what = Func n } ∷ more_exports k (suc n)))
exports_within k n h = go k (export_within (codes "init") n (omega arith) (omega arith) (omega arith))
  where
    go : (k : KernelType) → SpelledWithin 15 (export (init_named n))
        → SpelledWithin 41 (section 7 export (init_named n ∷ more_exports k (suc n)))
    go (of_ground g) init = within_more 41 (omega arith)
        (within_section {k = 20} 7 export (init_named n ∷ []) (omega arith)
        (within_one {k = 15} export (init_named n) init))
    go (to s b) init = within_section {k = 35} 7 export (init_named n ∷ call_named (suc n) ∷ []) (omega arith)
        (within_vector {k = 30} export (init_named n ∷ call_named (suc n) ∷ []) (omega arith)
        (within_then {j = 15} {k = 15} init
        (within_then {j = 15} {k = 0} (export_within (codes "call") (suc n) (omega arith) (omega arith) h)
        (within_nil export))))

pub counting_within : (k n : ℕ) → k + n < 2 ^ 32 → SpelledWithin (5 * n) (items u32 (counting k n))
counting_within k zero h = within_nil u32
counting_within k (suc n) h = within_more (5 * suc n) (omega arith)
    (within_then {j = 5} (within_u32 k (omega arith)) (counting_within (suc k) n (omega arith)))

abbrev segment_of : ℕ → ElementSegment
segment_of n = record { offset = next (const_i32 0) end; funcs = counting 0 n }

pub elements_within : (n : ℕ) → n ≤ 100000 → SpelledWithin 500030 (section 9 element (elements_of n))
elements_within zero h = within_more 500030 (omega arith) (within_absent 9 element)
elements_within (suc n) h = within_section {k = 500024} 9 element (segment_of (suc n) ∷ []) (omega arith)
    (within_more 500024 (omega arith) (within_one {k = 500013} element (segment_of (suc n))
    (within_then {j = 5} {k = 500008} (within_u32 0 (omega arith))
    (within_then {j = 3} {k = 500005} zero_code_within (within_more 500005 (omega arith)
    (within_vector u32 (counting 0 (suc n)) (omega (arith, counting_length 0 (suc n)))
    (counting_within 0 (suc n) (omega arith))))))))

pub module_spelled : (v : Version) (t : List IrFunc) (slots : ℕ) (body : Ir) (k : KernelType) → length t ≤ 20000
    → AllByRecursion CanSpell t → slots ≤ 20000 → Fine body → Near body → ((n : ℕ) → slots ≤ n → Sees body 0 n)
    → slots_needed body ≤ slots → breadth body + total t ≤ 1_200_000_000 → kernel_nodes k ≤ 10000
    → SpelledWithin 2_000_000_000 (wasm_module (module_with v t slots body k))
module_spelled v t slots body k n can few fine near sees nd small leaves =
    let m = module_with v t slots body k in
    let gap = customs_within in
    let ts = temps_two (wants_spare body) in
    let w = expression_width body 0 (0 + slots) end in
    let init_fit = expression_fit 0 (slots + spare_count (wants_spare body)) (omega arith) (0 + slots) (omega arith)
    body fine (sees _ (omega arith)) near (omega arith) end tt in
    let init_code = within_more (breadth body + 60) (omega arith)
    (within_sized (omega arith)
    (within_then {j = 11} (locals_within (slots + spare_count (wants_spare body)) (omega arith))
    (expression_within _ init_fit))) in
    let funcs : length m.funcs ≤ 20002 = counted k in
    within_more 2_000_000_000 (omega arith) (within_then header_within
    (within_then gap (within_then ((types_within k leaves))
    (within_then gap (within_then (no_imports)
    (within_then gap
    (within_then
    ((within_section {k = 5 + (5 * length t + 10)} 3 function_kind m.funcs (omega arith)
    (within_vector function_kind m.funcs (omega arith)
    (kinds_within v t _ 10 (within_then {j = 5} {k = 5} (within_u32 1 (omega arith)) (more_kinds k))))))
    (within_then gap
    (within_then
    ((table_within record { min = length t; max = Some (length t) } (length t) refl (omega arith) (omega arith)))
    (within_then gap
    (within_then ((memory_within record { min = 64; max = Some 64 } 64 refl (omega arith) (omega arith)))
    (within_then gap (within_then (globals_within)
    (within_then gap (within_then ((exports_within k (length t) (omega arith)))
    (within_then gap (within_then ((elements_within (length t) (omega arith)))
    (within_then gap
    (within_then
    ((within_section 10 function_code m.funcs (omega arith)
    (within_vector function_code m.funcs (omega arith)
    (funcs_within v t _ (breadth body + 60 + 2000000) can (all_small t (omega arith))
    (within_then init_code (more_within k leaves))))))
    (within_then gap (within_then (within_absent 11 data_segment) gap)))))))))))))))))))))
  where
    counted : (k : KernelType) → length (module_with v t slots body k).funcs ≤ 20002
    counted (of_ground g) = omega (
      arith,
      length-append (map (function_for v) t) (init_function slots body ∷ []),
      length-map t (function_for v),
    )
    counted (to s b) =
        omega (
          arith,
          length-append (map (function_for v) t) (init_function slots body ∷ call_function s ∷ []),
          length-map t (function_for v),
        )
