-- Fewer than 2^32 bytes spell the linked module: of its closures, which alone may be long, there are as many as
-- functions.
use Rattle.std.proofs.Common.{◌≡◌, ℕ, suc, ◌+◌, ◌*◌, ◌^◌, ◌≤◌, ◌<◌, List, [], ◌∷◌, ◌++◌, length, Some, refl, arith}
use Rattle.std.proofs.Common.{length-append}
use Rattle.std.specs.Prelude.{codes}
use Rattle.std.specs.List.{AllByRecursion}
use Rattle.std.proofs.lemmas.List.{length-map}
use Rattle.mw_term.specs.Terms as x
use Rattle.mw_term.specs.Terms.{Expression, KernelType, of_ground, to, size}
use Rattle.mw_term.specs.Limits.{kernel_nodes}
use Rattle.mw_wasm.specs.declared.modules.Exported.TheVariants.{Func}
use Rattle.mw_wasm.specs.Pieces.{items}
use Rattle.mw_wasm.specs.BinaryModules.{function_code, function_type, function_kind, export, data_segment, section}
use Rattle.mw_wasm.specs.BinaryModules.{wasm_module}
use Rattle.mw_wasm.specs.Profile.{IsPrintable}
use Rattle.mw_wasm.specs.Syntax.{Function, Exporting, end}
use Rattle.mw_ir.specs.declared.place.Place.{Place}
use Rattle.mw_ir.specs.declared.place.Place.TheVariants.{Argument, Slot}
use Rattle.mw_ir.specs.Ir as i
use Rattle.mw_ir.specs.Ir.{Ir, IrFunc}
use Rattle.mw_ir.specs.Ranges.{ir_size, total_size, IsOuterPlace}
use Rattle.mw_conv.specs.Convert.{here, fun_places, fix_places, funs, lets, code, functions}
use Rattle.mw_conv.proofs.Scopes.{functions_length}
use Rattle.mw_conv.proofs.Ranges.{code_size, lets_depth}
use Rattle.mw_key.specs.declared.version.Version.TheVariants.{Two}
use Rattle.mw_gen.specs.Generate.{wants_spare, spare_count, more_types}
use Rattle.mw_gen.proofs.Profile.{temps_two}
use Rattle.mw_gen.proofs.Pieces.{SpelledWithin, within_then, within_more, within_u32, within_sized}
use Rattle.mw_gen.proofs.Pieces.{within_nil, within_vector, within_section, within_absent, customs_within, no_imports}
use Rattle.mw_gen.proofs.Pieces.{header_within, closure_within, init_within, table_within, memory_within}
use Rattle.mw_gen.proofs.Pieces.{globals_within, export_within}
use Rattle.mw_gen.proofs.CodeSpelling.{expression_within, breadth, expression_width, Near, expression_fit}
use Rattle.mw_gen.proofs.ModuleSpelling.{CanSpell, total, locals_within, call_within, call_type_within}
use Rattle.mw_gen.proofs.ModuleSpelling.{leaves_few, elements_within, IsSmall, funcs_within, kinds_within}
use Rattle.mw_gen.proofs.Ranges.{near, narrow, all_spelled, outer_near}
use Rattle.mw_gen.specs.EmissionLaw.{SpelledShort}
use Rattle.mw_link.specs.Linked.{Kernel, calls, all_functions, call_types, call_of_type, init_from, outer_functions}
use Rattle.mw_link.specs.Linked.{init_name, call_name, call_exports, exports_from, count, linked}
use Rattle.mw_link.specs.LinkLaw.{LinkedIsSpelled}
use Rattle.mw_link.proofs.LinkableKernels.{IsWhole, AreWhole, whole}
use Rattle.mw_link.proofs.Profile.{init_end, call_end}
use Rattle.mw_link.proofs.PartPlaces.{calls_one, T, Placed, all_placed, placed_next, Here, placed_here, proper, few}
use Rattle.mw_link.proofs.PartPlaces.{body_range, body_fine, body_needs, body_sees, calls_length}
use Rattle.mw_link.proofs.PartPlaces.{call_exports_length}
use Rattle.mw_link.proofs.LinkProgress.{call_types_few}
use Rattle.mw_link.proofs.Positions.{first_all, second_all}
use Rattle.mw_conv.proofs.Ranges.{both_all}

-- the closures that code makes
abbrev closures : Ir → ℕ
closures (i.closure k ps) = 1
closures (i.app f a) = closures f + closures a
closures (i.bind s d e) = closures d + closures e
closures (i.cond c a b) = closures c + closures a + closures b
closures (i.pair a b) = closures a + closures b
closures (i.fst e) = closures e
closures (i.snd e) = closures e
closures (i.prim p a b) = closures a + closures b
closures _ = 0

abbrev all_closures : List IrFunc → ℕ
all_closures [] = 0
all_closures (f ∷ fs) = closures f.body + all_closures fs

closures_append : (fs gs : List IrFunc) → all_closures (fs ++ gs) ≡ all_closures fs + all_closures gs
closures_append [] gs = omega arith
closures_append (f ∷ fs) gs = omega (arith, closures_append fs gs)

-- one for each function
counted : (e : Expression) (k d s : ℕ) (ctx : ℕ → Place) → closures (code e k d s ctx) + all_closures (functions e k d)
    ≡ funs e
counted (x.fun e) k d s ctx = omega (arith, counted e (suc k) (suc d) 0 (fun_places e d))
counted (x.fix e) k d s ctx = omega (arith, counted e (suc k) (suc (suc d)) 0 (fix_places e d))
counted (x.app f a) k d s ctx =
    omega (arith, counted f k d s ctx, counted a (k + funs f) d s ctx, closures_append)
counted (x.bind a e) k d s ctx =
    omega (arith, counted a k d s ctx, counted e (k + funs a) (suc d) (suc s) (here (Slot s) ctx), closures_append)
counted (x.cond c a b) k d s ctx =
    omega (
      arith,
      counted c k d s ctx,
      counted a (k + funs c) d s ctx,
      counted b (k + funs c + funs a) d s ctx,
      closures_append,
    )
counted (x.pair f a) k d s ctx =
    omega (arith, counted f k d s ctx, counted a (k + funs f) d s ctx, closures_append)
counted (x.fst e) k d s ctx = counted e k d s ctx
counted (x.snd e) k d s ctx = counted e k d s ctx
counted (x.prim p f a) k d s ctx =
    omega (arith, counted f k d s ctx, counted a (k + funs f) d s ctx, closures_append)
counted _ k d s ctx = refl

-- few bytes for each node, and more for each closure
slim : (e : Ir) → Near e → breadth e ≤ 100 * ir_size e + 35_000 * closures e
slim (i.closure j ps) r = omega (arith, r.1)
slim (i.app f a) r = omega (arith, slim f r.0, slim a r.1)
slim (i.bind s d e) r = omega (arith, slim d r.0, slim e r.1)
slim (i.cond c a b) r = omega (arith, slim c r.0, slim a r.1, slim b r.2)
slim (i.pair a b) r = omega (arith, slim a r.0, slim b r.1)
slim (i.fst e) r = omega (arith, slim e r)
slim (i.snd e) r = omega (arith, slim e r)
slim (i.prim p a b) r = omega (arith, slim a r.0, slim b r.1)
slim _ r = omega arith

all_slim : (fs : List IrFunc) → AllByRecursion CanSpell fs → total fs
    ≤ 100 * total_size fs + 35_000 * all_closures fs + 60 * length fs
all_slim [] c = omega arith
all_slim (f ∷ fs) c = omega (arith, slim f.body c.0.near, all_slim fs c.1)

all_small : (fs : List IrFunc) → AllByRecursion CanSpell fs → total_size fs ≤ 20000 → AllByRecursion IsSmall fs
all_small [] c h = tt
all_small (f ∷ fs) c h = (omega (arith, narrow f.body c.0.near), all_small fs c.1 (omega arith))

total_append : (fs gs : List IrFunc) → total (fs ++ gs) ≡ total fs + total gs
total_append [] gs = omega arith
total_append (f ∷ fs) gs = omega (arith, total_append fs gs)

-- exports
short_export : (name : List ℕ) (n : ℕ) → AllByRecursion IsPrintable name → length name ≤ 69 → n < 2 ^ 32
    → SpelledWithin 80 (export record { name = name; what = Func n })
short_export name n h le lt = within_more 80 (omega arith) (export_within name n h (omega arith) lt)

exports_within : (n : ℕ) (ps : List Kernel) → AllByRecursion IsWhole ps → n + 2 * length ps < 2 ^ 32
    → SpelledWithin (160 * length ps) (items export (exports_from n ps))
exports_within n [] a lt = within_nil export
exports_within n (p ∷ ps) a lt =
    within_more (160 * length (p ∷ ps)) (omega arith) (within_then
    (short_export (init_name p.name) n (both_all IsPrintable p.name _ a.0.printable init_end)
    (let s = a.0.short in omega (arith, length-append p.name (codes ".init"))) (omega arith))
    (go p.kind (exports_from (suc (n + calls p.kind)) ps)
    (exports_within (suc (n + calls p.kind)) ps a.1 (omega (arith, calls_one p.kind)))))
  where
    go : (k : KernelType) (es : List Exporting) → SpelledWithin (160 * length ps) (items export es)
        → SpelledWithin (80 + 160 * length ps) (items export (call_exports (suc n) p k ++ es))
    go (of_ground g) es s = within_more (80 + 160 * length ps) (omega arith) s
    go (to q t) es s =
        within_then {j = 80} (short_export (call_name p.name) (suc n)
        (both_all IsPrintable p.name _ a.0.printable call_end)
        (let s = a.0.short in omega (arith, length-append p.name (codes ".call"))) (omega arith)) s

exports_length : (n : ℕ) (ps : List Kernel) → length (exports_from n ps) ≤ 2 * length ps
exports_length n [] = omega arith
exports_length n (p ∷ ps) =
    simp (length-append, call_exports_length (suc n) p p.kind)
    (omega (arith, calls_one p.kind, exports_length (suc (n + calls p.kind)) ps))

-- types
types_within : (ps : List Kernel) → AllByRecursion IsWhole ps
    → SpelledWithin (10013 * length ps) (items function_type (call_types ps))
types_within [] a = within_nil function_type
types_within (p ∷ ps) a = go p.kind a.0.nodes (types_within ps a.1)
  where
    go : (k : KernelType) → kernel_nodes k ≤ 10000 → SpelledWithin (10013 * length ps)
        (items function_type (call_types ps)) → SpelledWithin (10013 * length (p ∷ ps))
        (items function_type (more_types k ++ call_types ps))
    go (of_ground g) few s = within_more (10013 * length (p ∷ ps)) (omega arith) s
    go (to q t) few s =
        within_more (10013 * length (p ∷ ps)) (omega arith) (within_then {j = 10013}
        (call_type_within q (omega (arith, leaves_few q))) s)

outer_length : (o x : ℕ) (ps : List Kernel) → length (outer_functions o x ps) ≤ 2 * length ps
outer_length o x [] = omega arith
outer_length o x (p ∷ ps) =
    simp (length-append, calls_length x p.kind)
    (omega (arith, calls_one p.kind, outer_length (o + funs p.code) (x + calls p.kind) ps))

outer_kinds : (o x : ℕ) (ps : List Kernel) → x + length ps < 2 ^ 32
    → SpelledWithin (10 * length ps) (items function_kind (outer_functions o x ps))
outer_kinds o x [] lt = within_nil function_kind
outer_kinds o x (p ∷ ps) lt =
    within_more (10 * length (p ∷ ps)) (omega arith) (within_then {j = 5} (within_u32 1 (omega arith))
    (go p.kind (outer_functions (o + funs p.code) (x + calls p.kind) ps)
    (outer_kinds (o + funs p.code) (x + calls p.kind) ps (omega (arith, calls_one p.kind)))))
  where
    go : (k : KernelType) (fs : List Function) → SpelledWithin (10 * length ps) (items function_kind fs)
        → SpelledWithin (5 + 10 * length ps) (items function_kind (call_of_type x k ++ fs))
    go (of_ground g) fs s = within_more (5 + 10 * length ps) (omega arith) s
    go (to q t) fs s = within_then {j = 5} (within_u32 x (omega arith)) s

-- `init` and `call` of each kernel
abbrev outer_total : ℕ → List Kernel → ℕ
outer_total o [] = 0
outer_total o (p ∷ ps) = breadth (code p.code o 0 0 (λ i. Argument)) + 80 + 2000000 + outer_total (o + funs p.code) ps

call_numbered_within : (x : ℕ) (k : KernelType) → kernel_nodes k ≤ 10000 → (fs : List Function) (r : ℕ)
    → SpelledWithin r (items function_code fs) → SpelledWithin (2000000 + r)
    (items function_code (call_of_type x k ++ fs))
call_numbered_within x (of_ground g) few fs r s = within_more (2000000 + r) (omega arith) s
call_numbered_within x (to q t) few fs r s =
    within_then {j = 2000000} (let w = call_within q (omega (arith, leaves_few q)) in
    record { bytes = w.bytes; spell = w.spell; short = w.short }) s

module _ (all : List Kernel) (are : AreWhole all) where
  can : AllByRecursion CanSpell (T all)
  can = all_spelled (T all) (few all are) (proper all are) (T all) (proper all are)

  module _ (o x n e : ℕ) (p : Kernel) (is : IsWhole p) (here : Here all o x n e p) where
    abbrev the_body : Ir
    the_body = code p.code o 0 0 (λ i. Argument)

    body_near : Near the_body
    body_near =
        near (T all) (IsOuterPlace (lets p.code)) (lets p.code) (proper all are) (outer_near (lets p.code)) the_body
        (body_range all are o x n e p is here)

    init_within_code : SpelledWithin (breadth the_body + 80) (function_code (init_from o p.code))
    init_within_code =
        let slots = lets p.code in
        let low = lets_depth p.code in
        let flat = is.flat in
        let two_more = temps_two (wants_spare the_body) in
        let w = expression_width the_body 0 (0 + slots) end in
        let nodes = code_size p.code o 0 0 (λ i. Argument) in
        let many = is.few in
        let b = narrow the_body body_near in
        within_more (breadth the_body + 80) (omega arith) (within_sized (omega arith)
        (within_then {j = 11} (locals_within (slots + spare_count (wants_spare the_body)) (omega arith))
        (expression_within (init_from o p.code).body (
          omega arith,
          (
            omega arith,
            expression_fit 0 (slots + spare_count (wants_spare the_body)) (omega arith) (0 + slots)
                (omega arith) the_body (body_fine all are o x n e p is here)
                (body_sees all are o x n e p is here _ (omega arith)) body_near
                (let nd = body_needs all are o x n e p is here in omega arith) end tt,
          ),
        ))))

  outer_within : (o x n e : ℕ) (ps : List Kernel) → AllByRecursion IsWhole ps → Placed all o x n e ps
      → SpelledWithin (outer_total o ps) (items function_code (outer_functions o x ps))
  outer_within o x n e [] a h = within_nil function_code
  outer_within o x n e (p ∷ ps) a h =
      within_more (outer_total o (p ∷ ps)) (omega arith)
      (within_then (init_within_code o x n e p a.0 (placed_here all o x n e p ps h))
      (call_numbered_within x p.kind a.0.nodes (outer_functions (o + funs p.code) (x + calls p.kind) ps)
      (outer_total (o + funs p.code) ps) (outer_within (o + funs p.code) (x + calls p.kind) (suc (n + calls p.kind))
      (suc (e + calls p.kind)) ps a.1 (placed_next all o x n e p ps h))))

  -- all bodies
  bodies_narrow : (o x n e : ℕ) (ps : List Kernel) → AllByRecursion IsWhole ps → Placed all o x n e ps
      → AllByRecursion CanSpell (all_functions o ps) → total (all_functions o ps) + outer_total o ps
      ≤ 35_060 * length (all_functions o ps) + 4_000_080 * length ps
  bodies_narrow o x n e [] a h c = omega arith
  bodies_narrow o x n e (p ∷ ps) a h c =
      let ours = first_all CanSpell (functions p.code o 0) _ c in
      let theirs = second_all CanSpell (functions p.code o 0) _ c in
      let more =
      bodies_narrow (o + funs p.code) (x + calls p.kind) (suc (n + calls p.kind)) (suc (e + calls p.kind)) ps
      a.1 (placed_next all o x n e p ps h) theirs in
      let sums = total_append (functions p.code o 0) (all_functions (o + funs p.code) ps) in
      let lengths = length-append (functions p.code o 0) (all_functions (o + funs p.code) ps) in
      let f = all_slim (functions p.code o 0) ours in
      let b = slim (code p.code o 0 0 (λ i. Argument)) (body_near o x n e p a.0 (placed_here all o x n e p ps h)) in
      let nodes = code_size p.code o 0 0 (λ i. Argument) in
      let made = counted p.code o 0 0 (λ i. Argument) in
      let len = functions_length p.code o 0 in
      let many = a.0.few in
      omega arith

  small_from : (o : ℕ) (ps : List Kernel) → AllByRecursion IsWhole ps → AllByRecursion CanSpell (all_functions o ps)
      → AllByRecursion IsSmall (all_functions o ps)
  small_from o [] a c = tt
  small_from o (p ∷ ps) a c =
      both_all IsSmall (functions p.code o 0) _ (all_small (functions p.code o 0)
      (first_all CanSpell (functions p.code o 0) _ c)
      (let nodes = code_size p.code o 0 0 (λ i. Argument) in let many = a.0.few in omega arith))
      (small_from (o + funs p.code) ps a.1 (second_all CanSpell (functions p.code o 0) _ c))

  counted_funcs : (length (linked all).funcs ≤ 100_200) × (length all ≤ 100)
  counted_funcs =
      (simp (length-append, length-map) (omega (arith, outer_length 0 2 all, few all are, are.few)), are.few)

  kinds_section : SpelledWithin 600_000 (section 3 function_kind (linked all).funcs)
  kinds_section =
      let c = counted_funcs in
      let n = few all are in
      within_more 600_000 (omega (arith, c.1)) (within_section {k = 5 + (5 * length (T all) + 10 * length all)} 3
      function_kind (linked all).funcs (omega (arith, c.1))
      (within_vector function_kind (linked all).funcs (omega (arith, c.0))
      (kinds_within Two (T all) (outer_functions 0 2 all) (10 * length all)
      (outer_kinds 0 2 all (omega (arith, c.1))))))

  exports_section : SpelledWithin 20_000 (section 7 export (linked all).exports)
  exports_section =
      let ks = are.few in
      within_more 20_000 (omega arith) (within_section {k = 5 + 160 * length all} 7 export (linked all).exports
      (omega arith) (within_vector export (linked all).exports (omega (arith, exports_length (count all) all))
      (exports_within (count all) all are.all (omega (arith, few all are)))))

  code_section : SpelledWithin 3_950_000_000 (section 10 function_code (linked all).funcs)
  code_section =
      let c = counted_funcs in
      let n = few all are in
      let narrow_all = bodies_narrow 0 2 (count all) 0 all are.all (all_placed all) can in
      within_more 3_950_000_000 (omega (arith, c.1)) (within_section {k = 5 + (total (T all) + outer_total 0 all)} 10
      function_code (linked all).funcs (omega (arith, c.1))
      (within_vector function_code (linked all).funcs (omega (arith, c.0))
      (funcs_within Two (T all) (outer_functions 0 2 all) (outer_total 0 all) can (small_from 0 all are.all can)
      (outer_within 0 2 (count all) 0 all are.all (all_placed all)))))

  types_section : SpelledWithin 1_002_000 (section 1 function_type (linked all).types)
  types_section =
      let ks = are.few in
      within_more 1_002_000 (omega arith) (within_section {k = 5 + (14 + (12 + 10013 * length all))} 1 function_type
      (linked all).types (omega arith) (within_vector function_type (linked all).types
      (omega (arith, call_types_few all)) (within_then {j = 14} closure_within
      (within_then {j = 12} init_within (types_within all are.all)))))

  pub module_spelled : SpelledWithin 4_000_000_000 (wasm_module (linked all))
  module_spelled =
      let gap = customs_within in
      let n = few all are in
      within_more 4_000_000_000 (omega arith) (within_then header_within
      (within_then gap (within_then types_section
      (within_then gap (within_then no_imports
      (within_then gap (within_then kinds_section
      (within_then gap (within_then (table_within record { min = count all; max = Some (count all) } (count all) refl
      (omega arith) (omega arith))
      (within_then gap (within_then (memory_within record { min = 64; max = Some 64 } 64 refl (omega arith)
      (omega arith))
      (within_then gap (within_then globals_within
      (within_then gap (within_then exports_section
      (within_then gap (within_then (elements_within (count all) n)
      (within_then gap (within_then code_section
      (within_then gap (within_then (within_absent 11 data_segment) gap)))))))))))))))))))))

pub spelled_short : (ps : List Kernel) → AreWhole ps → SpelledShort (wasm_module (linked ps))
spelled_short all are =
    let s = module_spelled all are in record {
      bytes = s.bytes;
      spell = s.spell;
      short = let p = s.short in
          omega arith;
    }

pub linked_is_spelled : LinkedIsSpelled
linked_is_spelled ps are fit = spelled_short ps (whole ps are fit)
