-- An emitted module is valid and exports what it should.
use Rattle.std.proofs.Common.{◌≡◌, ℕ, zero, suc, ◌+◌, ◌≤◌, ◌<◌, ◌^◌, Bool, true, false, List, [], ◌∷◌, ◌++◌, length}
use Rattle.std.proofs.Common.{Some, refl, ap, ◌∙◌, arith, map, replicate, length-append}
use Rattle.std.specs.Prelude.{slice_get, IsSome}
use Rattle.std.specs.List.{AllByRecursion}
use Rattle.std.proofs.lemmas.List.{length-map}
use Rattle.mw_term.specs.Terms.{KernelType, GroundType, base, of_ground, to}
use Rattle.mw_wasm.specs.declared.values.ValType.{ValType}
use Rattle.mw_wasm.specs.declared.values.ValType.TheVariants.{I32, I64}
use Rattle.mw_wasm.specs.declared.modules.FuncType.{FuncType}
use Rattle.mw_wasm.specs.Syntax.{PureModule, Exporting, end}
use Rattle.mw_wasm.specs.Validity.{Context, CodeHasType, context_of, IsValidFunction, IsValidElement, IsThere}
use Rattle.mw_wasm.specs.Validity.{NamesDiffer, IsValid, of_end, of_next, of_global_get, of_global_set, of_local_get}
use Rattle.mw_wasm.specs.Validity.{of_local_set, of_const_i32}
use Rattle.mw_ir.specs.Ir.{Ir, IrFunc}
use Rattle.mw_meaning.specs.Shapes.{leaf_count, init_type, call_type}
use Rattle.mw_key.specs.declared.version.Version.{Version}
use Rattle.mw_gen.specs.Generate.{wants_spare, tail_wants_spare, spare_count, is_loop, body_wants_spare}
use Rattle.mw_gen.specs.Generate.{body_code, function_for, init_function, call_of, argument_of, counting, elements_of}
use Rattle.mw_gen.specs.Generate.{more_types, more_functions, closure_type, expression_code, restarting, call_numbered}
use Rattle.mw_gen.specs.Generate.{module_with}
use Rattle.mw_gen.proofs.Slots.{slots_needed}
use Rattle.mw_gen.proofs.Invocations.{argument_need}
use Rattle.mw_gen.proofs.Valid.{Offers, Sees, valid, loop_valid}
use Rattle.mw_conv.proofs.Ranges.{both_all}

-- what is known of each function's code
pub record Proper (f : IrFunc) : Type 0 where
  pub sees : (n : ℕ) → 2 + f.slots ≤ n → Sees f.body 2 n
  pub needs : slots_needed f.body ≤ f.slots

abbrev pub AllProper : List IrFunc → Type 0
AllProper fs = AllByRecursion Proper fs

replicate_get : (n j : ℕ) → j < n → slice_get (replicate n I64) j ≡ Some I64
replicate_get zero j lt = absurd (omega arith)
replicate_get (suc n) zero lt = refl
replicate_get (suc n) (suc j) lt = replicate_get n j (omega arith)

entry_get : (n j : ℕ) → j < 2 + n → slice_get (I64 ∷ I64 ∷ replicate n I64) j ≡ Some I64
entry_get n zero lt = refl
entry_get n (suc zero) lt = refl
entry_get n (suc (suc j)) lt = replicate_get n j (omega arith)

temps_room : (c : Bool) (s : ℕ) → c ≡ true → suc (2 + s) < 2 + (s + spare_count c)
temps_room true s e = omega arith
temps_room false s e = absurd (cc)

init_room : (c : Bool) (s : ℕ) → c ≡ true → suc (0 + s) < s + spare_count c
init_room true s e = omega arith
init_room false s e = absurd (cc)

pub argument_sees : (s : GroundType) (k n : ℕ) → k + leaf_count s ≤ n → Sees (argument_of s k) 0 n
argument_sees (base b) k n le = omega arith
argument_sees (Rattle.mw_term.specs.Terms.product s t) k n le =
    (argument_sees s k n (omega arith), argument_sees t (k + leaf_count s) n (omega arith))

-- What the code of kernels speaks of in a module: their functions' type, the table, the memory and the top of the heap.
pub record Suits (m : PureModule) : Type 0 where
  pub type0 : slice_get m.types 0 ≡ Some closure_type
  pub table : IsSome m.table
  pub memory : IsSome m.memory
  pub top : slice_get (context_of m).globals 0 ≡ Some (I32, true)

suits_alone : (v : Version) (t : List IrFunc) (slots : ℕ) (body : Ir) (k : KernelType)
    → Suits (module_with v t slots body k)
suits_alone v t slots body k = record { type0 = refl; table = refl; memory = refl; top = refl }

module _ (v : Version) (m : PureModule) (suits : Suits m) where
  abbrev pub within : List ValType → Context
  within ls = record (context_of m) { locals = ls; labels = (I64 ∷ []) ∷ []; results = I64 ∷ [] }

  offers : (n : ℕ) (ls : List ValType) → ((j : ℕ) → j < n → slice_get ls j ≡ Some I64) → Offers n (within ls)
  offers n ls h = record { type0 = suits.type0; table = suits.table; memory = suits.memory; top = suits.top; all = h }

  func_valid : (f : IrFunc) → Proper f → IsValidFunction m (function_for v f)
  func_valid f p = (closure_type, suits.type0, go (is_loop v f.body))
    where
      go : (z : Bool)
          → CodeHasType (within (I64 ∷ I64 ∷ replicate (f.slots + spare_count (body_wants_spare z f.body)) I64))
          (body_code z f.body (2 + f.slots)) [] (I64 ∷ [])
      go false =
          let n = 2 + (f.slots + spare_count (wants_spare f.body)) in
          valid 2 n (2 + f.slots) f.body _ (offers n _ (λ j lt. entry_get _ j lt)) (p.sees n (omega arith))
          (omega (arith, p.needs)) (temps_room (wants_spare f.body) f.slots) end [] (I64 ∷ []) of_end
      go true =
          let n = 2 + (f.slots + spare_count (tail_wants_spare f.body)) in
          loop_valid n (2 + f.slots) f.body _ (offers n _ (λ j lt. entry_get _ j lt)) (omega arith)
          (p.sees n (omega arith)) (omega (arith, p.needs)) (temps_room (tail_wants_spare f.body) f.slots)

  pub funcs_valid : (fs : List IrFunc) → AllProper fs → AllByRecursion (IsValidFunction m) (map (function_for v) fs)
  funcs_valid [] p = tt
  funcs_valid (f ∷ fs) p = (func_valid f p.0, funcs_valid fs p.1)

  outer_valid : (slots : ℕ) (body : Ir) → slots_needed body ≤ slots → ((n : ℕ) → slots ≤ n → Sees body 0 n)
      → CodeHasType (within (replicate (slots + spare_count (wants_spare body)) I64))
      (expression_code body 0 (0 + slots) end) [] (I64 ∷ [])
  outer_valid slots body nd more =
      let n = slots + spare_count (wants_spare body) in
      valid 0 n (0 + slots) body _ (offers n _ (λ j lt. replicate_get n j lt)) (more n (omega arith)) (omega arith)
      (init_room (wants_spare body) slots) end [] (I64 ∷ []) of_end

  pub init_valid : (slots : ℕ) (body : Ir) → slice_get m.types 1 ≡ Some init_type → slots_needed body ≤ slots
      → ((n : ℕ) → slots ≤ n → Sees body 0 n) → IsValidFunction m (init_function slots body)
  init_valid slots body is nd more = (init_type, is, outer_valid slots body nd more)

  pub restarting_valid : (slots : ℕ) (body : Ir) → slice_get m.types 1 ≡ Some init_type → slots_needed body ≤ slots
      → ((n : ℕ) → slots ≤ n → Sees body 0 n) → IsValidFunction m (restarting (init_function slots body))
  restarting_valid slots body is nd more = (
    init_type,
    is,
    of_next [] [] (I32 ∷ []) of_const_i32 refl
        (of_next [] (I32 ∷ []) [] (of_global_set suits.top) refl (outer_valid slots body nd more)),
  )

-- `call`, whose locals are the closure, the leaves, two more and the heap's end
call_locals : (n j : ℕ) → j < n + 3 → slice_get (I64 ∷ (replicate n I64 ++ I64 ∷ I64 ∷ I32 ∷ [])) j ≡ Some I64
call_locals n zero lt = refl
call_locals n (suc j) lt = go n j (omega arith)
  where
    go : (n j : ℕ) → j < n + 2 → slice_get (replicate n I64 ++ I64 ∷ I64 ∷ I32 ∷ []) j ≡ Some I64
    go zero zero lt = refl
    go zero (suc zero) lt = refl
    go zero (suc (suc j)) lt = absurd (omega arith)
    go (suc n) zero lt = refl
    go (suc n) (suc j) lt = go n j (omega arith)

call_keep : (n : ℕ) → slice_get (I64 ∷ (replicate n I64 ++ I64 ∷ I64 ∷ I32 ∷ [])) (suc (suc (suc n))) ≡ Some I32
call_keep n = go n
  where
    go : (n : ℕ) → slice_get (replicate n I64 ++ I64 ∷ I64 ∷ I32 ∷ []) (suc (suc n)) ≡ Some I32
    go zero = refl
    go (suc n) = go n

pub call_valid : (v : Version) (m : PureModule) → Suits m → (s : GroundType) (x : ℕ)
    → slice_get m.types x ≡ Some (call_type s) → IsValidFunction m (call_numbered x s)
call_valid v m suits s x is =
    let n = leaf_count s + 3 in
    let c = within v m suits (I64 ∷ (replicate (leaf_count s) I64 ++ I64 ∷ I64 ∷ I32 ∷ [])) in (
      call_type s,
      is,
      of_next [] [] (I32 ∷ []) (of_global_get true suits.top) refl
          (of_next [] (I32 ∷ []) [] (of_local_set (call_keep (leaf_count s))) refl
          (valid 0 n (0 + suc (leaf_count s)) (call_of s) c (offers v m suits n _
          (λ j lt. call_locals (leaf_count s) j lt)) (omega arith, argument_sees s 1 n (omega arith))
          (omega (arith, argument_need s 1)) (λ q. omega arith) _ [] (I64 ∷ [])
          (of_next (I64 ∷ []) [] (I32 ∷ []) (of_local_get (call_keep (leaf_count s))) refl
          (of_next (I64 ∷ []) (I32 ∷ []) [] (of_global_set suits.top) refl of_end)))),
    )

more_valid : (v : Version) (t : List IrFunc) (slots : ℕ) (body : Ir) (k : KernelType)
    → AllByRecursion (IsValidFunction (module_with v t slots body k)) (more_functions k)
more_valid v t slots body (of_ground g) = tt
more_valid v t slots body (to s b) =
    (call_valid v (module_with v t slots body (to s b)) (suits_alone v t slots body (to s b)) s 2 refl, tt)

pub counting_below : (k n m : ℕ) → k + n ≤ m → AllByRecursion (λ f. f < m) (counting k n)
counting_below k zero m le = tt
counting_below k (suc n) m le = (omega arith, counting_below (suc k) n m (omega arith))

funcs_length : (v : Version) (t : List IrFunc) (slots : ℕ) (body : Ir) (k : KernelType)
    → length (module_with v t slots body k).funcs ≡ length t + suc (length (more_functions k))
funcs_length v t slots body k = length-append (map (function_for v) t) (init_function slots body ∷ more_functions k)
    ∙ ap (λ x. x + suc (length (more_functions k))) (length-map t (function_for v))

heads : {a b : ℕ} {xs ys : List ℕ} → a ∷ xs ≡ b ∷ ys → a ≡ b
heads e = cc

pub few_results : (k : KernelType) → AllByRecursion (λ (t : FuncType). length t.results ≤ 1) (more_types k)
few_results (of_ground g) = tt
few_results (to s b) = (omega arith, tt)

pub module_valid : (v : Version) (t : List IrFunc) (slots : ℕ) (body : Ir) (k : KernelType) → AllProper t
    → ((n : ℕ) → slots ≤ n → Sees body 0 n) → slots_needed body ≤ slots → length t ≤ 2 ^ 32
    → IsValid (module_with v t slots body k)
module_valid v t slots body k proper sees nd few = record {
  types = (omega arith, (omega arith, few_results k));
  funcs =
      both_all _ (map (function_for v) t) _ (funcs_valid v (module_with v t slots body k)
      (suits_alone v t slots body k) t proper) (
        init_valid v (module_with v t slots body k)
            (suits_alone v t slots body k) slots body refl nd sees,
        more_valid v t slots body k,
      );
  table = (few, (few, omega arith));
  memory = (omega arith, (omega arith, omega arith));
  globals = (tt, tt);
  exports = exports k;
  names = names k;
  elements = elements (length t) refl;
  segments = tt;
}
  where
    exports : (k : KernelType) → AllByRecursion (λ (e : Exporting). IsThere (module_with v t slots body k) e.what)
        (module_with v t slots body k).exports
    exports (of_ground g) = (omega (arith, funcs_length v t slots body (of_ground g)), tt)
    exports (to s b) =
        (omega (arith, funcs_length v t slots body (to s b)), (omega (arith, funcs_length v t slots body (to s b)), tt))

    names : (k : KernelType) → NamesDiffer (module_with v t slots body k).exports
    names (of_ground g) = (tt, tt)
    names (to s b) = ((λ e. (let h = heads e in omega arith), tt), (tt, tt))

    elements : (n : ℕ) → length t ≡ n → AllByRecursion (IsValidElement (module_with v t slots body k)) (elements_of n)
    elements zero e = tt
    elements (suc n) e = ((refl, tt, counting_below 0 (suc n) _ (omega (arith, funcs_length v t slots body k))), tt)
