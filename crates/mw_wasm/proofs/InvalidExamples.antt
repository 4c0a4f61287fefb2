-- Lists of instructions and modules that aren't valid, by looking at what a typing of them would be.
use Rattle.std.specs.Prelude.{◌≡◌, ◌≤◌, ◌<◌, ℕ, suc, ◌+◌, ◌^◌, Bool, true, false, Option, IsSome, Some, None, List, []}
use Rattle.std.specs.Prelude.{◌∷◌, ◌++◌, length, slice_get}
use Rattle.std.proofs.Common.{refl, sym, ap, subst, ◌∙◌, arith, lit≤}
use Rattle.mw_wasm.specs.declared.values.ValType.{ValType}
use Rattle.mw_wasm.specs.declared.values.ValType.TheVariants.{I32, I64}
use Rattle.mw_wasm.specs.declared.numbers.LoadOp.{LoadOp}
use Rattle.mw_wasm.specs.declared.numbers.StoreOp.{StoreOp}
use Rattle.mw_wasm.specs.Store.{load_size, store_size, store_type}
use Rattle.mw_wasm.specs.declared.numbers.NumOp.TheVariants as number
use Rattle.mw_wasm.specs.declared.numbers.IntOp.TheVariants.{Add, Eqz}
use Rattle.mw_wasm.specs.declared.numbers.LoadOp.TheVariants as load_op
use Rattle.mw_wasm.specs.declared.numbers.StoreOp.TheVariants as store_op
use Rattle.mw_wasm.specs.declared.modules.FuncType.{FuncType}
use Rattle.mw_wasm.specs.Syntax.{unreachable, nop, cond, br, give_back, call_indirect, local_get, global_set, load}
use Rattle.mw_wasm.specs.Syntax.{store, memory_size, memory_grow, const_i32, const_i64, numeric, end, next}
use Rattle.mw_wasm.specs.Validity.{Context, load_type, HasType, CodeHasType, of_end, of_next, of_unreachable, of_nop}
use Rattle.mw_wasm.specs.Validity.{of_loop, of_if, of_br, of_br_if, of_return, of_call_indirect, of_local_get}
use Rattle.mw_wasm.specs.Validity.{of_global_set, of_load, of_store, of_memory_size, of_memory_grow, of_const_i32}
use Rattle.mw_wasm.specs.Validity.{of_const_i64, of_numeric}
use Rattle.mw_wasm.specs.InvalidExamples.{InvalidLists, ValidLists, LoadAlignedTo, StoreAlignedTo, AlignmentRows}
use Rattle.mw_wasm.specs.InvalidExamples.{InvalidModules}

longer : (xs ys : List ValType) → length (xs ++ ys) ≡ length xs + length ys
longer [] ys = omega arith
longer (x ∷ xs) ys = let h = longer xs ys in omega arith

at_end : {c : Context} {a b : List ValType} → CodeHasType c end a b → a ≡ b
at_end of_end = refl

abbrev last : List ValType → Option ValType
last [] = None
last (x ∷ []) = Some x
last (x ∷ y ∷ ys) = last (y ∷ ys)

last_of : (xs : List ValType) (x : ValType) → last (xs ++ x ∷ []) ≡ Some x
last_of [] x = refl
last_of (y ∷ []) x = refl
last_of (y ∷ z ∷ xs) x = last_of (z ∷ xs) x

last_behind : (xs ys : List ValType) (x : ValType) → last (xs ++ (ys ++ x ∷ [])) ≡ Some x
last_behind [] ys x = last_of ys x
last_behind (y ∷ []) [] x = refl
last_behind (y ∷ []) (z ∷ ys) x = last_of (z ∷ ys) x
last_behind (y ∷ z ∷ xs) ys x = last_behind (z ∷ xs) ys x

two_types : (xs ys zs : List ValType) → xs ++ I64 ∷ [] ≡ ys ++ (zs ++ I32 ∷ []) → ⊥
two_types xs ys zs e = let m : Some I64 ≡ Some I32 = sym (last_of xs I64) ∙ (ap last e ∙ last_behind ys zs I32) in
    absurd (cc)

abbrev second : Option (ValType × Bool) → Bool
second None = true
second (Some p) = p.1

none_there : {A : Type 0} (o : Option A) → o ≡ None → IsSome o → ⊥
none_there o e h = let k : false ≡ true = subst (λ o. IsSome o) e h in absurd (cc)

nothing_above : (below front : List ValType) (t : ValType) → [] ≡ below ++ (front ++ t ∷ []) → ⊥
nothing_above below front t e = let k = ap length e in let l = longer below (front ++ t ∷ []) in let j =
    longer front (t ∷ []) in omega arith

missing : (c : Context) (outs : List ValType) → ¬ CodeHasType c (next (numeric (number.I32 Add)) end) [] outs
missing c outs (of_next below taken left (of_numeric p q) e rest) = let j = ap length p in let k = ap length e in
    let l = longer below taken in omega arith

wrong : (c : Context) (ins outs : List ValType)
    → ¬ CodeHasType c (next (const_i64 5) (next (numeric (number.I32 Eqz)) end)) ins outs
wrong c ins outs (of_next b t l of_const_i64 e (of_next b' t' l' (of_numeric p q) e' rest)) =
    two_types b b' [] (e' ∙ ap (λ x. b' ++ x) p)

behind : (c : Context) (ins outs : List ValType)
    → ¬ CodeHasType c (next unreachable (next (const_i64 5) (next (numeric (number.I32 Eqz)) end))) ins outs
behind c ins outs (of_next below taken left of_unreachable e rest) = wrong c (below ++ left) outs rest

left_over : (c : Context) → ¬ CodeHasType c (next (const_i32 1) end) [] []
left_over c (of_next below taken left of_const_i32 e rest) = let k = ap length (at_end rest) in let l =
    longer below (I32 ∷ []) in omega arith

no_result : (c : Context) → ¬ CodeHasType c (next nop end) [] (I32 ∷ [])
no_result c (of_next below taken left of_nop e rest) = let k = ap length (at_end rest) in let j = ap length e in let l =
    longer below [] in omega arith

no_label : (c : Context) (ins outs : List ValType) → c.labels ≡ [] → ¬ CodeHasType c (next (br 0) end) ins outs
no_label c ins outs z (of_next below taken left (of_br b label p q) e rest) = let k = p in absurd (cc)

no_local : (c : Context) (ins outs : List ValType) → c.locals ≡ [] → ¬ CodeHasType c (next (local_get 0) end) ins outs
no_local c ins outs z (of_next below taken left (of_local_get p) e rest) = absurd (cc)

no_table : (c : Context) (ins outs : List ValType) → c.table ≡ None → ¬ CodeHasType c (next (call_indirect 0) end) ins
    outs
no_table c ins outs z (of_next below taken left (of_call_indirect t s p q r) e rest) = none_there c.table z s

no_load : (c : Context) (ins outs : List ValType) → c.memory ≡ None → ¬ CodeHasType c (next (load load_op.I32 0 0) end)
    ins outs
no_load c ins outs z (of_next below taken left (of_load s a t) e rest) = none_there c.memory z s

no_store : (c : Context) (ins outs : List ValType) → c.memory ≡ None
    → ¬ CodeHasType c (next (store store_op.I32 0 0) end) ins outs
no_store c ins outs z (of_next below taken left (of_store s a t) e rest) = none_there c.memory z s

no_growth : (c : Context) (ins outs : List ValType) → c.memory ≡ None → ¬ CodeHasType c (next memory_grow end) ins outs
no_growth c ins outs z (of_next below taken left (of_memory_grow s) e rest) = none_there c.memory z s

no_size : (c : Context) (ins outs : List ValType) → c.memory ≡ None → ¬ CodeHasType c (next memory_size end) ins outs
no_size c ins outs z (of_next below taken left (of_memory_size s) e rest) = none_there c.memory z s

constant_set : (c : Context) (ins outs : List ValType) → slice_get c.globals 0 ≡ Some (I32, false)
    → ¬ CodeHasType c (next (global_set 0) end) ins outs
constant_set c ins outs z (of_next below taken left (of_global_set p) e rest) = let k : false ≡ true =
    ap second (sym z ∙ p) in absurd (cc)

no_else : (c : Context) (ins outs : List ValType)
    → ¬ CodeHasType c (next (cond (Some I32) (next (const_i32 1) end) end) end) ins outs
no_else c ins outs (of_next below taken left (of_if p a b) e rest) = let k = ap length (at_end b ∙ p) in omega arith

returns_nothing : (c : Context) (outs : List ValType) → c.results ≡ I32 ∷ [] → ¬ CodeHasType c (next give_back end) []
    outs
returns_nothing c outs z (of_next below taken left (of_return b p) e rest) =
    nothing_above below b I32 (e ∙ ap (λ ts. below ++ ts) (p ∙ ap (λ ts. b ++ ts) z))

returns_wrong : (c : Context) (ins outs : List ValType) → c.results ≡ I32 ∷ []
    → ¬ CodeHasType c (next (const_i64 5) (next give_back end)) ins outs
returns_wrong c ins outs z (of_next b t l of_const_i64 e (of_next b' t' l' (of_return u p) e' rest)) =
    two_types b b' u (e' ∙ ap (λ ts. b' ++ ts) (p ∙ ap (λ ts. u ++ ts) z))

branches_with_nothing : (c : Context) (outs : List ValType) → c.labels ≡ (I32 ∷ []) ∷ []
    → ¬ CodeHasType c (next (br 0) end) [] outs
branches_with_nothing c outs z (of_next below taken left (of_br b label p q) e rest) =
    nothing_above below b I32
    (e ∙ ap (λ ts. below ++ ts) (q ∙ ap (λ ts. b ++ ts) (one_label label (sym p ∙ ap (λ ls. slice_get ls 0) z))))
  where
    one_label : (label : List ValType) → Some label ≡ Some (I32 ∷ []) → label ≡ I32 ∷ []
    one_label label e = cc

pub invalid_lists : InvalidLists
invalid_lists = record {
  operand_missing = missing;
  operand_of_wrong_type = wrong;
  wrong_behind_unreachable = behind;
  operand_left = left_over;
  result_missing = no_result;
  no_label = λ c z ins outs h. no_label c ins outs z h;
  no_local = λ c z ins outs h. no_local c ins outs z h;
  no_table = λ c z ins outs h. no_table c ins outs z h;
  no_memory_to_load = λ c z ins outs h. no_load c ins outs z h;
  no_memory_to_store = λ c z ins outs h. no_store c ins outs z h;
  no_memory_to_grow = λ c z ins outs h. no_growth c ins outs z h;
  no_memory_to_measure = λ c z ins outs h. no_size c ins outs z h;
  constant_global_set = λ c z ins outs h. constant_set c ins outs z h;
  if_with_a_result_without_else = no_else;
  return_without_result = λ c z outs h. returns_nothing c outs z h;
  return_of_wrong_type = λ c z ins outs h. returns_wrong c ins outs z h;
  branch_without_result = λ c z outs h. branches_with_nothing c outs z h;
}

pub valid_lists : ValidLists
valid_lists = record {
  loop_again = λ c. of_loop refl (of_next [] [] (I32 ∷ []) (of_br [] [] refl refl) refl of_end);
  loop_again_if = λ c. of_loop refl
      (of_next [] [] (I32 ∷ []) of_const_i32 refl
      (of_next [] (I32 ∷ []) [] (of_br_if refl refl) refl
      (of_next [] [] (I64 ∷ []) of_const_i64 refl
      (of_next [] (I64 ∷ []) (I32 ∷ []) (of_numeric refl refl) refl of_end))));
  variable_set = λ c e. of_global_set e;
  return_above = λ c e. of_return (I64 ∷ []) (ap (λ ts. I64 ∷ ts) (sym e));
}

load_aligned : (o : LoadOp) (t : ValType) (k : ℕ) → t ≡ load_type o → 2 ^ k ≤ load_size o
    → (2 ^ suc k ≤ load_size o → ⊥) → LoadAlignedTo o t k
load_aligned o t k e h g = (λ c offset s. of_load s h e, λ c offset ins outs typed. past c offset ins outs typed)
  where
    past : (c : Context) (offset : ℕ) (ins outs : List ValType) → ¬ HasType c (load o (suc k) offset) ins outs
    past c offset ins outs (of_load s a t) = g a

store_aligned : (o : StoreOp) (t : ValType) (k : ℕ) → t ≡ store_type o → 2 ^ k ≤ store_size o
    → (2 ^ suc k ≤ store_size o → ⊥) → StoreAlignedTo o t k
store_aligned o t k e h g = (λ c offset s. of_store s h e, λ c offset ins outs typed. past c offset ins outs typed)
  where
    past : (c : Context) (offset : ℕ) (ins outs : List ValType) → ¬ HasType c (store o (suc k) offset) ins outs
    past c offset ins outs (of_store s a t) = g a

past_1 : 2 ≤ 1 → ⊥
past_1 h = omega arith

past_2 : 4 ≤ 2 → ⊥
past_2 h = omega arith

past_4 : 8 ≤ 4 → ⊥
past_4 h = omega arith

past_8 : 16 ≤ 8 → ⊥
past_8 h = omega arith

pub alignment_rows : AlignmentRows
alignment_rows = record {
  i32_load = load_aligned load_op.I32 I32 2 refl (lit≤ tt) past_4;
  i64_load = load_aligned load_op.I64 I64 3 refl (lit≤ tt) past_8;
  i32_load8_s = load_aligned load_op.I32S8 I32 0 refl (lit≤ tt) past_1;
  i32_load8_u = load_aligned load_op.I32U8 I32 0 refl (lit≤ tt) past_1;
  i32_load16_s = load_aligned load_op.I32S16 I32 1 refl (lit≤ tt) past_2;
  i32_load16_u = load_aligned load_op.I32U16 I32 1 refl (lit≤ tt) past_2;
  i64_load8_s = load_aligned load_op.I64S8 I64 0 refl (lit≤ tt) past_1;
  i64_load8_u = load_aligned load_op.I64U8 I64 0 refl (lit≤ tt) past_1;
  i64_load16_s = load_aligned load_op.I64S16 I64 1 refl (lit≤ tt) past_2;
  i64_load16_u = load_aligned load_op.I64U16 I64 1 refl (lit≤ tt) past_2;
  i64_load32_s = load_aligned load_op.I64S32 I64 2 refl (lit≤ tt) past_4;
  i64_load32_u = load_aligned load_op.I64U32 I64 2 refl (lit≤ tt) past_4;
  i32_store = store_aligned store_op.I32 I32 2 refl (lit≤ tt) past_4;
  i64_store = store_aligned store_op.I64 I64 3 refl (lit≤ tt) past_8;
  i32_store8 = store_aligned store_op.I32To8 I32 0 refl (lit≤ tt) past_1;
  i32_store16 = store_aligned store_op.I32To16 I32 1 refl (lit≤ tt) past_2;
  i64_store8 = store_aligned store_op.I64To8 I64 0 refl (lit≤ tt) past_1;
  i64_store16 = store_aligned store_op.I64To16 I64 1 refl (lit≤ tt) past_2;
  i64_store32 = store_aligned store_op.I64To32 I64 2 refl (lit≤ tt) past_4;
}

past_pages : 65537 ≤ 65536 → ⊥
past_pages h = omega arith

three_of_two : 3 ≤ 2 → ⊥
three_of_two h = omega arith

itself : (n : ℕ) → n < n → ⊥
itself n h = omega arith

no_way : false ≡ true → ⊥
no_way e = cc

one_is_zero : ◌≡◌ {A = ℕ} 1 0 → ⊥
one_is_zero e = omega arith

no_type : (t : FuncType) → None ≡ Some t → ⊥
no_type t e = cc

no_body : (t : FuncType) → Some record { params = []; results = I32 ∷ [] } ≡ Some t → {c : Context}
    → CodeHasType c end [] t.results → ⊥
no_body t e h = let k : ◌≡◌ {A = ℕ} 0 1 =
    ap length (at_end h ∙ sym (ap (λ (t : FuncType). t.results) (one_type t e))) in omega arith
  where
    one_type : (t : FuncType) → Some record { params = []; results = I32 ∷ [] } ≡ Some t
        → record { params = []; results = I32 ∷ [] } ≡ t
    one_type t e = cc

pub invalid_modules : InvalidModules
invalid_modules = record {
  two_results = λ h. past_1 h.types.0;
  minimum_above_maximum = λ h. past_1 h.memory.1.1;
  minimum_of_65537_pages = λ h. past_pages h.memory.0;
  maximum_of_65537_pages = λ h. past_pages h.memory.1.0;
  table_above_maximum = λ h. three_of_two h.table.1.1;
  name_twice = λ h. h.names.0.1.0 refl;
  function_past_exported = λ h. itself 1 h.exports.0;
  no_memory_exported = λ h. no_way h.exports.0.0;
  second_memory_exported = λ h. one_is_zero h.exports.0.1;
  no_table_exported = λ h. no_way h.exports.0.0;
  no_global_exported = λ h. itself 0 h.exports.0;
  global_past_exported = λ h. itself 1 h.exports.0;
  element_without_table = λ h. no_way h.elements.0.0;
  element_past_functions = λ h. itself 1 h.elements.0.2.0;
  data_without_memory = λ h. no_way h.segments.0.0;
  offset_of_i64 = λ h. h.segments.0.1;
  offset_of_a_global = λ h. h.segments.0.1;
  offset_of_nothing = λ h. h.segments.0.1;
  global_of_wrong_type = λ h. h.globals.0;
  global_of_two = λ h. h.globals.0;
  global_behind_nop = λ h. h.globals.0;
  type_past = λ h. no_type h.funcs.0.0 h.funcs.0.1;
  body_without_result = λ h. no_body h.funcs.0.0 h.funcs.0.1 h.funcs.0.2;
}
