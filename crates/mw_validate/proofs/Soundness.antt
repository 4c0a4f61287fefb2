-- What passes the validator's tests is valid: behind each instruction, whatever types the operands have, some types
-- before it lead to them.
use Rattle.std.proofs.Common.{◌≡◌, ℕ, ◌≤◌, ◌^◌, Bool, true, false, ◌&&◌, List, [], ◌∷◌, ◌++◌, reverse, Option, Some}
use Rattle.std.proofs.Common.{None, refl, sym, ap, subst, ◌∙◌, append_assoc}
use Rattle.std.specs.Prelude.{IsSome, is_some, slice_get, nat_le}
use Rattle.std.proofs.lemmas.Bool.{leb-true}
use Rattle.std.proofs.lemmas.List.{append-nil, reverse-append, reverse-reverse}
use Rattle.mw_wasm.specs.declared.values.ValType.{ValType}
use Rattle.mw_wasm.specs.declared.values.ValType.TheVariants.{I32, I64}
use Rattle.mw_wasm.specs.Syntax.{Instruction, Code, unreachable, nop, block, loop, cond, br, br_if, br_table, give_back}
use Rattle.mw_wasm.specs.Syntax.{call, call_indirect, drop_value, select, local_get, local_set, local_tee, global_get}
use Rattle.mw_wasm.specs.Syntax.{global_set, load, store, memory_size, memory_grow, const_i32, const_i64, numeric, end}
use Rattle.mw_wasm.specs.Syntax.{next, Function, PureModule}
use Rattle.mw_wasm.specs.Store.{load_size, store_size}
use Rattle.mw_wasm.specs.Validity.{Context, HasType, CodeHasType, of_unreachable, of_nop, of_drop, of_select, of_block}
use Rattle.mw_wasm.specs.Validity.{of_loop, of_if, of_br, of_br_if, of_br_table, of_return, of_call, of_call_indirect}
use Rattle.mw_wasm.specs.Validity.{of_local_get, of_local_set, of_local_tee, of_global_get, of_global_set, of_load}
use Rattle.mw_wasm.specs.Validity.{of_store, of_memory_size, of_memory_grow, of_const_i32, of_const_i64, of_numeric}
use Rattle.mw_wasm.specs.Validity.{of_end, of_next, results_of, with_label, IsValid, IsValidFunction}
use Rattle.mw_validate.specs.Checks.{Operand, Operands, operands, pop, pops, push, pushes, opened, dead, at_height}
use Rattle.mw_validate.specs.Checks.{closes, all_take, effect, last_pops, goes_on, stops, after, after_code, PassesBody}
use Rattle.mw_validate.specs.Checks.{Checks}
use Rattle.mw_validate.proofs.OperandTypes.{Is, Among, Stands, any_type, any_is, push_back_one, some_among, Sure}
use Rattle.mw_validate.proofs.OperandTypes.{sure_is}
use Rattle.mw_validate.proofs.OperandTypes.{sure_some, sure_then, sure_so, sure_if, sure_at, both, all_take_is}
use Rattle.mw_validate.proofs.OperandTypes.{all_append}
use Rattle.mw_validate.proofs.MappedElements.{all_so}
use Rattle.mw_validate.proofs.OperandTypes.{sure_pop_any, sure_pop, sure_pop_each, push_back, sure_joined}

-- some operands before an instruction lead to these behind it
pub record Before (c : Context) (i : Instruction) (s : Operands) (outs : List ValType) : Type 0 where
  pub ins : List ValType
  pub among : Among s (reverse ins)
  pub below : List ValType
  pub taken : List ValType
  pub left : List ValType
  pub typed : HasType c i taken left
  pub ins_are : ins ≡ below ++ taken
  pub outs_are : outs ≡ below ++ left

pub record BeforeCode (c : Context) (code : Code) (s : Operands) (outs : List ValType) : Type 0 where
  pub ins : List ValType
  pub among : Among s (reverse ins)
  pub typed : CodeHasType c code ins outs

-- a test of an option
is_there : {A : Type 0} (o : Option A) → is_some o ≡ true → IsSome o
is_there o e = e

width : (align size : ℕ) → nat_le (2 ^ align) size ≡ true → 2 ^ align ≤ size
width align size e = leb-true _ _ e

-- the table of effects
abbrev Typed : Context → Instruction → (List ValType × List ValType) → Type 0
Typed c i t = HasType c i t.0 t.1

effect_typed : (c : Context) (i : Instruction) → Sure (effect c i) (Typed c i)
effect_typed c nop = sure_some ([], []) of_nop
effect_typed c (br_if l) = sure_then (sure_is (slice_get c.labels l))
    (λ ts h. sure_some (ts ++ I32 ∷ [], ts) (of_br_if h refl))
effect_typed c (call f) = sure_then (sure_is (slice_get c.funcs f))
    (λ k g. sure_then (sure_is (slice_get c.types k))
    (λ t h. sure_some (t.params, t.results) (of_call t (k, g, h) refl refl)))
effect_typed c (call_indirect k) =
    sure_if (is_some c.table)
    (λ e. sure_then (sure_is (slice_get c.types k))
    (λ t h. sure_some (t.params ++ I32 ∷ [], t.results) (of_call_indirect t (is_there c.table e) h refl refl)))
effect_typed c (local_get x) = sure_then (sure_is (slice_get c.locals x))
    (λ t h. sure_some ([], t ∷ []) (of_local_get h))
effect_typed c (local_set x) = sure_then (sure_is (slice_get c.locals x))
    (λ t h. sure_some (t ∷ [], []) (of_local_set h))
effect_typed c (local_tee x) = sure_then (sure_is (slice_get c.locals x))
    (λ t h. sure_some (t ∷ [], t ∷ []) (of_local_tee h))
effect_typed c (global_get x) = sure_then (sure_is (slice_get c.globals x))
    (λ g h. sure_some ([], g.0 ∷ []) (of_global_get g.1 h))
effect_typed c (global_set x) = sure_then (sure_is (slice_get c.globals x))
    (λ g h. sure_if g.1 (λ e. sure_some (g.0 ∷ [], []) (of_global_set (h ∙ ap (λ b. Some (g.0, b)) e))))
effect_typed c (load o align offset) = sure_if (is_some c.memory && nat_le (2 ^ align) (load_size o))
    (λ e. let h = both _ _ e in sure_some _ (of_load (is_there c.memory h.0) (width align (load_size o) h.1) refl))
effect_typed c (store o align offset) = sure_if (is_some c.memory && nat_le (2 ^ align) (store_size o))
    (λ e. let h = both _ _ e in sure_some _ (of_store (is_there c.memory h.0) (width align (store_size o) h.1) refl))
effect_typed c memory_size =
    sure_if (is_some c.memory) (λ e. sure_some ([], I32 ∷ []) (of_memory_size (is_there c.memory e)))
effect_typed c memory_grow =
    sure_if (is_some c.memory) (λ e. sure_some (I32 ∷ [], I32 ∷ []) (of_memory_grow (is_there c.memory e)))
effect_typed c (const_i32 n) = sure_some ([], I32 ∷ []) of_const_i32
effect_typed c (const_i64 n) = sure_some ([], I64 ∷ []) of_const_i64
effect_typed c (numeric o) = sure_some _ (of_numeric refl refl)
effect_typed c i = record { sure = tt }

turned : (outs left us : List ValType) → reverse outs ≡ reverse left ++ us → outs ≡ reverse us ++ left
turned outs left us e = sym (reverse-reverse outs)
    ∙ (ap (λ x. reverse x) e ∙ (reverse-append (reverse left) us ∙ ap (λ x. reverse us ++ x) (reverse-reverse left)))

turned_back : (us taken : List ValType) → reverse taken ++ us ≡ reverse (reverse us ++ taken)
turned_back us taken = sym (reverse-append (reverse us) taken ∙ ap (λ x. reverse taken ++ x) (reverse-reverse us))

-- behind what goes on
before_pushes : (c : Context) (i : Instruction) (s r : Operands) (taken left outs : List ValType)
    → HasType c i taken left → ((ts : List ValType) → Among r ts → Among s (reverse taken ++ ts))
    → Among (pushes left r) (reverse outs) → Before c i s outs
before_pushes c i s (operands os d) taken left outs h pop a =
    let b = push_back (reverse left) os d (reverse outs) a in
    record {
      ins = reverse b.0 ++ taken;
      among = subst (Among s) (turned_back b.0 taken) (pop b.0 b.2);
      below = reverse b.0;
      taken = taken;
      left = left;
      typed = h;
      ins_are = refl;
      outs_are = turned outs left b.0 b.1;
    }

before_effect : (c : Context) (i : Instruction) (s : Operands)
    → Sure (goes_on (effect c i) s) (λ r. (outs : List ValType) → Among r (reverse outs) → Before c i s outs)
before_effect c i s =
    sure_then (effect_typed c i)
    (λ t h. sure_then (sure_pop_each (reverse t.0) s)
    (λ r pop. sure_some (pushes t.1 r) (λ outs a. before_pushes c i s r t.0 t.1 outs h pop a)))

-- behind what does not
abbrev Takes : Context → Instruction → List ValType → Type 0
Takes c i ts = (below outs : List ValType) → HasType c i (below ++ ts) outs

last_typed : (c : Context) (i : Instruction) → Sure (last_pops c i) (Takes c i)
last_typed c unreachable = record { sure = λ below outs. of_unreachable }
last_typed c (br l) = sure_so (sure_is (slice_get c.labels l)) (λ ts h below outs. of_br below ts h refl)
last_typed c (br_table ls l) = sure_then (sure_is (slice_get c.labels l))
    (λ ts h. sure_if (all_take c.labels ts ls)
    (λ e. record {
      sure = λ below outs. of_br_table below ts (all_append _ ls (l ∷ []) (all_take_is c.labels ts ls e) (h, tt))
          (sym (append_assoc below ts (I32 ∷ [])));
    }))
last_typed c give_back = record { sure = λ below outs. of_return below refl }
last_typed c i = record { sure = tt }

before_stop : (c : Context) (i : Instruction) (s r : Operands) (ts outs : List ValType) → Takes c i ts
    → ((us : List ValType) → Among r us → Among s (reverse ts ++ us)) → Before c i s outs
before_stop c i s r ts outs h pop =
    let b = some_among r in
    record {
      ins = reverse b.0 ++ ts;
      among = subst (Among s) (turned_back b.0 ts) (pop b.0 b.1);
      below = [];
      taken = reverse b.0 ++ ts;
      left = outs;
      typed = h (reverse b.0) outs;
      ins_are = refl;
      outs_are = refl;
    }

before_last : (c : Context) (i : Instruction) (s : Operands)
    → Sure (stops (last_pops c i) s) (λ r. (outs : List ValType) → Among r (reverse outs) → Before c i s outs)
before_last c i s =
    sure_then (last_typed c i)
    (λ ts h. sure_then (sure_pop_each (reverse ts) s)
    (λ r pop. sure_some dead (λ outs a. before_stop c i s r ts outs h pop)))

-- a list that ends
at_height_is : (o : Option Operands) → at_height o ≡ true → (d : Bool) × (o ≡ Some (operands [] d))
at_height_is None e = absurd (cc)
at_height_is (Some (operands [] d)) e = (d, refl)
at_height_is (Some (operands (o ∷ os) d)) e = absurd (cc)

none_above : (d : Bool) → Stands [] d []
none_above false = refl
none_above true = tt

pub closed_among : (ts : List ValType) (s : Operands) → at_height (pops ts s) ≡ true → Among s (reverse ts)
closed_among ts s e =
    let h = at_height_is (pops ts s) e in
    let k = sure_at (sure_pop_each (reverse ts) s) h.1 in
    let a : Among s (reverse ts ++ []) = k [] (none_above h.0) in
    subst (Among s) (append-nil (reverse ts)) a

abbrev Leads : Context → Instruction → Operands → Type 0
Leads c i s = Sure (after c i s) (λ r. (outs : List ValType) → Among r (reverse outs) → Before c i s outs)

abbrev LeadsCode : Context → Code → Operands → Type 0
LeadsCode c code s = Sure (after_code c code s) (λ r. (outs : List ValType) → Among r (reverse outs)
    → BeforeCode c code s outs)

closes_at : (ts : List ValType) (ended : Option Operands) → closes ts ended ≡ true → (s : Operands) × (ended ≡ Some s)
    × Among s (reverse ts)
closes_at ts None e = absurd (cc)
closes_at ts (Some s) e = (s, refl, closed_among ts s e)

no_types : (ts : List ValType) → reverse ts ≡ [] → ts ≡ []
no_types ts e = sym (reverse-reverse ts) ∙ ap (λ x. reverse x) e

closed : (c : Context) (code : Code) (ts : List ValType) → LeadsCode c code opened
    → closes ts (after_code c code opened) ≡ true → CodeHasType c code [] ts
closed c code ts h e =
    let k = closes_at ts (after_code c code opened) e in
    let b = sure_at h k.1 ts k.2 in
    subst (λ ins. CodeHasType c code ins ts) (no_types b.ins b.among) b.typed

before_drop : (c : Context) (s r : Operands) (o : Operand) (outs : List ValType)
    → ((t : ValType) (ts : List ValType) → Is o t → Among r ts → Among s (t ∷ ts)) → Among r (reverse outs)
    → Before c drop_value s outs
before_drop c s r o outs pop a = record {
  ins = outs ++ any_type o ∷ [];
  among = subst (Among s) (sym (reverse-append outs (any_type o ∷ []))) (pop (any_type o) (reverse outs) (any_is o) a);
  below = outs;
  taken = any_type o ∷ [];
  left = [];
  typed = of_drop;
  ins_are = refl;
  outs_are = sym (append-nil outs);
}

before_select : (c : Context) (s r : Operands) (o : Operand) (outs : List ValType)
    → ((t : ValType) (ts : List ValType) → Is o t → Among r ts → Among s (I32 ∷ t ∷ t ∷ ts))
    → Among (push o r) (reverse outs) → Before c select s outs
before_select c s r o outs pop a =
    let b = push_back_one o r (reverse outs) a in
    record {
      ins = reverse b.1 ++ (b.0 ∷ b.0 ∷ I32 ∷ []);
      among = subst (Among s) (turned_back b.1 (b.0 ∷ b.0 ∷ I32 ∷ [])) (pop b.0 b.1 b.3 b.4);
      below = reverse b.1;
      taken = b.0 ∷ b.0 ∷ I32 ∷ [];
      left = b.0 ∷ [];
      typed = of_select;
      ins_are = refl;
      outs_are = turned outs (b.0 ∷ []) b.1 b.2;
    }

before_both : (c : Context) (i : Instruction) (code : Code) (s : Operands) (outs : List ValType)
    (b : (ins : List ValType) × CodeHasType c code ins outs) → Before c i s b.0 → BeforeCode c (next i code) s outs
before_both c i code s outs b h = record {
  ins = h.ins;
  among = h.among;
  typed = of_next h.below h.taken h.left h.typed h.ins_are (subst (λ x. CodeHasType c code x outs) h.outs_are b.1);
}

mutual
  pub sound : (c : Context) (i : Instruction) (s : Operands) → Leads c i s
  sound c unreachable s = before_last c unreachable s
  sound c (br l) s = before_last c (br l) s
  sound c (br_table ls l) s = before_last c (br_table ls l) s
  sound c give_back s = before_last c give_back s
  sound c drop_value s = sure_then (sure_pop_any s) (λ p h. sure_some p.1 (λ outs a. before_drop c s p.1 p.0 outs h a))
  sound c select s =
      sure_then (sure_pop I32 s)
      (λ r pop. sure_then (sure_pop_any r)
      (λ a first. sure_then (sure_pop_any a.1)
      (λ b second. sure_then (sure_joined a.0 b.0) (λ o one. sure_some (push o b.1) (λ outs x.
      before_select c s b.1 o outs
      (λ t ts i h. pop (t ∷ t ∷ ts) (first t (t ∷ ts) (one t i).0 (second t ts (one t i).1 h))) x)))))
  sound c (block t body) s =
      sure_if (closes (results_of t) (after_code (with_label (results_of t) c) body opened))
      (λ e. sure_some (pushes (results_of t) s) (λ outs a.
      before_pushes c (block t body) s s [] (results_of t) outs
      (of_block refl
      (closed (with_label (results_of t) c) body (results_of t)
      (sound_code (with_label (results_of t) c) body opened) e)) (λ ts h. h) a))
  sound c (loop t body) s =
      sure_if (closes (results_of t) (after_code (with_label [] c) body opened))
      (λ e. sure_some (pushes (results_of t) s) (λ outs a.
      before_pushes c (loop t body) s s [] (results_of t) outs
      (of_loop refl (closed (with_label [] c) body (results_of t) (sound_code (with_label [] c) body opened) e))
      (λ ts h. h) a))
  sound c (cond t a b) s =
      sure_then (sure_pop I32 s)
      (λ r pop. sure_if (closes (results_of t) (after_code (with_label (results_of t) c) a opened) && closes
      (results_of t) (after_code (with_label (results_of t) c) b opened))
      (λ e. sure_some (pushes (results_of t) r) (λ outs x.
      let h = both _ _ e in
      before_pushes c (cond t a b) s r (I32 ∷ []) (results_of t) outs
      (of_if refl
      (closed (with_label (results_of t) c) a (results_of t) (sound_code (with_label (results_of t) c) a opened)
      h.0) (closed (with_label (results_of t) c) b (results_of t)
      (sound_code (with_label (results_of t) c) b opened) h.1)) pop x)))
  sound c i s = before_effect c i s

  pub sound_code : (c : Context) (code : Code) (s : Operands) → LeadsCode c code s
  sound_code c end s = sure_some s (λ outs a. record { ins = outs; among = a; typed = of_end })
  sound_code c (next i code) s =
      sure_then (sound c i s) (λ r h. sure_so (sound_code c code r) (λ q k outs a.
      let b = k outs a in
      before_both c i code s outs (b.ins, b.typed) (h b.ins b.among)))

-- bodies and modules
sound_function : (m : PureModule) (f : Function) → PassesBody m f → IsValidFunction m f
sound_function m f h = (h.0, h.1, closed _ f.body h.0.results (sound_code _ f.body opened) h.2)

pub checked_valid : (m : PureModule) → Checks m → IsValid m
checked_valid m h = record {
  types = h.parts.types;
  funcs = all_so (PassesBody m) (IsValidFunction m) m.funcs (sound_function m) h.bodies;
  table = h.parts.table;
  memory = h.parts.memory;
  globals = h.parts.globals;
  exports = h.parts.exports;
  names = h.parts.names;
  elements = h.parts.elements;
  segments = h.parts.segments;
}
