-- What is valid passes the validator's tests: whatever types the operands may have, those of a typing are among them.
use Rattle.std.proofs.Common.{◌≡◌, ℕ, ◌≤◌, ◌^◌, Bool, true, ◌&&◌, List, [], ◌∷◌, ◌++◌, reverse, Option, Some, refl, sym}
use Rattle.std.proofs.Common.{ap, subst, ◌∙◌, append_assoc}
use Rattle.std.specs.Prelude.{slice_get, nat_le}
use Rattle.std.specs.List.{AllByRecursion}
use Rattle.std.proofs.lemmas.Bool.{le-leb}
use Rattle.std.proofs.lemmas.List.{append-nil, reverse-append}
use Rattle.mw_wasm.specs.declared.values.ValType.{ValType}
use Rattle.mw_wasm.specs.declared.values.ValType.TheVariants.{I32, I64}
use Rattle.mw_wasm.specs.Syntax.{Instruction, Code, unreachable, nop, br, br_if, br_table, give_back, call}
use Rattle.mw_wasm.specs.Syntax.{call_indirect, local_get, local_set, local_tee, global_get, global_set, load, store}
use Rattle.mw_wasm.specs.Syntax.{memory_size, memory_grow, const_i32, const_i64, numeric, Function, PureModule}
use Rattle.mw_wasm.specs.Store.{load_size, store_size, store_type}
use Rattle.mw_wasm.specs.Validity.{Context, HasType, CodeHasType, of_unreachable, of_nop, of_drop, of_select, of_block}
use Rattle.mw_wasm.specs.Validity.{of_loop, of_if, of_br, of_br_if, of_br_table, of_return, of_call, of_call_indirect}
use Rattle.mw_wasm.specs.Validity.{of_local_get, of_local_set, of_local_tee, of_global_get, of_global_set, of_load}
use Rattle.mw_wasm.specs.Validity.{of_store, of_memory_size, of_memory_grow, of_const_i32, of_const_i64, of_numeric}
use Rattle.mw_wasm.specs.Validity.{of_end, of_next, results_of, with_label, load_type, IsValid, IsValidFunction}
use Rattle.mw_validate.specs.Checks.{Operands, operands, only_if, push, pushes, opened, dead, at_height, closes, effect}
use Rattle.mw_validate.specs.Checks.{last_pops, goes_on, stops, after, after_code, PassesBody, Checks}
use Rattle.mw_validate.proofs.OperandTypes.{Among, Gets, gets_some, gets_then, gets_if, and_both, is_all_take}
use Rattle.mw_validate.proofs.MappedElements.{all_so}
use Rattle.mw_validate.proofs.OperandTypes.{all_front}
use Rattle.mw_validate.proofs.OperandTypes.{all_last, gets_pop_any, gets_pop, gets_pop_each, gets_joined, pushed_one}
use Rattle.mw_validate.proofs.OperandTypes.{pushed_among}

-- a test answers, and these operands are among what it answers
abbrev Reaches : Option Operands → List ValType → Type 0
Reaches r outs = Gets r (λ s. Among s (reverse outs))

turned : (s : Operands) (below taken : List ValType) → Among s (reverse (below ++ taken))
    → Among s (reverse taken ++ reverse below)
turned s below taken a = subst (Among s) (reverse-append below taken) a

turned_back : (s : Operands) (below left : List ValType) → Among s (reverse left ++ reverse below)
    → Among s (reverse (below ++ left))
turned_back s below left a = subst (Among s) (sym (reverse-append below left)) a

reaches_effect : (c : Context) (i : Instruction) (taken left : List ValType) (s : Operands) (below : List ValType)
    → effect c i ≡ Some (taken, left) → Among s (reverse (below ++ taken)) → Reaches (goes_on (effect c i) s)
    (below ++ left)
reaches_effect c i taken left s below e a =
    subst (λ o. Reaches (goes_on o s) (below ++ left)) (sym e)
    (gets_then (gets_pop_each (reverse taken) s (reverse below) (turned s below taken a))
    (λ r k. gets_some (pushes left r)
    (turned_back (pushes left r) below left (pushed_among left r (reverse below) k))))

reaches_stop : (c : Context) (i : Instruction) (ts : List ValType) (s : Operands) (below outs : List ValType)
    → last_pops c i ≡ Some ts → Among s (reverse (below ++ ts)) → Reaches (stops (last_pops c i) s) outs
reaches_stop c i ts s below outs e a =
    subst (λ o. Reaches (stops o s) outs) (sym e)
    (gets_then (gets_pop_each (reverse ts) s (reverse below) (turned s below ts a)) (λ r k. gets_some dead tt))

-- behind operands that are given another way
regrouped : (s : Operands) (below low ts ins : List ValType) → ins ≡ low ++ ts → Among s (reverse (below ++ ins))
    → Among s (reverse ((below ++ low) ++ ts))
regrouped s below low ts ins e a = subst (λ (x : List ValType). Among s (reverse x))
    (ap (λ x. below ++ x) e ∙ sym (append_assoc below low ts)) a

-- a list that ends
none_left : (s : Operands) → Among s [] → at_height (Some s) ≡ true
none_left (operands [] d) a = refl
none_left (operands (o ∷ os) d) a = absurd a

closes_if : (ts : List ValType) (ended : Option Operands) → Reaches ended ts → closes ts ended ≡ true
closes_if ts ended g =
    let a : Among g.value (reverse ts ++ []) = subst (Among g.value) (sym (append-nil (reverse ts))) g.has in
    let h = gets_pop_each (reverse ts) g.value [] a in
    ap (closes ts) g.is ∙ (ap at_height h.is ∙ none_left h.value h.has)

-- a list of instructions under a label
reaches_block : (s : Operands) (below outs us : List ValType) (ok : List ValType → Bool) → outs ≡ us → ok outs ≡ true
    → Among s (reverse below) → Reaches (only_if (ok us) (Some (pushes us s))) (below ++ outs)
reaches_block s below outs us ok e h a =
    subst (λ (ts : List ValType). Reaches (only_if (ok ts) (Some (pushes ts s))) (below ++ outs)) e
    (gets_if (ok outs) h
    (gets_some (pushes outs s) (turned_back (pushes outs s) below outs (pushed_among outs s (reverse below) a))))

aligned : (align size : ℕ) → 2 ^ align ≤ size → nat_le (2 ^ align) size ≡ true
aligned align size h = le-leb _ _ h

-- the labels of a table
table_takes : (c : Context) (ls : List ℕ) (l : ℕ) (label : List ValType)
    → AllByRecursion (λ l. slice_get c.labels l ≡ Some label) (ls ++ l ∷ []) → last_pops c (br_table ls l)
    ≡ Some (label ++ I32 ∷ [])
table_takes c ls l label h =
    let last = all_last (λ l. slice_get c.labels l ≡ Some label) ls l h in
    rw last (ap (λ b. only_if b (Some (label ++ I32 ∷ [])))
    (is_all_take c.labels label ls (all_front (λ l. slice_get c.labels l ≡ Some label) ls (l ∷ []) h)))

nothing_taken : (s : Operands) (below : List ValType) → Among s (reverse (below ++ [])) → Among s (reverse below)
nothing_taken s below a = subst (λ (x : List ValType). Among s (reverse x)) (append-nil below) a

mutual
  pub complete : {c : Context} {i : Instruction} {taken left : List ValType} → HasType c i taken left
      → (s : Operands) (below : List ValType) → Among s (reverse (below ++ taken))
      → Reaches (after c i s) (below ++ left)
  complete {c} {i} {taken} {left} of_unreachable s below a = reaches_stop c unreachable [] s (below ++ taken)
      (below ++ left) refl (subst (λ (x : List ValType). Among s (reverse x)) (sym (append-nil (below ++ taken))) a)
  complete {c} of_nop s below a = reaches_effect c nop [] [] s below refl a
  complete (of_drop {t = t}) s below a = gets_then (gets_pop_any s t (reverse below) (turned s below (t ∷ []) a))
      (λ p k. gets_some p.1 (turned_back p.1 below [] k.1))
  complete (of_select {t = t}) s below a =
      gets_then (gets_pop I32 s (t ∷ t ∷ reverse below) (turned s below (t ∷ t ∷ I32 ∷ []) a))
      (λ r k. gets_then (gets_pop_any r t (t ∷ reverse below) k)
      (λ p x. gets_then (gets_pop_any p.1 t (reverse below) x.1) (λ q y.
      gets_then (gets_joined p.0 q.0 t x.0 y.0)
      (λ o z. gets_some (push o q.1)
      (turned_back (push o q.1) below (t ∷ []) (pushed_one o q.1 t (reverse below) z y.1))))))
  complete (of_block {c} {t} {body} {outs} e h) s below a =
      reaches_block s below outs (results_of t) (λ ts. closes ts (after_code (with_label ts c) body opened)) e
      (closes_if outs (after_code (with_label outs c) body opened) (complete_code h opened refl))
      (nothing_taken s below a)
  complete (of_loop {c} {t} {body} {outs} e h) s below a =
      reaches_block s below outs (results_of t) (λ ts. closes ts (after_code (with_label [] c) body opened)) e
      (closes_if outs (after_code (with_label [] c) body opened) (complete_code h opened refl))
      (nothing_taken s below a)
  complete (of_if {c} {t} {a = x} {b = y} {outs} e h k) s below a =
      gets_then (gets_pop I32 s (reverse below) (turned s below (I32 ∷ []) a)) (λ r l.
      reaches_block r below outs (results_of t)
      (λ ts. closes ts (after_code (with_label ts c) x opened) && closes ts (after_code (with_label ts c) y opened))
      e (and_both _ _ (closes_if outs (after_code (with_label outs c) x opened) (complete_code h opened refl))
      (closes_if outs (after_code (with_label outs c) y opened) (complete_code k opened refl))) l)
  complete (of_br {c} {l} {ins} {outs} low label h e) s below a = reaches_stop c (br l) label s (below ++ low)
      (below ++ outs) h (regrouped s below low label ins e a)
  complete (of_br_if {c} {l} {ins} {label} h e) s below a = reaches_effect c (br_if l) ins label s below
      (rw (h, e) refl) a
  complete (of_br_table {c} {ls} {l} {ins} {outs} low label h e) s below a =
      reaches_stop c (br_table ls l) (label ++ I32 ∷ []) s (below ++ low) (below ++ outs) (table_takes c ls l label h)
      (regrouped s below low (label ++ I32 ∷ []) ins (e ∙ append_assoc low label (I32 ∷ [])) a)
  complete (of_return {c} {ins} {outs} low e) s below a = reaches_stop c give_back c.results s (below ++ low)
      (below ++ outs) refl (regrouped s below low c.results ins e a)
  complete (of_call {c} {f} {ins} {outs} t h p q) s below a = reaches_effect c (call f) ins outs s below
      (rw (h.1, h.2, p, q) refl) a
  complete (of_call_indirect {c} {k} {ins} {outs} t there h p q) s below a = reaches_effect c (call_indirect k) ins outs
      s below (rw (h, p, q) (ap (λ b. only_if b (Some (t.params ++ I32 ∷ [], t.results))) there)) a
  complete (of_local_get {c} {x} {t} h) s below a = reaches_effect c (local_get x) [] (t ∷ []) s below (rw h refl) a
  complete (of_local_set {c} {x} {t} h) s below a = reaches_effect c (local_set x) (t ∷ []) [] s below (rw h refl) a
  complete (of_local_tee {c} {x} {t} h) s below a = reaches_effect c (local_tee x) (t ∷ []) (t ∷ []) s below (rw h refl)
      a
  complete (of_global_get {c} {x} {t} variable h) s below a = reaches_effect c (global_get x) [] (t ∷ []) s below
      (rw h refl) a
  complete (of_global_set {c} {x} {t} h) s below a = reaches_effect c (global_set x) (t ∷ []) [] s below (rw h refl) a
  complete (of_load {c} {o} {align} {offset} {t} there h e) s below a =
      reaches_effect c (load o align offset) (I32 ∷ []) (t ∷ []) s below
      (rw e (ap (λ b. only_if b (Some (I32 ∷ [], load_type o ∷ [])))
      (and_both _ _ there (aligned align (load_size o) h)))) a
  complete (of_store {c} {o} {align} {offset} {t} there h e) s below a =
      reaches_effect c (store o align offset) (I32 ∷ t ∷ []) [] s below
      (rw e (ap (λ b. only_if b (Some (I32 ∷ store_type o ∷ [], [])))
      (and_both _ _ there (aligned align (store_size o) h)))) a
  complete (of_memory_size {c} there) s below a = reaches_effect c memory_size [] (I32 ∷ []) s below
      (ap (λ b. only_if b (Some ([], I32 ∷ []))) there) a
  complete (of_memory_grow {c} there) s below a = reaches_effect c memory_grow (I32 ∷ []) (I32 ∷ []) s below
      (ap (λ b. only_if b (Some (I32 ∷ [], I32 ∷ []))) there) a
  complete (of_const_i32 {c} {n}) s below a = reaches_effect c (const_i32 n) [] (I32 ∷ []) s below refl a
  complete (of_const_i64 {c} {n}) s below a = reaches_effect c (const_i64 n) [] (I64 ∷ []) s below refl a
  complete (of_numeric {c} {o} {ins} {t} e f) s below a = reaches_effect c (numeric o) ins (t ∷ []) s below
      (rw (e, f) refl) a

  pub complete_code : {c : Context} {code : Code} {ins outs : List ValType} → CodeHasType c code ins outs
      → (s : Operands) → Among s (reverse ins) → Reaches (after_code c code s) outs
  complete_code (of_end {ts = ts}) s a = gets_some s a
  complete_code (of_next {c} {i} {code} {ins} {outs} below taken left h e rest) s a =
      gets_then (complete h s below (subst (λ (x : List ValType). Among s (reverse x)) e a))
      (λ r k. complete_code rest r k)

-- bodies and modules
complete_function : (m : PureModule) (f : Function) → IsValidFunction m f → PassesBody m f
complete_function m f h = (h.0, h.1, closes_if h.0.results _ (complete_code h.2 opened refl))

pub valid_checked : (m : PureModule) → IsValid m → Checks m
valid_checked m h = record {
  parts = record {
    types = h.types;
    table = h.table;
    memory = h.memory;
    globals = h.globals;
    exports = h.exports;
    names = h.names;
    elements = h.elements;
    segments = h.segments;
  };
  bodies = all_so (IsValidFunction m) (PassesBody m) m.funcs (complete_function m) h.funcs;
}
