-- What a run leaves: no more units than it had, and a memory of few pages.
use Rattle.std.proofs.Common.{◌≡◌, ℕ, zero, suc, ◌+◌, ◌≤◌, ◌<◌, List, [], ◌∷◌, Option, Some, None, refl, arith}
use Rattle.std.specs.Prelude.{Bool, true, false, slice_get, slice_set, nat_le, nat_lt, length}
use Rattle.std.proofs.lemmas.Bool.{leb-true}
use Rattle.mw_wasm.specs.declared.values.Value.{Value}
use Rattle.mw_wasm.specs.declared.modules.FuncType.{FuncType}
use Rattle.mw_wasm.specs.declared.modules.Limits.{Limits}
use Rattle.mw_wasm.specs.Syntax.{Instruction, Code, end, next, nop, cond, br_if, br_table}
use Rattle.mw_wasm.specs.Syntax.{call, call_indirect, drop_value, select, local_get, local_set, local_tee}
use Rattle.mw_wasm.specs.Syntax.{global_get, global_set, load, store, memory_size, memory_grow}
use Rattle.mw_wasm.specs.Syntax.{numeric, Function, PureModule}
use Rattle.mw_wasm.specs.Store.{Store, is_inside, load_size, store_type, store_size}
use Rattle.mw_wasm.specs.NumericTypes.{operands_of}
use Rattle.mw_wasm.specs.Numerics.{number_result}
use Rattle.mw_wasm.specs.Act.{Act, gives, enters, calls, constant, same_type, most_pages}
use Rattle.mw_wasm.specs.Act.{grown, entered, called, called_at, act}
use Rattle.mw_wasm.specs.Reduction.{plain, label, frame, Sequence, nothing, first, Step, goes, spends, finished, leaves}
use Rattle.mw_wasm.specs.Reduction.{gives_back, traps_by, placed, in_label, in_frame, with_constant, step}
use Rattle.mw_wasm.specs.Execution.{weight, End, ended, trapped, follow, execution}
use Rattle.mw_wasm.specs.Instances.{on_found, where_they_fit, are_arguments, invocation, invoked}
use Rattle.mw_wasm.proofs.Acts.{for_value, for_i32, for_type, for_some, for_true, for_result, for_operands}
use Rattle.mw_wasm.proofs.ExecutionLaw.{Less, step_less, execution_is}

-- at most k pages
abbrev pub Few : ℕ → Store → Type 0
Few k st = st.memory.pages ≤ k

abbrev FewAct : ℕ → Act → Type 0
FewAct k (gives st ls vs after) = Few k st
FewAct k _ = Unit {0}

-- no memory grows past 1024 pages
most_few : (o : Option Limits) → most_pages o ≤ 1024
most_few None = omega arith
most_few (Some limits) = omega arith

grown_at : (k most n : ℕ) (st : Store) (ls vs : List Value) (b : Bool) → nat_le (st.memory.pages + n) most ≡ b
    → most ≤ k → Few k st → FewAct k (grown most n st ls vs)
grown_at k most n st ls vs true e le h = let p : st.memory.pages + n ≤ most = leb-true (st.memory.pages + n) most e in
    rw e (omega arith)
grown_at k most n st ls vs false e le h = rw e h

module _ (m : PureModule) (k : ℕ) (large : 1024 ≤ k) where
  entered_few : (t : FuncType) (f : Function) (vs : List Value) → FewAct k (entered m t f vs)
  entered_few t f vs = for_true (FewAct k) (nat_le (length t.params) (length vs)) _ _ tt tt

  called_few : (f : ℕ) (vs : List Value) → FewAct k (called m f vs)
  called_few f vs = for_some (FewAct k) (slice_get m.funcs f) _ _ tt λ f. for_some (FewAct k) (slice_get m.types f.kind)
      _ _ tt λ t. entered_few t f vs

  called_at_few : (t : ℕ) (o : Option (Option ℕ)) (vs : List Value) → FewAct k (called_at m t o vs)
  called_at_few t None vs = tt
  called_at_few t (Some None) vs = tt
  called_at_few t (Some (Some f)) vs = for_some (FewAct k) (slice_get m.funcs f) _ _ tt λ f.
      for_some (FewAct k) (slice_get m.types f.kind) _ _ tt λ has. for_some (FewAct k) (slice_get m.types t) _ _ tt
      λ wants. for_true (FewAct k) (same_type has wants) _ _ (entered_few has f vs) tt

  act_few : (i : Instruction) (st : Store) (ls vs : List Value) → Few k st → FewAct k (act m i st ls vs)
  act_few nop st ls vs h = h
  act_few (cond t a b) st ls vs h = for_i32 (FewAct k) tt vs _ λ n us. h
  act_few (br_if l) st ls vs h = for_i32 (FewAct k) tt vs _ λ n us. h
  act_few (br_table labels l) st ls vs h = for_i32 (FewAct k) tt vs _ λ n us. h
  act_few (call f) st ls vs h = called_few f vs
  act_few (call_indirect t) st ls vs h = for_i32 (FewAct k) tt vs _ λ n us. called_at_few t (slice_get st.table n) us
  act_few drop_value st ls vs h = for_value (FewAct k) tt vs _ λ v us. h
  act_few select st ls vs h = for_i32 (FewAct k) tt vs _ λ n us. for_value (FewAct k) tt us _ λ b us.
      for_value (FewAct k) tt us _ λ a us. h
  act_few (local_get x) st ls vs h = for_some (FewAct k) (slice_get ls x) _ _ tt λ v. h
  act_few (local_set x) st ls vs h = for_value (FewAct k) tt vs _ λ v us. for_true (FewAct k) (nat_lt x (length ls))
      (gives st (slice_set ls x v) us None) _ h tt
  act_few (local_tee x) st ls vs h = for_value (FewAct k) tt vs _ λ v us. h
  act_few (global_get x) st ls vs h = for_some (FewAct k) (slice_get st.globals x) _ _ tt λ v. h
  act_few (global_set x) st ls vs h = for_value (FewAct k) tt vs _ λ v us.
      for_true (FewAct k) (nat_lt x (length st.globals))
      (gives (record st { globals = slice_set st.globals x v }) ls us None) _ h tt
  act_few (load o align offset) st ls vs h = for_i32 (FewAct k) tt vs _ λ n us.
      for_true (FewAct k) (is_inside st.memory (n + offset) (load_size o)) _ _ h tt
  act_few (store o align offset) st ls vs h = for_type (FewAct k) tt (store_type o) vs _ λ v us.
      for_i32 (FewAct k) tt us _ λ n us. for_true (FewAct k) (is_inside st.memory (n + offset) (store_size o)) _ _ h tt
  act_few memory_size st ls vs h = h
  act_few memory_grow st ls vs h = for_i32 (FewAct k) tt vs _ λ n us. let p : most_pages m.memory ≤ k =
      omega (arith, most_few m.memory) in grown_at k (most_pages m.memory) n st ls us
      (nat_le (st.memory.pages + n) (most_pages m.memory)) refl p h
  act_few (numeric o) st ls vs h = for_operands (FewAct k) tt (operands_of o) vs _ λ x y us.
      for_result (FewAct k) (number_result o x y) (λ z. gives st ls (z ∷ us) None) (λ t. tt) λ z. h
  act_few i st ls vs h = tt

-- what one rule goes on with
abbrev FewStep : ℕ → Step → Type 0
FewStep k (goes st ls s) = Few k st
FewStep k (spends st ls s) = Few k st
FewStep k _ = Unit {0}

placed_few : (k : ℕ) (a : Act) (st : Store) (ls : List Value) (rest : Sequence) → FewAct k a → Few k st
    → FewStep k (placed a st ls rest)
placed_few k (gives st' ls' vs after) st ls rest p h = p
placed_few k (enters n c body vs) st ls rest p h = h
placed_few k (calls n fs body vs) st ls rest p h = h
placed_few k a st ls rest p h = tt

constant_few : (k : ℕ) (o : Option Value) (go : Value → Step) (other : Step) → ((v : Value) → FewStep k (go v))
    → FewStep k other → FewStep k (with_constant o go other)
constant_few k None go other p q = q
constant_few k (Some v) go other p q = p v

label_few : (k n : ℕ) (c : Code) (st : Store) (ls vs : List Value) (rest : Sequence) (x : Step) → FewStep k x → Few k st
    → FewStep k (in_label n c st ls vs rest x)
label_few k n c st ls vs rest (goes st' ls' s) p h = p
label_few k n c st ls vs rest (spends st' ls' s) p h = p
label_few k n c st ls vs rest (finished us) p h = h
label_few k n end st ls vs rest (leaves zero us) p h = h
label_few k n (next i c) st ls vs rest (leaves zero us) p h = h
label_few k n c st ls vs rest x p h = tt

frame_few : (k n : ℕ) (st : Store) (ls vs : List Value) (rest : Sequence) (x : Step) → FewStep k x → Few k st
    → FewStep k (in_frame n st ls vs rest x)
frame_few k n st ls vs rest (goes st' fs s) p h = p
frame_few k n st ls vs rest (spends st' fs s) p h = p
frame_few k n st ls vs rest (finished us) p h = h
frame_few k n st ls vs rest (gives_back us) p h = h
frame_few k n st ls vs rest x p h = tt

-- how a run with n units ends
abbrev pub Leaves : ℕ → ℕ → End → Type 0
Leaves k n (ended st vs left) = (left ≤ n) × Few k st
Leaves k n (trapped t st) = Few k st
Leaves k n _ = Unit {0}

one_more : (k n : ℕ) (e : End) → Leaves k n e → Leaves k (suc n) e
one_more k n (ended st vs left) h = (omega (arith, h.0), h.1)
one_more k n (trapped t st) h = h
one_more k n e h = tt

follow_leaves : (k : ℕ) (x : Step) (st : Store) (w n : ℕ) (on : Store → Sequence → End)
    (again : ℕ → Store → Sequence → End) → Less w x → FewStep k x → Few k st
    → ((st : Store) (s : Sequence) → weight s < w → Few k st → Leaves k n (on st s))
    → ((l : ℕ) (st : Store) (s : Sequence) → l < n → Few k st → Leaves k l (again l st s))
    → Leaves k n (follow x st n on again)
follow_leaves k (goes st' ls s) st w n on again less x h p q = p st' s less x
follow_leaves k (spends st' ls s) st w (suc n) on again less x h p q =
    one_more k n (again n st' s) (q n st' s (omega arith) x)
follow_leaves k (finished vs) st w n on again less x h p q = (omega arith, h)
follow_leaves k (traps_by t) st w n on again less x h p q = h
follow_leaves k x st w n on again less few h p q = tt

module _ (m : PureModule) (k : ℕ) (large : 1024 ≤ k) where
  step_few : (st : Store) (ls vs : List Value) (s : Sequence) → Few k st → FewStep k (step m st ls vs s)
  step_few st ls vs nothing h = tt
  step_few st ls vs (first (plain i) rest) h = constant_few k (constant i) _ _ (λ v. step_few st ls (v ∷ vs) rest h)
      (placed_few k (act m i st ls vs) st ls rest (act_few m k large i st ls vs h) h)
  step_few st ls vs (first (label n c inside) rest) h = label_few k n c st ls vs rest (step m st ls [] inside)
      (step_few st ls [] inside h) h
  step_few st ls vs (first (frame n fs inside) rest) h = frame_few k n st ls vs rest (step m st fs [] inside)
      (step_few st fs [] inside h) h

  within_leaves : (n : ℕ) → ((l : ℕ) (st : Store) (s : Sequence) → l < n → Few k st → Leaves k l (execution m l st s))
      → (w : ℕ) (st : Store) (s : Sequence) → weight s < w → Few k st → Leaves k n (execution m n st s)
  within_leaves n q zero st s p h = absurd (omega arith)
  within_leaves n q (suc w) st s p h =
      rw (execution_is m n st s)
      (follow_leaves k (step m st [] [] s) st (weight s) n (execution m n) (execution m) (step_less m st [] [] s)
      (step_few st [] [] s h) h (λ st d lt few. within_leaves n q w st d (omega arith) few) q)

  below_leaves : (b n : ℕ) (st : Store) (s : Sequence) → n < b → Few k st → Leaves k n (execution m n st s)
  below_leaves zero n st s p h = absurd (omega arith)
  below_leaves (suc b) n st s p h = within_leaves n (λ l st s lt few. below_leaves b l st s (omega arith) few)
      (suc (weight s)) st s (omega arith) h

  execution_leaves : (n : ℕ) (st : Store) (s : Sequence) → Few k st → Leaves k n (execution m n st s)
  execution_leaves n st s h = below_leaves (suc n) n st s (omega arith) h

  found : {A : Type 0} (n : ℕ) (o : Option A) (go : A → End) → ((x : A) → Leaves k n (go x))
      → Leaves k n (on_found o go)
  found n None go h = tt
  found n (Some x) go h = h x

  fitting : (n : ℕ) (b : Bool) (e : End) → Leaves k n e → Leaves k n (where_they_fit b e)
  fitting n true e h = h
  fitting n false e h = tt

  -- an invocation leaves no more units than it is given, and few pages
  pub invoked_leaves : (st : Store) (f : ℕ) (args : List Value) (n : ℕ) → Few k st → Leaves k n (invoked m st f args n)
  invoked_leaves st f args n h = found n (slice_get m.funcs f) _ λ g. found n (slice_get m.types g.kind) _ λ t.
      fitting n (are_arguments t.params args) _ (execution_leaves n st (invocation t g args) h)
