-- What an instruction leaves in its place.
use Rattle.std.proofs.Common.{◌≡◌, ℕ, zero, suc, ◌+◌, ◌≤◌, ◌<◌, List, ◌∷◌, Option, Some, None, refl, arith}
use Rattle.std.proofs.Math.ListN.{length-set}
use Rattle.std.specs.Prelude.{slice_get, slice_set, nat_le, nat_lt, length}
use Rattle.mw_wasm.specs.declared.values.Value.{Value}
use Rattle.mw_wasm.specs.declared.modules.FuncType.{FuncType}
use Rattle.mw_wasm.specs.Syntax.{Instruction, Code, unreachable, nop, block, loop, cond, br, br_if, br_table, give_back}
use Rattle.mw_wasm.specs.Syntax.{call, call_indirect, drop_value, select, local_get, local_set, local_tee, global_get}
use Rattle.mw_wasm.specs.Syntax.{global_set, load, store, memory_size, memory_grow, const_i32, const_i64, numeric}
use Rattle.mw_wasm.specs.Syntax.{Function, PureModule}
use Rattle.mw_wasm.specs.Store.{Store, is_inside, load_size, store_type, store_size}
use Rattle.mw_wasm.specs.NumericTypes.{operands_of}
use Rattle.mw_wasm.specs.Numerics.{number_result}
use Rattle.mw_wasm.specs.Act.{Act, gives, enters, calls, breaks, returns, traps, stuck, where_zero, same_type}
use Rattle.mw_wasm.specs.Act.{most_pages, grown, entered, called, called_at, act}
use Rattle.mw_wasm.specs.Execution.{instruction_weight, code_weight}
use Rattle.mw_wasm.proofs.Acts.{for_value, for_i32, for_type, for_some, for_true, for_result, for_operands}

-- what is left in the instruction's place, where a constant weighs k, is less than w
abbrev pub Lighter : ℕ → ℕ → Act → Type 0
Lighter k w (gives st ls vs None) = 0 < w
Lighter k w (gives st ls vs (Some i)) = instruction_weight k i < w
Lighter k w (enters n c body vs) = code_weight k body + 1 < w
Lighter k w (calls n fs body vs) = Unit {0}
Lighter k w (breaks l vs) = 0 < w
Lighter k w (returns vs) = 0 < w
Lighter k w (traps t) = Unit {0}
Lighter k w stuck = Unit {0}

zero_weight : (k : ℕ) (n : ℕ) (a b : Code) → code_weight k (where_zero n b a) ≤ code_weight k a + code_weight k b
zero_weight k zero a b = omega arith
zero_weight k (suc n) a b = omega arith

branch_lighter : (k w n l : ℕ) (st : Store) (ls vs : List Value) → 1 < w
    → Lighter k w (gives st ls vs (where_zero n None (Some (br l))))
branch_lighter k w zero l st ls vs h = omega arith
branch_lighter k w (suc n) l st ls vs h = h

grown_lighter : (k most n : ℕ) (st : Store) (ls vs : List Value) → Lighter k 1 (grown most n st ls vs)
grown_lighter k most n st ls vs = for_true (Lighter k 1) (nat_le (st.memory.pages + n) most) _ _ (omega arith)
    (omega arith)

module _ (m : PureModule) where
  entered_lighter : (k w : ℕ) (t : FuncType) (f : Function) (vs : List Value) → Lighter k w (entered m t f vs)
  entered_lighter k w t f vs = for_true (Lighter k w) (nat_le (length t.params) (length vs)) _ _ tt tt

  called_lighter : (k w f : ℕ) (vs : List Value) → Lighter k w (called m f vs)
  called_lighter k w f vs = for_some (Lighter k w) (slice_get m.funcs f) _ _ tt λ f.
      for_some (Lighter k w) (slice_get m.types f.kind) _ _ tt λ t. entered_lighter k w t f vs

  called_at_lighter : (k w t : ℕ) (o : Option (Option ℕ)) (vs : List Value) → Lighter k w (called_at m t o vs)
  called_at_lighter k w t None vs = tt
  called_at_lighter k w t (Some None) vs = tt
  called_at_lighter k w t (Some (Some f)) vs = for_some (Lighter k w) (slice_get m.funcs f) _ _ tt λ f.
      for_some (Lighter k w) (slice_get m.types f.kind) _ _ tt λ has. for_some (Lighter k w) (slice_get m.types t) _ _
      tt λ wants. for_true (Lighter k w) (same_type has wants) _ _ (entered_lighter k w has f vs) tt

  -- an instruction leaves less than itself in its place, unless it spends a unit
  pub act_lighter : (k : ℕ) (i : Instruction) (st : Store) (ls vs : List Value) → Lighter k (instruction_weight k i)
      (act m i st ls vs)
  act_lighter k unreachable st ls vs = tt
  act_lighter k nop st ls vs = omega arith
  act_lighter k (block t body) st ls vs = omega arith
  act_lighter k (loop t body) st ls vs = omega arith
  act_lighter k (cond t a b) st ls vs = for_i32 (Lighter k _) tt vs _ λ n us. omega (arith, zero_weight k n a b)
  act_lighter k (br l) st ls vs = omega arith
  act_lighter k (br_if l) st ls vs = for_i32 (Lighter k _) tt vs _ λ n us. branch_lighter k 2 n l st ls us (omega arith)
  act_lighter k (br_table labels l) st ls vs = for_i32 (Lighter k _) tt vs _ λ n us. omega arith
  act_lighter k give_back st ls vs = omega arith
  act_lighter k (call f) st ls vs = called_lighter k 1 f vs
  act_lighter k (call_indirect t) st ls vs = for_i32 (Lighter k _) tt vs _ λ n us.
      called_at_lighter k 1 t (slice_get st.table n) us
  act_lighter k drop_value st ls vs = for_value (Lighter k _) tt vs _ λ v us. omega arith
  act_lighter k select st ls vs = for_i32 (Lighter k _) tt vs _ λ n us. for_value (Lighter k _) tt us _ λ b us.
      for_value (Lighter k _) tt us _ λ a us. omega arith
  act_lighter k (local_get x) st ls vs = for_some (Lighter k _) (slice_get ls x) _ _ tt λ v. omega arith
  act_lighter k (local_set x) st ls vs = for_value (Lighter k _) tt vs _ λ v us.
      for_true (Lighter k 1) (nat_lt x (length ls)) (gives st (slice_set ls x v) us None) _ (omega arith) tt
  act_lighter k (local_tee x) st ls vs = for_value (Lighter k _) tt vs _ λ v us. omega arith
  act_lighter k (global_get x) st ls vs = for_some (Lighter k _) (slice_get st.globals x) _ _ tt λ v. omega arith
  act_lighter k (global_set x) st ls vs = for_value (Lighter k _) tt vs _ λ v us.
      for_true (Lighter k 1) (nat_lt x (length st.globals))
      (gives (record st { globals = slice_set st.globals x v }) ls us None) _ (omega arith) tt
  act_lighter k (load o align offset) st ls vs = for_i32 (Lighter k _) tt vs _ λ n us. let p : 0 < 1 = omega arith in
      for_true (Lighter k 1) (is_inside st.memory (n + offset) (load_size o)) _ _ p tt
  act_lighter k (store o align offset) st ls vs = for_type (Lighter k _) tt (store_type o) vs _ λ v us.
      for_i32 (Lighter k _) tt us _ λ n us. let p : 0 < 1 = omega arith in
      for_true (Lighter k 1) (is_inside st.memory (n + offset) (store_size o)) _ _ p tt
  act_lighter k memory_size st ls vs = omega arith
  act_lighter k memory_grow st ls vs = for_i32 (Lighter k _) tt vs _ λ n us. grown_lighter k (most_pages m.memory) n st
      ls us
  act_lighter k (numeric o) st ls vs = for_operands (Lighter k _) tt (operands_of o) vs _ λ x y us. let p : 0 < 1 =
      omega arith in for_result (Lighter k 1) (number_result o x y) (λ z. gives st ls (z ∷ us) None) (λ t. tt) λ z. p
  act_lighter k (const_i32 n) st ls vs = tt
  act_lighter k (const_i64 n) st ls vs = tt

-- an act leaves as many locals as there were
abbrev pub KeepsLocals : ℕ → Act → Type 0
KeepsLocals k (gives st ls vs after) = length ls ≡ k
KeepsLocals k (enters n c body vs) = Unit {0}
KeepsLocals k (calls n fs body vs) = Unit {0}
KeepsLocals k (breaks l vs) = Unit {0}
KeepsLocals k (returns vs) = Unit {0}
KeepsLocals k (traps t) = Unit {0}
KeepsLocals k stuck = Unit {0}

module _ (m : PureModule) where
  entered_keeps : (k : ℕ) (t : FuncType) (f : Function) (vs : List Value) → KeepsLocals k (entered m t f vs)
  entered_keeps k t f vs = for_true (KeepsLocals k) (nat_le (length t.params) (length vs)) _ _ tt tt

  called_keeps : (k f : ℕ) (vs : List Value) → KeepsLocals k (called m f vs)
  called_keeps k f vs = for_some (KeepsLocals k) (slice_get m.funcs f) _ _ tt λ f.
      for_some (KeepsLocals k) (slice_get m.types f.kind) _ _ tt λ t. entered_keeps k t f vs

  called_at_keeps : (k t : ℕ) (o : Option (Option ℕ)) (vs : List Value) → KeepsLocals k (called_at m t o vs)
  called_at_keeps k t None vs = tt
  called_at_keeps k t (Some None) vs = tt
  called_at_keeps k t (Some (Some f)) vs = for_some (KeepsLocals k) (slice_get m.funcs f) _ _ tt λ f.
      for_some (KeepsLocals k) (slice_get m.types f.kind) _ _ tt λ has. for_some (KeepsLocals k) (slice_get m.types t) _
      _ tt λ wants. for_true (KeepsLocals k) (same_type has wants) _ _ (entered_keeps k has f vs) tt

  -- no instruction changes how many locals there are
  pub act_keeps : (i : Instruction) (st : Store) (ls vs : List Value) → KeepsLocals (length ls) (act m i st ls vs)
  act_keeps unreachable st ls vs = tt
  act_keeps nop st ls vs = refl
  act_keeps (block t body) st ls vs = tt
  act_keeps (loop t body) st ls vs = tt
  act_keeps (cond t a b) st ls vs = for_i32 (KeepsLocals (length ls)) tt vs _ λ n us. refl
  act_keeps (br l) st ls vs = tt
  act_keeps (br_if l) st ls vs = for_i32 (KeepsLocals (length ls)) tt vs _ λ n us. refl
  act_keeps (br_table labels l) st ls vs = for_i32 (KeepsLocals (length ls)) tt vs _ λ n us. refl
  act_keeps give_back st ls vs = tt
  act_keeps (call f) st ls vs = called_keeps (length ls) f vs
  act_keeps (call_indirect t) st ls vs = for_i32 (KeepsLocals (length ls)) tt vs _ λ n us. called_at_keeps (length ls) t
      (slice_get st.table n) us
  act_keeps drop_value st ls vs = for_value (KeepsLocals (length ls)) tt vs _ λ v us. refl
  act_keeps select st ls vs = for_i32 (KeepsLocals (length ls)) tt vs _ λ n us. for_value (KeepsLocals (length ls)) tt
      us _ λ b us. for_value (KeepsLocals (length ls)) tt us _ λ a us. refl
  act_keeps (local_get x) st ls vs = for_some (KeepsLocals (length ls)) (slice_get ls x) _ _ tt λ v. refl
  act_keeps (local_set x) st ls vs = for_value (KeepsLocals (length ls)) tt vs _ λ v us.
      for_true (KeepsLocals (length ls)) (nat_lt x (length ls)) (gives st (slice_set ls x v) us None) _
      (length-set ls x v) tt
  act_keeps (local_tee x) st ls vs = for_value (KeepsLocals (length ls)) tt vs _ λ v us. refl
  act_keeps (global_get x) st ls vs = for_some (KeepsLocals (length ls)) (slice_get st.globals x) _ _ tt λ v. refl
  act_keeps (global_set x) st ls vs = for_value (KeepsLocals (length ls)) tt vs _ λ v us.
      for_true (KeepsLocals (length ls)) (nat_lt x (length st.globals))
      (gives (record st { globals = slice_set st.globals x v }) ls us None) _ refl tt
  act_keeps (load o align offset) st ls vs = for_i32 (KeepsLocals (length ls)) tt vs _ λ n us.
      for_true (KeepsLocals (length ls)) (is_inside st.memory (n + offset) (load_size o)) _ _ refl tt
  act_keeps (store o align offset) st ls vs = for_type (KeepsLocals (length ls)) tt (store_type o) vs _ λ v us.
      for_i32 (KeepsLocals (length ls)) tt us _ λ n us. for_true (KeepsLocals (length ls))
      (is_inside st.memory (n + offset) (store_size o)) _ _ refl tt
  act_keeps memory_size st ls vs = refl
  act_keeps memory_grow st ls vs = for_i32 (KeepsLocals (length ls)) tt vs _ λ n us. for_true (KeepsLocals (length ls))
      (nat_le (st.memory.pages + n) (most_pages m.memory)) _ _ refl refl
  act_keeps (numeric o) st ls vs = for_operands (KeepsLocals (length ls)) tt (operands_of o) vs _ λ x y us.
      for_result (KeepsLocals (length ls)) (number_result o x y) (λ z. gives st ls (z ∷ us) None) (λ t. tt) λ z. refl
  act_keeps (const_i32 n) st ls vs = tt
  act_keeps (const_i64 n) st ls vs = tt
