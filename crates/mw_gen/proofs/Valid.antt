-- The generated code is valid: before any rest, it puts one i64 on the stack.
use Rattle.std.proofs.Common.{◌≡◌, ℕ, suc, ◌+◌, ◌≤◌, ◌<◌, true, false, List, [], ◌∷◌, ◌++◌, Some, refl, ap, ◌∙◌, sym}
use Rattle.std.proofs.Common.{subst, arith, append_assoc, if◌then◌else◌}
use Rattle.std.specs.List.{AllByRecursion}
use Rattle.std.specs.Prelude.{slice_get, IsSome}
use Rattle.std.proofs.Common.{append-nil}
use Rattle.mw_term.specs.declared.term.Primitive.{Primitive as Prim}
use Rattle.mw_term.specs.declared.term.Primitive.TheVariants.{Eq, Lt, Le}
use Rattle.mw_wasm.specs.declared.values.ValType.{ValType}
use Rattle.mw_wasm.specs.declared.values.ValType.TheVariants.{I32, I64}
use Rattle.mw_wasm.specs.Syntax.{Instruction, Code, end, next, br, loop}
use Rattle.mw_wasm.specs.Validity.{Context, HasType, CodeHasType, with_label, of_end, of_next, of_loop, of_if, of_br}
use Rattle.mw_wasm.specs.Validity.{of_call_indirect, of_local_get, of_local_set, of_local_tee, of_global_get}
use Rattle.mw_wasm.specs.Validity.{of_global_set, of_load, of_store, of_const_i32, of_const_i64, of_numeric}
use Rattle.mw_ir.specs.declared.place.Place.TheVariants.{Argument, Own, Slot, Free}
use Rattle.mw_ir.specs.Ir as i
use Rattle.mw_ir.specs.declared.place.Place.{Place}
use Rattle.mw_ir.specs.Ir.{Ir}
use Rattle.mw_gen.specs.Generate.{expression_code, tail_code, is_own, place_code, stores_code, application_code}
use Rattle.mw_gen.specs.Generate.{pair_code, prim_code, address_code, raising_code, wants_spare, tail_wants_spare}
use Rattle.mw_gen.specs.Generate.{closure_type, wrap, load_word, store_word, loop_code}
use Rattle.mw_gen.proofs.Slots.{slots_needed}
use Rattle.mw_meaning.proofs.Replacement.{or_left, or_right}

-- the local that a place is read from
abbrev pub place_local : Place → ℕ → ℕ
place_local Argument b = 1
place_local Own b = 0
place_local (Slot s) b = b + s
place_local (Free j) b = 0

abbrev pub AreSeen : List Place → ℕ → ℕ → Type 0
AreSeen ps b n = AllByRecursion (λ p. place_local p b < n) ps

-- each place that the code reads is in a local below n
abbrev pub Sees : Ir → ℕ → ℕ → Type 0
Sees (i.get p) b n = place_local p b < n
Sees (i.closure k ps) b n = AreSeen ps b n
Sees (i.app f a) b n = Sees f b n × Sees a b n
Sees (i.bind s d e) b n = Sees d b n × Sees e b n
Sees (i.cond c x y) b n = Sees c b n × Sees x b n × Sees y b n
Sees (i.pair x y) b n = Sees x b n × Sees y b n
Sees (i.fst e) b n = Sees e b n
Sees (i.snd e) b n = Sees e b n
Sees (i.prim p x y) b n = Sees x b n × Sees y b n
Sees _ b n = Unit {0}

-- what generated code speaks of: n locals of 64 bits, type 0, the table, the memory and the top of the heap
pub record Offers (n : ℕ) (c : Context) : Type 0 where
  pub type0 : slice_get c.types 0 ≡ Some closure_type
  pub table : IsSome c.table
  pub memory : IsSome c.memory
  pub top : slice_get c.globals 0 ≡ Some (I32, true)
  pub all : (j : ℕ) → j < n → slice_get c.locals j ≡ Some I64

labelled : {n : ℕ} {c : Context} (ts : List ValType) → Offers n c → Offers n (with_label ts c)
labelled ts o = record { type0 = o.type0; table = o.table; memory = o.memory; top = o.top; all = o.all }

-- one more operand
abbrev pub push : List ValType → ValType → List ValType
push ts t = ts ++ t ∷ []

on0 : {c : Context} {x : Instruction} {code : Code} {outs : List ValType} (ts : List ValType) (b : ValType)
    → HasType c x [] (b ∷ []) → CodeHasType c code (push ts b) outs → CodeHasType c (next x code) ts outs
on0 ts b h rest = of_next ts [] (b ∷ []) h (sym (append-nil ts)) rest

on1 : {c : Context} {x : Instruction} {code : Code} {outs : List ValType} (ts : List ValType) (a b : ValType)
    → HasType c x (a ∷ []) (b ∷ []) → CodeHasType c code (push ts b) outs → CodeHasType c (next x code) (push ts a) outs
on1 ts a b h rest = of_next ts (a ∷ []) (b ∷ []) h refl rest

on2 : {c : Context} {x : Instruction} {code : Code} {outs : List ValType} (ts : List ValType) (a b d : ValType)
    → HasType c x (a ∷ b ∷ []) (d ∷ []) → CodeHasType c code (push ts d) outs
    → CodeHasType c (next x code) (push (push ts a) b) outs
on2 ts a b d h rest = of_next ts (a ∷ b ∷ []) (d ∷ []) h (append_assoc ts (a ∷ []) (b ∷ [])) rest

on3 : {c : Context} {x : Instruction} {code : Code} {outs : List ValType} (ts : List ValType) (a b d e : ValType)
    → HasType c x (a ∷ b ∷ d ∷ []) (e ∷ []) → CodeHasType c code (push ts e) outs
    → CodeHasType c (next x code) (push (push (push ts a) b) d) outs
on3 ts a b d e h rest = of_next ts (a ∷ b ∷ d ∷ []) (e ∷ []) h (ap (λ z. push z d) (append_assoc ts (a ∷ []) (b ∷ []))
    ∙ append_assoc ts (a ∷ b ∷ []) (d ∷ [])) rest

off1 : {c : Context} {x : Instruction} {code : Code} {outs : List ValType} (ts : List ValType) (a : ValType)
    → HasType c x (a ∷ []) [] → CodeHasType c code ts outs → CodeHasType c (next x code) (push ts a) outs
off1 {c} {x} {code} {outs} ts a h rest =
    of_next ts (a ∷ []) [] h refl (subst (λ z. CodeHasType c code z outs) (sym (append-nil ts)) rest)

off2 : {c : Context} {x : Instruction} {code : Code} {outs : List ValType} (ts : List ValType) (a b : ValType)
    → HasType c x (a ∷ b ∷ []) [] → CodeHasType c code ts outs → CodeHasType c (next x code) (push (push ts a) b) outs
off2 {c} {x} {code} {outs} ts a b h rest = of_next ts (a ∷ b ∷ []) [] h (append_assoc ts (a ∷ []) (b ∷ []))
    (subst (λ z. CodeHasType c code z outs) (sym (append-nil ts)) rest)

module _ (b n : ℕ) (c : Context) (o : Offers n c) (outs : List ValType) where
  raise_valid : (m : ℕ) (rest : Code) (ts : List ValType) → CodeHasType c rest ts outs
      → CodeHasType c (raising_code m rest) ts outs
  raise_valid m rest ts h = on0 ts I32 (of_global_get true o.top)
      (on0 (push ts I32) I32 of_const_i32
      (on2 ts I32 I32 I32 (of_numeric refl refl) (off1 ts I32 (of_global_set o.top) h)))

  address_valid : (m : ℕ) (rest : Code) (ts : List ValType) → CodeHasType c rest (push ts I64) outs
      → CodeHasType c (address_code m rest) ts outs
  address_valid m rest ts h = on0 ts I32 (of_global_get true o.top)
      (on1 ts I32 I64 (of_numeric refl refl) (raise_valid m rest (push ts I64) h))

  word_valid : (offset : ℕ) (rest : Code) (ts : List ValType) → CodeHasType c rest (push ts I64) outs
      → CodeHasType c (wrap (load_word offset rest)) (push ts I64) outs
  word_valid offset rest ts h = on1 ts I64 I32 (of_numeric refl refl)
      (on1 ts I32 I64 (of_load o.memory (omega arith) refl) h)

  store_valid : (offset : ℕ) (rest : Code) (ts : List ValType) → CodeHasType c rest ts outs
      → CodeHasType c (store_word offset rest) (push (push ts I32) I64) outs
  store_valid offset rest ts h = off2 ts I32 I64 (of_store o.memory (omega arith) refl) h

  place_valid : (p : Place) → place_local p b < n → (rest : Code) (ts : List ValType) → CodeHasType c rest (push ts I64)
      outs → CodeHasType c (place_code p b rest) ts outs
  place_valid Argument lt rest ts h = on0 ts I64 (of_local_get (o.all 1 lt)) h
  place_valid Own lt rest ts h = on0 ts I64 (of_local_get (o.all 0 lt)) h
  place_valid (Slot s) lt rest ts h = on0 ts I64 (of_local_get (o.all (b + s) lt)) h
  place_valid (Free j) lt rest ts h = on0 ts I64 (of_local_get (o.all 0 lt)) (word_valid _ rest ts h)

  stores_valid : (ps : List Place) → AreSeen ps b n → (j : ℕ) (rest : Code) (ts : List ValType)
      → CodeHasType c rest ts outs → CodeHasType c (stores_code ps j b rest) ts outs
  stores_valid [] s j rest ts h = h
  stores_valid (p ∷ ps) s j rest ts h = on0 ts I32 (of_global_get true o.top)
      (place_valid p s.0 _ (push ts I32) (store_valid _ _ ts (stores_valid ps s.1 (suc j) rest ts h)))

  apply_valid : (t : ℕ) → suc t < n → (rest : Code) (ts : List ValType) → CodeHasType c rest (push ts I64) outs
      → CodeHasType c (application_code t rest) (push (push ts I64) I64) outs
  apply_valid t lt rest ts h =
      off1 (push ts I64) I64 (of_local_set (o.all (suc t) lt))
      (on1 ts I64 I64 (of_local_tee (o.all t (omega arith)))
      (on0 (push ts I64) I64 (of_local_get (o.all (suc t) lt))
      (on0 (push (push ts I64) I64) I64 (of_local_get (o.all t (omega arith)))
      (on1 (push (push ts I64) I64) I64 I32 (of_numeric refl refl)
      (on1 (push (push ts I64) I64) I32 I32 (of_load o.memory (omega arith) refl)
      (on3 ts I64 I64 I32 I64 (of_call_indirect closure_type o.table o.type0 refl refl) h))))))

  pair_valid : (t : ℕ) → suc t < n → (rest : Code) (ts : List ValType) → CodeHasType c rest (push ts I64) outs
      → CodeHasType c (pair_code t rest) (push (push ts I64) I64) outs
  pair_valid t lt rest ts h =
      off1 (push ts I64) I64 (of_local_set (o.all (suc t) lt))
      (off1 ts I64 (of_local_set (o.all t (omega arith)))
      (on0 ts I32 (of_global_get true o.top)
      (on0 (push ts I32) I64 (of_local_get (o.all t (omega arith)))
      (store_valid _ _ ts
      (on0 ts I32 (of_global_get true o.top)
      (on0 (push ts I32) I64 (of_local_get (o.all (suc t) lt))
      (store_valid _ _ ts (address_valid 16 rest ts h))))))))

  prim_valid : (p : Prim) (rest : Code) (ts : List ValType) → CodeHasType c rest (push ts I64) outs
      → CodeHasType c (prim_code p rest) (push (push ts I64) I64) outs
  prim_valid Eq rest ts h = on2 ts I64 I64 I32 (of_numeric refl refl) (on1 ts I32 I64 (of_numeric refl refl) h)
  prim_valid Lt rest ts h = on2 ts I64 I64 I32 (of_numeric refl refl) (on1 ts I32 I64 (of_numeric refl refl) h)
  prim_valid Le rest ts h = on2 ts I64 I64 I32 (of_numeric refl refl) (on1 ts I32 I64 (of_numeric refl refl) h)
  prim_valid _ rest ts h = on2 ts I64 I64 I64 (of_numeric refl refl) h

-- a choice, once its branches are valid
choice_valid : {c : Context} {x y rest : Code} {outs : List ValType} (ts : List ValType)
    → CodeHasType (with_label (I64 ∷ []) c) x [] (I64 ∷ []) → CodeHasType (with_label (I64 ∷ []) c) y [] (I64 ∷ [])
    → CodeHasType c rest (push ts I64) outs
    → CodeHasType c (wrap (next (Rattle.mw_wasm.specs.Syntax.cond (Some I64) x y) rest)) (push ts I64) outs
choice_valid ts p q h = on1 ts I64 I32 (of_numeric refl refl) (on1 ts I32 I64 (of_if refl p q) h)

pub valid : (b n t : ℕ) (e : Ir) (c : Context) → Offers n c → Sees e b n → b + slots_needed e ≤ n
    → (wants_spare e ≡ true → suc t < n) → (rest : Code) (ts outs : List ValType) → CodeHasType c rest (push ts I64)
    outs → CodeHasType c (expression_code e b t rest) ts outs
valid b n t (i.num z) c o s nd us rest ts outs h = on0 ts I64 of_const_i64 h
valid b n t (i.truth z) c o s nd us rest ts outs h = on0 ts I64 of_const_i64 h
valid b n t (i.get p) c o s nd us rest ts outs h = place_valid b n c o outs p s rest ts h
valid b n t (i.closure k ps) c o s nd us rest ts outs h =
    on0 ts I32 (of_global_get true o.top)
    (on0 (push ts I32) I64 of_const_i64
    (store_valid b n c o outs _ _ ts
    (stores_valid b n c o outs ps s 1 _ ts (address_valid b n c o outs _ rest ts h))))
valid b n t (i.app f a) c o s nd us rest ts outs h =
    valid b n t f c o s.0 (omega arith) (λ q. us refl) _ ts outs
    (valid b n t a c o s.1 (omega arith) (λ q. us refl) _ (push ts I64) outs
    (apply_valid b n c o outs t (us refl) rest ts h))
valid b n t (i.bind j d e) c o s nd us rest ts outs h =
    valid b n t d c o s.0 (omega arith) (λ q. us (or_left (wants_spare d) (wants_spare e) q)) _ ts outs
    (off1 ts I64 (of_local_set (o.all (b + j) (omega arith)))
    (valid b n t e c o s.1 (omega arith) (λ q. us (or_right (wants_spare d) (wants_spare e) q)) rest ts outs h))
valid b n t (i.cond x y z) c o s nd us rest ts outs h =
    valid b n t x c o s.0 (omega arith) (λ q. us (or_left (wants_spare x) _ q)) _ ts outs
    (choice_valid ts
    (valid b n t y (with_label (I64 ∷ []) c) (labelled _ o) s.1 (omega arith)
    (λ q. us (or_right (wants_spare x) _ (or_left (wants_spare y) (wants_spare z) q))) end [] (I64 ∷ []) of_end)
    (valid b n t z (with_label (I64 ∷ []) c) (labelled _ o) s.2 (omega arith)
    (λ q. us (or_right (wants_spare x) _ (or_right (wants_spare y) (wants_spare z) q))) end [] (I64 ∷ []) of_end) h)
valid b n t (i.pair x y) c o s nd us rest ts outs h =
    valid b n t x c o s.0 (omega arith) (λ q. us refl) _ ts outs
    (valid b n t y c o s.1 (omega arith) (λ q. us refl) _ (push ts I64) outs
    (pair_valid b n c o outs t (us refl) rest ts h))
valid b n t (i.fst e) c o s nd us rest ts outs h = valid b n t e c o s nd us _ ts outs
    (word_valid b n c o outs 0 rest ts h)
valid b n t (i.snd e) c o s nd us rest ts outs h = valid b n t e c o s nd us _ ts outs
    (word_valid b n c o outs 8 rest ts h)
valid b n t (i.prim p x y) c o s nd us rest ts outs h =
    valid b n t x c o s.0 (omega arith) (λ q. us (or_left (wants_spare x) (wants_spare y) q)) _ ts outs
    (valid b n t y c o s.1 (omega arith) (λ q. us (or_right (wants_spare x) (wants_spare y) q)) _ (push ts I64) outs
    (prim_valid b n c o outs p rest ts h))

-- at a tail place of a function with a loop, whose label is number d
pub tail_valid : (n t d : ℕ) (e : Ir) (c : Context) → Offers n c → slice_get c.labels d ≡ Some [] → 1 < n → Sees e 2 n
    → 2 + slots_needed e ≤ n → (tail_wants_spare e ≡ true → suc t < n) → CodeHasType c (tail_code e 2 t d) [] (I64 ∷ [])
tail_valid n t d (i.app f a) c o l lt s nd us =
    (elim (is_own f) as
    (λ q. is_own f ≡ q
    → CodeHasType c
    (if q then expression_code a 2 t (next (Rattle.mw_wasm.specs.Syntax.local_set 1) (next (br d) end)) else
    expression_code f 2 t (expression_code a 2 t (application_code t end))) [] (I64 ∷ [])) [
      | true ↦ λ q. valid 2 n t a c o s.1 (omega arith) (λ p. us (rw q p)) _ [] (I64 ∷ [])
          (off1 [] I64 (of_local_set (o.all 1 lt)) (of_next [] [] (I64 ∷ []) (of_br [] [] l refl) refl of_end))
      | false ↦ λ q. valid 2 n t (i.app f a) c o s nd (λ p. us (rw q refl)) end [] (I64 ∷ []) of_end
    ]) refl
tail_valid n t d (i.bind j x y) c o l lt s nd us =
    valid 2 n t x c o s.0 (omega arith) (λ q. us (or_left (wants_spare x) (tail_wants_spare y) q)) _ [] (I64 ∷ [])
    (off1 [] I64 (of_local_set (o.all (2 + j) (omega arith)))
    (tail_valid n t d y c o l lt s.1 (omega arith) (λ q. us (or_right (wants_spare x) (tail_wants_spare y) q))))
tail_valid n t d (i.cond x y z) c o l lt s nd us =
    valid 2 n t x c o s.0 (omega arith) (λ q. us (or_left (wants_spare x) _ q)) _ [] (I64 ∷ [])
    (choice_valid [] (tail_valid n t (suc d) y (with_label (I64 ∷ []) c) (labelled _ o) l lt s.1 (omega arith)
    (λ q. us (or_right (wants_spare x) _ (or_left (tail_wants_spare y) (tail_wants_spare z) q))))
    (tail_valid n t (suc d) z (with_label (I64 ∷ []) c) (labelled _ o) l lt s.2 (omega arith)
    (λ q. us (or_right (wants_spare x) _ (or_right (tail_wants_spare y) (tail_wants_spare z) q)))) of_end)
tail_valid n t d e c o l lt s nd us = valid 2 n t e c o s nd us end [] (I64 ∷ []) of_end

pub loop_valid : (n t : ℕ) (e : Ir) (c : Context) → Offers n c → 1 < n → Sees e 2 n → 2 + slots_needed e ≤ n
    → (tail_wants_spare e ≡ true → suc t < n) → CodeHasType c (loop_code e t) [] (I64 ∷ [])
loop_valid n t e c o lt s nd us =
    of_next [] [] (I64 ∷ []) (of_loop refl (tail_valid n t 0 e (with_label [] c) (labelled [] o) refl lt s nd us)) refl
    of_end
