-- Some bytes spell the code that is generated.
use Rattle.std.proofs.Common.{◌≡◌, ◌≤◌, ◌<◌, ℕ, suc, ◌+◌, ◌*◌, ◌^◌, Bool, true, false, List, [], ◌∷◌, length, ℤ, pos}
use Rattle.std.proofs.Common.{refl, sym, subst, inr, arith, if◌then◌else◌}
use Rattle.std.specs.Prelude.{Some}
use Rattle.std.specs.List.{AllByRecursion}
use Rattle.std.proofs.Math.Dec.{lt→ltb}
use Rattle.mw_term.specs.declared.term.Primitive.{Primitive as Prim}
use Rattle.mw_term.specs.declared.term.Primitive.TheVariants.{Add, Eq, Lt, Le}
use Rattle.mw_wasm.specs.declared.values.ValType.{ValType}
use Rattle.mw_wasm.specs.declared.values.ValType.TheVariants.{I32, I64}
use Rattle.mw_wasm.specs.Pieces.{byte, i32, ◌then◌, u32}
use Rattle.mw_wasm.specs.BinaryInstructions.{instruction, code as coded, expression, block_type}
use Rattle.mw_wasm.specs.Syntax.{Instruction, Code, loop, cond, br, call_indirect, local_get, local_set, local_tee}
use Rattle.mw_wasm.specs.Syntax.{global_get, global_set, load, store, const_i32, const_i64, numeric, end, next}
use Rattle.mw_leb.proofs.Groups.{signed_shortest}
use Rattle.mw_leb.specs.Shortest.{shortest_signed}
use Rattle.mw_ir.specs.declared.place.Place.TheVariants.{Argument, Free}
use Rattle.mw_ir.specs.Ir as i
use Rattle.mw_ir.specs.declared.place.Place.{Place}
use Rattle.mw_ir.specs.Ir.{Ir}
use Rattle.mw_gen.specs.Generate.{expression_code, tail_code, is_own, place_code, stores_code, prim_code}
use Rattle.mw_gen.specs.Generate.{application_code, pair_code, address_code, store_word, wrap, body_code}
use Rattle.mw_gen.proofs.Slots.{slots_needed}
use Rattle.mw_gen.proofs.Words.{bits, Small}
use Rattle.mw_gen.proofs.Primitives.{truth_small, truth_bits}
use Rattle.mw_gen.proofs.Correctness.{Fine, pos_small}
use Rattle.mw_gen.proofs.Valid.{place_local, AreSeen, Sees}
use Rattle.mw_gen.proofs.Pieces.{SpelledWithin, within_then, within_more, within_byte, within_u32, constant_spelled}
use Rattle.mw_gen.proofs.Pieces.{signed_length}

-- at most so many bytes
abbrev mutual
  pub instruction_width : Instruction → ℕ
  instruction_width (loop t body) = 3 + width body
  instruction_width (cond t a b) = 4 + width a + width b
  instruction_width (br l) = 6
  instruction_width (call_indirect t) = 7
  instruction_width (local_get x) = 6
  instruction_width (local_set x) = 6
  instruction_width (local_tee x) = 6
  instruction_width (global_get x) = 6
  instruction_width (global_set x) = 6
  instruction_width (numeric o) = 1
  instruction_width _ = 11

  pub width : Code → ℕ
  width end = 0
  width (next x c) = instruction_width x + width c

-- the instructions of generated code, with immediates that can be spelled
abbrev mutual
  pub IsFit : Instruction → Type 0
  IsFit (loop (Some t) body) = AreFit body
  IsFit (cond (Some t) a b) = AreFit a × AreFit b
  IsFit (br l) = l < 2 ^ 32
  IsFit (call_indirect t) = t < 2 ^ 32
  IsFit (local_get x) = x < 2 ^ 32
  IsFit (local_set x) = x < 2 ^ 32
  IsFit (local_tee x) = x < 2 ^ 32
  IsFit (global_get x) = x < 2 ^ 32
  IsFit (global_set x) = x < 2 ^ 32
  IsFit (load o align offset) = (align < 2 ^ 32) × (offset < 2 ^ 32)
  IsFit (store o align offset) = (align < 2 ^ 32) × (offset < 2 ^ 32)
  IsFit (const_i32 n) = n < 2 ^ 31
  IsFit (const_i64 n) = (z : ℤ) × Small z × (n ≡ bits z)
  IsFit (numeric o) = Unit {0}
  IsFit _ = ⊥

  pub AreFit : Code → Type 0
  AreFit end = Unit {0}
  AreFit (next x c) = IsFit x × AreFit c

type_within : (t : ValType) → SpelledWithin 1 (block_type (Some t))
type_within I32 = within_byte 0x7F
type_within I64 = within_byte 0x7E

i32_within : (n : ℕ) → n < 2 ^ 31 → SpelledWithin 10 (i32 n)
i32_within n h =
    let s = signed_shortest 32 (pos n) (omega arith) (omega arith) (omega (arith, lt→ltb)) in
    record {
      bytes = shortest_signed (pos n);
      spell = (pos n, s.spells, refl);
      short = let p =
          signed_length (shortest_signed (pos n)) 32 (pos n) s.spells in omega arith;
    }

index_within : (b n : ℕ) → n < 2 ^ 32 → SpelledWithin 6 (byte b then u32 n)
index_within b n h = within_then {j = 1} {k = 5} (within_byte b) (within_u32 n h)

mutual
  pub instruction_within : (x : Instruction) → IsFit x → SpelledWithin (instruction_width x) (instruction x)
  instruction_within (loop (Some t) body) f = within_more (3 + width body) (omega arith)
      (within_then {j = 1} (within_byte 0x03)
      (within_then {j = 1} (type_within t) (within_then (code_within body f) (within_byte 0x0B))))
  instruction_within (cond (Some t) a b) f =
      let rest = within_then {j = 1} (within_byte 0x05) (within_then (code_within b f.1) (within_byte 0x0B)) in
      within_more (4 + width a + width b) (omega arith)
      (within_then {j = 1} (within_byte 0x04)
      (within_then {j = 1} (type_within t)
      (within_then (code_within a f.0) record { bytes = rest.bytes; spell = inr rest.spell; short = rest.short })))
  instruction_within (br l) f = index_within 0x0C l f
  instruction_within (call_indirect t) f =
      within_then {j = 1} {k = 6} (within_byte 0x11) (within_then {j = 5} {k = 1} (within_u32 t f) (within_byte 0x00))
  instruction_within (local_get x) f = index_within 0x20 x f
  instruction_within (local_set x) f = index_within 0x21 x f
  instruction_within (local_tee x) f = index_within 0x22 x f
  instruction_within (global_get x) f = index_within 0x23 x f
  instruction_within (global_set x) f = index_within 0x24 x f
  instruction_within (load o align offset) f = within_then {j = 1} {k = 10} (within_byte _)
      (within_then {j = 5} {k = 5} (within_u32 align f.0) (within_u32 offset f.1))
  instruction_within (store o align offset) f = within_then {j = 1} {k = 10} (within_byte _)
      (within_then {j = 5} {k = 5} (within_u32 align f.0) (within_u32 offset f.1))
  instruction_within (const_i32 n) f = within_then {j = 1} {k = 10} (within_byte 0x41) (i32_within n f)
  instruction_within (const_i64 n) f = subst (λ n. SpelledWithin 11 (instruction (const_i64 n))) (sym f.2)
      (constant_spelled f.0 f.1)
  instruction_within (numeric o) f = within_byte _
  instruction_within _ f = absurd (f)

  pub code_within : (c : Code) → AreFit c → SpelledWithin (width c) (coded c)
  code_within end f = record { bytes = []; spell = refl; short = omega arith }
  code_within (next x c) f = within_then (instruction_within x f.0) (code_within c f.1)

pub expression_within : (c : Code) → AreFit c → SpelledWithin (width c + 1) (expression c)
expression_within c f = within_then (code_within c f) (within_byte 0x0B)

-- the bytes of an expression's code, before a rest
abbrev pub breadth : Ir → ℕ
breadth (i.num z) = 11
breadth (i.truth z) = 11
breadth (i.get p) = 18
breadth (i.closure k ps) = 59 + 35 * length ps
breadth (i.app f a) = breadth f + breadth a + 43
breadth (i.bind s d e) = breadth d + breadth e + 6
breadth (i.cond c y z) = breadth c + breadth y + breadth z + 5
breadth (i.pair y z) = breadth y + breadth z + 89
breadth (i.fst e) = breadth e + 12
breadth (i.snd e) = breadth e + 12
breadth (i.prim p y z) = breadth y + breadth z + 2

place_width : (p : Place) (b : ℕ) (rest : Code) → width (place_code p b rest) ≤ 18 + width rest
place_width Argument b rest = omega arith
place_width _ b rest = omega arith

stores_width : (ps : List Place) (j b : ℕ) (rest : Code) → width (stores_code ps j b rest) ≤ 35 * length ps + width rest
stores_width [] j b rest = omega arith
stores_width (p ∷ ps) j b rest = omega (arith, place_width p b, stores_width ps (suc j) b rest)

prim_width : (p : Prim) (rest : Code) → width (prim_code p rest) ≤ 2 + width rest
prim_width Add rest = omega arith
prim_width _ rest = omega arith

pub expression_width : (e : Ir) (b t : ℕ) (rest : Code) → width (expression_code e b t rest) ≤ breadth e + width rest
expression_width (i.num z) b t rest = omega arith
expression_width (i.truth z) b t rest = omega arith
expression_width (i.get p) b t rest = place_width p b rest
expression_width (i.closure k ps) b t rest = omega (arith, stores_width ps 1 b)
expression_width (i.app f a) b t rest = omega (arith, expression_width f b t, expression_width a b t)
expression_width (i.bind s d e) b t rest = omega (arith, expression_width d b t, expression_width e b t rest)
expression_width (i.cond c y z) b t rest =
    omega (arith, expression_width c b t, expression_width y b t end, expression_width z b t end)
expression_width (i.pair y z) b t rest = omega (arith, expression_width y b t, expression_width z b t)
expression_width (i.fst e) b t rest = omega (arith, expression_width e b t)
expression_width (i.snd e) b t rest = omega (arith, expression_width e b t)
expression_width (i.prim p y z) b t rest =
    omega (arith, expression_width y b t, expression_width z b t, prim_width p rest)

pub tail_width : (e : Ir) (b t d : ℕ) → width (tail_code e b t d) ≤ breadth e
tail_width (i.app f a) b t d = go (is_own f)
  where
    go : (c : Bool)
        → width (if c then expression_code a b t (next (local_set 1) (next (br d) end)) else expression_code f b t
        (expression_code a b t (application_code t end))) ≤ breadth (i.app f a)
    go true = omega (arith, expression_width a b t (next (local_set 1) (next (br d) end)))
    go false = omega (arith, expression_width (i.app f a) b t end)
tail_width (i.bind s y e) b t d = omega (arith, expression_width y b t, tail_width e b t d)
tail_width (i.cond c y z) b t d =
    omega (arith, expression_width c b t, tail_width y b t (suc d), tail_width z b t (suc d))
tail_width e b t d = omega (arith, expression_width e b t end)

pub body_width : (z : Bool) (e : Ir) (t : ℕ) → width (body_code z e t) ≤ breadth e + 3
body_width false e t = omega (arith, expression_width e 2 t end)
body_width true e t = omega (arith, tail_width e 2 t 0)

-- offsets that can be spelled
abbrev pub IsNear : Place → Type 0
IsNear (Free j) = j < 1000
IsNear _ = Unit {0}

abbrev pub Near : Ir → Type 0
Near (i.get p) = IsNear p
Near (i.closure k ps) = AllByRecursion IsNear ps × (length ps < 1000)
Near (i.app f a) = Near f × Near a
Near (i.bind s d e) = Near d × Near e
Near (i.cond c y z) = Near c × Near y × Near z
Near (i.pair y z) = Near y × Near z
Near (i.fst e) = Near e
Near (i.snd e) = Near e
Near (i.prim p y z) = Near y × Near z
Near _ = Unit {0}

module _ (b n : ℕ) (low : n ≤ 2 ^ 31) where
  place_fit : (p : Place) → place_local p b < n → IsNear p → (rest : Code) → AreFit rest → AreFit (place_code p b rest)
  place_fit (Free j) s r rest h = (omega arith, (tt, ((omega arith, omega arith), h)))
  place_fit _ s r rest h = (omega arith, h)

  stores_fit : (ps : List Place) → AreSeen ps b n → AllByRecursion IsNear ps → (j : ℕ) → j + length ps ≤ 1000
      → (rest : Code) → AreFit rest → AreFit (stores_code ps j b rest)
  stores_fit [] s r j le rest h = h
  stores_fit (p ∷ ps) s r j le rest h = (
    omega arith,
    place_fit p s.0 r.0 _ ((omega arith, omega arith), stores_fit ps s.1 r.1 (suc j) (omega arith) rest h),
  )

  address_fit : (m : ℕ) → m < 2 ^ 31 → (rest : Code) → AreFit rest → AreFit (address_code m rest)
  address_fit m lt rest h = (omega arith, (tt, (omega arith, (lt, (tt, (omega arith, h))))))

  apply_fit : (t : ℕ) → t < 2 ^ 31 → (rest : Code) → AreFit rest → AreFit (application_code t rest)
  apply_fit t lt rest h =
      (omega arith, (omega arith, (omega arith, (omega arith, (tt, ((omega arith, omega arith), (omega arith, h)))))))

  pair_fit : (t : ℕ) → t < 2 ^ 31 → (rest : Code) → AreFit rest → AreFit (pair_code t rest)
  pair_fit t lt rest h =
      let last : AreFit (store_word 8 (address_code 16 rest)) =
      ((omega arith, omega arith), address_fit 16 (omega arith) rest h) in
      let a : t < 2 ^ 32 = omega arith in
      let b : suc t < 2 ^ 32 = omega arith in
      (b, (a, (omega arith, (a, ((omega arith, omega arith), (omega arith, (b, last)))))))

  prim_fit : (p : Prim) (rest : Code) → AreFit rest → AreFit (prim_code p rest)
  prim_fit Eq rest h = (tt, (tt, h))
  prim_fit Lt rest h = (tt, (tt, h))
  prim_fit Le rest h = (tt, (tt, h))
  prim_fit _ rest h = (tt, h)

  pub expression_fit : (t : ℕ) → t < 2 ^ 31 → (e : Ir) → Fine e → Sees e b n → Near e → b + slots_needed e ≤ n
      → (rest : Code) → AreFit rest → AreFit (expression_code e b t rest)
  expression_fit t lt (i.num z) f s r nd rest h = ((z, f, refl), h)
  expression_fit t lt (i.truth z) f s r nd rest h = ((_, truth_small z, truth_bits z), h)
  expression_fit t lt (i.get p) f s r nd rest h = place_fit p s r rest h
  expression_fit t lt (i.closure k ps) f s r nd rest h =
      let m = 8 * suc (length ps) in
      let stored = stores_fit ps s r.0 1 (omega (arith, r.1)) (address_code m rest)
      (address_fit m (omega (arith, r.1)) rest h) in
      (omega arith, ((pos k, pos_small k (omega arith), refl), ((omega arith, omega arith), stored)))
  expression_fit t lt (i.app x a) f s r nd rest h = expression_fit t lt x f.0 s.0 r.0 (omega arith) _
      (expression_fit t lt a f.1 s.1 r.1 (omega arith) _ (apply_fit t lt rest h))
  expression_fit t lt (i.bind j d e) f s r nd rest h = expression_fit t lt d f.0 s.0 r.0 (omega arith) _
      (omega arith, expression_fit t lt e f.1 s.1 r.1 (omega arith) rest h)
  expression_fit t lt (i.cond c y z) f s r nd rest h =
      let yes = expression_fit t lt y f.1 s.1 r.1 (omega arith) end tt in
      let no = expression_fit t lt z f.2 s.2 r.2 (omega arith) end tt in
      expression_fit t lt c f.0 s.0 r.0 (omega arith)
      (wrap (next (cond (Some I64) (expression_code y b t end) (expression_code z b t end)) rest)) (tt, ((yes, no), h))
  expression_fit t lt (i.pair y z) f s r nd rest h = expression_fit t lt y f.0 s.0 r.0 (omega arith) _
      (expression_fit t lt z f.1 s.1 r.1 (omega arith) _ (pair_fit t lt rest h))
  expression_fit t lt (i.fst e) f s r nd rest h = expression_fit t lt e f s r nd _ (tt, ((omega arith, omega arith), h))
  expression_fit t lt (i.snd e) f s r nd rest h = expression_fit t lt e f s r nd _ (tt, ((omega arith, omega arith), h))
  expression_fit t lt (i.prim p y z) f s r nd rest h = expression_fit t lt y f.0 s.0 r.0 (omega arith) _
      (expression_fit t lt z f.1 s.1 r.1 (omega arith) _ (prim_fit p rest h))

  pub tail_fit : (t d m : ℕ) → t < 2 ^ 31 → (e : Ir) → d + breadth e ≤ m → m < 2 ^ 32 → Fine e → Sees e b n → Near e
      → b + slots_needed e ≤ n → AreFit (tail_code e b t d)
  tail_fit t d m lt (i.app x a) le big f s r nd = go (is_own x)
    where
      go : (c : Bool)
          → AreFit (if c then expression_code a b t (next (local_set 1) (next (br d) end)) else expression_code x b t
          (expression_code a b t (application_code t end)))
      go true = expression_fit t lt a f.1 s.1 r.1 (omega arith) _ (omega arith, (omega arith, tt))
      go false = expression_fit t lt (i.app x a) f s r nd end tt
  tail_fit t d m lt (i.bind j y e) le big f s r nd = expression_fit t lt y f.0 s.0 r.0 (omega arith) _
      (omega arith, tail_fit t d m lt e (omega arith) big f.1 s.1 r.1 (omega arith))
  tail_fit t d m lt (i.cond c y z) le big f s r nd =
      let yes = tail_fit t (suc d) m lt y (omega arith) big f.1 s.1 r.1 (omega arith) in
      let no = tail_fit t (suc d) m lt z (omega arith) big f.2 s.2 r.2 (omega arith) in
      expression_fit t lt c f.0 s.0 r.0 (omega arith)
      (wrap (next (cond (Some I64) (tail_code y b t (suc d)) (tail_code z b t (suc d))) end)) (tt, ((yes, no), tt))
  tail_fit t d m lt e le big f s r nd = expression_fit t lt e f s r nd end tt

pub body_fit : (z : Bool) (n t : ℕ) (e : Ir) → n ≤ 2 ^ 31 → t < 2 ^ 31 → breadth e < 2 ^ 32 → Fine e → Sees e 2 n
    → Near e → 2 + slots_needed e ≤ n → AreFit (body_code z e t)
body_fit false n t e low lt big f s r nd = expression_fit 2 n low t lt e f s r nd end tt
body_fit true n t e low lt big f s r nd = (tail_fit 2 n low t 0 (breadth e) lt e (omega arith) big f s r nd, tt)
