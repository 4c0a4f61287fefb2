-- The ranges and limits of converted code.
use Rattle.std.specs.Prelude.{ℕ, zero, ◌+◌, ◌≤◌, ◌<◌, ◌≡◌, max, List, [], ◌∷◌, length, Option, Some, None, slice_get}
use Rattle.std.specs.Prelude.{FitsSigned}
use Rattle.std.specs.Int.{w64}
use Rattle.std.specs.List.{AllByRecursion}
use Rattle.mw_ir.specs.declared.place.Place.{Place}
use Rattle.mw_ir.specs.declared.place.Place.TheVariants.{Argument, Own, Slot, Free}
use Rattle.mw_ir.specs.Ir.{Ir, num, truth, get, closure, app, bind, cond, pair, fst, snd, prim, IrFunc}

-- the number of nodes
abbrev pub ir_size : Ir → ℕ
ir_size (num n) = 1
ir_size (truth b) = 1
ir_size (get p) = 1
ir_size (closure i ps) = 1
ir_size (app f a) = ir_size f + ir_size a + 1
ir_size (bind s d e) = ir_size d + ir_size e + 1
ir_size (cond c a b) = ir_size c + ir_size a + ir_size b + 1
ir_size (pair a b) = ir_size a + ir_size b + 1
ir_size (fst e) = ir_size e + 1
ir_size (snd e) = ir_size e + 1
ir_size (prim p a b) = ir_size a + ir_size b + 1

-- the nodes on the longest path
abbrev pub ir_depth : Ir → ℕ
ir_depth (num n) = 1
ir_depth (truth b) = 1
ir_depth (get p) = 1
ir_depth (closure i ps) = 1
ir_depth (app f a) = max (ir_depth f) (ir_depth a) + 1
ir_depth (bind s d e) = max (ir_depth d) (ir_depth e) + 1
ir_depth (cond c a b) = max (max (ir_depth c) (ir_depth a)) (ir_depth b) + 1
ir_depth (pair a b) = max (ir_depth a) (ir_depth b) + 1
ir_depth (fst e) = ir_depth e + 1
ir_depth (snd e) = ir_depth e + 1
ir_depth (prim p a b) = max (ir_depth a) (ir_depth b) + 1

-- the nodes of some functions
abbrev pub total_size : List IrFunc → ℕ
total_size [] = zero
total_size (f ∷ fs) = ir_size f.body + total_size fs

-- a place that a function of so many free variables and slots has
abbrev pub IsPlace : ℕ → ℕ → Place → Type 0
IsPlace free slots Argument = Unit {0}
IsPlace free slots Own = Unit {0}
IsPlace free slots (Slot s) = s < slots
IsPlace free slots (Free j) = j < free

-- outside all functions there are slots alone
abbrev pub IsOuterPlace : ℕ → Place → Type 0
IsOuterPlace slots (Slot s) = s < slots
IsOuterPlace slots _ = ⊥

-- there is a function, and it has so many free variables
abbrev pub HasFree : ℕ → Option IrFunc → Type 0
HasFree k None = ⊥
HasFree k (Some f) = f.free ≡ k

-- Code over the functions t, whose places all have P and whose slots are below the number of them. Its literals have 64
-- bits, and a closure is of a function of t and has as many places as that has free variables.
abbrev pub IsInRange : List IrFunc → (Place → Type 0) → ℕ → Ir → Type 0
IsInRange t P slots (num n) = FitsSigned w64 n
IsInRange t P slots (truth b) = Unit {0}
IsInRange t P slots (get p) = P p
IsInRange t P slots (closure i ps) = HasFree (length ps) (slice_get t i) × AllByRecursion P ps
IsInRange t P slots (app f a) = IsInRange t P slots f × IsInRange t P slots a
IsInRange t P slots (bind s d e) = (s < slots) × IsInRange t P slots d × IsInRange t P slots e
IsInRange t P slots (cond c a b) = IsInRange t P slots c × IsInRange t P slots a × IsInRange t P slots b
IsInRange t P slots (pair a b) = IsInRange t P slots a × IsInRange t P slots b
IsInRange t P slots (fst e) = IsInRange t P slots e
IsInRange t P slots (snd e) = IsInRange t P slots e
IsInRange t P slots (prim p a b) = IsInRange t P slots a × IsInRange t P slots b

-- a function of t, whose body uses places that it has
pub record IsProper (t : List IrFunc) (f : IrFunc) : Type 0 where
  pub free : f.free ≤ 800
  pub slots : f.slots ≤ 400
  pub depth : ir_depth f.body ≤ 400
  pub body : IsInRange t (IsPlace f.free f.slots) f.slots f.body

-- the functions t, and the code outside them
pub record IsConverted (t : List IrFunc) (outer : IrFunc) : Type 0 where
  pub few : length t ≤ 20000
  pub size : total_size t + ir_size outer.body ≤ 20000
  pub functions : AllByRecursion (IsProper t) t
  pub free : outer.free ≡ 0
  pub slots : outer.slots ≤ 400
  pub depth : ir_depth outer.body ≤ 400
  pub body : IsInRange t (IsOuterPlace outer.slots) outer.slots outer.body
