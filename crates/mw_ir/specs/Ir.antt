-- The intermediate language: functions that are closed but for their closure's words, and its meaning over a heap of
-- words.
use Rattle.std.specs.Prelude.{ℕ, zero, suc, ◌+◌, ◌*◌, ◌/◌, ◌%◌, nat_le, ◌==◌, ℤ, pos, negsuc, Bool, true, false, List}
use Rattle.std.specs.Prelude.{[], ◌∷◌, ◌++◌, length, Option, Some, None, slice_get}
use Rattle.mw_term.specs.declared.term.Primitive.{Primitive as Prim}
use Rattle.mw_term.specs.declared.value.Limit.TheVariants.{Fuel, Heap}
use Rattle.mw_ir.specs.declared.place.Place.{Place}
use Rattle.mw_ir.specs.declared.place.Place.TheVariants.{Argument, Own, Slot, Free}
use Rattle.mw_meaning.specs.Arithmetic.{Reason, trap, bound, stuck, PrimitiveResult, number, fact, trapped, compute}

-- code of a function
pub data Ir : Type 0 where
  num : (n : ℤ) → Ir
  truth : (b : Bool) → Ir
  get : (p : Place) → Ir
  closure : (i : ℕ) (ps : List Place) → Ir
  app : (f a : Ir) → Ir
  bind : (s : ℕ) (d e : Ir) → Ir
  cond : (c a b : Ir) → Ir
  pair : (a b : Ir) → Ir
  fst : (e : Ir) → Ir
  snd : (e : Ir) → Ir
  prim : (p : Prim) (a b : Ir) → Ir

-- a function: how many free variables its closures hold, how many slots its lets need, and its body
pub record IrFunc : Type 0 where
  pub free : ℕ
  pub slots : ℕ
  pub body : Ir

-- A word is a whole number: an integer, 0 or 1, or the byte address of a pair or closure.
-- A heap is a list of words; word k stands at byte 8k.

-- what a function sees: its argument, its closure, and the words of the lets round the place
pub record Frame : Type 0 where
  pub argument : Option ℤ
  pub own : Option ℤ
  pub slots : List ℤ

-- the frame of the code outside all functions
abbrev pub outside : Frame
outside = record { argument = None; own = None; slots = [] }

abbrev pub inside : ℤ → ℤ → Frame
inside u w = record { argument = Some w; own = Some u; slots = [] }

abbrev pub with_slot : Frame → ℤ → Frame
with_slot fr w = record { argument = fr.argument; own = fr.own; slots = fr.slots ++ w ∷ [] }

abbrev pub aligned : ℕ → Option ℤ → Option ℤ
aligned zero o = o
aligned (suc r) o = None

-- word j of what stands at the address w
abbrev pub load : List ℤ → ℤ → ℕ → Option ℤ
load h (pos a) j = aligned (a % 8) (slice_get h (a / 8 + j))
load h (negsuc a) j = None

abbrev pub load_own : List ℤ → Option ℤ → ℕ → Option ℤ
load_own h None j = None
load_own h (Some w) j = load h w j

abbrev pub read : List ℤ → Frame → Place → Option ℤ
read h fr Argument = fr.argument
read h fr Own = fr.own
read h fr (Slot s) = slice_get fr.slots s
read h fr (Free j) = load_own h fr.own (suc j)

abbrev pub also : Option ℤ → Option (List ℤ) → Option (List ℤ)
also (Some w) (Some ws) = Some (w ∷ ws)
also (Some w) None = None
also None ws = None

abbrev pub read_all : List ℤ → Frame → List Place → Option (List ℤ)
read_all h fr [] = Some []
read_all h fr (p ∷ ps) = also (read h fr p) (read_all h fr ps)

-- how an evaluation ends
pub data Ended : Type 0 where
  gives : (w : ℤ) (left : ℕ) (heap : List ℤ) → Ended
  stops : (why : Reason) → Ended

abbrev pub and_then : Ended → (ℤ → ℕ → List ℤ → Ended) → Ended
and_then (gives w n h) go = go w n h
and_then (stops y) go = stops y

abbrev pub found : {A : Type 0} → Option A → (A → Ended) → Ended
found None go = stops stuck
found (Some x) go = go x

abbrev pub with_room : Bool → Ended → Ended
with_room true e = e
with_room false e = stops (bound Heap)

-- these words at the heap's end, and their address
abbrev pub allocate : List ℤ → List ℤ → ℕ → Ended
allocate ws h n = with_room (nat_le (length h + length ws) 524288) (gives (pos (8 * length h)) n (h ++ ws))

abbrev pub spending : ℕ → (ℕ → Ended) → Ended
spending zero go = stops (bound Fuel)
spending (suc n) go = go n

abbrev pub function_at : List IrFunc → ℤ → Option IrFunc
function_at t (pos i) = slice_get t i
function_at t (negsuc i) = None

abbrev pub word_of_truth : Bool → ℤ
word_of_truth true = pos 1
word_of_truth false = pos 0

abbrev pub chosen : ℤ → Ended → Ended → Ended
chosen (pos zero) a b = b
chosen (pos (suc zero)) a b = a
chosen (pos (suc (suc n))) a b = stops stuck
chosen (negsuc n) a b = stops stuck

abbrev pub result_of : PrimitiveResult → ℕ → List ℤ → Ended
result_of (number z) n h = gives z n h
result_of (fact b) n h = gives (word_of_truth b) n h
result_of (trapped t) n h = stops (trap t)

-- a let whose slot isn't the number of lets round it is Stuck; no conversion makes one
abbrev pub in_turn : Bool → Ended → Ended
in_turn true e = e
in_turn false e = stops stuck

abbrev pub Evaluates : Type 0
Evaluates = ℕ → List ℤ → Frame → Ir → Ended

module _ (t : List IrFunc) where
  abbrev pub applied : ℤ → ℤ → (ℕ → List ℤ → Frame → Ir → Ended) → ℕ → List ℤ → Ended
  applied u w again n h = found (load h u 0) λ i. found (function_at t i) λ f. spending n λ n.
      again n h (inside u w) f.body

  -- the meaning, where again is the meaning of the functions' bodies
  abbrev pub value : Evaluates → Ir → ℕ → List ℤ → Frame → Ended
  value again (num z) n h fr = gives z n h
  value again (truth b) n h fr = gives (word_of_truth b) n h
  value again (get p) n h fr = found (read h fr p) λ w. gives w n h
  value again (closure i ps) n h fr = found (read_all h fr ps) λ ws. allocate (pos i ∷ ws) h n
  value again (app f a) n h fr = and_then (value again f n h fr) λ u n h. and_then (value again a n h fr) λ w n h.
      applied u w again n h
  value again (bind s d e) n h fr =
      in_turn (length fr.slots == s) (and_then (value again d n h fr) λ w n h. value again e n h (with_slot fr w))
  value again (cond c a b) n h fr = and_then (value again c n h fr) λ w n h. chosen w (value again a n h fr)
      (value again b n h fr)
  value again (pair a b) n h fr = and_then (value again a n h fr) λ u n h. and_then (value again b n h fr) λ w n h.
      allocate (u ∷ w ∷ []) h n
  value again (fst e) n h fr = and_then (value again e n h fr) λ w n h. found (load h w 0) λ u. gives u n h
  value again (snd e) n h fr = and_then (value again e n h fr) λ w n h. found (load h w 1) λ u. gives u n h
  value again (prim p a b) n h fr = and_then (value again a n h fr) λ u n h. and_then (value again b n h fr) λ w n h.
      result_of (compute p u w) n h

  -- what the bodies mean with fewer than b units
  abbrev pub calls : ℕ → Evaluates
  calls zero n h fr e = stops stuck
  calls (suc b) n h fr e = value (λ n h fr e. calls b n h fr e) e n h fr

  -- the meaning with n units from the heap h on
  unfoldable pub means : Evaluates
  means n h fr e = value (λ m h fr e. calls n m h fr e) e n h fr
