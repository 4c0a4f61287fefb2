-- What the meaning of the intermediate language says of a run of its module.
use Rattle.std.specs.Prelude.{◌≡◌, ℕ, suc, ◌*◌, ℤ, List, [], ◌∷◌, length, map, Some, None, Ok, slice_get}
use Rattle.mw_term.specs.Terms.{KernelType, of_ground, to}
use Rattle.mw_term.specs.declared.value.TrapKind.{TrapKind}
use Rattle.mw_term.specs.declared.value.TrapKind.TheVariants as kind
use Rattle.mw_term.specs.declared.value.Limit.TheVariants.{Fuel, Heap, KernelSize}
use Rattle.mw_meaning.specs.Arithmetic.{Reason, trap, bound, stuck}
use Rattle.mw_wasm.specs.declared.values.Trap.{Trap}
use Rattle.mw_wasm.specs.declared.values.Trap.TheVariants as traps
use Rattle.mw_wasm.specs.Store.{Memory, Store}
use Rattle.mw_wasm.specs.Execution.{End, ended, trapped, spent}
use Rattle.mw_wasm.specs.Syntax.{PureModule}
use Rattle.mw_wasm.specs.Instances.{instantiated, invoked}
use Rattle.mw_meaning.specs.Shapes.{leaf_count}
use Rattle.mw_ir.specs.Ir as i
use Rattle.mw_ir.specs.Ir.{Ir, IrFunc, Frame, means, outside}
use Rattle.mw_ir.specs.Ranges.{IsConverted}
use Rattle.mw_key.specs.declared.version.Version.{Version}
use Rattle.mw_gen.specs.Generate.{call_of, module_with}
use Rattle.mw_gen.specs.Keeping.{Small, Keeps, word, store_at, table_of}

abbrev pub trap_of : TrapKind → Trap
trap_of kind.Divide = traps.Divide
trap_of kind.Overflow = traps.Overflow

-- an end without a value
abbrev pub Ends : Reason → End → Type 0
Ends (trap y) E = (st : Store) × (E ≡ trapped (trap_of y) st)
Ends (bound Heap) E = (st : Store) × (E ≡ trapped traps.OutOfBounds st)
Ends (bound Fuel) E = E ≡ spent
Ends (bound KernelSize) E = ⊥
Ends stuck E = Unit {0}

abbrev pub EndsWhere : i.Ended → (ℤ → ℕ → List ℤ → End → Type 0) → End → Type 0
EndsWhere (i.gives w n h) Q E = Q w n h E
EndsWhere (i.stops y) Q E = Ends y E

-- Q speaks of the run after a value
pub record Says (a : i.Ended) (Q : ℤ → ℕ → List ℤ → End → Type 0) (E : End) : Type 0 where
  pub says : EndsWhere a Q E

-- the run ends with this word and these units, in a store whose heap ends at this byte and whose memory keeps the heap
abbrev pub EndsAt : List IrFunc → ℕ → ℤ → ℕ → List ℤ → End → Type 0
EndsAt t top w l h E = (mem : Memory) × (E ≡ ended (store_at (table_of t) top mem) (word w ∷ []) l) × Keeps h mem
    × Small w

-- the frame of `call`: a closure's word and the leaves of an argument are its slots
abbrev pub call_frame : ℤ → List ℤ → Frame
call_frame r ws = record { argument = None; own = None; slots = r ∷ ws }

module _ (m : PureModule) (t : List IrFunc) where
  -- `call` applies a closure to an argument, beside a memory that keeps a heap. When it is over the heap's end is where
  -- it was.
  abbrev pub CallMeans : KernelType → Type 0
  CallMeans (of_ground g) = Unit {0}
  CallMeans (to s g) = (n : ℕ) (h : List ℤ) (mem : Memory) (r : ℤ) (ws : List ℤ) → length ws ≡ leaf_count s
      → ((j : ℕ) (w : ℤ) → slice_get (r ∷ ws) j ≡ Some w → Small w) → Keeps h mem
      → Says (means t n h (call_frame r ws) (call_of s)) (λ w l grown E. EndsAt t (8 * length h) w l grown E)
      (invoked m (store_at (table_of t) (8 * length h) mem) (suc (length t)) (map word (r ∷ ws)) n)

  -- The module has an instance, on which `init` does what the code outside all functions means, and `call` what an
  -- application means.
  pub record MeansConverted (body : Ir) (k : KernelType) : Type 0 where
    pub memory : Memory
    pub has_instance : instantiated m ≡ Ok (store_at (table_of t) 0 memory)
    pub empty : Keeps [] memory
    pub init : (n : ℕ) → Says (means t n [] outside body) (λ w l h E. EndsAt t (8 * length h) w l h E)
        (invoked m (store_at (table_of t) 0 memory) (length t) [] n)
    pub call : CallMeans k

-- in either version, the module of converted code does what the code means
abbrev pub GenerationKeepsMeaning : Type 0
GenerationKeepsMeaning = (v : Version) (t : List IrFunc) (o : IrFunc) (k : KernelType) → IsConverted t o
    → MeansConverted (module_with v t o.slots o.body k) t o.body k
