-- Uses of names whose types have nothing open, and equations in which such a type stands once.
use Rattle.std.specs.Prelude.{ℕ, ◌≡◌, ◌<◌, ◌↔◌, ◌⊎◌, ◌++◌, List, [], ◌∷◌, Option, Some, None, length, slice_get, take}
use Rattle.mw_types.specs.Types.{TypeExpression, Assignment, int_ty, unknown, value}
use Rattle.mw_types.specs.Equations.{TypeEquation, AllWithin, Solves, equation_of}
use Rattle.mw_types.specs.declared.types.Equation.{Equation}
use Rattle.mw_infer.specs.declared.output.Emitted.{Emitted}
use Rattle.mw_infer.specs.declared.output.Emitted.TheVariants.{Written, NameUse}
use Rattle.mw_infer.specs.declared.sharing.FirstUse.{FirstUse}
use Rattle.mw_infer.specs.ItemEquations.{equation}
use Rattle.mw_infer.specs.Schemes.{TopScheme, let_scheme, kernel_scheme, scheme_out_of_scope, type_of_scheme}

-- nothing is left open in what a name has
abbrev pub IsWhole : TopScheme → Type 0
IsWhole (let_scheme s) = (s.unknowns ≡ 0) × (s.classifiers ≡ 0)
IsWhole (kernel_scheme k) = Unit {0}
IsWhole scheme_out_of_scope = ⊥

-- the type of a name's uses
abbrev pub type_at : Option TopScheme → TypeExpression
type_at (Some x) = type_of_scheme x
type_at None = int_ty

-- the equation of a use, whose type is u
abbrev pub use_equation : List TopScheme → ℕ → ℕ → TypeEquation
use_equation tops u name = equation (unknown u) (type_at (slice_get tops name))

-- the equation that was emitted
abbrev pub meaning : List TopScheme → Emitted → TypeEquation
meaning tops (Written e) = equation_of e
meaning tops (NameUse u name) = use_equation tops u name

-- as many equations, of which each front has the same solutions
pub record Alike (long short : List TypeEquation) : Type 0 where
  pub count : length short ≡ length long
  pub solved : (k : ℕ) (a : Assignment) → Solves a (take k long) ↔ Solves a (take k short)
  pub within : (n m : ℕ) → AllWithin n m long → AllWithin n m short

-- a use of the name is there, and this is its unknown
pub record IsUseIn (firsts : List FirstUse) (name own : ℕ) : Type 0 where
  pub at : ℕ
  pub is : slice_get firsts at ≡ Some (record { name = name; own = own })

-- the equation says that a use has its type, or that it has the type of a use that is there
abbrev pub SharesUse : List TopScheme → List FirstUse → List FirstUse → ℕ → ℕ → Equation → Type 0
SharesUse tops old new own name e =
    ((equation_of e ≡ use_equation tops own name) × (new ≡ old ++ (record { name = name; own = own } ∷ [])))
    ⊎ ((first : ℕ) × IsUseIn old name first × (equation_of e ≡ equation (unknown own) (unknown first)) × (new ≡ old))

-- the equations say of each use that its unknown has the name's type
pub record AreUses (tops : List TopScheme) (es : List TypeEquation) (firsts : List FirstUse) : Type 0 where
  pub says : (i : ℕ) (f : FirstUse) (a : Assignment) → slice_get firsts i ≡ Some f → Solves a es
      → a.ty f.own ≡ value a (type_at (slice_get tops f.name))
  pub within : (i : ℕ) (f : FirstUse) (n m : ℕ) → slice_get firsts i ≡ Some f → AllWithin n m es → f.own < n
