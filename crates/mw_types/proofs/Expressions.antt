-- What assignments make of types without unknowns, and of the levels that classifier unknowns name.
use Rattle.std.proofs.Common.{◌≡◌, ℕ, refl}
use Rattle.mw_term.specs.declared.term.Base.{Base}
use Rattle.mw_term.specs.declared.term.Base.TheVariants.{Int, Bool as Truth}
use Rattle.mw_term.specs.declared.term.Primitive.{Primitive as Prim}
use Rattle.mw_term.specs.declared.term.Primitive.TheVariants.{Add, Sub, Mul, Div, Mod, Eq, Lt, Le}
use Rattle.mw_term.specs.Terms.{KernelType, GroundType, base, product, of_ground, to}
use Rattle.mw_term.specs.Types.{TermType, Level, live, under, Fits}
use Rattle.mw_term.specs.Types.{base_type, ground_type, kernel_type, primitive_type}
use Rattle.mw_term.proofs.FlatTypes.{fitted, IsPlain-flat_type, IsFormed-formed_type}
use Rattle.mw_types.specs.Types.{Within, Assignment, value}
use Rattle.mw_types.specs.Expressions.{base_expression, ground_expression, kernel_expression, primitive_expression}

pub value-base_expression : (a : Assignment) (b : Base) → value a (base_expression b) ≡ base_type b
value-base_expression a Int = refl
value-base_expression a Truth = refl

pub value-ground_expression : (a : Assignment) (s : GroundType) → value a (ground_expression s) ≡ ground_type s
value-ground_expression a (base b) = value-base_expression a b
value-ground_expression a (product s t) = rw (value-ground_expression a s, value-ground_expression a t) refl

pub value-kernel_expression : (a : Assignment) (k : KernelType) → value a (kernel_expression k) ≡ kernel_type k
value-kernel_expression a (of_ground t) = value-ground_expression a t
value-kernel_expression a (to s t) = rw (value-ground_expression a s, value-ground_expression a t) refl

pub value-primitive_expression : (a : Assignment) (p : Prim) → value a (primitive_expression p) ≡ primitive_type p
value-primitive_expression a Add = refl
value-primitive_expression a Sub = refl
value-primitive_expression a Mul = refl
value-primitive_expression a Div = refl
value-primitive_expression a Mod = refl
value-primitive_expression a Eq = refl
value-primitive_expression a Lt = refl
value-primitive_expression a Le = refl

pub Within-base_expression : (n m : ℕ) (b : Base) → Within n m (base_expression b)
Within-base_expression n m Int = tt
Within-base_expression n m Truth = tt

pub Within-ground_expression : (n m : ℕ) (s : GroundType) → Within n m (ground_expression s)
Within-ground_expression n m (base b) = Within-base_expression n m b
Within-ground_expression n m (product s t) = (Within-ground_expression n m s, Within-ground_expression n m t)

pub Within-kernel_expression : (n m : ℕ) (k : KernelType) → Within n m (kernel_expression k)
Within-kernel_expression n m (of_ground t) = Within-ground_expression n m t
Within-kernel_expression n m (to s t) = (Within-ground_expression n m s, Within-ground_expression n m t)

pub Within-primitive_expression : (n m : ℕ) (p : Prim) → Within n m (primitive_expression p)
Within-primitive_expression n m Add = tt
Within-primitive_expression n m Sub = tt
Within-primitive_expression n m Mul = tt
Within-primitive_expression n m Div = tt
Within-primitive_expression n m Mod = tt
Within-primitive_expression n m Eq = tt
Within-primitive_expression n m Lt = tt
Within-primitive_expression n m Le = tt

-- the level that an assignment makes of one named by a classifier unknown
abbrev pub level_of : Assignment → Level → Level
level_of a live = live
level_of a (under c) = under (a.classifier c)

pub Fits-fitted : (a : Assignment) (m : Level) (t : TermType) → Fits (level_of a m) (fitted m t)
Fits-fitted a live t = IsFormed-formed_type t
Fits-fitted a (under c) t = IsPlain-flat_type t
