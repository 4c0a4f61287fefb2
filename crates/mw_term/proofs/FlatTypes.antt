-- Types made ones of a level.
use Rattle.std.proofs.Common.{◌≡◌, ℕ, refl}
use Rattle.mw_term.specs.declared.term.Primitive.{Primitive as Prim}
use Rattle.mw_term.specs.declared.term.Primitive.TheVariants.{Add, Sub, Mul, Div, Mod, Eq, Lt, Le}
use Rattle.mw_term.specs.Types.{TermType, int_type, bool_type, pair_type, function_type, code_type, closed_type}
use Rattle.mw_term.specs.Types.{Level, live, under, IsPlain, IsFormed, IsAbsentIn, primitive_type}
use Rattle.mw_term.specs.FlatTypes.{flat_type, formed_type}
use Rattle.mw_term.proofs.Classifiers.{rename_type}
use Rattle.mw_term.proofs.MovedCode.{IsFormed-plain}

pub IsPlain-flat_type : (t : TermType) → IsPlain (flat_type t)
IsPlain-flat_type int_type = tt
IsPlain-flat_type bool_type = tt
IsPlain-flat_type (pair_type s t) = (IsPlain-flat_type s, IsPlain-flat_type t)
IsPlain-flat_type (function_type s t) = (IsPlain-flat_type s, IsPlain-flat_type t)
IsPlain-flat_type (code_type a t) = tt
IsPlain-flat_type (closed_type t) = tt

pub IsFormed-formed_type : (t : TermType) → IsFormed (formed_type t)
IsFormed-formed_type int_type = tt
IsFormed-formed_type bool_type = tt
IsFormed-formed_type (pair_type s t) = (IsFormed-formed_type s, IsFormed-formed_type t)
IsFormed-formed_type (function_type s t) = (IsFormed-formed_type s, IsFormed-formed_type t)
IsFormed-formed_type (code_type a t) = IsPlain-flat_type t
IsFormed-formed_type (closed_type t) = IsPlain-flat_type t

-- what has no code types there stays as it is
pub flat_type-plain : (t : TermType) → IsPlain t → flat_type t ≡ t
flat_type-plain int_type h = refl
flat_type-plain bool_type h = refl
flat_type-plain (pair_type s t) h = rw (flat_type-plain s h.0, flat_type-plain t h.1) refl
flat_type-plain (function_type s t) h = rw (flat_type-plain s h.0, flat_type-plain t h.1) refl
flat_type-plain (code_type a t) h = absurd h
flat_type-plain (closed_type t) h = absurd h

pub formed_type-formed : (t : TermType) → IsFormed t → formed_type t ≡ t
formed_type-formed int_type h = refl
formed_type-formed bool_type h = refl
formed_type-formed (pair_type s t) h = rw (formed_type-formed s h.0, formed_type-formed t h.1) refl
formed_type-formed (function_type s t) h = rw (formed_type-formed s h.0, formed_type-formed t h.1) refl
formed_type-formed (code_type a t) h = rw (flat_type-plain t h) refl
formed_type-formed (closed_type t) h = rw (flat_type-plain t h) refl

pub formed_type-plain : (t : TermType) → IsPlain t → formed_type t ≡ t
formed_type-plain t h = formed_type-formed t (IsFormed-plain t h)

-- classifiers only go
pub IsAbsentIn-flat_type : (k : ℕ) (t : TermType) → IsAbsentIn k (flat_type t)
IsAbsentIn-flat_type k int_type = tt
IsAbsentIn-flat_type k bool_type = tt
IsAbsentIn-flat_type k (pair_type s t) = (IsAbsentIn-flat_type k s, IsAbsentIn-flat_type k t)
IsAbsentIn-flat_type k (function_type s t) = (IsAbsentIn-flat_type k s, IsAbsentIn-flat_type k t)
IsAbsentIn-flat_type k (code_type a t) = tt
IsAbsentIn-flat_type k (closed_type t) = tt

pub IsAbsentIn-formed_type : (k : ℕ) (t : TermType) → IsAbsentIn k t → IsAbsentIn k (formed_type t)
IsAbsentIn-formed_type k int_type h = tt
IsAbsentIn-formed_type k bool_type h = tt
IsAbsentIn-formed_type k (pair_type s t) h = (IsAbsentIn-formed_type k s h.0, IsAbsentIn-formed_type k t h.1)
IsAbsentIn-formed_type k (function_type s t) h = (IsAbsentIn-formed_type k s h.0, IsAbsentIn-formed_type k t h.1)
IsAbsentIn-formed_type k (code_type a t) h = (h.0, IsAbsentIn-flat_type k t)
IsAbsentIn-formed_type k (closed_type t) h = IsAbsentIn-flat_type k t

-- renamed classifiers
pub rename_type-flat_type : (r : ℕ → ℕ) (t : TermType) → rename_type r (flat_type t) ≡ flat_type (rename_type r t)
rename_type-flat_type r int_type = refl
rename_type-flat_type r bool_type = refl
rename_type-flat_type r (pair_type s t) = rw (rename_type-flat_type r s, rename_type-flat_type r t) refl
rename_type-flat_type r (function_type s t) = rw (rename_type-flat_type r s, rename_type-flat_type r t) refl
rename_type-flat_type r (code_type a t) = refl
rename_type-flat_type r (closed_type t) = refl

pub rename_type-formed_type : (r : ℕ → ℕ) (t : TermType) → rename_type r (formed_type t) ≡ formed_type (rename_type r t)
rename_type-formed_type r int_type = refl
rename_type-formed_type r bool_type = refl
rename_type-formed_type r (pair_type s t) = rw (rename_type-formed_type r s, rename_type-formed_type r t) refl
rename_type-formed_type r (function_type s t) = rw (rename_type-formed_type r s, rename_type-formed_type r t) refl
rename_type-formed_type r (code_type a t) = rw (rename_type-flat_type r t) refl
rename_type-formed_type r (closed_type t) = rw (rename_type-flat_type r t) refl

-- a type made one that a term may have at a level
abbrev pub fitted : Level → TermType → TermType
fitted live t = formed_type t
fitted (under c) t = flat_type t

pub fitted-pair : (m : Level) (s t : TermType) → fitted m (pair_type s t) ≡ pair_type (fitted m s) (fitted m t)
fitted-pair live s t = refl
fitted-pair (under c) s t = refl

pub fitted-function : (m : Level) (s t : TermType) → fitted m (function_type s t) ≡ function_type (fitted m s)
    (fitted m t)
fitted-function live s t = refl
fitted-function (under c) s t = refl

pub fitted-plain : (m : Level) (t : TermType) → IsPlain t → fitted m t ≡ t
fitted-plain live t h = formed_type-plain t h
fitted-plain (under c) t h = flat_type-plain t h

pub fitted-primitive : (m : Level) (p : Prim) → fitted m (primitive_type p) ≡ primitive_type p
fitted-primitive m Add = fitted-plain m int_type tt
fitted-primitive m Sub = fitted-plain m int_type tt
fitted-primitive m Mul = fitted-plain m int_type tt
fitted-primitive m Div = fitted-plain m int_type tt
fitted-primitive m Mod = fitted-plain m int_type tt
fitted-primitive m Eq = fitted-plain m bool_type tt
fitted-primitive m Lt = fitted-plain m bool_type tt
fitted-primitive m Le = fitted-plain m bool_type tt
