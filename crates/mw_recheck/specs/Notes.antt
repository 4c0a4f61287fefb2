-- What the node lines of a section say of its term.
use Rattle.std.specs.Prelude.{ℕ, ◌≡◌, ◌≢◌, ◌+◌, List, [], ◌∷◌, ◌++◌, Option, Some, None, slice_get}
use Rattle.mw_term.specs.declared.term.Base.{Base}
use Rattle.mw_term.specs.declared.term.Base.TheVariants.{Int, Bool}
use Rattle.mw_term.specs.Terms.{Expression, KernelType, num, truth, var, glob, fun, fix, app, bind, cond, pair, fst}
use Rattle.mw_term.specs.Terms.{snd, prim, bracket, escape, run, close, opened, lift, lift_b, done, size}
use Rattle.mw_term.specs.Types.{Level, live, under}
use Rattle.mw_types.specs.Types.{TypeExpression, int_ty, bool_ty, pair_ty, function_ty, code_ty, closed_ty}
use Rattle.mw_types.specs.Expressions.{base_expression, kernel_expression, primitive_expression}
use Rattle.mw_lines.specs.TypeLines.{HoldsNoCode}
use Rattle.mw_lines.specs.Made.{IsMadeFrom, IsNotIn}

-- the types that the type lines name, and the node lines
pub record Notes : Type 0 where
  pub types : List TypeExpression
  pub nodes : List (List ℕ)

-- these lines name these types
abbrev pub AllNamed : List TypeExpression → List ℕ → List TypeExpression → Type 0
AllNamed ts [] [] = Unit {0}
AllNamed ts [] (t ∷ us) = ⊥
AllNamed ts (i ∷ is) [] = ⊥
AllNamed ts (i ∷ is) (t ∷ us) = (slice_get ts i ≡ Some t) × AllNamed ts is us

-- the types fit the level: at level 1 they hold no code type
abbrev pub AllFit : Level → List TypeExpression → Type 0
AllFit live us = Unit {0}
AllFit (under a) [] = Unit {0}
AllFit (under a) (t ∷ us) = HoldsNoCode t × AllFit (under a) us

-- the line of node n, at this level, names these types and ends with these classifiers
pub record IsNodeLine (p : Notes) (m : Level) (n : ℕ) (us : List TypeExpression) (cs : List ℕ) : Type 0 where
  pub lines : List ℕ
  pub line : slice_get p.nodes n ≡ Some (lines ++ cs)
  pub named : AllNamed p.types lines us
  pub fit : AllFit m us

-- what a certificate knows of a binder: its type, and at level 1 the classifier under which it stands
pub data BinderNote : Type 0 where
  plain_note : (t : TypeExpression) → BinderNote
  quoted_note : (c : ℕ) (t : TypeExpression) → BinderNote

abbrev pub binder_note : Level → TypeExpression → BinderNote
binder_note live t = plain_note t
binder_note (under c) t = quoted_note c t

-- the classifier stands neither in what is known of a binder nor in the environment
abbrev pub IsNotAt : ℕ → BinderNote → Type 0
IsNotAt a (plain_note t) = IsNotIn a t
IsNotAt a (quoted_note c t) = (c ≢ a) × IsNotIn a t

abbrev pub IsUnused : ℕ → List BinderNote → Type 0
IsUnused a [] = Unit {0}
IsUnused a (x ∷ g) = IsNotAt a x × IsUnused a g

-- what a top-level name has: a let its root type, a kernel that is in scope its kernel type
pub data TopNote : Type 0 where
  let_root : (t : TypeExpression) → TopNote
  kernel_root : (k : KernelType) → TopNote
  hidden : TopNote

-- a use of a name, at a level
abbrev pub IsUse : Level → Option TopNote → TypeExpression → Type 0
IsUse live (Some (let_root r)) t = IsMadeFrom r t
IsUse live (Some (kernel_root k)) t = t ≡ closed_ty (kernel_expression k)
IsUse live (Some hidden) t = ⊥
IsUse live None t = ⊥
IsUse (under a) x t = ⊥

-- a lift at a base type
abbrev pub IsLift : Notes → Level → ℕ → TypeExpression → Base → Type 0
IsLift p m n t b = (c : ℕ) × (t ≡ code_ty c (base_expression b)) × IsNodeLine p m n (t ∷ []) (c ∷ [])

-- With these names, in this environment and at this level, the node lines from n on are those of the term: its type is
-- t, each line names what its node's equations ask, and each close is fresh. Nodes are counted in pre-order.
abbrev pub Noted : Notes → List TopNote → List BinderNote → Level → ℕ → Expression → TypeExpression → Type 0
Noted p tops g m n (num z) t = (t ≡ int_ty) × IsNodeLine p m n (t ∷ []) []
Noted p tops g m n (truth b) t = (t ≡ bool_ty) × IsNodeLine p m n (t ∷ []) []
Noted p tops g m n (var i) t = (slice_get g i ≡ Some (binder_note m t)) × IsNodeLine p m n (t ∷ []) []
Noted p tops g m n (glob i) t = IsUse m (slice_get tops i) t × IsNodeLine p m n (t ∷ []) []
Noted p tops g m n (fun e) t = (s r : TypeExpression) × (t ≡ function_ty s r) × IsNodeLine p m n (t ∷ s ∷ []) []
    × Noted p tops (binder_note m s ∷ g) m (n + 1) e r
Noted p tops g m n (fix e) t = (s r : TypeExpression) × (t ≡ function_ty s r) × IsNodeLine p m n (t ∷ t ∷ s ∷ []) []
    × Noted p tops (binder_note m s ∷ binder_note m t ∷ g) m (n + 1) e r
Noted p tops g m n (app f a) t = (s : TypeExpression) × IsNodeLine p m n (t ∷ []) []
    × Noted p tops g m (n + 1) f (function_ty s t) × Noted p tops g m (n + 1 + size f) a s
Noted p tops g m n (bind d e) t = (s : TypeExpression) × IsNodeLine p m n (t ∷ s ∷ []) [] × Noted p tops g m (n + 1) d s
    × Noted p tops (binder_note m s ∷ g) m (n + 1 + size d) e t
Noted p tops g m n (cond c a b) t = IsNodeLine p m n (t ∷ []) [] × Noted p tops g m (n + 1) c bool_ty
    × Noted p tops g m (n + 1 + size c) a t × Noted p tops g m (n + 1 + size c + size a) b t
Noted p tops g m n (pair a b) t = (s r : TypeExpression) × (t ≡ pair_ty s r) × IsNodeLine p m n (t ∷ []) []
    × Noted p tops g m (n + 1) a s × Noted p tops g m (n + 1 + size a) b r
Noted p tops g m n (fst e) t = (s : TypeExpression) × IsNodeLine p m n (t ∷ s ∷ []) []
    × Noted p tops g m (n + 1) e (pair_ty t s)
Noted p tops g m n (snd e) t = (s : TypeExpression) × IsNodeLine p m n (t ∷ s ∷ []) []
    × Noted p tops g m (n + 1) e (pair_ty s t)
Noted p tops g m n (prim o a b) t = (t ≡ primitive_expression o) × IsNodeLine p m n (t ∷ []) []
    × Noted p tops g m (n + 1) a int_ty × Noted p tops g m (n + 1 + size a) b int_ty
Noted p tops g live n (bracket e) t = (c : ℕ) × (s : TypeExpression) × (t ≡ code_ty c s)
    × IsNodeLine p live n (t ∷ []) (c ∷ []) × Noted p tops g (under c) (n + 1) e s
Noted p tops g (under a) n (bracket e) t = ⊥
Noted p tops g live n (escape e) t = ⊥
Noted p tops g (under a) n (escape e) t =
    IsNodeLine p (under a) n (t ∷ []) [] × Noted p tops g live (n + 1) e (code_ty a t)
Noted p tops g live n (run k e) t = (t ≡ kernel_expression k) × IsNodeLine p live n (t ∷ []) []
    × Noted p tops g live (n + 1) e (closed_ty t)
Noted p tops g (under a) n (run k e) t = ⊥
Noted p tops g live n (close at e) t = (c : ℕ) × (s : TypeExpression) × (t ≡ closed_ty s) × IsUnused c g
    × IsNodeLine p live n (t ∷ s ∷ []) (c ∷ []) × Noted p tops g live (n + 1) e (code_ty c s)
Noted p tops g (under a) n (close at e) t = ⊥
Noted p tops g live n (opened e) t = (c : ℕ) × (s : TypeExpression) × (t ≡ code_ty c s)
    × IsNodeLine p live n (t ∷ s ∷ []) (c ∷ []) × Noted p tops g live (n + 1) e (closed_ty s)
Noted p tops g (under a) n (opened e) t = ⊥
Noted p tops g live n (lift e) t = IsLift p live n t Int × Noted p tops g live (n + 1) e int_ty
Noted p tops g (under a) n (lift e) t = ⊥
Noted p tops g live n (lift_b e) t = IsLift p live n t Bool × Noted p tops g live (n + 1) e bool_ty
Noted p tops g (under a) n (lift_b e) t = ⊥
Noted p tops g m n (done v) t = ⊥
