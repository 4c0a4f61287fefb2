-- The equations of a term, in pre-order, and its closes.
--
-- Each node has an unknown for its type, which the node above it numbers. The further unknowns of a node are numbered
-- from the next free number on: those of its binders or of the part of its type that it leaves open, then those of its
-- parts' types, and then what the parts themselves need, in their order. Classifier unknowns are numbered in the same
-- way.
use Rattle.std.specs.Prelude.{ℕ, ◌+◌, List, [], ◌∷◌, ◌++◌, Option, Some, slice_get}
use Rattle.mw_term.specs.declared.term.Base.{Base}
use Rattle.mw_term.specs.declared.term.Base.TheVariants.{Int, Bool}
use Rattle.mw_term.specs.declared.term.Primitive.{Primitive as Prim}
use Rattle.mw_term.specs.Terms.{Expression, KernelType, num, truth, var, glob, fun, fix, app, bind, cond, pair, fst}
use Rattle.mw_term.specs.Terms.{snd, prim, bracket, escape, run, close, opened, lift, lift_b}
use Rattle.mw_term.specs.Types.{Level, live, under}
use Rattle.mw_types.specs.Types.{TypeExpression, int_ty, bool_ty, unknown, pair_ty, function_ty, code_ty, closed_ty}
use Rattle.mw_types.specs.Equations.{TypeEquation}
use Rattle.mw_infer.specs.Schemes.{TopScheme, let_scheme, kernel_scheme, shifted}
use Rattle.mw_types.specs.Expressions.{base_expression, kernel_expression, primitive_expression}

-- what an environment knows of a binder: its unknown, and at level 1 the classifier unknown under which it stands
pub data Slot : Type 0 where
  plain_slot : (u : ℕ) → Slot
  quoted_slot : (c u : ℕ) → Slot

-- the slot of a binder at the level where it stands, where a level 1 is named by a classifier unknown
abbrev pub slot : Level → ℕ → Slot
slot live u = plain_slot u
slot (under c) u = quoted_slot c u

abbrev pub equation : TypeExpression → TypeExpression → TypeEquation
equation s t = record { left = s; right = t }

-- the equation of what stands at a wrong level, or has no binder: it has no solution
abbrev pub wrong : List TypeEquation
wrong = equation int_ty bool_ty ∷ []

-- how many unknowns a use of a name has beside its type: those of a let's most general type
abbrev pub unknowns_of_name : Option TopScheme → ℕ
unknowns_of_name (Some (let_scheme s)) = s.unknowns
unknowns_of_name x = 0

abbrev pub classifiers_of_name : Option TopScheme → ℕ
classifiers_of_name (Some (let_scheme s)) = s.classifiers
classifiers_of_name x = 0

-- how many unknowns a term has beside its type
abbrev pub unknowns_of : List TopScheme → Expression → ℕ
unknowns_of tops (glob i) = unknowns_of_name (slice_get tops i)
unknowns_of tops (fun e) = 2 + unknowns_of tops e
unknowns_of tops (fix e) = 3 + unknowns_of tops e
unknowns_of tops (app f a) = 2 + unknowns_of tops f + unknowns_of tops a
unknowns_of tops (bind d e) = 3 + unknowns_of tops d + unknowns_of tops e
unknowns_of tops (cond c a b) = 3 + unknowns_of tops c + unknowns_of tops a + unknowns_of tops b
unknowns_of tops (pair a b) = 2 + unknowns_of tops a + unknowns_of tops b
unknowns_of tops (fst e) = 2 + unknowns_of tops e
unknowns_of tops (snd e) = 2 + unknowns_of tops e
unknowns_of tops (prim p a b) = 2 + unknowns_of tops a + unknowns_of tops b
unknowns_of tops (bracket e) = 1 + unknowns_of tops e
unknowns_of tops (escape e) = 1 + unknowns_of tops e
unknowns_of tops (run k e) = 1 + unknowns_of tops e
unknowns_of tops (close at e) = 2 + unknowns_of tops e
unknowns_of tops (opened e) = 2 + unknowns_of tops e
unknowns_of tops (lift e) = 1 + unknowns_of tops e
unknowns_of tops (lift_b e) = 1 + unknowns_of tops e
unknowns_of tops e = 0

-- how many classifier unknowns a term has
abbrev pub classifiers_of : List TopScheme → Expression → ℕ
classifiers_of tops (glob i) = classifiers_of_name (slice_get tops i)
classifiers_of tops (fun e) = classifiers_of tops e
classifiers_of tops (fix e) = classifiers_of tops e
classifiers_of tops (app f a) = classifiers_of tops f + classifiers_of tops a
classifiers_of tops (bind d e) = classifiers_of tops d + classifiers_of tops e
classifiers_of tops (cond c a b) = classifiers_of tops c + classifiers_of tops a + classifiers_of tops b
classifiers_of tops (pair a b) = classifiers_of tops a + classifiers_of tops b
classifiers_of tops (fst e) = classifiers_of tops e
classifiers_of tops (snd e) = classifiers_of tops e
classifiers_of tops (prim p a b) = classifiers_of tops a + classifiers_of tops b
classifiers_of tops (bracket e) = 1 + classifiers_of tops e
classifiers_of tops (escape e) = classifiers_of tops e
classifiers_of tops (run k e) = classifiers_of tops e
classifiers_of tops (close at e) = 1 + classifiers_of tops e
classifiers_of tops (opened e) = 1 + classifiers_of tops e
classifiers_of tops (lift e) = 1 + classifiers_of tops e
classifiers_of tops (lift_b e) = 1 + classifiers_of tops e
classifiers_of tops e = 0

-- a variable, whose type is u: its binder's type, and at level 1 its binder's classifier
abbrev pub variable_equations : ℕ → Level → Option Slot → List TypeEquation
variable_equations u live (Some (plain_slot x)) = equation (unknown u) (unknown x) ∷ []
variable_equations u (under a) (Some (quoted_slot b x)) = equation (unknown u) (unknown x) ∷ equation (code_ty a int_ty)
    (code_ty b int_ty) ∷ []
variable_equations u m s = wrong

-- a top-level name, whose type is u: a let's most general type with new unknowns, or closed code of a kernel type
abbrev pub name_equations : ℕ → ℕ → ℕ → Level → Option TopScheme → List TypeEquation
name_equations u o c live (Some (let_scheme s)) = equation (unknown u) (shifted o c s.type) ∷ []
name_equations u o c live (Some (kernel_scheme k)) = equation (unknown u) (closed_ty (kernel_expression k)) ∷ []
name_equations u o c m s = wrong

-- The equations that each form has of its own, before those of its parts: u is its type's unknown, and o and c are the
-- next free numbers of unknowns and of classifier unknowns.
abbrev pub function_equations : ℕ → ℕ → List TypeEquation
function_equations u o = equation (unknown u) (function_ty (unknown o) (unknown (o + 1))) ∷ []

abbrev pub recursion_equations : ℕ → ℕ → List TypeEquation
recursion_equations u o = equation (unknown (o + 1)) (function_ty (unknown o) (unknown (o + 2))) ∷ equation (unknown u)
    (unknown (o + 1)) ∷ []

abbrev pub application_equations : ℕ → ℕ → List TypeEquation
application_equations u o = equation (unknown o) (function_ty (unknown (o + 1)) (unknown u)) ∷ []

abbrev pub let_equations : ℕ → ℕ → List TypeEquation
let_equations u o = equation (unknown o) (unknown (o + 1)) ∷ equation (unknown u) (unknown (o + 2)) ∷ []

abbrev pub condition_equations : ℕ → ℕ → List TypeEquation
condition_equations u o = equation (unknown o) bool_ty ∷ equation (unknown (o + 1)) (unknown u)
    ∷ equation (unknown (o + 2)) (unknown u) ∷ []

abbrev pub pair_equations : ℕ → ℕ → List TypeEquation
pair_equations u o = equation (unknown u) (pair_ty (unknown o) (unknown (o + 1))) ∷ []

abbrev pub first_equations : ℕ → ℕ → List TypeEquation
first_equations u o = equation (unknown (o + 1)) (pair_ty (unknown u) (unknown o)) ∷ []

abbrev pub second_equations : ℕ → ℕ → List TypeEquation
second_equations u o = equation (unknown (o + 1)) (pair_ty (unknown o) (unknown u)) ∷ []

abbrev pub primitive_equations : ℕ → ℕ → Prim → List TypeEquation
primitive_equations u o p = equation (unknown o) int_ty ∷ equation (unknown (o + 1)) int_ty ∷ equation (unknown u)
    (primitive_expression p) ∷ []

abbrev pub bracket_equations : ℕ → ℕ → ℕ → List TypeEquation
bracket_equations u o c = equation (unknown u) (code_ty c (unknown o)) ∷ []

-- under the classifier unknown a
abbrev pub escape_equations : ℕ → ℕ → ℕ → List TypeEquation
escape_equations u o a = equation (unknown o) (code_ty a (unknown u)) ∷ []

abbrev pub run_equations : ℕ → ℕ → KernelType → List TypeEquation
run_equations u o k = equation (unknown o) (closed_ty (kernel_expression k)) ∷ equation (unknown u)
    (kernel_expression k) ∷ []

abbrev pub close_equations : ℕ → ℕ → ℕ → List TypeEquation
close_equations u o c = equation (unknown (o + 1)) (code_ty c (unknown o)) ∷ equation (unknown u)
    (closed_ty (unknown o)) ∷ []

abbrev pub open_equations : ℕ → ℕ → ℕ → List TypeEquation
open_equations u o c = equation (unknown (o + 1)) (closed_ty (unknown o)) ∷ equation (unknown u) (code_ty c (unknown o))
    ∷ []

-- of a lift at a base type
abbrev pub lift_equations : ℕ → ℕ → ℕ → Base → List TypeEquation
lift_equations u o c b = equation (unknown o) (base_expression b) ∷ equation (unknown u) (code_ty c (base_expression b))
    ∷ []

-- The equations of a term in an environment, at a level: u is its type's unknown, and o and c are the next free numbers
-- of unknowns and of classifier unknowns.
abbrev pub equations : List TopScheme → ℕ → ℕ → ℕ → List Slot → Level → Expression → List TypeEquation
equations tops u o c g m (num n) = equation (unknown u) int_ty ∷ []
equations tops u o c g m (truth b) = equation (unknown u) bool_ty ∷ []
equations tops u o c g m (var i) = variable_equations u m (slice_get g i)
equations tops u o c g m (glob i) = name_equations u o c m (slice_get tops i)
equations tops u o c g m (fun e) = function_equations u o ++ equations tops (o + 1) (o + 2) c (slot m o ∷ g) m e
equations tops u o c g m (fix e) = recursion_equations u o ++ equations tops (o + 2) (o + 3) c
    (slot m o ∷ slot m (o + 1) ∷ g) m e
equations tops u o c g m (app f a) = application_equations u o
    ++ (equations tops o (o + 2) c g m f ++ equations tops (o + 1) (o + 2 + unknowns_of tops f)
    (c + classifiers_of tops f) g m a)
equations tops u o c g m (bind d e) = let_equations u o
    ++ (equations tops (o + 1) (o + 3) c g m d ++ equations tops (o + 2) (o + 3 + unknowns_of tops d)
    (c + classifiers_of tops d) (slot m o ∷ g) m e)
equations tops u o c g m (cond p a b) = condition_equations u o
    ++ ((equations tops o (o + 3) c g m p ++ equations tops (o + 1) (o + 3 + unknowns_of tops p)
    (c + classifiers_of tops p) g m a) ++ equations tops (o + 2) (o + 3 + unknowns_of tops p + unknowns_of tops a)
    (c + classifiers_of tops p + classifiers_of tops a) g m b)
equations tops u o c g m (pair a b) = pair_equations u o
    ++ (equations tops o (o + 2) c g m a ++ equations tops (o + 1) (o + 2 + unknowns_of tops a)
    (c + classifiers_of tops a) g m b)
equations tops u o c g m (fst e) = first_equations u o ++ equations tops (o + 1) (o + 2) c g m e
equations tops u o c g m (snd e) = second_equations u o ++ equations tops (o + 1) (o + 2) c g m e
equations tops u o c g m (prim p a b) = primitive_equations u o p
    ++ (equations tops o (o + 2) c g m a ++ equations tops (o + 1) (o + 2 + unknowns_of tops a)
    (c + classifiers_of tops a) g m b)
equations tops u o c g live (bracket e) = bracket_equations u o c ++ equations tops o (o + 1) (c + 1) g (under c) e
equations tops u o c g (under a) (escape e) = escape_equations u o a ++ equations tops o (o + 1) c g live e
equations tops u o c g live (run k e) = run_equations u o k ++ equations tops o (o + 1) c g live e
equations tops u o c g live (close at e) = close_equations u o c ++ equations tops (o + 1) (o + 2) (c + 1) g live e
equations tops u o c g live (opened e) = open_equations u o c ++ equations tops (o + 1) (o + 2) (c + 1) g live e
equations tops u o c g live (lift e) = lift_equations u o c Int ++ equations tops o (o + 1) (c + 1) g live e
equations tops u o c g live (lift_b e) = lift_equations u o c Bool ++ equations tops o (o + 1) (c + 1) g live e
equations tops u o c g m e = wrong

-- a close: its offset in the source, the classifier unknown of its code, and its environment
pub record Close : Type 0 where
  pub at : ℕ
  pub classifier : ℕ
  pub scope : List Slot

-- the closes of a term, in pre-order, with the numbers that its equations have
abbrev pub closes : List TopScheme → ℕ → ℕ → List Slot → Level → Expression → List Close
closes tops o c g m (fun e) = closes tops (o + 2) c (slot m o ∷ g) m e
closes tops o c g m (fix e) = closes tops (o + 3) c (slot m o ∷ slot m (o + 1) ∷ g) m e
closes tops o c g m (app f a) = closes tops (o + 2) c g m f ++ closes tops (o + 2 + unknowns_of tops f)
    (c + classifiers_of tops f) g m a
closes tops o c g m (bind d e) = closes tops (o + 3) c g m d ++ closes tops (o + 3 + unknowns_of tops d)
    (c + classifiers_of tops d) (slot m o ∷ g) m e
closes tops o c g m (cond p a b) =
    (closes tops (o + 3) c g m p ++ closes tops (o + 3 + unknowns_of tops p) (c + classifiers_of tops p) g m a)
    ++ closes tops (o + 3 + unknowns_of tops p + unknowns_of tops a) (c + classifiers_of tops p + classifiers_of tops a)
    g m b
closes tops o c g m (pair a b) = closes tops (o + 2) c g m a ++ closes tops (o + 2 + unknowns_of tops a)
    (c + classifiers_of tops a) g m b
closes tops o c g m (fst e) = closes tops (o + 2) c g m e
closes tops o c g m (snd e) = closes tops (o + 2) c g m e
closes tops o c g m (prim p a b) = closes tops (o + 2) c g m a ++ closes tops (o + 2 + unknowns_of tops a)
    (c + classifiers_of tops a) g m b
closes tops o c g m (bracket e) = closes tops (o + 1) (c + 1) g (under c) e
closes tops o c g m (escape e) = closes tops (o + 1) c g live e
closes tops o c g m (run k e) = closes tops (o + 1) c g m e
closes tops o c g m (close at e) = record { at = at; classifier = c; scope = g } ∷ closes tops (o + 2) (c + 1) g m e
closes tops o c g m (opened e) = closes tops (o + 2) (c + 1) g m e
closes tops o c g m (lift e) = closes tops (o + 1) (c + 1) g m e
closes tops o c g m (lift_b e) = closes tops (o + 1) (c + 1) g m e
closes tops o c g m e = []
