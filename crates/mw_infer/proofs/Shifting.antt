-- What assignments make of shifted types and of types without unknowns, and the schemes of names by their places.
use Rattle.std.proofs.Common.{◌≡◌, ℕ, zero, suc, ◌+◌, ◌≤◌, List, [], ◌∷◌, Some, refl, arith}
use Rattle.std.specs.Prelude.{slice_get}
use Rattle.mw_term.specs.Terms.{Expression, KernelType}
use Rattle.mw_term.specs.Typing.{TopLevel, let_item, kernel_item, out_of_scope}
use Rattle.mw_types.specs.Types.{TypeExpression, int_ty, bool_ty, unknown, pair_ty, function_ty, code_ty, closed_ty}
use Rattle.mw_types.specs.Types.{Within, Assignment, value}
use Rattle.mw_infer.specs.Schemes.{Scheme, TopScheme, let_scheme, kernel_scheme, scheme_out_of_scope, shifted}
use Rattle.mw_infer.specs.Inferring.{IsSchemeOf, AreSchemesOf}

-- an assignment of the numbers from these on
abbrev pub from : Assignment → ℕ → ℕ → Assignment
from a o c = record { ty = λ u. a.ty (o + u); classifier = λ d. a.classifier (c + d) }

pub value-shifted : (a : Assignment) (o c : ℕ) (t : TypeExpression) → value a (shifted o c t) ≡ value (from a o c) t
value-shifted a o c int_ty = refl
value-shifted a o c bool_ty = refl
value-shifted a o c (unknown u) = refl
value-shifted a o c (pair_ty s t) = rw (value-shifted a o c s, value-shifted a o c t) refl
value-shifted a o c (function_ty s t) = rw (value-shifted a o c s, value-shifted a o c t) refl
value-shifted a o c (code_ty d t) = rw (value-shifted a o c t) refl
value-shifted a o c (closed_ty t) = rw (value-shifted a o c t) refl

pub Within-shifted : (n m o c k l : ℕ) (t : TypeExpression) → Within k l t → o + k ≤ n → c + l ≤ m
    → Within n m (shifted o c t)
Within-shifted n m o c k l int_ty w p q = tt
Within-shifted n m o c k l bool_ty w p q = tt
Within-shifted n m o c k l (unknown u) w p q = omega (arith, w)
Within-shifted n m o c k l (pair_ty s t) w p q =
    (Within-shifted n m o c k l s w.0 p q, Within-shifted n m o c k l t w.1 p q)
Within-shifted n m o c k l (function_ty s t) w p q =
    (Within-shifted n m o c k l s w.0 p q, Within-shifted n m o c k l t w.1 p q)
Within-shifted n m o c k l (code_ty d t) w p q = (omega (arith, w.0), Within-shifted n m o c k l t w.1 p q)
Within-shifted n m o c k l (closed_ty t) w p q = Within-shifted n m o c k l t w p q

-- what a scheme at a place is the scheme of
pub let-of_scheme : (tops names : List TopLevel) (schemes : List TopScheme) (i : ℕ) (s : Scheme)
    → AreSchemesOf tops names schemes → slice_get schemes i ≡ Some (let_scheme s) → (e : Expression)
    × (slice_get names i ≡ Some (let_item e)) × IsSchemeOf tops e s
let-of_scheme tops names [] i s h q = absurd (cc)
let-of_scheme tops [] (x ∷ schemes) i s h q = absurd h
let-of_scheme tops (let_item e ∷ names) (let_scheme r ∷ schemes) zero s h q = let p : r ≡ s = cc in
    (e, refl, rw p at h.0)
let-of_scheme tops (kernel_item k ∷ names) (kernel_scheme l ∷ schemes) zero s h q = absurd (cc)
let-of_scheme tops (out_of_scope ∷ names) (scheme_out_of_scope ∷ schemes) zero s h q = absurd (cc)
let-of_scheme tops (x ∷ names) (y ∷ schemes) (suc i) s h q = let-of_scheme tops names schemes i s h.1 q
let-of_scheme tops (x ∷ names) (y ∷ schemes) zero s h q = absurd h.0

pub kernel-of_scheme : (tops names : List TopLevel) (schemes : List TopScheme) (i : ℕ) (k : KernelType)
    → AreSchemesOf tops names schemes → slice_get schemes i ≡ Some (kernel_scheme k) → slice_get names i
    ≡ Some (kernel_item k)
kernel-of_scheme tops names [] i k h q = absurd (cc)
kernel-of_scheme tops [] (x ∷ schemes) i k h q = absurd h
kernel-of_scheme tops (let_item e ∷ names) (let_scheme r ∷ schemes) zero k h q = absurd (cc)
kernel-of_scheme tops (kernel_item j ∷ names) (kernel_scheme l ∷ schemes) zero k h q = let p : l ≡ k = cc in
    let r : j ≡ l = h.0 in rw (r, p) refl
kernel-of_scheme tops (out_of_scope ∷ names) (scheme_out_of_scope ∷ schemes) zero k h q = absurd (cc)
kernel-of_scheme tops (x ∷ names) (y ∷ schemes) (suc i) k h q = kernel-of_scheme tops names schemes i k h.1 q
kernel-of_scheme tops (x ∷ names) (y ∷ schemes) zero k h q = absurd h.0

-- and the scheme of what stands at a place
pub scheme-of_let : (tops names : List TopLevel) (schemes : List TopScheme) (i : ℕ) (e : Expression)
    → AreSchemesOf tops names schemes → slice_get names i ≡ Some (let_item e) → (s : Scheme)
    × (slice_get schemes i ≡ Some (let_scheme s)) × IsSchemeOf tops e s
scheme-of_let tops [] schemes i e h q = absurd (cc)
scheme-of_let tops (x ∷ names) [] i e h q = absurd h
scheme-of_let tops (let_item d ∷ names) (let_scheme r ∷ schemes) zero e h q = let p : d ≡ e = cc in
    (r, refl, rw p at h.0)
scheme-of_let tops (kernel_item k ∷ names) (y ∷ schemes) zero e h q = absurd (cc)
scheme-of_let tops (out_of_scope ∷ names) (y ∷ schemes) zero e h q = absurd (cc)
scheme-of_let tops (x ∷ names) (y ∷ schemes) (suc i) e h q = scheme-of_let tops names schemes i e h.1 q
scheme-of_let tops (x ∷ names) (y ∷ schemes) zero e h q = absurd h.0

pub scheme-of_kernel : (tops names : List TopLevel) (schemes : List TopScheme) (i : ℕ) (k : KernelType)
    → AreSchemesOf tops names schemes → slice_get names i ≡ Some (kernel_item k) → slice_get schemes i
    ≡ Some (kernel_scheme k)
scheme-of_kernel tops [] schemes i k h q = absurd (cc)
scheme-of_kernel tops (x ∷ names) [] i k h q = absurd h
scheme-of_kernel tops (let_item d ∷ names) (y ∷ schemes) zero k h q = absurd (cc)
scheme-of_kernel tops (kernel_item j ∷ names) (kernel_scheme l ∷ schemes) zero k h q = let p : j ≡ k = cc in
    let r : j ≡ l = h.0 in rw (← r, p) refl
scheme-of_kernel tops (out_of_scope ∷ names) (y ∷ schemes) zero k h q = absurd (cc)
scheme-of_kernel tops (x ∷ names) (y ∷ schemes) (suc i) k h q = scheme-of_kernel tops names schemes i k h.1 q
scheme-of_kernel tops (x ∷ names) (y ∷ schemes) zero k h q = absurd h.0
