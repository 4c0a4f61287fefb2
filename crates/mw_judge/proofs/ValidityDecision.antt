-- Validity is decided: each of the validator's tests passes or it doesn't.
use Rattle.std.proofs.Common.{◌≡◌, ◌⊎◌, inl, inr, ℕ, ◌^◌, ◌<◌, ◌≤◌, Bool, true, false, List, [], ◌∷◌, ◌++◌}
use Rattle.std.proofs.Common.{length, refl, subst, arith}
use Rattle.std.specs.Prelude.{Option, Some, None, is_some, slice_get}
use Rattle.std.specs.List.{AllByRecursion}
use Rattle.std.specs.Str.{bytes_eq}
use Rattle.std.proofs.lemmas.Bool.{cases_lt, cases_eq}
use Rattle.std.proofs.lemmas.Slice.Eq.{bytes_eq-Decides}
use Rattle.mw_wasm.specs.declared.values.ValType.{ValType}
use Rattle.mw_wasm.specs.declared.values.ValType.TheVariants.{I32, I64}
use Rattle.mw_wasm.specs.declared.modules.FuncType.{FuncType}
use Rattle.mw_wasm.specs.declared.modules.Limits.{Limits}
use Rattle.mw_wasm.specs.declared.modules.Exported.{Exported}
use Rattle.mw_wasm.specs.declared.modules.Exported.TheVariants as exported
use Rattle.mw_wasm.specs.Syntax.{Code, const_i32, const_i64, end, next, Function, Global, Exporting}
use Rattle.mw_wasm.specs.Syntax.{ElementSegment, DataSegment, PureModule}
use Rattle.mw_wasm.specs.Validity.{AreLimits, AreLimitsOf, IsConstantOf, IsThere, IsValid, IsValidElement}
use Rattle.mw_wasm.specs.Validity.{IsValidData, NamesDiffer, context_of}
use Rattle.mw_validate.specs.Checks.{PartsPass, PassesBody, after_code, closes, opened}
use Rattle.mw_validate.proofs.Soundness.{checked_valid}
use Rattle.mw_validate.proofs.Completeness.{valid_checked}

abbrev Decided : Type 0 → Type 0
Decided P = P ⊎ (P → ⊥)

both : {P Q : Type 0} → Decided P → Decided Q → Decided (P × Q)
both (inl p) (inl q) = inl (p, q)
both (inl p) (inr n) = inr (λ h. n h.1)
both (inr n) q = inr (λ h. n h.0)

negated : {P : Type 0} → Decided P → Decided (P → ⊥)
negated (inl p) = inr (λ n. n p)
negated (inr n) = inl n

turned : {P Q : Type 0} → (P → Q) → (Q → P) → Decided P → Decided Q
turned f g (inl p) = inl (f p)
turned f g (inr n) = inr (λ q. n (g q))

all_three : {P Q R : Type 0} → Decided P → Decided Q → Decided R → Decided (P × Q × R)
all_three p q r = turned (λ h. (h.0, h.1.0, h.1.1)) (λ h. (h.0, (h.1, h.2))) (both p (both q r))

is_true : (b : Bool) → Decided (b ≡ true)
is_true true = inl refl
is_true false = inr (λ e. cc)

-- an option has a value, and this is so of it
one_value : {X : Type 0} (P : X → Type 0) (o : Option X) → ((x : X) → Decided (P x))
    → Decided ((x : X) × (o ≡ Some x) × P x)
one_value P None d = inr (λ h. let e = h.1 in cc)
one_value P (Some x) d = elim (d x) [
  | inl p ↦ inl (x, refl, p)
  | inr n ↦ inr (λ h. let e = h.1 in let same : h.0 ≡ x = cc in n (subst P same h.2))
]

at_most : (a b : ℕ) → Decided (a ≤ b)
at_most a b = elim (cases_lt b a) [ inl more ↦ inr (λ h. absurd (omega arith)) | inr enough ↦ inl enough ]

below : (a b : ℕ) → Decided (a < b)
below a b = elim (cases_lt a b) [ inl less ↦ inl less | inr more ↦ inr (λ h. absurd (omega arith)) ]

same_bytes : (a b : List ℕ) → Decided (a ≡ b)
same_bytes a b = turned (bytes_eq-Decides a b).0 (bytes_eq-Decides a b).1 (is_true (bytes_eq a b))

all_of : {X : Type 0} (P : X → Type 0) → ((x : X) → Decided (P x)) → (xs : List X) → Decided (AllByRecursion P xs)
all_of P d [] = inl tt
all_of P d (x ∷ xs) = both (d x) (all_of P d xs)

-- the tests outside bodies
limits : (most min : ℕ) (max : Option ℕ) → Decided (AreLimits most (record { min = min; max = max }))
limits most min None = both (at_most min most) (inl tt)
limits most min (Some n) = both (at_most min most) (both (at_most n most) (at_most min n))

limits_of : (most : ℕ) (o : Option Limits) → Decided (AreLimitsOf most o)
limits_of most None = inl tt
limits_of most (Some l) = limits most l.min l.max

constant_of : (t : ValType) (c : Code) → Decided (IsConstantOf t c)
constant_of I32 (next (const_i32 n) end) = inl tt
constant_of I64 (next (const_i64 n) end) = inl tt
constant_of _ _ = inr (λ h. h)

there : (m : PureModule) (what : Exported) → Decided (IsThere m what)
there m (exported.Func f) = below f (length m.funcs)
there m (exported.Table t) = both (is_true (is_some m.table)) (cases_eq t 0)
there m (exported.Memory x) = both (is_true (is_some m.memory)) (cases_eq x 0)
there m (exported.Global g) = below g (length m.globals)

names : (es : List Exporting) → Decided (NamesDiffer es)
names [] = inl tt
names (e ∷ es) = both
    (all_of (λ (other : Exporting). other.name ≡ e.name → ⊥) (λ other. negated (same_bytes other.name e.name)) es)
    (names es)

element : (m : PureModule) (s : ElementSegment) → Decided (IsValidElement m s)
element m s = all_three (is_true (is_some m.table)) (constant_of I32 s.offset)
    (all_of (λ f. f < length m.funcs) (λ f. below f (length m.funcs)) s.funcs)

segment : (m : PureModule) (s : DataSegment) → Decided (IsValidData m s)
segment m s = both (is_true (is_some m.memory)) (constant_of I32 s.offset)

parts : (m : PureModule) → Decided (PartsPass m)
parts m = turned
    (λ h. record {
      types = h.0.0;
      table = h.0.1;
      memory = h.0.2;
      globals = h.1.0;
      exports = h.1.1;
      names = h.1.2;
      elements = h.2.0;
      segments = h.2.1;
    })
    (λ p. ((p.types, p.table, p.memory), (p.globals, p.exports, p.names), (p.elements, p.segments)))
    (all_three
    (all_three (all_of (λ (t : FuncType). length t.results ≤ 1) (λ t. at_most (length t.results) 1) m.types)
    (limits_of (2 ^ 32) m.table) (limits_of 65536 m.memory))
    (all_three (all_of (λ (g : Global). IsConstantOf g.kind g.init) (λ g. constant_of g.kind g.init) m.globals)
    (all_of (λ (e : Exporting). IsThere m e.what) (λ e. there m e.what) m.exports) (names m.exports))
    (both (all_of (IsValidElement m) (element m) m.elements) (all_of (IsValidData m) (segment m) m.segments)))

-- the tests of bodies
body : (m : PureModule) (f : Function) → Decided (PassesBody m f)
body m f = one_value
    (λ (t : FuncType). closes t.results (after_code (record (context_of m) {
      locals = t.params ++ f.locals;
      labels = t.results ∷ [];
      results = t.results;
    }) f.body opened) ≡ true)
    (slice_get m.types f.kind) (λ t. is_true _)

pub validity_is_decided : (m : PureModule) → IsValid m ⊎ (IsValid m → ⊥)
validity_is_decided m = turned
    (λ h. checked_valid m (record { parts = h.0; bodies = h.1 }))
    (λ v. let k = valid_checked m v in (k.parts, k.bodies))
    (both (parts m) (all_of (PassesBody m) (body m) m.funcs))
