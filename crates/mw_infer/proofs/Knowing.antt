-- The sets that are kept of types' classifiers.
use Rattle.std.proofs.Common.{◌≡◌, ℕ, zero, suc, ◌<◌, List, [], ◌∷◌, Bool, true, false, Option, Some, IsTrue}
use Rattle.std.proofs.Common.{refl, ap, ◌∙◌, subst, length, arith}
use Rattle.std.specs.Prelude.{slice_get, slice_index_or, not}
use Rattle.mw_types.specs.declared.types.Ty.{Ty}
use Rattle.mw_types.specs.declared.types.Ty.TheVariants.{Int}
use Rattle.std.specs.BTreeSet.{BTreeSet, contains}
use Rattle.std.specs.Ordering.{nat_cmp}
use Rattle.mw_term.specs.Types.{IsAbsentIn}
use Rattle.mw_types.specs.Types.{TypeExpression, int_ty, bool_ty, unknown, pair_ty, function_ty, code_ty, closed_ty}
use Rattle.mw_types.specs.Types.{type_of, value}
use Rattle.mw_types.specs.Solutions.{Solution}
use Rattle.mw_infer.specs.Inferring.{least}
use Rattle.mw_infer.proofs.Testing.{not_true}
use Rattle.mw_infer.specs.Known.{Collects, HoldsAll, Knows}

holds-more : (s r : BTreeSet ℕ) (t : TypeExpression)
    → ((c : ℕ) → IsTrue (contains nat_cmp s c) → IsTrue (contains nat_cmp r c)) → HoldsAll s t → HoldsAll r t
holds-more s r int_ty k h = tt
holds-more s r bool_ty k h = tt
holds-more s r (unknown u) k h = tt
holds-more s r (pair_ty t q) k h = (holds-more s r t k h.0, holds-more s r q k h.1)
holds-more s r (function_ty t q) k h = (holds-more s r t k h.0, holds-more s r q k h.1)
holds-more s r (code_ty c t) k h = (k c h.0, holds-more s r t k h.1)
holds-more s r (closed_ty t) k h = holds-more s r t k h

pub collects-pair : (s r q : BTreeSet ℕ) (t u : TypeExpression) → Collects s r t → Collects r q u
    → Collects s q (pair_ty t u)
collects-pair s r q t u a b = record {
  kept = λ c h. b.kept c (a.kept c h);
  holds = (holds-more r q t b.kept a.holds, b.holds);
}

pub collects-function : (s r q : BTreeSet ℕ) (t u : TypeExpression) → Collects s r t → Collects r q u
    → Collects s q (function_ty t u)
collects-function s r q t u a b = record {
  kept = λ c h. b.kept c (a.kept c h);
  holds = (holds-more r q t b.kept a.holds, b.holds);
}

other : (s : BTreeSet ℕ) (d c : ℕ) → d ≡ c → IsTrue (contains nat_cmp s d) → contains nat_cmp s c ≡ false → ⊥
other s d c p h e = not_true (subst (λ x. IsTrue x) (ap (λ x. contains nat_cmp s x) p ∙ e) h)

-- what a set lacks stands nowhere in a type whose classifiers it has
pub lacks : (s : BTreeSet ℕ) (c : ℕ) (t : TypeExpression) → contains nat_cmp s c ≡ false → HoldsAll s t
    → IsAbsentIn c (value least t)
lacks s c int_ty e h = tt
lacks s c bool_ty e h = tt
lacks s c (unknown u) e h = tt
lacks s c (pair_ty t r) e h = (lacks s c t e h.0, lacks s c r e h.1)
lacks s c (function_ty t r) e h = (lacks s c t e h.0, lacks s c r e h.1)
lacks s c (code_ty d t) e h = ((λ p. other s d c p h.0 e), lacks s c t e h.1)
lacks s c (closed_ty t) e h = lacks s c t e h

present : (xs : List Ty) (i : ℕ) (d : Ty) → i < length xs → slice_get xs i ≡ Some (slice_index_or xs i d)
present [] i d lt = absurd (omega arith)
present (x ∷ xs) zero d lt = refl
present (x ∷ xs) (suc i) d lt = present xs i d (omega arith)

pub not_false : (b : Bool) → IsTrue (not b) → b ≡ false
not_false true p = not_true p
not_false false p = refl

pub known-lacks : (s : Solution) (known : List (Option (BTreeSet ℕ))) (x : BTreeSet ℕ) (u r c : ℕ) → Knows s known
    → u < length s.types → slice_get s.roots u ≡ Some r → slice_get known r ≡ Some (Some x)
    → contains nat_cmp x c ≡ false → IsAbsentIn c (value least (type_of (slice_index_or s.types u Int)))
known-lacks s known x u r c k lt q g e = lacks x c (type_of (slice_index_or s.types u Int)) e
    (k r u x (slice_index_or s.types u Int) g q (present s.types u Int lt))
