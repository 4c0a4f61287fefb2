-- New numbers by lists: what is in a list has its place there, and all else comes behind.
use Rattle.std.proofs.Common.{◌≡◌, ℕ, suc, Bool, true, false, cond, nat_eq, List, [], ◌∷◌, refl, sym, ◌∙◌, arith}
use Rattle.std.proofs.lemmas.Bool.{eqb-true}
use Rattle.mw_agree.specs.Telling.{NewNumbers}

abbrev pub number_by : List ℕ → ℕ → ℕ
number_by [] u = u
number_by (x ∷ xs) u = cond (nat_eq x u) 0 (suc (number_by xs u))

one_of : (x u v k l : ℕ) (a b : Bool) → nat_eq x u ≡ a → nat_eq x v ≡ b → cond a 0 (suc k) ≡ cond b 0 (suc l)
    → (k ≡ l → u ≡ v) → u ≡ v
one_of x u v k l true true p q e f = sym (eqb-true x u p) ∙ eqb-true x v q
one_of x u v k l true false p q e f = absurd (omega arith)
one_of x u v k l false true p q e f = absurd (omega arith)
one_of x u v k l false false p q e f = f (omega arith)

pub number_by-one : (xs : List ℕ) (u v : ℕ) → number_by xs u ≡ number_by xs v → u ≡ v
number_by-one [] u v e = e
number_by-one (x ∷ xs) u v e = one_of x u v (number_by xs u) (number_by xs v) (nat_eq x u) (nat_eq x v) refl refl e
    (number_by-one xs u v)

abbrev pub numbers_by : List ℕ → List ℕ → NewNumbers
numbers_by us cs = record {
  unknown = number_by us;
  classifier = number_by cs;
  one_unknown = number_by-one us;
  one_classifier = number_by-one cs;
}
