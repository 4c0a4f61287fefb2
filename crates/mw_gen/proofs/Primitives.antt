-- The primitives on words of 64 bits.
use Rattle.std.proofs.Common.{◌≡◌, ℕ, zero, suc, ◌+◌, ◌≤◌, ◌<◌, Bool, true, false, List, [], ◌∷◌, length, refl, ap, ◌∙◌}
use Rattle.std.proofs.Common.{sym, arith, Some}
use Rattle.std.specs.Prelude.{ℤ, pos, negsuc, ◌+ℤ◌, ◌-ℤ◌, ◌*ℤ◌, int_lt, int_le, int_div, int_rem, neg_ℤ, ◌==◌}
use Rattle.std.specs.Prelude.{if◌then◌else◌, ◌/◌, ◌*◌, ◌-◌, ◌%◌, ◌^◌, ◌&&◌, Result, Ok, Err}
use Rattle.std.specs.Int.{cast_signed, int_wrap, from_bool}
use Rattle.std.proofs.lemmas.Bool.{eqb-true, eqb-false, eq-eqb, ne_eqb, and_left, and_right}
use Rattle.std.specs.Int.Signed.{mag, mag_rem}
use Rattle.std.proofs.Math.Nat.{div-le_self, div-lt_self}
use Rattle.mw_term.specs.declared.value.TrapKind.TheVariants.{Overflow}
use Rattle.std.proofs.lemmas.Int.{to_z-of_z, of_z-to_z, wrapping_add-bits, wrapping_sub-bits, wrapping_mul-bits}
use Rattle.std.proofs.lemmas.Int.{SFits-int_wrap, fits_signed_from_abs}
use mir.Syntax.{w64}
use Rattle.mw_term.specs.declared.term.Primitive.{Primitive as Prim}
use Rattle.mw_term.specs.declared.term.Primitive.TheVariants.{Add, Sub, Mul, Div, Mod, Eq, Lt, Le}
use Rattle.mw_meaning.specs.Arithmetic.{PrimitiveResult, number, fact, trapped, compute, equal, quotient, remainder}
use Rattle.mw_wasm.specs.declared.values.Value.{Value}
use Rattle.mw_wasm.specs.declared.values.Value.TheVariants.{I64}
use Rattle.mw_wasm.specs.declared.values.ValType.TheVariants as type
use Rattle.mw_wasm.specs.declared.values.Trap.{Trap}
use Rattle.mw_wasm.specs.Numerics.{as_value, divided_by, signed_quotient, signed_remainder, is_least, is_minus_one}
use Rattle.mw_wasm.specs.Act as acts
use Rattle.mw_wasm.specs.Act.{on_result}
use Rattle.mw_wasm.specs.Syntax.{Code, next, end, cond, PureModule}
use Rattle.mw_wasm.specs.Store.{Memory}
use Rattle.mw_wasm.specs.Redex.{Around, in_label, placed, follow, run}
use Rattle.mw_wasm.specs.Execution.{End}
use Rattle.mw_ir.specs.Ir as i
use Rattle.mw_ir.specs.Ir.{word_of_truth}
use Rattle.mw_gen.specs.Generate.{prim_code, truth_code, wrap}
use Rattle.mw_gen.proofs.Words.{bits, Small}
use Rattle.mw_gen.proofs.Locals.{word}
use Rattle.mw_gen.proofs.Loads.{bits_small}
use Rattle.mw_gen.proofs.RunAnswers.{Says, along, trap_of}
use Rattle.mw_gen.proofs.Stores.{Run, law, store_at}

-- a result whose signed number is known
from_signed : (m : ℕ) (z : ℤ) → m < 2 ^ 64 → cast_signed w64 m ≡ z → m ≡ bits z
from_signed m z lt e = sym (of_z-to_z w64 m lt) ∙ ap bits e

mod_small : (m : ℕ) → m % 2 ^ 64 < 2 ^ 64
mod_small m = omega arith

add_bits : (x y : ℤ) → Small x → Small y → (bits x + bits y) % 2 ^ 64 ≡ bits (int_wrap w64 (x +ℤ y))
add_bits x y p q = from_signed ((bits x + bits y) % 2 ^ 64) (int_wrap w64 (x +ℤ y)) (mod_small _)
    (wrapping_add-bits w64 (bits x) (bits y) (bits_small x p) (bits_small y q)
    ∙ rw (to_z-of_z w64 x p, to_z-of_z w64 y q) refl)

sub_bits : (x y : ℤ) → Small x → Small y → (bits x + 2 ^ 64 - bits y) % 2 ^ 64 ≡ bits (int_wrap w64 (x -ℤ y))
sub_bits x y p q =
    let b = bits_small y q in
    let e : bits x + 2 ^ 64 - bits y ≡ bits x + (2 ^ 64 - bits y) = omega arith in
    rw e (from_signed ((bits x + (2 ^ 64 - bits y)) % 2 ^ 64) (int_wrap w64 (x -ℤ y)) (mod_small _)
    (wrapping_sub-bits w64 (bits x) (bits y) (bits_small x p) (bits_small y q)
    ∙ rw (to_z-of_z w64 x p, to_z-of_z w64 y q) refl))

mul_bits : (x y : ℤ) → Small x → Small y → (bits x * bits y) % 2 ^ 64 ≡ bits (int_wrap w64 (x *ℤ y))
mul_bits x y p q = from_signed ((bits x * bits y) % 2 ^ 64) (int_wrap w64 (x *ℤ y)) (mod_small _)
    (wrapping_mul-bits w64 (bits x) (bits y) (bits_small x p) (bits_small y q)
    ∙ rw (to_z-of_z w64 x p, to_z-of_z w64 y q) refl)

pub truth_small : (b : Bool) → Small (word_of_truth b)
truth_small true = fits_signed_from_abs w64 (pos 1) (omega arith)
truth_small false = fits_signed_from_abs w64 (pos 0) (omega arith)

pub truth_bits : (b : Bool) → truth_code b ≡ bits (word_of_truth b)
truth_bits true = refl
truth_bits false = refl

bit_bits : (b : Bool) → from_bool b ≡ bits (word_of_truth b)
bit_bits true = refl
bit_bits false = refl

-- equality of bits is equality
equal_same : (x : ℤ) → equal x x ≡ true
equal_same (pos a) = eq-eqb a a refl
equal_same (negsuc a) = eq-eqb a a refl

equal_true : (x y : ℤ) → equal x y ≡ true → x ≡ y
equal_true (pos a) (pos b) e = ap pos (eqb-true a b e)
equal_true (pos a) (negsuc b) e = absurd (cc)
equal_true (negsuc a) (pos b) e = absurd (cc)
equal_true (negsuc a) (negsuc b) e = ap negsuc (eqb-true a b e)

equal_bits : (x y : ℤ) → Small x → Small y → (bits x == bits y) ≡ equal x y
equal_bits x y p q = by_bits (bits x == bits y) refl
  where
    by_value : bits x == bits y ≡ false → (c : Bool) → equal x y ≡ c → false ≡ c
    by_value e false f = refl
    by_value e true f = absurd (let g : bits x ≡ bits y = ap bits (equal_true x y f) in eqb-false (bits x) (bits y) e g)

    by_bits : (b : Bool) → (bits x == bits y) ≡ b → b ≡ equal x y
    by_bits true e = let g : x ≡ y = sym (to_z-of_z w64 x p)
        ∙ (ap (λ n. cast_signed w64 n) (eqb-true (bits x) (bits y) e) ∙ to_z-of_z w64 y q) in
        sym (ap (λ y. equal x y) (sym g) ∙ equal_same x)
    by_bits false e = by_value e (equal x y) refl

-- quotients and remainders have 64 bits
abbrev Fitting : PrimitiveResult → Type 0
Fitting (number z) = mag z < 2 ^ 63
Fitting (fact b) = Unit {0}
Fitting (trapped t) = Unit {0}

negated : (r a : ℕ) → r ≤ suc a → mag (neg_ℤ (pos r)) ≤ a
negated zero a le = omega arith
negated (suc r) a le = omega arith

quotient_small : (x y : ℤ) → Small x → Fitting (quotient x y)
quotient_small x (pos zero) s = tt
quotient_small (pos a) (pos (suc d)) s = omega (arith, div-le_self a (suc d), s.sfits)
quotient_small (negsuc a) (pos (suc d)) s =
    omega (arith, negated (suc a / suc d) a (div-le_self (suc a) (suc d)), s.sfits)
quotient_small (pos a) (negsuc zero) s = let l : a / 1 ≤ suc a = omega arith in
    omega (arith, negated (a / 1) a l, s.sfits)
quotient_small (negsuc a) (negsuc zero) s = go (a == 2 ^ 63 - 1) refl
  where
    go : (b : Bool) → (a == 2 ^ 63 - 1) ≡ b
        → Fitting (if b then trapped Overflow else number (int_div (negsuc a) (negsuc zero)))
    go true e = tt
    go false e = let g = eqb-false a (2 ^ 63 - 1) e in omega (arith, s.sfits)
quotient_small (pos a) (negsuc (suc d)) s =
    omega (arith, negated (a / suc (suc d)) a (let l = div-le_self a (suc (suc d)) in omega arith), s.sfits)
quotient_small (negsuc a) (negsuc (suc d)) s =
    omega (arith, div-lt_self {n = suc a} {k = suc (suc d)} (omega arith) (omega arith), s.sfits)

remainder_small : (x y : ℤ) → Small x → Fitting (remainder x y)
remainder_small x (pos zero) s = tt
remainder_small x (pos (suc d)) s = omega (arith, mag_rem x (pos (suc d)), s.sfits)
remainder_small x (negsuc d) s = omega (arith, mag_rem x (negsuc d), s.sfits)

-- a primitive's result as the numeric instructions give it
abbrev pub machine_result : PrimitiveResult → Result ℕ Trap
machine_result (number z) = Ok (bits z)
machine_result (fact b) = Ok (from_bool b)
machine_result (trapped t) = Err (trap_of t)

nonzero : (x y : ℤ) → (bits y ≡ 0 → ⊥) → (r : Result ℕ Trap) → divided_by (bits y) r ≡ r
nonzero x y ne r = let e : bits y == 0 ≡ false = ne_eqb _ _ ne in rw e refl

plain_quotient : (x y : ℤ) → Small x → Small y → (is_least w64 (bits x) && is_minus_one w64 (bits y)) ≡ false
    → signed_quotient w64 (bits x) (bits y) ≡ Ok (bits (int_div x y))
plain_quotient x y p q e = rw (e, to_z-of_z w64 x p, to_z-of_z w64 y q) refl

quotient_is : (x y : ℤ) → Small x → Small y → divided_by (bits y) (signed_quotient w64 (bits x) (bits y))
    ≡ machine_result (quotient x y)
quotient_is x (pos zero) p q = refl
quotient_is x (pos (suc d)) p q = nonzero x (pos (suc d)) (λ e. omega arith) _ ∙ plain_quotient x (pos (suc d)) p q
    (and_right (is_least w64 (bits x)) _ (ne_eqb _ _ λ e. (let s = q.sfits in omega arith)))
quotient_is (pos n) (negsuc zero) p q = plain_quotient (pos n) (negsuc zero) p q
    (and_left (n == 2 ^ 63) _ (ne_eqb n (2 ^ 63) λ e. omega (arith, p.sfits)))
quotient_is (negsuc n) (negsuc zero) p q = go (n == 2 ^ 63 - 1) refl
  where
    go : (b : Bool) → (n == 2 ^ 63 - 1) ≡ b
        → divided_by (bits (negsuc zero)) (signed_quotient w64 (bits (negsuc n)) (bits (negsuc zero)))
        ≡ machine_result (if b then trapped Overflow else number (int_div (negsuc n) (negsuc zero)))
    go true e = let l : is_least w64 (bits (negsuc n)) ≡ true = eq-eqb _ _ (let f = eqb-true n _ e in omega arith) in
        rw l refl
    go false e = plain_quotient (negsuc n) (negsuc zero) p q
        (and_left (bits (negsuc n) == 2 ^ 63) _
        (ne_eqb (bits (negsuc n)) (2 ^ 63) λ g. eqb-false n (2 ^ 63 - 1) e (omega (arith, g, p.sfits))))
quotient_is x (negsuc (suc d)) p q = nonzero x (negsuc (suc d)) (λ e. (let s = q.sfits in omega arith)) _
    ∙ plain_quotient x (negsuc (suc d)) p q
    (and_right (is_least w64 (bits x)) _ (ne_eqb _ _ λ e. (let s = q.sfits in omega arith)))

plain_remainder : (x y : ℤ) → Small x → Small y → signed_remainder w64 (bits x) (bits y) ≡ bits (int_rem x y)
plain_remainder x y p q = rw (to_z-of_z w64 x p, to_z-of_z w64 y q) refl

remainder_is : (x y : ℤ) → Small x → Small y → divided_by (bits y) (Ok (signed_remainder w64 (bits x) (bits y)))
    ≡ machine_result (remainder x y)
remainder_is x (pos zero) p q = refl
remainder_is x (pos (suc d)) p q = nonzero x (pos (suc d)) (λ e. omega arith) _
    ∙ ap Ok (plain_remainder x (pos (suc d)) p q)
remainder_is x (negsuc d) p q = nonzero x (negsuc d) (λ e. (let s = q.sfits in omega arith)) _
    ∙ ap Ok (plain_remainder x (negsuc d) p q)

module _ (m : PureModule) (tb : List (Rattle.std.specs.Prelude.Option ℕ)) where
  -- what follows a numeric instruction's result
  abbrev Ended : ℕ → List ℤ → Memory → List Value → Result ℕ Trap → List Value → Code → List Around → End
  Ended n h mem ls r vs rest around =
      follow (placed (on_result (as_value type.I64 r) λ z. acts.gives (store_at tb (8 * length h) mem) ls (z ∷ vs)
      Rattle.std.specs.Prelude.None) (store_at tb (8 * length h) mem) ls rest around) (store_at tb (8 * length h) mem) n
      (run m n) (run m)

  result_says : (n : ℕ) (h : List ℤ) (mem : Memory) (ls : List Value) (r : PrimitiveResult) (vs : List Value)
      (rest : Code) (around : List Around) (Q : ℤ → ℕ → List ℤ → End → Type 0) → Fitting r
      → ((z : ℤ) → Small z → Q z n h (Run m tb n h mem ls (word z ∷ vs) rest around))
      → Says (i.result_of r n h) Q (Ended n h mem ls (machine_result r) vs rest around)
  result_says n h mem ls (number z) vs rest around Q f k = record { says = k z (record { sfits = f }) }
  result_says n h mem ls (fact b) vs rest around Q f k =
      along (ap (λ v. Run m tb n h mem ls (I64 v ∷ vs) rest around) (bit_bits b))
      (record { says = k _ (truth_small b) })
  result_says n h mem ls (trapped t) vs rest around Q f k = record { says = (store_at tb (8 * length h) mem, refl) }

  pub prim_says : (p : Prim) → (n : ℕ) (h : List ℤ) (mem : Memory) (ls : List Value) (x y : ℤ) (vs : List Value)
      (rest : Code) (around : List Around) (Q : ℤ → ℕ → List ℤ → End → Type 0) → Small x → Small y
      → ((z : ℤ) → Small z → Q z n h (Run m tb n h mem ls (word z ∷ vs) rest around))
      → Says (i.result_of (compute p x y) n h) Q (Run m tb n h mem ls (word y ∷ word x ∷ vs) (prim_code p rest) around)
  prim_says Add n h mem ls x y vs rest around Q p q k =
      along (law m tb n _ ∙ ap (λ v. Run m tb n h mem ls (I64 v ∷ vs) rest around) (add_bits x y p q))
      (record { says = k _ (SFits-int_wrap w64 _) })
  prim_says Sub n h mem ls x y vs rest around Q p q k =
      along (law m tb n _ ∙ ap (λ v. Run m tb n h mem ls (I64 v ∷ vs) rest around) (sub_bits x y p q))
      (record { says = k _ (SFits-int_wrap w64 _) })
  prim_says Mul n h mem ls x y vs rest around Q p q k =
      along (law m tb n _ ∙ ap (λ v. Run m tb n h mem ls (I64 v ∷ vs) rest around) (mul_bits x y p q))
      (record { says = k _ (SFits-int_wrap w64 _) })
  prim_says Lt n h mem ls x y vs rest around Q p q k =
      along (law m tb n _
      ∙ (law m tb n _ ∙ rw (to_z-of_z w64 x p, to_z-of_z w64 y q)
      (ap (λ v. Run m tb n h mem ls (I64 v ∷ vs) rest around) (bit_bits (int_lt x y)))))
      (record { says = k _ (truth_small (int_lt x y)) })
  prim_says Le n h mem ls x y vs rest around Q p q k =
      along (law m tb n _
      ∙ (law m tb n _ ∙ rw (to_z-of_z w64 x p, to_z-of_z w64 y q)
      (ap (λ v. Run m tb n h mem ls (I64 v ∷ vs) rest around) (bit_bits (int_le x y)))))
      (record { says = k _ (truth_small (int_le x y)) })
  prim_says Div n h mem ls x y vs rest around Q p q k =
      along (law m tb n _ ∙ ap (λ r. Ended n h mem ls r vs rest around) (quotient_is x y p q))
      (result_says n h mem ls (quotient x y) vs rest around Q (quotient_small x y p) k)
  prim_says Mod n h mem ls x y vs rest around Q p q k =
      along (law m tb n _ ∙ ap (λ r. Ended n h mem ls r vs rest around) (remainder_is x y p q))
      (result_says n h mem ls (remainder x y) vs rest around Q (remainder_small x y p) k)
  prim_says Eq n h mem ls x y vs rest around Q p q k =
      along (law m tb n _
      ∙ (law m tb n _
      ∙ rw (equal_bits x y p q) (ap (λ v. Run m tb n h mem ls (I64 v ∷ vs) rest around) (bit_bits (equal x y)))))
      (record { says = k _ (truth_small (equal x y)) })

  -- a choice
  pub chosen_says : (n : ℕ) (h : List ℤ) (mem : Memory) (ls : List Value) (w : ℤ) (vs : List Value) (c d rest : Code)
      (around : List Around) (a b : i.Ended) (Q : ℤ → ℕ → List ℤ → End → Type 0)
      → Says a Q (Run m tb n h mem ls [] c (in_label 1 end vs rest ∷ around))
      → Says b Q (Run m tb n h mem ls [] d (in_label 1 end vs rest ∷ around))
      → Says (i.chosen w a b) Q (Run m tb n h mem ls (word w ∷ vs) (wrap (next (cond (Some type.I64) c d) rest)) around)
  chosen_says n h mem ls (pos zero) vs c d rest around a b Q p q = along (law m tb n _ ∙ (law m tb n _ ∙ law m tb n _))
      q
  chosen_says n h mem ls (pos (suc zero)) vs c d rest around a b Q p q =
      along (law m tb n _ ∙ (law m tb n _ ∙ law m tb n _)) p
  chosen_says n h mem ls (pos (suc (suc w))) vs c d rest around a b Q p q = record { says = tt }
  chosen_says n h mem ls (negsuc w) vs c d rest around a b Q p q = record { says = tt }
