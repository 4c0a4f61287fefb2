-- A word that stands for a value is that value's word in the memory that keeps its heap.
use Rattle.std.proofs.Common.{◌≡◌, ℕ, zero, suc, ◌+◌, ◌≤◌, Bool, true, false, List, Some, refl, ap, ◌∙◌, sym, subst}
use Rattle.std.proofs.Common.{arith}
use Rattle.std.specs.Prelude.{ℤ, pos, negsuc, slice_get, ◌*◌, ◌/◌, ◌%◌}
use Rattle.std.proofs.lemmas.Bool.{le-leb}
use Rattle.std.proofs.lemmas.Option.{slice_get_within}
use Rattle.mw_term.specs.Terms.{KernelValue}
use Rattle.mw_wasm.specs.Store.{Memory, read_bytes}
use Rattle.mw_meaning.specs.StandingFor.{truth_number, IsWord}
use Rattle.mw_ir.specs.Ir.{IrFunc, aligned, load, word_of_truth}
use Rattle.mw_conv.specs.Represents.{Stands, s_int, s_bool, s_both, s_function, s_recursive}
use Rattle.mw_gen.proofs.Words.{bits, Small, Keeps}

pub truth_word : (b : Bool) → bits (word_of_truth b) ≡ truth_number b
truth_word true = refl
truth_word false = refl

-- word j of what stands at u
pub record Stored (mem : Memory) (h : List ℤ) (u : ℤ) (j : ℕ) (w : ℤ) : Type 0 where
  pub word : read_bytes 8 (bits u + 8 * j) mem ≡ bits w
  pub inside : bits u + 8 * j + 8 ≤ mem.pages * 65536
  pub small : Small w

stored : (h : List ℤ) (mem : Memory) (u : ℤ) (j : ℕ) (w : ℤ) → Keeps h mem → load h u j ≡ Some w → Stored mem h u j w
stored h mem (negsuc a) j w m e = absurd (cc)
stored h mem (pos a) j w m e = go (a % 8) refl e
  where
    go : (r : ℕ) → a % 8 ≡ r → aligned r (slice_get h (a / 8 + j)) ≡ Some w → Stored mem h (pos a) j w
    go (suc r) p e = absurd (cc)
    go zero p e =
        let at : a + 8 * j ≡ 8 * (a / 8 + j) = omega arith in
        record {
          word = ap (λ x. read_bytes 8 x mem) at ∙ m.word _ w e;
          inside = rw m.pages (omega (arith, slice_get_within h _ w e, m.few));
          small = m.small _ w e;
        }

pub word_is : (t : List IrFunc) (h : List ℤ) (mem : Memory) (v : KernelValue) (w : ℤ) → Keeps h mem → Stands t h v w
    → IsWord v (bits w) mem
word_is t h mem v w m (s_int n) = refl
word_is t h mem v w m (s_bool b c e) = ap bits e ∙ truth_word b
word_is t h mem v w m (s_both x y c a b la lb sa sb) =
    let p = stored h mem c 0 a m la in
    let q = stored h mem c 1 b m lb in
    let z : bits c + 8 * 0 ≡ bits c = omega arith in (
      le-leb _ _ (omega (arith, q.inside)),
      subst (λ n. IsWord x n mem) (sym (rw z at p.word))
          (word_is t h mem x a m sa),
      subst (λ n. IsWord y n mem) (sym q.word) (word_is t h mem y b m sb),
    )
word_is t h mem v w m (s_function c i e env body words eb l has at st) = tt
word_is t h mem v w m (s_recursive c i e env body words eb l has at st) = tt
