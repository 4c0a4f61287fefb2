-- Kernels with names of all kinds may be linked.
use Rattle.std.proofs.Common.{◌≡◌, ℕ, ◌≤◌, Bool, true, false, ◌&&◌, List, [], ◌∷◌, length, refl, sym, ◌∙◌, arith}
use Rattle.std.specs.Prelude.{nat_eq, nat_le, codes}
use Rattle.std.specs.List.{AllByRecursion}
use Rattle.std.specs.Cmp.Lexicographic.{pointwise, bytes_decides}
use Rattle.std.proofs.lemmas.Bool.{leb-true}
use Rattle.mw_wasm.specs.Profile.{IsPrintable}
use Rattle.mw_list.proofs.Conjunctions.{both_true}
use Rattle.mw_link.specs.LinkLaw.{IsLinkable, AreLinkable}
use Rattle.mw_tests.specs.LinkedKernels.{seven_named, longest_name, sevens_of_five_names}

-- names, told by computation
abbrev all_printable : List ℕ → Bool
all_printable [] = true
all_printable (b ∷ name) = (nat_le 0x20 b && nat_le b 0x7E) && all_printable name

printable : (name : List ℕ) → all_printable name ≡ true → AllByRecursion IsPrintable name
printable [] e = tt
printable (b ∷ name) e =
    let h = both_true (nat_le 0x20 b && nat_le b 0x7E) (all_printable name) e in
    let q = both_true (nat_le 0x20 b) (nat_le b 0x7E) h.0 in
    ((leb-true 0x20 b q.0, leb-true b 0x7E q.1), printable name h.1)

other : (a b : List ℕ) → pointwise nat_eq a b ≡ false → a ≡ b → ⊥
other a b e q = absurd (let r : false ≡ true = sym e ∙ (bytes_decides a b).1 q in (cc))

seven_linkable : (name : List ℕ) → length name ≤ 64 → all_printable name ≡ true → IsLinkable (seven_named name)
seven_linkable name short e = record {
  closed = tt;
  few = omega arith;
  flat = omega arith;
  nodes = omega arith;
  short = short;
  printable = printable name e;
}

-- kernels of all the names
pub sevens_are_linkable : AreLinkable sevens_of_five_names
sevens_are_linkable = record {
  all = (
    seven_linkable (codes "init") (omega arith) refl,
    (
      seven_linkable (codes "call") (omega arith) refl,
      (
        seven_linkable (codes "a") (omega arith) refl,
        (
          seven_linkable (codes "a_init") (omega arith) refl,
          (seven_linkable longest_name (omega arith) refl, tt),
        ),
      ),
    ),
  );
  differ = (
    (other _ _ refl, (other _ _ refl, (other _ _ refl, (other _ _ refl, tt)))),
    (
      (other _ _ refl, (other _ _ refl, (other _ _ refl, tt))),
      ((other _ _ refl, (other _ _ refl, tt)), ((other _ _ refl, tt), (tt, tt))),
    ),
  );
  few = omega arith;
  together = omega arith;
}
