-- Assignments of a term's numbers that go on along the term as its node lines read.
use Rattle.std.proofs.Common.{◌≡◌, ℕ, ◌+◌, ◌≤◌, List, [], ◌∷◌, ◌++◌, length, Option, Some, None, refl}
use Rattle.std.proofs.Common.{arith, length-append}
use Rattle.std.specs.Prelude.{IfSome, ◌<◌}
use Rattle.std.specs.List.{AllByRecursion}
use Rattle.mw_types.specs.Types.{Assignment}
use Rattle.mw_types.specs.Equations.{TypeEquation}
use Rattle.mw_recheck.specs.Notes.{Notes}
use Rattle.mw_infer.specs.Nodes.{NodeNumbers}
use Rattle.mw_infer.specs.Typings.{IsNodeWithin, AreNodesWithin}
use Rattle.mw_infer.proofs.Extending.{Grown, then, Own, alone as own_alone}
use Rattle.mw_infer.proofs.NodeLists.{within-append}
use Rattle.mw_general.proofs.Values.{types_under, classifiers_under, agree_same}
use Rattle.mw_general.proofs.NodeLineReadings.{Says, AllSay, same_say, both_say}

-- nodes under higher bounds
types-more : {n k : ℕ} → n ≤ k → (us : List ℕ) → AllByRecursion (λ u. u < n) us → AllByRecursion (λ u. u < k) us
types-more p [] w = tt
types-more p (u ∷ us) w = (omega (arith, w.0), types-more p us w.1)

classifier-more : {m l : ℕ} → m ≤ l → (c : Option ℕ) → IfSome c (λ d. d < m) → IfSome c (λ d. d < l)
classifier-more q None w = tt
classifier-more q (Some c) w = omega (arith, w)

nodes-more : {n m k l : ℕ} → n ≤ k → m ≤ l → (xs : List NodeNumbers) → AreNodesWithin n m xs → AreNodesWithin k l xs
nodes-more p q [] w = tt
nodes-more p q (x ∷ xs) w = (
  record {
    types = types-more p x.types w.0.types;
    classifier = classifier-more q x.classifier w.0.classifier;
  },
  nodes-more p q xs w.1,
)

-- An assignment that goes on from a, which ends at o and c, to q and f: it solves these equations, and the node lines
-- from place n up to k read as these nodes are under it.
pub record Follows (p : Notes) (b a : Assignment) (o c q f : ℕ) (es : List TypeEquation) (n k : ℕ)
    (xs : List NodeNumbers) : Type 0 where
  pub grown : Grown a o c q f es []
  pub within : AreNodesWithin q f xs
  pub says : AllSay p b grown.by n xs
  pub ends : k ≡ n + length xs

-- a term after what stands before it
pub next : {p : Notes} {b a : Assignment} {o c q f r v n k j : ℕ} {es fs : List TypeEquation} {xs ys : List NodeNumbers}
    → (one : Follows p b a o c q f es n k xs) → Follows p b one.grown.by q f r v fs k j ys
    → Follows p b a o c r v (es ++ fs) n j (xs ++ ys)
next {p = p} {b = b} {r = r} {v = v} {n = n} {k = k} {xs = xs} {ys = ys} one two = record {
  grown = then one.grown two.grown;
  within = within-append r v xs ys (nodes-more two.grown.unknowns two.grown.classifiers xs one.within) two.within;
  says = both_say p b two.grown.by n k xs ys one.ends
      (same_say p b one.grown.by two.grown.by n xs (agree_same two.grown.keeps xs one.within) one.says) two.says;
  ends = omega (arith, one.ends, two.ends, length-append xs ys);
}

-- a node with what stands first in it
abbrev pub alone : {p : Notes} {b a d : Assignment} {o c q f n : ℕ} {es : List TypeEquation} (x : NodeNumbers)
    → Own a d o c q f es [] → IsNodeWithin q f x → Says p b n (types_under d x) (classifiers_under d x)
    → Follows p b a o c q f es n (n + 1) (x ∷ [])
alone {d = d} x h w s = record {
  grown = own_alone {b = d} h;
  within = (w, tt);
  says = (s, tt);
  ends = refl;
}

-- a node before its parts
pub first : {p : Notes} {b a d : Assignment} {o c q f r v n j : ℕ} {es fs : List TypeEquation} {ys : List NodeNumbers}
    (x : NodeNumbers) → Own a d o c q f es [] → IsNodeWithin q f x
    → Says p b n (types_under d x) (classifiers_under d x) → Follows p b d q f r v fs (n + 1) j ys
    → Follows p b a o c r v (es ++ fs) n j (x ∷ ys)
first x h w s two = next (alone x h w s) two

-- the same ends, counted otherwise
pub ending : {p : Notes} {b a : Assignment} {o c q f r v n k j : ℕ} {es : List TypeEquation} {xs : List NodeNumbers}
    → q ≡ r → f ≡ v → k ≡ j → Follows p b a o c q f es n k xs → Follows p b a o c r v es n j xs
ending i j l h = rw (i, j, l) at h
