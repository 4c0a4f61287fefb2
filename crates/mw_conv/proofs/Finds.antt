-- The finder before and after the parts of a term.
use Rattle.std.proofs.Common.{◌≡◌, ℕ, suc, ◌+◌, Bool, true, false, List, [], ◌∷◌, ◌++◌, length, max, replicate, refl}
use Rattle.std.proofs.Common.{ap}
use Rattle.std.proofs.Common.{◌∙◌, sym, arith, append_assoc, append-nil}
use Rattle.std.specs.Global.{Vec}
use Rattle.mw_term.specs.declared.term.Primitive.{Primitive as Prim}
use Rattle.mw_term.specs.Terms as x
use Rattle.mw_term.specs.Terms.{Expression}
use Rattle.mw_term.specs.Limits.{LiteralsFit}
use Rattle.mw_meaning.specs.KernelMeaning.{occurs}
use Rattle.mw_conv.specs.declared.find.Finder.{Finder}
use Rattle.mw_conv.specs.declared.found.FoundFunction.{FoundFunction}
use Rattle.mw_conv.specs.Convert.{lets}
use Rattle.mw_conv.specs.Finding.{all_found, joined, marked, marking, function, own_places}
use Rattle.mw_conv.specs.Finding as f
use Rattle.mw_conv.specs.Found.{Finds}
use Rattle.mw_conv.proofs.Marks.{joined_none, joined_twice, let_marks, function_marks, function_is_found}

-- a form with no variable, function or let in it
pub nothing_found : (b : Finder) (e : Expression) (u : ℕ) → ((i : ℕ) → occurs e i ≡ false)
    → ((d : ℕ) → all_found e d ≡ []) → lets e ≡ 0 → LiteralsFit e → Finds b b e u 0
nothing_found b e u o f z l = record {
  count = refl;
  marks = sym (joined_none b.marks.items (λ i. occurs e (u + i)) (λ i lt. o (u + i)));
  found = rw (f (length b.marks.items + u)) (sym (append-nil b.found.items));
  needed = sym z;
  literals = l;
}

-- a form whose parts are those of another
pub app_found : (b a : Finder) (e f : Expression) (u n : ℕ) → Finds b a (x.pair e f) u n → Finds b a (x.app e f) u n
app_found b a e f u n h =
    record { count = h.count; marks = h.marks; found = h.found; needed = h.needed; literals = h.literals }

pub prim_found : (b a : Finder) (p : Prim) (e f : Expression) (u n : ℕ) → Finds b a (x.pair e f) u n
    → Finds b a (x.prim p e f) u n
prim_found b a p e f u n h =
    record { count = h.count; marks = h.marks; found = h.found; needed = h.needed; literals = h.literals }

pub fst_found : (b a : Finder) (e : Expression) (u n : ℕ) → Finds b a e u n → Finds b a (x.fst e) u n
fst_found b a e u n h =
    record { count = h.count; marks = h.marks; found = h.found; needed = h.needed; literals = h.literals }

pub snd_found : (b a : Finder) (e : Expression) (u n : ℕ) → Finds b a e u n → Finds b a (x.snd e) u n
snd_found b a e u n h =
    record { count = h.count; marks = h.marks; found = h.found; needed = h.needed; literals = h.literals }

-- two parts, one after the other
pub two_found : (b m a : Finder) (e f : Expression) (u s t n : ℕ) → Finds b m e u s → Finds m a f u t
    → n ≡ max s t → Finds b a (x.pair e f) u n
two_found b m a e f u s t n h g k = record {
  count = g.count ∙ h.count;
  marks = joined_twice _ _ _ (λ i. occurs e (u + i)) (λ i. occurs f (u + i)) h.marks g.marks;
  found = g.found ∙ ((λ j. h.found j ++ all_found f (h.count j + u)) ∙ append_assoc b.found.items _ _);
  needed = k ∙ (λ j. max (h.needed j) (g.needed j));
  literals = (h.literals, g.literals);
}

pub if_found : (b m a : Finder) (c e f : Expression) (u s t n : ℕ) → Finds b m c u s → Finds m a (x.pair e f) u t
    → n ≡ max s t → Finds b a (x.cond c e f) u n
if_found b m a c e f u s t n h g k =
    let both = two_found b m a c (x.pair e f) u s t n h g k in
    record {
      count = both.count;
      marks = both.marks;
      found = both.found;
      needed = both.needed;
      literals = (h.literals, g.literals.0, g.literals.1);
    }

-- the second part of a let stands under one binder more
pub let_found : (b m a : Finder) (d e : Expression) (u s t n : ℕ) → Finds b m d u s → Finds m a e (u + 1) t
    → n ≡ max s (t + 1) → Finds b a (x.bind d e) u n
let_found b m a d e u s t n h g q =
    let k : length m.marks.items + (u + 1) ≡ suc (length b.marks.items + u) = omega (arith, h.count) in
    record {
      count = g.count ∙ h.count;
      marks = let_marks d e _ _ _ u h.marks g.marks;
      found = g.found ∙ ((λ j. h.found j ++ all_found e (k j)) ∙ append_assoc b.found.items _ _);
      needed = omega (arith, q, h.needed, g.needed);
      literals = (h.literals, g.literals);
    }

-- a function, whose body was walked with marks of its own
pub function_found : (r : Bool) (e : Expression) (b m : Finder) (inner marks : Vec Bool) (found : Vec FoundFunction)
    (u slots : ℕ) (free : List ℕ) → inner.items ≡ replicate (length b.marks.items + u) false
    → Finds (record b { marks = inner }) m e (length (own_places r)) slots → free ≡ marked m.marks.items 0
    → marks.items ≡ marking b.marks.items free → length marks.items ≡ length b.marks.items
    → found.items ≡ m.found.items ++ record { slots = slots; free = free } ∷ []
    → Finds b (record m { marks = marks; found = found }) (function r e) u 0
function_found true e b m inner marks found u slots free i h g k n l =
    let o : (j : ℕ) → 2 + (u + j) ≡ suc (suc (u + j)) = λ j. omega arith in
    let d : length b.marks.items + u + 2 ≡ suc (suc (length b.marks.items + u)) = omega arith in
    let one : (j : ℕ) → 2 + j ≡ suc (suc j) = λ j. omega arith in
    record {
      count = n;
      marks = function_marks e 2 u b.marks.items _ _ _ i h.marks (k ∙ ap (λ ls. marking b.marks.items ls) g)
          ∙ (λ j. joined b.marks.items (λ i. occurs e (o i j)));
      found = function_is_found e 2 (length b.marks.items + u) _ _ _ slots free _ _ i h.marks h.found h.needed g l
          ∙ (λ j. b.found.items ++ (all_found e (d j) ++ f.function_found e (length b.marks.items + u)
          (λ i. occurs e (one i j)) ∷ []));
      needed = refl;
      literals = h.literals;
    }
function_found false e b m inner marks found u slots free i h g k n l =
    let o : (j : ℕ) → 1 + (u + j) ≡ suc (u + j) = λ j. omega arith in
    let d : length b.marks.items + u + 1 ≡ suc (length b.marks.items + u) = omega arith in
    let one : (j : ℕ) → 1 + j ≡ suc j = λ j. omega arith in
    record {
      count = n;
      marks = function_marks e 1 u b.marks.items _ _ _ i h.marks (k ∙ ap (λ ls. marking b.marks.items ls) g)
          ∙ (λ j. joined b.marks.items (λ i. occurs e (o i j)));
      found = function_is_found e 1 (length b.marks.items + u) _ _ _ slots free _ _ i h.marks h.found h.needed g l
          ∙ (λ j. b.found.items ++ (all_found e (d j) ++ f.function_found e (length b.marks.items + u)
          (λ i. occurs e (one i j)) ∷ []));
      needed = refl;
      literals = h.literals;
    }
