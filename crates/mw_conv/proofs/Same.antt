-- The code of a term asks its context only for the variables that occur.
use Rattle.std.proofs.Common.{◌≡◌, ℕ, zero, suc, ◌+◌, Bool, true, List, [], ◌∷◌, Some, map, refl, ap}
use Rattle.std.specs.Prelude.{slice_get, ◌||◌}
use Rattle.std.proofs.lemmas.Bool.{eq-eqb}
use Rattle.mw_term.specs.Terms as x
use Rattle.mw_term.specs.Terms.{Expression}
use Rattle.mw_meaning.specs.KernelMeaning.{occurs}
use Rattle.mw_ir.specs.declared.place.Place.{Place}
use Rattle.mw_ir.specs.declared.place.Place.TheVariants.{Slot}
use Rattle.mw_ir.specs.Ir.{get, closure}
use Rattle.mw_conv.specs.Convert.{here, free_list, fun_free, fix_free, funs, code}
use Rattle.mw_conv.proofs.Free.{free_list_each}
use Rattle.mw_meaning.proofs.Replacement.{or_left, or_right}

map_same : (f g : ℕ → Place) (is : List ℕ) → ((j i : ℕ) → slice_get is j ≡ Some i → f i ≡ g i) → map f is ≡ map g is
map_same f g [] h = refl
map_same f g (i ∷ is) h = rw (h 0 i refl, map_same f g is (λ j i e. h (suc j) i e)) refl

free_same : (f g : ℕ → Place) (d : ℕ) (p : ℕ → Bool) → ((i : ℕ) → p i ≡ true → f i ≡ g i) → map f (free_list d p)
    ≡ map g (free_list d p)
free_same f g d p h = map_same f g (free_list d p) (λ j i e. h i (free_list_each d p j i e).1)

here_same : (f g : ℕ → Place) (p : Place) (q : ℕ → Bool) → ((i : ℕ) → q (suc i) ≡ true → f i ≡ g i) → (i : ℕ)
    → q i ≡ true → here p f i ≡ here p g i
here_same f g p q h zero o = refl
here_same f g p q h (suc i) o = h i o

-- what holds wherever one of two parts does
in_left : {P : ℕ → Type 0} (p q : ℕ → Bool) → ((i : ℕ) → p i || q i ≡ true → P i) → (i : ℕ) → p i ≡ true → P i
in_left p q h i o = h i (or_left (p i) (q i) o)

in_right : {P : ℕ → Type 0} (p q : ℕ → Bool) → ((i : ℕ) → p i || q i ≡ true → P i) → (i : ℕ) → q i ≡ true → P i
in_right p q h i o = h i (or_right (p i) (q i) o)

pub code_same : (e : Expression) (k d s : ℕ) (f g : ℕ → Place) → ((i : ℕ) → occurs e i ≡ true → f i ≡ g i)
    → code e k d s f ≡ code e k d s g
code_same (x.var j) k d s f g h = ap get (h j (eq-eqb j j refl))
code_same (x.fun e) k d s f g h = ap (λ ps. closure k ps) (free_same f g d (fun_free e) h)
code_same (x.fix e) k d s f g h = ap (λ ps. closure k ps) (free_same f g d (fix_free e) h)
code_same (x.app c a) k d s f g h =
    rw (code_same c k d s f g (in_left (occurs c) _ h), code_same a (k + funs c) d s f g (in_right (occurs c) _ h))
code_same (x.bind c a) k d s f g h =
    rw (
      code_same c k d s f g (in_left (occurs c) _ h),
      code_same a (k + funs c) (suc d) (suc s) (here (Slot s) f) (here (Slot s) g)
          (here_same f g (Slot s) (occurs a) (in_right (occurs c) _ h)),
    )
code_same (x.cond c a b) k d s f g h =
    let r = in_right (occurs c) (λ i. occurs a i || occurs b i) h in
    rw (
      code_same c k d s f g (in_left (occurs c) _ h),
      code_same a (k + funs c) d s f g (in_left (occurs a) _ r),
      code_same b (k + funs c + funs a) d s f g (in_right (occurs a) _ r),
    )
code_same (x.pair c a) k d s f g h =
    rw (code_same c k d s f g (in_left (occurs c) _ h), code_same a (k + funs c) d s f g (in_right (occurs c) _ h))
code_same (x.fst e) k d s f g h = rw (code_same e k d s f g h)
code_same (x.snd e) k d s f g h = rw (code_same e k d s f g h)
code_same (x.prim p c a) k d s f g h =
    rw (code_same c k d s f g (in_left (occurs c) _ h), code_same a (k + funs c) d s f g (in_right (occurs c) _ h))
code_same _ k d s f g h = refl
