-- Conversion from another number on moves the functions' numbers alone.
use Rattle.std.proofs.Common.{◌≡◌, ℕ, suc, ◌+◌, refl, ap, ◌∙◌, arith, map}
use Rattle.std.proofs.lemmas.List.{map-append}
use Rattle.mw_term.specs.Terms as x
use Rattle.mw_term.specs.Terms.{Expression}
use Rattle.mw_ir.specs.declared.place.Place.{Place}
use Rattle.mw_ir.specs.declared.place.Place.TheVariants.{Argument}
use Rattle.mw_conv.specs.Convert.{fun_places, fix_places, lets, code, functions}
use Rattle.mw_gen.specs.Generate.{init_function, restarting}
use Rattle.mw_gen.specs.Parts.{moved, moved_function}
use Rattle.mw_link.specs.Moved.{MovedIsNumbered}

further : (o k n : ℕ) → o + (k + n) ≡ o + k + n
further o k n = omega arith

code_moved : (o : ℕ) (e : Expression) (k d s : ℕ) (ctx : ℕ → Place)
    → moved o (code e k d s ctx) ≡ code e (o + k) d s ctx
code_moved o (x.app f a) k d s ctx = simp (code_moved o f, code_moved o a, further)
code_moved o (x.bind a e) k d s ctx = simp (code_moved o a, code_moved o e, further)
code_moved o (x.cond c a b) k d s ctx = simp (code_moved o c, code_moved o a, code_moved o b, further)
code_moved o (x.pair f a) k d s ctx = simp (code_moved o f, code_moved o a, further)
code_moved o (x.fst e) k d s ctx = rw (code_moved o e k d s ctx)
code_moved o (x.snd e) k d s ctx = rw (code_moved o e k d s ctx)
code_moved o (x.prim p f a) k d s ctx = simp (code_moved o f, code_moved o a, further)
code_moved o _ k d s ctx = refl

functions_moved : (o : ℕ) (e : Expression) (k d : ℕ) → map (moved_function o) (functions e k d) ≡ functions e (o + k) d
functions_moved o (x.fun e) k d =
    let q : o + suc k ≡ suc (o + k) = omega arith in
    rw (code_moved o e (suc k) (suc d) 0 (fun_places e d), functions_moved o e (suc k) (suc d), q)
functions_moved o (x.fix e) k d =
    let q : o + suc k ≡ suc (o + k) = omega arith in
    rw (code_moved o e (suc k) (suc (suc d)) 0 (fix_places e d), functions_moved o e (suc k) (suc (suc d)), q)
functions_moved o (x.app f a) k d = simp (map-append, functions_moved o f, functions_moved o a, further)
functions_moved o (x.bind f a) k d = simp (map-append, functions_moved o f, functions_moved o a, further)
functions_moved o (x.cond c a b) k d =
    simp (map-append, functions_moved o c, functions_moved o a, functions_moved o b, further)
functions_moved o (x.pair f a) k d = simp (map-append, functions_moved o f, functions_moved o a, further)
functions_moved o (x.fst e) k d = functions_moved o e k d
functions_moved o (x.snd e) k d = functions_moved o e k d
functions_moved o (x.prim p f a) k d = simp (map-append, functions_moved o f, functions_moved o a, further)
functions_moved o _ k d = refl

pub moved_is_numbered : MovedIsNumbered
moved_is_numbered c o =
    let q : o + 0 ≡ o = omega arith in (
      functions_moved o c 0 0 ∙ ap (λ k. functions c k 0) q,
      ap (λ e. restarting (init_function (lets c) e))
          (code_moved o c 0 0 0 (λ i. Argument) ∙ ap (λ k. code c k 0 0 (λ i. Argument)) q),
    )
