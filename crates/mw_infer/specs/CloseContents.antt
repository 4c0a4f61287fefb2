-- The codes that a term's closes close, and which binders are named in them.
use Rattle.std.specs.Prelude.{ℕ, suc, Bool, false, ◌||◌, ◌==◌, List, [], ◌∷◌, ◌++◌}
use Rattle.mw_term.specs.Terms.{Expression, var, fun, fix, app, bind, cond, pair, fst, snd, prim}
use Rattle.mw_term.specs.Terms.{bracket, escape, run, close, opened, lift, lift_b}

-- whether the binder with so many binders between is named in a term, at either level
abbrev pub occurs_in : ℕ → Expression → Bool
occurs_in n (var i) = i == n
occurs_in n (fun e) = occurs_in (suc n) e
occurs_in n (fix e) = occurs_in (suc (suc n)) e
occurs_in n (app f a) = occurs_in n f || occurs_in n a
occurs_in n (bind d e) = occurs_in n d || occurs_in (suc n) e
occurs_in n (cond c a b) = occurs_in n c || (occurs_in n a || occurs_in n b)
occurs_in n (pair a b) = occurs_in n a || occurs_in n b
occurs_in n (fst e) = occurs_in n e
occurs_in n (snd e) = occurs_in n e
occurs_in n (prim p a b) = occurs_in n a || occurs_in n b
occurs_in n (bracket e) = occurs_in n e
occurs_in n (escape e) = occurs_in n e
occurs_in n (run k e) = occurs_in n e
occurs_in n (close at e) = occurs_in n e
occurs_in n (opened e) = occurs_in n e
occurs_in n (lift e) = occurs_in n e
occurs_in n (lift_b e) = occurs_in n e
occurs_in n _ = false

-- what the closes of a term close, in pre-order, as `closes` has the closes
abbrev pub close_contents : Expression → List Expression
close_contents (fun e) = close_contents e
close_contents (fix e) = close_contents e
close_contents (app f a) = close_contents f ++ close_contents a
close_contents (bind d e) = close_contents d ++ close_contents e
close_contents (cond c a b) = (close_contents c ++ close_contents a) ++ close_contents b
close_contents (pair a b) = close_contents a ++ close_contents b
close_contents (fst e) = close_contents e
close_contents (snd e) = close_contents e
close_contents (prim p a b) = close_contents a ++ close_contents b
close_contents (bracket e) = close_contents e
close_contents (escape e) = close_contents e
close_contents (run k e) = close_contents e
close_contents (close at e) = e ∷ close_contents e
close_contents (opened e) = close_contents e
close_contents (lift e) = close_contents e
close_contents (lift_b e) = close_contents e
close_contents _ = []
