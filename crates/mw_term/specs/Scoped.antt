-- Terms whose names are bound and whose levels are right.
use Rattle.std.specs.Prelude.{◌≡◌, Bool, true, false, List, ◌∷◌, Some, slice_get}
use Rattle.mw_term.specs.Terms.{Expression, num, truth, var, glob, fun, fix, app, bind, cond, pair, fst, snd, prim}
use Rattle.mw_term.specs.Terms.{bracket, escape, run, close, opened, lift, lift_b, done}
use Rattle.mw_term.specs.Typing.{TopLevel, let_item, kernel_item, out_of_scope}

-- With these top-level names, under these binders and at the level m, each variable is used at its binder's level, each
-- form and each name stands at its own, and no value was put for a variable. Of a name true means that it is in scope,
-- of a binder and of the term that it stands at level 1.
abbrev pub IsScoped : List Bool → List Bool → Bool → Expression → Type 0
IsScoped names g m (num n) = Unit {0}
IsScoped names g m (truth b) = Unit {0}
IsScoped names g m (var i) = slice_get g i ≡ Some m
IsScoped names g m (glob i) = (m ≡ false) × (slice_get names i ≡ Some true)
IsScoped names g m (fun e) = IsScoped names (m ∷ g) m e
IsScoped names g m (fix e) = IsScoped names (m ∷ m ∷ g) m e
IsScoped names g m (app f a) = IsScoped names g m f × IsScoped names g m a
IsScoped names g m (bind d e) = IsScoped names g m d × IsScoped names (m ∷ g) m e
IsScoped names g m (cond c a b) = IsScoped names g m c × IsScoped names g m a × IsScoped names g m b
IsScoped names g m (pair a b) = IsScoped names g m a × IsScoped names g m b
IsScoped names g m (fst e) = IsScoped names g m e
IsScoped names g m (snd e) = IsScoped names g m e
IsScoped names g m (prim p a b) = IsScoped names g m a × IsScoped names g m b
IsScoped names g m (bracket e) = (m ≡ false) × IsScoped names g true e
IsScoped names g m (escape e) = (m ≡ true) × IsScoped names g false e
IsScoped names g m (run k e) = (m ≡ false) × IsScoped names g false e
IsScoped names g m (close at e) = (m ≡ false) × IsScoped names g false e
IsScoped names g m (opened e) = (m ≡ false) × IsScoped names g false e
IsScoped names g m (lift e) = (m ≡ false) × IsScoped names g false e
IsScoped names g m (lift_b e) = (m ≡ false) × IsScoped names g false e
IsScoped names g m (done v) = ⊥

-- in scope
abbrev pub is_seen : TopLevel → Bool
is_seen (let_item e) = true
is_seen (kernel_item k) = true
is_seen out_of_scope = false
