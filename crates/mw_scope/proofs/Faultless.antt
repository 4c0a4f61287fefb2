-- A tree is a nameless expression exactly where it has no fault, and then it is the one that the walk builds.
use Rattle.std.proofs.Common.{◌≡◌, ℕ, List, [], ◌∷◌, ◌++◌, Option, Some, None, refl, ap, sym, ◌∙◌}
use Rattle.mw_term.specs.Terms.{Expression}
use Rattle.mw_term.specs.Terms as nameless
use Rattle.mw_grammar.specs.SurfaceTrees.{SurfaceTree, num, truth, used, fun, fix, app, bind, cond, pair, fst, snd}
use Rattle.mw_grammar.specs.SurfaceTrees.{prim, bracket, escape, run, close, opened, lift, lift_b}
use Rattle.mw_scope.specs.declared.level.Level.{Level}
use Rattle.mw_scope.specs.declared.level.Level.TheVariants.{Live, Quoted}
use Rattle.mw_scope.specs.declared.fault.Fault.{Fault}
use Rattle.mw_scope.specs.Scopes.{Binder, nearest, TopNames}
use Rattle.mw_scope.specs.Nameless.{Nameless, n_num, n_truth, n_var, n_glob, n_fun, n_fix, n_app, n_bind, n_cond}
use Rattle.mw_scope.specs.Nameless.{n_pair, n_fst, n_snd, n_prim, n_bracket, n_escape, n_run, n_close, n_open, n_lift}
use Rattle.mw_scope.specs.Nameless.{n_lift_b}
use Rattle.mw_scope.specs.Faults.{only_at, faults_of_use, faults_in}
use Rattle.mw_scope.specs.Named.{named_use, named}

pub no_cons : {A : Type 0} (f : Fault) (fs : List Fault) → f ∷ fs ≡ [] → A
no_cons f fs e = absurd (cc e)

pub empty_left : (fs gs : List Fault) → fs ++ gs ≡ [] → fs ≡ []
empty_left [] gs e = refl
empty_left (f ∷ fs) gs e = no_cons f (fs ++ gs) e

pub empty_right : (fs gs : List Fault) → fs ++ gs ≡ [] → gs ≡ []
empty_right [] gs e = e
empty_right (f ∷ fs) gs e = no_cons f (fs ++ gs) e

pub empty_both : {fs gs : List Fault} → fs ≡ [] → gs ≡ [] → fs ++ gs ≡ []
empty_both e h = rw (e, h) refl

same_level : (l m : Level) (at : ℕ) → only_at l m at ≡ [] → l ≡ m
same_level Live Live at e = refl
same_level Quoted Quoted at e = refl
same_level _ _ at e = no_cons _ _ e

at_own_level : (m : Level) (at : ℕ) → only_at m m at ≡ []
at_own_level Live at = refl
at_own_level Quoted at = refl

-- a tree without faults is what the walk builds
faultless_use : (tops : TopNames) (g : List Binder) (m : Level) (x : List ℕ) (at : ℕ) (o : Option (ℕ × Level))
    (i : Option ℕ) → nearest g x ≡ o → tops x ≡ i → faults_of_use o i m at ≡ []
    → Nameless tops g m (used x at) (named_use o i)
faultless_use tops g m x at (Some p) i e h f = n_var (e ∙ ap (λ l. Some (p.0, l)) (same_level p.1 m at f))
faultless_use tops g Live x at None (Some i) e h f = n_glob e h
faultless_use tops g Quoted x at None (Some i) e h f = no_cons _ _ f
faultless_use tops g m x at None None e h f = no_cons _ _ f

pub faultless : (tops : TopNames) (g : List Binder) (m : Level) (t : SurfaceTree) → faults_in tops g m t ≡ []
    → Nameless tops g m t (named tops g m t)
faultless tops g m (num n) e = n_num
faultless tops g m (truth b) e = n_truth
faultless tops g m (used x at) e = faultless_use tops g m x at (nearest g x) (tops x) refl refl e
faultless tops g m (fun x t) e = n_fun (faultless tops _ m t e)
faultless tops g m (fix f x t) e = n_fix (faultless tops _ m t e)
faultless tops g m (app s t) e = n_app (faultless tops g m s (empty_left _ _ e))
    (faultless tops g m t (empty_right (faults_in tops g m s) _ e))
faultless tops g m (bind x s t) e = n_bind (faultless tops g m s (empty_left _ _ e))
    (faultless tops _ m t (empty_right (faults_in tops g m s) _ e))
faultless tops g m (cond r s t) e =
    let more : faults_in tops g m s ++ faults_in tops g m t ≡ [] = empty_right (faults_in tops g m r) _ e in
    n_cond (faultless tops g m r (empty_left _ _ e)) (faultless tops g m s (empty_left _ _ more))
    (faultless tops g m t (empty_right (faults_in tops g m s) _ more))
faultless tops g m (pair s t) e = n_pair (faultless tops g m s (empty_left _ _ e))
    (faultless tops g m t (empty_right (faults_in tops g m s) _ e))
faultless tops g m (fst t) e = n_fst (faultless tops g m t e)
faultless tops g m (snd t) e = n_snd (faultless tops g m t e)
faultless tops g m (prim p s t) e = n_prim (faultless tops g m s (empty_left _ _ e))
    (faultless tops g m t (empty_right (faults_in tops g m s) _ e))
faultless tops g Live (bracket at t) e = n_bracket (faultless tops g Quoted t e)
faultless tops g Quoted (escape at t) e = n_escape (faultless tops g Live t e)
faultless tops g Live (run at k t) e = n_run (faultless tops g Live t e)
faultless tops g Live (close at t) e = n_close (faultless tops g Live t e)
faultless tops g Live (opened at t) e = n_open (faultless tops g Live t e)
faultless tops g Live (lift at t) e = n_lift (faultless tops g Live t e)
faultless tops g Live (lift_b at t) e = n_lift_b (faultless tops g Live t e)
faultless tops g _ _ e = no_cons _ _ e

-- a tree that is some expression has no fault
pub has_no_fault : {tops : TopNames} {g : List Binder} {m : Level} {t : SurfaceTree} {e : Expression}
    → Nameless tops g m t e → faults_in tops g m t ≡ []
has_no_fault n_num = refl
has_no_fault n_truth = refl
has_no_fault {tops = tops} {m = m} (n_var {x = x} {at = at} h) = ap (λ o. faults_of_use o (tops x) m at) h
    ∙ at_own_level m at
has_no_fault {tops = tops} (n_glob {x = x} {at = at} h i) = ap (λ o. faults_of_use o (tops x) Live at) h
    ∙ ap (λ o. faults_of_use None o Live at) i
has_no_fault (n_fun d) = has_no_fault d
has_no_fault (n_fix d) = has_no_fault d
has_no_fault (n_app c d) = empty_both (has_no_fault c) (has_no_fault d)
has_no_fault (n_bind c d) = empty_both (has_no_fault c) (has_no_fault d)
has_no_fault (n_cond b c d) = empty_both (has_no_fault b) (empty_both (has_no_fault c) (has_no_fault d))
has_no_fault (n_pair c d) = empty_both (has_no_fault c) (has_no_fault d)
has_no_fault (n_fst d) = has_no_fault d
has_no_fault (n_snd d) = has_no_fault d
has_no_fault (n_prim c d) = empty_both (has_no_fault c) (has_no_fault d)
has_no_fault (n_bracket d) = has_no_fault d
has_no_fault (n_escape d) = has_no_fault d
has_no_fault (n_run d) = has_no_fault d
has_no_fault (n_close d) = has_no_fault d
has_no_fault (n_open d) = has_no_fault d
has_no_fault (n_lift d) = has_no_fault d
has_no_fault (n_lift_b d) = has_no_fault d

-- the expression that a tree is, is what the walk builds
pub is_named : {tops : TopNames} {g : List Binder} {m : Level} {t : SurfaceTree} {e : Expression}
    → Nameless tops g m t e → e ≡ named tops g m t
is_named n_num = refl
is_named n_truth = refl
is_named {tops = tops} (n_var {x = x} h) = sym (ap (λ o. named_use o (tops x)) h)
is_named {tops = tops} (n_glob {x = x} h i) = sym (ap (λ o. named_use o (tops x)) h ∙ ap (λ o. named_use None o) i)
is_named (n_fun d) = ap nameless.fun (is_named d)
is_named (n_fix d) = ap nameless.fix (is_named d)
is_named (n_app c d) = rw (is_named c, is_named d) refl
is_named (n_bind c d) = rw (is_named c, is_named d) refl
is_named (n_cond b c d) = rw (is_named b, is_named c, is_named d) refl
is_named (n_pair c d) = rw (is_named c, is_named d) refl
is_named (n_fst d) = ap nameless.fst (is_named d)
is_named (n_snd d) = ap nameless.snd (is_named d)
is_named (n_prim c d) = rw (is_named c, is_named d) refl
is_named (n_bracket d) = ap nameless.bracket (is_named d)
is_named (n_escape d) = ap nameless.escape (is_named d)
is_named (n_run {k = k} d) = ap (λ e. nameless.run k e) (is_named d)
is_named (n_close {at = at} d) = ap (λ e. nameless.close at e) (is_named d)
is_named (n_open d) = ap nameless.opened (is_named d)
is_named (n_lift d) = ap nameless.lift (is_named d)
is_named (n_lift_b d) = ap nameless.lift_b (is_named d)
