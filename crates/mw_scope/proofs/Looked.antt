-- What the walk finds by numbers is what the lists of binders say.
use Rattle.std.proofs.Common.{◌≡◌, ℕ, suc, ◌-◌, ◌<◌, Bool, true, false, cond, List, [], ◌∷◌, ◌++◌, length, Option, Some}
use Rattle.std.proofs.Common.{None, refl, ap, sym, ◌∙◌, arith}
use mathlib.Core.Path.{fun_ext}
use Rattle.std.specs.Option.{option_map}
use Rattle.std.specs.Str.{bytes_eq}
use Rattle.std.proofs.lemmas.Slice.Eq.{bytes_eq-Decides}
use Rattle.std.proofs.lemmas.Option.{same_Some, none-some}
use Rattle.mw_term.specs.Terms as nameless
use Rattle.mw_grammar.specs.SurfaceTrees.{SurfaceTree, num, truth, used, fun, fix, app, bind, cond as cond_tree, pair}
use Rattle.mw_grammar.specs.SurfaceTrees.{fst, snd, prim, bracket, escape, run, close, opened, lift, lift_b}
use Rattle.mw_scope.specs.declared.level.Level.{Level}
use Rattle.mw_scope.specs.declared.level.Level.TheVariants.{Live, Quoted}
use Rattle.mw_scope.specs.Scopes.{Binder, nearest, TopNames}
use Rattle.mw_scope.specs.Faults.{faults_of_use, faults_in, only_live, only_quoted}
use Rattle.mw_scope.specs.Named.{named_use, named}
use Rattle.mw_scope.specs.declared.binders.Binders.{Binders}
use Rattle.mw_scope.specs.Views.{binder_at, SameBinders}
use Rattle.mw_scope.specs.Looking.{Look, rebound, numbered, use_by, named_by, faults_by}

-- a number from the outermost binder on, counted from the nearest one of n
abbrev from_nearest : ℕ → Option (ℕ × Level) → Option (ℕ × Level)
from_nearest n o = option_map (λ p. (n - p.0 - 1, p.1)) o

-- where numbers are below n, there is one place more from the nearest of one binder more
record AreBelow (n : ℕ) (o : Option (ℕ × Level)) : Type 0 where
  are : (p : ℕ × Level) → o ≡ Some p → p.0 < n

one_more : (n : ℕ) (o : Option (ℕ × Level)) → AreBelow n o → option_map (λ p. (suc p.0, p.1)) (from_nearest n o)
    ≡ from_nearest (suc n) o
one_more n None h = refl
one_more n (Some p) h = let less : p.0 < n = h.are p refl in let e : suc (n - p.0 - 1) ≡ suc n - p.0 - 1 =
    omega (arith, less) in ap (λ i. Some (i, p.1)) e

below_all : (g : List Binder) (x : List ℕ) → AreBelow (length g) (numbered g x)
below_all [] x = record { are = λ p e. absurd (none-some p e) }
below_all (b ∷ g) x =
    let rest = below_all g x in
    let P : Bool → Type 0 = λ t. AreBelow (suc (length g)) (cond t (Some (length g, b.level)) (numbered g x)) in
    let by : (t : Bool) → P t = λ t. elim t as P [
      | true ↦ record {
        are = λ p e. let same : length g ≡ p.0 = ap (λ q. q.0) (same_Some _ _ e) in
            omega (arith, same);
      }
      | false ↦ record { are = λ p e. omega (arith, rest.are p e) }
    ] in by (bytes_eq x b.name)

pub nearest-numbered : (g : List Binder) (x : List ℕ) → nearest g x ≡ from_nearest (length g) (numbered g x)
nearest-numbered [] x = refl
nearest-numbered (b ∷ g) x =
    let place : 0 ≡ suc (length g) - length g - 1 = omega arith in
    let rest : option_map (λ p. (suc p.0, p.1)) (nearest g x) ≡ from_nearest (suc (length g)) (numbered g x) =
    ap (λ o. option_map (λ p. (suc p.0, p.1)) o) (nearest-numbered g x) ∙ one_more (length g) (numbered g x)
    (below_all g x) in
    let P : Bool → Type 0 = λ t. cond t (Some (0, b.level)) (option_map (λ p. (suc p.0, p.1)) (nearest g x))
    ≡ from_nearest (suc (length g)) (cond t (Some (length g, b.level)) (numbered g x)) in
    let by : (t : Bool) → P t = λ t. elim t as P [ true ↦ ap (λ i. Some (i, b.level)) place | false ↦ rest ] in
    by (bytes_eq x b.name)

use_is : (n : ℕ) (o : Option (ℕ × Level)) (top : Option ℕ) → use_by n o top ≡ named_use (from_nearest n o) top
use_is n (Some p) top = refl
use_is n None (Some i) = refl
use_is n None None = refl

faults_are : (n : ℕ) (o : Option (ℕ × Level)) (top : Option ℕ) (m : Level) (at : ℕ) → faults_of_use o top m at
    ≡ faults_of_use (from_nearest n o) top m at
faults_are n (Some p) top m at = refl
faults_are n None top m at = refl

pub named_by-is : (tops : TopNames) (g : List Binder) (m : Level) (t : SurfaceTree)
    → named_by tops (numbered g) (length g) m t ≡ named tops g m t
named_by-is tops g m (num i) = refl
named_by-is tops g m (truth b) = refl
named_by-is tops g m (used x at) = use_is (length g) (numbered g x) (tops x) ∙ ap (λ o. named_use o (tops x))
    (sym (nearest-numbered g x))
named_by-is tops g m (fun x e) = ap nameless.fun (named_by-is tops (record { name = x; level = m } ∷ g) m e)
named_by-is tops g m (fix f x e) =
    ap nameless.fix (named_by-is tops (record { name = x; level = m } ∷ record { name = f; level = m } ∷ g) m e)
named_by-is tops g m (app f a) = rw (named_by-is tops g m f, named_by-is tops g m a) refl
named_by-is tops g m (bind x d e) =
    let inside : List Binder = record { name = x; level = m } ∷ g in
    let body : named_by tops (rebound (numbered g) x (Some (length g, m))) (suc (length g)) m e
    ≡ named tops inside m e = named_by-is tops inside m e in
    rw (named_by-is tops g m d, body) refl
named_by-is tops g m (cond_tree c a b) = rw (named_by-is tops g m c, named_by-is tops g m a, named_by-is tops g m b)
    refl
named_by-is tops g m (pair a b) = rw (named_by-is tops g m a, named_by-is tops g m b) refl
named_by-is tops g m (fst e) = ap nameless.fst (named_by-is tops g m e)
named_by-is tops g m (snd e) = ap nameless.snd (named_by-is tops g m e)
named_by-is tops g m (prim p a b) = rw (named_by-is tops g m a, named_by-is tops g m b) refl
named_by-is tops g m (bracket at e) = ap nameless.bracket (named_by-is tops g Quoted e)
named_by-is tops g m (escape at e) = ap nameless.escape (named_by-is tops g Live e)
named_by-is tops g m (run at k e) = ap (λ a. nameless.run k a) (named_by-is tops g m e)
named_by-is tops g m (close at e) = ap (λ a. nameless.close at a) (named_by-is tops g m e)
named_by-is tops g m (opened at e) = ap nameless.opened (named_by-is tops g m e)
named_by-is tops g m (lift at e) = ap nameless.lift (named_by-is tops g m e)
named_by-is tops g m (lift_b at e) = ap nameless.lift_b (named_by-is tops g m e)

pub faults_by-is : (tops : TopNames) (g : List Binder) (m : Level) (t : SurfaceTree)
    → faults_by tops (numbered g) (length g) m t ≡ faults_in tops g m t
faults_by-is tops g m (num i) = refl
faults_by-is tops g m (truth b) = refl
faults_by-is tops g m (used x at) = faults_are (length g) (numbered g x) (tops x) m at
    ∙ ap (λ o. faults_of_use o (tops x) m at) (sym (nearest-numbered g x))
faults_by-is tops g m (fun x e) = faults_by-is tops (record { name = x; level = m } ∷ g) m e
faults_by-is tops g m (fix f x e) =
    faults_by-is tops (record { name = x; level = m } ∷ record { name = f; level = m } ∷ g) m e
faults_by-is tops g m (app f a) = rw (faults_by-is tops g m f, faults_by-is tops g m a) refl
faults_by-is tops g m (bind x d e) =
    let inside : List Binder = record { name = x; level = m } ∷ g in
    let body : faults_by tops (rebound (numbered g) x (Some (length g, m))) (suc (length g)) m e ≡ faults_in tops inside
    m e = faults_by-is tops inside m e in
    rw (faults_by-is tops g m d, body) refl
faults_by-is tops g m (cond_tree c a b) = rw (faults_by-is tops g m c, faults_by-is tops g m a, faults_by-is tops g m b)
    refl
faults_by-is tops g m (pair a b) = rw (faults_by-is tops g m a, faults_by-is tops g m b) refl
faults_by-is tops g m (fst e) = faults_by-is tops g m e
faults_by-is tops g m (snd e) = faults_by-is tops g m e
faults_by-is tops g m (prim p a b) = rw (faults_by-is tops g m a, faults_by-is tops g m b) refl
faults_by-is tops g m (bracket at e) = ap (λ a. only_live m at ++ a) (faults_by-is tops g Quoted e)
faults_by-is tops g m (escape at e) = ap (λ a. only_quoted m at ++ a) (faults_by-is tops g Live e)
faults_by-is tops g m (run at k e) = ap (λ a. only_live m at ++ a) (faults_by-is tops g m e)
faults_by-is tops g m (close at e) = ap (λ a. only_live m at ++ a) (faults_by-is tops g m e)
faults_by-is tops g m (opened at e) = ap (λ a. only_live m at ++ a) (faults_by-is tops g m e)
faults_by-is tops g m (lift at e) = ap (λ a. only_live m at ++ a) (faults_by-is tops g m e)
faults_by-is tops g m (lift_b at e) = ap (λ a. only_live m at ++ a) (faults_by-is tops g m e)

-- a name that stood for another binder and stands for the first again
pub restored : (look inside after last : Look) (x : List ℕ) (bound hidden : Option (ℕ × Level)) → hidden ≡ look x
    → inside ≡ rebound look x bound → after ≡ inside → last ≡ rebound after x hidden → last ≡ look
restored look inside after last x bound hidden was entered kept left =
    let at : (y : List ℕ) → rebound (rebound look x bound) x (look x) y ≡ look y = λ y.
    let P : Bool → Type 0 = λ t. bytes_eq y x ≡ t → cond t (look x) (cond t bound (look y)) ≡ look y in
    let by : (t : Bool) → P t = λ t. elim t as P [
      | true ↦ λ e. ap look (sym ((bytes_eq-Decides y x).0 e))
      | false ↦ λ e.
          refl
    ] in by (bytes_eq y x) refl
    in
    left ∙ ap (λ l. rebound l x hidden) (kept ∙ entered) ∙ ap (λ h. rebound (rebound look x bound) x h) was ∙ fun_ext at

pub same_then : {one two three : Binders} → SameBinders one two → SameBinders two three → SameBinders one three
same_then a b = record { bound = b.bound ∙ a.bound; count = b.count ∙ a.count }

one_less : (m n k l : ℕ) → k ≡ suc m → l ≡ k → suc n ≡ l → n ≡ m
one_less m n k l a b e = omega (arith, a, b, e)

-- a binder that was added and taken away again
pub restored_binders : {was inside after last : Binders} (x : List ℕ) (bound hidden : Option (ℕ × Level))
    → hidden ≡ binder_at was x → binder_at inside ≡ rebound (binder_at was) x bound → inside.count ≡ suc was.count
    → SameBinders inside after → binder_at last ≡ rebound (binder_at after) x hidden → suc last.count ≡ after.count
    → SameBinders was last
restored_binders {was} {inside} {after} {last} x bound hidden hid entered more same left less = record {
  bound = restored (binder_at was) (binder_at inside) (binder_at after) (binder_at last) x bound hidden hid entered
      same.bound left;
  count = one_less was.count last.count inside.count after.count more same.count less;
}

-- outside all binders
none_bound : (binders : Binders) → ((x : List ℕ) → binder_at binders x ≡ None) → binder_at binders ≡ numbered []
none_bound binders h = fun_ext h

pub outer_named : (tops : TopNames) (binders : Binders) (t : SurfaceTree) → ((x : List ℕ) → binder_at binders x ≡ None)
    → binders.count ≡ 0 → named_by tops (binder_at binders) binders.count Live t ≡ named tops [] Live t
outer_named tops binders t none count = ap (λ look. named_by tops look binders.count Live t) (none_bound binders none)
    ∙ ap (λ n. named_by tops (numbered []) n Live t) count ∙ named_by-is tops [] Live t

pub outer_faults : (tops : TopNames) (binders : Binders) (t : SurfaceTree) → ((x : List ℕ) → binder_at binders x ≡ None)
    → binders.count ≡ 0 → faults_by tops (binder_at binders) binders.count Live t ≡ faults_in tops [] Live t
outer_faults tops binders t none count = ap (λ look. faults_by tops look binders.count Live t) (none_bound binders none)
    ∙ ap (λ n. faults_by tops (numbered []) n Live t) count ∙ faults_by-is tops [] Live t
