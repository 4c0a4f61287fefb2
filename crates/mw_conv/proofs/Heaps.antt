-- A heap that grows.
use Rattle.std.proofs.Common.{◌≡◌, ℕ, zero, suc, ◌+◌, List, [], ◌∷◌, ◌++◌, length, Option, Some, None, refl, ap, ◌∙◌}
use Rattle.std.proofs.Common.{sym, arith}
use Rattle.std.specs.Prelude.{ℤ, pos, negsuc, slice_get, ◌*◌, ◌/◌, ◌%◌, map}
use Rattle.mw_term.specs.Terms.{KernelValue}
use Rattle.mw_ir.specs.declared.place.Place.{Place}
use Rattle.mw_ir.specs.declared.place.Place.TheVariants.{Free}
use Rattle.mw_ir.specs.Ir.{IrFunc, Frame, aligned, load, load_own, read, read_all}
use Rattle.mw_conv.specs.Represents.{Has, Grows, Stands, s_int, s_bool, s_both, s_function, s_recursive}

pub grows_same : (h : List ℤ) → Grows h h
grows_same h k w e = e

pub grows_on : (h h' h'' : List ℤ) → Grows h h' → Grows h' h'' → Grows h h''
grows_on h h' h'' g g' k w e = g' k w (g k w e)

pub get_append : {A : Type 0} → (h us : List A) (k : ℕ) (w : A) → slice_get h k ≡ Some w → slice_get (h ++ us) k
    ≡ Some w
get_append [] us k w e = absurd (cc)
get_append (x ∷ h) us zero w e = e
get_append (x ∷ h) us (suc k) w e = get_append h us k w e

pub grows_append : (h us : List ℤ) → Grows h (h ++ us)
grows_append h us = get_append h us

pub get_appended : {A : Type 0} → (h us : List A) (j : ℕ) → slice_get (h ++ us) (length h + j) ≡ slice_get us j
get_appended [] us j = let e : 0 + j ≡ j = omega arith in rw e refl
get_appended (x ∷ h) us j = let e : suc (length h) + j ≡ suc (length h + j) = omega arith in rw e (get_appended h us j)

aligned_grows : (r : ℕ) (a b : Option ℤ) (w : ℤ) → (a ≡ Some w → b ≡ Some w) → aligned r a ≡ Some w → aligned r b
    ≡ Some w
aligned_grows zero a b w h e = h e
aligned_grows (suc r) a b w h e = absurd (cc)

pub load_grows : (h h' : List ℤ) → Grows h h' → (w : ℤ) (j : ℕ) (a : ℤ) → load h w j ≡ Some a → load h' w j ≡ Some a
load_grows h h' g (pos n) j a e = aligned_grows (n % 8) _ _ a (g (n / 8 + j) a) e
load_grows h h' g (negsuc n) j a e = absurd (cc)

-- the words just allocated
pub load_new : (h us : List ℤ) (j : ℕ) → load (h ++ us) (pos (8 * length h)) j ≡ slice_get us j
load_new h us j =
    let m : (8 * length h) % 8 ≡ 0 = omega arith in
    let q : (8 * length h) / 8 ≡ length h = omega arith in
    rw (m, q) (get_appended h us j)

own_grows : (h h' : List ℤ) → Grows h h' → (o : Option ℤ) (j : ℕ) (a : ℤ) → load_own h o j ≡ Some a → load_own h' o j
    ≡ Some a
own_grows h h' g None j a e = absurd (cc)
own_grows h h' g (Some w) j a e = load_grows h h' g w j a e

pub read_grows : (h h' : List ℤ) → Grows h h' → (fr : Frame) (p : Place) (a : ℤ) → read h fr p ≡ Some a → read h' fr p
    ≡ Some a
read_grows h h' g fr (Free j) a e = own_grows h h' g fr.own (suc j) a e
read_grows h h' g fr _ a e = e

pub stands_grows : (t : List IrFunc) (h h' : List ℤ) → Grows h h' → (v : KernelValue) (w : ℤ) → Stands t h v w
    → Stands t h' v w
stands_grows t h h' g v w (s_int n) = s_int n
stands_grows t h h' g v w (s_bool b c e) = s_bool b c e
stands_grows t h h' g v w (s_both x y c a b la lb sa sb) = s_both x y c a b (load_grows h h' g c 0 a la)
    (load_grows h h' g c 1 b lb) (stands_grows t h h' g x a sa) (stands_grows t h h' g y b sb)
stands_grows t h h' g v w (s_function c i e env body words eb l has at st) = s_function c i e env body words eb
    (load_grows h h' g c 0 (pos i) l) has (λ j v o s. load_grows h h' g c _ (words j) (at j v o s))
    (λ j v o s. stands_grows t h h' g v (words j) (st j v o s))
stands_grows t h h' g v w (s_recursive c i e env body words eb l has at st) = s_recursive c i e env body words eb
    (load_grows h h' g c 0 (pos i) l) has (λ j v o s. load_grows h h' g c _ (words j) (at j v o s))
    (λ j v o s. stands_grows t h h' g v (words j) (st j v o s))

-- the places of a list of variables, read
pub record AllRead (h : List ℤ) (fr : Frame) (ctx : ℕ → Place) (is : List ℕ) : Type 0 where
  pub words : List ℤ
  pub all : read_all h fr (map ctx is) ≡ Some words
  pub as_many : length words ≡ length is
  pub each : (j i : ℕ) → slice_get is j ≡ Some i → slice_get words j ≡ read h fr (ctx i)

pub read_list : (h : List ℤ) (fr : Frame) (ctx : ℕ → Place) (is : List ℕ)
    → ((j i : ℕ) → slice_get is j ≡ Some i → (w : ℤ) × (read h fr (ctx i) ≡ Some w)) → AllRead h fr ctx is
read_list h fr ctx [] f = record { words = []; all = refl; as_many = refl; each = λ j i e. absurd (cc) }
read_list h fr ctx (i ∷ is) f =
    let r = read_list h fr ctx is (λ j k e. f (suc j) k e) in
    let w = f 0 i refl in
    record {
      words = w.0 ∷ r.words;
      all = rw (w.1, r.all) refl;
      as_many = ap suc r.as_many;
      each = λ j k e.
          (elim j as (λ j. slice_get (i ∷ is) j ≡ Some k → slice_get (w.0 ∷ r.words) j ≡ read h fr (ctx k))
          [ zero ↦ λ e. let g : i ≡ k = (cc) in sym w.1 ∙ ap (λ x. read h fr (ctx x)) g | suc j ↦ λ e. r.each j k e ])
          e;
    }

-- functions that stand one after the other
pub has_front : (t : List IrFunc) (k : ℕ) (fs gs : List IrFunc) → Has t k (fs ++ gs) → Has t k fs
has_front t k [] gs h = tt
has_front t k (f ∷ fs) gs h = (h.0, has_front t (suc k) fs gs h.1)

pub has_back : (t : List IrFunc) (k : ℕ) (fs gs : List IrFunc) → Has t k (fs ++ gs) → Has t (k + length fs) gs
has_back t k [] gs h = let e : k + 0 ≡ k = omega arith in rw e h
has_back t k (f ∷ fs) gs h = let e : k + suc (length fs) ≡ suc k + length fs = omega arith in
    rw e (has_back t (suc k) fs gs h.1)
