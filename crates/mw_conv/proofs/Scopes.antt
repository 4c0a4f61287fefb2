-- Where the variables of a term are, as the term is taken apart.
use Rattle.std.proofs.Common.{◌≡◌, ℕ, zero, suc, ◌+◌, Bool, true, List, [], ◌∷◌, ◌++◌, length, Some, None, refl}
use Rattle.std.proofs.Common.{ap, subst, arith, length-append}
use Rattle.std.specs.Prelude.{ℤ, slice_get, ◌||◌}
use Rattle.std.proofs.lemmas.Option.{slice_get_past}
use Rattle.mw_term.specs.Terms as x
use Rattle.mw_term.specs.Terms.{Expression, KernelTerm, KernelValue, done, var}
use Rattle.mw_meaning.proofs.Replacement.{or_left, or_right}
use Rattle.mw_conv.specs.Environments.{pick_all}
use Rattle.mw_ir.specs.declared.place.Place.{Place}
use Rattle.mw_ir.specs.declared.place.Place.TheVariants.{Slot}
use Rattle.mw_ir.specs.Ir.{IrFunc, Frame, with_slot, read}
use Rattle.mw_conv.specs.Convert.{here, funs, functions}
use Rattle.mw_conv.specs.Represents.{Has, Grows, Stands}
use Rattle.mw_conv.proofs.Heaps.{read_grows, stands_grows, get_appended, has_back}

-- each variable with p has a place whose word stands for its value
abbrev pub Fits : List IrFunc → List ℤ → Frame → (ℕ → Bool) → (ℕ → Place) → List KernelValue → Type 0
Fits t h fr p ctx env = (i : ℕ) (v : KernelValue) → p i ≡ true → slice_get env i ≡ Some v → (w : ℤ)
    × (read h fr (ctx i) ≡ Some w) × Stands t h v w

pub fits_grows : (t : List IrFunc) (h h' : List ℤ) (fr : Frame) (p : ℕ → Bool) (ctx : ℕ → Place)
    (env : List KernelValue) → Grows h h' → Fits t h fr p ctx env → Fits t h' fr p ctx env
fits_grows t h h' fr p ctx env g f i v o s = let r = f i v o s in
    (r.0, read_grows h h' g fr (ctx i) r.0 r.1, stands_grows t h h' g v r.0 r.2)

pub fits_left : (t : List IrFunc) (h : List ℤ) (fr : Frame) (p q : ℕ → Bool) (ctx : ℕ → Place) (env : List KernelValue)
    → Fits t h fr (λ i. p i || q i) ctx env → Fits t h fr p ctx env
fits_left t h fr p q ctx env f i v o s = f i v (or_left (p i) (q i) o) s

pub fits_right : (t : List IrFunc) (h : List ℤ) (fr : Frame) (p q : ℕ → Bool) (ctx : ℕ → Place) (env : List KernelValue)
    → Fits t h fr (λ i. p i || q i) ctx env → Fits t h fr q ctx env
fits_right t h fr p q ctx env f i v o s = f i v (or_right (p i) (q i) o) s

-- slots are added at the end, so the others stay
read_with_slot : (h : List ℤ) (fr : Frame) (u : ℤ) (p : Place) (w : ℤ) → read h fr p ≡ Some w
    → read h (with_slot fr u) p ≡ Some w
read_with_slot h fr u (Slot s) w e = Rattle.mw_conv.proofs.Heaps.grows_append fr.slots (u ∷ []) s w e
read_with_slot h fr u _ w e = e

-- under a let
pub fits_let : (t : List IrFunc) (h : List ℤ) (fr : Frame) (p : ℕ → Bool) (ctx : ℕ → Place) (env : List KernelValue)
    (v : KernelValue) (w : ℤ) (s : ℕ) → length fr.slots ≡ s → Stands t h v w → Fits t h fr (λ i. p (suc i)) ctx env
    → Fits t h (with_slot fr w) p (here (Slot s) ctx) (v ∷ env)
fits_let t h fr p ctx env v w s e st f zero u o g =
    let l : slice_get (fr.slots ++ w ∷ []) s ≡ Some w =
    rw (← e) (let z : length fr.slots ≡ length fr.slots + 0 = omega arith in
    rw z (get_appended fr.slots (w ∷ []) 0)) in
    let q : v ≡ u = (cc) in (w, l, subst (λ x. Stands t h x w) q st)
fits_let t h fr p ctx env v w s e st f (suc i) u o g = let r = f i u o g in
    (r.0, read_with_slot h fr w (ctx i) r.0 r.1, r.2)

pub functions_length : (e : Expression) (k d : ℕ) → length (functions e k d) ≡ funs e
functions_length (x.fun e) k d = ap suc (functions_length e _ _)
functions_length (x.fix e) k d = ap suc (functions_length e _ _)
functions_length (x.app f a) k d = simp (length-append, functions_length f, functions_length a)
functions_length (x.bind f a) k d = simp (length-append, functions_length f, functions_length a)
functions_length (x.cond c a b) k d =
    simp (length-append, functions_length c, functions_length a, functions_length b)
functions_length (x.pair f a) k d = simp (length-append, functions_length f, functions_length a)
functions_length (x.fst e) k d = functions_length e k d
functions_length (x.snd e) k d = functions_length e k d
functions_length (x.prim p f a) k d = simp (length-append, functions_length f, functions_length a)
functions_length _ k d = refl

-- the functions of a second part
pub has_next : (t : List IrFunc) (e : Expression) (k d : ℕ) (gs : ℕ → List IrFunc)
    → Has t k (functions e k d ++ gs (k + funs e)) → Has t (k + funs e) (gs (k + funs e))
has_next t e k d gs h =
    subst (λ z. Has t (k + z) (gs (k + funs e))) (functions_length e k d) (has_back t k (functions e k d) _ h)

pub picked : (env : List KernelValue) (i : ℕ) (v : KernelValue) (o : ℕ → KernelTerm) → slice_get env i ≡ Some v
    → pick_all 0 i env o ≡ done v
picked [] i v o e = absurd (cc)
picked (u ∷ env) zero v o e = let q : u ≡ v = (cc) in ap done q
picked (u ∷ env) (suc i) v o e = picked env i v o e

pub not_picked : (env : List KernelValue) (i : ℕ) (o : ℕ → KernelTerm) → slice_get env i ≡ None → (j : ℕ)
    × (pick_all 0 i env o ≡ o j)
not_picked [] i o e = (i, refl)
not_picked (u ∷ env) zero o e = absurd (cc)
not_picked (u ∷ env) (suc i) o e = not_picked env i o e

-- a variable past the environment
pub past : (env : List KernelValue) → (j : ℕ) × (pick_all 0 (length env) env var ≡ var j)
past env = not_picked env (length env) var (slice_get_past env (length env) (omega arith))
