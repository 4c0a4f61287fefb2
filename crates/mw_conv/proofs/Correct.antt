-- The converted code means what the kernel means.
use Rattle.std.proofs.Common.{◌≡◌, ℕ, zero, suc, ◌+◌, ◌≤◌, ◌<◌, Bool, true, List, [], ◌∷◌, ◌++◌, length, Option, Some}
use Rattle.std.proofs.Common.{None, refl, ap, ◌∙◌, subst, arith, length-append, append_assoc}
use Rattle.std.specs.Prelude.{ℤ, pos, slice_get, get_or, ◌*◌, ◌||◌}
use Rattle.std.proofs.lemmas.Bool.{eq-eqb}
use Rattle.std.proofs.lemmas.Option.{get_or_from_slice_get, slice_get_within}
use Rattle.mw_term.specs.Terms as x
use Rattle.mw_term.specs.Terms.{Expression, KernelTerm, KernelValue, int, bool, both, function, recursive}
use Rattle.mw_meaning.specs.KernelMeaning as k
use Rattle.mw_meaning.specs.KernelMeaning.{occurs, labelled, free_below, kernel_evaluation}
use Rattle.mw_meaning.proofs.KernelFixedPoint.{kernel_evaluation-is}
use Rattle.mw_conv.specs.Environments.{closing, closing_more, pick_all}
use Rattle.mw_ir.specs.Ir as i
use Rattle.mw_ir.specs.declared.place.Place.{Place}
use Rattle.mw_ir.specs.declared.place.Place.TheVariants.{Argument, Own, Slot, Free}
use Rattle.mw_ir.specs.Ir.{IrFunc, Frame, inside, with_slot, read, load, value, calls, found, applied}
use Rattle.mw_conv.specs.Convert.{here, free_list, rank, fun_free, fix_free, fun_places, fix_places, funs, functions}
use Rattle.mw_conv.specs.Convert.{code, converted_functions, converted_body}
use Rattle.mw_conv.specs.Represents.{Has, Stands, s_int, s_bool, s_function, s_recursive}
use Rattle.mw_conv.proofs.Free.{free_list_length, free_list_each, rank_is}
use Rattle.mw_conv.proofs.Heaps.{get_appended, AllRead, read_list, grows_same, grows_append, load_new, stands_grows}
use Rattle.mw_conv.proofs.Heaps.{has_front}
use Rattle.mw_conv.proofs.Scopes.{Fits, fits_grows, fits_left, fits_right, fits_let, has_next, picked}
use Rattle.mw_conv.proofs.Scopes.{not_picked, past}
use Rattle.mw_conv.specs.Agreement.{Agrees}
use Rattle.mw_conv.proofs.Agrees.{given, then_agrees, taken, spent, computes, chooses, first, second, paired}

get_within : {A : Type 0} → (xs : List A) (j : ℕ) → j < length xs → (x : A) × (slice_get xs j ≡ Some x)
get_within [] j lt = absurd (omega arith)
get_within (x ∷ xs) zero lt = (x, refl)
get_within (x ∷ xs) (suc j) lt = get_within xs j (omega arith)

-- no environment changes nothing
pick_none : (k i : ℕ) (o : ℕ → KernelTerm) → pick_all k i [] o ≡ o i
pick_none zero i o = refl
pick_none (suc k) zero o = refl
pick_none (suc k) (suc i) o = pick_none k i (λ j. o (suc j))

closed_at : (e : KernelTerm) (k : ℕ) → closing e k [] ≡ e
closed_at (x.var i) k = pick_none k i x.var
closed_at (x.fun r e) k = ap (λ y. x.fun r y) (closed_at e (suc k))
closed_at (x.fix r e) k = ap (λ y. x.fix r y) (closed_at e (suc (suc k)))
closed_at (x.app f a) k = rw (closed_at f k, closed_at a k) refl
closed_at (x.bind d e) k = rw (closed_at d k, closed_at e (suc k)) refl
closed_at (x.cond c a b) k = rw (closed_at c k, closed_at a k, closed_at b k) refl
closed_at (x.pair a b) k = rw (closed_at a k, closed_at b k) refl
closed_at (x.fst e) k = ap x.fst (closed_at e k)
closed_at (x.snd e) k = ap x.snd (closed_at e k)
closed_at (x.prim p a b) k = rw (closed_at a k, closed_at b k) refl
closed_at _ k = refl

pub closed : (e : KernelTerm) → closing e 0 [] ≡ e
closed e = closed_at e 0

module _ (t : List IrFunc) where
  -- the places of a function's free variables
  places_read : (h : List ℤ) (fr : Frame) (p : ℕ → Bool) (ctx : ℕ → Place) (env : List KernelValue)
      → Fits t h fr p ctx env → AllRead h fr ctx (free_list (length env) p)
  places_read h fr p ctx env f = read_list h fr ctx (free_list (length env) p) λ j i e.
      let r = free_list_each (length env) p j i e in
      let v = get_within env i r.0 in
      let g = f i v.0 r.1 v.1 in
      (g.0, g.1)

  -- the closure's words stand for the free variables' values
  held : (h : List ℤ) (fr : Frame) (p : ℕ → Bool) (ctx : ℕ → Place) (env : List KernelValue) (z : ℤ)
      → (f : Fits t h fr p ctx env) → (r : AllRead h fr ctx (free_list (length env) p)) → (j : ℕ) (v : KernelValue)
      → p j ≡ true → slice_get env j ≡ Some v
      → (load (h ++ z ∷ r.words) (pos (8 * length h)) (suc (rank (length env) p j))
      ≡ Some (get_or r.words (rank (length env) p j) (pos 0))) × Stands t (h ++ z ∷ r.words) v
      (get_or r.words (rank (length env) p j) (pos 0))
  held h fr p ctx env z f r j v o g =
      let s = f j v o g in
      let e : slice_get r.words (rank (length env) p j) ≡ Some s.0 =
      r.each _ j (rank_is (length env) p j (slice_get_within env j v g) o) ∙ s.1 in
      let q : get_or r.words (rank (length env) p j) (pos 0) ≡ s.0 = get_or_from_slice_get r.words _ s.0 (pos 0) e in
      rw q (load_new h (z ∷ r.words) _ ∙ e, stands_grows t h _ (grows_append h _) v s.0 s.2)

  abbrev pub Means : ℕ → Expression → ℕ → List ℤ → List KernelValue → k.Ended
  Means d e n h env = kernel_evaluation n (length h) (closing (labelled e d) 0 env)

  abbrev pub Value : ℕ → i.Ir → ℕ → List ℤ → Frame → i.Ended
  Value b e n h fr = value t (λ n h fr e. calls t b n h fr e) e n h fr

  -- what is to be shown of a term
  abbrev pub Right : ℕ → Expression → Type 0
  Right b e = (n k s : ℕ) (ctx : ℕ → Place) (env : List KernelValue) (h : List ℤ) (fr : Frame) → n ≤ b → length fr.slots
      ≡ s → Has t k (functions e k (length env)) → Fits t h fr (occurs e) ctx env
      → Agrees t n h (Means (length env) e n h env) (Value b (code e k (length env) s ctx) n h fr)

  -- what is known of the bodies with m units
  abbrev pub Body : ℕ → ℕ → Expression → Type 0
  Body b m e = (k s : ℕ) (ctx : ℕ → Place) (env : List KernelValue) (h : List ℤ) (fr : Frame) → length fr.slots ≡ s
      → Has t k (functions e k (length env)) → Fits t h fr (occurs e) ctx env
      → Agrees t m h (Means (length env) e m h env) (calls t b m h fr (code e k (length env) s ctx))

  -- a function entered
  pub enters : (b n : ℕ) (h : List ℤ) (u v : KernelValue) (c a : ℤ) → ((m : ℕ) (e : Expression) → m < n → Body b m e)
      → Stands t h u c → Stands t h v a
      → Agrees t n h (k.entered u v λ e. k.spending n λ n. kernel_evaluation n (length h) e)
      (applied t c a (λ n h fr e. calls t b n h fr e) n h)
  enters b n h u v c a again (s_function w j e env body words eb l has at st) sv =
      rw (eb, l, has.0) (spent t n h _ _ λ m lt.
      rw (closing_more (labelled e (suc (length env))) 0 v env)
      (again m e lt (suc j) 0 (fun_places e (length env)) (v ∷ env) h (inside c a) refl has.1 λ q x o g.
      (elim q as (λ q. occurs e q ≡ true → slice_get (v ∷ env) q ≡ Some x → (y : ℤ)
      × (read h (inside c a) (fun_places e (length env) q) ≡ Some y) × Stands t h x y) [
        | zero ↦ λ o g. let z : v ≡ x = (cc) in (a, refl, subst (λ x. Stands t h x a) z sv)
        | suc q ↦ λ o g. (words q, at q x o g, st q x o g)
      ]) o g))
  enters b n h u v c a again (s_recursive w j e env body words eb l has at st) sv =
      rw (eb, l, has.0) (spent t n h _ _ λ m lt.
      rw (
        closing_more (labelled e (suc (suc (length env)))) 1
            (recursive (closing (labelled e (suc (suc (length env)))) 2 env)) env,
        closing_more (labelled e (suc (suc (length env)))) 0 v
            (recursive (closing (labelled e (suc (suc (length env)))) 2 env) ∷ env),
      )
      (again m e lt (suc j) 0 (fix_places e (length env))
      (v ∷ recursive (closing (labelled e (suc (suc (length env)))) 2 env) ∷ env) h (inside c a) refl has.1
      λ q x o g.
      (elim q as (λ q. occurs e q ≡ true
      → slice_get (v ∷ recursive (closing (labelled e (suc (suc (length env)))) 2 env) ∷ env) q ≡ Some x → (y : ℤ)
      × (read h (inside c a) (fix_places e (length env) q) ≡ Some y) × Stands t h x y) [
        | zero ↦ λ o g. let z : v ≡ x = (cc) in (a, refl, subst (λ x. Stands t h x a) z sv)
        | suc q ↦ λ o g.
            (elim q as
            (λ q. occurs e (suc q) ≡ true
            → slice_get (recursive (closing (labelled e (suc (suc (length env)))) 2 env) ∷ env) q ≡ Some x → (y : ℤ)
            × (read h (inside c a) (here Own (λ i. Free (rank (length env) (fix_free e) i)) q) ≡ Some y)
            × Stands t h x y) [
              | zero ↦ λ o g. let z : recursive (closing (labelled e (suc (suc (length env)))) 2 env) ≡ x = (cc) in
                  (c, refl, subst (λ x. Stands t h x c) z (s_recursive c j e env _ words refl l has at st))
              | suc q ↦ λ o g. (words q, at q x o g, st q x o g)
            ]) o g
      ]) o g))
  enters b n h u v c a again s sv = record { holds = tt }

  -- one form
  pub correct : (b : ℕ) (e : Expression) → Right b e
  correct b (x.num z) n k s ctx env h fr le se has f = rw (kernel_evaluation-is n (length h) (x.num z))
      (given t n n h h (int z) z (omega arith) (grows_same h) (s_int z))
  correct b (x.truth z) n k s ctx env h fr le se has f = rw (kernel_evaluation-is n (length h) (x.truth z))
      (given t n n h h (bool z) _ (omega arith) (grows_same h) (s_bool z _ refl))
  correct b (x.var j) n k s ctx env h fr le se has f = go (slice_get env j) refl
    where
      go : (o : Option KernelValue) → slice_get env j ≡ o → Agrees t n h (Means (length env) (x.var j) n h env)
          (Value b (code (x.var j) k (length env) s ctx) n h fr)
      go None e = let r = not_picked env j x.var e in rw (r.1, kernel_evaluation-is n (length h) (x.var r.0))
          (record { holds = tt })
      go (Some v) e =
          let r = f j v (eq-eqb j j refl) e in
          rw (picked env j v x.var e, kernel_evaluation-is n (length h) (x.done v), r.1)
          (given t n n h h v r.0 (omega arith) (grows_same h) r.2)
  correct b (x.fun e) n k s ctx env h fr le se has f =
      let p = fun_free e in
      let r = places_read h fr p ctx env f in
      let c = held h fr p ctx env (pos k) f r in
      rw (
        kernel_evaluation-is n (length h)
            (x.fun (free_below (length env) p) (closing (labelled e (suc (length env))) 1 env)),
        r.all,
      )
      (taken t n _ h (pos k ∷ r.words) _ (rw (r.as_many, free_list_length (length env) p) (omega arith))
      (s_function _ k e env _ (λ j. get_or r.words (rank (length env) p j) (pos 0)) refl (load_new h _ 0) has
      (λ j v o g. (c j v o g).0) (λ j v o g. (c j v o g).1)))
  correct b (x.fix e) n k s ctx env h fr le se has f =
      let p = fix_free e in
      let r = places_read h fr p ctx env f in
      let c = held h fr p ctx env (pos k) f r in
      rw (
        kernel_evaluation-is n (length h)
            (x.fix (free_below (length env) p) (closing (labelled e (suc (suc (length env)))) 2 env)),
        r.all,
      )
      (taken t n _ h (pos k ∷ r.words) _ (rw (r.as_many, free_list_length (length env) p) (omega arith))
      (s_recursive _ k e env _ (λ j. get_or r.words (rank (length env) p j) (pos 0)) refl (load_new h _ 0) has
      (λ j v o g. (c j v o g).0) (λ j v o g. (c j v o g).1)))
  correct zero (x.app c a) n k s ctx env h fr le se has f =
      let d = length env in
      let h2 = has_next t c k d (λ k. functions a k d) has in
      rw (kernel_evaluation-is n (length h) (x.app (closing (labelled c d) 0 env) (closing (labelled a d) 0 env)))
      (then_agrees t n h _ _ _ _
      (correct zero c n k s ctx env h fr le se (has_front t k _ _ has)
      (fits_left t h fr (occurs c) (occurs a) ctx env f)) λ u m y h1 le1 g1 s1.
      then_agrees t m h1 _ _ _ _
      (correct zero a m (k + funs c) s ctx env h1 fr (omega arith) se h2
      (fits_grows t h h1 fr _ ctx env g1 (fits_right t h fr (occurs c) (occurs a) ctx env f))) λ v l z h2 le2 g2 s2.
      enters zero l h2 u v y z (λ q e lt. absurd (omega arith)) (stands_grows t h1 h2 g2 u y s1) s2)
  correct (suc b) (x.app c a) n k s ctx env h fr le se has f =
      let d = length env in
      let h2 = has_next t c k d (λ k. functions a k d) has in
      rw (kernel_evaluation-is n (length h) (x.app (closing (labelled c d) 0 env) (closing (labelled a d) 0 env)))
      (then_agrees t n h _ _ _ _
      (correct (suc b) c n k s ctx env h fr le se (has_front t k _ _ has)
      (fits_left t h fr (occurs c) (occurs a) ctx env f)) λ u m y h1 le1 g1 s1.
      then_agrees t m h1 _ _ _ _
      (correct (suc b) a m (k + funs c) s ctx env h1 fr (omega arith) se h2
      (fits_grows t h h1 fr _ ctx env g1 (fits_right t h fr (occurs c) (occurs a) ctx env f))) λ v l z h2 le2 g2 s2.
      enters (suc b) l h2 u v y z (λ q e lt k s ctx env h fr se has f. correct b e q k s ctx env h fr (omega arith) se
      has f) (stands_grows t h1 h2 g2 u y s1) s2)
  correct b (x.bind d e) n k s ctx env h fr le se has f =
      let h2 = has_next t d k (length env) (λ k. functions e k (suc (length env))) has in
      let q = eq-eqb (length fr.slots) s se in
      rw (
        kernel_evaluation-is n (length h)
            (x.bind (closing (labelled d (length env)) 0 env) (closing (labelled e (suc (length env))) 1 env)),
        q,
      )
      (then_agrees t n h _ _ _ _
      (correct b d n k s ctx env h fr le se (has_front t k _ _ has)
      (fits_left t h fr (occurs d) (λ i. occurs e (suc i)) ctx env f)) λ v m y h1 le1 g1 s1.
      rw (closing_more (labelled e (suc (length env))) 0 v env)
      (correct b e m (k + funs d) (suc s) (here (Slot s) ctx) (v ∷ env) h1 (with_slot fr y) (omega arith)
      (length-append fr.slots (y ∷ []) ∙ (let w : length fr.slots + 1 ≡ suc s = omega arith in w)) h2
      (fits_let t h1 fr (occurs e) ctx env v y s se s1
      (fits_grows t h h1 fr _ ctx env g1 (fits_right t h fr (occurs d) (λ i. occurs e (suc i)) ctx env f)))))
  correct b (x.cond c a z) n k s ctx env h fr le se has f =
      let d = length env in
      let h2 = has_next t c k d (λ k. functions a k d ++ functions z (k + funs a) d) has in
      let h3 = has_next t a (k + funs c) d (λ k. functions z k d) h2 in
      rw (kernel_evaluation-is n (length h)
      (x.cond (closing (labelled c d) 0 env) (closing (labelled a d) 0 env) (closing (labelled z d) 0 env)))
      (then_agrees t n h _ _ _ _
      (correct b c n k s ctx env h fr le se (has_front t k _ _ has) (fits_left t h fr (occurs c) _ ctx env f))
      λ u m y h1 le1 g1 s1.
      let f1 = fits_grows t h h1 fr _ ctx env g1
      (fits_right t h fr (occurs c) (λ i. occurs a i || occurs z i) ctx env f) in
      chooses t m h1 u y _ _ _ _ _ s1
      (correct b a m (k + funs c) s ctx env h1 fr (omega arith) se (has_front t (k + funs c) _ _ h2)
      (fits_left t h1 fr (occurs a) (occurs z) ctx env f1))
      (correct b z m (k + funs c + funs a) s ctx env h1 fr (omega arith) se h3
      (fits_right t h1 fr (occurs a) (occurs z) ctx env f1)))
  correct b (x.pair c a) n k s ctx env h fr le se has f =
      let d = length env in
      let h2 = has_next t c k d (λ k. functions a k d) has in
      rw (kernel_evaluation-is n (length h) (x.pair (closing (labelled c d) 0 env) (closing (labelled a d) 0 env)))
      (then_agrees t n h _ _ _ _
      (correct b c n k s ctx env h fr le se (has_front t k _ _ has)
      (fits_left t h fr (occurs c) (occurs a) ctx env f)) λ u m y h1 le1 g1 s1.
      then_agrees t m h1 _ _ _ _
      (correct b a m (k + funs c) s ctx env h1 fr (omega arith) se h2
      (fits_grows t h h1 fr _ ctx env g1 (fits_right t h fr (occurs c) (occurs a) ctx env f))) λ v l z h2 le2 g2 s2.
      paired t l h2 u v y z (stands_grows t h1 h2 g2 u y s1) s2)
  correct b (x.fst e) n k s ctx env h fr le se has f =
      rw (kernel_evaluation-is n (length h) (x.fst (closing (labelled e (length env)) 0 env)))
      (then_agrees t n h _ _ _ _ (correct b e n k s ctx env h fr le se has f) λ v m y h1 le1 g1 s1. first t m h1 v y s1)
  correct b (x.snd e) n k s ctx env h fr le se has f =
      rw (kernel_evaluation-is n (length h) (x.snd (closing (labelled e (length env)) 0 env)))
      (then_agrees t n h _ _ _ _ (correct b e n k s ctx env h fr le se has f) λ v m y h1 le1 g1 s1.
      second t m h1 v y s1)
  correct b (x.prim p c a) n k s ctx env h fr le se has f =
      let d = length env in
      let h2 = has_next t c k d (λ k. functions a k d) has in
      rw (kernel_evaluation-is n (length h) (x.prim p (closing (labelled c d) 0 env) (closing (labelled a d) 0 env)))
      (then_agrees t n h _ _ _ _
      (correct b c n k s ctx env h fr le se (has_front t k _ _ has)
      (fits_left t h fr (occurs c) (occurs a) ctx env f)) λ u m y h1 le1 g1 s1.
      then_agrees t m h1 _ _ _ _
      (correct b a m (k + funs c) s ctx env h1 fr (omega arith) se h2
      (fits_grows t h h1 fr _ ctx env g1 (fits_right t h fr (occurs c) (occurs a) ctx env f))) λ v l z h2 le2 g2 s2.
      computes t l h2 p u v y z (stands_grows t h1 h2 g2 u y s1) s2)
  correct b _ n k s ctx env h fr le se has f = let r = past env in
      rw (r.1, kernel_evaluation-is n (length h) (x.var r.0)) (record { holds = tt })

-- a list has itself from its start
pub has_self : (us fs : List IrFunc) → Has (us ++ fs) (length us) fs
has_self us [] = tt
has_self us (f ∷ fs) =
    let e : length us ≡ length us + 0 = omega arith in
    let l : length (us ++ f ∷ []) ≡ suc (length us) = omega (arith, length-append us (f ∷ [])) in
    (rw e (get_appended us (f ∷ fs) 0), rw (append_assoc us (f ∷ []) fs, l) at (has_self (us ++ f ∷ []) fs))

-- the code of a whole term
pub converted : (c : Expression) (n : ℕ) (h : List ℤ) → Agrees (converted_functions c) n h
    (k.kernel_meaning n (length h) c) (i.means (converted_functions c) n h i.outside (converted_body c))
unfolding i.means
converted c n h =
    rw (closed (labelled c 0)) at
    (correct (converted_functions c) n c n 0 0 (λ i. Argument) [] h i.outside (omega arith) refl
    (has_self [] (converted_functions c)) (λ i v o g. absurd (cc)))
