-- The conversion of closed code within limits keeps the ranges and limits.
use Rattle.std.proofs.Common.{◌≡◌, ℕ, zero, suc, ◌+◌, ◌*◌, ◌<◌, ◌≤◌, Bool, true, List, [], ◌∷◌, ◌++◌, length}
use Rattle.std.proofs.Common.{map, Some, refl, ◌∙◌, sym, subst, arith}
use Rattle.std.specs.Prelude.{nat_le, pos, slice_get, FitsSigned}
use Rattle.std.specs.Int.{w64}
use Rattle.std.specs.List.{AllByRecursion}
use Rattle.std.proofs.lemmas.Bool.{eq-eqb, leb-true}
use Rattle.std.proofs.lemmas.Int.{fits_signed_from_abs}
use Rattle.std.proofs.lemmas.List.{length-map}
use Rattle.std.proofs.lemmas.Option.{slice_get_within}
use Rattle.mw_list.proofs.Conjunctions.{both_true}
use Rattle.mw_term.specs.Terms as x
use Rattle.mw_term.specs.Terms.{Expression, size, depth_of}
use Rattle.mw_term.specs.Closed.{ClosedBelow}
use Rattle.mw_term.specs.Limits.{within_limits, LiteralsFit}
use Rattle.mw_meaning.specs.KernelMeaning.{occurs}
use Rattle.mw_ir.specs.declared.place.Place.{Place}
use Rattle.mw_ir.specs.declared.place.Place.TheVariants.{Argument, Slot}
use Rattle.mw_ir.specs.Ir.{IrFunc}
use Rattle.mw_ir.specs.Ranges.{ir_size, ir_depth, total_size, IsPlace, IsOuterPlace, HasFree, IsInRange, IsProper}
use Rattle.mw_ir.specs.Ranges.{IsConverted}
use Rattle.mw_conv.specs.Convert.{here, free_list, rank, fun_free, fix_free, fun_places, fix_places, funs, lets, code}
use Rattle.mw_conv.specs.Convert.{functions, converted_functions, converted_outside}
use Rattle.mw_conv.specs.Represents.{Has}
use Rattle.mw_conv.proofs.Free.{free_list_each, rank_is}
use Rattle.mw_conv.proofs.Heaps.{has_front}
use Rattle.mw_meaning.proofs.Replacement.{or_left, or_right}
use Rattle.mw_conv.proofs.Scopes.{functions_length, has_next}
use Rattle.mw_conv.proofs.Correct.{has_self}
use Rattle.mw_conv.proofs.Contexts.{free_short}
use Rattle.mw_conv.proofs.Closures.{occurs_below}

total_append : (fs gs : List IrFunc) → total_size (fs ++ gs) ≡ total_size fs + total_size gs
total_append [] gs = omega arith
total_append (f ∷ fs) gs = omega (arith, total_append fs gs)

-- no more nodes than the code had
pub code_size : (e : Expression) (k d s : ℕ) (ctx : ℕ → Place)
    → ir_size (code e k d s ctx) + total_size (functions e k d) ≤ size e
code_size (x.fun e) k d s ctx = omega (arith, code_size e (suc k) (suc d) 0 (fun_places e d))
code_size (x.fix e) k d s ctx = omega (arith, code_size e (suc k) (suc (suc d)) 0 (fix_places e d))
code_size (x.app f a) k d s ctx =
    omega (arith, code_size f k d s ctx, code_size a (k + funs f) d s ctx, total_append)
code_size (x.bind a e) k d s ctx =
    omega (arith, code_size a k d s ctx, code_size e (k + funs a) (suc d) (suc s) (here (Slot s) ctx), total_append)
code_size (x.cond c a b) k d s ctx =
    omega (
      arith,
      code_size c k d s ctx,
      code_size a (k + funs c) d s ctx,
      code_size b (k + funs c + funs a) d s ctx,
      total_append,
    )
code_size (x.pair f a) k d s ctx =
    omega (arith, code_size f k d s ctx, code_size a (k + funs f) d s ctx, total_append)
code_size (x.fst e) k d s ctx = omega (arith, code_size e k d s ctx)
code_size (x.snd e) k d s ctx = omega (arith, code_size e k d s ctx)
code_size (x.prim p f a) k d s ctx =
    omega (arith, code_size f k d s ctx, code_size a (k + funs f) d s ctx, total_append)
code_size _ k d s ctx = omega arith

pub code_depth : (e : Expression) (k d s : ℕ) (ctx : ℕ → Place) → ir_depth (code e k d s ctx) ≤ depth_of e
code_depth (x.app f a) k d s ctx = omega (arith, code_depth f k d s ctx, code_depth a (k + funs f) d s ctx)
code_depth (x.bind a e) k d s ctx =
    omega (arith, code_depth a k d s ctx, code_depth e (k + funs a) (suc d) (suc s) (here (Slot s) ctx))
code_depth (x.cond c a b) k d s ctx =
    omega (arith, code_depth c k d s ctx, code_depth a (k + funs c) d s ctx, code_depth b (k + funs c + funs a) d s ctx)
code_depth (x.pair f a) k d s ctx = omega (arith, code_depth f k d s ctx, code_depth a (k + funs f) d s ctx)
code_depth (x.fst e) k d s ctx = omega (arith, code_depth e k d s ctx)
code_depth (x.snd e) k d s ctx = omega (arith, code_depth e k d s ctx)
code_depth (x.prim p f a) k d s ctx = omega (arith, code_depth f k d s ctx, code_depth a (k + funs f) d s ctx)
code_depth _ k d s ctx = omega arith

pub lets_depth : (e : Expression) → lets e < depth_of e
lets_depth (x.app f a) = omega (arith, lets_depth f, lets_depth a)
lets_depth (x.bind a e) = omega (arith, lets_depth a, lets_depth e)
lets_depth (x.cond c a b) = omega (arith, lets_depth c, lets_depth a, lets_depth b)
lets_depth (x.pair f a) = omega (arith, lets_depth f, lets_depth a)
lets_depth (x.fst e) = omega (arith, lets_depth e)
lets_depth (x.snd e) = omega (arith, lets_depth e)
lets_depth (x.prim p f a) = omega (arith, lets_depth f, lets_depth a)
lets_depth _ = omega arith

pub funs_few : (e : Expression) → funs e ≤ size e
funs_few (x.fun e) = omega (arith, funs_few e)
funs_few (x.fix e) = omega (arith, funs_few e)
funs_few (x.app f a) = omega (arith, funs_few f, funs_few a)
funs_few (x.bind a e) = omega (arith, funs_few a, funs_few e)
funs_few (x.cond c a b) = omega (arith, funs_few c, funs_few a, funs_few b)
funs_few (x.pair f a) = omega (arith, funs_few f, funs_few a)
funs_few (x.fst e) = omega (arith, funs_few e)
funs_few (x.snd e) = omega (arith, funs_few e)
funs_few (x.prim p f a) = omega (arith, funs_few f, funs_few a)
funs_few _ = omega arith

none_fits : FitsSigned w64 (pos 0)
none_fits = fits_signed_from_abs w64 (pos 0) (omega arith)

pub both_all : {A : Type 0} → (P : A → Type 0) (fs gs : List A) → AllByRecursion P fs → AllByRecursion P gs
    → AllByRecursion P (fs ++ gs)
both_all P [] gs a b = b
both_all P (f ∷ fs) gs a b = (a.0, both_all P fs gs a.1 b)

module _ (t : List IrFunc) where
  module _ (P : Place → Type 0) (slots : ℕ) (all_slots : (s : ℕ) → s < slots → P (Slot s)) where
    places_all : (ctx : ℕ → Place) (is : List ℕ) → ((j i : ℕ) → slice_get is j ≡ Some i → P (ctx i))
        → AllByRecursion P (map ctx is)
    places_all ctx [] h = tt
    places_all ctx (i ∷ is) h = (h 0 i refl, places_all ctx is (λ j i e. h (suc j) i e))

    closure_range : (ctx : ℕ → Place) (k d : ℕ) (p : ℕ → Bool) (f : IrFunc) → slice_get t k ≡ Some f
        → f.free ≡ length (free_list d p) → ((i : ℕ) → p i ≡ true → P (ctx i))
        → HasFree (length (map ctx (free_list d p))) (slice_get t k) × AllByRecursion P (map ctx (free_list d p))
    closure_range ctx k d p f e g h = (
      subst (λ o. HasFree (length (map ctx (free_list d p))) o) (sym e) (g ∙ sym (length-map (free_list d p) ctx)),
      places_all ctx (free_list d p) (λ j i e. h i (free_list_each d p j i e).1),
    )

    pub code_range : (e : Expression) (k d s : ℕ) (ctx : ℕ → Place) → LiteralsFit e
        → ((i : ℕ) → occurs e i ≡ true → P (ctx i)) → s + lets e ≤ slots → Has t k (functions e k d)
        → IsInRange t P slots (code e k d s ctx)
    code_range (x.num z) k d s ctx l h le has = l
    code_range (x.truth z) k d s ctx l h le has = tt
    code_range (x.var j) k d s ctx l h le has = h j (eq-eqb j j refl)
    code_range (x.fun e) k d s ctx l h le has = closure_range ctx k d (fun_free e) _ has.0 refl h
    code_range (x.fix e) k d s ctx l h le has = closure_range ctx k d (fix_free e) _ has.0 refl h
    code_range (x.app f a) k d s ctx l h le has = (
      code_range f k d s ctx l.0 (λ i o. h i (or_left (occurs f i) _ o)) (omega arith) (has_front t k _ _ has),
      code_range a (k + funs f) d s ctx l.1 (λ i o. h i (or_right (occurs f i) _ o)) (omega arith)
          (has_next t f k d (λ z. functions a z d) has),
    )
    code_range (x.bind a e) k d s ctx l h le has = (
      omega arith,
      code_range a k d s ctx l.0 (λ i o. h i (or_left (occurs a i) _ o)) (omega arith)
          (has_front t k _ _ has),
      code_range e (k + funs a) (suc d) (suc s) (here (Slot s) ctx) l.1 inner (omega arith)
          (has_next t a k d (λ z. functions e z (suc d)) has),
    )
      where
        inner : (i : ℕ) → occurs e i ≡ true → P (here (Slot s) ctx i)
        inner zero o = all_slots s (omega arith)
        inner (suc i) o = h i (or_right (occurs a i) _ o)
    code_range (x.cond c a b) k d s ctx l h le has =
        let n = has_next t c k d (λ z. functions a z d ++ functions b (z + funs a) d) has in (
          code_range c k d s ctx l.0 (λ i o. h i (or_left (occurs c i) _ o)) (omega arith) (has_front t k _ _ has),
          code_range a (k + funs c) d s ctx l.1 (λ i o. h i (or_right (occurs c i) _ (or_left (occurs a i) _ o)))
              (omega arith) (has_front t (k + funs c) _ _ n),
          code_range b (k + funs c + funs a) d s ctx l.2
              (λ i o. h i (or_right (occurs c i) _ (or_right (occurs a i) _ o))) (omega arith)
              (has_next t a (k + funs c) d (λ z. functions b z d) n),
        )
    code_range (x.pair f a) k d s ctx l h le has = (
      code_range f k d s ctx l.0 (λ i o. h i (or_left (occurs f i) _ o)) (omega arith) (has_front t k _ _ has),
      code_range a (k + funs f) d s ctx l.1 (λ i o. h i (or_right (occurs f i) _ o)) (omega arith)
          (has_next t f k d (λ z. functions a z d) has),
    )
    code_range (x.fst e) k d s ctx l h le has = code_range e k d s ctx l h le has
    code_range (x.snd e) k d s ctx l h le has = code_range e k d s ctx l h le has
    code_range (x.prim p f a) k d s ctx l h le has = (
      code_range f k d s ctx l.0 (λ i o. h i (or_left (occurs f i) _ o)) (omega arith) (has_front t k _ _ has),
      code_range a (k + funs f) d s ctx l.1 (λ i o. h i (or_right (occurs f i) _ o)) (omega arith)
          (has_next t f k d (λ z. functions a z d) has),
    )
    code_range _ k d s ctx l h le has = none_fits

  -- where a function's body finds its variables
  ranked : (d i : ℕ) (p : ℕ → Bool) → i < d → p i ≡ true → rank d p i < length (free_list d p)
  ranked d i p lt o = slice_get_within (free_list d p) (rank d p i) i (rank_is d p i lt o)

  fun_place : (e : Expression) (d n i : ℕ) → ClosedBelow (suc d) e → occurs e i ≡ true
      → IsPlace (length (free_list d (fun_free e))) n (fun_places e d i)
  fun_place e d n zero c o = tt
  fun_place e d n (suc i) c o = let lt = occurs_below e (suc d) (suc i) c o in ranked d i (fun_free e) (omega arith) o

  fix_place : (e : Expression) (d n i : ℕ) → ClosedBelow (suc (suc d)) e → occurs e i ≡ true
      → IsPlace (length (free_list d (fix_free e))) n (fix_places e d i)
  fix_place e d n zero c o = tt
  fix_place e d n (suc zero) c o = tt
  fix_place e d n (suc (suc i)) c o = let lt = occurs_below e (suc (suc d)) (suc (suc i)) c o in
      ranked d i (fix_free e) (omega arith) o

  pub functions_proper : (e : Expression) (k d : ℕ) → ClosedBelow d e → LiteralsFit e → d + 2 * depth_of e ≤ 800
      → Has t k (functions e k d) → AllByRecursion (IsProper t) (functions e k d)
  functions_proper (x.fun e) k d c l le has = (
    record {
      free = omega (arith, free_short d (fun_free e));
      slots = omega (arith, lets_depth e);
      depth = omega (arith, code_depth e (suc k) (suc d) 0 (fun_places e d));
      body = code_range (IsPlace (length (free_list d (fun_free e))) (lets e)) (lets e) (λ s lt. lt) e (suc k) (suc d) 0
          (fun_places e d) l (λ i o. fun_place e d (lets e) i c o) (omega arith) has.1;
    },
    functions_proper e (suc k) (suc d) c l (omega arith) has.1,
  )
  functions_proper (x.fix e) k d c l le has = (
    record {
      free = omega (arith, free_short d (fix_free e));
      slots = omega (arith, lets_depth e);
      depth = omega (arith, code_depth e (suc k) (suc (suc d)) 0 (fix_places e d));
      body = code_range (IsPlace (length (free_list d (fix_free e))) (lets e)) (lets e) (λ s lt. lt) e (suc k)
          (suc (suc d)) 0 (fix_places e d) l (λ i o. fix_place e d (lets e) i c o) (omega arith) has.1;
    },
    functions_proper e (suc k) (suc (suc d)) c l (omega arith) has.1,
  )
  functions_proper (x.app f a) k d c l le has = both_all (IsProper t) (functions f k d) _
      (functions_proper f k d c.0 l.0 (omega arith) (has_front t k _ _ has))
      (functions_proper a (k + funs f) d c.1 l.1 (omega arith) (has_next t f k d (λ z. functions a z d) has))
  functions_proper (x.bind a e) k d c l le has = both_all (IsProper t) (functions a k d) _
      (functions_proper a k d c.0 l.0 (omega arith) (has_front t k _ _ has))
      (functions_proper e (k + funs a) (suc d) c.1 l.1 (omega arith)
      (has_next t a k d (λ z. functions e z (suc d)) has))
  functions_proper (x.cond f a b) k d c l le has =
      let n = has_next t f k d (λ z. functions a z d ++ functions b (z + funs a) d) has in
      both_all (IsProper t) (functions f k d) _ (functions_proper f k d c.0 l.0 (omega arith) (has_front t k _ _ has))
      (both_all (IsProper t) (functions a (k + funs f) d) _
      (functions_proper a (k + funs f) d c.1 l.1 (omega arith) (has_front t (k + funs f) _ _ n))
      (functions_proper b (k + funs f + funs a) d c.2 l.2 (omega arith)
      (has_next t a (k + funs f) d (λ z. functions b z d) n)))
  functions_proper (x.pair f a) k d c l le has = both_all (IsProper t) (functions f k d) _
      (functions_proper f k d c.0 l.0 (omega arith) (has_front t k _ _ has))
      (functions_proper a (k + funs f) d c.1 l.1 (omega arith) (has_next t f k d (λ z. functions a z d) has))
  functions_proper (x.fst e) k d c l le has = functions_proper e k d c l (omega arith) has
  functions_proper (x.snd e) k d c l le has = functions_proper e k d c l (omega arith) has
  functions_proper (x.prim p f a) k d c l le has = both_all (IsProper t) (functions f k d) _
      (functions_proper f k d c.0 l.0 (omega arith) (has_front t k _ _ has))
      (functions_proper a (k + funs f) d c.1 l.1 (omega arith) (has_next t f k d (λ z. functions a z d) has))
  functions_proper _ k d c l le has = tt

pub is_converted : (c : Expression) → ClosedBelow 0 c → LiteralsFit c → size c ≤ 20000 → depth_of c ≤ 400
    → IsConverted (converted_functions c) (converted_outside c)
is_converted c closed l few shallow =
    let t = converted_functions c in
    let has : Has t 0 t = has_self [] t in
    record {
      few = omega (arith, functions_length c 0 0, funs_few c);
      size = omega (arith, code_size c 0 0 0 (λ i. Argument));
      functions = functions_proper t c 0 0 closed l (omega arith) has;
      free = refl;
      slots = omega (arith, lets_depth c);
      depth = omega (arith, code_depth c 0 0 0 (λ i. Argument));
      body = code_range t (IsOuterPlace (lets c)) (lets c) (λ s lt. lt) c 0 0 0 (λ i. Argument) l
          (λ i o. (let lt = occurs_below c 0 i closed o in absurd (omega arith))) (omega arith) has;
    }

-- the limits of kernels
pub size_small : (c : Expression) → within_limits c ≡ true → size c ≤ 20000
size_small c e = let h = (both_true (nat_le (size c) 20000) (nat_le (depth_of c) 400) e).0 in leb-true (size c) 20000 h

pub depth_small : (c : Expression) → within_limits c ≡ true → depth_of c ≤ 400
depth_small c e = let h = (both_true (nat_le (size c) 20000) (nat_le (depth_of c) 400) e).1 in
    leb-true (depth_of c) 400 h
