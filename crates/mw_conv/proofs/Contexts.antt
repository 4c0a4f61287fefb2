-- A context that is pushed and read, and the one within a function.
use Rattle.std.proofs.Common.{◌≡◌, ℕ, zero, suc, ◌+◌, ◌-◌, ◌<◌, ◌≤◌, Bool, true, false, List, [], ◌∷◌, ◌++◌, length}
use Rattle.std.proofs.Common.{take, reverse, get_or, set, map, refl, ap, ◌∙◌, sym, arith, append_assoc, length-append}
use Rattle.std.specs.Prelude.{◌==◌, slice_index_or}
use Rattle.std.proofs.lemmas.Bool.{eqb-true, eqb-false}
use Rattle.std.proofs.lemmas.List.{reverse-append, get_or-reverse, get_or-set_same, get_or-set_other, length-set}
use Rattle.std.proofs.lemmas.List.{take_all, take-append-le}
use Rattle.mw_term.specs.Terms.{Expression}
use Rattle.mw_meaning.specs.KernelMeaning.{occurs}
use Rattle.mw_ir.specs.declared.place.Place.{Place}
use Rattle.mw_ir.specs.declared.place.Place.TheVariants.{Argument, Own, Free}
use Rattle.mw_conv.specs.Contexts.{place_at}
use Rattle.mw_conv.specs.Convert.{here, kept, free_list, after, rank, fun_free, fix_free, fun_places, fix_places}
use Rattle.mw_conv.specs.Finding.{levels, freeing, places, own_places}

front_is : (p : Place) (qs : List Place) (i : ℕ) → get_or (p ∷ qs) i Argument ≡ here p (λ i. get_or qs i Argument) i
front_is p qs zero = refl
front_is p qs (suc i) = refl

pub pushed : (ps : List Place) (p : Place) → place_at (ps ++ p ∷ []) ≡ here p (place_at ps)
pushed ps p = ap (λ qs i. get_or qs i Argument) (reverse-append ps (p ∷ [])) ∙ (λ j i. front_is p (reverse ps) i j)

pub one_more : (ps qs : List Place) (p : Place) → qs ≡ ps ++ p ∷ [] → length qs ≡ suc (length ps)
one_more ps qs p e = omega (arith, ap length e, length-append ps (p ∷ []))

-- what was pushed is taken off
pub popped : (ps qs rest : List Place) (p : Place) (n : ℕ) → qs ≡ ps ++ p ∷ [] → n ≡ length ps → rest ≡ take n qs
    → rest ≡ ps
popped ps qs rest p n e l f =
    f ∙ (ap (λ n. take n qs) l
    ∙ (ap (λ qs. take (length ps) qs) e
    ∙ (take-append-le (length ps) ps (p ∷ []) (omega arith) ∙ take_all (length ps) ps (omega arith))))

pub place_read : (ps : List Place) (i : ℕ) → i < length ps → place_at ps i ≡ get_or ps (length ps - 1 - i) Argument
place_read ps i lt = get_or-reverse ps i Argument lt

-- levels are within the context
pub levels_within : (n : ℕ) (p : ℕ → Bool) (l k d : ℕ) → k < length (levels n p l) → slice_index_or (levels n p l) k d
    < l + n
levels_within zero p l k d lt = absurd (omega arith)
levels_within (suc n) p l k d lt = go (p n) k lt (λ k lt. levels_within n p (suc l) k d lt)
  where
    go : (z : Bool) (k : ℕ) → k < length (kept z l (levels n p (suc l)))
        → ((k : ℕ) → k < length (levels n p (suc l)) → slice_index_or (levels n p (suc l)) k d < suc l + n)
        → slice_index_or (kept z l (levels n p (suc l))) k d < l + suc n
    go true zero lt h = omega arith
    go true (suc k) lt h = let r = h k (omega arith) in omega arith
    go false k lt h = let r = h k lt in omega arith

-- as many as there are free variables
pub levels_length : (n : ℕ) (p : ℕ → Bool) (l : ℕ) → length (levels n p l) ≡ length (free_list n p)
levels_length zero p l = refl
levels_length (suc n) p l = go (p n) (levels_length n p (suc l))
  where
    go : (z : Bool) → length (levels n p (suc l)) ≡ length (free_list n p) → length (kept z l (levels n p (suc l)))
        ≡ length (kept z n (free_list n p))
    go true h = ap suc h
    go false h = h

pub free_short : (n : ℕ) (p : ℕ → Bool) → length (free_list n p) ≤ n
free_short zero p = omega arith
free_short (suc n) p = go (p n) (free_short n p)
  where
    go : (z : Bool) → length (free_list n p) ≤ n → length (kept z n (free_list n p)) ≤ suc n
    go true h = omega arith
    go false h = omega arith

-- the places at the levels are those of the free variables
places_from : (ps : List Place) (n : ℕ) (p : ℕ → Bool) (l : ℕ) → l + n ≡ length ps → places ps (levels n p l)
    ≡ map (place_at ps) (free_list n p)
places_from ps zero p l e = refl
places_from ps (suc n) p l e =
    let i : length ps - 1 - n ≡ l = omega arith in
    let lt : n < length ps = omega arith in
    go (p n) (places_from ps n p (suc l) (omega arith))
    (ap (λ k. get_or ps k Argument) (sym i) ∙ sym (place_read ps n lt))
  where
    go : (z : Bool) → places ps (levels n p (suc l)) ≡ map (place_at ps) (free_list n p) → get_or ps l Argument
        ≡ place_at ps n → places ps (kept z l (levels n p (suc l))) ≡ map (place_at ps) (kept z n (free_list n p))
    go true h g = rw (h, g) refl
    go false h g = h

pub places_are : (ps : List Place) (p : ℕ → Bool) → places ps (levels (length ps) p 0)
    ≡ map (place_at ps) (free_list (length ps) p)
places_are ps p = places_from ps (length ps) p 0 (omega arith)

pub freeing_length : (ls : List ℕ) (ps : List Place) (j : ℕ) → length (freeing ps ls j) ≡ length ps
freeing_length [] ps j = refl
freeing_length (l ∷ ls) ps j = freeing_length ls (set ps l (Free j)) (suc j) ∙ length-set ps l (Free j)

-- levels before the first stay
stay : (n : ℕ) (p : ℕ → Bool) (l : ℕ) (ps : List Place) (j m : ℕ) → m < l → get_or (freeing ps (levels n p l) j) m
    Argument ≡ get_or ps m Argument
stay zero p l ps j m lt = refl
stay (suc n) p l ps j m lt = go (p n) (λ ps j. stay n p (suc l) ps j m (omega arith))
  where
    go : (z : Bool)
        → ((ps : List Place) (j : ℕ) → get_or (freeing ps (levels n p (suc l)) j) m Argument ≡ get_or ps m Argument)
        → get_or (freeing ps (kept z l (levels n p (suc l))) j) m Argument ≡ get_or ps m Argument
    go true h = h (set ps l (Free j)) (suc j) ∙ get_or-set_other ps l m (Free j) Argument (λ e. omega arith)
    go false h = h ps j

-- a free variable stands at its rank
freed : (n : ℕ) (p : ℕ → Bool) (l : ℕ) (ps : List Place) (j i : ℕ) → l + n ≡ length ps → i < n → p i ≡ true
    → get_or (freeing ps (levels n p l) j) (l + (n - 1 - i)) Argument ≡ Free (j + rank n p i)
freed zero p l ps j i e lt q = absurd (omega arith)
freed (suc n) p l ps j i e lt q = go (p n) (n == i) refl refl (λ ps j e lt. freed n p (suc l) ps j i e lt q)
  where
    go : (z y : Bool) → p n ≡ z → (n == i) ≡ y
        → ((ps : List Place) (j : ℕ) → suc l + n ≡ length ps → i < n → get_or (freeing ps (levels n p (suc l)) j)
        (suc l + (n - 1 - i)) Argument ≡ Free (j + rank n p i)) → get_or (freeing ps (kept z l (levels n p (suc l))) j)
        (l + (suc n - 1 - i)) Argument ≡ Free (j + after y z (rank n p i))
    go true true f g h =
        let r : n ≡ i = eqb-true n i g in
        let k : l + (suc n - 1 - i) ≡ l = omega arith in
        let z : j ≡ j + 0 = omega arith in
        ap (λ m. get_or (freeing (set ps l (Free j)) (levels n p (suc l)) (suc j)) m Argument) k
        ∙ (stay n p (suc l) (set ps l (Free j)) (suc j) l (omega arith)
        ∙ (get_or-set_same ps l (Free j) Argument (omega arith) ∙ ap Free z))
    go true false f g h =
        let r : n ≡ i → ⊥ = eqb-false n i g in
        let k : l + (suc n - 1 - i) ≡ suc l + (n - 1 - i) = omega arith in
        let z : suc j + rank n p i ≡ j + suc (rank n p i) = omega arith in
        ap (λ m. get_or (freeing (set ps l (Free j)) (levels n p (suc l)) (suc j)) m Argument) k
        ∙ (h (set ps l (Free j)) (suc j) (e' ∙ sym (length-set ps l (Free j))) (omega arith) ∙ ap Free z)
      where
        e' : suc l + n ≡ length ps
        e' = omega arith
    go false true f g h = let r : n ≡ i = eqb-true n i g in let c : p n ≡ true = ap p r ∙ q in absurd (cc)
    go false false f g h =
        let r : n ≡ i → ⊥ = eqb-false n i g in
        let k : l + (suc n - 1 - i) ≡ suc l + (n - 1 - i) = omega arith in
        ap (λ m. get_or (freeing ps (levels n p (suc l)) j) m Argument) k ∙ h ps j (omega arith) (omega arith)

free_at : (ps : List Place) (p : ℕ → Bool) (i : ℕ) → i < length ps → p i ≡ true
    → place_at (freeing ps (levels (length ps) p 0) 0) i ≡ Free (rank (length ps) p i)
free_at ps p i lt q =
    let n = freeing_length (levels (length ps) p 0) ps 0 in
    let lt' : i < length (freeing ps (levels (length ps) p 0) 0) = omega arith in
    let k : length (freeing ps (levels (length ps) p 0) 0) - 1 - i ≡ 0 + (length ps - 1 - i) = omega arith in
    let z : 0 + rank (length ps) p i ≡ rank (length ps) p i = omega arith in
    place_read (freeing ps (levels (length ps) p 0) 0) i lt'
    ∙ (ap (λ m. get_or (freeing ps (levels (length ps) p 0) 0) m Argument) k
    ∙ (freed (length ps) p 0 ps 0 i (omega arith) lt q ∙ ap Free z))

-- within a function the variables that occur are where they should be
pub in_function : (e : Expression) (ps : List Place) (i : ℕ) → i < suc (length ps) → occurs e i ≡ true
    → place_at (freeing ps (levels (length ps) (fun_free e) 0) 0 ++ own_places false) i ≡ fun_places e (length ps) i
in_function e ps i lt o = ap (λ f. f i) (pushed (freeing ps (levels (length ps) (fun_free e) 0) 0) Argument) ∙ go i lt o
  where
    go : (i : ℕ) → i < suc (length ps) → occurs e i ≡ true
        → here Argument (place_at (freeing ps (levels (length ps) (fun_free e) 0) 0)) i ≡ fun_places e (length ps) i
    go zero lt o = refl
    go (suc i) lt o = free_at ps (fun_free e) i (omega arith) o

pub in_recursive : (e : Expression) (ps : List Place) (i : ℕ) → i < suc (suc (length ps)) → occurs e i ≡ true
    → place_at (freeing ps (levels (length ps) (fix_free e) 0) 0 ++ own_places true) i ≡ fix_places e (length ps) i
in_recursive e ps i lt o =
    ap (λ qs. place_at qs i) (sym (append_assoc inner (Own ∷ []) (Argument ∷ [])))
    ∙ (ap (λ f. f i) (pushed (inner ++ Own ∷ []) Argument)
    ∙ (ap (λ f. here Argument f i) (pushed inner Own) ∙ go i lt o))
  where
    inner : List Place
    inner = freeing ps (levels (length ps) (fix_free e) 0) 0

    go : (i : ℕ) → i < suc (suc (length ps)) → occurs e i ≡ true
        → here Argument (here Own (place_at (freeing ps (levels (length ps) (fix_free e) 0) 0))) i
        ≡ fix_places e (length ps) i
    go zero lt o = refl
    go (suc zero) lt o = refl
    go (suc (suc i)) lt o = free_at ps (fix_free e) i (omega arith) o
