-- A function with an own name or without: what its conversion takes from that of its body.
use Rattle.std.proofs.Common.{◌≡◌, ℕ, suc, ◌+◌, ◌<◌, ◌≤◌, Bool, true, false, List, [], ◌∷◌, ◌++◌, length, map, reverse}
use Rattle.std.proofs.Common.{refl, ap, ◌∙◌, sym, subst, arith, append_assoc, length-append}
use Rattle.std.specs.Prelude.{◌||◌, slice_index_or, Result, Ok, Err, IfOk}
use Rattle.std.proofs.lemmas.Bool.{eqb-true}
use Rattle.std.proofs.lemmas.List.{reverse-append}
use Rattle.mw_term.specs.Terms as x
use Rattle.mw_term.specs.Terms.{Expression, size}
use Rattle.mw_term.specs.Closed.{ClosedBelow}
use Rattle.mw_meaning.specs.KernelMeaning.{occurs}
use Rattle.mw_ir.specs.declared.place.Place.{Place}
use Rattle.mw_ir.specs.Ir.{Ir, closure, IrFunc}
use Rattle.mw_conv.specs.declared.found.FoundFunction.{FoundFunction}
use Rattle.mw_conv.specs.Contexts.{place_at}
use Rattle.mw_conv.specs.Convert.{free_list, fun_free, fix_free, fun_places, fix_places, funs, lets, code, functions}
use Rattle.mw_conv.specs.Convert.{function_of}
use Rattle.mw_conv.specs.Finding.{levels, freeing, places, own_places, function, function_found, all_found, EndsWith}
use Rattle.mw_conv.proofs.Same.{code_same}
use Rattle.mw_conv.proofs.Contexts.{levels_within, levels_length, free_short, places_are, freeing_length, in_function}
use Rattle.mw_conv.proofs.Contexts.{in_recursive}
use Rattle.mw_conv.proofs.Ends.{ends_left, taken_is}

-- the free variables of a function with an own name or without, its binders, and where it finds variables
abbrev pub outer_free : Bool → Expression → ℕ → Bool
outer_free true e = fix_free e
outer_free false e = fun_free e

abbrev pub within : Bool → ℕ → ℕ
within true d = suc (suc d)
within false d = suc d

abbrev pub body_places : Bool → Expression → ℕ → ℕ → Place
body_places true e d = fix_places e d
body_places false e d = fun_places e d

pub found_is : (r : Bool) (e : Expression) (d : ℕ) → all_found (function r e) d ≡ all_found e (within r d)
    ++ function_found e d (outer_free r e) ∷ []
found_is true e d = refl
found_is false e d = refl

pub funs_is : (r : Bool) (e : Expression) → funs (function r e) ≡ suc (funs e)
funs_is true e = refl
funs_is false e = refl

pub size_is : (r : Bool) (e : Expression) → size (function r e) ≡ size e + 1
size_is true e = refl
size_is false e = refl

pub closed_is : (r : Bool) (e : Expression) (d : ℕ) → ClosedBelow d (function r e) → ClosedBelow (within r d) e
closed_is true e d c = c
closed_is false e d c = c

pub within_is : (r : Bool) (d : ℕ) → within r d ≤ d + 2
within_is true d = omega arith
within_is false d = omega arith

pub code_is : (r : Bool) (e : Expression) (k d s : ℕ) (ctx : ℕ → Place) → code (function r e) k d s ctx
    ≡ closure k (map ctx (free_list d (outer_free r e)))
code_is true e k d s ctx = refl
code_is false e k d s ctx = refl

pub functions_is : (r : Bool) (e : Expression) (k d : ℕ) → functions (function r e) k d
    ≡ function_of (length (free_list d (outer_free r e))) (lets e) (code e (suc k) (within r d) 0 (body_places r e d))
    ∷ functions e (suc k) (within r d)
functions_is true e k d = refl
functions_is false e k d = refl

pub inner_length : (r : Bool) (ps : List Place) (ls : List ℕ) → length (freeing ps ls 0 ++ own_places r)
    ≡ within r (length ps)
inner_length true ps ls = omega (arith, length-append (freeing ps ls 0) (own_places true), freeing_length ls ps 0)
inner_length false ps ls = omega (arith, length-append (freeing ps ls 0) (own_places false), freeing_length ls ps 0)

or_cases : (a b : Bool) (k i : ℕ) → (a ≡ true → i < k) → (b ≡ true → i < k) → a || b ≡ true → i < k
or_cases true b k i f g e = f refl
or_cases false b k i f g e = g e

-- closed code has only variables below its binders
pub occurs_below : (e : Expression) (k i : ℕ) → ClosedBelow k e → occurs e i ≡ true → i < k
occurs_below (x.var j) k i c e = let q = eqb-true j i e in omega (arith, q, c)
occurs_below (x.fun e) k i c o = let r = occurs_below e (suc k) (suc i) c o in omega arith
occurs_below (x.fix e) k i c o = let r = occurs_below e (suc (suc k)) (suc (suc i)) c o in omega arith
occurs_below (x.app f a) k i c o = or_cases (occurs f i) _ k i (occurs_below f k i c.0) (occurs_below a k i c.1) o
occurs_below (x.bind d e) k i c o = or_cases (occurs d i) _ k i (occurs_below d k i c.0)
    (λ q. (let r = occurs_below e (suc k) (suc i) c.1 q in omega arith)) o
occurs_below (x.cond f a b) k i c o = or_cases (occurs f i) _ k i (occurs_below f k i c.0)
    (λ q. or_cases (occurs a i) _ k i (occurs_below a k i c.1) (occurs_below b k i c.2) q) o
occurs_below (x.pair f a) k i c o = or_cases (occurs f i) _ k i (occurs_below f k i c.0) (occurs_below a k i c.1) o
occurs_below (x.fst e) k i c o = occurs_below e k i c o
occurs_below (x.snd e) k i c o = occurs_below e k i c o
occurs_below (x.prim p f a) k i c o = or_cases (occurs f i) _ k i (occurs_below f k i c.0) (occurs_below a k i c.1) o
occurs_below _ k i c o = absurd (cc)

-- the body's code, over the context that is made
pub body_is : (r : Bool) (e : Expression) (ps : List Place) (k : ℕ) → ClosedBelow (within r (length ps)) e
    → code e k (within r (length ps)) 0
    (place_at (freeing ps (levels (length ps) (outer_free r e) 0) 0 ++ own_places r)) ≡ code e k (within r (length ps))
    0 (body_places r e (length ps))
body_is true e ps k c = code_same e k (suc (suc (length ps))) 0 _ _
    (λ i o. in_recursive e ps i (occurs_below e (suc (suc (length ps))) i c o) o)
body_is false e ps k c = code_same e k (suc (length ps)) 0 _ _
    (λ i o. in_function e ps i (occurs_below e (suc (length ps)) i c o) o)

-- what was taken is the function's, and what is left ends with the functions within it
pub the_found : (r : Bool) (e : Expression) (d : ℕ) (fs rest : List FoundFunction) (f : FoundFunction)
    → EndsWith fs (all_found (function r e) d) → fs ≡ rest ++ f ∷ [] → f ≡ function_found e d (outer_free r e)
the_found r e d fs rest f ends q = taken_is fs rest (all_found e (within r d)) f _
    (subst (λ gs. EndsWith fs gs) (found_is r e d) ends) q

pub the_rest : (r : Bool) (e : Expression) (d n : ℕ) (fs rest : List FoundFunction) (f : FoundFunction)
    → EndsWith fs (all_found (function r e) d) → fs ≡ rest ++ f ∷ [] → n ≡ within r d → EndsWith rest (all_found e n)
the_rest r e d n fs rest f ends q m =
    let g = the_found r e d fs rest f ends q in
    rw m (ends_left fs rest (all_found e (within r d)) (f ∷ [])
    (subst (λ gs. EndsWith fs gs) (found_is r e d ∙ ap (λ g. all_found e (within r d) ++ g ∷ []) (sym g)) ends) q)

pub found_again : (r : Bool) (e : Expression) (d n : ℕ) (fs rest more : List FoundFunction) (f : FoundFunction)
    → EndsWith fs (all_found (function r e) d) → fs ≡ rest ++ f ∷ [] → n ≡ within r d → rest ≡ more ++ all_found e n
    → fs ≡ more ++ all_found (function r e) d
found_again r e d n fs rest more f ends q m h =
    let g = the_found r e d fs rest f ends q in
    let h' = rw m at h in
    q ∙ (ap (λ z. z ++ f ∷ []) h'
    ∙ (append_assoc more (all_found e (within r d)) (f ∷ [])
    ∙ ap (λ z. more ++ z) (ap (λ g. all_found e (within r d) ++ g ∷ []) g ∙ sym (found_is r e d))))

pub all_within : (n : ℕ) (p : ℕ → Bool) (ls : List ℕ) → ls ≡ levels n p 0 → (k d : ℕ) → k < length ls
    → slice_index_or ls k d < n
all_within n p ls e = subst (λ ls. (k d : ℕ) → k < length ls → slice_index_or ls k d < n) (sym e)
    (λ k d lt. (let h = levels_within n p 0 k d lt in omega arith))

pub few : (n : ℕ) (p : ℕ → Bool) (ls : List ℕ) → ls ≡ levels n p 0 → length ls ≤ n
few n p ls e = omega (arith, ap length e, levels_length n p 0, free_short n p)

pub inner_within : (r : Bool) (ps inner : List Place) (ls : List ℕ) → inner ≡ freeing ps ls 0 ++ own_places r
    → length inner ≡ within r (length ps)
inner_within r ps inner ls e = ap length e ∙ inner_length r ps ls

-- the closure
pub closure_is : (r : Bool) (e : Expression) (k s : ℕ) (ps held : List Place) (ls : List ℕ)
    → ls ≡ levels (length ps) (outer_free r e) 0 → held ≡ places ps ls → closure k held ≡ code (function r e) k
    (length ps) s (place_at ps)
closure_is r e k s ps held ls f g =
    ap (λ h. closure k h) (g ∙ (ap (λ ls. places ps ls) f ∙ places_are ps (outer_free r e)))
    ∙ sym (code_is r e k (length ps) s (place_at ps))

-- the function, after those within it
pub function_added : (r : Bool) (e : Expression) (ps inner : List Place) (ls : List ℕ) (k left n free slots : ℕ)
    (body : Ir) (old new : List IrFunc) → left ≡ suc k → n ≡ within r (length ps)
    → ls ≡ levels (length ps) (outer_free r e) 0 → inner ≡ freeing ps ls 0 ++ own_places r
    → ClosedBelow (within r (length ps)) e → free ≡ length ls → slots ≡ lets e → body ≡ code e left n 0 (place_at inner)
    → new ≡ old ++ reverse (functions e left n) → new ++ record { free = free; slots = slots; body = body } ∷ [] ≡ old
    ++ reverse (functions (function r e) k (length ps))
function_added r e ps inner ls k left n free slots body old new f g h i c m o b w =
    let inner' : inner ≡ freeing ps (levels (length ps) (outer_free r e) 0) 0 ++ own_places r =
    i ∙ ap (λ ls. freeing ps ls 0 ++ own_places r) h in
    let body' : body ≡ code e (suc k) (within r (length ps)) 0 (body_places r e (length ps)) = (rw (f, g, inner') at b)
    ∙ body_is r e ps (suc k) c in
    let free' : free ≡ length (free_list (length ps) (outer_free r e)) =
    m ∙ (ap length h ∙ levels_length (length ps) (outer_free r e) 0) in
    let w' = rw (f, g) at w in
    rw (functions_is r e k (length ps), w', free', o, body')
    (append_assoc old (reverse (functions e (suc k) (within r (length ps)))) _
    ∙ ap (λ z. old ++ z)
    (sym (reverse-append
    (function_of (length (free_list (length ps) (outer_free r e))) (lets e)
    (code e (suc k) (within r (length ps)) 0 (body_places r e (length ps))) ∷ [])
    (functions e (suc k) (within r (length ps))))))

pub ok_map : {A E : Type 0} (r : Result A E) (P R : A → Type 0) → ((x : A) → P x → R x) → IfOk r P → IfOk r R
ok_map (Ok x) P R f p = f x p
ok_map (Err e) P R f p = tt
