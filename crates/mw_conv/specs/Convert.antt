-- Closure conversion as a function: the code of a term, and its functions in pre-order.
use Rattle.std.specs.Prelude.{ℕ, zero, suc, ◌+◌, ◌==◌, max, pos, Bool, true, false, List, [], ◌∷◌, ◌++◌, length, map}
use Rattle.mw_term.specs.Terms as x
use Rattle.mw_term.specs.Terms.{Expression}
use Rattle.mw_meaning.specs.KernelMeaning.{occurs}
use Rattle.mw_ir.specs.declared.place.Place.{Place}
use Rattle.mw_ir.specs.declared.place.Place.TheVariants.{Argument, Own, Slot, Free}
use Rattle.mw_ir.specs.Ir.{Ir, num, truth, get, closure, app, bind, cond, pair, fst, snd, prim, IrFunc}

-- the first place for variable 0, and the others for those outside
abbrev pub here : Place → (ℕ → Place) → ℕ → Place
here p ctx zero = p
here p ctx (suc i) = ctx i

abbrev pub kept : Bool → ℕ → List ℕ → List ℕ
kept true i is = i ∷ is
kept false i is = is

-- the variables below d with p, outermost first
abbrev pub free_list : ℕ → (ℕ → Bool) → List ℕ
free_list zero p = []
free_list (suc d) p = kept (p d) d (free_list d p)

abbrev pub after : Bool → Bool → ℕ → ℕ
after true b r = zero
after false true r = suc r
after false false r = r

-- where variable i stands in that list
abbrev pub rank : ℕ → (ℕ → Bool) → ℕ → ℕ
rank zero p i = zero
rank (suc d) p i = after (d == i) (p d) (rank d p i)

-- the variables of a function's body that stand outside it
abbrev pub fun_free : Expression → ℕ → Bool
fun_free e i = occurs e (suc i)

abbrev pub fix_free : Expression → ℕ → Bool
fix_free e i = occurs e (suc (suc i))

abbrev pub fun_places : Expression → ℕ → ℕ → Place
fun_places e d = here Argument (λ i. Free (rank d (fun_free e) i))

abbrev pub fix_places : Expression → ℕ → ℕ → Place
fix_places e d = here Argument (here Own (λ i. Free (rank d (fix_free e) i)))

-- how many functions stand in a term
abbrev pub funs : Expression → ℕ
funs (x.fun e) = suc (funs e)
funs (x.fix e) = suc (funs e)
funs (x.app f a) = funs f + funs a
funs (x.bind a e) = funs a + funs e
funs (x.cond c a b) = funs c + (funs a + funs b)
funs (x.pair a b) = funs a + funs b
funs (x.fst e) = funs e
funs (x.snd e) = funs e
funs (x.prim p a b) = funs a + funs b
funs _ = zero

-- how many slots the lets of a term need, inner functions aside
abbrev pub lets : Expression → ℕ
lets (x.app f a) = max (lets f) (lets a)
lets (x.bind a e) = max (lets a) (suc (lets e))
lets (x.cond c a b) = max (lets c) (max (lets a) (lets b))
lets (x.pair a b) = max (lets a) (lets b)
lets (x.fst e) = lets e
lets (x.snd e) = lets e
lets (x.prim p a b) = max (lets a) (lets b)
lets _ = zero

-- the code of a term under d binders, s of them lets of the same function, where ctx says where the variables are and k
-- is the next function's number
abbrev pub code : Expression → (k d s : ℕ) → (ℕ → Place) → Ir
code (x.num n) k d s ctx = num n
code (x.truth b) k d s ctx = truth b
code (x.var i) k d s ctx = get (ctx i)
code (x.fun e) k d s ctx = closure k (map ctx (free_list d (fun_free e)))
code (x.fix e) k d s ctx = closure k (map ctx (free_list d (fix_free e)))
code (x.app f a) k d s ctx = app (code f k d s ctx) (code a (k + funs f) d s ctx)
code (x.bind a e) k d s ctx = bind s (code a k d s ctx) (code e (k + funs a) (suc d) (suc s) (here (Slot s) ctx))
code (x.cond c a b) k d s ctx = cond (code c k d s ctx) (code a (k + funs c) d s ctx)
    (code b (k + funs c + funs a) d s ctx)
code (x.pair a b) k d s ctx = pair (code a k d s ctx) (code b (k + funs a) d s ctx)
code (x.fst e) k d s ctx = fst (code e k d s ctx)
code (x.snd e) k d s ctx = snd (code e k d s ctx)
code (x.prim p a b) k d s ctx = prim p (code a k d s ctx) (code b (k + funs a) d s ctx)
code _ k d s ctx = num (pos 0)

abbrev pub function_of : ℕ → ℕ → Ir → IrFunc
function_of k slots body = record { free = k; slots = slots; body = body }

-- the functions of a term under d binders, numbered from k on
abbrev pub functions : Expression → (k d : ℕ) → List IrFunc
functions (x.fun e) k d = function_of (length (free_list d (fun_free e))) (lets e)
    (code e (suc k) (suc d) 0 (fun_places e d)) ∷ functions e (suc k) (suc d)
functions (x.fix e) k d = function_of (length (free_list d (fix_free e))) (lets e)
    (code e (suc k) (suc (suc d)) 0 (fix_places e d)) ∷ functions e (suc k) (suc (suc d))
functions (x.app f a) k d = functions f k d ++ functions a (k + funs f) d
functions (x.bind a e) k d = functions a k d ++ functions e (k + funs a) (suc d)
functions (x.cond c a b) k d = functions c k d ++ (functions a (k + funs c) d ++ functions b (k + funs c + funs a) d)
functions (x.pair a b) k d = functions a k d ++ functions b (k + funs a) d
functions (x.fst e) k d = functions e k d
functions (x.snd e) k d = functions e k d
functions (x.prim p a b) k d = functions a k d ++ functions b (k + funs a) d
functions _ k d = []

-- the conversion of a closed term
abbrev pub converted_body : Expression → Ir
converted_body c = code c 0 0 0 (λ i. Argument)

abbrev pub converted_functions : Expression → List IrFunc
converted_functions c = functions c 0 0

-- the code outside the functions, as a function that has no closure
abbrev pub converted_outside : Expression → IrFunc
converted_outside c = function_of 0 (lets c) (converted_body c)
