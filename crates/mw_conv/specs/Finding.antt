-- What is found of the functions of a term, before it is converted. The level of a variable is the number of binders
-- outside its own, so that the outermost has level 0.
use Rattle.std.specs.Prelude.{ℕ, zero, suc, Bool, true, false, ◌||◌, List, [], ◌∷◌, ◌++◌, length, set, get_or, ◌≡◌}
use Rattle.mw_term.specs.Terms as x
use Rattle.mw_term.specs.Terms.{Expression}
use Rattle.mw_ir.specs.declared.place.Place.{Place}
use Rattle.mw_ir.specs.declared.place.Place.TheVariants.{Argument, Own, Free}
use Rattle.mw_conv.specs.declared.found.FoundFunction.{FoundFunction}
use Rattle.mw_conv.specs.Convert.{kept, fun_free, fix_free, lets}

-- marks by level: those that are there, and one at each variable with p; the last level is that of variable 0
abbrev pub joined : List Bool → (ℕ → Bool) → List Bool
joined [] p = []
joined (b ∷ bs) p = (b || p (length bs)) ∷ joined bs p

-- the levels that are marked, where the first is l
abbrev pub marked : List Bool → ℕ → List ℕ
marked [] l = []
marked (b ∷ bs) l = kept b l (marked bs (suc l))

-- the levels of the variables below d with p, where the outermost has level l
abbrev pub levels : ℕ → (ℕ → Bool) → ℕ → List ℕ
levels zero p l = []
levels (suc d) p l = kept (p d) l (levels d p (suc l))

-- a mark at each of these levels
abbrev pub marking : List Bool → List ℕ → List Bool
marking bs [] = bs
marking bs (l ∷ ls) = marking (set bs l true) ls

-- free variables from number j on at each of these levels
abbrev pub freeing : List Place → List ℕ → ℕ → List Place
freeing ps [] j = ps
freeing ps (l ∷ ls) j = freeing (set ps l (Free j)) ls (suc j)

-- the places at these levels
abbrev pub places : List Place → List ℕ → List Place
places ps [] = []
places ps (l ∷ ls) = get_or ps l Argument ∷ places ps ls

abbrev pub function_found : Expression → ℕ → (ℕ → Bool) → FoundFunction
function_found e d p = record { slots = lets e; free = levels d p 0 }

-- what is found of the functions of a term under d binders, of each after those within it
abbrev pub all_found : Expression → ℕ → List FoundFunction
all_found (x.fun e) d = all_found e (suc d) ++ function_found e d (fun_free e) ∷ []
all_found (x.fix e) d = all_found e (suc (suc d)) ++ function_found e d (fix_free e) ∷ []
all_found (x.app f a) d = all_found f d ++ all_found a d
all_found (x.bind a e) d = all_found a d ++ all_found e (suc d)
all_found (x.cond c a b) d = all_found c d ++ (all_found a d ++ all_found b d)
all_found (x.pair a b) d = all_found a d ++ all_found b d
all_found (x.fst e) d = all_found e d
all_found (x.snd e) d = all_found e d
all_found (x.prim p a b) d = all_found a d ++ all_found b d
all_found _ d = []

-- the list ends with these
pub record EndsWith (fs gs : List FoundFunction) : Type 0 where
  pub front : List FoundFunction
  pub is : fs ≡ front ++ gs

-- a function, with an own name or without
abbrev pub function : Bool → Expression → Expression
function true e = x.fix e
function false e = x.fun e

-- where a function finds the variables that it binds, the outermost first
abbrev pub own_places : Bool → List Place
own_places true = Own ∷ Argument ∷ []
own_places false = Argument ∷ []
