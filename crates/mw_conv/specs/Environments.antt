-- A term with its environment, as what the substitutions so far have made of it.
use Rattle.std.proofs.Common.{◌≡◌, ℕ, zero, suc, List, [], ◌∷◌, refl, ap}
use Rattle.mw_term.specs.Terms.{KernelTerm, KernelValue, num, truth, var, fun, fix, app, bind, cond, pair, fst, snd}
use Rattle.mw_term.specs.Terms.{prim, done}
use Rattle.mw_term.specs.Substitution.{instantiate, pick}

abbrev pub pick_all : ℕ → ℕ → List KernelValue → (ℕ → KernelTerm) → KernelTerm
pick_all zero i [] other = other i
pick_all zero zero (v ∷ env) other = done v
pick_all zero (suc i) (v ∷ env) other = pick_all zero i env other
pick_all (suc k) zero env other = other zero
pick_all (suc k) (suc i) env other = pick_all k i env (λ j. other (suc j))

-- the environment's values for the variables from k on
abbrev pub closing : KernelTerm → ℕ → List KernelValue → KernelTerm
closing (num n) k env = num n
closing (truth b) k env = truth b
closing (var i) k env = pick_all k i env var
closing (fun free e) k env = fun free (closing e (suc k) env)
closing (fix free e) k env = fix free (closing e (suc (suc k)) env)
closing (app f a) k env = app (closing f k env) (closing a k env)
closing (bind d e) k env = bind (closing d k env) (closing e (suc k) env)
closing (cond c a b) k env = cond (closing c k env) (closing a k env) (closing b k env)
closing (pair a b) k env = pair (closing a k env) (closing b k env)
closing (fst e) k env = fst (closing e k env)
closing (snd e) k env = snd (closing e k env)
closing (prim p a b) k env = prim p (closing a k env) (closing b k env)
closing (done w) k env = done w

rest_same : (f : KernelTerm → KernelTerm) (o o' : ℕ → KernelTerm)
    → ((w : KernelValue) → f (done w) ≡ done w) → ((j : ℕ) → f (o j) ≡ o' j) → (i : ℕ) (env : List KernelValue)
    → f (pick_all zero i env o) ≡ pick_all zero i env o'
rest_same f o o' d h i [] = h i
rest_same f o o' d h zero (w ∷ env) = d w
rest_same f o o' d h (suc i) (w ∷ env) = rest_same f o o' d h i env

pick_more : (f : KernelTerm → KernelTerm) (v : KernelValue) → ((w : KernelValue) → f (done w) ≡ done w)
    → (k i : ℕ) (env : List KernelValue) (o o' : ℕ → KernelTerm) → ((j : ℕ) → f (o j) ≡ pick k j (done v) o')
    → f (pick_all (suc k) i env o) ≡ pick_all k i (v ∷ env) o'
pick_more f v d zero zero env o o' h = h zero
pick_more f v d zero (suc i) env o o' h = rest_same f (λ j. o (suc j)) o' d (λ j. h (suc j)) i env
pick_more f v d (suc k) zero env o o' h = h zero
pick_more f v d (suc k) (suc i) env o o' h = pick_more f v d k i env (λ j. o (suc j)) (λ j. o' (suc j)) (λ j. h (suc j))

-- one value more
pub closing_more : (e : KernelTerm) (k : ℕ) (v : KernelValue) (env : List KernelValue)
    → instantiate (closing e (suc k) env) k v ≡ closing e k (v ∷ env)
closing_more (num n) k v env = refl
closing_more (truth b) k v env = refl
closing_more (var i) k v env = pick_more (λ e. instantiate e k v) v (λ w. refl) k i env var var (λ j. refl)
closing_more (fun free e) k v env = ap (λ x. fun free x) (closing_more e (suc k) v env)
closing_more (fix free e) k v env = ap (λ x. fix free x) (closing_more e (suc (suc k)) v env)
closing_more (app f a) k v env = rw (closing_more f k v env, closing_more a k v env) refl
closing_more (bind d e) k v env = rw (closing_more d k v env, closing_more e (suc k) v env) refl
closing_more (cond c a b) k v env = rw (closing_more c k v env, closing_more a k v env, closing_more b k v env) refl
closing_more (pair a b) k v env = rw (closing_more a k v env, closing_more b k v env) refl
closing_more (fst e) k v env = ap fst (closing_more e k v env)
closing_more (snd e) k v env = ap snd (closing_more e k v env)
closing_more (prim p a b) k v env = rw (closing_more a k v env, closing_more b k v env) refl
closing_more (done w) k v env = refl
