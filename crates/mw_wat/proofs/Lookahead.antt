-- What a reader answers depends on the tokens that it takes and on the next one alone.
use Rattle.std.proofs.Common.{◌≡◌, ℕ, zero, suc, ◌+◌, ◌<◌, ◌≤◌, List, [], ◌∷◌, ◌++◌, refl, ap, sym, ◌∙◌, subst, arith}
use Rattle.std.proofs.Common.{Option, Some, None}
use Rattle.mw_wat.specs.Tokens.{PureToken}
use Rattle.mw_wat.specs.Lexing.{Tokens, stop, token}
use Rattle.mw_wat.specs.Reading.{Read, got, bad, Reader, count, ◌>>=◌, gives, fails, peek, one_of, skip, one_more}
use Rattle.mw_wat.specs.Reading.{some_of, all_of}
use Rattle.mw_wat.proofs.TokensOfText.{Placed, p_here, p_there}

-- both stop, or both go on with the same token
pub data SameHead : Tokens → Tokens → Type 0 where
  both_stop : {a b : ℕ} → SameHead (stop a) (stop b)
  both_go : {a b : ℕ} {t : PureToken} {r s : Tokens} → SameHead (token a t r) (token b t s)

-- what goes on as what is left here; where nothing is left here, no token was looked at
pub data Goes : Tokens → Tokens → Type 0 where
  any : {a : ℕ} {vs : Tokens} → Goes (stop a) vs
  same : {a b : ℕ} {t : PureToken} {r s : Tokens} → Goes (token a t r) (token b t s)

pub goes : {ts us : Tokens} → SameHead ts us → Goes ts us
goes both_stop = any
goes both_go = same

pub goes_token : {at : ℕ} {t : PureToken} {rest us : Tokens} → Goes (token at t rest) us → SameHead
    (token at t rest) us
goes_token same = both_go

pub data LocalAt {A : Type 0} (r : Reader A) (ts : Tokens) : Type 0 where
  gets : (front : List PureToken) (x : A) (rest : Tokens) → Placed ts front rest → r ts ≡ got x rest
      → ((us vs : Tokens) → Placed us front vs → Goes rest vs → r us ≡ got x vs) → LocalAt r ts
  loses : (front : List PureToken) (rest : Tokens) → Placed ts front rest → r ts ≡ bad rest
      → ((us vs : Tokens) → Placed us front vs → SameHead rest vs → r us ≡ bad vs) → LocalAt r ts

abbrev pub Local : {A : Type 0} → Reader A → Type 0
Local r = (ts : Tokens) → LocalAt r ts

pub local_gives : {A : Type 0} (x : A) → Local (gives x)
local_gives x ts = gets [] x ts p_here refl λ us vs p h. by_here p
  where
    by_here : {us vs : Tokens} → Placed us [] vs → gives x us ≡ got x vs
    by_here p_here = refl

pub local_fails : {A : Type 0} → Local (fails {A = A})
local_fails {A = A} ts = loses [] ts p_here refl λ us vs p h. by_here p
  where
    by_here : {us vs : Tokens} → Placed us [] vs → fails {A = A} us ≡ bad vs
    by_here p_here = refl

pub local_one : {A : Type 0} (means : PureToken → Option A) → Local (one_of means)
local_one means (stop at) = loses [] (stop at) p_here refl λ us vs p h. stopped p h
  where
    stopped : {us vs : Tokens} → Placed us [] vs → SameHead (stop at) vs → one_of means us ≡ bad vs
    stopped p_here both_stop = refl
local_one means (token at t rest) = by_meaning (means t) refl
  where
    taken : {x : _} → means t ≡ Some x → {us vs : Tokens} → Placed us (t ∷ []) vs → one_of means us ≡ got x vs
    taken e (p_there p_here) = rw e refl

    left : means t ≡ None → {us vs : Tokens} → Placed us [] vs → SameHead (token at t rest) vs
        → one_of means us ≡ bad vs
    left e p_here both_go = rw e refl

    by_meaning : (o : Option _) → means t ≡ o → LocalAt (one_of means) (token at t rest)
    by_meaning None e = loses [] (token at t rest) p_here (rw e refl) λ us vs p h. left e p h
    by_meaning (Some x) e = gets (t ∷ []) x rest (p_there p_here) (rw e refl) λ us vs p h. taken e p

-- one reader behind another
pub placed_parts : {us vs : Tokens} (xs ys : List PureToken) → Placed us (xs ++ ys) vs → (m : Tokens) × Placed us xs m
    × Placed m ys vs
placed_parts {us = us} [] ys p = (us, p_here, p)
placed_parts {vs = vs} (_ ∷ xs) ys (p_there {ts = ts} p) = let q = placed_parts {us = ts} xs ys p in
    (q.0, p_there q.1, q.2)

pub placed_joined : {us ms vs : Tokens} (xs ys : List PureToken) → Placed us xs ms → Placed ms ys vs → Placed us
    (xs ++ ys) vs
placed_joined [] ys p_here q = q
placed_joined (_ ∷ xs) ys (p_there {ts = ts} p) q = p_there (placed_joined {us = ts} xs ys p q)

same_heads : (ys : List PureToken) {ms vs ks ws : Tokens} → Placed ms ys vs → Placed ks ys ws → SameHead vs ws
    → SameHead ms ks
same_heads [] p_here p_here h = h
same_heads (y ∷ ys) (p_there p) (p_there q) h = both_go

pub goes_heads : (ys : List PureToken) {ms vs ks ws : Tokens} → Placed ms ys vs → Placed ks ys ws → Goes vs ws
    → Goes ms ks
goes_heads [] p_here p_here h = h
goes_heads (y ∷ ys) (p_there p) (p_there q) h = same

pub local_then : {A B : Type 0} (r : Reader A) (f : A → Reader B) → Local r → ((x : A) → Local (f x)) → Local
    (r >>= f)
local_then r f a b ts = by_first (a ts)
  where
    by_second : (front : List PureToken) (x : _) (mid : Tokens) → Placed ts front mid → r ts ≡ got x mid
        → ((us vs : Tokens) → Placed us front vs → Goes mid vs → r us ≡ got x vs) → LocalAt (f x) mid → LocalAt
        (r >>= f) ts
    by_second front x mid p e l (gets more y rest q d k) = gets (front ++ more) y rest (placed_joined front more p q)
        (rw e d) λ us vs s h.
        let m = placed_parts front more s in
        rw (l us m.0 m.1 (goes_heads more q m.2 h)) (k m.0 vs m.2 h)
    by_second front x mid p e l (loses more rest q d k) = loses (front ++ more) rest (placed_joined front more p q)
        (rw e d) λ us vs s h.
        let m = placed_parts front more s in
        rw (l us m.0 m.1 (goes (same_heads more q m.2 h))) (k m.0 vs m.2 h)

    by_first : LocalAt r ts → LocalAt (r >>= f) ts
    by_first (gets front x mid p e l) = by_second front x mid p e l (b x mid)
    by_first (loses front rest p e l) = loses front rest p (rw e refl) λ us vs s h. rw (l us vs s h) refl

-- by the token in hand
pub local_skip : {A : Type 0} (r : Reader A) → Local r → Local (skip r)
local_skip {A = A} r a (stop at) = loses [] (stop at) p_here refl λ us vs p h. stopped p h
  where
    stopped : {us vs : Tokens} → Placed us [] vs → SameHead (stop at) vs → skip r us ≡ bad vs
    stopped p_here both_stop = refl
local_skip {A = A} r a (token at t rest) = by_rest (a rest)
  where
    got_behind : {front : List PureToken} {x : A} {mid us vs : Tokens}
        → ((us vs : Tokens) → Placed us front vs → Goes mid vs → r us ≡ got x vs) → Placed us (t ∷ front) vs
        → Goes mid vs → skip r us ≡ got x vs
    got_behind l (p_there {ts = us} p) h = l us _ p h

    bad_behind : {front : List PureToken} {mid us vs : Tokens}
        → ((us vs : Tokens) → Placed us front vs → SameHead mid vs → r us ≡ bad vs) → Placed us (t ∷ front) vs
        → SameHead mid vs → skip r us ≡ bad vs
    bad_behind l (p_there {ts = us} p) h = l us _ p h

    by_rest : LocalAt r rest → LocalAt (skip r) (token at t rest)
    by_rest (gets front x mid p e l) = gets (t ∷ front) x mid (p_there p) e λ us vs q h. got_behind l q h
    by_rest (loses front mid p e l) = loses (t ∷ front) mid (p_there p) e λ us vs q h. bad_behind l q h

pub local_peek : {A : Type 0} (f : PureToken → Reader A) → ((t : PureToken) → Local (f t)) → Local (peek f)
local_peek {A = A} f a (stop at) = loses [] (stop at) p_here refl λ us vs p h. stopped p h
  where
    stopped : {us vs : Tokens} → Placed us [] vs → SameHead (stop at) vs → peek f us ≡ bad vs
    stopped p_here both_stop = refl
local_peek {A = A} f a (token at t rest) = by_rest (a t (token at t rest))
  where
    same_token : {us : Tokens} → SameHead (token at t rest) us → peek f us ≡ f t us
    same_token both_go = refl

    by_rest : LocalAt (f t) (token at t rest) → LocalAt (peek f) (token at t rest)
    by_rest (gets front x mid p e l) = gets front x mid p e λ us vs q h. same_token
        (goes_token (goes_heads front p q h)) ∙ l us vs q h
    by_rest (loses front mid p e l) = loses front mid p e λ us vs q h. same_token (same_heads front p q h)
        ∙ l us vs q h

-- lists of tokens of one kind
pub local_some : {A : Type 0} (n : ℕ) (means : PureToken → Option A) → Local (some_of n means)
local_some zero means = local_gives []
local_some (suc n) means = local_peek (λ t. one_more (some_of n means) (means t))
    (λ t. by_meaning (local_some n means) (means t))
  where
    by_meaning : Local (some_of n means) → (o : Option _) → Local (one_more (some_of n means) o)
    by_meaning a None = local_gives []
    by_meaning a (Some x) = local_skip (some_of n means >>= λ xs. gives (x ∷ xs))
        (local_then (some_of n means) (λ xs. gives (x ∷ xs)) a (λ xs. local_gives (x ∷ xs)))

pub local_all : {A : Type 0} (means : PureToken → Option A) → Local (all_of means)
local_all {A = A} means (stop at) = loses [] (stop at) p_here refl λ us vs p h. stopped p h
  where
    stopped : {us vs : Tokens} → Placed us [] vs → SameHead (stop at) vs → all_of means us ≡ bad vs
    stopped p_here both_stop = refl
local_all {A = A} means (token at t rest) = by_meaning (local_all means rest) (means t) refl
  where
    ends_here : means t ≡ None → {us vs : Tokens} → Placed us [] vs → Goes (token at t rest) vs
        → all_of means us ≡ got [] vs
    ends_here e p_here same = rw e refl

    got_behind : {x : A} {xs : List A} {front : List PureToken} {mid us vs : Tokens} → means t ≡ Some x
        → ((us vs : Tokens) → Placed us front vs → Goes mid vs → all_of means us ≡ got xs vs) → Placed us
        (t ∷ front) vs → Goes mid vs → all_of means us ≡ got (x ∷ xs) vs
    got_behind e l (p_there {ts = us} p) h = rw (e, l us _ p h) refl

    bad_behind : {x : A} {front : List PureToken} {mid us vs : Tokens} → means t ≡ Some x
        → ((us vs : Tokens) → Placed us front vs → SameHead mid vs → all_of means us ≡ bad vs) → Placed us
        (t ∷ front) vs → SameHead mid vs → all_of means us ≡ bad vs
    bad_behind e l (p_there {ts = us} p) h = rw (e, l us _ p h) refl

    by_rest : (x : A) → means t ≡ Some x → LocalAt (all_of means) rest → LocalAt (all_of means) (token at t rest)
    by_rest x e (gets front xs mid p d l) = gets (t ∷ front) (x ∷ xs) mid (p_there p)
        (rw (e, d) refl) λ us vs q h. got_behind e l q h
    by_rest x e (loses front mid p d l) = loses (t ∷ front) mid (p_there p)
        (rw (e, d) refl) λ us vs q h. bad_behind e l q h

    by_meaning : LocalAt (all_of means) rest → (o : Option A) → means t ≡ o → LocalAt (all_of means) (token at t rest)
    by_meaning a None e = gets [] [] (token at t rest) p_here (rw e refl) λ us vs q h. ends_here e q h
    by_meaning a (Some x) e = by_rest x e a

-- no reader gives back more tokens than it was given
pub placed_count : {us vs : Tokens} (xs : List PureToken) → Placed us xs vs → count vs ≤ count us
placed_count {us = us} [] p_here = omega arith
placed_count {vs = vs} (_ ∷ xs) (p_there {ts = ts} p) = omega (arith, placed_count {us = ts} xs p)

pub no_longer : {A : Type 0} (r : Reader A) → Local r → (ts : Tokens) (x : A) (rest : Tokens) → r ts ≡ got x rest
    → count rest ≤ count ts
no_longer {A = A} r a ts x rest e = by_local (a ts)
  where
    behind : Read A → Tokens
    behind (got x rest) = rest
    behind (bad rest) = rest

    by_local : LocalAt r ts → count rest ≤ count ts
    by_local (gets front y mid p d l) = let same : mid ≡ rest = ap behind (sym d ∙ e) in subst
        (λ m. count m ≤ count ts) same (placed_count front p)
    by_local (loses front mid p d l) = let same : mid ≡ rest = ap behind (sym d ∙ e) in subst
        (λ m. count m ≤ count ts) same (placed_count front p)

-- a reader that is given by a bounded one, where the bound is above the number of tokens
pub same_front : {us vs : Tokens} (xs ys : List PureToken) → Placed us xs vs → Placed us ys vs → xs ≡ ys
same_front [] [] p q = refl
same_front [] (y ∷ ys) p_here (p_there {ts = ts} q) = absurd (let k = placed_count {us = ts} ys q in omega arith)
same_front (x ∷ xs) [] (p_there {ts = ts} p) p_here = absurd (let k = placed_count {us = ts} xs p in omega arith)
same_front (x ∷ xs) (_ ∷ ys) (p_there {ts = ts} p) (p_there q) = ap (λ zs. x ∷ zs) (same_front {us = ts} xs ys p q)

behind : {A : Type 0} → Read A → Tokens
behind (got x rest) = rest
behind (bad rest) = rest

value : {A : Type 0} → A → Read A → A
value y (got x rest) = x
value y (bad rest) = y

pub got_parts : {A : Type 0} (x y : A) (r s : Tokens) → got x r ≡ got y s → (x ≡ y) × (r ≡ s)
unfolding behind value
got_parts x y r s e = (ap (value x) e, ap behind e)

pub bad_parts : {A : Type 0} (p : Read A) (r s : Tokens) → p ≡ bad r → p ≡ bad s → r ≡ s
unfolding behind
bad_parts p r s d e = sym (ap behind d) ∙ ap behind e

never : {A : Type 0} (x : A) (r s : Tokens) → got x r ≡ bad s → ⊥
never x r s e = cc

pub local_bounded : {A : Type 0} (r : Reader A) (R : ℕ → Reader A)
    → ((n : ℕ) (ts : Tokens) → count ts < n → r ts ≡ R n ts) → ((n : ℕ) → Local (R n)) → Local r
local_bounded {A = A} r R e a ts = by_local (a (suc (count ts)) ts)
  where
    at_got : (front : List PureToken) (x : A) (rest us vs : Tokens) (n : ℕ) → count ts < n → count us < n
        → Placed ts front rest → r ts ≡ got x rest → Placed us front vs → Goes rest vs → LocalAt (R n) ts
        → r us ≡ got x vs
    at_got front x rest us vs n k m p d q h (gets front' y mid p' d' l) =
        let parts = got_parts y x mid rest (sym d' ∙ sym (e n ts k) ∙ d) in
        let fronts = same_front front' front (subst (λ r. Placed ts front' r) parts.1 p') p in
        e n us m ∙ l us vs (subst (λ f. Placed us f vs) (sym fronts) q) (subst (λ r. Goes r vs) (sym parts.1) h)
        ∙ ap (λ z. got z vs) parts.0
    at_got front x rest us vs n k m p d q h (loses front' mid p' d' l) = absurd
        (never x rest mid (sym d ∙ e n ts k ∙ d'))

    at_bad : (front : List PureToken) (rest us vs : Tokens) (n : ℕ) → count ts < n → count us < n
        → Placed ts front rest → r ts ≡ bad rest → Placed us front vs → SameHead rest vs → LocalAt (R n) ts
        → r us ≡ bad vs
    at_bad front rest us vs n k m p d q h (gets front' y mid p' d' l) = absurd
        (never y mid rest (sym d' ∙ sym (e n ts k) ∙ d))
    at_bad front rest us vs n k m p d q h (loses front' mid p' d' l) =
        let parts = bad_parts (R n ts) mid rest d' (sym (e n ts k) ∙ d) in
        let fronts = same_front front' front (subst (λ r. Placed ts front' r) parts p') p in
        e n us m ∙ l us vs (subst (λ f. Placed us f vs) (sym fronts) q) (subst (λ r. SameHead r vs) (sym parts) h)

    by_local : LocalAt (R (suc (count ts))) ts → LocalAt r ts
    by_local (gets front x rest p d l) =
        let d2 = e (suc (count ts)) ts (omega arith) ∙ d in
        gets front x rest p d2 λ us vs q h. at_got front x rest us vs (suc (count ts + count us)) (omega arith)
        (omega arith) p d2 q h (a (suc (count ts + count us)) ts)
    by_local (loses front rest p d l) =
        let d2 = e (suc (count ts)) ts (omega arith) ∙ d in
        loses front rest p d2 λ us vs q h. at_bad front rest us vs (suc (count ts + count us)) (omega arith)
        (omega arith) p d2 q h (a (suc (count ts + count us)) ts)
