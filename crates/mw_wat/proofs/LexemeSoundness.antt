-- What is read is what the tokens say.
use Rattle.std.proofs.Common.{◌≡◌, ℕ, zero, suc, ◌<◌, ◌≤◌, ◌^◌, List, [], ◌∷◌, ◌++◌, length, map, refl, ap, sym, ◌∙◌}
use Rattle.std.proofs.Common.{subst, arith, Bool, true, false, Option, Some, None, append-nil}
use Rattle.std.specs.Prelude.{if◌then◌else◌}
use Rattle.std.specs.Str.{bytes_eq}
use Rattle.std.proofs.lemmas.Option.{none-some, same_Some}
use Rattle.std.proofs.lemmas.Slice.Eq.{bytes_eq-Decides}
use Rattle.mw_wat.specs.Tokens.{PureToken}
use Rattle.mw_wat.specs.Tokens as t
use Rattle.mw_wat.specs.Lexemes.{Lexeme, left, word, number, octets, token_of, IsInRange}
use Rattle.mw_wat.specs.Lexing.{Tokens, stop, token}
use Rattle.mw_wat.specs.Reading.{Read, got, bad, Reader, and_then, ◌>>=◌, gives, or_bad, one_of, skip, one_more, some_of}
use Rattle.mw_wat.specs.Reading.{in_front, or_here, all_of, as_number, at_most, if_opened, if_word}
use Rattle.mw_key.proofs.NumberWords.{below_found}
use Rattle.mw_wat.proofs.Lookahead.{got_parts}

-- what the reader knows of a lexeme; that strings hold bytes is a fact of lexing
abbrev pub IsKnown : Lexeme → Type 0
IsKnown (octets bytes) = Unit {0}
IsKnown i = IsInRange i

pub data Said : Tokens → List Lexeme → Tokens → Type 0 where
  s_here : {ts : Tokens} → Said ts [] ts
  s_there : {at : ℕ} {i : Lexeme} {is : List Lexeme} {ts rest : Tokens} → IsKnown i → Said ts is rest → Said
      (token at (token_of i) ts) (i ∷ is) rest

said_joined : {ts ms rest : Tokens} (xs : List Lexeme) {ys : List Lexeme} → Said ts xs ms → Said ms ys rest
    → Said ts (xs ++ ys) rest
said_joined [] s_here b = b
said_joined (_ ∷ xs) (s_there {ts = ts} r s) b = s_there r (said_joined {ts = ts} xs s b)

said_first : (i : Lexeme) (at : ℕ) (t : PureToken) {is : List Lexeme} {ts rest : Tokens} → token_of i ≡ t
    → IsKnown i → Said ts is rest → Said (token at t ts) (i ∷ is) rest
said_first i at t {is = is} {ts = ts} {rest = rest} e k s = subst (λ t. Said (token at t ts) (i ∷ is) rest) e
    (s_there k s)

-- one reader behind another
pub record Split {A B : Type 0} (r : Reader A) (f : A → Reader B) (ts : Tokens) (y : B) (rest : Tokens) : Type 0 where
  pub x : A
  pub mid : Tokens
  pub first : r ts ≡ got x mid
  pub second : f x mid ≡ got y rest

pub no_got : {A : Type 0} (a rest : Tokens) (x : A) → bad a ≡ got x rest → ⊥
no_got a rest x e = cc

pub split_got : {A B : Type 0} (r : Reader A) (f : A → Reader B) (ts : Tokens) (y : B) (rest : Tokens)
    → (r >>= f) ts ≡ got y rest → Split r f ts y rest
split_got {A = A} r f ts y rest e = by_read (r ts) refl e
  where
    by_read : (q : Read A) → r ts ≡ q → and_then q f ≡ got y rest → Split r f ts y rest
    by_read (got x mid) d e = record { x = x; mid = mid; first = d; second = e }
    by_read (bad a) d e = absurd (no_got a rest y e)

-- What a reader gives at these tokens: P says what the value has to do with the lexemes that it took.
pub record ReadsAt {A : Type 0} (r : Reader A) (ts : Tokens) (P : A → List Lexeme → Type 0) : Type 0 where
  pub back : (x : A) (rest : Tokens) → r ts ≡ got x rest → (is : List Lexeme) × Said ts is rest × P x is

abbrev pub Reads : {A : Type 0} → Reader A → (A → List Lexeme → Type 0) → Type 0
Reads r P = (ts : Tokens) → ReadsAt r ts P

-- the lexemes are the value's, and the value is as Fits says
abbrev pub Tells : {A : Type 0} → Reader A → (A → List Lexeme) → (A → Type 0) → Type 0
Tells r F Fits = Reads r (λ x is. (is ≡ F x) × Fits x)

pub says_bad : {A : Type 0} {r : Reader A} {P : A → List Lexeme → Type 0} {ts rest : Tokens} → r ts ≡ bad rest
    → ReadsAt r ts P
says_bad {rest = rest} e = record { back = λ x left d. absurd (no_got rest left x (sym e ∙ d)) }

pub says_gives : {A : Type 0} {P : A → List Lexeme → Type 0} {x : A} → P x [] → Reads (gives x) P
says_gives {P = P} {x = x} p ts = record {
  back = λ y rest e.
      let q = got_parts x y ts rest e in
      ([], subst (λ r. Said ts [] r) q.1 s_here, subst (λ y. P y []) q.0 p);
}

pub says_weak : {A : Type 0} {r : Reader A} {ts : Tokens} {P Q : A → List Lexeme → Type 0} → ReadsAt r ts P
    → ((x : A) (is : List Lexeme) → P x is → Q x is) → ReadsAt r ts Q
says_weak a g = record { back = λ x rest e. let b = a.back x rest e in (b.0, b.1, g x b.0 b.2) }

-- one reader behind another
pub says_then : {A B : Type 0} {r : Reader A} {f : A → Reader B} {ts : Tokens} {P : A → List Lexeme → Type 0}
    {Q : B → List Lexeme → Type 0} → ReadsAt r ts P
    → ((x : A) (is : List Lexeme) → P x is → Reads (f x) (λ y js. Q y (is ++ js))) → ReadsAt (r >>= f) ts Q
says_then {r = r} {f = f} {ts = ts} a g = record {
  back = λ y rest e.
      let s = split_got r f ts y rest e in
      let b = a.back s.x s.mid s.first in
      let c = (g s.x b.0 b.2 s.mid).back y rest s.second in
      (b.0 ++ c.0, said_joined b.0 b.1 c.1, c.2);
}

pub tells_then : {A B : Type 0} {r : Reader A} {f : A → Reader B} {F : A → List Lexeme} {Fits : A → Type 0}
    {Q : B → List Lexeme → Type 0} → Tells r F Fits
    → ((x : A) → Fits x → Reads (f x) (λ y js. Q y (F x ++ js))) → Reads (r >>= f) Q
tells_then {f = f} {Q = Q} a g ts = says_then (a ts)
    (λ x is p. subst (λ is. Reads (f x) (λ y js. Q y (is ++ js))) (sym p.0) (g x p.1))

pub tells_last : {A B : Type 0} {r : Reader A} {F : A → List Lexeme} {Fits : A → Type 0}
    {Q : B → List Lexeme → Type 0} (h : A → B) → Tells r F Fits → ((x : A) → Fits x → Q (h x) (F x))
    → Reads (r >>= λ x. gives (h x)) Q
tells_last {F = F} {Q = Q} h a g = tells_then a
    (λ x p. says_gives (subst (λ is. Q (h x) is) (sym (append-nil (F x))) (g x p)))

-- by the token in hand
pub says_first : {A : Type 0} {r : Reader A} {P : A → List Lexeme → Type 0} {at : ℕ} {t : PureToken} {ts : Tokens}
    (i : Lexeme) → token_of i ≡ t → IsKnown i → ReadsAt r ts (λ x js. P x (i ∷ js)) → ReadsAt (skip r) (token at t ts) P
says_first {at = at} {t = t} i e k a =
    record { back = λ x rest d. let b = a.back x rest d in (i ∷ b.0, said_first i at t e k b.1, b.2) }

pub says_opened : {A : Type 0} {r q : Reader A} {P : A → List Lexeme → Type 0} → Reads r (λ x is. P x (left ∷ is))
    → Reads q P → Reads (if_opened r q) P
says_opened a b (stop at) = says_bad refl
says_opened a b (token at t.left ts) = record { back = (says_first left refl tt (a ts)).back }
says_opened a b (token at t ts) = record { back = (b (token at t ts)).back }

pub says_word : {A : Type 0} {r q : Reader A} {P : A → List Lexeme → Type 0} (w : List ℕ)
    → Reads r (λ x is. P x (word w ∷ is)) → Reads q P → Reads (if_word w r q) P
says_word w a b (stop at) = says_bad refl
says_word {r = r} {q = q} {P = P} w a b (token at (t.word v) ts) = record { back = (by_test (bytes_eq v w) refl).back }
  where
    by_test : (c : Bool) → bytes_eq v w ≡ c → ReadsAt (if c then skip r else q) (token at (t.word v) ts) P
    by_test true d = says_first (word w) (ap t.word (sym ((bytes_eq-Decides v w).0 d))) tt (a ts)
    by_test false d = b (token at (t.word v) ts)
says_word w a b (token at t ts) = record { back = (b (token at t ts)).back }

-- one token, by what it means
pub says_one : {A : Type 0} {P : A → List Lexeme → Type 0} (means : PureToken → Option A)
    → ((t : PureToken) (x : A) → means t ≡ Some x → (i : Lexeme) × (token_of i ≡ t) × IsKnown i × P x (i ∷ []))
    → Reads (one_of means) P
says_one means g (stop at) = says_bad refl
says_one {A = A} {P = P} means g (token at t ts) = record { back = by_meaning (means t) refl }
  where
    by_meaning : (o : Option A) → means t ≡ o → (x : A) (rest : Tokens) → or_bad (token at t ts) ts o ≡ got x rest
        → (is : List Lexeme) × Said (token at t ts) is rest × P x is
    by_meaning None d x rest e = absurd (no_got (token at t ts) rest x e)
    by_meaning (Some y) d x rest e =
        let p = got_parts y x ts rest e in
        let k = g t x (d ∙ ap Some p.0) in
        (k.0 ∷ [], said_first k.0 at t k.1 k.2 (subst (λ r. Said ts [] r) p.1 s_here), k.3)

-- a token that means something is the lexeme's
abbrev pub MeansBack : {A : Type 0} → (PureToken → Option A) → (A → Lexeme) → Type 0
MeansBack {A = A} means f = (t : PureToken) (x : A) → means t ≡ Some x → (token_of (f x) ≡ t) × IsKnown (f x)

pub tells_one : {A : Type 0} (means : PureToken → Option A) (f : A → Lexeme) → MeansBack means f
    → Tells (one_of means) (λ x. f x ∷ []) (λ x. IsKnown (f x))
tells_one means f g = says_one means (λ t x e. let k = g t x e in (f x, k.0, k.1, (refl, k.1)))

-- lists
front_parts : {A : Type 0} (x : A) (q : Read (List A)) (ys : List A) (rest : Tokens) → in_front x q ≡ got ys rest
    → (xs : List A) × (q ≡ got xs rest) × (x ∷ xs ≡ ys)
front_parts x (bad a) ys rest e = absurd (no_got a rest ys e)
front_parts x (got xs mid) ys rest e = let p = got_parts (x ∷ xs) ys mid rest e in (xs, ap (λ m. got xs m) p.1, p.0)

said_all : {A : Type 0} (means : PureToken → Option A) (f : A → Lexeme) → MeansBack means f → (ts : Tokens)
    (xs : List A) (rest : Tokens) → all_of means ts ≡ got xs rest → Said ts (map f xs) rest
said_all means f g (stop at) xs rest e = absurd (no_got (stop at) rest xs e)
said_all {A = A} means f g (token at t ts) xs rest e = by_meaning (said_all means f g ts) (means t) refl e
  where
    by_meaning : ((xs : List A) (rest : Tokens) → all_of means ts ≡ got xs rest → Said ts (map f xs) rest)
        → (o : Option A) → means t ≡ o → or_here (token at t ts) o (all_of means ts) ≡ got xs rest → Said
        (token at t ts) (map f xs) rest
    by_meaning more None d e =
        let p = got_parts [] xs (token at t ts) rest e in
        subst (λ ys. Said (token at t ts) (map f ys) rest) p.0 (subst (λ r. Said (token at t ts) [] r) p.1 s_here)
    by_meaning more (Some x) d e =
        let p = front_parts x (all_of means ts) xs rest e in
        let k = g t x d in
        subst (λ ys. Said (token at t ts) (map f ys) rest) p.2 (said_first (f x) at t k.0 k.1 (more p.0 rest p.1))

pub tells_all : {A : Type 0} (means : PureToken → Option A) (f : A → Lexeme) → MeansBack means f
    → Tells (all_of means) (map f) (λ _. Unit {0})
tells_all means f g ts = record { back = λ xs rest e. (map f xs, said_all means f g ts xs rest e, (refl, tt)) }

pub tells_some : {A : Type 0} (n : ℕ) (means : PureToken → Option A) (f : A → Lexeme) → MeansBack means f
    → Tells (some_of n means) (map f) (λ xs. length xs ≤ n)
tells_some zero means f g ts = says_gives (refl, omega arith) ts
tells_some (suc n) means f g (stop at) = says_bad refl
tells_some {A = A} (suc n) means f g (token at t ts) =
    record { back = (by_meaning (tells_some n means f g) (means t) refl).back }
  where
    by_meaning : Tells (some_of n means) (map f) (λ xs. length xs ≤ n) → (o : Option A) → means t ≡ o
        → ReadsAt (one_more (some_of n means) o) (token at t ts) (λ xs is. (is ≡ map f xs) × (length xs ≤ suc n))
    by_meaning more None d = says_gives (refl, omega arith) (token at t ts)
    by_meaning more (Some x) d = let k = g t x d in
        says_first (f x) k.0 k.1 (tells_last _ more (λ xs p. (refl, omega arith)) ts)

-- a word that is one of several
pub by_word : {A : Type 0} (P : A → List ℕ → Type 0) (v w : List ℕ) (y : A) (o : Option A) (x : A) → P y w
    → (o ≡ Some x → P x v) → (if bytes_eq v w then Some y else o) ≡ Some x → P x v
by_word P v w y o x p more e = by_test (bytes_eq v w) refl e
  where
    by_test : (b : Bool) → bytes_eq v w ≡ b → (if b then Some y else o) ≡ Some x → P x v
    by_test true d e = subst (λ x. P x v) (same_Some y x e)
        (subst (λ u. P y u) (sym ((bytes_eq-Decides v w).0 d)) p)
    by_test false d e = more e

-- a test that must hold
pub tested : {A : Type 0} (b : Bool) (o : Option A) (x : A) → (if b then o else None) ≡ Some x
    → (b ≡ true) × (o ≡ Some x)
tested true o x e = (refl, e)
tested false o x e = absurd (none-some x e)

-- numbers
pub number_back : (most : ℕ) → most < 2 ^ 32 → MeansBack (as_number most) number
number_back most p (t.word w) x e = let q = below_found (suc most) w x e in
    (ap t.word (sym q.0), let r = q.1 in omega arith)
number_back most p _ x e = absurd (none-some x e)

small_number : (most : ℕ) (t : PureToken) (x : ℕ) → as_number most t ≡ Some x → x ≤ most
small_number most (t.word w) x e = let q = (below_found (suc most) w x e).1 in omega arith
small_number most _ x e = absurd (none-some x e)

pub says_number : (most : ℕ) → most < 2 ^ 32 → Tells (at_most most) (λ x. number x ∷ []) (λ x. x ≤ most)
says_number most p = says_one (as_number most) (λ t x e.
    let k = number_back most p t x e in (number x, k.0, k.1, (refl, small_number most t x e)))
