-- Reading tokens from left to right: what stands there, or the first place at which it doesn't go on.
use Rattle.std.specs.Prelude.{ℕ, zero, suc, ◌-◌, ◌^◌, if◌then◌else◌, List, [], ◌∷◌, Option, Some, None, codes}
use Rattle.std.specs.Str.{bytes_eq}
use Rattle.mw_wasm.specs.declared.values.ValType.{ValType}
use Rattle.mw_wasm.specs.declared.values.ValType.TheVariants.{I32, I64}
use Rattle.mw_wat.specs.Tokens.{PureToken, left, right, word}
use Rattle.mw_wat.specs.Lexing.{Tokens, stop, token}
use Rattle.mw_key.specs.Numbers.{below, natural_of}

-- The value and the tokens behind it, or the tokens from the first one on that can't stand there. None is left where
-- they stop.
pub data Read (A : Type 0) : Type 0 where
  got : (x : A) (rest : Tokens) → Read A
  bad : (rest : Tokens) → Read A

abbrev pub Reader : Type 0 → Type 0
Reader A = Tokens → Read A

abbrev pub place_of : Tokens → ℕ
place_of (stop at) = at
place_of (token at t rest) = at

abbrev pub count : Tokens → ℕ
count (stop at) = 0
count (token at t rest) = suc (count rest)

abbrev pub and_then : {A B : Type 0} → Read A → (A → Tokens → Read B) → Read B
and_then (got x rest) go = go x rest
and_then (bad rest) go = bad rest

infixl 10 ◌>>=◌
abbrev pub ◌>>=◌ : {A B : Type 0} → Reader A → (A → Reader B) → Reader B
(r >>= f) ts = and_then (r ts) f

-- no tokens
abbrev pub gives : {A : Type 0} → A → Reader A
gives x ts = got x ts

abbrev pub fails : {A : Type 0} → Reader A
fails ts = bad ts

-- by the token in hand, which stays
abbrev pub peek : {A : Type 0} → (PureToken → Reader A) → Reader A
peek f (stop at) = bad (stop at)
peek f (token at t rest) = f t (token at t rest)

abbrev pub or_bad : {A : Type 0} → Tokens → Tokens → Option A → Read A
or_bad ts rest None = bad ts
or_bad ts rest (Some x) = got x rest

-- one token, by what it means
abbrev pub one_of : {A : Type 0} → (PureToken → Option A) → Reader A
one_of meaning (stop at) = bad (stop at)
one_of meaning (token at t rest) = or_bad (token at t rest) rest (meaning t)

-- the token in hand
abbrev pub skip : {A : Type 0} → Reader A → Reader A
skip r (stop at) = bad (stop at)
skip r (token at t rest) = r rest

abbrev pub as_left : PureToken → Option (Unit {0})
as_left left = Some tt
as_left _ = None

abbrev pub as_right : PureToken → Option (Unit {0})
as_right right = Some tt
as_right _ = None

abbrev pub as_word : List ℕ → PureToken → Option (Unit {0})
as_word w (word x) = if bytes_eq x w then Some tt else None
as_word w _ = None

abbrev pub this : List ℕ → Reader (Unit {0})
this w = one_of (as_word w)

abbrev pub opening : Reader (Unit {0})
opening = one_of as_left

abbrev pub closing : Reader (Unit {0})
closing = one_of as_right

-- numbers up to a limit
abbrev pub as_number : ℕ → PureToken → Option ℕ
as_number most (word w) = below (suc most) (natural_of w)
as_number most _ = None

abbrev pub at_most : ℕ → Reader ℕ
at_most most = one_of (as_number most)

abbrev pub index : Reader ℕ
index = at_most (2 ^ 32 - 1)

-- so many lexemes at most, each decided by the token in hand, up to a token that is none
abbrev pub one_more : {A : Type 0} → Reader (List A) → Option A → Reader (List A)
one_more rest None = gives []
one_more rest (Some x) = skip (rest >>= λ xs. gives (x ∷ xs))

abbrev pub some_of : {A : Type 0} → ℕ → (PureToken → Option A) → Reader (List A)
some_of zero meaning = gives []
some_of (suc n) meaning = peek λ t. one_more (some_of n meaning) (meaning t)

-- any number of them
abbrev pub in_front : {A : Type 0} → A → Read (List A) → Read (List A)
in_front x (got xs rest) = got (x ∷ xs) rest
in_front x (bad rest) = bad rest

abbrev pub or_here : {A : Type 0} → Tokens → Option A → Read (List A) → Read (List A)
or_here ts None more = got [] ts
or_here ts (Some x) more = in_front x more

abbrev pub all_of : {A : Type 0} → (PureToken → Option A) → Reader (List A)
all_of means (stop at) = bad (stop at)
all_of means (token at t rest) = or_here (token at t rest) (means t) (all_of means rest)

-- types
abbrev pub as_type_word : List ℕ → Option ValType
as_type_word w = if bytes_eq w (codes "i32") then Some I32 else if bytes_eq w (codes "i64") then Some I64 else None

abbrev pub as_type : PureToken → Option ValType
as_type (word w) = as_type_word w
as_type _ = None

abbrev pub value_type : Reader ValType
value_type = one_of as_type

-- types behind the word, of which the first must be there, and the closing parenthesis
abbrev pub types_and_close : Reader (List ValType) → Reader (List ValType)
types_and_close more = do
  t ← value_type
  ts ← more
  _ ← closing
  gives (t ∷ ts)

-- where `(` comes next, this behind it; else another thing
abbrev pub if_left : {A : Type 0} → Reader A → Reader A → PureToken → Reader A
if_left inside otherwise left = skip inside
if_left inside otherwise _ = otherwise

abbrev pub if_opened : {A : Type 0} → Reader A → Reader A → Reader A
if_opened inside otherwise = peek (if_left inside otherwise)

-- where this word comes next, this behind it; else another thing
abbrev pub if_same : {A : Type 0} → List ℕ → Reader A → Reader A → PureToken → Reader A
if_same w inside otherwise (word x) = if bytes_eq x w then skip inside else otherwise
if_same w inside otherwise _ = otherwise

abbrev pub if_word : {A : Type 0} → List ℕ → Reader A → Reader A → Reader A
if_word w inside otherwise = peek (if_same w inside otherwise)
