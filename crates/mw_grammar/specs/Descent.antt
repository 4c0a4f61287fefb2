-- The parser by forms: `parse f b n` reads the nonterminal n where b nodes may still stand on a path. It answers the
-- meaning, the height of the nodes and the tokens left, or the tokens from the fault on. f bounds the calls within
-- calls.
use Rattle.std.specs.Prelude.{ℕ, zero, suc, ◌+◌, ◌-◌, ◌*◌, max, Bool, true, false, List, [], ◌∷◌, length, nat_lt}
use Rattle.mw_lex.specs.Tokens.{PureToken, token}
use Rattle.mw_grammar.specs.SurfaceTrees.{SurfaceTree}
use Rattle.mw_grammar.specs.Grammar.{Row, sum, product, application, expr, disjunction, conjunction, comparison, row}
use Rattle.mw_grammar.specs.Grammar.{head, atom, Nonterminal, program, item, parameter, body, tree, kernel_type, ground}
use Rattle.mw_grammar.specs.Grammar.{part, base, Meaning, right}
use Rattle.mw_grammar.specs.Forms.{is, Form, gives, refuses, skip, under, expect, reads, pick, option, more, Op}
use Rattle.mw_grammar.specs.Forms.{operated, Opens, nothing, operator, opens, form}

pub data Answer (n : Nonterminal) : Type 0 where
  ok : (v : Meaning n) (height : ℕ) (rest : List PureToken) → Answer n
  syntax_at : (rest : List PureToken) → Answer n
  deep_at : (rest : List PureToken) → Answer n

abbrev pub Parser : Nonterminal → Type 0
Parser n = List PureToken → Answer n

-- for each budget and each nonterminal
abbrev pub Parsers : Type 0
Parsers = ℕ → (n : Nonterminal) → Parser n

abbrev pub and_then : {m n : Nonterminal} → Answer m → (Meaning m → ℕ → List PureToken → Answer n) → Answer n
and_then (ok v h rest) go = go v h rest
and_then (syntax_at rest) go = syntax_at rest
and_then (deep_at rest) go = deep_at rest

abbrev pub within : {n : Nonterminal} → Bool → List PureToken → Answer n → Answer n
within true ts r = r
within false ts r = deep_at ts

-- the height of what was read before, under the same node
pub data Heights : Type 0 where
  none_yet : Heights
  so_far : (h : ℕ) → Heights

abbrev pub tall : Heights → ℕ
tall none_yet = 0
tall (so_far a) = a

abbrev pub beside : Heights → ℕ → ℕ
beside none_yet h = h
beside (so_far a) h = max a h

-- a node over this part and what stands before it
abbrev pub raise : {n : Nonterminal} → Heights → Answer n → Answer n
raise a (ok v h rest) = ok v (suc (beside a h)) rest
raise a (syntax_at rest) = syntax_at rest
raise a (deep_at rest) = deep_at rest

abbrev pub branch : {n : Nonterminal} → Bool → Answer n → Answer n → Answer n
branch true x y = x
branch false x y = y

-- what follows a left operand l of height a
abbrev pub on_operator : Parsers → Row → ℕ → (SurfaceTree → ℕ → List PureToken → Answer (tree expr)) → SurfaceTree → ℕ
    → List PureToken → Opens → Answer (tree expr)
on_operator sub w b next l a ts nothing = ok l a ts
on_operator sub w b next l a ts (operator o us) =
    within (nat_lt a b) ts (and_then (sub (b - 1) (tree (right w)) us) λ r h mid. next (operated o l r) (suc (max a h))
    mid)

-- at most k operators, which is enough where k and a are at least b
abbrev pub rounds : Parsers → ℕ → Row → ℕ → SurfaceTree → ℕ → List PureToken → Answer (tree expr)
rounds sub zero w b l a ts = on_operator sub w b (λ l a us. deep_at us) l a ts (opens w ts)
rounds sub (suc k) w b l a ts = on_operator sub w b (rounds sub k w b) l a ts (opens w ts)

-- a form, after what has the heights a
abbrev pub run : {n : Nonterminal} → Parsers → ℕ → Form n → Heights → Parser n
run sub b (gives v) a ts = ok v (tall a) ts
run sub b refuses a ts = syntax_at ts
run sub b (skip F) a [] = syntax_at []
run sub b (skip F) a (t ∷ ts) = run sub b F a ts
run sub b (under F) a [] = syntax_at []
run sub b (under F) a (t ∷ ts) = within (nat_lt (tall a) b) (t ∷ ts) (raise a (run sub (b - 1) F none_yet ts))
run sub b (expect k F) a [] = syntax_at []
run sub b (expect k F) a (token p q s ∷ ts) = branch (is k s) (run sub b F a ts) (syntax_at (token p q s ∷ ts))
run sub b (reads m go) a ts = and_then (sub b m ts) λ v h mid. run sub b (go v) (so_far (beside a h)) mid
run sub b (pick f) a [] = syntax_at []
run sub b (pick f) a (t ∷ ts) = run sub b (f t) a (t ∷ ts)
run sub b (option k F G) a [] = run sub b G a []
run sub b (option k F G) a (token p q s ∷ ts) =
    branch (is k s) (within (nat_lt (tall a) b) (token p q s ∷ ts) (raise a (run sub (b - 1) F none_yet ts)))
    (run sub b G a (token p q s ∷ ts))
run sub b (more w l go) a ts = and_then (rounds sub b w b l (tall a) ts) λ e h mid. run sub b (go e) (so_far h) mid

abbrev pub parse : ℕ → Parsers
parse zero b n ts = deep_at ts
parse (suc f) b n ts = run (parse f) b (form n) none_yet ts

-- how many calls within calls read a nonterminal at the same tokens
abbrev pub rank : Nonterminal → ℕ
rank program = 11
rank item = 10
rank (parameter m) = 0
rank (body m) = 9
rank (tree expr) = 8
rank (tree disjunction) = 7
rank (tree conjunction) = 6
rank (tree comparison) = 5
rank (tree (row sum)) = 4
rank (tree (row product)) = 3
rank (tree (row application)) = 2
rank (tree head) = 1
rank (tree atom) = 0
rank kernel_type = 3
rank ground = 2
rank part = 1
rank base = 0

-- a bound that is great enough
abbrev pub calls : ℕ → Nonterminal → List PureToken → ℕ
calls b n ts = b * 12 + rank n + length ts

unfoldable pub full : ℕ → (n : Nonterminal) → Parser n
full b n ts = parse (suc (calls b n ts)) b n ts

-- a form, whose parts are read so
unfoldable pub reading : {n : Nonterminal} → ℕ → Form n → Heights → Parser n
reading b F a ts = run full b F a ts

-- what may follow a left operand l of height a
unfoldable pub following : ℕ → Row → SurfaceTree → ℕ → List PureToken → Answer (tree expr)
following b w l a ts = rounds full b w b l a ts

-- what may follow a left operand l of height a and an operator o
abbrev pub following_operator : ℕ → Row → Op → SurfaceTree → ℕ → List PureToken → Answer (tree expr)
following_operator b w o l a ts = and_then (full (b - 1) (tree (right w)) ts) λ r h mid. following b w (operated o l r)
    (suc (max a h)) mid
