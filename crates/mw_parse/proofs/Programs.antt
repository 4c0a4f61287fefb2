-- A program that is read item by item.
use Rattle.std.proofs.Common.{◌≡◌, ℕ, suc, ◌<◌, ◌≤◌, max, List, [], ◌∷◌, ◌++◌, refl, ap, ◌∙◌, sym, append_assoc}
use Rattle.std.proofs.Common.{append-nil, length, map, Bool, true, false, arith}
use Rattle.mw_lex.specs.Tokens.{PureToken, token, tokens_of}
use Rattle.mw_lex.specs.declared.token.Token.{Token}
use Rattle.mw_term.specs.Terms.{GroundType}
use Rattle.mw_grammar.specs.SurfaceTrees.{SurfaceTree, truth, PureItem, PureSurface, item_of}
use Rattle.mw_grammar.specs.declared.tree.SurfaceItem.{SurfaceItem}
use Rattle.mw_grammar.specs.Grammar.{Nonterminal, tree, atom, program, item, main_only, with_item}
use Rattle.mw_grammar.specs.Forms.{Expected, is, Form, expect, end_next, reads, gives, items_of}
use Rattle.mw_grammar.specs.Descent.{Answer, ok, syntax_at, deep_at, and_then, Heights, none_yet, so_far, branch, run}
use Rattle.mw_grammar.specs.Descent.{calls, full, reading}
use Rattle.mw_grammar.proofs.Alike.{rest_of, steady}
use Rattle.mw_grammar.specs.Gives.{Fails}
use Rattle.mw_grammar.specs.declared.fault.Fault.{Fault}
use Rattle.mw_grammar.specs.declared.fault.Fault.TheVariants.{Memory, Syntax, Deep}
use Rattle.mw_grammar.proofs.Below.{read_reads, read_gives}

-- items that stand before a program
abbrev pub before_it : List PureItem → PureSurface → PureSurface
before_it is p = record { items = is ++ p.items; result = p.result; body = p.body }

abbrev pub behind_items : List PureItem → ℕ → Answer program → Answer program
behind_items is a (ok p h rest) = ok (before_it is p) (max a h) rest
behind_items is a (syntax_at r) = syntax_at r
behind_items is a (deep_at r) = deep_at r

-- none
pub behind_none : (x : Answer program) → x ≡ behind_items [] 0 x
behind_none (ok p h rest) = let e : h ≡ max 0 h = omega arith in ap (λ h. ok p h rest) e
behind_none (syntax_at r) = refl
behind_none (deep_at r) = refl

-- one more
behind_one : (is : List PureItem) (a : ℕ) (i : PureItem) (h : ℕ) (x : Answer program)
    → behind_items is a (behind_items (i ∷ []) h x) ≡ behind_items (is ++ (i ∷ [])) (max a h) x
behind_one is a i h (ok p k rest) =
    let e : max a (max h k) ≡ max (max a h) k = omega arith in
    let f : is ++ (i ∷ p.items) ≡ (is ++ (i ∷ [])) ++ p.items = sym (append_assoc is (i ∷ []) p.items) in
    ap (λ h. ok (before_it is (before_it (i ∷ []) p)) h rest) e
    ∙ ap (λ z. ok (record { items = z; result = p.result; body = p.body }) (max (max a h) k) rest) f
behind_one is a i h (syntax_at r) = refl
behind_one is a i h (deep_at r) = refl

with_one : (i : PureItem) (h : ℕ) (b : ℕ) (x : Answer program)
    → and_then x (λ p k r. reading b (gives (with_item i p)) (so_far (max h k)) r) ≡ behind_items (i ∷ []) h x
with_one i h b (ok p k rest) = read_gives b (with_item i p) (so_far (max h k)) rest
with_one i h b (syntax_at r) = refl
with_one i h b (deep_at r) = refl

-- the items so far, an item and its end, and what stands after
pub item_goes : (b : ℕ) (is : List PureItem) (a : ℕ) (all ts mid rest : List PureToken) (i : PureItem) (h : ℕ)
    → full b program all ≡ behind_items is a (full b program ts) → full b program ts ≡ reading b items_of none_yet ts
    → full b item ts ≡ ok i h mid
    → ((F : Form program) (a : Heights) → reading b (expect end_next F) a mid ≡ reading b F a rest) → full b program all
    ≡ behind_items (is ++ (i ∷ [])) (max a h) (full b program rest)
item_goes b is a all ts mid rest i h e f g k =
    let l : reading b items_of none_yet ts ≡ reading b (expect end_next (reads program λ p. gives (with_item i p)))
    (so_far h) mid = read_reads item b _ none_yet ts
    ∙ ap (λ x. and_then x λ i h mid. reading b (expect end_next (reads program λ p. gives (with_item i p)))
    (so_far h) mid) g in
    let m : reading b (expect end_next (reads program λ p. gives (with_item i p))) (so_far h) mid
    ≡ behind_items (i ∷ []) h (full b program rest) = k (reads program λ p. gives (with_item i p)) (so_far h)
    ∙ read_reads program b (λ p. gives (with_item i p)) (so_far h) rest ∙ with_one i h b (full b program rest) in
    e ∙ ap (λ x. behind_items is a x) (f ∙ l ∙ m) ∙ behind_one is a i h (full b program rest)

-- main
pub main_goes : (b : ℕ) (is : List PureItem) (a : ℕ) (all ts rest : List PureToken) (g : GroundType) (t : SurfaceTree)
    (h : ℕ) → full b program all ≡ behind_items is a (full b program ts) → full b program ts ≡ ok (main_only g t) h rest
    → full b program all ≡ ok (record { items = is; result = g; body = t }) (max a h) rest
main_goes b is a all ts rest g t h e f = e ∙ ap (λ x. behind_items is a x) f
    ∙ ap (λ z. ok (record { items = z; result = g; body = t }) (max a h) rest) (append-nil is)

-- a fault
pub fails_items : (e : Fault) (b : ℕ) (is : List PureItem) (a : ℕ) (all ts : List PureToken) → full b program all
    ≡ behind_items is a (full b program ts) → Fails e (full b program ts) → Fails e (full b program all)
fails_items (Memory e) b is a all ts q h = tt
fails_items (Syntax rest) b is a all ts q h = q ∙ ap (λ x. behind_items is a x) h
fails_items (Deep rest) b is a all ts q h = q ∙ ap (λ x. behind_items is a x) h

-- what was expected is a token less
pub expected_shorter : (k : Expected) (ts us : List PureToken)
    → ((n : Nonterminal) (F : Form n) (b : ℕ) (a : Heights) → reading b (expect k F) a ts ≡ reading b F a us)
    → length us < length ts
unfolding reading
expected_shorter k ts us h = by ts (h (tree atom) (gives (truth true)) 0 none_yet)
  where
    by_branch : (c : Bool) (t : PureToken) (ts : List PureToken) → branch {n = tree atom} c (ok (truth true) 0 ts)
        (syntax_at (t ∷ ts)) ≡ ok (truth true) 0 us → length us < suc (length ts)
    by_branch true t ts e = let p : ts ≡ us = cc in omega (arith, ap length p)
    by_branch false t ts e = absurd (cc)

    by : (ts : List PureToken) → run {n = tree atom} full 0 (expect k (gives (truth true))) none_yet ts
        ≡ ok (truth true) 0 us → length us < length ts
    by [] e = absurd (cc)
    by (token p q s ∷ ts) e = by_branch (is k s) (token p q s) ts e

-- an item takes tokens
pub item_shorter : (b : ℕ) (ts mid : List PureToken) (i : PureItem) (h : ℕ) → full b item ts ≡ ok i h mid
    → length mid ≤ length ts
unfolding full
item_shorter b ts mid i h e = let s = (steady (suc (calls b item ts)) b item).less ts in
    omega (arith, s, ap (λ x. length (rest_of x)) e)

pub tokens_length : (us : List Token) → length (tokens_of us) ≡ length us
tokens_length [] = refl
tokens_length (u ∷ us) = omega (arith, tokens_length us)

pub map_more : (xs : List SurfaceItem) (x : SurfaceItem) → map item_of (xs ++ (x ∷ [])) ≡ map item_of xs
    ++ (item_of x ∷ [])
map_more [] x = refl
map_more (y ∷ xs) x = ap (λ z. item_of y ∷ z) (map_more xs x)

-- an item and what follows it
pub ruleset program_laws = (behind_none, item_goes, main_goes, fails_items)
