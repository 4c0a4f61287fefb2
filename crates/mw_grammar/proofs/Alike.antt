-- What the parser answers after a front depends on the front alone, up to the next token.
use Rattle.std.proofs.Common.{◌≡◌, ℕ, zero, suc, ◌-◌, ◌≤◌, max, List, [], ◌∷◌, ◌++◌, refl, Bool, true, false, length}
use Rattle.std.proofs.Common.{nat_lt, arith}
use Rattle.mw_lex.specs.Tokens.{Symbol, mod_word, true_word, false_word, bracket_left, escape_mark, paren_left, plus}
use Rattle.mw_lex.specs.Tokens.{minus, star, slash, word, number, PureToken, token}
use Rattle.mw_term.specs.declared.term.Primitive.TheVariants.{Add, Sub, Mul, Div, Mod}
use Rattle.mw_grammar.specs.SurfaceTrees.{SurfaceTree}
use Rattle.mw_term.specs.declared.term.Primitive.{Primitive}
use Rattle.mw_grammar.specs.Grammar.{Row, sum, product, application, Sign, plus_sign, minus_sign, star_sign, slash_sign}
use Rattle.mw_grammar.specs.Grammar.{mod_sign, expr, Nonterminal, tree, Meaning, right}
use Rattle.mw_grammar.specs.Forms.{is, Form, gives, refuses, skip, under, expect, reads, pick, option, more, by_sign}
use Rattle.mw_grammar.specs.Forms.{apply, operated, Opens, nothing, operator, opens, opens_by, form}
use Rattle.mw_grammar.specs.Descent.{Answer, ok, syntax_at, deep_at, Parser, Parsers, and_then, within, Heights}
use Rattle.mw_grammar.specs.Descent.{none_yet, so_far, tall, beside, raise, branch, on_operator, rounds, run, parse}
use Rattle.mw_grammar.proofs.Depths.{opening, opens_shorter}

abbrev pub rest_of : {n : Nonterminal} → Answer n → List PureToken
rest_of (ok v h rest) = rest
rest_of (syntax_at rest) = rest
rest_of (deep_at rest) = rest

-- The answers before two continuations of one front: the same at a token of the front, or both after it.
pub data Alike {n : Nonterminal} (r1 r2 : List PureToken) : Answer n → Answer n → Type 0 where
  both : {v : Meaning n} {h : ℕ} (t : PureToken) (u : List PureToken) → Alike r1 r2 (ok v h (t ∷ (u ++ r1)))
      (ok v h (t ∷ (u ++ r2)))
  stuck : (t : PureToken) (u : List PureToken) → Alike r1 r2 (syntax_at (t ∷ (u ++ r1))) (syntax_at (t ∷ (u ++ r2)))
  sunk : (t : PureToken) (u : List PureToken) → Alike r1 r2 (deep_at (t ∷ (u ++ r1))) (deep_at (t ∷ (u ++ r2)))
  beyond : {x y : Answer n} → length (rest_of x) ≤ length r1 → length (rest_of y) ≤ length r2 → Alike r1 r2 x y

pub record Steady {n : Nonterminal} (p : Parser n) : Type 0 where
  pub less : (ts : List PureToken) → length (rest_of (p ts)) ≤ length ts
  pub alike : (t : PureToken) (u r1 r2 : List PureToken) → Alike r1 r2 (p (t ∷ (u ++ r1))) (p (t ∷ (u ++ r2)))

-- after a token that was taken
pub onward : {n : Nonterminal} {p : Parser n} → Steady p → (u r1 r2 : List PureToken)
    → Alike r1 r2 (p (u ++ r1)) (p (u ++ r2))
onward s [] r1 r2 = beyond (s.less r1) (s.less r2)
onward s (t ∷ u) r1 r2 = s.alike t u r1 r2

pub then_less : {m n : Nonterminal} (x : Answer m) (k : ℕ) (go : Meaning m → ℕ → Parser n) → length (rest_of x) ≤ k
    → ((v : Meaning m) (h : ℕ) (ts : List PureToken) → length (rest_of (go v h ts)) ≤ length ts)
    → length (rest_of (and_then x go)) ≤ k
then_less (ok v h rest) k go le g = omega (arith, g v h rest)
then_less (syntax_at rest) k go le g = le
then_less (deep_at rest) k go le g = le

then_alike : {m n : Nonterminal} {r1 r2 : List PureToken} {x y : Answer m} (go : Meaning m → ℕ → Parser n)
    → ((v : Meaning m) (h : ℕ) → Steady (go v h)) → Alike r1 r2 x y → Alike r1 r2 (and_then x go) (and_then y go)
then_alike go g (both {v = v} {h = h} t u) = (g v h).alike t u _ _
then_alike go g (stuck t u) = stuck t u
then_alike go g (sunk t u) = sunk t u
then_alike {r1 = r1} {r2 = r2} go g (beyond {x = x} {y = y} h k) =
    beyond (then_less x (length r1) go h λ v h ts. (g v h).less ts)
    (then_less y (length r2) go k λ v h ts. (g v h).less ts)

steady_then : {m n : Nonterminal} {p : Parser m} {go : Meaning m → ℕ → Parser n} → Steady p
    → ((v : Meaning m) (h : ℕ) → Steady (go v h)) → Steady (λ ts. and_then (p ts) go)
steady_then {p = p} {go = go} s g = record {
  less = λ ts. then_less (p ts) (length ts) go (s.less ts) λ v h us. (g v h).less us;
  alike = λ t u r1 r2. then_alike go g (s.alike t u r1 r2);
}

within_less : {n : Nonterminal} (c : Bool) (ts : List PureToken) (x : Answer n) → length (rest_of x) ≤ length ts
    → length (rest_of (within c ts x)) ≤ length ts
within_less true ts x h = h
within_less false ts x h = omega arith

within_alike : {n : Nonterminal} (c : Bool) (t : PureToken) (u r1 r2 : List PureToken) {x y : Answer n}
    → Alike r1 r2 x y → Alike r1 r2 (within c (t ∷ (u ++ r1)) x) (within c (t ∷ (u ++ r2)) y)
within_alike true t u r1 r2 h = h
within_alike false t u r1 r2 h = sunk t u

raise_less : {n : Nonterminal} (a : Heights) (k : ℕ) (x : Answer n) → length (rest_of x) ≤ k
    → length (rest_of (raise a x)) ≤ k
raise_less a k (ok v h rest) p = p
raise_less a k (syntax_at rest) p = p
raise_less a k (deep_at rest) p = p

raise_alike : {n : Nonterminal} (a : Heights) {r1 r2 : List PureToken} {x y : Answer n} → Alike r1 r2 x y
    → Alike r1 r2 (raise a x) (raise a y)
raise_alike a (both t u) = both t u
raise_alike a (stuck t u) = stuck t u
raise_alike a (sunk t u) = sunk t u
raise_alike a {r1 = r1} {r2 = r2} (beyond {x = x} {y = y} h k) = beyond (raise_less a (length r1) x h)
    (raise_less a (length r2) y k)

branch_less : {n : Nonterminal} (c : Bool) (k : ℕ) (x y : Answer n) → length (rest_of x) ≤ k → length (rest_of y) ≤ k
    → length (rest_of (branch c x y)) ≤ k
branch_less true k x y p q = p
branch_less false k x y p q = q

branch_alike : {n : Nonterminal} (c : Bool) {r1 r2 : List PureToken} {x x' y y' : Answer n} → Alike r1 r2 x x'
    → Alike r1 r2 y y' → Alike r1 r2 (branch c x y) (branch c x' y')
branch_alike true h k = h
branch_alike false h k = k

-- Operators: none, one after which its operand stands, or an application, at whose token the argument stands.
pub data Shape : Row → Symbol → Type 0 where
  no_operator : {w : Row} {k : Symbol} → ((from ts : List PureToken) → opens_by w k from ts ≡ nothing) → Shape w k
  before_operand : {w : Row} {k : Symbol} (p : Primitive) → Sign w k p
      → ((from ts : List PureToken) → opens_by w k from ts ≡ operator (by_sign p) ts) → Shape w k
  at_operand : {k : Symbol} → ((from ts : List PureToken) → opens_by application k from ts ≡ operator apply from)
      → Shape application k

pub shape : (w : Row) (k : Symbol) → Shape w k
shape sum plus = before_operand Add plus_sign λ from ts. refl
shape sum minus = before_operand Sub minus_sign λ from ts. refl
shape product star = before_operand Mul star_sign λ from ts. refl
shape product slash = before_operand Div slash_sign λ from ts. refl
shape product mod_word = before_operand Mod mod_sign λ from ts. refl
shape application (word x) = at_operand λ from ts. refl
shape application (number n) = at_operand λ from ts. refl
shape application true_word = at_operand λ from ts. refl
shape application false_word = at_operand λ from ts. refl
shape application paren_left = at_operand λ from ts. refl
shape application bracket_left = at_operand λ from ts. refl
shape application escape_mark = at_operand λ from ts. refl
shape _ _ = no_operator λ from ts. refl

module _ (sub : Parsers) (ih : (b : ℕ) (m : Nonterminal) → Steady (sub b m)) where
  on_less : (w : Row) (b : ℕ) (next : SurfaceTree → ℕ → List PureToken → Answer (tree expr))
      → ((e : SurfaceTree) (h : ℕ) → Steady {n = tree expr} (next e h))
      → (l : SurfaceTree) (a : ℕ) (ts : List PureToken) (o : Opens) → opens w ts ≡ o
      → length (rest_of (on_operator sub w b next l a ts o)) ≤ length ts
  on_less w b next g l a ts nothing e = omega arith
  on_less w b next g l a ts (operator o us) e = within_less (nat_lt a b) ts _
      (then_less (sub (b - 1) (tree (right w)) us) (length ts) (λ r h mid. next (operated o l r) (suc (max a h)) mid)
      (let p = (ih (b - 1) (tree (right w))).less us in omega (arith, p, opens_shorter (opening w ts e))) λ r h us.
      (g (operated o l r) (suc (max a h))).less us)

  on_alike : (w : Row) (b : ℕ) (next : SurfaceTree → ℕ → List PureToken → Answer (tree expr))
      → ((e : SurfaceTree) (h : ℕ) → Steady {n = tree expr} (next e h)) → (l : SurfaceTree) (a p q : ℕ) (k : Symbol)
      (u r1 r2 : List PureToken) → Shape w k
      → Alike {n = tree expr} r1 r2
      (on_operator sub w b next l a (token p q k ∷ (u ++ r1)) (opens_by w k (token p q k ∷ (u ++ r1)) (u ++ r1)))
      (on_operator sub w b next l a (token p q k ∷ (u ++ r2)) (opens_by w k (token p q k ∷ (u ++ r2)) (u ++ r2)))
  on_alike w b next g l a p q k u r1 r2 (no_operator s) =
      rw (s (token p q k ∷ (u ++ r1)) (u ++ r1), s (token p q k ∷ (u ++ r2)) (u ++ r2)) (both (token p q k) u)
  on_alike w b next g l a p q k u r1 r2 (before_operand j i s) =
      rw (s (token p q k ∷ (u ++ r1)) (u ++ r1), s (token p q k ∷ (u ++ r2)) (u ++ r2))
      (within_alike (nat_lt a b) (token p q k) u r1 r2
      (onward (steady_then {go = λ r h mid. next (operated (by_sign j) l r) (suc (max a h)) mid}
      (ih (b - 1) (tree (right w))) λ r h. g (operated (by_sign j) l r) (suc (max a h))) u r1 r2))
  on_alike w b next g l a p q k u r1 r2 (at_operand s) =
      rw (s (token p q k ∷ (u ++ r1)) (u ++ r1), s (token p q k ∷ (u ++ r2)) (u ++ r2))
      (within_alike (nat_lt a b) (token p q k) u r1 r2
      ((steady_then {go = λ r h mid. next (operated apply l r) (suc (max a h)) mid}
      (ih (b - 1) (tree (right application))) λ r h. g (operated apply l r) (suc (max a h))).alike (token p q k) u
      r1 r2))

  steady_on : (w : Row) (b : ℕ) (next : SurfaceTree → ℕ → List PureToken → Answer (tree expr))
      → ((e : SurfaceTree) (h : ℕ) → Steady {n = tree expr} (next e h)) → (l : SurfaceTree) (a : ℕ)
      → Steady {n = tree expr} (λ ts. on_operator sub w b next l a ts (opens w ts))
  steady_on w b next g l a = record {
    less = λ ts. on_less w b next g l a ts (opens w ts) refl;
    alike = first;
  }
    where
      first : (t : PureToken) (u r1 r2 : List PureToken)
          → Alike {n = tree expr} r1 r2 (on_operator sub w b next l a (t ∷ (u ++ r1)) (opens w (t ∷ (u ++ r1))))
          (on_operator sub w b next l a (t ∷ (u ++ r2)) (opens w (t ∷ (u ++ r2))))
      first (token p q k) u r1 r2 = on_alike w b next g l a p q k u r1 r2 (shape w k)

  steady_deep : {n : Nonterminal} → Steady {n = n} (λ ts. deep_at ts)
  steady_deep = record { less = λ ts. omega arith; alike = λ t u r1 r2. sunk t u }

  pub steady_rounds : (k : ℕ) (w : Row) (b : ℕ) (l : SurfaceTree) (a : ℕ)
      → Steady {n = tree expr} (rounds sub k w b l a)
  steady_rounds zero w b l a = steady_on w b (λ l a us. deep_at us) (λ e h. steady_deep) l a
  steady_rounds (suc k) w b l a = steady_on w b (rounds sub k w b) (λ e h. steady_rounds k w b e h) l a

  less_run : {n : Nonterminal} (F : Form n) (b : ℕ) (a : Heights) (ts : List PureToken)
      → length (rest_of (run sub b F a ts)) ≤ length ts
  less_run (gives v) b a ts = omega arith
  less_run refuses b a ts = omega arith
  less_run (skip F) b a [] = omega arith
  less_run (skip F) b a (t ∷ ts) = omega (arith, less_run F b a ts)
  less_run (under F) b a [] = omega arith
  less_run (under F) b a (t ∷ ts) = within_less (nat_lt (tall a) b) (t ∷ ts) _
      (raise_less a (suc (length ts)) (run sub (b - 1) F none_yet ts) (omega (arith, less_run F (b - 1) none_yet ts)))
  less_run (expect k F) b a [] = omega arith
  less_run (expect k F) b a (token p q s ∷ ts) = branch_less (is k s) (suc (length ts)) (run sub b F a ts)
      (syntax_at (token p q s ∷ ts)) (omega (arith, less_run F b a ts)) (omega arith)
  less_run (reads m go) b a ts = then_less (sub b m ts) (length ts)
      (λ v h mid. run sub b (go v) (so_far (beside a h)) mid) ((ih b m).less ts) λ v h us.
      less_run (go v) b (so_far (beside a h)) us
  less_run (pick f) b a [] = omega arith
  less_run (pick f) b a (t ∷ ts) = less_run (f t) b a (t ∷ ts)
  less_run (option k F G) b a [] = less_run G b a []
  less_run (option k F G) b a (token p q s ∷ ts) = branch_less (is k s) (suc (length ts)) _
      (run sub b G a (token p q s ∷ ts))
      (within_less (nat_lt (tall a) b) (token p q s ∷ ts) _
      (raise_less a (suc (length ts)) (run sub (b - 1) F none_yet ts)
      (omega (arith, less_run F (b - 1) none_yet ts)))) (less_run G b a (token p q s ∷ ts))
  less_run (more w l go) b a ts = then_less (rounds sub b w b l (tall a) ts) (length ts)
      (λ e h mid. run sub b (go e) (so_far h) mid) ((steady_rounds b w b l (tall a)).less ts) λ e h us.
      less_run (go e) b (so_far h) us

  steady_by : {n : Nonterminal} (F : Form n) (b : ℕ) (a : Heights)
      → ((t : PureToken) (u r1 r2 : List PureToken) → Alike r1 r2 (run sub b F a (t ∷ (u ++ r1)))
      (run sub b F a (t ∷ (u ++ r2)))) → Steady (run sub b F a)
  steady_by F b a h = record { less = less_run F b a; alike = h }

  alike_run : {n : Nonterminal} (F : Form n) (b : ℕ) (a : Heights) (t : PureToken) (u r1 r2 : List PureToken)
      → Alike r1 r2 (run sub b F a (t ∷ (u ++ r1))) (run sub b F a (t ∷ (u ++ r2)))
  alike_run (gives v) b a t u r1 r2 = both t u
  alike_run refuses b a t u r1 r2 = stuck t u
  alike_run (skip F) b a t u r1 r2 = onward (steady_by F b a (alike_run F b a)) u r1 r2
  alike_run (under F) b a t u r1 r2 = within_alike (nat_lt (tall a) b) t u r1 r2
      (raise_alike a (onward (steady_by F (b - 1) none_yet (alike_run F (b - 1) none_yet)) u r1 r2))
  alike_run (expect k F) b a (token p q s) u r1 r2 =
      branch_alike (is k s) (onward (steady_by F b a (alike_run F b a)) u r1 r2) (stuck (token p q s) u)
  alike_run (reads m go) b a t u r1 r2 = then_alike (λ v h mid. run sub b (go v) (so_far (beside a h)) mid)
      (λ v h. steady_by (go v) b (so_far (beside a h)) (alike_run (go v) b (so_far (beside a h))))
      ((ih b m).alike t u r1 r2)
  alike_run (pick f) b a t u r1 r2 = alike_run (f t) b a t u r1 r2
  alike_run (option k F G) b a (token p q s) u r1 r2 =
      branch_alike (is k s)
      (within_alike (nat_lt (tall a) b) (token p q s) u r1 r2
      (raise_alike a (onward (steady_by F (b - 1) none_yet (alike_run F (b - 1) none_yet)) u r1 r2)))
      (alike_run G b a (token p q s) u r1 r2)
  alike_run (more w l go) b a t u r1 r2 = then_alike (λ e h mid. run sub b (go e) (so_far h) mid)
      (λ e h. steady_by (go e) b (so_far h) (alike_run (go e) b (so_far h)))
      ((steady_rounds b w b l (tall a)).alike t u r1 r2)

  pub steady_run : {n : Nonterminal} (F : Form n) (b : ℕ) (a : Heights) → Steady (run sub b F a)
  steady_run F b a = record { less = less_run F b a; alike = alike_run F b a }

pub steady : (f b : ℕ) (n : Nonterminal) → Steady (parse f b n)
steady zero b n = record { less = λ ts. omega arith; alike = λ t u r1 r2. sunk t u }
steady (suc f) b n = steady_run (parse f) (steady f) (form n) b none_yet
