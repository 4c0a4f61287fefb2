-- A bound on the calls that is great enough is as good as any other.
use Rattle.std.proofs.Common.{◌≡◌, ℕ, zero, suc, ◌+◌, ◌-◌, ◌*◌, ◌<◌, ◌≤◌, max, List, [], ◌∷◌, refl, ap, ◌∙◌, Bool, true}
use Rattle.std.proofs.Common.{false, length, nat_lt, arith}
use Rattle.std.proofs.lemmas.Bool.{ltb-true}
use Rattle.mw_lex.specs.Tokens.{PureToken, token}
use Rattle.mw_grammar.specs.SurfaceTrees.{SurfaceTree}
use Rattle.mw_grammar.specs.Grammar.{Row, expr, Nonterminal, tree, Meaning, right}
use Rattle.mw_grammar.specs.Forms.{is, Form, gives, refuses, skip, under, expect, reads, pick, option, more, operated}
use Rattle.mw_grammar.specs.Forms.{Opens, nothing, operator, opens, form}
use Rattle.mw_grammar.specs.Descent.{Answer, ok, syntax_at, deep_at, Parser, Parsers, and_then, within, Heights}
use Rattle.mw_grammar.specs.Descent.{none_yet, so_far, tall, beside, raise, branch, on_operator, rounds, run, parse}
use Rattle.mw_grammar.specs.Descent.{full, rank, calls}
use Rattle.mw_grammar.proofs.Depths.{opening, opens_shorter}
use Rattle.mw_grammar.proofs.Ranks.{Ranked, ranked, rank_right}
use Rattle.mw_grammar.proofs.Alike.{rest_of, steady, Steady, steady_rounds}

-- a part read alike, and what follows it read alike
pub then_same : {m n : Nonterminal} (k : ℕ) (x y : Answer m) (f g : Meaning m → ℕ → Parser n) → x ≡ y
    → length (rest_of x)
    ≤ k → ((v : Meaning m) (h : ℕ) (mid : List PureToken) → length mid ≤ k → f v h mid ≡ g v h mid) → and_then x f
    ≡ and_then y g
then_same k (ok v h mid) y f g e p same = same v h mid p ∙ ap (λ z. and_then z g) e
then_same k (syntax_at r) y f g e p same = ap (λ z. and_then z g) e
then_same k (deep_at r) y f g e p same = ap (λ z. and_then z g) e

pub within_same : {n : Nonterminal} (c : Bool) (ts : List PureToken) (x y : Answer n) → (c ≡ true → x ≡ y)
    → within c ts x
    ≡ within c ts y
within_same true ts x y h = h refl
within_same false ts x y h = refl

branch_same : {n : Nonterminal} (c : Bool) {x x' y y' : Answer n} → x ≡ x' → y ≡ y' → branch c x y ≡ branch c x' y'
branch_same true h k = h
branch_same false h k = k

-- two parsers that agree on what a form reads, up to a bound on the calls
module _ (sub sub' : Parsers) (less : (b : ℕ) (m : Nonterminal) → Steady (sub b m)) (f : ℕ)
    (ih : (b : ℕ) (m : Nonterminal) (ts : List PureToken) → calls b m ts < f → sub b m ts ≡ sub' b m ts) where
  on_same : (w : Row) (b : ℕ) (next next' : SurfaceTree → ℕ → List PureToken → Answer (tree expr)) (l : SurfaceTree)
      (a : ℕ) (ts : List PureToken) (o : Opens) → opens w ts ≡ o → b * 12 + length ts ≤ f
      → ((e : SurfaceTree) (h : ℕ) (mid : List PureToken) → length mid ≤ length ts → next e h mid ≡ next' e h mid)
      → on_operator sub w b next l a ts o ≡ on_operator sub' w b next' l a ts o
  on_same w b next next' l a ts nothing e p same = refl
  on_same w b next next' l a ts (operator o us) e p same = within_same (nat_lt a b) ts _ _ λ c.
      let lt : a < b = ltb-true a b c in
      let s = opens_shorter (opening w ts e) in
      then_same (length ts) (sub (b - 1) (tree (right w)) us) (sub' (b - 1) (tree (right w)) us)
      (λ r h mid. next (operated o l r) (suc (max a h)) mid) (λ r h mid. next' (operated o l r) (suc (max a h)) mid)
      (ih (b - 1) (tree (right w)) us (omega (arith, rank_right w)))
      (omega (arith, (less (b - 1) (tree (right w))).less us)) λ r h mid z. same (operated o l r) (suc (max a h))
      mid z

  rounds_same : (k : ℕ) (w : Row) (b : ℕ) (l : SurfaceTree) (a : ℕ) (ts : List PureToken) → b * 12 + length ts ≤ f
      → rounds sub k w b l a ts ≡ rounds sub' k w b l a ts
  rounds_same zero w b l a ts p = on_same w b (λ l a us. deep_at us) (λ l a us. deep_at us) l a ts (opens w ts) refl p
      λ e h mid z. refl
  rounds_same (suc k) w b l a ts p = on_same w b (rounds sub k w b) (rounds sub' k w b) l a ts (opens w ts) refl p
      λ e h mid z. rounds_same k w b e h mid (omega arith)

  node_same : {n : Nonterminal} (F : Form n) (b : ℕ) (a : Heights) (t : PureToken) (ts : List PureToken)
      → ((lt : tall a < b) → run sub (b - 1) F none_yet ts ≡ run sub' (b - 1) F none_yet ts)
      → within (nat_lt (tall a) b) (t ∷ ts) (raise a (run sub (b - 1) F none_yet ts)) ≡ within (nat_lt (tall a) b)
      (t ∷ ts) (raise a (run sub' (b - 1) F none_yet ts))
  node_same F b a t ts h = within_same (nat_lt (tall a) b) (t ∷ ts) _ _ λ c.
      ap (λ x. raise a x) (h (ltb-true (tall a) b c))

  run_same : {n : Nonterminal} (F : Form n) (b r : ℕ) (a : Heights) (ts : List PureToken) → Ranked r F
      → b * 12 + r + length ts ≤ f → run sub b F a ts ≡ run sub' b F a ts
  run_same (gives v) b r a ts k p = refl
  run_same refuses b r a ts k p = refl
  run_same (skip F) b r a [] k p = refl
  run_same (skip F) b r a (t ∷ ts) k p = run_same F b (suc r) a ts k (omega arith)
  run_same (under F) b r a [] k p = refl
  run_same (under F) b r a (t ∷ ts) k p = node_same F b a t ts λ lt. run_same F (b - 1) 12 none_yet ts k (omega arith)
  run_same (expect e F) b r a [] k p = refl
  run_same (expect e F) b r a (token i j s ∷ ts) k p = branch_same (is e s) (run_same F b (suc r) a ts k (omega arith))
      refl
  run_same (reads m go) b r a ts k p =
      let z = k.0 in
      then_same (length ts) (sub b m ts) (sub' b m ts) (λ v h mid. run sub b (go v) (so_far (beside a h)) mid)
      (λ v h mid. run sub' b (go v) (so_far (beside a h)) mid)
      (ih b m ts (omega arith)) ((less b m).less ts) λ v h mid le. run_same (go v) b r (so_far (beside a h)) mid (k.1 v)
      (omega arith)
  run_same (pick h) b r a [] k p = refl
  run_same (pick h) b r a (t ∷ ts) k p = run_same (h t) b r a (t ∷ ts) (k t) p
  run_same (option e F G) b r a [] k p = run_same G b r a [] k.1 p
  run_same (option e F G) b r a (token i j s ∷ ts) k p =
      branch_same (is e s) (node_same F b a (token i j s) ts λ lt. run_same F (b - 1) 12 none_yet ts k.0 (omega arith))
      (run_same G b r a (token i j s ∷ ts) k.1 p)
  run_same (more w l go) b r a ts k p =
      then_same (length ts) (rounds sub b w b l (tall a) ts) (rounds sub' b w b l (tall a) ts)
      (λ e h mid. run sub b (go e) (so_far h) mid) (λ e h mid. run sub' b (go e) (so_far h) mid)
      (rounds_same b w b l (tall a) ts (omega arith)) ((steady_rounds sub less b w b l (tall a)).less ts) λ e h mid le.
      run_same (go e) b r (so_far h) mid (k e) (omega arith)

pub enough : (f g b : ℕ) (n : Nonterminal) (ts : List PureToken) → calls b n ts < f → calls b n ts < g → parse f b n ts
    ≡ parse g b n ts
enough zero g b n ts p q = absurd (omega arith)
enough (suc f) zero b n ts p q = absurd (omega arith)
enough (suc f) (suc g) b n ts p q = run_same (parse f) (parse g) (steady f) (calls b n ts)
    (λ c m us lt. enough f g c m us (omega arith) (omega arith)) (form n) b (rank n) none_yet ts (ranked n)
    (omega arith)

-- the parser reads a nonterminal by its form
pub full_step : (b : ℕ) (n : Nonterminal) (ts : List PureToken) → full b n ts ≡ run full b (form n) none_yet ts
unfolding full
full_step b n ts =
    let k : ℕ = calls b n ts in
    run_same (parse k) full (steady k) k (λ c m us lt. enough k (suc (calls c m us)) c m us lt (omega arith)) (form n) b
    (rank n) none_yet ts (ranked n) (omega arith)
