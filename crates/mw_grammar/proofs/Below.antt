-- For the proofs of the reader.
use Rattle.std.proofs.Common.{◌≡◌, ℕ, zero, suc, ◌+◌, ◌-◌, ◌<◌, ◌≤◌, max, List, Result, nat_lt, refl}
use Rattle.std.proofs.Common.{length, ap, ◌∙◌, sym, subst, arith}
use Rattle.std.proofs.lemmas.Bool.{lt-ltb, le-ltb, ltb-true}
use Rattle.mw_lex.specs.Tokens.{PureToken}
use Rattle.mw_grammar.specs.SurfaceTrees.{SurfaceTree}
use Rattle.mw_grammar.specs.Grammar.{Row, expr, Nonterminal, tree, Meaning, right}
use Rattle.mw_grammar.specs.Descent.{Answer, ok, syntax_at, deep_at, and_then, within, Heights, none_yet, so_far, tall}
use Rattle.mw_grammar.specs.Descent.{beside, raise, on_operator, rounds, run, full, reading, following}
use Rattle.mw_grammar.specs.Forms.{Form, form, gives, refuses, reads, more, Op, operated, Opens, nothing, operator}
use Rattle.mw_grammar.specs.Forms.{opens}
use Rattle.mw_grammar.specs.Gives.{Fails, Gives}
use Rattle.mw_grammar.specs.declared.fault.Fault.{Fault}
use Rattle.mw_grammar.specs.declared.fault.Fault.TheVariants.{Memory, Syntax, Deep}
use Rattle.mw_grammar.proofs.Alike.{rest_of}
use Rattle.mw_grammar.proofs.Enough.{full_step, then_same, within_same}

-- a fault of a part is one of the whole
pub fails_then : {m n : Nonterminal} (e : Fault) (x : Answer m) (go : Meaning m → ℕ → List PureToken → Answer n)
    → Fails e x → Fails e (and_then x go)
fails_then (Memory e) x go h = tt
fails_then (Syntax rest) x go h = rw h refl
fails_then (Deep rest) x go h = rw h refl

pub read_full : (b : ℕ) (n : Nonterminal) (ts : List PureToken) → full b n ts ≡ reading b (form n) none_yet ts
unfolding reading
read_full b n ts = full_step b n ts

pub read_gives : {n : Nonterminal} (b : ℕ) (v : Meaning n) (a : Heights) (ts : List PureToken)
    → reading b (gives v) a ts ≡ ok v (tall a) ts
unfolding reading
read_gives b v a ts = refl

pub read_refuses : {n : Nonterminal} (b : ℕ) (a : Heights) (ts : List PureToken) → reading {n = n} b refuses a ts
    ≡ syntax_at ts
unfolding reading
read_refuses b a ts = refl

pub read_reads : (m : Nonterminal) {n : Nonterminal} (b : ℕ) (go : Meaning m → Form n) (a : Heights)
    (ts : List PureToken) → reading b (reads m go) a ts ≡ and_then (full b m ts) λ v h mid.
    reading b (go v) (so_far (beside a h)) mid
unfolding reading
read_reads m b go a ts = refl

-- a part that was not read
pub part_fails : (m : Nonterminal) {n : Nonterminal} (e : Fault) (b : ℕ) (go : Meaning m → Form n) (a : Heights)
    (ts : List PureToken) → Fails e (full b m ts) → Fails e (reading b (reads m go) a ts)
unfolding reading
part_fails m e b go a ts h = fails_then e (full b m ts) (λ v h mid. run full b (go v) (so_far (beside a h)) mid) h

pub raise_ok : {n : Nonterminal} (x : Answer n) (a : Heights) (v : Meaning n) (h : ℕ) (rest : List PureToken)
    → x ≡ ok v h rest → raise a x ≡ ok v (suc (beside a h)) rest
raise_ok x a v h rest e = ap (λ x. raise a x) e

-- room for a node, or none
pub low_in : {n : Nonterminal} (a b : ℕ) (ts : List PureToken) (x : Answer n) → a < b → within (nat_lt a b) ts x ≡ x
low_in a b ts x p = rw (lt-ltb a b p) refl

pub low_out : {n : Nonterminal} (a b : ℕ) (ts : List PureToken) (x : Answer n) → b ≤ a → within (nat_lt a b) ts x
    ≡ deep_at ts
low_out a b ts x p = rw (le-ltb a b p) refl

pub fails_raise : {n : Nonterminal} (e : Fault) (a : Heights) (x : Answer n) → Fails e x → Fails e (raise a x)
fails_raise (Memory e) a x h = tt
fails_raise (Syntax rest) a x h = rw h refl
fails_raise (Deep rest) a x h = rw h refl

-- what follows a left operand: enough rounds are enough
then_equal : {m n : Nonterminal} (x : Answer m) (f g : Meaning m → ℕ → List PureToken → Answer n)
    → ((v : Meaning m) (h : ℕ) (mid : List PureToken) → f v h mid ≡ g v h mid) → and_then x f ≡ and_then x g
then_equal x f g e = then_same (length (rest_of x)) x x f g refl (omega arith) λ v h mid p. e v h mid

on_equal : (w : Row) (b : ℕ) (f g : SurfaceTree → ℕ → List PureToken → Answer (tree expr)) (l : SurfaceTree) (a : ℕ)
    (ts : List PureToken) (o : Opens)
    → (a < b → (e : SurfaceTree) (h : ℕ) (mid : List PureToken) → f e (suc (max a h)) mid ≡ g e (suc (max a h)) mid)
    → on_operator full w b f l a ts o ≡ on_operator full w b g l a ts o
on_equal w b f g l a ts nothing e = refl
on_equal w b f g l a ts (operator o us) e = within_same (nat_lt a b) ts _ _ λ c.
    then_equal (full (b - 1) (tree (right w)) us) (λ r h mid. f (operated o l r) (suc (max a h)) mid)
    (λ r h mid. g (operated o l r) (suc (max a h)) mid) λ r h mid. e (ltb-true a b c) (operated o l r) h mid

rounds_enough : (k n : ℕ) (w : Row) (b : ℕ) (l : SurfaceTree) (a : ℕ) (ts : List PureToken) → b ≤ k + a → b ≤ n + a
    → rounds full k w b l a ts ≡ rounds full n w b l a ts
rounds_enough zero zero w b l a ts p q = refl
rounds_enough zero (suc n) w b l a ts p q = on_equal w b (λ l a us. deep_at us) (rounds full n w b) l a ts (opens w ts)
    λ lt e h mid. absurd (omega arith)
rounds_enough (suc k) zero w b l a ts p q = on_equal w b (rounds full k w b) (λ l a us. deep_at us) l a ts (opens w ts)
    λ lt e h mid. absurd (omega arith)
rounds_enough (suc k) (suc n) w b l a ts p q = on_equal w b (rounds full k w b) (rounds full n w b) l a ts (opens w ts)
    λ lt e h mid. rounds_enough k n w b e (suc (max a h)) mid (omega arith) (omega arith)

none_by : (k : ℕ) (w : Row) (b : ℕ) (l : SurfaceTree) (a : ℕ) (ts : List PureToken) → opens w ts ≡ nothing
    → rounds full k w b l a ts ≡ ok l a ts
none_by zero w b l a ts e = rw e refl
none_by (suc k) w b l a ts e = rw e refl

pub follow_none : (b : ℕ) (w : Row) (l : SurfaceTree) (a : ℕ) (ts : List PureToken) → opens w ts ≡ nothing
    → following b w l a ts ≡ ok l a ts
unfolding following
follow_none b w l a ts e = none_by b w b l a ts e

deep_by : (k : ℕ) (w : Row) (b : ℕ) (l : SurfaceTree) (a : ℕ) (ts : List PureToken) (o : Op) (us : List PureToken)
    → opens w ts ≡ operator o us → b ≤ a → rounds full k w b l a ts ≡ deep_at ts
deep_by zero w b l a ts o us e p = rw e (low_out a b ts _ p)
deep_by (suc k) w b l a ts o us e p = rw e (low_out a b ts _ p)

pub follow_deep : (b : ℕ) (w : Row) (l : SurfaceTree) (a : ℕ) (ts : List PureToken) (o : Op) (us : List PureToken)
    → opens w ts ≡ operator o us → b ≤ a → following b w l a ts ≡ deep_at ts
unfolding following
follow_deep b w l a ts o us e p = deep_by b w b l a ts o us e p

on_by : (k : ℕ) (w : Row) (b : ℕ) (l : SurfaceTree) (a : ℕ) (ts : List PureToken) (o : Op) (us : List PureToken)
    → b ≡ suc k → opens w ts ≡ operator o us → a < b
    → rounds full b w b l a ts ≡ and_then (full (b - 1) (tree (right w)) us) λ r h mid.
    rounds full b w b (operated o l r) (suc (max a h)) mid
on_by k w b l a ts o us q e p =
    let f : rounds full b w b l a ts ≡ rounds full (suc k) w b l a ts = ap (λ n. rounds full n w b l a ts) q in
    let g : rounds full (suc k) w b l a ts ≡ and_then (full (b - 1) (tree (right w)) us)
    (λ r h mid. rounds full k w b (operated o l r) (suc (max a h)) mid) = rw e (low_in a b ts _ p) in
    f ∙ g ∙ then_equal (full (b - 1) (tree (right w)) us) _ _ λ r h mid. rounds_enough k b w b (operated o l r)
    (suc (max a h)) mid (omega arith) (omega arith)

pub follow_on : (b : ℕ) (w : Row) (l : SurfaceTree) (a : ℕ) (ts : List PureToken) (o : Op) (us : List PureToken)
    → opens w ts ≡ operator o us → a < b
    → following b w l a ts ≡ and_then (full (b - 1) (tree (right w)) us) λ r h mid. following b w (operated o l r)
    (suc (max a h)) mid
unfolding following
follow_on b w l a ts o us e p = on_by (b - 1) w b l a ts o us (omega arith) e p

pub read_more : {n : Nonterminal} (b : ℕ) (w : Row) (l : SurfaceTree) (go : SurfaceTree → Form n) (a : Heights)
    (ts : List PureToken) → reading b (more w l go) a ts ≡ and_then (following b w l (tall a) ts) λ e h mid.
    reading b (go e) (so_far h) mid
unfolding reading following
read_more b w l go a ts = refl

-- an operator, its right operand, and what follows both
pub next_goes : {X : Type 0} (view : X → Answer (tree expr)) (res : Result X Fault) (b : ℕ) (w : Row) (o : Op)
    (l t r : SurfaceTree) (a h k : ℕ) (us mid : List PureToken) → full (b - 1) (tree (right w)) us ≡ ok r h mid
    → t ≡ operated o l r → k ≡ suc (max a h)
    → Gives view res (following b w t k mid)
    → Gives view res (and_then (full (b - 1) (tree (right w)) us) λ r h mid. following b w (operated o l r)
    (suc (max a h)) mid)
next_goes view res b w o l t r a h k us mid e p q g =
    let f : following b w t k mid ≡ following b w (operated o l r) (suc (max a h)) mid =
    ap (λ t. following b w t k mid) p ∙ ap (λ k. following b w (operated o l r) k mid) q in
    subst (λ x. Gives view res x)
    (f ∙ ap (λ x. and_then x λ r h mid. following b w (operated o l r) (suc (max a h)) mid) (sym e)) g

-- what a part that was read is
pub ruleset read_laws = (read_full, read_gives, read_refuses, read_reads, part_fails)

-- the same of an expression, whose parts are one level below
pub ruleset tree_laws = (read_full, read_gives, read_refuses, read_reads, part_fails, fails_then, raise_ok, fails_raise)
