-- What the grammar reads, the parser reads, or it stops at the first token with which the depth is above b.
use Rattle.std.proofs.Common.{◌≡◌, ℕ, zero, suc, ◌+◌, ◌-◌, ◌*◌, ◌<◌, ◌≤◌, max, List, [], ◌∷◌, refl, sym, subst, Bool}
use Rattle.std.proofs.Common.{true, false, length, nat_lt, arith}
use Rattle.std.proofs.lemmas.Bool.{ltb-true, ltb-false}
use Rattle.mw_lex.specs.Tokens.{Symbol, mod_word, true_word, false_word, bracket_left, escape_mark, paren_left, plus}
use Rattle.mw_lex.specs.Tokens.{minus, star, slash, word, number, PureToken, token}
use Rattle.mw_grammar.specs.SurfaceTrees.{SurfaceTree}
use Rattle.mw_grammar.specs.SourceNodes.{Nodes, none, node, both, depth, height}
use Rattle.mw_grammar.specs.Grammar.{Row, sum, product, application, expr, row, Nonterminal, tree, Meaning, right}
use Rattle.mw_grammar.specs.Forms.{Expected, in_next}
use Rattle.mw_grammar.specs.Forms.{symbol, is, Form, Op, operated, nothing}
use Rattle.mw_grammar.specs.Forms.{operator, opens, opens_by, form}
use Rattle.mw_grammar.specs.Descent.{Answer, ok, syntax_at, deep_at, and_then, within, Heights, none_yet, so_far, tall}
use Rattle.mw_grammar.specs.Descent.{beside, raise, branch, on_operator, rounds, run, parse, rank}
use Rattle.mw_grammar.proofs.Derivations.{Before, empty, some, over, nodes, force, force_of, strength, In, i_gives}
use Rattle.mw_grammar.proofs.Derivations.{i_skip, i_under, i_expect, i_reads, i_pick, i_yes, i_no, i_more, Chain, c_end}
use Rattle.mw_grammar.proofs.Derivations.{c_on}
use Rattle.mw_grammar.proofs.Depths.{there_in, there_out, there_most, depth_most, depth_over, height_over, Grown}
use Rattle.mw_grammar.proofs.Depths.{opening, opens_shorter, behind_operator, grown, grown_chain}
use Rattle.mw_grammar.proofs.Ranks.{Ranked, ranked, rank_right}

-- the meaning where the nodes are not deeper than b, else the first token with which they are
pub data Verdict {n : Nonterminal} (b : ℕ) (v : Meaning n) (s : Nodes) (rest : List PureToken) : Answer n → Type 0 where
  fine : height s ≤ b → Verdict b v s rest (ok v (height s) rest)
  sinks : {t : PureToken} {r : List PureToken} → length rest ≤ length r → b < depth (length r) s
      → depth (suc (length r)) s ≤ b → Verdict b v s rest (deep_at (t ∷ r))

pub is_symbol : (k : Expected) → is k (symbol k) ≡ true
is_symbol in_next = refl
is_symbol _ = refl

closed_by : (w : Row) (k : Symbol) (from ts : List PureToken) → force k < strength (row w) → opens_by w k from ts
    ≡ nothing
closed_by sum plus from ts p = absurd (omega arith)
closed_by sum minus from ts p = absurd (omega arith)
closed_by product star from ts p = absurd (omega arith)
closed_by product slash from ts p = absurd (omega arith)
closed_by product mod_word from ts p = absurd (omega arith)
closed_by application (word x) from ts p = absurd (omega arith)
closed_by application (number x) from ts p = absurd (omega arith)
closed_by application true_word from ts p = absurd (omega arith)
closed_by application false_word from ts p = absurd (omega arith)
closed_by application paren_left from ts p = absurd (omega arith)
closed_by application bracket_left from ts p = absurd (omega arith)
closed_by application escape_mark from ts p = absurd (omega arith)
closed_by _ _ from ts p = refl

closes : (w : Row) (ts : List PureToken) → force_of ts < strength (row w) → opens w ts ≡ nothing
closes w [] p = refl
closes w (token a b k ∷ ts) p = closed_by w k (token a b k ∷ ts) ts p

-- a part, and then the rest
goes_on : {m n : Nonterminal} {b : ℕ} {u : Meaning m} {v : Meaning n} {t s : Nodes} {mid rest : List PureToken}
    {x : Answer m} (go : Meaning m → ℕ → List PureToken → Answer n) → length rest ≤ length mid
    → ((m : ℕ) → length mid ≤ m → b < depth m t → b < depth m s)
    → ((m : ℕ) → length mid ≤ m → depth (suc m) t ≤ b → depth (suc m) s ≤ b)
    → Verdict b u t mid x → (height t ≤ b → Verdict b v s rest (go u (height t) mid))
    → Verdict b v s rest (and_then x go)
goes_on go p up down (fine h) next = next h
goes_on go p up down (sinks {r = r} q x y) next = sinks (omega arith) (up (length r) q x) (down (length r) q y)

-- the heights of the nodes before
abbrev heights : Before → Heights
heights empty = none_yet
heights (some s) = so_far (height s)

tall_is : (a : Before) → tall (heights a) ≡ height (nodes a)
tall_is empty = refl
tall_is (some s) = refl

beside_is : (a : Before) (t : Nodes) → beside (heights a) (height t) ≡ height (over a t)
beside_is empty t = refl
beside_is (some l) t = refl

begun_by : {ts rest : List PureToken} {s : Nodes} → Grown none ts s rest → (m : ℕ) → 0 < depth m s → (c : Bool)
    → nat_lt m (length ts) ≡ c → m < length ts
begun_by {ts = ts} g m p true e = ltb-true m (length ts) e
begun_by {ts = ts} g m p false e =
    absurd (let q : length ts ≤ m = ltb-false m (length ts) e in omega (arith, g.before m q))

-- a part of which a node is there has begun
begun : {ts rest : List PureToken} {s : Nodes} → Grown none ts s rest → (m : ℕ) → 0 < depth m s → m < length ts
begun {ts = ts} g m p = begun_by g m p (nat_lt m (length ts)) refl

-- a node over what a stands for and s
raised : {n : Nonterminal} {c : ℕ} {v : Meaning n} {s : Nodes} {rest : List PureToken} {x : Answer n} (a : Before)
    (ts : List PureToken) → Grown none ts s rest → height (nodes a) < suc c → Verdict c v s rest x
    → Verdict (suc c) v (node (suc (length ts)) (over a s)) rest (raise (heights a) x)
raised {c = c} {v = v} {s = s} {rest = rest} a ts g lt (fine h) =
    subst (λ k. Verdict (suc c) v (node (suc (length ts)) (over a s)) rest (ok v (suc k) rest)) (sym (beside_is a s))
    (fine (omega (arith, height_over a s)))
raised {s = s} a ts g lt (sinks {r = r} q x y) = let n : ℕ = length r in let at : ℕ = suc (length ts) in
    let z : n < length ts = begun g n (omega arith) in
    sinks q (omega (arith, there_in n at, depth_over n a s))
    (omega (arith, there_most (suc n) at, depth_over (suc n) a s, depth_most (suc n) (nodes a)))

by_node : {n : Nonterminal} (b : ℕ) (a : Before) (t : PureToken) (ts : List PureToken) {v : Meaning n} {s : Nodes}
    {rest : List PureToken} (x : Answer n) → Grown none ts s rest → height (nodes a) ≤ b
    → ((m : ℕ) → m ≤ suc (length ts) → depth m (nodes a) ≡ height (nodes a))
    → ((c : ℕ) → b ≡ suc c → Verdict c v s rest x) → (c : Bool) → nat_lt (tall (heights a)) b ≡ c
    → Verdict b v (node (suc (length ts)) (over a s)) rest (within c (t ∷ ts) (raise (heights a) x))
by_node zero a t ts x g fit ripe h true e = let q : height (nodes a) < 0 =
    subst (λ k. k < 0) (tall_is a) (ltb-true (tall (heights a)) 0 e) in absurd (omega arith)
by_node (suc c) a t ts x g fit ripe h true e =
    raised a ts g (subst (λ k. k < suc c) (tall_is a) (ltb-true (tall (heights a)) (suc c) e)) (h c refl)
by_node b a t ts {s = s} x g fit ripe h false e = let q : b ≤ height (nodes a) =
    subst (λ k. b ≤ k) (tall_is a) (ltb-false (tall (heights a)) b e) in let n : ℕ = length ts in
    sinks g.shorter (omega (arith, there_in n (suc n), depth_over n a s, ripe n))
    (omega (
      arith,
      there_out (suc n) (suc n),
      depth_over (suc n) a s,
      depth_most (suc n) (nodes a),
      g.before (suc n),
    ))

less : (b c : ℕ) → b ≡ suc c → b - 1 ≡ c
less b c e = omega arith

-- the part has one node less
sub_goes : {m n : Nonterminal} (b : ℕ) {u : Meaning m} {v : Meaning n} {t s : Nodes} {mid rest : List PureToken}
    {x : Answer m} (go : Meaning m → ℕ → List PureToken → Answer n) → length rest ≤ length mid
    → ((m : ℕ) → length mid ≤ m → b < depth m t → suc b < depth m s)
    → ((m : ℕ) → length mid ≤ m → depth (suc m) t ≤ b → depth (suc m) s ≤ suc b)
    → Verdict b u t mid x → (height t ≤ b → Verdict (suc b) v s rest (go u (height t) mid))
    → Verdict (suc b) v s rest (and_then x go)
sub_goes b go p up down (fine h) next = next h
sub_goes b go p up down (sinks {r = r} q x y) next = sinks (omega arith) (up (length r) q x) (down (length r) q y)

by_operator : {w : Row} (o : Op) (l : SurfaceTree) {r e : SurfaceTree} {s t u : Nodes} (ts : List PureToken)
    {us mid rest : List PureToken} (f b : ℕ) (next : SurfaceTree → ℕ → List PureToken → Answer (tree expr)) → opens w ts
    ≡ operator o us
    → In (tree (right w)) (form (tree (right w))) empty us r t mid
    → Chain w (operated o l r) (node (length ts) (both s t)) mid e u rest → height s ≤ b
    → ((m : ℕ) → m ≤ length ts → depth m s ≡ height s)
    → ((d : ℕ) → b ≡ suc d → Verdict {n = tree (right w)} d r t mid (parse f d (tree (right w)) us))
    → (height s < b → height t < b → Verdict {n = tree expr} b e u rest
    (next (operated o l r) (suc (max (height s) (height t))) mid)) → (c : Bool) → nat_lt (height s) b ≡ c
    → Verdict {n = tree expr} b e u rest
    (within c ts (and_then (parse f (b - 1) (tree (right w)) us) λ r h mid.
    next (operated o l r) (suc (max (height s) h)) mid))
by_operator o l {s = s} ts f zero next x h c fit ripe ih go true e = let q : height s < 0 = ltb-true (height s) 0 e in
    absurd (omega arith)
by_operator {w = w} o l {r = r} {s = s} {t = t} ts {us = us} {mid = mid} f (suc b) next x h c fit ripe ih go true e =
    let lt : height s < suc b = ltb-true (height s) (suc b) e in
    let g = grown h in
    let k = grown_chain c in
    let q = opens_shorter (opening w ts x) in
    let at : ℕ = length ts in
    let d : suc b - 1 ≡ b = omega arith in
    rw d (sub_goes b (λ r h mid. next (operated o l r) (suc (max (height s) h)) mid) k.shorter
    (λ m z y. let v : m < length us = begun g m (omega arith) in omega (arith, k.before m z, there_in m at, q))
    (λ m z y. omega (arith, k.before (suc m), there_most (suc m) at, depth_most (suc m) s))
    (ih b refl)
    (λ low. go lt (omega arith)))
by_operator {w = w} o l [] f b next x h c fit ripe ih go false e = let q = behind_operator (opening w [] x) h in
    absurd (omega arith)
by_operator {w = w} o l {s = s} {u = u} (t ∷ ts) f b next x h c fit ripe ih go false e =
    let ge : b ≤ height s = ltb-false (height s) b e in
    let q = behind_operator (opening w (t ∷ ts) x) h in
    let g = grown h in
    let k = grown_chain c in
    let v = opens_shorter (opening w (t ∷ ts) x) in
    let n : ℕ = length ts in
    let up = k.above n in
    sinks (omega (arith, k.shorter)) (omega (arith, up, ripe n, there_in n (suc n)))
    (omega (arith, k.before (suc n), there_out (suc n) (suc n), g.before (suc n), depth_most (suc n) s))

mutual
  pub complete : {n : Nonterminal} {F : Form n} {a : Before} {ts rest : List PureToken} {v : Meaning n} {s : Nodes}
      → In n F a ts v s rest → (f b r : ℕ) → Ranked r F → b * 12 + r + length ts ≤ f
      → height (nodes a) ≤ b → ((m : ℕ) → m ≤ length ts → depth m (nodes a) ≡ height (nodes a))
      → Verdict b v s rest (run (parse f) b F (heights a) ts)
  complete {v = v} (i_gives {a = a} {ts = ts}) f b r k p fit ripe = subst (λ h. Verdict b v (nodes a) ts (ok v h ts))
      (sym (tall_is a)) (fine fit)
  complete (i_skip h) f b r k p fit ripe = complete h f b (suc r) k (omega arith) fit (λ m q. ripe m (omega arith))
  complete {v = v} (i_under {F = F} {a = a} {t = t} {ts = ts} {rest = rest} {s = s} h) f b r k p fit ripe =
      by_node b a t ts (run (parse f) (b - 1) F none_yet ts) (grown h) fit ripe
      (λ c e. subst (λ d. Verdict c v s rest (run (parse f) d F none_yet ts)) (sym (less b c e))
      (complete h f c 12 k (omega arith) (omega arith) (λ m q. refl)))
      (nat_lt (tall (heights a)) b) refl
  complete {rest = rest} {v = v} {s = s} (i_expect {k = e} {F = F} {a = a} {p = i} {q = j} {ts = ts} h) f b r k p fit
      ripe =
      subst (λ c. Verdict b v s rest
      (branch c (run (parse f) b F (heights a) ts) (syntax_at (token i j (symbol e) ∷ ts)))) (sym (is_symbol e))
      (complete h f b (suc r) k (omega arith) fit (λ m q. ripe m (omega arith)))
  complete (i_reads h e i) zero b r k p fit ripe = let q = k.0 in absurd (omega arith)
  complete {rest = rest} {v = v} {s = s} (i_reads {m = m} {go = go} {a = a} {ts = ts} {mid = mid} {u = u} {t = t} h e i)
      (suc f) b r k p fit ripe =
      let q = k.0 in
      let x = grown h in
      let y = grown i in
      goes_on (λ v d mid. run (parse (suc f)) b (go v) (so_far (beside (heights a) d)) mid) y.shorter
      (λ n z lt. omega (arith, y.above n, depth_over n a t))
      (λ n z le. omega (arith, y.before (suc n), depth_over (suc n) a t, depth_most (suc n) (nodes a)))
      (complete h f b (rank m) (ranked m) (omega arith) (omega arith) (λ m q. refl))
      λ low. subst (λ d. Verdict b v s rest (run (parse (suc f)) b (go u) (so_far d) mid)) (sym (beside_is a t))
      (complete i (suc f) b r (k.1 u) (omega (arith, x.shorter)) (omega (arith, height_over a t))
      (λ n z. omega (arith, depth_over n a t, height_over a t, ripe n, x.behind n, x.shorter)))
  complete (i_pick {t = t} h) f b r k p fit ripe = complete h f b r (k t) p fit ripe
  complete {v = v} (i_yes {k = e} {F = F} {G = G} {a = a} {p = i} {q = j} {ts = ts} {rest = rest} {s = s} h) f b r k p
      fit ripe =
      let t : PureToken = token i j (symbol e) in
      subst (λ c. Verdict b v (node (suc (length ts)) (over a s)) rest
      (branch c (within (nat_lt (tall (heights a)) b) (t ∷ ts)
      (raise (heights a) (run (parse f) (b - 1) F none_yet ts))) (run (parse f) b G (heights a) (t ∷ ts))))
      (sym (is_symbol e))
      (by_node b a t ts (run (parse f) (b - 1) F none_yet ts) (grown h) fit ripe
      (λ c e. subst (λ d. Verdict c v s rest (run (parse f) d F none_yet ts)) (sym (less b c e))
      (complete h f c 12 k.0 (omega arith) (omega arith) (λ m q. refl)))
      (nat_lt (tall (heights a)) b) refl)
  complete (i_no {ts = []} e h) f b r k p fit ripe = complete h f b r k.1 p fit ripe
  complete {rest = rest} {v = v} {s = s} (i_no {k = i} {F = F} {G = G} {a = a} {ts = token x y z ∷ ts} e h) f b r k p
      fit ripe =
      subst (λ c. Verdict b v s rest
      (branch c (within (nat_lt (tall (heights a)) b) (token x y z ∷ ts)
      (raise (heights a) (run (parse f) (b - 1) F none_yet ts)))
      (run (parse f) b G (heights a) (token x y z ∷ ts)))) (sym e)
      (complete h f b r k.1 p fit ripe)
  complete (i_more {w = w} {l = l} {e = e} {go = go} {a = a} {ts = ts} {mid = mid} {t = t} c q h) f b r k p fit ripe =
      let x = grown_chain c in
      let y = grown h in
      goes_on (λ e d mid. run (parse f) b (go e) (so_far d) mid) y.shorter
      (λ n z lt. omega (arith, y.above n))
      (λ n z le. omega (arith, y.before (suc n)))
      (subst (λ h. Verdict b e t mid (rounds (parse f) b w b l h ts)) (sym (tall_is a))
      (complete_chain c q f b b (omega arith) (omega arith) fit ripe))
      λ low. complete h f b r (k e) (omega (arith, x.shorter)) low
      (λ n z. omega (arith, x.behind n z (ripe n (omega (arith, x.shorter)))))

  complete_chain : {w : Row} {l e : SurfaceTree} {s t : Nodes} {ts rest : List PureToken} → Chain w l s ts e t rest
      → force_of rest < strength (row w) → (f b k : ℕ) → b * 12 + length ts ≤ f → b ≤ k + height s
      → height s ≤ b → ((m : ℕ) → m ≤ length ts → depth m s ≡ height s)
      → Verdict b e t rest (rounds (parse f) k w b l (height s) ts)
  complete_chain (c_end {w = w} {l = l} {s = s} {ts = ts}) q f b zero p le fit ripe =
      subst (λ o. Verdict b l s ts (on_operator (parse f) w b (λ l a us. deep_at us) l (height s) ts o))
      (sym (closes w ts q)) (fine fit)
  complete_chain (c_end {w = w} {l = l} {s = s} {ts = ts}) q f b (suc k) p le fit ripe =
      subst (λ o. Verdict b l s ts (on_operator (parse f) w b (rounds (parse f) k w b) l (height s) ts o))
      (sym (closes w ts q)) (fine fit)
  complete_chain (c_on {w = w} {o = o} {l = l} {e = e} {s = s} {u = u} {ts = ts} {us = us} {rest = rest} x h y c) q zero
      b zero p le fit ripe =
      subst (λ z. Verdict b e u rest (on_operator (parse zero) w b (λ l a us. deep_at us) l (height s) ts z)) (sym x)
      (by_operator o l ts zero b (λ l a us. deep_at us) x h c fit ripe
      (λ d z. absurd (omega arith))
      (λ lt low. absurd (omega arith)) (nat_lt (height s) b) refl)
  complete_chain (c_on {w = w} {o = o} {l = l} {e = e} {s = s} {u = u} {ts = ts} {us = us} {rest = rest} x h y c) q zero
      b (suc k) p le fit ripe =
      subst (λ z. Verdict b e u rest (on_operator (parse zero) w b (rounds (parse zero) k w b) l (height s) ts z))
      (sym x)
      (by_operator o l ts zero b (rounds (parse zero) k w b) x h c fit ripe
      (λ d z. absurd (omega arith))
      (λ lt low. complete_chain c q zero b k (omega (arith, behind_operator (opening w ts x) h)) (omega arith)
      (omega arith) (λ n d. let at : ℕ = length ts in let g = grown h in let z =
      behind_operator (opening w ts x) h in let y = opens_shorter (opening w ts x) in
      omega (arith, there_in n at, ripe n, g.behind n))) (nat_lt (height s) b) refl)
  complete_chain (c_on {w = w} {o = o} {l = l} {e = e} {s = s} {u = u} {ts = ts} {us = us} {rest = rest} x h y c) q
      (suc f) b zero p le fit ripe =
      subst (λ z. Verdict b e u rest (on_operator (parse (suc f)) w b (λ l a us. deep_at us) l (height s) ts z)) (sym x)
      (by_operator o l ts (suc f) b (λ l a us. deep_at us) x h c fit ripe
      (λ d z. complete h f d (rank (tree (right w))) (ranked (tree (right w)))
      (omega (arith, rank_right w, opens_shorter (opening w ts x))) (omega arith) (λ m q. refl))
      (λ lt low. absurd (omega arith)) (nat_lt (height s) b) refl)
  complete_chain (c_on {w = w} {o = o} {l = l} {e = e} {s = s} {u = u} {ts = ts} {us = us} {rest = rest} x h y c) q
      (suc f) b (suc k) p le fit ripe =
      subst (λ z. Verdict b e u rest (on_operator (parse (suc f)) w b (rounds (parse (suc f)) k w b) l (height s) ts z))
      (sym x)
      (by_operator o l ts (suc f) b (rounds (parse (suc f)) k w b) x h c fit ripe
      (λ d z. complete h f d (rank (tree (right w))) (ranked (tree (right w)))
      (omega (arith, rank_right w, opens_shorter (opening w ts x))) (omega arith) (λ m q. refl))
      (λ lt low. complete_chain c q (suc f) b k (omega (arith, behind_operator (opening w ts x) h)) (omega arith)
      (omega arith) (λ n d. let at : ℕ = length ts in let g = grown h in let z =
      behind_operator (opening w ts x) h in let y = opens_shorter (opening w ts x) in
      omega (arith, there_in n at, ripe n, g.behind n))) (nat_lt (height s) b) refl)
