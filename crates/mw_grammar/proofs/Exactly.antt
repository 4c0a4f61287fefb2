-- The parser is exact: a tree where the tokens derive one that is not too deep, else the first fault.
use Rattle.std.proofs.Common.{◌≡◌, ℕ, zero, suc, ◌+◌, ◌<◌, ◌≤◌, max, List, [], ◌∷◌, ◌++◌, refl, ap, ◌∙◌, sym, subst}
use Rattle.std.proofs.Common.{length, append_assoc, append-nil, length-append, Bool, true, false, nat_lt, arith}
use Rattle.std.proofs.lemmas.Bool.{ltb-true, ltb-false}
use Rattle.mw_lex.specs.Tokens.{PureToken}
use Rattle.mw_grammar.specs.SurfaceTrees.{PureSurface}
use Rattle.mw_grammar.specs.SourceNodes.{Nodes, depth, height}
use Rattle.mw_grammar.specs.Grammar.{program, Nonterminal, Meaning}
use Rattle.mw_grammar.specs.Answers.{Derives, IsAtMost, IsAbove, IsDead, IsTree, IsSyntax, IsDeep, HasAnswer, a_tree}
use Rattle.mw_grammar.specs.Answers.{a_syntax, a_deep}
use Rattle.mw_grammar.specs.Descent.{Answer, ok, syntax_at, deep_at, parse, full, rank, calls}
use Rattle.mw_grammar.proofs.Depths.{depth_most, depth_less}
use Rattle.mw_grammar.proofs.Ranks.{ranked}
use Rattle.mw_grammar.proofs.Complete.{Verdict, fine, sinks, complete}
use Rattle.mw_grammar.proofs.Alike.{Alike, both, stuck, sunk, beyond, rest_of, onward, steady}
use Rattle.mw_grammar.proofs.Enough.{enough}
use Rattle.mw_grammar.proofs.Enters.{enter}
use Rattle.mw_grammar.proofs.Says.{Tells, goes, whole, stuck as halted, sunk as drowned, says}

-- a program and no more, with any bound on the calls that is enough
verdict : (f b : ℕ) {ts : List PureToken} {v : PureSurface} {s : Nodes} → Derives ts v s → calls b program ts < f
    → Verdict b v s [] (parse f b program ts)
verdict zero b h p = absurd (omega arith)
verdict (suc f) b h p = complete (enter h (omega arith)) f b (rank program) (ranked program) (omega arith) (omega arith)
    (λ m q. refl)

beyond_of : {n : Nonterminal} {r1 r2 : List PureToken} {x y : Answer n} → Alike r1 r2 x y → length (rest_of x)
    ≤ length r1 → length (rest_of y) ≤ length r2
beyond_of {r1 = r1} (both t u) p = absurd (omega (arith, length-append u r1))
beyond_of {r1 = r1} (stuck t u) p = absurd (omega (arith, length-append u r1))
beyond_of {r1 = r1} (sunk t u) p = absurd (omega (arith, length-append u r1))
beyond_of (beyond h k) p = k

verdict_depth : {n : Nonterminal} {b : ℕ} {v : Meaning n} {s : Nodes} {rest : List PureToken} {y : Answer n}
    → Verdict b v s rest y → (m : ℕ) → length (rest_of y) ≤ m → depth m s ≤ b
verdict_depth {s = s} (fine h) m p = omega (arith, depth_most m s)
verdict_depth {s = s} (sinks {r = r} q x y) m p = omega (arith, depth_less (suc (length r)) m s p)

depth_verdict : {n : Nonterminal} {b : ℕ} {v : Meaning n} {s : Nodes} {y : Answer n} → Verdict b v s [] y → (m : ℕ)
    → depth m s ≤ b → length (rest_of y) ≤ m
depth_verdict (fine h) m p = omega arith
depth_verdict {b = b} {s = s} (sinks {r = r} q x y) m p = by_less (nat_lt (length r) m) refl
  where
    by_less : (c : Bool) → nat_lt (length r) m ≡ c → suc (length r) ≤ m
    by_less true e = omega (arith, ltb-true (length r) m e)
    by_less false e = let k : m ≤ length r = ltb-false (length r) m e in
        absurd (omega (arith, depth_less m (length r) s k))

-- a bound that is enough for two lists
abbrev bound : ℕ → List PureToken → List PureToken → ℕ
bound b ts us = suc (calls b program ts + calls b program us)

-- the answers for two completions of a front
two_ways : (b : ℕ) (u r1 r2 : List PureToken) → Alike r1 r2 (full b program (u ++ r1)) (full b program (u ++ r2))
unfolding full
two_ways b u r1 r2 =
    let f : ℕ = bound b (u ++ r1) (u ++ r2) in
    let e : parse f b program (u ++ r1) ≡ parse (suc (calls b program (u ++ r1))) b program (u ++ r1) =
    enough f (suc (calls b program (u ++ r1))) b program (u ++ r1) (omega arith) (omega arith) in
    let g : parse f b program (u ++ r2) ≡ parse (suc (calls b program (u ++ r2))) b program (u ++ r2) =
    enough f (suc (calls b program (u ++ r2))) b program (u ++ r2) (omega arith) (omega arith) in
    rw e at (rw g at (onward (steady f b program) u r1 r2))

verdict_full : (b : ℕ) {ts : List PureToken} {v : PureSurface} {s : Nodes} → Derives ts v s
    → Verdict b v s [] (full b program ts)
unfolding full
verdict_full b {ts = ts} h = verdict (suc (calls b program ts)) b h (omega arith)

-- where the answer lies after the front, the front is not too deep
low_front : (b : ℕ) (u r : List PureToken) → length (rest_of (full b program (u ++ r))) ≤ length r → IsAtMost b u
low_front b u r h more v s d = verdict_depth (verdict_full b d) (length more) (beyond_of (two_ways b u r more) h)

ok_rest : {n : Nonterminal} {b : ℕ} {v : Meaning n} {s : Nodes} {rest : List PureToken} {y : Answer n}
    → Verdict b v s rest y → (v' : Meaning n) (h : ℕ) (r : List PureToken) → y ≡ ok v' h r → (rest ≡ r) × (v ≡ v')
    × (height s ≤ b)
ok_rest (fine l) v' h r e = ((cc), (cc), l)
ok_rest (sinks p x y) v' h r e = absurd (cc)

not_syntax : {n : Nonterminal} {b : ℕ} {v : Meaning n} {s : Nodes} {rest : List PureToken} {y : Answer n}
    → Verdict b v s rest y → (r : List PureToken) → y ≡ syntax_at r → ⊥
not_syntax (fine h) r e = absurd (cc)
not_syntax (sinks p x y) r e = absurd (cc)

-- what is no fault of depth in the front stands there for all that follows
dead_ok : {b : ℕ} {r more : List PureToken} {v : PureSurface} {s : Nodes} {x y : Answer program} → Alike r more x y
    → Verdict {n = program} b v s [] y → length r < length (rest_of x) → (v' : PureSurface) (h : ℕ) (q : List PureToken)
    → x ≡ ok v' h q → ⊥
dead_ok (both {v = w} {h = k} t u) v p v' h q f = let g = (ok_rest v w k _ refl).0 in absurd (cc)
dead_ok (stuck t u) v p v' h q f = absurd (cc)
dead_ok (sunk t u) v p v' h q f = absurd (cc)
dead_ok (beyond h k) v p v' i q f = absurd (omega arith)

dead_syntax : {b : ℕ} {r more : List PureToken} {v : PureSurface} {s : Nodes} {x y : Answer program} → Alike r more x y
    → Verdict {n = program} b v s [] y → length r < length (rest_of x) → (q : List PureToken) → x ≡ syntax_at q → ⊥
dead_syntax (both t u) v p q f = absurd (cc)
dead_syntax (stuck t u) v p q f = not_syntax v _ refl
dead_syntax (sunk t u) v p q f = absurd (cc)
dead_syntax (beyond h k) v p q f = absurd (omega arith)

sunk_high : {n : Nonterminal} {b : ℕ} {v : Meaning n} {s : Nodes} {rest : List PureToken} {y : Answer n}
    → Verdict b v s rest y → (m : ℕ) → length (rest_of y) ≡ suc m → (q : List PureToken) → y ≡ deep_at q → b < depth m s
sunk_high (fine h) m p q f = absurd (cc)
sunk_high {b = b} {s = s} (sinks {r = r} z x y) m p q f = let e : length r ≡ m = omega arith in
    subst (λ k. b < depth k s) e x

high_deep : {b : ℕ} {r more : List PureToken} {v : PureSurface} {s : Nodes} {x y : Answer program} → Alike r more x y
    → Verdict {n = program} b v s [] y → length (rest_of x) ≡ suc (length r) → (q : List PureToken) → x ≡ deep_at q
    → b < depth (length more) s
high_deep (both t u) v p q f = absurd (cc)
high_deep (stuck t u) v p q f = absurd (cc)
high_deep {r = r} {more = more} (sunk t u) v p q f =
    sunk_high v (length more) (omega (arith, length-append u r, length-append u more)) _ refl
high_deep (beyond h k) v p q f = absurd (omega arith)

next : (b : ℕ) (front : List PureToken) (t : PureToken) (r more : List PureToken)
    → Alike r more (full b program (front ++ (t ∷ r))) (full b program (front ++ (t ∷ more)))
next b front t r more = rw (append_assoc front (t ∷ []) r, append_assoc front (t ∷ []) more) at
    (two_ways b (front ++ (t ∷ [])) r more)

module _ (b : ℕ) (ts : List PureToken) where
  low_by : (front r : List PureToken) (x : Answer program) → full b program ts ≡ x → ts ≡ front ++ r
      → length (rest_of x) ≤ length r → IsAtMost b front
  low_by front r x e q h = low_front b front r (let f : full b program (front ++ r) ≡ x = ap (full b program) (sym q)
      ∙ e in omega (arith, ap (λ y. length (rest_of y)) f))

  dead_by_syntax : (front r : List PureToken) → full b program ts ≡ syntax_at r → ts ≡ front ++ r → IsDead front r
  dead_by_syntax front [] e q = λ v s d.
      let f : full b program front ≡ syntax_at [] = ap (full b program) (sym (q ∙ append-nil front)) ∙ e in
      not_syntax (verdict_full b d) [] f
  dead_by_syntax front (t ∷ r) e q = λ more v s d.
      let f : full b program (front ++ (t ∷ r)) ≡ syntax_at (t ∷ r) = ap (full b program) (sym q) ∙ e in
      dead_syntax (next b front t r more) (verdict_full b d) (omega (arith, ap (λ y. length (rest_of y)) f)) (t ∷ r) f

  dead_by_ok : (front : List PureToken) (v' : PureSurface) (h : ℕ) (t : PureToken) (r : List PureToken)
      → full b program ts ≡ ok v' h (t ∷ r) → ts ≡ front ++ (t ∷ r) → IsDead front (t ∷ r)
  dead_by_ok front v' h t r e q more v s d =
      let f : full b program (front ++ (t ∷ r)) ≡ ok v' h (t ∷ r) = ap (full b program) (sym q) ∙ e in
      dead_ok (next b front t r more) (verdict_full b d) (omega (arith, ap (λ y. length (rest_of y)) f)) v' h (t ∷ r) f

  high_by : (front : List PureToken) (t : PureToken) (r : List PureToken) → full b program ts ≡ deep_at (t ∷ r)
      → ts ≡ front ++ (t ∷ r) → IsAbove b (front ++ (t ∷ []))
  high_by front t r e q more v s d =
      let f : full b program ((front ++ (t ∷ [])) ++ r) ≡ deep_at (t ∷ r) =
      ap (full b program) (append_assoc front (t ∷ []) r ∙ sym q) ∙ e in
      high_deep (two_ways b (front ++ (t ∷ [])) r more) (verdict_full b d)
      (omega (arith, ap (λ y. length (rest_of y)) f)) (t ∷ r) f

  pub exact_ok : (v : PureSurface) (h : ℕ) → full b program ts ≡ ok v h [] → Tells program ts (ok v h [])
      → IsTree b ts v
  exact_ok v h e (goes front us w q (whole p) g) =
      let d : Derives ts v (g tt []).0 = subst (λ z. Derives z v (g tt []).0) (sym q) (g tt []).1 in
      record { nodes = (g tt []).0; derives = d; low = (ok_rest (verdict_full b d) v h [] e).2 }

  pub exact_left : (v : PureSurface) (h : ℕ) (t : PureToken) (r : List PureToken) → full b program ts ≡ ok v h (t ∷ r)
      → Tells program ts (ok v h (t ∷ r)) → IsSyntax b ts (t ∷ r)
  exact_left v h t r e (goes front us w q (whole p) g) = record {
    front = front;
    split = q;
    begins = ([], v, (g tt []).0, (g tt []).1);
    low = low_by front (t ∷ r) (ok v h (t ∷ r)) e q (omega arith);
    dead = dead_by_ok front v h t r e q;
  }

  pub exact_syntax : (r : List PureToken) → full b program ts ≡ syntax_at r → Tells program ts (syntax_at r)
      → IsSyntax b ts r
  exact_syntax r e (goes front us v q halted g) = record {
    front = front;
    split = q;
    begins = (us ++ [], v, (g tt []).0, (g tt []).1);
    low = low_by front r (syntax_at r) e q (omega arith);
    dead = dead_by_syntax front r e q;
  }

  pub exact_deep : (r : List PureToken) → full b program ts ≡ deep_at r → Tells program ts (deep_at r) → IsDeep b ts r
  exact_deep r e (goes front ws v q (drowned {t = t} {r = i} {us = us}) g) = record {
    front = front;
    fault = t;
    behind = i;
    first = refl;
    split = q;
    begins = (us ++ [], v, (g tt []).0, rw (append_assoc front (t ∷ []) (us ++ [])) (g tt []).1);
    low = low_by front (t ∷ i) (deep_at (t ∷ i)) e q (omega arith);
    high = high_by front t i e q;
  }

  pub tells_full : Tells program ts (full b program ts)
  unfolding full
  tells_full = says (suc (calls b program ts)) b program ts (omega arith)

-- a tree that is low is found
found_by : {b : ℕ} {v : PureSurface} {s : Nodes} {y : Answer program} → Verdict {n = program} b v s [] y → height s ≤ b
    → y ≡ ok v (height s) []
found_by (fine h) p = refl
found_by {s = s} (sinks {r = r} q x y) p = absurd (omega (arith, depth_most (length r) s))

pub found : (b : ℕ) (ts : List PureToken) (v : PureSurface) → (t : IsTree b ts v) → full b program ts
    ≡ ok v (height t.nodes) []
found b ts v t = found_by (verdict_full b t.derives) t.low

-- a list of tokens derives at most one tree
pub one_tree : (ts : List PureToken) (v w : PureSurface) (s t : Nodes) → Derives ts v s → Derives ts w t → v ≡ w
one_tree ts v w s t g h =
    let b : ℕ = max (height s) (height t) in
    let e : full b program ts ≡ ok v (height s) [] = found_by (verdict_full b g) (omega arith) in
    let f : full b program ts ≡ ok w (height t) [] = found_by (verdict_full b h) (omega arith) in
    (ok_rest (verdict_full b g) w (height t) [] f).1

at_most : (front more1 more2 : List PureToken) (v1 v2 : PureSurface) (s1 s2 : Nodes) → Derives (front ++ more1) v1 s1
    → Derives (front ++ more2) v2 s2 → depth (length more2) s2 ≤ depth (length more1) s1
at_most front more1 more2 v1 v2 s1 s2 g h =
    let b : ℕ = depth (length more1) s1 in
    low_front b front more1 (depth_verdict (verdict_full b g) (length more1) (omega arith)) more2 v2 s2 h

-- the depth of a front is the same in all its completions
pub one_depth : (front more1 more2 : List PureToken) (v1 v2 : PureSurface) (s1 s2 : Nodes)
    → Derives (front ++ more1) v1 s1 → Derives (front ++ more2) v2 s2 → depth (length more1) s1 ≡ depth (length more2)
    s2
one_depth front more1 more2 v1 v2 s1 s2 g h =
    omega (arith, at_most front more1 more2 v1 v2 s1 s2 g h, at_most front more2 more1 v2 v1 s2 s1 h g)

answer_by : (b : ℕ) (ts : List PureToken) (x : Answer program) → full b program ts ≡ x → Tells program ts x
    → HasAnswer b ts
answer_by b ts (ok v h []) e t = a_tree v (exact_ok b ts v h e t)
answer_by b ts (ok v h (i ∷ r)) e t = a_syntax (i ∷ r) (exact_left b ts v h i r e t)
answer_by b ts (syntax_at r) e t = a_syntax r (exact_syntax b ts r e t)
answer_by b ts (deep_at r) e t = a_deep r (exact_deep b ts r e t)

-- every list of tokens has an answer
pub answer : (b : ℕ) (ts : List PureToken) → HasAnswer b ts
answer b ts = answer_by b ts (full b program ts) refl (tells_full b ts)
