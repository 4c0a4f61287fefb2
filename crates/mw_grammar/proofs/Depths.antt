-- What the depth of a front is before, in and after what a form reads.
use Rattle.std.proofs.Common.{◌≡◌, ℕ, zero, suc, ◌<◌, ◌≤◌, max, List, [], ◌∷◌, refl, ap, ◌∙◌, subst, length, arith}
use Rattle.mw_lex.specs.Tokens.{Symbol, mod_word, true_word, false_word, bracket_left, escape_mark, paren_left, plus}
use Rattle.mw_lex.specs.Tokens.{minus, star, slash, word, number, PureToken, token}
use Rattle.mw_grammar.specs.SurfaceTrees.{SurfaceTree}
use Rattle.mw_grammar.specs.SourceNodes.{Nodes, none, node, both, there, depth, height}
use Rattle.mw_grammar.specs.Grammar.{Row, sum, product, application, atom, Nonterminal, tree, Meaning, right}
use Rattle.mw_grammar.specs.Forms.{symbol, Form, under, Op, apply, operator, opens, opens_by, form, atom_by}
use Rattle.mw_grammar.proofs.Derivations.{Before, empty, some, over, nodes, In, i_gives, i_skip, i_under, i_expect}
use Rattle.mw_grammar.proofs.Derivations.{i_reads, i_pick, i_yes, i_no, i_more, Chain, c_end, c_on, no_refuses}

pub there_in : (m at : ℕ) → m < at → there m at ≡ 1
there_in zero zero p = absurd (omega arith)
there_in zero (suc at) p = refl
there_in (suc m) zero p = absurd (omega arith)
there_in (suc m) (suc at) p = there_in m at (omega arith)

pub there_out : (m at : ℕ) → at ≤ m → there m at ≡ 0
there_out zero zero p = refl
there_out zero (suc at) p = absurd (omega arith)
there_out (suc m) zero p = refl
there_out (suc m) (suc at) p = there_out m at (omega arith)

pub there_most : (m at : ℕ) → there m at ≤ 1
there_most zero zero = omega arith
there_most zero (suc at) = omega arith
there_most (suc m) zero = omega arith
there_most (suc m) (suc at) = there_most m at

there_less : (m n at : ℕ) → m ≤ n → there n at ≤ there m at
there_less zero zero at p = omega arith
there_less zero (suc n) zero p = omega arith
there_less zero (suc n) (suc at) p = there_most n at
there_less (suc m) zero at p = absurd (omega arith)
there_less (suc m) (suc n) zero p = omega arith
there_less (suc m) (suc n) (suc at) p = there_less m n at (omega arith)

pub depth_most : (m : ℕ) (s : Nodes) → depth m s ≤ height s
depth_most m none = omega arith
depth_most m (node at s) = omega (arith, there_most m at, depth_most m s)
depth_most m (both s t) = omega (arith, depth_most m s, depth_most m t)

-- a longer front is as deep
pub depth_less : (m n : ℕ) (s : Nodes) → m ≤ n → depth n s ≤ depth m s
depth_less m n none p = omega arith
depth_less m n (node at s) p = omega (arith, there_less m n at p, depth_less m n s p)
depth_less m n (both s t) p = omega (arith, depth_less m n s p, depth_less m n t p)

pub depth_over : (m : ℕ) (a : Before) (t : Nodes) → depth m (over a t) ≡ max (depth m (nodes a)) (depth m t)
depth_over m empty t = omega arith
depth_over m (some l) t = refl

pub height_over : (a : Before) (t : Nodes) → height (over a t) ≡ max (height (nodes a)) (height t)
height_over empty t = omega arith
height_over (some l) t = refl

-- what is read from ts up to rest, where l stands before it under the same node
pub record Grown (l : Nodes) (ts : List PureToken) (s : Nodes) (rest : List PureToken) : Type 0 where
  pub shorter : length rest ≤ length ts
  pub before : (m : ℕ) → length ts ≤ m → depth m s ≡ depth m l
  pub behind : (m : ℕ) → m ≤ length rest → depth m l ≡ height l → depth m s ≡ height s
  pub above : (m : ℕ) → depth m l ≤ depth m s

-- An operator: a sign, or for an application the argument itself.
abbrev pub Sign : Row → Symbol → Op → Type 0
Sign w k o = (from ts : List PureToken) → opens_by w k from ts ≡ operator o ts

pub data Opening (w : Row) (o : Op) (ts us : List PureToken) : Type 0 where
  at_sign : (a b : ℕ) (k : Symbol) → ts ≡ token a b k ∷ us → Sign w k o → Opening w o ts us
  at_argument : w ≡ application → us ≡ ts → o ≡ apply → Opening w o ts us

pub found : {w : Row} {o o' : Op} {us us' : List PureToken} (a b : ℕ) (k : Symbol) → Sign w k o → operator o us
    ≡ operator o' us' → Opening w o' (token a b k ∷ us) us'
found {o = o} {o' = o'} {us = us} {us' = us'} a b k s e =
    let p : us ≡ us' = cc in
    let q : o ≡ o' = cc in
    at_sign a b k (ap (λ u. token a b k ∷ u) p) (λ from ts. s from ts ∙ ap (λ o. operator o ts) q)

opening_by : (w : Row) (a b : ℕ) (k : Symbol) (ts : List PureToken) {o : Op} {us : List PureToken}
    → opens_by w k (token a b k ∷ ts) ts ≡ operator o us → Opening w o (token a b k ∷ ts) us
opening_by sum a b plus ts e = found a b plus (λ f t. refl) e
opening_by sum a b minus ts e = found a b minus (λ f t. refl) e
opening_by product a b star ts e = found a b star (λ f t. refl) e
opening_by product a b slash ts e = found a b slash (λ f t. refl) e
opening_by product a b mod_word ts e = found a b mod_word (λ f t. refl) e
opening_by application a b (word x) ts e = at_argument refl (cc) (cc)
opening_by application a b (number n) ts e = at_argument refl (cc) (cc)
opening_by application a b true_word ts e = at_argument refl (cc) (cc)
opening_by application a b false_word ts e = at_argument refl (cc) (cc)
opening_by application a b paren_left ts e = at_argument refl (cc) (cc)
opening_by application a b bracket_left ts e = at_argument refl (cc) (cc)
opening_by application a b escape_mark ts e = at_argument refl (cc) (cc)
opening_by _ a b _ ts e = absurd (cc)

pub opening : (w : Row) (ts : List PureToken) {o : Op} {us : List PureToken} → opens w ts ≡ operator o us
    → Opening w o ts us
opening w [] e = absurd (cc)
opening w (token a b k ∷ ts) e = opening_by w a b k ts e

pub opens_shorter : {w : Row} {o : Op} {ts us : List PureToken} → Opening w o ts us → length us ≤ length ts
opens_shorter (at_sign a b k e s) = omega (arith, ap length e)
opens_shorter (at_argument f e q) = omega (arith, ap length e)

mutual
  pub shorter : {n : Nonterminal} {F : Form n} {a : Before} {ts rest : List PureToken} {v : Meaning n} {s : Nodes}
      → In n F a ts v s rest → length rest ≤ length ts
  shorter i_gives = omega arith
  shorter (i_skip h) = omega (arith, shorter h)
  shorter (i_under h) = omega (arith, shorter h)
  shorter (i_expect h) = omega (arith, shorter h)
  shorter (i_reads h e i) = omega (arith, shorter h, shorter i)
  shorter (i_pick h) = shorter h
  shorter (i_yes h) = omega (arith, shorter h)
  shorter (i_no e h) = shorter h
  shorter (i_more c e h) = omega (arith, shorter_chain c, shorter h)

  pub shorter_chain : {w : Row} {l e : SurfaceTree} {s t : Nodes} {ts rest : List PureToken} → Chain w l s ts e t rest
      → length rest ≤ length ts
  shorter_chain c_end = omega arith
  shorter_chain (c_on {w = w} {ts = ts} e h x c) =
      omega (arith, shorter h, shorter_chain c, opens_shorter (opening w ts e))

in_under : {n : Nonterminal} {F : Form n} {t : PureToken} {ts rest : List PureToken} {v : Meaning n} {s : Nodes}
    → In n (under F) empty (t ∷ ts) v s rest → length rest ≤ length ts
in_under (i_under h) = shorter h

atom_less : (k : Symbol) (a b : ℕ) {ts rest : List PureToken} {v : SurfaceTree} {s : Nodes}
    → In (tree atom) (atom_by (token a b k)) empty (token a b k ∷ ts) v s rest → length rest ≤ length ts
atom_less (word x) a b h = in_under h
atom_less (number n) a b h = in_under h
atom_less true_word a b h = in_under h
atom_less false_word a b h = in_under h
atom_less paren_left a b h = in_under h
atom_less bracket_left a b h = in_under h
atom_less escape_mark a b h = in_under h
atom_less _ a b h = absurd (no_refuses h)

-- an atom has a token
pub atom_shorter : {ts rest : List PureToken} {v : SurfaceTree} {s : Nodes} → In (tree atom) (form (tree atom)) empty ts
    v s rest → length rest < length ts
atom_shorter (i_pick {t = token a b k} h) = omega (arith, atom_less k a b h)

pub behind_operator : {w : Row} {o : Op} {ts us mid : List PureToken} {r : SurfaceTree} {t : Nodes} → Opening w o ts us
    → In (tree (right w)) (form (tree (right w))) empty us r t mid → length mid < length ts
behind_operator (at_sign a b k e s) h = omega (arith, ap length e, shorter h)
behind_operator {us = us} {mid = mid} {r = r} {t = t} (at_argument f e q) h =
    let i : In (tree atom) (form (tree atom)) empty us r t mid =
    subst (λ w. In (tree (right w)) (form (tree (right w))) empty us r t mid) f h in
    omega (arith, ap length e, atom_shorter i)

pub over_node : (a : Before) (ts rest : List PureToken) (s : Nodes) → Grown none ts s rest → (t : PureToken)
    → Grown (nodes a) (t ∷ ts) (node (suc (length ts)) (over a s)) rest
over_node a ts rest s g t = let at : ℕ = suc (length ts) in record {
  shorter = omega (arith, g.shorter);
  before = λ m p. omega (arith, there_out m at, g.before m, depth_over m a s);
  behind = λ m p e. omega (arith, there_in m at, g.behind m, depth_over m a s, height_over a s, g.shorter);
  above = λ m. omega (arith, depth_over m a s);
}

after_token : {l s : Nodes} {t : PureToken} {ts rest : List PureToken} → Grown l ts s rest → Grown l (t ∷ ts) s rest
after_token g = record {
  shorter = omega (arith, g.shorter);
  before = λ m p. g.before m (omega arith);
  behind = g.behind;
  above = g.above;
}

as_before : {s : Nodes} {ts : List PureToken} → Grown s ts s ts
as_before = record { shorter = omega arith; before = λ m p. refl; behind = λ m p e. e; above = λ m. omega arith }

mutual
  pub grown : {n : Nonterminal} {F : Form n} {a : Before} {ts rest : List PureToken} {v : Meaning n} {s : Nodes}
      → In n F a ts v s rest → Grown (nodes a) ts s rest
  grown i_gives = as_before
  grown (i_skip h) = after_token (grown h)
  grown (i_under {a = a} {t = t} {ts = ts} {rest = rest} {s = s} h) = over_node a ts rest s (grown h) t
  grown (i_expect h) = after_token (grown h)
  grown (i_reads {a = a} {t = t} h e i) = let f = grown h in let g = grown i in record {
    shorter = omega (arith, f.shorter, g.shorter);
    before = λ m p. omega (arith, f.before m, g.before m, f.shorter, depth_over m a t);
    behind = λ m p e. omega (arith, f.behind m, g.behind m, g.shorter, depth_over m a t, height_over a t);
    above = λ m. omega (arith, g.above m, depth_over m a t);
  }
  grown (i_pick h) = grown h
  grown (i_yes {k = k} {a = a} {p = p} {q = q} {ts = ts} {rest = rest} {s = s} h) =
      over_node a ts rest s (grown h) (token p q (symbol k))
  grown (i_no e h) = grown h
  grown (i_more c e h) = let f = grown_chain c in let g = grown h in record {
    shorter = omega (arith, f.shorter, g.shorter);
    before = λ m p. omega (arith, f.before m, g.before m, f.shorter);
    behind = λ m p e. omega (arith, f.behind m, g.behind m, g.shorter);
    above = λ m. omega (arith, f.above m, g.above m);
  }

  pub grown_chain : {w : Row} {l e : SurfaceTree} {s t : Nodes} {ts rest : List PureToken} → Chain w l s ts e t rest
      → Grown s ts t rest
  grown_chain c_end = as_before
  grown_chain (c_on {w = w} {s = s} {ts = ts} e h x c) = let f = grown h in let g = grown_chain c in let q =
      behind_operator (opening w ts e) h in let at : ℕ = length ts in record {
        shorter = omega (arith, f.shorter, g.shorter, q);
        before = λ m p.
            omega (arith, there_out m at, f.before m, g.before m, f.shorter, q, opens_shorter (opening w ts e));
        behind = λ m p e. omega (arith, there_in m at, f.behind m, g.behind m, f.shorter, g.shorter, q);
        above = λ m. omega (arith, g.above m);
      }
