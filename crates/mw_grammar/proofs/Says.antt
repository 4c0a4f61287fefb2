-- The parser reads by the grammar, and stops after a front that can be completed.
use Rattle.std.proofs.Common.{◌≡◌, ℕ, zero, suc, ◌+◌, ◌-◌, ◌*◌, ◌<◌, ◌≤◌, max, List, [], ◌∷◌, ◌++◌, refl, ap, ◌∙◌, sym}
use Rattle.std.proofs.Common.{subst, Bool, true, false, length, nat_lt, append_assoc, arith}
use Rattle.std.proofs.lemmas.Bool.{ltb-true}
use Rattle.mw_lex.specs.Tokens.{Symbol, in_word, then_word, else_word, bracket_right, square_left, square_right}
use Rattle.mw_lex.specs.Tokens.{item_end, colon, equal, arrow, less, less_equal, and_mark, or_mark, paren_right}
use Rattle.mw_lex.specs.Tokens.{true_word, false_word, bracket_left, escape_mark, paren_left, star, word, number}
use Rattle.mw_lex.specs.Tokens.{PureToken, token}
use Rattle.mw_grammar.specs.SurfaceTrees.{SurfaceTree, prim, app}
use Rattle.mw_grammar.specs.SourceNodes.{Nodes, node, both}
use Rattle.mw_grammar.specs.Grammar.{Row, application, expr, atom, Nonterminal, tree, Meaning, Reads, More, m_end}
use Rattle.mw_grammar.specs.Grammar.{m_sign, m_argument, r_name, r_number, r_true, r_false, r_paren, r_bracket}
use Rattle.mw_grammar.specs.Grammar.{r_escape, right}
use Rattle.mw_grammar.specs.Forms.{Expected, in_next, then_next, else_next, paren_next, bracket_next, left_next}
use Rattle.mw_grammar.specs.Forms.{right_next, end_next, colon_next, equal_next, arrow_next, star_next, less_next}
use Rattle.mw_grammar.specs.Forms.{less_equal_next, and_next, or_next, symbol, is, Form, gives, refuses, skip, under}
use Rattle.mw_grammar.specs.Forms.{expect, reads, pick, option, more, apply, operator, opens_by, form}
use Rattle.mw_grammar.specs.Descent.{Answer, ok, syntax_at, deep_at, and_then, within, Heights, none_yet, so_far, tall}
use Rattle.mw_grammar.specs.Descent.{beside, raise, branch, on_operator, rounds, run, parse, rank, calls}
use Rattle.mw_grammar.proofs.Derivations.{Before, empty, some, over, nodes}
use Rattle.mw_grammar.proofs.Ranks.{Ranked, ranked, rank_right}
use Rattle.mw_grammar.proofs.Alike.{Shape, no_operator, before_operand, at_operand, shape, rest_of, steady}
use Rattle.mw_grammar.proofs.Alike.{steady_rounds}
use Rattle.mw_grammar.proofs.Samples.{expr_sample, atom_sample, Read, d_gives, d_skip, d_under, d_expect, d_reads}
use Rattle.mw_grammar.proofs.Samples.{d_pick, d_yes, d_no, d_more, Fills, Open, Stand, first, going, chosen, other}
use Rattle.mw_grammar.proofs.Samples.{opens_all, sample, fill_of, Wide, MayRefuse, Filled, Relation}
use Rattle.mw_grammar.proofs.Folds.{fold}

-- at the head of a nonterminal, and where a token decides, a token is taken
abbrev pub Takes : Stand → List PureToken → Type 0
Takes first [] = ⊥
Takes chosen [] = ⊥
Takes going u = Unit {0}
Takes other u = Unit {0}
Takes first (t ∷ u) = Unit {0}
Takes chosen (t ∷ u) = Unit {0}

taken : (c : Stand) (t : PureToken) (u : List PureToken) → Takes c (t ∷ u)
taken first t u = tt
taken going t u = tt
taken chosen t u = tt
taken other t u = tt

takes_any : (c : Stand) → Wide c → (u : List PureToken) → Takes c u
takes_any first p u = absurd p
takes_any chosen p u = absurd p
takes_any going p u = tt
takes_any other p u = tt

-- what R reads, up to a front from which the answer leaves the rest r, and then us: it is the whole, or a fault comes
-- after a front that us completes, and one of depth at a token with which it does
pub data Comes {n : Nonterminal} (c : Stand) (front : List PureToken) : List PureToken → List PureToken → Meaning n
    → Answer n → Type 0 where
  whole : {h : ℕ} {r : List PureToken} {v : Meaning n} → Takes c front → Comes c front r [] v (ok v h r)
  stuck : {r us : List PureToken} {v : Meaning n} → Comes c front r us v (syntax_at r)
  sunk : {t : PureToken} {r us : List PureToken} {v : Meaning n} → Comes c front (t ∷ r) (t ∷ us) v (deep_at (t ∷ r))

-- What the answer on ts says of R, whatever follows.
pub data Goes {n : Nonterminal} {S : Type 0} (R : Relation n S) (c : Stand) (ts : List PureToken) (x : Answer n)
    : Type 0 where
  goes : {r : List PureToken} (front us : List PureToken) (v : Meaning n) → ts ≡ front ++ r → Comes c front r us v x
      → ((a : S) (z : List PureToken) → (s : Nodes) × R a (front ++ (us ++ z)) v s z) → Goes R c ts x

-- of a form
data Says {n : Nonterminal} (c : Stand) (F : Form n) (ts : List PureToken) : Answer n → Type 0 where
  said : {x : Answer n} → Goes (Read n F) c ts x → Says c F ts x
  refused : MayRefuse c → Says c F ts (syntax_at ts)

-- of a nonterminal
abbrev pub Tells : (n : Nonterminal) → List PureToken → Answer n → Type 0
Tells n ts x = Goes {n = n} {S = Unit {0}} (λ a. Reads n) first ts x

-- and of what follows a left operand
abbrev TellsMore : Row → SurfaceTree → List PureToken → Answer (tree expr) → Type 0
TellsMore w l ts x = Goes {n = tree expr} (More w l) going ts x

-- after what was read a form doesn't refuse
on_its_way : {n : Nonterminal} {F : Form n} {ts : List PureToken} {x : Answer n} → Says going F ts x
    → Goes (Read n F) going ts x
on_its_way (said g) = g
on_its_way (refused p) = absurd p

tells : (n : Nonterminal) {ts : List PureToken} {x : Answer n} → Says first (form n) ts x → Tells n ts x
tells n (said (goes front us v e q h)) =
    goes front us v e q (λ a z. ((h empty z).0, fold n (h empty z).1))
tells n (refused p) = absurd p

moved : {n : Nonterminal} {c d : Stand} {f g r us : List PureToken} {v : Meaning n} {x : Answer n}
    → (Takes c f → Takes d g) → Comes c f r us v x → Comes d g r us v x
moved k (whole p) = whole (k p)
moved k stuck = stuck
moved k sunk = sunk

-- with more tokens before
behind : {n : Nonterminal} {T U : Type 0} {Q : Relation n T} {R : Relation n U} {c : Stand} (d : Stand)
    (front : List PureToken) {mid : List PureToken} {x : Answer n} → ((g : List PureToken) → Takes d (front ++ g))
    → ((b : U) (us : List PureToken) → (a : T) × ((v : Meaning n) (s : Nodes) (r : List PureToken) → Q a us v s r
    → (t : Nodes) × R b (front ++ us) v t r))
    → Goes Q c mid x → Goes R d (front ++ mid) x
behind d front wide link (goes {r = r} f us v e q h) =
    goes (front ++ f) us v (ap (λ z. front ++ z) e ∙ sym (append_assoc front f r)) (moved (λ p. wide f) q)
    (λ b z. let l = link b (f ++ (us ++ z)) in let y = l.1 v _ z (h l.0 z).1 in
    (y.0, rw (append_assoc front f (us ++ z)) y.1))

-- a part, and then what goes on for its meaning
joined : {m n : Nonterminal} {S T U : Type 0} {P : Relation m S} (Q : Meaning m → Relation n T) {R : Relation n U}
    {c : Stand} (d : Stand) (k : ℕ) {ts : List PureToken} {x : Answer m}
    (next : Meaning m → ℕ → List PureToken → Answer n)
    → ((f g : List PureToken) → Takes c f → Takes d (f ++ g))
    → ((b : U) → (a : S) × ((us mid : List PureToken) (u : Meaning m) (s : Nodes) → P a us u s mid → (e : T)
    × ((v : Meaning n) (t : Nodes) (r : List PureToken) → Q u e mid v t r → (z : Nodes) × R b us v z r)))
    → ((u : Meaning m) → Filled n (Q u)) → length (rest_of x) ≤ k → Goes P c ts x
    → ((u : Meaning m) (h : ℕ) (mid : List PureToken) → length mid ≤ k → Goes (Q u) going mid (next u h mid))
    → Goes R d ts (and_then x next)
joined Q {R = R} d k next wide link f le (goes {r = r} front us v e (whole {h = i} p) h) g =
    subst (λ z. Goes R d z (next v i r)) (sym e)
    (behind d front (λ g. wide front g p)
    (λ b us. let l = link b in let y = h l.0 us in l.1 (front ++ us) us v y.0 y.1) (g v i r le))
joined Q d k next wide link f le (goes front us v e (stuck {us = ws}) h) g = let z = f v in
    goes front (ws ++ z.more) z.v e stuck
    (λ b x. let l = link b in let p = h l.0 (z.more ++ x) in let y = l.1 _ _ v p.0 p.1 in
    rw (append_assoc ws z.more x) (y.1 z.v _ x (z.ends y.0 x).1))
joined Q d k next wide link f le (goes front us v e (sunk {t = t} {us = ws}) h) g = let z = f v in
    goes front (t ∷ (ws ++ z.more)) z.v e sunk
    (λ b x. let l = link b in let p = h l.0 (z.more ++ x) in let y = l.1 _ _ v p.0 p.1 in
    rw (append_assoc ws z.more x) (y.1 z.v _ x (z.ends y.0 x).1))

raises : {n : Nonterminal} {S : Type 0} {R : Relation n S} {c : Stand} {ts : List PureToken} {x : Answer n}
    (a : Heights) → Goes R c ts x → Goes R c ts (raise a x)
raises a (goes front us v e (whole p) h) = goes front [] v e (whole p) h
raises a (goes front us v e stuck h) = goes front _ v e stuck h
raises a (goes front us v e sunk h) = goes front _ v e sunk h

-- a node at the token t: P is read there where F is read after it
node_over : {n : Nonterminal} (c : Stand) {F : Form n} (P : Form n) (t : PureToken) {ts : List PureToken} (a : Heights)
    (b : ℕ) (k : Bool) {x : Answer n} → nat_lt (tall a) b ≡ k
    → ((a : Before) (us : List PureToken) (v : Meaning n) (s : Nodes) (r : List PureToken) → Read n F empty us v s r
    → (s' : Nodes) × Read n P a (t ∷ us) v s' r)
    → Fills F → (tall a < b → Says going F ts x) → Goes (Read n P) c (t ∷ ts) (within k (t ∷ ts) (raise a x))
node_over c P t a b true e wrap f h = raises a
    (behind c (t ∷ []) (taken c t) (λ b us. (empty, wrap b us)) (on_its_way (h (ltb-true (tall a) b e))))
node_over c P t a b false e wrap f h =
    goes [] (t ∷ f.more) f.v refl sunk (λ a x. wrap a _ _ _ _ (f.ends empty x).1)

-- no token is taken where the form can be completed
at_once : {n : Nonterminal} {F : Form n} {c : Stand} {ts : List PureToken} → Fills F
    → Goes (Read n F) c ts (syntax_at ts)
at_once p = goes [] p.more p.v refl stuck p.ends

-- the form that a token decides
decided : {n : Nonterminal} (c : Stand) (f : PureToken → Form n) (t : PureToken) (ts : List PureToken) {x : Answer n}
    → Fills (pick f) → Says chosen (f t) (t ∷ ts) x → Goes (Read n (pick f)) c (t ∷ ts) x
decided c f t ts p (said (goes [] us v e (whole k) h)) = absurd k
decided c f t ts p (said (goes {r = r} [] us v e stuck h)) = goes [] p.more p.v e stuck p.ends
decided {n = n} c f t ts p (said (goes [] us v e (sunk {t = u} {us = ws}) h)) = let q : t ≡ u = cc in
    goes [] (u ∷ ws) v e sunk
    (λ a x. ((h a x).0, d_pick (subst (λ t. Read n (f t) a (u ∷ (ws ++ x)) v (h a x).0 x) q (h a x).1)))
decided {n = n} c f t ts p (said (goes (u ∷ front) us v e k h)) = let q : t ≡ u = cc in
    goes (u ∷ front) us v e (moved (λ p. taken c u front) k)
    (λ a x. ((h a x).0, d_pick (subst (λ t. Read n (f t) a (u ∷ (front ++ (us ++ x))) v (h a x).0 x) q (h a x).1)))
decided c f t ts p (refused k) = at_once p

-- the option that isn't taken
passed_over : {n : Nonterminal} (c : Stand) (k : Expected) (F G : Form n) {ts : List PureToken} {x : Answer n}
    → Wide c → Fills (option k F G) → Says other G ts x → Goes (Read n (option k F G)) c ts x
passed_over c k F G wide p (said g) =
    behind c [] (takes_any c wide) (λ a us. (a, λ v s r h. (_, d_no h))) g
passed_over c k F G wide p (refused i) = at_once p

begun : (d : Stand) (f g : List PureToken) → Takes first f → Takes d (f ++ g)
begun d [] g p = absurd p
begun d (t ∷ f) g p = taken d t (f ++ g)

-- nothing more follows an operand
no_more : (w : Row) (l : SurfaceTree) → Filled (tree expr) (More w l)
no_more w l = record { more = []; v = l; ends = λ s x. (s, m_end) }

-- a token that begins an argument
argument_at : (l : SurfaceTree) {t : PureToken} (us : List PureToken) {v : SurfaceTree} {ts : List PureToken}
    → ((x : List PureToken) → (s : Nodes) × Reads (tree atom) (t ∷ (us ++ x)) v s x)
    → TellsMore application l (t ∷ ts) (deep_at (t ∷ ts))
argument_at l {t = t} us {v = v} h = goes [] (t ∷ us) (app l v) refl sunk (λ s x. (_, m_argument (h x).1 m_end))

argument_here : (l : SurfaceTree) (k : Symbol) (a b : ℕ) (ts : List PureToken)
    → opens_by application k (token a b k ∷ ts) ts ≡ operator apply (token a b k ∷ ts)
    → TellsMore application l (token a b k ∷ ts) (deep_at (token a b k ∷ ts))
argument_here l (word x) a b ts e = argument_at l [] (λ x. (_, r_name))
argument_here l (number n) a b ts e = argument_at l [] (λ x. (_, r_number))
argument_here l true_word a b ts e = argument_at l [] (λ x. (_, r_true))
argument_here l false_word a b ts e = argument_at l [] (λ x. (_, r_false))
argument_here l paren_left a b ts e = argument_at l (token 0 0 (word []) ∷ token 0 0 paren_right ∷ [])
    (λ x. (_, r_paren (expr_sample.ends (token 0 0 paren_right ∷ x)).1))
argument_here l bracket_left a b ts e = argument_at l (token 0 0 (word []) ∷ token 0 0 bracket_right ∷ [])
    (λ x. (_, r_bracket (expr_sample.ends (token 0 0 bracket_right ∷ x)).1))
argument_here l escape_mark a b ts e =
    argument_at l (token 0 0 (word []) ∷ []) (λ x. (_, r_escape (atom_sample.ends x).1))
argument_here l _ a b ts e = absurd (cc)

-- what is expected, where it comes next
is_same : (k : Expected) (s : Symbol) → is k s ≡ true → s ≡ symbol k
is_same in_next in_word e = refl
is_same then_next then_word e = refl
is_same else_next else_word e = refl
is_same paren_next paren_right e = refl
is_same bracket_next bracket_right e = refl
is_same left_next square_left e = refl
is_same right_next square_right e = refl
is_same end_next item_end e = refl
is_same colon_next colon e = refl
is_same equal_next equal e = refl
is_same arrow_next arrow e = refl
is_same star_next star e = refl
is_same less_next less e = refl
is_same less_equal_next less_equal e = refl
is_same and_next and_mark e = refl
is_same or_next or_mark e = refl
is_same _ _ e = absurd (cc)

module _ (f : ℕ) (ih : (b : ℕ) (m : Nonterminal) (ts : List PureToken) → calls b m ts < f → Tells m ts (parse f b m ts))
  where
    on_operators : (w : Row) (b : ℕ) (next : SurfaceTree → ℕ → List PureToken → Answer (tree expr)) (l : SurfaceTree)
        (a p q : ℕ) (k : Symbol) (ts : List PureToken) → b * 12 + suc (length ts) ≤ f → Shape w k
        → (a < b → (e : SurfaceTree) (h : ℕ) (mid : List PureToken) → length mid ≤ suc (length ts)
        → TellsMore w e mid (next e (suc (max a h)) mid))
        → TellsMore w l (token p q k ∷ ts)
        (on_operator (parse f) w b next l a (token p q k ∷ ts) (opens_by w k (token p q k ∷ ts) ts))
    on_operators w b next l a p q k ts le (no_operator s) go =
        rw (s (token p q k ∷ ts) ts) (goes [] [] l refl (whole tt) (λ s x. (_, m_end)))
    on_operators w b next l a p q k ts le (before_operand j g s) go =
        rw (s (token p q k ∷ ts) ts) (by_sign_here (nat_lt a b) refl)
      where
        by_sign_here : (c : Bool) → nat_lt a b ≡ c → TellsMore w l (token p q k ∷ ts)
            (within c (token p q k ∷ ts) (and_then (parse f (b - 1) (tree (right w)) ts) λ r h mid.
            next (prim j l r) (suc (max a h)) mid))
        by_sign_here false e = let z = sample (tree (right w)) in
            goes [] (token p q k ∷ z.more) (prim j l z.v) refl sunk (λ s x. (_, m_sign g (z.ends x).1 m_end))
        by_sign_here true e = let lt : a < b = ltb-true a b e in behind going (token p q k ∷ []) (λ g. tt)
            (λ s us. (s, λ v t r h. (t, h)))
            (joined {m = tree (right w)} {n = tree expr} (λ r. More w (prim j l r))
            {R = λ s us. More w l s (token p q k ∷ us)} going
            (suc (length ts)) (λ r h mid. next (prim j l r) (suc (max a h)) mid) (λ f g p. tt)
            (λ s. (tt, λ us mid r t h. (node (suc (length us)) (both s t), λ v t r i. (t, m_sign g h i))))
            (λ r. no_more w (prim j l r))
            (omega (arith, (steady f (b - 1) (tree (right w))).less ts))
            (ih (b - 1) (tree (right w)) ts (omega (arith, rank_right w)))
            λ r h mid z. go lt (prim j l r) h mid z)
    on_operators application b next l a p q k ts le (at_operand s) go =
        rw (s (token p q k ∷ ts) ts) (argument_by (nat_lt a b) refl)
      where
        argument_by : (c : Bool) → nat_lt a b ≡ c → TellsMore application l (token p q k ∷ ts)
            (within c (token p q k ∷ ts) (and_then (parse f (b - 1) (tree atom) (token p q k ∷ ts)) λ r h mid.
            next (app l r) (suc (max a h)) mid))
        argument_by false e = argument_here l k p q ts (s (token p q k ∷ ts) ts)
        argument_by true e = let lt : a < b = ltb-true a b e in
            joined {m = tree atom} {n = tree expr} (λ r. More application (app l r)) going
            (suc (length ts)) (λ r h mid. next (app l r) (suc (max a h)) mid) (λ f g p. tt)
            (λ s. (tt, λ us mid r t h. (node (length us) (both s t), λ v t r i. (t, m_argument h i))))
            (λ r. no_more application (app l r)) ((steady f (b - 1) (tree atom)).less (token p q k ∷ ts))
            (ih (b - 1) (tree atom) (token p q k ∷ ts) (omega arith))
            λ r h mid z. go lt (app l r) h mid z

    says_rounds : (k : ℕ) (w : Row) (b : ℕ) (l : SurfaceTree) (a : ℕ) (ts : List PureToken) → b * 12 + length ts ≤ f
        → b ≤ k + a → TellsMore w l ts (rounds (parse f) k w b l a ts)
    says_rounds zero w b l a [] le p = goes [] [] l refl (whole tt) (λ s x. (_, m_end))
    says_rounds (suc k) w b l a [] le p = goes [] [] l refl (whole tt) (λ s x. (_, m_end))
    says_rounds zero w b l a (token i j s ∷ ts) le p = on_operators w b (λ l a us. deep_at us) l a i j s ts
        (omega arith)
        (shape w s) λ lt e h mid z. absurd (omega arith)
    says_rounds (suc k) w b l a (token i j s ∷ ts) le p = on_operators w b (rounds (parse f) k w b) l a i j s ts
        (omega arith) (shape w s) λ lt e h mid z. says_rounds k w b e (suc (max a h)) mid (omega arith) (omega arith)

    expected : {n : Nonterminal} (c : Stand) (k : Expected) (F : Form n) (p q : ℕ) (s : Symbol) (ts : List PureToken)
        (x : Answer n) → Fills (expect k F) → (d : Bool) → is k s ≡ d → Says going F ts x
        → Goes (Read n (expect k F)) c (token p q s ∷ ts) (branch d x (syntax_at (token p q s ∷ ts)))
    expected {n = n} c k F p q s ts x fill true e h =
        subst (λ z. Goes (Read n (expect k F)) c (token p q z ∷ ts) x) (sym (is_same k s e))
        (behind c (token p q (symbol k) ∷ []) (taken c (token p q (symbol k))) (λ a us. (a, λ v s r h. (s, d_expect h)))
        (on_its_way h))
    expected c k F p q s ts x fill false e h = at_once fill

    opted : {n : Nonterminal} (c : Stand) (k : Expected) (F G : Form n) (p q : ℕ) (s : Symbol) (ts : List PureToken)
        (a : Heights) (b : ℕ) (x y : Answer n) → Wide c → Fills (option k F G) → Fills F
        → (d : Bool) → is k s ≡ d
        → (tall a < b → Says going F ts x) → Says other G (token p q s ∷ ts) y
        → Goes (Read n (option k F G)) c (token p q s ∷ ts)
        (branch d (within (nat_lt (tall a) b) (token p q s ∷ ts) (raise a x)) y)
    opted {n = n} c k F G p q s ts a b x y wide fill z true e h i =
        subst (λ s. Goes (Read n (option k F G)) c (token p q s ∷ ts)
        (within (nat_lt (tall a) b) (token p q s ∷ ts) (raise a x)))
        (sym (is_same k s e))
        (node_over c (option k F G) (token p q (symbol k)) a b (nat_lt (tall a) b) refl (λ a us v s r g. (_, d_yes g)) z
        h)
    opted c k F G p q s ts a b x y wide fill z false e h i = passed_over c k F G wide fill i

    says_run : {n : Nonterminal} (c : Stand) (F : Form n) → Open c F → (b r : ℕ) (a : Heights) (ts : List PureToken)
        → Ranked r F → b * 12 + r + length ts ≤ f → Says c F ts (run (parse f) b F a ts)
    says_run c (gives v) o b r a ts k le =
        said (goes [] [] v refl (whole (takes_any c o [])) (λ a x. (_, d_gives)))
    says_run c refuses o b r a ts k le = refused o
    says_run c (skip F) o b r a [] k le = said (at_once (fill_of (skip F) o))
    says_run c (skip F) o b r a (t ∷ ts) k le = said (behind c (t ∷ []) (taken c t)
        (λ a us. (a, λ v s r h. (s, d_skip h))) (on_its_way (says_run going F o b (suc r) a ts k (omega arith))))
    says_run c (under F) o b r a [] k le = said (at_once (fill_of (under F) o))
    says_run c (under F) o b r a (t ∷ ts) k le = said (node_over c (under F) t a b (nat_lt (tall a) b) refl
        (λ a us v s r g. (_, d_under g)) (fill_of F o)
        (λ lt. says_run going F o (b - 1) 12 none_yet ts k (omega arith)))
    says_run c (expect e F) o b r a [] k le = said (at_once (fill_of (expect e F) o))
    says_run c (expect e F) o b r a (token p q s ∷ ts) k le = said (expected c e F p q s ts _ (fill_of (expect e F) o)
        (is e s) refl (says_run going F o b (suc r) a ts k (omega arith)))
    says_run {n = n} c (reads m go) o b r a ts k le = said (joined {m = m} {n = n} (λ v. Read n (go v)) c (length ts)
        (λ v h mid. run (parse f) b (go v) (so_far (beside a h)) mid) (begun c)
        (λ a. (tt, λ us mid u s h. (some (over a s), λ v t r i. (t, d_reads h i))))
        (λ v. fill_of (go v) (o v)) ((steady f b m).less ts) (let z = k.0 in ih b m ts (omega arith))
        λ v h mid y. on_its_way (says_run going (go v) (o v) b r (so_far (beside a h)) mid (k.1 v) (omega arith)))
    says_run c (pick g) o b r a [] k le = said (at_once o.0)
    says_run c (pick g) o b r a (t ∷ ts) k le =
        said (decided c g t ts o.0 (says_run chosen (g t) (o.1 t) b r a (t ∷ ts) (k t) le))
    says_run c (option e F G) o b r a [] k le = said (passed_over c e F G o.0 (fill_of (option e F G) (tt, o.1))
        (says_run other G o.1.1 b r a [] k.1 le))
    says_run c (option e F G) o b r a (token p q s ∷ ts) k le = said (opted c e F G p q s ts a b _ _ o.0
        (fill_of (option e F G) (tt, o.1)) (fill_of F o.1.0) (is e s) refl
        (λ lt. says_run going F o.1.0 (b - 1) 12 none_yet ts k.0 (omega arith))
        (says_run other G o.1.1 b r a (token p q s ∷ ts) k.1 le))
    says_run {n = n} c (more w l go) o b r a ts k le = said (joined {m = tree expr} {n = n} (λ e. Read n (go e)) c
        (length ts) (λ e h mid. run (parse f) b (go e) (so_far h) mid) (λ f g p. takes_any c o.0 (f ++ g))
        (λ a. (nodes a, λ us mid e s h. (some s, λ v t r i. (t, d_more h i))))
        (λ e. fill_of (go e) (o.1 e)) ((steady_rounds (parse f) (steady f) b w b l (tall a)).less ts)
        (says_rounds b w b l (tall a) ts (omega arith) (omega arith))
        λ e h mid z. on_its_way (says_run going (go e) (o.1 e) b r (so_far h) mid (k e) (omega arith)))

pub says : (f b : ℕ) (n : Nonterminal) (ts : List PureToken) → calls b n ts < f → Tells n ts (parse f b n ts)
says zero b n ts p = absurd (omega arith)
says (suc f) b n ts p =
    tells n (says_run f (λ b m ts p. says f b m ts p) first (form n) (opens_all n) b (rank n) none_yet ts (ranked n)
    (omega arith))
