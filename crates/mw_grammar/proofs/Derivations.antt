-- Derivations by forms, each of which goes on as long as the next token allows.
use Rattle.std.proofs.Common.{◌≡◌, ℕ, suc, ◌<◌, Bool, false, List, [], ◌∷◌, length}
use Rattle.mw_lex.specs.Tokens.{Symbol, true_word, false_word, mod_word, bracket_left, escape_mark, paren_left, equal}
use Rattle.mw_lex.specs.Tokens.{less_equal, less, plus, minus, star, slash, and_mark, or_mark, word, number, PureToken}
use Rattle.mw_lex.specs.Tokens.{token}
use Rattle.mw_grammar.specs.SurfaceTrees.{SurfaceTree}
use Rattle.mw_grammar.specs.SourceNodes.{Nodes, none, node, both}
use Rattle.mw_grammar.specs.Grammar.{Row, sum, product, application, Precedence, expr, disjunction, conjunction}
use Rattle.mw_grammar.specs.Grammar.{comparison, row, head, atom, Nonterminal, program, item, parameter, body, tree}
use Rattle.mw_grammar.specs.Grammar.{kernel_type, ground, part, base, Meaning, right}
use Rattle.mw_grammar.specs.Forms.{Expected, star_next, arrow_next, symbol, is, Form, gives, refuses, skip, under}
use Rattle.mw_grammar.specs.Forms.{expect, reads, pick, option, more, Op, operated, operator, opens, form}

-- what stands before, under the same node
pub data Before : Type 0 where
  empty : Before
  some : (s : Nodes) → Before

abbrev pub over : Before → Nodes → Nodes
over empty s = s
over (some l) s = both l s

abbrev pub nodes : Before → Nodes
nodes empty = none
nodes (some s) = s

abbrev pub next_is : Expected → List PureToken → Bool
next_is k [] = false
next_is k (token a b s ∷ ts) = is k s

-- the strength of the operators that a symbol goes on with, 0 where it ends every expression
abbrev pub force : Symbol → ℕ
force or_mark = 1
force and_mark = 2
force equal = 3
force less = 3
force less_equal = 3
force plus = 4
force minus = 4
force star = 5
force slash = 5
force mod_word = 5
force (word x) = 6
force (number n) = 6
force true_word = 6
force false_word = 6
force paren_left = 6
force bracket_left = 6
force escape_mark = 6
force _ = 0

abbrev pub force_of : List PureToken → ℕ
force_of [] = 0
force_of (token a b k ∷ ts) = force k

-- a next token below this ends the expression
abbrev pub strength : Precedence → ℕ
strength expr = 1
strength disjunction = 1
strength conjunction = 2
strength comparison = 3
strength (row sum) = 4
strength (row product) = 5
strength (row application) = 6
strength head = 7
strength atom = 7

-- the nonterminal goes on with none of these tokens
abbrev pub Ends : Nonterminal → List PureToken → Type 0
Ends program ts = force_of ts < 1
Ends item ts = force_of ts < 1
Ends (parameter m) ts = force_of ts < 1
Ends (body m) ts = force_of ts < 1
Ends (tree l) ts = force_of ts < strength l
Ends kernel_type ts = (next_is star_next ts ≡ false) × (next_is arrow_next ts ≡ false)
Ends ground ts = next_is star_next ts ≡ false
Ends part ts = Unit {0}
Ends base ts = Unit {0}

mutual
  pub data In : (n : Nonterminal) → Form n → Before → List PureToken → Meaning n → Nodes → List PureToken → Type 0 where
    i_gives : {n : Nonterminal} {v : Meaning n} {a : Before} {ts : List PureToken} → In n (gives v) a ts v (nodes a) ts
    i_skip : {n : Nonterminal} {F : Form n} {a : Before} {t : PureToken} {ts rest : List PureToken} {v : Meaning n}
        {s : Nodes} → In n F a ts v s rest → In n (skip F) a (t ∷ ts) v s rest
    i_under : {n : Nonterminal} {F : Form n} {a : Before} {t : PureToken} {ts rest : List PureToken} {v : Meaning n}
        {s : Nodes} → In n F empty ts v s rest
        → In n (under F) a (t ∷ ts) v (node (suc (length ts)) (over a s)) rest
    i_expect : {n : Nonterminal} {k : Expected} {F : Form n} {a : Before} {p q : ℕ} {ts rest : List PureToken}
        {v : Meaning n} {s : Nodes} → In n F a ts v s rest
        → In n (expect k F) a (token p q (symbol k) ∷ ts) v s rest
    i_reads : {m n : Nonterminal} {go : Meaning m → Form n} {a : Before} {ts mid rest : List PureToken} {u : Meaning m}
        {v : Meaning n} {t s : Nodes} → In m (form m) empty ts u t mid → Ends m mid
        → In n (go u) (some (over a t)) mid v s rest → In n (reads m go) a ts v s rest
    i_pick : {n : Nonterminal} {f : PureToken → Form n} {a : Before} {t : PureToken} {ts rest : List PureToken}
        {v : Meaning n} {s : Nodes} → In n (f t) a (t ∷ ts) v s rest → In n (pick f) a (t ∷ ts) v s rest
    i_yes : {n : Nonterminal} {k : Expected} {F G : Form n} {a : Before} {p q : ℕ} {ts rest : List PureToken}
        {v : Meaning n} {s : Nodes} → In n F empty ts v s rest
        → In n (option k F G) a (token p q (symbol k) ∷ ts) v (node (suc (length ts)) (over a s)) rest
    i_no : {n : Nonterminal} {k : Expected} {F G : Form n} {a : Before} {ts rest : List PureToken} {v : Meaning n}
        {s : Nodes} → next_is k ts ≡ false → In n G a ts v s rest
        → In n (option k F G) a ts v s rest
    i_more : {n : Nonterminal} {w : Row} {l e : SurfaceTree} {go : SurfaceTree → Form n} {a : Before}
        {ts mid rest : List PureToken} {v : Meaning n} {t s : Nodes} → Chain w l (nodes a) ts e t mid
        → force_of mid < strength (row w) → In n (go e) (some t) mid v s rest → In n (more w l go) a ts v s rest

  pub data Chain : Row → SurfaceTree → Nodes → List PureToken → SurfaceTree → Nodes → List PureToken → Type 0 where
    c_end : {w : Row} {l : SurfaceTree} {s : Nodes} {ts : List PureToken} → Chain w l s ts l s ts
    c_on : {w : Row} {o : Op} {l r e : SurfaceTree} {s t u : Nodes} {ts us mid rest : List PureToken} → opens w ts
        ≡ operator o us → In (tree (right w)) (form (tree (right w))) empty us r t mid
        → force_of mid < strength (right w) → Chain w (operated o l r) (node (length ts) (both s t)) mid e u rest
        → Chain w l s ts e u rest

pub no_refuses : {n : Nonterminal} {a : Before} {ts rest : List PureToken} {v : Meaning n} {s : Nodes}
    → In n refuses a ts v s rest → ⊥
no_refuses h = elim h [ ]
