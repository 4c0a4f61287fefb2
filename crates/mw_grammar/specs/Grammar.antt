-- The grammar: `Reads n tokens v s rest` says that the tokens begin with the nonterminal n and go on with rest. Its
-- meaning is v, in which the short forms are unfolded and parentheses are gone, and s are the nodes of its source.
--
--     program   = { item ";;" } "main" ":" ground "=" expr
--     item      = "let" name body_= | "let" "rec" name parameter_= | "kernel" name ":" kernel_type "=" expr
--     expr      = "let" name body_= "in" expr | "let" "rec" name parameter_= "in" expr | "fun" parameter_->
--               | "if" expr "then" expr "else" expr | or
--     parameter_m = name body_m
--     body_m    = parameter_m | m expr
--     or        = and [ "||" or ]
--     and       = comparison [ "&&" and ]
--     comparison = sum [ ( "=" | "<" | "<=" ) sum ]
--     sum       = product { ( "+" | "-" ) product }
--     product   = application { ( "*" | "/" | "mod" ) application }
--     application = head { atom }
-- head      = ( "fst" | "snd" | "not" | "close" | "open" | "lift" | "liftb" ) atom | "run" "[" kernel_type "]" atom |
-- atom
--     atom      = name | number | "true" | "false" | "(" "-" number ")" | "(" expr ")" | "(" expr "," expr ")"
--               | ".<" expr ">." | ".~" atom
--     kernel_type = ground [ "->" ground ]
--     ground    = part [ "*" ground ]
--     part      = base | "(" ground ")"
--     base      = "int" | "bool"
use Rattle.std.specs.Prelude.{ℕ, zero, suc, ◌^◌, ℤ, true, false, List, [], ◌∷◌, length, pos, negsuc, nat_lt}
use Rattle.std.specs.Prelude.{if◌then◌else◌}
use Rattle.mw_lex.specs.Tokens.{Symbol, let_word, rec_word, in_word, fun_word, if_word, then_word, else_word, true_word}
use Rattle.mw_lex.specs.Tokens.{false_word, not_word, fst_word, snd_word, run_word, close_word, open_word, lift_word}
use Rattle.mw_lex.specs.Tokens.{lift_b_word, kernel_word, main_word, int_word, bool_word, mod_word, bracket_left}
use Rattle.mw_lex.specs.Tokens.{bracket_right, escape_mark, paren_left, paren_right, square_left, square_right, comma}
use Rattle.mw_lex.specs.Tokens.{arrow, item_end, colon, equal, less_equal, less, plus, minus, star, slash, and_mark}
use Rattle.mw_lex.specs.Tokens.{or_mark, word, number, PureToken, token}
use Rattle.mw_term.specs.declared.term.Base.{Base}
use Rattle.mw_term.specs.declared.term.Base.TheVariants as bases
use Rattle.mw_term.specs.declared.term.Primitive.{Primitive}
use Rattle.mw_term.specs.declared.term.Primitive.TheVariants.{Add, Sub, Mul, Div, Mod, Eq, Lt, Le}
use Rattle.mw_term.specs.Terms.{GroundType, base as ground_base, product as ground_pair, KernelType, of_ground, to}
use Rattle.mw_grammar.specs.SurfaceTrees.{SurfaceTree, num, truth, used, fun, fix, app, bind, cond, pair, fst, snd}
use Rattle.mw_grammar.specs.SurfaceTrees.{prim, bracket, escape, run, close, opened, lift, lift_b, PureItem, let_item}
use Rattle.mw_grammar.specs.SurfaceTrees.{kernel_item, PureSurface}
use Rattle.mw_grammar.specs.SourceNodes.{Nodes, none, node, both}

-- what ends a list of parameters
pub data Mark : Type 0 where
  by_arrow : Mark
  by_equal : Mark

-- operators that associate to the left; an application has no sign
pub data Row : Type 0 where
  sum : Row
  product : Row
  application : Row

-- the nonterminals of expressions
pub data Precedence : Type 0 where
  expr : Precedence
  disjunction : Precedence
  conjunction : Precedence
  comparison : Precedence
  row : (w : Row) → Precedence
  head : Precedence
  atom : Precedence

pub data Nonterminal : Type 0 where
  program : Nonterminal
  item : Nonterminal
  parameter : (m : Mark) → Nonterminal
  body : (m : Mark) → Nonterminal
  tree : (l : Precedence) → Nonterminal
  kernel_type : Nonterminal
  ground : Nonterminal
  part : Nonterminal
  base : Nonterminal

-- what a let binds, its other parameters unfolded, with the offset of the first token after its mark
pub data Definition : Type 0 where
  define : (from : ℕ) (e : SurfaceTree) → Definition

-- a parameter, and what stands after it
pub data Abstraction : Type 0 where
  abstract : (x : List ℕ) (from : ℕ) (e : SurfaceTree) → Abstraction

abbrev pub Meaning : Nonterminal → Type 0
Meaning program = PureSurface
Meaning item = PureItem
Meaning (parameter m) = Abstraction
Meaning (body m) = Definition
Meaning (tree l) = SurfaceTree
Meaning kernel_type = KernelType
Meaning ground = GroundType
Meaning part = GroundType
Meaning base = Base

-- a number is below 2^63, or at most 2^63 after a minus; what no token has counts as 0
abbrev pub positive : ℕ → ℤ
positive n = if nat_lt n (2 ^ 63) then pos n else pos 0

abbrev minus_one_more : ℕ → ℤ
minus_one_more n = if nat_lt n (2 ^ 63) then negsuc n else pos 0

abbrev pub negative : ℕ → ℤ
negative zero = pos 0
negative (suc n) = minus_one_more n

abbrev pub start_of : List PureToken → ℕ
start_of [] = 0
start_of (token start stop k ∷ tokens) = start

abbrev pub mark_of : Mark → Symbol
mark_of by_arrow = arrow
mark_of by_equal = equal

-- the sign of an operation of a row
pub data Sign : Row → Symbol → Primitive → Type 0 where
  plus_sign : Sign sum plus Add
  minus_sign : Sign sum minus Sub
  star_sign : Sign product star Mul
  slash_sign : Sign product slash Div
  mod_sign : Sign product mod_word Mod

-- the operands of a row, and what stands after its operators
abbrev pub operand : Row → Precedence
operand sum = row product
operand product = row application
operand application = head

abbrev pub right : Row → Precedence
right sum = row product
right product = row application
right application = atom

-- the sign of a comparison
pub data Compares : Symbol → Primitive → Type 0 where
  equal_sign : Compares equal Eq
  less_sign : Compares less Lt
  less_equal_sign : Compares less_equal Le

-- the word of a head, at an offset, and what it makes of its argument
pub data Heads : Symbol → ℕ → SurfaceTree → SurfaceTree → Type 0 where
  fst_head : {at : ℕ} {e : SurfaceTree} → Heads fst_word at e (fst e)
  snd_head : {at : ℕ} {e : SurfaceTree} → Heads snd_word at e (snd e)
  not_head : {at : ℕ} {e : SurfaceTree} → Heads not_word at e (cond e (truth false) (truth true))
  close_head : {at : ℕ} {e : SurfaceTree} → Heads close_word at e (close at e)
  open_head : {at : ℕ} {e : SurfaceTree} → Heads open_word at e (opened at e)
  lift_head : {at : ℕ} {e : SurfaceTree} → Heads lift_word at e (lift at e)
  lift_b_head : {at : ℕ} {e : SurfaceTree} → Heads lift_b_word at e (lift_b at e)

abbrev pub main_only : GroundType → SurfaceTree → PureSurface
main_only g e = record { items = []; result = g; body = e }

abbrev pub with_item : PureItem → PureSurface → PureSurface
with_item i p = record { items = i ∷ p.items; result = p.result; body = p.body }

-- A token is written (token _ _ k): k is its symbol. A node is there from the token on after which its place says how
-- many stand. An operator and an application take what stands before them as a child, and so do `*` and `->` in types.
-- Main's type is a tree beside main's expression.
mutual
  pub data Reads : (n : Nonterminal) → List PureToken → Meaning n → Nodes → List PureToken → Type 0 where
    r_main : {a a' b b' c c' : ℕ} {ts mid rest : List PureToken} {g : GroundType} {e : SurfaceTree} {s t : Nodes}
        → Reads ground ts g s (token c c' equal ∷ mid) → Reads (tree expr) mid e t rest
        → Reads program (token a a' main_word ∷ token b b' colon ∷ ts) (main_only g e) (both s t) rest
    r_program : {a a' : ℕ} {ts mid rest : List PureToken} {i : PureItem} {p : PureSurface} {s t : Nodes}
        → Reads item ts i s (token a a' item_end ∷ mid) → Reads program mid p t rest
        → Reads program ts (with_item i p) (both s t) rest
    r_let_item : {a a' b b' from : ℕ} {x : List ℕ} {ts rest : List PureToken} {e : SurfaceTree} {s : Nodes}
        → Reads (body by_equal) ts (define from e) s rest
        → Reads item (token a a' let_word ∷ token b b' (word x) ∷ ts) (let_item x b from e) s rest
    r_rec_item : {a a' b b' c c' from : ℕ} {f x : List ℕ} {ts rest : List PureToken} {e : SurfaceTree} {s : Nodes}
        → Reads (parameter by_equal) ts (abstract x from e) s rest
        → Reads item (token a a' let_word ∷ token b b' rec_word ∷ token c c' (word f) ∷ ts)
        (let_item f c from (fix f x e)) s rest
    r_kernel : {a a' b b' c c' d d' : ℕ} {x : List ℕ} {ts mid rest : List PureToken} {k : KernelType} {e : SurfaceTree}
        {s t : Nodes} → Reads kernel_type ts k s (token d d' equal ∷ mid)
        → Reads (tree expr) mid e t rest
        → Reads item (token a a' kernel_word ∷ token b b' (word x) ∷ token c c' colon ∷ ts) (kernel_item x b k e)
        (both s t) rest
    r_let : {a a' b b' c c' from : ℕ} {x : List ℕ} {ts mid rest : List PureToken} {d e : SurfaceTree} {s t : Nodes}
        → Reads (body by_equal) ts (define from d) s (token c c' in_word ∷ mid)
        → Reads (tree expr) mid e t rest
        → Reads (tree expr) (token a a' let_word ∷ token b b' (word x) ∷ ts) (bind x d e)
        (node (suc (suc (length ts))) (both s t)) rest
    r_let_rec : {a a' b b' c c' g g' from : ℕ} {f x : List ℕ} {ts mid rest : List PureToken} {d e : SurfaceTree}
        {s t : Nodes}
        → Reads (parameter by_equal) ts (abstract x from d) s (token g g' in_word ∷ mid)
        → Reads (tree expr) mid e t rest
        → Reads (tree expr) (token a a' let_word ∷ token b b' rec_word ∷ token c c' (word f) ∷ ts)
        (bind f (fix f x d) e) (node (suc (suc (suc (length ts)))) (both s t)) rest
    r_fun : {a a' from : ℕ} {x : List ℕ} {ts rest : List PureToken} {e : SurfaceTree} {s : Nodes}
        → Reads (parameter by_arrow) ts (abstract x from e) s rest
        → Reads (tree expr) (token a a' fun_word ∷ ts) (fun x e) s rest
    r_if : {a a' b b' c c' : ℕ} {ts ts' ts'' rest : List PureToken} {d e f : SurfaceTree} {s t u : Nodes}
        → Reads (tree expr) ts d s (token b b' then_word ∷ ts')
        → Reads (tree expr) ts' e t (token c c' else_word ∷ ts'') → Reads (tree expr) ts'' f u rest
        → Reads (tree expr) (token a a' if_word ∷ ts) (cond d e f) (node (suc (length ts)) (both (both s t) u)) rest
    r_expr : {ts rest : List PureToken} {e : SurfaceTree} {s : Nodes} → Reads (tree disjunction) ts e s rest
        → Reads (tree expr) ts e s rest
    r_parameter : {m : Mark} {a a' from : ℕ} {x : List ℕ} {ts rest : List PureToken} {e : SurfaceTree} {s : Nodes}
        → Reads (body m) ts (define from e) s rest
        → Reads (parameter m) (token a a' (word x) ∷ ts) (abstract x from e) (node (suc (length ts)) s) rest
    r_body : {m : Mark} {from : ℕ} {x : List ℕ} {ts rest : List PureToken} {e : SurfaceTree} {s : Nodes}
        → Reads (parameter m) ts (abstract x from e) s rest
        → Reads (body m) ts (define from (fun x e)) s rest
    r_mark : {m : Mark} {a a' : ℕ} {ts rest : List PureToken} {e : SurfaceTree} {s : Nodes}
        → Reads (tree expr) ts e s rest
        → Reads (body m) (token a a' (mark_of m) ∷ ts) (define (start_of ts) e) s rest
    r_or : {a a' : ℕ} {ts mid rest : List PureToken} {d e : SurfaceTree} {s t : Nodes}
        → Reads (tree conjunction) ts d s (token a a' or_mark ∷ mid) → Reads (tree disjunction) mid e t rest
        → Reads (tree disjunction) ts (cond d (truth true) e) (node (suc (length mid)) (both s t)) rest
    r_disjunction : {ts rest : List PureToken} {e : SurfaceTree} {s : Nodes} → Reads (tree conjunction) ts e s rest
        → Reads (tree disjunction) ts e s rest
    r_and : {a a' : ℕ} {ts mid rest : List PureToken} {d e : SurfaceTree} {s t : Nodes}
        → Reads (tree comparison) ts d s (token a a' and_mark ∷ mid) → Reads (tree conjunction) mid e t rest
        → Reads (tree conjunction) ts (cond d e (truth false)) (node (suc (length mid)) (both s t)) rest
    r_conjunction : {ts rest : List PureToken} {e : SurfaceTree} {s : Nodes} → Reads (tree comparison) ts e s rest
        → Reads (tree conjunction) ts e s rest
    r_compare : {a a' : ℕ} {k : Symbol} {p : Primitive} {ts mid rest : List PureToken} {d e : SurfaceTree} {s t : Nodes}
        → Compares k p → Reads (tree (row sum)) ts d s (token a a' k ∷ mid)
        → Reads (tree (row sum)) mid e t rest
        → Reads (tree comparison) ts (prim p d e) (node (suc (length mid)) (both s t)) rest
    r_comparison : {ts rest : List PureToken} {e : SurfaceTree} {s : Nodes} → Reads (tree (row sum)) ts e s rest
        → Reads (tree comparison) ts e s rest
    r_row : {w : Row} {ts mid rest : List PureToken} {l e : SurfaceTree} {s t : Nodes}
        → Reads (tree (operand w)) ts l s mid → More w l s mid e t rest → Reads (tree (row w)) ts e t rest
    r_head : {a a' : ℕ} {k : Symbol} {ts rest : List PureToken} {d e : SurfaceTree} {s : Nodes} → Heads k a d e
        → Reads (tree atom) ts d s rest
        → Reads (tree head) (token a a' k ∷ ts) e (node (suc (length ts)) s) rest
    r_run : {a a' b b' c c' : ℕ} {ts mid rest : List PureToken} {k : KernelType} {e : SurfaceTree} {s t : Nodes}
        → Reads kernel_type ts k s (token c c' square_right ∷ mid)
        → Reads (tree atom) mid e t rest
        → Reads (tree head) (token a a' run_word ∷ token b b' square_left ∷ ts) (run a k e)
        (node (suc (suc (length ts))) (both s t)) rest
    r_atom : {ts rest : List PureToken} {e : SurfaceTree} {s : Nodes} → Reads (tree atom) ts e s rest
        → Reads (tree head) ts e s rest
    r_name : {a a' : ℕ} {x : List ℕ} {ts : List PureToken} → Reads (tree atom) (token a a' (word x) ∷ ts) (used x a)
        (node (suc (length ts)) none) ts
    r_number : {a a' n : ℕ} {ts : List PureToken} → Reads (tree atom) (token a a' (number n) ∷ ts) (num (positive n))
        (node (suc (length ts)) none) ts
    r_true : {a a' : ℕ} {ts : List PureToken} → Reads (tree atom) (token a a' true_word ∷ ts) (truth true)
        (node (suc (length ts)) none) ts
    r_false : {a a' : ℕ} {ts : List PureToken} → Reads (tree atom) (token a a' false_word ∷ ts) (truth false)
        (node (suc (length ts)) none) ts
    r_minus : {a a' b b' c c' d d' n : ℕ} {ts : List PureToken}
        → Reads (tree atom) (token a a' paren_left ∷ token b b' minus ∷ token c c' (number n) ∷ token d d' paren_right
        ∷ ts) (num (negative n)) (node (suc (suc (suc (suc (length ts))))) none) ts
    r_paren : {a a' b b' : ℕ} {ts rest : List PureToken} {e : SurfaceTree} {s : Nodes}
        → Reads (tree expr) ts e s (token b b' paren_right ∷ rest)
        → Reads (tree atom) (token a a' paren_left ∷ ts) e (node (suc (length ts)) s) rest
    r_pair : {a a' b b' c c' : ℕ} {ts mid rest : List PureToken} {d e : SurfaceTree} {s t : Nodes}
        → Reads (tree expr) ts d s (token b b' comma ∷ mid)
        → Reads (tree expr) mid e t (token c c' paren_right ∷ rest)
        → Reads (tree atom) (token a a' paren_left ∷ ts) (pair d e) (node (suc (length ts)) (both s t)) rest
    r_bracket : {a a' b b' : ℕ} {ts rest : List PureToken} {e : SurfaceTree} {s : Nodes}
        → Reads (tree expr) ts e s (token b b' bracket_right ∷ rest)
        → Reads (tree atom) (token a a' bracket_left ∷ ts) (bracket a e) (node (suc (length ts)) s) rest
    r_escape : {a a' : ℕ} {ts rest : List PureToken} {e : SurfaceTree} {s : Nodes} → Reads (tree atom) ts e s rest
        → Reads (tree atom) (token a a' escape_mark ∷ ts) (escape a e) (node (suc (length ts)) s) rest
    r_ground_kernel : {ts rest : List PureToken} {g : GroundType} {s : Nodes} → Reads ground ts g s rest
        → Reads kernel_type ts (of_ground g) s rest
    r_arrow : {a a' : ℕ} {ts mid rest : List PureToken} {g h : GroundType} {s t : Nodes}
        → Reads ground ts g s (token a a' arrow ∷ mid) → Reads ground mid h t rest
        → Reads kernel_type ts (to g h) (node (suc (length mid)) (both s t)) rest
    r_star : {a a' : ℕ} {ts mid rest : List PureToken} {g h : GroundType} {s t : Nodes}
        → Reads part ts g s (token a a' star ∷ mid) → Reads ground mid h t rest
        → Reads ground ts (ground_pair g h) (node (suc (length mid)) (both s t)) rest
    r_part : {ts rest : List PureToken} {g : GroundType} {s : Nodes} → Reads part ts g s rest → Reads ground ts g s rest
    r_base_part : {ts rest : List PureToken} {b : Base} {s : Nodes} → Reads base ts b s rest
        → Reads part ts (ground_base b) s rest
    r_ground_paren : {a a' b b' : ℕ} {ts rest : List PureToken} {g : GroundType} {s : Nodes}
        → Reads ground ts g s (token b b' paren_right ∷ rest)
        → Reads part (token a a' paren_left ∷ ts) g (node (suc (length ts)) s) rest
    r_int : {a a' : ℕ} {ts : List PureToken} → Reads base (token a a' int_word ∷ ts) bases.Int
        (node (suc (length ts)) none) ts
    r_bool : {a a' : ℕ} {ts : List PureToken} → Reads base (token a a' bool_word ∷ ts) bases.Bool
        (node (suc (length ts)) none) ts

  -- what may follow the left operand l, of nodes s
  pub data More : Row → SurfaceTree → Nodes → List PureToken → SurfaceTree → Nodes → List PureToken → Type 0 where
    m_end : {w : Row} {l : SurfaceTree} {s : Nodes} {ts : List PureToken} → More w l s ts l s ts
    m_sign : {w : Row} {a a' : ℕ} {k : Symbol} {p : Primitive} {l r e : SurfaceTree} {s t u : Nodes}
        {ts mid rest : List PureToken} → Sign w k p → Reads (tree (right w)) ts r t mid
        → More w (prim p l r) (node (suc (length ts)) (both s t)) mid e u rest → More w l s (token a a' k ∷ ts) e u rest
    m_argument : {l r e : SurfaceTree} {s t u : Nodes} {ts mid rest : List PureToken} → Reads (tree atom) ts r t mid
        → More application (app l r) (node (length ts) (both s t)) mid e u rest → More application l s ts e u rest
