-- The grammar by the next token: for each nonterminal what is read, and what each token decides.
use Rattle.std.specs.Prelude.{ℕ, Bool, true, false, List, [], ◌∷◌}
use Rattle.mw_lex.specs.Tokens.{Symbol, let_word, rec_word, in_word, fun_word, if_word, then_word, else_word, true_word}
use Rattle.mw_lex.specs.Tokens.{false_word, not_word, fst_word, snd_word, run_word, close_word, open_word, lift_word}
use Rattle.mw_lex.specs.Tokens.{lift_b_word, kernel_word, main_word, int_word, bool_word, mod_word, bracket_left}
use Rattle.mw_lex.specs.Tokens.{bracket_right, escape_mark, paren_left, paren_right, square_left, square_right, comma}
use Rattle.mw_lex.specs.Tokens.{arrow, item_end, colon, equal, less_equal, less, plus, minus, star, slash, and_mark}
use Rattle.mw_lex.specs.Tokens.{or_mark, word, number, PureToken, token}
use Rattle.mw_term.specs.declared.term.Base.TheVariants as bases
use Rattle.mw_term.specs.declared.term.Primitive.{Primitive}
use Rattle.mw_term.specs.declared.term.Primitive.TheVariants.{Add, Sub, Mul, Div, Mod, Eq, Lt, Le}
use Rattle.mw_term.specs.Terms.{GroundType, base as ground_base, product as ground_pair, of_ground, to}
use Rattle.mw_grammar.specs.SurfaceTrees.{SurfaceTree, num, truth, used, fun, fix, app, bind, cond, pair, fst, snd}
use Rattle.mw_grammar.specs.SurfaceTrees.{prim, bracket, escape, run, close, opened, lift, lift_b, PureItem, let_item}
use Rattle.mw_grammar.specs.SurfaceTrees.{kernel_item}
use Rattle.mw_grammar.specs.Grammar.{Mark, by_arrow, by_equal, Row, sum, product, application, expr, disjunction}
use Rattle.mw_grammar.specs.Grammar.{conjunction, comparison, row, head, atom, Nonterminal, program, item, parameter}
use Rattle.mw_grammar.specs.Grammar.{body, tree, kernel_type, ground, part, base, Definition, define, Abstraction}
use Rattle.mw_grammar.specs.Grammar.{abstract, Meaning, positive, negative, operand, main_only, with_item}

-- a symbol that must come next, or that goes on
pub data Expected : Type 0 where
  in_next : Expected
  then_next : Expected
  else_next : Expected
  paren_next : Expected
  bracket_next : Expected
  left_next : Expected
  right_next : Expected
  end_next : Expected
  colon_next : Expected
  equal_next : Expected
  arrow_next : Expected
  star_next : Expected
  less_next : Expected
  less_equal_next : Expected
  and_next : Expected
  or_next : Expected

abbrev pub symbol : Expected → Symbol
symbol in_next = in_word
symbol then_next = then_word
symbol else_next = else_word
symbol paren_next = paren_right
symbol bracket_next = bracket_right
symbol left_next = square_left
symbol right_next = square_right
symbol end_next = item_end
symbol colon_next = colon
symbol equal_next = equal
symbol arrow_next = arrow
symbol star_next = star
symbol less_next = less
symbol less_equal_next = less_equal
symbol and_next = and_mark
symbol or_next = or_mark

abbrev pub is : Expected → Symbol → Bool
is in_next in_word = true
is then_next then_word = true
is else_next else_word = true
is paren_next paren_right = true
is bracket_next bracket_right = true
is left_next square_left = true
is right_next square_right = true
is end_next item_end = true
is colon_next colon = true
is equal_next equal = true
is arrow_next arrow = true
is star_next star = true
is less_next less = true
is less_equal_next less_equal = true
is and_next and_mark = true
is or_next or_mark = true
is _ _ = false

-- What is read, up to the meaning of the nonterminal n.
pub data Form (n : Nonterminal) : Type 0 where
  gives : (v : Meaning n) → Form n  -- nothing more
  refuses : Form n
  skip : (F : Form n) → Form n  -- the token in hand, and then F
  under : (F : Form n) → Form n  -- the same, where that token is a node over all that F reads, and over all before it
  expect : (k : Expected) (F : Form n) → Form n  -- this symbol, and then F
  reads : (m : Nonterminal) (go : Meaning m → Form n) → Form n  -- a part, and then the form for its meaning
  pick : (f : PureToken → Form n) → Form n  -- the form for the token in hand
  option : (k : Expected) (F G : Form n) → Form n  -- under F where this symbol comes next, else G
  more : (w : Row) (l : SurfaceTree) (go : SurfaceTree → Form n) → Form n  -- what may follow the operand l

-- operators of a row, where one comes next, and what stands after it
pub data Op : Type 0 where
  by_sign : (p : Primitive) → Op
  apply : Op

abbrev pub operated : Op → SurfaceTree → SurfaceTree → SurfaceTree
operated (by_sign p) l r = prim p l r
operated apply l r = app l r

pub data Opens : Type 0 where
  nothing : Opens
  operator : (o : Op) (ts : List PureToken) → Opens

abbrev pub opens_by : Row → Symbol → List PureToken → List PureToken → Opens
opens_by sum plus from ts = operator (by_sign Add) ts
opens_by sum minus from ts = operator (by_sign Sub) ts
opens_by product star from ts = operator (by_sign Mul) ts
opens_by product slash from ts = operator (by_sign Div) ts
opens_by product mod_word from ts = operator (by_sign Mod) ts
opens_by application (word x) from ts = operator apply from
opens_by application (number n) from ts = operator apply from
opens_by application true_word from ts = operator apply from
opens_by application false_word from ts = operator apply from
opens_by application paren_left from ts = operator apply from
opens_by application bracket_left from ts = operator apply from
opens_by application escape_mark from ts = operator apply from
opens_by _ _ from ts = nothing

abbrev pub opens : Row → List PureToken → Opens
opens w [] = nothing
opens w (token a b k ∷ ts) = opens_by w k (token a b k ∷ ts) ts

-- programs
abbrev pub main_of : Form program
main_of = expect colon_next (reads ground λ g. expect equal_next (reads (tree expr) λ e. gives (main_only g e)))

abbrev pub items_of : Form program
items_of = reads item λ i. expect end_next (reads program λ p. gives (with_item i p))

abbrev pub program_by : PureToken → Form program
program_by (token a b main_word) = skip main_of
program_by (token a b let_word) = items_of
program_by (token a b kernel_word) = items_of
program_by _ = refuses

-- items
abbrev pub let_bound : List ℕ → ℕ → Definition → PureItem
let_bound x at (define from e) = let_item x at from e

abbrev pub rec_bound : List ℕ → ℕ → Abstraction → PureItem
rec_bound f at (abstract x from e) = let_item f at from (fix f x e)

abbrev pub rec_item : PureToken → Form item
rec_item (token a b (word f)) = skip (reads (parameter by_equal) λ p. gives (rec_bound f a p))
rec_item _ = refuses

abbrev pub let_by : PureToken → Form item
let_by (token a b (word x)) = skip (reads (body by_equal) λ d. gives (let_bound x a d))
let_by (token a b rec_word) = skip (pick rec_item)
let_by _ = refuses

abbrev pub kernel_by : PureToken → Form item
kernel_by (token a b (word x)) =
    skip (expect colon_next
    (reads kernel_type λ k. expect equal_next (reads (tree expr) λ e. gives (kernel_item x a k e))))
kernel_by _ = refuses

abbrev pub item_by : PureToken → Form item
item_by (token a b let_word) = skip (pick let_by)
item_by (token a b kernel_word) = skip (pick kernel_by)
item_by _ = refuses

-- parameters
abbrev pub abstracted : List ℕ → Definition → Abstraction
abstracted x (define from e) = abstract x from e

abbrev pub defined : Abstraction → Definition
defined (abstract x from e) = define from (fun x e)

abbrev pub parameter_by : (m : Mark) → PureToken → Form (parameter m)
parameter_by m (token a b (word x)) = under (reads (body m) λ d. gives (abstracted x d))
parameter_by m _ = refuses

abbrev pub behind_mark : (m : Mark) → PureToken → Form (body m)
behind_mark m (token a b k) = reads (tree expr) λ e. gives (define a e)

abbrev pub body_by : (m : Mark) → PureToken → Form (body m)
body_by m (token a b (word x)) = reads (parameter m) λ p. gives (defined p)
body_by by_arrow (token a b arrow) = skip (pick (behind_mark by_arrow))
body_by by_equal (token a b equal) = skip (pick (behind_mark by_equal))
body_by _ _ = refuses

-- expressions
abbrev pub bound : List ℕ → Definition → SurfaceTree → SurfaceTree
bound x (define from d) e = bind x d e

abbrev pub bound_rec : List ℕ → Abstraction → SurfaceTree → SurfaceTree
bound_rec f (abstract x from d) e = bind f (fix f x d) e

abbrev pub function : Abstraction → SurfaceTree
function (abstract x from e) = fun x e

-- `in`, and the expression that a definition is in scope in
abbrev pub scope_form : (SurfaceTree → SurfaceTree) → Form (tree expr)
scope_form f = expect in_next (reads (tree expr) λ e. gives (f e))

abbrev pub rec_by : PureToken → Form (tree expr)
rec_by (token a b (word f)) = skip (reads (parameter by_equal) λ d. scope_form (bound_rec f d))
rec_by _ = refuses

abbrev pub let_in_by : PureToken → Form (tree expr)
let_in_by (token a b (word x)) = skip (reads (body by_equal) λ d. scope_form (bound x d))
let_in_by (token a b rec_word) = skip (pick rec_by)
let_in_by _ = refuses

-- what stands after `then`, and what stands after `if`
abbrev pub branches_form : SurfaceTree → Form (tree expr)
branches_form c = reads (tree expr) λ d. expect else_next (reads (tree expr) λ e. gives (cond c d e))

abbrev pub condition_form : Form (tree expr)
condition_form = reads (tree expr) λ c. expect then_next (branches_form c)

abbrev pub disjunction_form : Form (tree expr)
disjunction_form = reads (tree disjunction) λ e. gives e

abbrev pub expr_by : PureToken → Form (tree expr)
expr_by (token a b let_word) = under (pick let_in_by)
expr_by (token a b fun_word) = skip (reads (parameter by_arrow) λ p. gives (function p))
expr_by (token a b if_word) = under condition_form
expr_by _ = disjunction_form

abbrev pub compared : Primitive → SurfaceTree → Form (tree comparison)
compared p d = reads (tree (row sum)) λ e. gives (prim p d e)

-- the signs of comparisons in turn
abbrev pub at_most : SurfaceTree → Form (tree comparison)
at_most d = option less_equal_next (compared Le d) (gives d)

abbrev pub below : SurfaceTree → Form (tree comparison)
below d = option less_next (compared Lt d) (at_most d)

abbrev pub equal_to : SurfaceTree → Form (tree comparison)
equal_to d = option equal_next (compared Eq d) (below d)

-- heads
abbrev pub headed : (SurfaceTree → SurfaceTree) → Form (tree head)
headed f = under (reads (tree atom) λ e. gives (f e))

-- what stands after `run`
abbrev pub run_form : ℕ → Form (tree head)
run_form at = expect left_next (reads kernel_type λ k. expect right_next (reads (tree atom) λ e. gives (run at k e)))

abbrev pub passed_form : Form (tree head)
passed_form = reads (tree atom) λ e. gives e

abbrev pub head_by : PureToken → Form (tree head)
head_by (token a b fst_word) = headed fst
head_by (token a b snd_word) = headed snd
head_by (token a b not_word) = headed λ e. cond e (truth false) (truth true)
head_by (token a b close_word) = headed (close a)
head_by (token a b open_word) = headed (opened a)
head_by (token a b lift_word) = headed (lift a)
head_by (token a b lift_b_word) = headed (lift_b a)
head_by (token a b run_word) = under (run_form a)
head_by _ = passed_form

-- atoms
abbrev pub minus_by : PureToken → Form (tree atom)
minus_by (token a b (number n)) = skip (expect paren_next (gives (num (negative n))))
minus_by _ = refuses

-- what stands after the comma of a pair
abbrev pub pair_form : SurfaceTree → Form (tree atom)
pair_form d = reads (tree expr) λ e. expect paren_next (gives (pair d e))

abbrev pub behind_first : SurfaceTree → PureToken → Form (tree atom)
behind_first d (token a b paren_right) = skip (gives d)
behind_first d (token a b comma) = skip (pair_form d)
behind_first d _ = refuses

-- an expression in parentheses, or the first of two
abbrev pub group_form : Form (tree atom)
group_form = reads (tree expr) λ d. pick (behind_first d)

abbrev pub paren_by : PureToken → Form (tree atom)
paren_by (token a b minus) = skip (pick minus_by)
paren_by _ = group_form

-- what stands inside a bracket, and after the mark of an escape
abbrev pub bracket_form : ℕ → Form (tree atom)
bracket_form at = reads (tree expr) λ e. expect bracket_next (gives (bracket at e))

abbrev pub escape_form : ℕ → Form (tree atom)
escape_form at = reads (tree atom) λ e. gives (escape at e)

abbrev pub atom_by : PureToken → Form (tree atom)
atom_by (token a b (word x)) = under (gives (used x a))
atom_by (token a b (number n)) = under (gives (num (positive n)))
atom_by (token a b true_word) = under (gives (truth true))
atom_by (token a b false_word) = under (gives (truth false))
atom_by (token a b paren_left) = under (pick paren_by)
atom_by (token a b bracket_left) = under (bracket_form a)
atom_by (token a b escape_mark) = under (escape_form a)
atom_by _ = refuses

-- kernel types
abbrev pub kernel_of : GroundType → Form kernel_type
kernel_of g = option arrow_next (reads ground λ h. gives (to g h)) (gives (of_ground g))

-- a ground type in parentheses, after the first
abbrev pub paren_form : Form part
paren_form = reads ground λ g. expect paren_next (gives g)

abbrev pub part_by : PureToken → Form part
part_by (token a b paren_left) = under paren_form
part_by _ = reads base λ b. gives (ground_base b)

abbrev pub base_by : PureToken → Form base
base_by (token a b int_word) = under (gives bases.Int)
base_by (token a b bool_word) = under (gives bases.Bool)
base_by _ = refuses

abbrev pub form : (n : Nonterminal) → Form n
form program = pick program_by
form item = pick item_by
form (parameter m) = pick (parameter_by m)
form (body m) = pick (body_by m)
form (tree expr) = pick expr_by
form (tree disjunction) = reads (tree conjunction) λ d.
    option or_next (reads (tree disjunction) λ e. gives (cond d (truth true) e)) (gives d)
form (tree conjunction) = reads (tree comparison) λ d.
    option and_next (reads (tree conjunction) λ e. gives (cond d e (truth false))) (gives d)
form (tree comparison) = reads (tree (row sum)) λ d. equal_to d
form (tree (row w)) = reads (tree (operand w)) λ l. more w l λ e. gives e
form (tree head) = pick head_by
form (tree atom) = pick atom_by
form kernel_type = reads ground λ g. kernel_of g
form ground = reads part λ g. option star_next (reads ground λ h. gives (ground_pair g h)) (gives g)
form part = pick part_by
form base = pick base_by
