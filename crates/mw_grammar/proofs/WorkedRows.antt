-- Rows that compute: x n is the name of byte n at offset n.
use Rattle.std.proofs.Common.{◌≡◌, ℕ, suc, [], ◌∷◌, refl, true, false, pos, negsuc}
use Rattle.mw_lex.specs.Tokens.{Symbol, let_word, rec_word, in_word, not_word, fst_word, run_word, kernel_word}
use Rattle.mw_lex.specs.Tokens.{main_word, int_word, bool_word, mod_word, paren_left, paren_right, square_left}
use Rattle.mw_lex.specs.Tokens.{square_right, arrow, item_end, colon, equal, less_equal, less, plus, minus, star, slash}
use Rattle.mw_lex.specs.Tokens.{and_mark, or_mark, word, number, PureToken, token}
use Rattle.mw_term.specs.declared.term.Base.TheVariants as bases
use Rattle.mw_term.specs.declared.term.Primitive.TheVariants.{Add, Sub, Mul, Div, Mod, Eq, Lt, Le}
use Rattle.mw_term.specs.Terms.{base as ground_base, product as ground_pair, of_ground, to}
use Rattle.mw_grammar.specs.SurfaceTrees.{SurfaceTree, num, truth, used, fun, fix, app, bind, cond, fst, prim, run}
use Rattle.mw_grammar.specs.SurfaceTrees.{let_item, kernel_item}
use Rattle.mw_grammar.specs.Grammar.{expr, tree, program, kernel_type, ground}
use Rattle.mw_grammar.specs.Descent.{ok, syntax_at, deep_at, full}

abbrev x : ℕ → PureToken
x n = token n (suc n) (word (n ∷ []))

abbrev t : Symbol → PureToken
t k = token 0 1 k

abbrev name : ℕ → SurfaceTree
name n = used (n ∷ []) n

-- a - b - c is (a - b) - c
to_the_left : full 200 (tree expr) (x 1 ∷ t minus ∷ x 2 ∷ t minus ∷ x 3 ∷ [])
    ≡ ok (prim Sub (prim Sub (name 1) (name 2)) (name 3)) 3 []
unfolding full
to_the_left = refl

-- a || b || c is a || (b || c)
to_the_right : full 200 (tree expr) (x 1 ∷ t or_mark ∷ x 2 ∷ t or_mark ∷ x 3 ∷ [])
    ≡ ok (cond (name 1) (truth true) (cond (name 2) (truth true) (name 3))) 3 []
unfolding full
to_the_right = refl

-- a && b && c is a && (b && c)
and_right : full 200 (tree expr) (x 1 ∷ t and_mark ∷ x 2 ∷ t and_mark ∷ x 3 ∷ [])
    ≡ ok (cond (name 1) (cond (name 2) (name 3) (truth false)) (truth false)) 3 []
unfolding full
and_right = refl

-- a < b < c is refused at the second <
compared_twice : full 200 (tree expr) (x 1 ∷ t less ∷ x 2 ∷ t less ∷ x 3 ∷ []) ≡ ok (prim Lt (name 1) (name 2)) 2
    (t less ∷ x 3 ∷ [])
unfolding full
compared_twice = refl

-- a + b * c <= d mod e / f: mod and / as strong as *, <= weaker than +
strength : full 200 (tree expr) (x 1 ∷ t plus ∷ x 2 ∷ t star ∷ x 3 ∷ t less_equal ∷ x 4 ∷ t mod_word ∷ x 5 ∷ t slash
    ∷ x 6 ∷ [])
    ≡ ok (prim Le (prim Add (name 1) (prim Mul (name 2) (name 3))) (prim Div (prim Mod (name 4) (name 5)) (name 6))) 4
    []
unfolding full
strength = refl

-- fst f a is (fst f) a
head_first : full 200 (tree expr) (t fst_word ∷ x 1 ∷ x 2 ∷ []) ≡ ok (app (fst (name 1)) (name 2)) 3 []
unfolding full
head_first = refl

-- not a = b is (not a) = b
not_first : full 200 (tree expr) (t not_word ∷ x 1 ∷ t equal ∷ x 2 ∷ [])
    ≡ ok (prim Eq (cond (name 1) (truth false) (truth true)) (name 2)) 3 []
unfolding full
not_first = refl

-- ( - 9223372036854775808 )
least : full 200 (tree expr) (t paren_left ∷ t minus ∷ t (number 9223372036854775808) ∷ t paren_right ∷ [])
    ≡ ok (num (negsuc 9223372036854775807)) 1 []
unfolding full
least = refl

-- ( - x ) is refused at x
minus_name : full 200 (tree expr) (t paren_left ∷ t minus ∷ x 1 ∷ t paren_right ∷ [])
    ≡ syntax_at (x 1 ∷ t paren_right ∷ [])
unfolding full
minus_name = refl

-- run[int * int -> int] x
run_pair : full 200 (tree expr) (token 7 10 run_word ∷ t square_left ∷ t int_word ∷ t star ∷ t int_word ∷ t arrow
    ∷ t int_word ∷ t square_right ∷ x 1 ∷ [])
    ≡ ok (run 7 (to (ground_pair (ground_base bases.Int) (ground_base bases.Int)) (ground_base bases.Int)) (name 1)) 4
    []
unfolding full
run_pair = refl

-- int * bool * int -> int is int * (bool * int) -> int
kinds_right : full 200 kernel_type (t int_word ∷ t star ∷ t bool_word ∷ t star ∷ t int_word ∷ t arrow ∷ t int_word ∷ [])
    ≡ ok (to (ground_pair (ground_base bases.Int) (ground_pair (ground_base bases.Bool) (ground_base bases.Int)))
    (ground_base bases.Int)) 4 []
unfolding full
kinds_right = refl

-- (int * bool) * int -> bool
kinds_paren : full 200 kernel_type (t paren_left ∷ t int_word ∷ t star ∷ t bool_word ∷ t paren_right ∷ t star
    ∷ t int_word ∷ t arrow ∷ t bool_word ∷ [])
    ≡ ok (to (ground_pair (ground_pair (ground_base bases.Int) (ground_base bases.Bool)) (ground_base bases.Int))
    (ground_base bases.Bool)) 5 []
unfolding full
kinds_paren = refl

-- (int) is int
kind_in_parens : full 200 kernel_type (t paren_left ∷ t int_word ∷ t paren_right ∷ t square_right ∷ [])
    ≡ ok (of_ground (ground_base bases.Int)) 2 (t square_right ∷ [])
unfolding full
kind_in_parens = refl

-- int -> int * bool is int -> (int * bool)
pair_given : full 200 kernel_type (t int_word ∷ t arrow ∷ t int_word ∷ t star ∷ t bool_word ∷ [])
    ≡ ok (to (ground_base bases.Int) (ground_pair (ground_base bases.Int) (ground_base bases.Bool))) 3 []
unfolding full
pair_given = refl

-- int -> int -> int is refused at the second arrow by what stands around it
two_arrows : full 200 kernel_type (t int_word ∷ t arrow ∷ t int_word ∷ t arrow ∷ t int_word ∷ [])
    ≡ ok (to (ground_base bases.Int) (ground_base bases.Int)) 2 (t arrow ∷ t int_word ∷ [])
unfolding full
two_arrows = refl

-- with room for two nodes (int) * int is too deep at its star
deep_kind : full 2 ground (t paren_left ∷ t int_word ∷ t paren_right ∷ t star ∷ t int_word ∷ [])
    ≡ deep_at (t star ∷ t int_word ∷ [])
unfolding full
deep_kind = refl

-- let rec f x y = x in f
recursive : full 200 (tree expr) (t let_word ∷ t rec_word ∷ x 1 ∷ x 2 ∷ x 3 ∷ t equal ∷ x 2 ∷ t in_word ∷ x 1 ∷ [])
    ≡ ok (bind (1 ∷ []) (fix (1 ∷ []) (2 ∷ []) (fun (3 ∷ []) (name 2))) (name 1)) 4 []
unfolding full
recursive = refl

-- let rec f = x: a recursive let has a parameter
recursive_alone : full 200 (tree expr) (t let_word ∷ t rec_word ∷ x 1 ∷ t equal ∷ x 2 ∷ [])
    ≡ syntax_at (t equal ∷ x 2 ∷ [])
unfolding full
recursive_alone = refl

-- let f x = x in, ended too soon
too_soon : full 200 (tree expr) (t let_word ∷ x 1 ∷ x 2 ∷ t equal ∷ x 2 ∷ t in_word ∷ []) ≡ syntax_at []
unfolding full
too_soon = refl

-- with room for two nodes a - b - c is too deep at the second operator
deep : full 2 (tree expr) (x 1 ∷ t minus ∷ x 2 ∷ t minus ∷ x 3 ∷ []) ≡ deep_at (t minus ∷ x 3 ∷ [])
unfolding full
deep = refl

-- and with room for one node an application is too deep at its argument
no_room : full 1 (tree expr) (x 1 ∷ x 2 ∷ []) ≡ deep_at (x 2 ∷ [])
unfolding full
no_room = refl

-- let f x = x ;; kernel k : int = f ;; main : bool = f 3
whole : full 200 program (t let_word ∷ x 1 ∷ x 2 ∷ t equal ∷ x 2 ∷ t item_end ∷ t kernel_word ∷ x 4 ∷ t colon
    ∷ t int_word ∷ t equal ∷ x 1 ∷ t item_end ∷ t main_word ∷ t colon ∷ t bool_word ∷ t equal ∷ x 1 ∷ t (number 3) ∷ [])
    ≡ ok (record {
      items = let_item (1 ∷ []) 1 2 (fun (2 ∷ []) (name 2)) ∷ kernel_item (4 ∷ []) 4 (of_ground (ground_base bases.Int))
          (name 1) ∷ [];
      result = ground_base bases.Bool;
      body = app (name 1) (num (pos 3));
    }) 2 []
unfolding full
whole = refl

-- main : (int * int) * bool = x: the type's nodes stand beside those of x
main_pair : full 200 program (t main_word ∷ t colon ∷ t paren_left ∷ t int_word ∷ t star ∷ t int_word ∷ t paren_right
    ∷ t star ∷ t bool_word ∷ t equal ∷ x 1 ∷ []) ≡ ok (record {
      items = [];
      result = ground_pair (ground_pair (ground_base bases.Int) (ground_base bases.Int)) (ground_base bases.Bool);
      body = name 1;
    }) 4 []
unfolding full
main_pair = refl

-- main : int -> int = x is refused at the arrow
main_arrow : full 200 program (t main_word ∷ t colon ∷ t int_word ∷ t arrow ∷ t int_word ∷ t equal ∷ x 1 ∷ [])
    ≡ syntax_at (t arrow ∷ t int_word ∷ t equal ∷ x 1 ∷ [])
unfolding full
main_arrow = refl

-- without ;; the fault is at main
no_end : full 200 program (t let_word ∷ x 1 ∷ t equal ∷ x 2 ∷ t main_word ∷ []) ≡ syntax_at (t main_word ∷ [])
unfolding full
no_end = refl

-- no tokens
nothing_at_all : full 200 program ([]) ≡ syntax_at []
unfolding full
nothing_at_all = refl
