-- Tokens as pure data, and the views from the program's tokens to them.
use Rattle.std.specs.Prelude.{ℕ, List, map}
use Rattle.mw_lex.specs.declared.token.Kind.{Kind}
use Rattle.mw_lex.specs.declared.token.Kind.TheVariants as kind
use Rattle.mw_lex.specs.declared.token.Token.{Token}

-- what a token is: a reserved word, a mark, a name or a number
pub data Symbol : Type 0 where
  let_word : Symbol
  rec_word : Symbol
  in_word : Symbol
  fun_word : Symbol
  if_word : Symbol
  then_word : Symbol
  else_word : Symbol
  true_word : Symbol
  false_word : Symbol
  not_word : Symbol
  fst_word : Symbol
  snd_word : Symbol
  run_word : Symbol
  close_word : Symbol
  open_word : Symbol
  lift_word : Symbol
  lift_b_word : Symbol
  kernel_word : Symbol
  main_word : Symbol
  int_word : Symbol
  bool_word : Symbol
  mod_word : Symbol
  bracket_left : Symbol
  bracket_right : Symbol
  escape_mark : Symbol
  paren_left : Symbol
  paren_right : Symbol
  square_left : Symbol
  square_right : Symbol
  comma : Symbol
  arrow : Symbol
  item_end : Symbol
  colon : Symbol
  equal : Symbol
  less_equal : Symbol
  less : Symbol
  plus : Symbol
  minus : Symbol
  star : Symbol
  slash : Symbol
  and_mark : Symbol
  or_mark : Symbol
  word : (x : List ℕ) → Symbol
  number : (n : ℕ) → Symbol

-- a token, from the offset of its first byte to that of the byte after its last one
pub data PureToken : Type 0 where
  token : (start stop : ℕ) (s : Symbol) → PureToken

abbrev pub symbol_of : Kind → Symbol
symbol_of kind.Let = let_word
symbol_of kind.Rec = rec_word
symbol_of kind.In = in_word
symbol_of kind.Fun = fun_word
symbol_of kind.If = if_word
symbol_of kind.Then = then_word
symbol_of kind.Else = else_word
symbol_of kind.True = true_word
symbol_of kind.False = false_word
symbol_of kind.Not = not_word
symbol_of kind.Fst = fst_word
symbol_of kind.Snd = snd_word
symbol_of kind.Run = run_word
symbol_of kind.Close = close_word
symbol_of kind.Open = open_word
symbol_of kind.Lift = lift_word
symbol_of kind.LiftB = lift_b_word
symbol_of kind.Kernel = kernel_word
symbol_of kind.Main = main_word
symbol_of kind.Int = int_word
symbol_of kind.Bool = bool_word
symbol_of kind.Mod = mod_word
symbol_of kind.BracketLeft = bracket_left
symbol_of kind.BracketRight = bracket_right
symbol_of kind.Escape = escape_mark
symbol_of kind.ParenLeft = paren_left
symbol_of kind.ParenRight = paren_right
symbol_of kind.SquareLeft = square_left
symbol_of kind.SquareRight = square_right
symbol_of kind.Comma = comma
symbol_of kind.Arrow = arrow
symbol_of kind.ItemEnd = item_end
symbol_of kind.Colon = colon
symbol_of kind.Equal = equal
symbol_of kind.LessEqual = less_equal
symbol_of kind.Less = less
symbol_of kind.Plus = plus
symbol_of kind.Minus = minus
symbol_of kind.Star = star
symbol_of kind.Slash = slash
symbol_of kind.And = and_mark
symbol_of kind.Or = or_mark
symbol_of (kind.Word x) = word x
symbol_of (kind.Number n) = number n

abbrev pub token_of : Token → PureToken
token_of t = token t.start t.end (symbol_of t.kind)

abbrev pub tokens_of : List Token → List PureToken
tokens_of tokens = map token_of tokens
