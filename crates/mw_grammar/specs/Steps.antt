-- What the tokens in hand decide of each form that begins with them, as equations of the parser by forms.
use Rattle.std.specs.Prelude.{ℕ, ◌≡◌, ◌<◌, ◌≤◌, ◌-◌, List, Option, MatchOption}
use Rattle.std.specs.Borrow.{Bor}
use Rattle.mw_lex.specs.Tokens.{PureToken, tokens_of}
use Rattle.mw_lex.specs.declared.token.Token.{Token}
use Rattle.mw_term.specs.declared.term.Primitive.{Primitive}
use Rattle.mw_grammar.specs.SurfaceTrees.{SurfaceTree}
use Rattle.mw_grammar.specs.Grammar.{Nonterminal, Row}
use Rattle.mw_grammar.specs.Forms.{Expected, Form, gives, skip, under, pick, expect, option, opens, nothing, operator}
use Rattle.mw_grammar.specs.Forms.{compared, equal_to}
use Rattle.mw_grammar.specs.Descent.{Heights, none_yet, tall, syntax_at, deep_at, raise, reading}
use Rattle.mw_grammar.specs.Levels.{op_of}
use Rattle.mw_grammar.specs.declared.rows.Operator.{Operator}

-- no token is left to pick by
abbrev pub PickNone : List PureToken → Type 0
PickNone ts = (n : Nonterminal) (f : PureToken → Form n) (b : ℕ) (a : Heights) → reading b (pick f) a ts ≡ syntax_at ts

-- this token is picked by
abbrev pub PickBy : PureToken → List PureToken → Type 0
PickBy t ts = (n : Nonterminal) (f : PureToken → Form n) (b : ℕ) (a : Heights) → reading b (pick f) a ts
    ≡ reading b (f t) a ts

-- a token is skipped, and rest is left
abbrev pub SkipTo : List PureToken → List PureToken → Type 0
SkipTo ts rest = (n : Nonterminal) (F : Form n) (b : ℕ) (a : Heights) → reading b (skip F) a ts ≡ reading b F a rest

-- a token is a node, and rest is left: where there is room for the node, and where there is none
abbrev pub GoUnder : List PureToken → List PureToken → Type 0
GoUnder ts rest = (n : Nonterminal) (F : Form n) (b : ℕ) (a : Heights) → tall a < b → reading b (under F) a ts
    ≡ raise a (reading (b - 1) F none_yet rest)

abbrev pub AreTooDeep : List PureToken → Type 0
AreTooDeep ts = (n : Nonterminal) (F : Form n) (b : ℕ) (a : Heights) → b ≤ tall a → reading b (under F) a ts
    ≡ deep_at ts

-- the symbol that must come next does not, or does, and rest is left
abbrev pub Lack : Expected → List PureToken → Type 0
Lack k ts = (n : Nonterminal) (F : Form n) (b : ℕ) (a : Heights) → reading b (expect k F) a ts ≡ syntax_at ts

abbrev pub Have : Expected → List PureToken → List PureToken → Type 0
Have k ts rest = (n : Nonterminal) (F : Form n) (b : ℕ) (a : Heights) → reading b (expect k F) a ts ≡ reading b F a rest

-- the symbol that goes on does not come next, or does, and rest is left: where there is room for its node, and where
-- there is none
abbrev pub EndBefore : Expected → List PureToken → Type 0
EndBefore k ts = (n : Nonterminal) (F G : Form n) (b : ℕ) (a : Heights) → reading b (option k F G) a ts
    ≡ reading b G a ts

abbrev pub GoOn : Expected → List PureToken → List PureToken → Type 0
GoOn k ts rest = (n : Nonterminal) (F G : Form n) (b : ℕ) (a : Heights) → tall a < b → reading b (option k F G) a ts
    ≡ raise a (reading (b - 1) F none_yet rest)

abbrev pub GoTooDeep : Expected → List PureToken → Type 0
GoTooDeep k ts = (n : Nonterminal) (F G : Form n) (b : ℕ) (a : Heights) → b ≤ tall a → reading b (option k F G) a ts
    ≡ deep_at ts

-- the operator of a row that comes next, and what stands after it, or none
abbrev pub IsNextOperator : Row → List PureToken → Option (Operator × Bor (List Token)) → Type 0
IsNextOperator w ts next = MatchOption next (opens w ts ≡ nothing) λ r. opens w ts ≡ operator (op_of r.0)
    (tokens_of r.1.now)

-- no sign of a comparison comes next, or this does, and rest is left: where there is room for its node, and where there
-- is none
abbrev pub CompareNone : List PureToken → Type 0
CompareNone ts = (b : ℕ) (d : SurfaceTree) (a : Heights) → reading b (equal_to d) a ts ≡ reading b (gives d) a ts

abbrev pub CompareBy : Primitive → List PureToken → List PureToken → Type 0
CompareBy p ts rest = (b : ℕ) (d : SurfaceTree) (a : Heights) → tall a < b → reading b (equal_to d) a ts
    ≡ raise a (reading (b - 1) (compared p d) none_yet rest)

abbrev pub CompareTooDeep : List PureToken → Type 0
CompareTooDeep ts = (b : ℕ) (d : SurfaceTree) (a : Heights) → b ≤ tall a → reading b (equal_to d) a ts ≡ deep_at ts
