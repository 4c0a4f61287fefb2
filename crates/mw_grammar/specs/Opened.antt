-- What a ground type begins with, as equations of the parser by forms.
use Rattle.std.specs.Prelude.{ℕ, ◌≡◌, ◌-◌, List, nat_lt}
use Rattle.mw_lex.specs.Tokens.{PureToken, tokens_of}
use Rattle.mw_term.specs.Terms.{base as ground_base}
use Rattle.mw_grammar.specs.Grammar.{part, base}
use Rattle.mw_grammar.specs.Forms.{form, gives, reads, paren_form}
use Rattle.mw_grammar.specs.Descent.{ok, none_yet, syntax_at, within, raise, reading}
use Rattle.mw_term.specs.declared.term.Base.{Base}
use Rattle.mw_grammar.specs.declared.kinds.Opened.{Opened}
use Rattle.mw_grammar.specs.declared.kinds.Opened.TheVariants.{Paren, Other, Nothing}

abbrev pub IsOpened : List PureToken → Opened → Type 0
IsOpened ts (Paren rest) = (b : ℕ) → reading b (form part) none_yet ts ≡ within (nat_lt 0 b) ts
    (raise none_yet (reading (b - 1) paren_form none_yet (tokens_of rest.now)))
IsOpened ts Other = (b : ℕ) → reading b (form part) none_yet ts ≡ reading b (reads base λ c. gives (ground_base c))
    none_yet ts
IsOpened ts Nothing = (b : ℕ) → reading b (form part) none_yet ts ≡ syntax_at ts

-- the tokens begin with no base type, or with this one
abbrev pub HaveNoBase : List PureToken → Type 0
HaveNoBase ts = (b : ℕ) → reading b (form base) none_yet ts ≡ syntax_at ts

abbrev pub HaveBase : List PureToken → Base → List PureToken → Type 0
HaveBase ts c rest = (b : ℕ) → reading b (form base) none_yet ts ≡ within (nat_lt 0 b) ts (ok c 1 rest)
