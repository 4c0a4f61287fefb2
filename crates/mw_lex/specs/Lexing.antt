-- What lexing answers.
use Rattle.std.specs.Prelude.{◌≡◌, ◌⊎◌, ℕ, ◌≤◌, List, Result, length}
use Rattle.mw_term.specs.declared.refusal.Refusal.{Refusal}
use Rattle.mw_term.specs.declared.refusal.Refusal.TheVariants.{TooLarge, Char, Number, Name}
use Rattle.mw_term.specs.declared.refusal.Stop.{Stop}
use Rattle.mw_term.specs.Stops.{AnswersOrMemory}
use Rattle.mw_lex.specs.declared.token.Token.{Token}
use Rattle.mw_lex.specs.Tokens.{PureToken, tokens_of}
use Rattle.mw_lex.specs.Reading.{AreTokens, IsFirstFault}

-- only these four refuse bytes
abbrev pub IsOfLexing : Refusal → Type 0
IsOfLexing TooLarge = Unit {0}
IsOfLexing (Char at) = Unit {0}
IsOfLexing (Number at) = Unit {0}
IsOfLexing (Name at) = Unit {0}
IsOfLexing _ = ⊥

-- the answer is these tokens, unless memory ran out
abbrev pub AreTokensOrMemory : Result (List Token) Stop → List PureToken → Type 0
AreTokensOrMemory result tokens = AnswersOrMemory (λ v. tokens_of v ≡ tokens) result

-- a source has at most 1,048,576 bytes
abbrev pub IsSmall : List ℕ → Type 0
IsSmall bytes = length bytes ≤ 1048576

-- Bytes have one list of tokens, or one first fault, and never both.
abbrev pub OneList : Type 0
OneList = (bytes : List ℕ) (tokens others : List PureToken) → AreTokens bytes tokens → AreTokens bytes others
    → tokens ≡ others

abbrev pub OneFault : Type 0
OneFault = (bytes : List ℕ) (r q : Refusal) → IsFirstFault bytes r → IsFirstFault bytes q → r ≡ q

abbrev pub NeverBoth : Type 0
NeverBoth = (bytes : List ℕ) (tokens : List PureToken) (r : Refusal) → AreTokens bytes tokens → IsFirstFault bytes r → ⊥

abbrev pub AlwaysOne : Type 0
AlwaysOne = (bytes : List ℕ) → ((tokens : List PureToken) × AreTokens bytes tokens)
    ⊎ ((r : Refusal) × IsFirstFault bytes r)
