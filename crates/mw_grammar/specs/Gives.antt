-- What a function of the reader returned is what the parser by forms answers, unless memory ran out.
use Rattle.std.specs.Prelude.{ℕ, ◌≡◌, List, Result, Ok, Err}
use Rattle.std.specs.Borrow.{Bor}
use Rattle.mw_lex.specs.Tokens.{tokens_of}
use Rattle.mw_lex.specs.declared.token.Token.{Token}
use Rattle.mw_grammar.specs.Grammar.{Nonterminal, Meaning}
use Rattle.mw_grammar.specs.Descent.{Answer, ok, syntax_at, deep_at}
use Rattle.mw_grammar.specs.Forms
use Rattle.mw_grammar.specs.Forms.{Expected}
use Rattle.mw_grammar.specs.declared.fault.Fault.{Fault}
use Rattle.mw_grammar.specs.declared.fault.Fault.TheVariants.{Memory, Syntax, Deep}
use Rattle.mw_grammar.specs.declared.next.Next.{Next}
use Rattle.mw_grammar.specs.declared.next.Next.TheVariants as next

abbrev pub Fails : {n : Nonterminal} → Fault → Answer n → Type 0
Fails (Memory e) x = Unit {0}
Fails (Syntax rest) x = x ≡ syntax_at (tokens_of rest.now)
Fails (Deep rest) x = x ≡ deep_at (tokens_of rest.now)

abbrev pub Gives : {X : Type 0} {n : Nonterminal} → (X → Answer n) → Result X Fault → Answer n → Type 0
Gives view (Ok x) answer = answer ≡ view x
Gives view (Err e) answer = Fails e answer

-- the same of what was read, the height of its nodes and the tokens left
abbrev pub GivesRead : {X : Type 0} {n : Nonterminal} → (X → Meaning n) → Result (X × ℕ × Bor (List Token)) Fault
    → Answer n → Type 0
GivesRead view result answer = Gives (λ x. ok (view x.0) x.1 (tokens_of x.2.now)) result answer

abbrev pub expected_of : Next → Expected
expected_of next.In = Forms.in_next
expected_of next.Then = Forms.then_next
expected_of next.Else = Forms.else_next
expected_of next.Paren = Forms.paren_next
expected_of next.Bracket = Forms.bracket_next
expected_of next.Left = Forms.left_next
expected_of next.Right = Forms.right_next
expected_of next.End = Forms.end_next
expected_of next.Colon = Forms.colon_next
expected_of next.Equal = Forms.equal_next
expected_of next.Arrow = Forms.arrow_next
expected_of next.Star = Forms.star_next
expected_of next.Less = Forms.less_next
expected_of next.LessEqual = Forms.less_equal_next
expected_of next.And = Forms.and_next
expected_of next.Or = Forms.or_next
