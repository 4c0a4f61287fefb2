-- What the parser's calls promise.
use Rattle.std.specs.Prelude.{ℕ, ◌≡◌, ◌≤◌, List, Result, Ok, Err, IfOk}
use Rattle.std.specs.Borrow.{Bor}
use Rattle.mw_term.specs.Stops.{AnswersOrMemory, IfRefused}
use Rattle.mw_term.specs.Terms.{ground_of}
use Rattle.mw_term.specs.declared.term.Ground.{Ground}
use Rattle.mw_lex.specs.Tokens.{PureToken, tokens_of}
use Rattle.mw_lex.specs.declared.token.Token.{Token}
use Rattle.mw_term.specs.declared.refusal.Refusal.{Refusal}
use Rattle.mw_term.specs.declared.refusal.Refusal.TheVariants.{Syntax, TooDeep, TooMany}
use Rattle.mw_term.specs.declared.refusal.Stop.{Stop}
use Rattle.mw_grammar.specs.declared.tree.Surface.{Surface}
use Rattle.mw_grammar.specs.declared.tree.Tree.{Tree}
use Rattle.mw_grammar.specs.declared.fault.Fault.{Fault}
use Rattle.mw_grammar.specs.SurfaceTrees.{PureSurface, tree_of, surface_of}
use Rattle.mw_grammar.specs.Grammar.{Nonterminal, Meaning, program, main_only}
use Rattle.mw_grammar.specs.Forms.{Form}
use Rattle.mw_grammar.specs.Descent.{Answer, ok, none_yet, so_far, full, reading}
use Rattle.mw_grammar.specs.Gives.{Gives, GivesRead}
use Rattle.mw_parse.specs.declared.room.Room.{Room}
use Rattle.mw_grammar.specs.Answers.{IsProgram, IsSyntaxAt, IsTooDeepAt, HasTooMany}

-- the refusals that reading tokens has, each with what it says of them
abbrev pub Refuses : List PureToken → ℕ → Refusal → Type 0
Refuses tokens length (Syntax at) = IsSyntaxAt tokens length at
Refuses tokens length (TooDeep at) = IsTooDeepAt tokens at
Refuses tokens length TooMany = HasTooMany tokens
Refuses tokens length _ = ⊥

-- the answer is this tree, unless memory ran out
abbrev pub IsTreeOrMemory : Result Surface Stop → PureSurface → Type 0
IsTreeOrMemory result v = AnswersOrMemory (λ s. surface_of s ≡ v) result

-- what the answer says of the tokens
abbrev pub IsAnswer : List PureToken → ℕ → Result Surface Stop → Type 0
IsAnswer tokens length (Ok s) = IsProgram tokens (surface_of s)
IsAnswer tokens length (Err e) = IfRefused (Refuses tokens length) e

-- what was read of main, the height of its nodes and the tokens left are those of the answer, which has no items
abbrev pub GivesMain : Result (Ground × Tree × ℕ × Bor (List Token)) Fault → Answer program → Type 0
GivesMain result answer = Gives (λ x. ok (main_only (ground_of x.0) (tree_of x.1)) x.2 (tokens_of x.3.now)) result
    answer

-- what was read, the height of its nodes and the tokens left are those of the answer, and the nodes have room
pub record Within {X : Type 0} {n : Nonterminal} (room : Room) (view : X → Meaning n)
    (result : Result (X × ℕ × Bor (List Token)) Fault) (answer : Answer n) : Type 0 where
  pub gives : GivesRead view result answer
  pub height : IfOk result (λ x. x.1 ≤ room.nodes)

-- the same of the nonterminal n, of the form F, and of F after what has this height, at these tokens
abbrev pub Reads : {X : Type 0} → Room → (n : Nonterminal) → List Token → (X → Meaning n)
    → Result (X × ℕ × Bor (List Token)) Fault → Type 0
Reads room n tokens view result = Within room view result (full room.nodes n (tokens_of tokens))

abbrev pub ReadsForm : {X : Type 0} {n : Nonterminal} → Room → Form n → List Token → (X → Meaning n)
    → Result (X × ℕ × Bor (List Token)) Fault → Type 0
ReadsForm room F tokens view result = Within room view result (reading room.nodes F none_yet (tokens_of tokens))

abbrev pub ReadsAfter : {X : Type 0} {n : Nonterminal} → (height : ℕ) → Room → Form n → List Token → (X → Meaning n)
    → Result (X × ℕ × Bor (List Token)) Fault → Type 0
ReadsAfter height room F tokens view result = Within room view result
    (reading room.nodes F (so_far height) (tokens_of tokens))
