-- Programs with the names of their items, as pure data.
use Rattle.std.specs.Prelude.{ℕ, ◌≡◌, List, Result, map}
use Rattle.mw_term.specs.Terms.{Expression, GroundType, expression_of, ground_of}
use Rattle.mw_term.specs.Programs.{Definition, definition_of, PureProgram}
use Rattle.mw_term.specs.Stops.{AnswersOrMemory}
use Rattle.mw_term.specs.declared.program.Item.{Item}
use Rattle.mw_term.specs.declared.program.Program.{Program}
use Rattle.mw_term.specs.declared.refusal.Stop.{Stop}

-- an item: its name, and what it defines
pub record NamedItem : Type 0 where
  pub name : List ℕ
  pub is : Definition

pub record NamedProgram : Type 0 where
  pub items : List NamedItem
  pub result : GroundType
  pub body : Expression

abbrev pub item_of : Item → NamedItem
item_of i = record { name = i.name; is = definition_of i.kind }

abbrev pub named_program_of : Program → NamedProgram
named_program_of p = record { items = map item_of p.items; result = ground_of p.result; body = expression_of p.body }

-- the answer is this program with its names, unless memory ran out
abbrev pub IsNamedProgramOrMemory : Result Program Stop → NamedProgram → Type 0
IsNamedProgramOrMemory result p = AnswersOrMemory (λ q. named_program_of q ≡ p) result

-- the program without its names
abbrev pub unnamed : NamedProgram → PureProgram
unnamed p = record { items = map (λ i. i.is) p.items; result = p.result; body = p.body }

abbrev pub names_of : NamedProgram → List (List ℕ)
names_of p = map (λ i. i.name) p.items
