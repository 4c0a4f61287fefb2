-- Programs as pure data.
use Rattle.std.specs.Prelude.{ℕ, ◌+◌, List, [], ◌∷◌, map, pos}
use Rattle.mw_term.specs.Terms.{Expression, Value, GroundType, KernelType, num, truth, fun, fix, pair, int, bool, both}
use Rattle.mw_term.specs.Terms.{function, recursive, size, expression_of, ground_of, kernel_type_of}
use Rattle.mw_term.specs.declared.program.ItemKind.{ItemKind}
use Rattle.mw_term.specs.declared.program.ItemKind.TheVariants.{Value as ValueItem, Kernel as KernelItem}
use Rattle.mw_term.specs.declared.program.Program.{Program}

-- what an item defines
pub data Definition : Type 0 where
  value : (e : Expression) → Definition
  kernel : (k : KernelType) (e : Expression) → Definition

abbrev pub definition_of : ItemKind → Definition
definition_of (ValueItem t) = value (expression_of t)
definition_of (KernelItem k t) = kernel (kernel_type_of k) (expression_of t)

-- a program without its names
pub record PureProgram : Type 0 where
  pub items : List Definition
  pub result : GroundType
  pub body : Expression

abbrev pub program_of : Program → PureProgram
program_of p = record {
  items = map (λ i. definition_of i.kind) p.items;
  result = ground_of p.result;
  body =
      expression_of p.body;
}

-- a syntactic value: a function, a literal or a pair of such
abbrev pub IsSyntacticValue : Expression → Type 0
IsSyntacticValue (num n) = Unit {0}
IsSyntacticValue (truth b) = Unit {0}
IsSyntacticValue (fun e) = Unit {0}
IsSyntacticValue (fix e) = Unit {0}
IsSyntacticValue (pair a b) = IsSyntacticValue a × IsSyntacticValue b
IsSyntacticValue _ = ⊥

-- the value that a syntactic value is; of other terms nothing is meant
abbrev pub value_of_definition : Expression → Value
value_of_definition (num n) = int n
value_of_definition (truth b) = bool b
value_of_definition (fun e) = function e
value_of_definition (fix e) = recursive e
value_of_definition (pair a b) = both (value_of_definition a) (value_of_definition b)
value_of_definition _ = int (pos 0)

-- the nodes of an item's term, of all items' terms, and of these and main's
abbrev pub definition_size : Definition → ℕ
definition_size (value e) = size e
definition_size (kernel k e) = size e

abbrev pub definitions_size : List Definition → ℕ
definitions_size [] = 0
definitions_size (d ∷ ds) = definition_size d + definitions_size ds

abbrev pub program_size : PureProgram → ℕ
program_size p = definitions_size p.items + size p.body
