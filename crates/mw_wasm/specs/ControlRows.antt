-- Branches out of nested blocks, calls, and the units that they need.
use Rattle.std.specs.Prelude.{◌≡◌, ℕ, ◌-◌, ◌^◌, true, List, [], ◌∷◌, ◌++◌, map, Some, None}
use Rattle.mw_wasm.specs.declared.values.Value.TheVariants as value
use Rattle.mw_wasm.specs.declared.values.ValType.TheVariants.{I32, I64}
use Rattle.mw_wasm.specs.declared.values.Trap.TheVariants.{Unreachable, UndefinedElement, Uninitialized, WrongType}
use Rattle.mw_wasm.specs.declared.numbers.NumOp.TheVariants as number
use Rattle.mw_wasm.specs.declared.numbers.IntOp.TheVariants.{Add, Sub, Eqz}
use Rattle.mw_wasm.specs.Syntax.{Instruction, unreachable, nop, block, loop, cond, br, br_if, br_table, give_back, call}
use Rattle.mw_wasm.specs.Syntax.{call_indirect, drop_value, select, local_get, local_set, local_tee, global_get}
use Rattle.mw_wasm.specs.Syntax.{global_set, const_i32, const_i64, numeric, PureModule}
use Rattle.mw_wasm.specs.ExampleModules.{code_of_list}
use Rattle.mw_wasm.specs.ControlExamples.{element_at}
use Rattle.mw_wasm.specs.Outcomes.{Outcome, gave, trapped, spent, outcome, i32, i64, function_alone}

-- a function from i32 to i32 alone, by each of these arguments, with n units
abbrev pub answers : ℕ → List Instruction → List ℕ → List Outcome
answers n is args = map (λ a. outcome (function_alone (I32 ∷ []) (I32 ∷ []) [] is) (value.I32 a ∷ []) n) args

abbrev pub add : Instruction
add = numeric (number.I32 Add)

abbrev pub sub : Instruction
sub = numeric (number.I32 Sub)

-- the number -n
abbrev pub less : ℕ → ℕ
less n = 2 ^ 32 - n

-- Instructions in two blocks with operands below, in both and outside, before a drop. Out of the inner block comes 5
-- where they branch there, and 4 where they don't; the whole is 2 less what comes. Out of the outer one comes 1 less 5,
-- and out of the function 5.
abbrev pub nested : List Instruction → List Instruction
nested is =
    let inner = block (Some I32) (code_of_list (const_i32 4 ∷ const_i32 5 ∷ is ++ drop_value ∷ [])) in
    const_i32 1 ∷ block (Some I32) (code_of_list (const_i32 2 ∷ const_i32 3 ∷ inner ∷ sub ∷ sub ∷ [])) ∷ sub ∷ []

-- the argument counted down to 0 in a loop that gives 77, above a 5
abbrev pub counting_to_77 : List Instruction
counting_to_77 =
    const_i32 5
    ∷ loop (Some I32) (code_of_list (const_i32 77 ∷ local_get 0 ∷ const_i32 1 ∷ sub ∷ local_tee 0 ∷ br_if 0 ∷ [])) ∷ sub
    ∷ []

-- the sum of the numbers up to the argument, by a call for each
abbrev pub sum_by_calls : List Instruction
sum_by_calls = local_get 0 ∷ numeric (number.I32 Eqz) ∷ cond (Some I32) (code_of_list (const_i32 0 ∷ []))
    (code_of_list (local_get 0 ∷ local_get 0 ∷ const_i32 1 ∷ sub ∷ call 0 ∷ add ∷ [])) ∷ []

pub record NestedRows : Type 0 where
  pub falls_through : answers 0 (nested (nop ∷ [])) (0 ∷ []) ≡ i32 (less 2) ∷ []
  pub to_the_inner : answers 0 (nested (br 0 ∷ [])) (0 ∷ []) ≡ i32 (less 3) ∷ []
  pub to_the_outer : answers 0 (nested (br 1 ∷ [])) (0 ∷ []) ≡ i32 (less 4) ∷ []
  pub to_the_function : answers 0 (nested (br 2 ∷ [])) (0 ∷ []) ≡ i32 5 ∷ []
  pub returns : answers 0 (nested (give_back ∷ [])) (0 ∷ []) ≡ i32 5 ∷ []
  pub inner_if : answers 0 (nested (local_get 0 ∷ br_if 0 ∷ [])) (0 ∷ 1 ∷ 2 ^ 31 ∷ [])
      ≡ map i32 (less 2 ∷ less 3 ∷ less 3 ∷ [])
  pub outer_if : answers 0 (nested (local_get 0 ∷ br_if 1 ∷ [])) (0 ∷ 1 ∷ []) ≡ map i32 (less 2 ∷ less 4 ∷ [])
  pub function_if : answers 0 (nested (local_get 0 ∷ br_if 2 ∷ [])) (0 ∷ 1 ∷ []) ≡ map i32 (less 2 ∷ 5 ∷ [])
  pub by_table : answers 0 (nested (local_get 0 ∷ br_table (0 ∷ 1 ∷ []) 2 ∷ [])) (0 ∷ 1 ∷ 2 ∷ (less 1) ∷ [])
      ≡ map i32 (less 3 ∷ less 4 ∷ 5 ∷ 5 ∷ [])
  pub empty_table : answers 0 (nested (local_get 0 ∷ br_table [] 1 ∷ [])) (0 ∷ 9 ∷ []) ≡ map i32 (less 4 ∷ less 4 ∷ [])
  pub by_cond : answers 0 (const_i32 9 ∷ local_get 0 ∷ cond (Some I32) (code_of_list (const_i32 1 ∷ []))
      (code_of_list (const_i32 2 ∷ [])) ∷ sub ∷ []) (0 ∷ 1 ∷ 7 ∷ []) ≡ map i32 (7 ∷ 8 ∷ 8 ∷ [])

-- units exactly enough, one more and one less
pub record UnitRows : Type 0 where
  pub two_turns : answers 2 counting_to_77 (3 ∷ []) ≡ i32 (less 72) ∷ []
  pub two_turns_of_three : answers 3 counting_to_77 (3 ∷ []) ≡ gave (value.I32 (less 72) ∷ []) 1 ∷ []
  pub one_turn : answers 1 counting_to_77 (3 ∷ 2 ∷ []) ≡ spent ∷ i32 (less 72) ∷ []
  pub no_turn : answers 0 counting_to_77 (1 ∷ 2 ∷ []) ≡ i32 (less 72) ∷ spent ∷ []
  pub three_hundred_turns : answers 300 counting_to_77 (301 ∷ 302 ∷ []) ≡ i32 (less 72) ∷ spent ∷ []
  pub three_calls : answers 3 sum_by_calls (0 ∷ 2 ∷ 3 ∷ 4 ∷ []) ≡ gave (value.I32 0 ∷ []) 3 ∷ gave (value.I32 3 ∷ []) 1
      ∷ i32 6 ∷ spent ∷ []

-- a function of an i64 and further locals, of each type
abbrev pub locals_begin : ℕ → PureModule
locals_begin x = function_alone (I64 ∷ []) (I64 ∷ []) (I32 ∷ I64 ∷ []) (local_get x ∷ [])

-- two globals, which begin as 4 and 6
abbrev pub of_globals : List Instruction → PureModule
of_globals is = record (function_alone (I32 ∷ []) (I32 ∷ []) [] is) {
  globals = record { kind = I32; variable = true; init = code_of_list (const_i32 4 ∷ []) }
      ∷ record { kind = I32; variable = true; init = code_of_list (const_i32 6 ∷ []) } ∷ [];
}

pub record PlainRows : Type 0 where
  pub nop_keeps : answers 0 (const_i32 8 ∷ local_get 0 ∷ nop ∷ sub ∷ []) (3 ∷ []) ≡ i32 5 ∷ []
  pub drop_takes_one : answers 0 (const_i32 8 ∷ local_get 0 ∷ drop_value ∷ []) (3 ∷ []) ≡ i32 8 ∷ []
  pub select_takes_three : answers 0 (const_i32 9 ∷ const_i32 1 ∷ const_i32 2 ∷ local_get 0 ∷ select ∷ sub ∷ [])
      (0 ∷ 1 ∷ 2 ∷ []) ≡ map i32 (7 ∷ 8 ∷ 8 ∷ [])
  pub set_takes : answers 0 (const_i32 9 ∷ const_i32 5 ∷ local_set 0 ∷ local_get 0 ∷ sub ∷ []) (3 ∷ []) ≡ i32 4 ∷ []
  pub tee_keeps : answers 0 (const_i32 9 ∷ local_tee 0 ∷ local_get 0 ∷ add ∷ []) (3 ∷ []) ≡ i32 18 ∷ []
  pub unreachable_traps : answers 0 (unreachable ∷ []) (3 ∷ []) ≡ trapped Unreachable ∷ []
  pub argument_first : outcome (locals_begin 0) (value.I64 9 ∷ []) 0 ≡ i64 9
  pub i32_begins_at_0 : outcome (locals_begin 1) (value.I64 9 ∷ []) 0 ≡ i32 0
  pub i64_begins_at_0 : outcome (locals_begin 2) (value.I64 9 ∷ []) 0 ≡ i64 0
  pub globals_begin : outcome (of_globals (global_get 0 ∷ global_get 1 ∷ sub ∷ [])) (value.I32 9 ∷ []) 0 ≡ i32 (less 2)
  pub sets_the_first : outcome (of_globals (local_get 0 ∷ global_set 0 ∷ global_get 0 ∷ global_get 1 ∷ sub ∷ []))
      (value.I32 9 ∷ []) 0 ≡ i32 3
  pub sets_the_second : outcome (of_globals (local_get 0 ∷ global_set 1 ∷ global_get 0 ∷ global_get 1 ∷ sub ∷ []))
      (value.I32 7 ∷ []) 0 ≡ i32 (less 3)

-- five functions of four types in a table, the first and the fifth of types of one content; then an empty element
abbrev pub of_table : List Instruction → PureModule
of_table is = record (function_alone [] [] [] []) {
  types = record { params = I32 ∷ []; results = I32 ∷ [] } ∷ record { params = []; results = I32 ∷ [] }
      ∷ record { params = []; results = I64 ∷ [] }
      ∷ record { params = I32 ∷ I32 ∷ []; results = I32 ∷ [] } ∷ record { params = I64 ∷ []; results = I32 ∷ [] }
      ∷ record { params = []; results = I32 ∷ [] } ∷ [];
  funcs = record { kind = 0; locals = []; body = code_of_list is }
      ∷ record { kind = 1; locals = []; body = code_of_list (const_i32 11 ∷ []) }
      ∷ record { kind = 2; locals = []; body = code_of_list (const_i64 12 ∷ []) }
      ∷ record { kind = 3; locals = []; body = code_of_list (local_get 0 ∷ local_get 1 ∷ sub ∷ []) }
      ∷ record { kind = 4; locals = []; body = code_of_list (const_i32 14 ∷ []) }
      ∷ record { kind = 5; locals = []; body = code_of_list (const_i32 15 ∷ []) } ∷ [];
  table = Some record { min = 6; max = None };
  elements = element_at 0 (1 ∷ 2 ∷ 3 ∷ 4 ∷ 5 ∷ []) ∷ [];
}

-- an indirect call after these operands, of each element, of the first two past the table, and by -1
abbrev pub indirectly : ℕ → List Instruction → ℕ → List Outcome
indirectly n operands type =
    map (λ i. outcome (of_table (operands ++ local_get 0 ∷ call_indirect type ∷ [])) (value.I32 i ∷ []) n)
    (0 ∷ 1 ∷ 2 ∷ 3 ∷ 4 ∷ 5 ∷ 6 ∷ 7 ∷ (less 1) ∷ [])

abbrev pub wrong : Outcome
wrong = trapped WrongType

abbrev pub no_function : List Outcome
no_function = trapped Uninitialized ∷ trapped UndefinedElement ∷ trapped UndefinedElement ∷ trapped UndefinedElement
    ∷ []

pub record IndirectCallRows : Type 0 where
  pub to_i32 : indirectly 1 [] 1 ≡ i32 11 ∷ wrong ∷ wrong ∷ wrong ∷ i32 15 ∷ no_function
  pub to_i64 : indirectly 1 [] 2 ≡ wrong ∷ i64 12 ∷ wrong ∷ wrong ∷ wrong ∷ no_function
  pub of_two_i32 : indirectly 1 (const_i32 20 ∷ const_i32 7 ∷ []) 3 ≡ wrong ∷ wrong ∷ i32 13 ∷ wrong ∷ wrong
      ∷ no_function
  pub of_i64 : indirectly 1 (const_i64 7 ∷ []) 4 ≡ wrong ∷ wrong ∷ wrong ∷ i32 14 ∷ wrong ∷ no_function
  pub same_content : indirectly 1 [] 5 ≡ i32 11 ∷ wrong ∷ wrong ∷ wrong ∷ i32 15 ∷ no_function
  pub of_another : indirectly 1 (const_i32 7 ∷ []) 0 ≡ wrong ∷ wrong ∷ wrong ∷ wrong ∷ wrong ∷ no_function
  pub without_units : indirectly 0 [] 1 ≡ spent ∷ wrong ∷ wrong ∷ wrong ∷ spent ∷ no_function
