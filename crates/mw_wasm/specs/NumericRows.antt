-- Every numeric operation at edge values, through an invocation. The answers are those of an engine of the standard.
use Rattle.std.specs.Prelude.{◌≡◌, ℕ, ◌+◌, ◌-◌, ◌^◌, List, [], ◌∷◌, map}
use Rattle.mw_wasm.specs.declared.values.Value.{Value}
use Rattle.mw_wasm.specs.declared.values.Value.TheVariants as value
use Rattle.mw_wasm.specs.declared.values.Trap.TheVariants.{Divide, Overflow}
use Rattle.mw_wasm.specs.declared.numbers.IntOp.{IntOp}
use Rattle.mw_wasm.specs.declared.numbers.IntOp.TheVariants as op
use Rattle.mw_wasm.specs.declared.numbers.NumOp.{NumOp}
use Rattle.mw_wasm.specs.declared.numbers.NumOp.TheVariants as number
use Rattle.mw_wasm.specs.NumericTypes.{operands_of, result_type}
use Rattle.mw_wasm.specs.Syntax.{local_get, numeric, PureModule}
use Rattle.mw_wasm.specs.Outcomes.{Outcome, trapped, outcomes, i32, i64, function_alone}

-- a function that takes the operands of an operation as arguments
abbrev pub of_one : NumOp → PureModule
of_one o = function_alone (operands_of o) (result_type o ∷ []) [] (local_get 0 ∷ numeric o ∷ [])

abbrev pub of_two : NumOp → PureModule
of_two o = function_alone (operands_of o) (result_type o ∷ []) [] (local_get 0 ∷ local_get 1 ∷ numeric o ∷ [])

abbrev pub args32 : ℕ → ℕ → List Value
args32 a b = value.I32 a ∷ value.I32 b ∷ []

abbrev pub args64 : ℕ → ℕ → List Value
args64 a b = value.I64 a ∷ value.I64 b ∷ []

-- the operands of the rows: by zero, of each sign, the least and the greatest, shifts by a width and more
abbrev pub pairs32 : List (List Value)
pairs32 =
    args32 7 0
    ∷ args32 7 2
    ∷ args32 (2 ^ 32 - 7) 2
    ∷ args32 7 (2 ^ 32 - 2)
    ∷ args32 (2 ^ 31) (2 ^ 32 - 1)
    ∷ args32 (2 ^ 31 - 1) 1
    ∷ args32 (2 ^ 31) (2 ^ 31)
    ∷ args32 (2 ^ 32 - 1) (2 ^ 32 - 1)
    ∷ args32 (2 ^ 31 + 1) 31
    ∷ args32 (2 ^ 31 + 5) 32
    ∷ args32 0x12345678 33
    ∷ args32 0x12345678 0xF0F00FF
    ∷ []

abbrev pub pairs64 : List (List Value)
pairs64 =
    args64 7 0
    ∷ args64 7 2
    ∷ args64 (2 ^ 64 - 7) 2
    ∷ args64 7 (2 ^ 64 - 2)
    ∷ args64 (2 ^ 63) (2 ^ 64 - 1)
    ∷ args64 (2 ^ 63 - 1) 1
    ∷ args64 (2 ^ 63) (2 ^ 63)
    ∷ args64 (2 ^ 64 - 1) (2 ^ 64 - 1)
    ∷ args64 (2 ^ 63 + 1) 63
    ∷ args64 (2 ^ 63 + 5) 64
    ∷ args64 0x123456789ABCDEF 65
    ∷ args64 0x123456789ABCDEF 0xFF00FF0F0F00FF
    ∷ []

abbrev pub unary32 : IntOp → List Outcome
unary32 o = outcomes (of_one (number.I32 o))
    ((value.I32 0 ∷ []) ∷ (value.I32 1 ∷ []) ∷ (value.I32 (2 ^ 31) ∷ []) ∷ (value.I32 (2 ^ 31 - 1) ∷ [])
    ∷ (value.I32 (2 ^ 32 - 1) ∷ []) ∷ (value.I32 240 ∷ []) ∷ [])

abbrev pub unary64 : IntOp → List Outcome
unary64 o = outcomes (of_one (number.I64 o))
    ((value.I64 0 ∷ []) ∷ (value.I64 1 ∷ []) ∷ (value.I64 (2 ^ 63) ∷ []) ∷ (value.I64 (2 ^ 63 - 1) ∷ [])
    ∷ (value.I64 (2 ^ 64 - 1) ∷ []) ∷ (value.I64 240 ∷ []) ∷ [])

abbrev pub binary32 : IntOp → List Outcome
binary32 o = outcomes (of_two (number.I32 o)) pairs32

abbrev pub binary64 : IntOp → List Outcome
binary64 o = outcomes (of_two (number.I64 o)) pairs64

pub record NumericRows32 : Type 0 where
  pub eqz : unary32 op.Eqz ≡ map i32 (1 ∷ 0 ∷ 0 ∷ 0 ∷ 0 ∷ 0 ∷ [])
  pub eq : binary32 op.Eq ≡ map i32 (0 ∷ 0 ∷ 0 ∷ 0 ∷ 0 ∷ 0 ∷ 1 ∷ 1 ∷ 0 ∷ 0 ∷ 0 ∷ 0 ∷ [])
  pub ne : binary32 op.Ne ≡ map i32 (1 ∷ 1 ∷ 1 ∷ 1 ∷ 1 ∷ 1 ∷ 0 ∷ 0 ∷ 1 ∷ 1 ∷ 1 ∷ 1 ∷ [])
  pub lt_s : binary32 op.LtS ≡ map i32 (0 ∷ 0 ∷ 1 ∷ 0 ∷ 1 ∷ 0 ∷ 0 ∷ 0 ∷ 1 ∷ 1 ∷ 0 ∷ 0 ∷ [])
  pub lt_u : binary32 op.LtU ≡ map i32 (0 ∷ 0 ∷ 0 ∷ 1 ∷ 1 ∷ 0 ∷ 0 ∷ 0 ∷ 0 ∷ 0 ∷ 0 ∷ 0 ∷ [])
  pub gt_s : binary32 op.GtS ≡ map i32 (1 ∷ 1 ∷ 0 ∷ 1 ∷ 0 ∷ 1 ∷ 0 ∷ 0 ∷ 0 ∷ 0 ∷ 1 ∷ 1 ∷ [])
  pub gt_u : binary32 op.GtU ≡ map i32 (1 ∷ 1 ∷ 1 ∷ 0 ∷ 0 ∷ 1 ∷ 0 ∷ 0 ∷ 1 ∷ 1 ∷ 1 ∷ 1 ∷ [])
  pub le_s : binary32 op.LeS ≡ map i32 (0 ∷ 0 ∷ 1 ∷ 0 ∷ 1 ∷ 0 ∷ 1 ∷ 1 ∷ 1 ∷ 1 ∷ 0 ∷ 0 ∷ [])
  pub le_u : binary32 op.LeU ≡ map i32 (0 ∷ 0 ∷ 0 ∷ 1 ∷ 1 ∷ 0 ∷ 1 ∷ 1 ∷ 0 ∷ 0 ∷ 0 ∷ 0 ∷ [])
  pub ge_s : binary32 op.GeS ≡ map i32 (1 ∷ 1 ∷ 0 ∷ 1 ∷ 0 ∷ 1 ∷ 1 ∷ 1 ∷ 0 ∷ 0 ∷ 1 ∷ 1 ∷ [])
  pub ge_u : binary32 op.GeU ≡ map i32 (1 ∷ 1 ∷ 1 ∷ 0 ∷ 0 ∷ 1 ∷ 1 ∷ 1 ∷ 1 ∷ 1 ∷ 1 ∷ 1 ∷ [])
  pub clz : unary32 op.Clz ≡ map i32 (32 ∷ 31 ∷ 0 ∷ 1 ∷ 0 ∷ 24 ∷ [])
  pub ctz : unary32 op.Ctz ≡ map i32 (32 ∷ 0 ∷ 31 ∷ 0 ∷ 0 ∷ 4 ∷ [])
  pub popcnt : outcomes (of_one (number.I32 op.Popcnt)) ((value.I32 0 ∷ []) ∷ (value.I32 1 ∷ []) ∷ (value.I32 240 ∷ [])
      ∷ (value.I32 4095 ∷ []) ∷ []) ≡ map i32 (0 ∷ 1 ∷ 4 ∷ 12 ∷ [])
  pub add : binary32 op.Add ≡ map i32 (7 ∷ 9 ∷ (2 ^ 32 - 5) ∷ 5 ∷ (2 ^ 31 - 1) ∷ (2 ^ 31) ∷ 0 ∷ (2 ^ 32 - 2)
      ∷ (2 ^ 31 + 32) ∷ (2 ^ 31 + 37) ∷ 0x12345699 ∷ 0x21435777 ∷ [])
  pub sub : binary32 op.Sub ≡ map i32 (7 ∷ 5 ∷ (2 ^ 32 - 9) ∷ 9 ∷ (2 ^ 31 + 1) ∷ (2 ^ 31 - 2) ∷ 0 ∷ 0 ∷ (2 ^ 31 - 30)
      ∷ (2 ^ 31 - 27) ∷ 0x12345657 ∷ 0x3255579 ∷ [])
  pub mul : binary32 op.Mul ≡ map i32 (0 ∷ 14 ∷ (2 ^ 32 - 14) ∷ (2 ^ 32 - 14) ∷ (2 ^ 31) ∷ (2 ^ 31 - 1) ∷ 0 ∷ 1
      ∷ (2 ^ 31 + 31) ∷ 160 ∷ 0x58BF2578 ∷ 0x3B2A2188 ∷ [])
  pub div_s : binary32 op.DivS
      ≡ trapped Divide ∷ i32 3 ∷ i32 (2 ^ 32 - 3) ∷ i32 (2 ^ 32 - 3) ∷ trapped Overflow ∷ i32 (2 ^ 31 - 1) ∷ i32 1
      ∷ i32 1 ∷ i32 0xFBDEF7BE ∷ i32 0xFC000001 ∷ i32 0x8D38EC ∷ i32 1 ∷ []
  pub div_u : binary32 op.DivU ≡ trapped Divide ∷ i32 3 ∷ i32 (2 ^ 31 - 4) ∷ i32 0 ∷ i32 0 ∷ i32 (2 ^ 31 - 1) ∷ i32 1
      ∷ i32 1 ∷ i32 0x4210842 ∷ i32 0x4000000 ∷ i32 0x8D38EC ∷ i32 1 ∷ []
  pub rem_s : binary32 op.RemS ≡ trapped Divide ∷ i32 1 ∷ i32 (2 ^ 32 - 1) ∷ i32 1 ∷ i32 0 ∷ i32 0 ∷ i32 0 ∷ i32 0
      ∷ i32 (2 ^ 32 - 1) ∷ i32 (2 ^ 32 - 27) ∷ i32 12 ∷ i32 0x3255579 ∷ []
  pub rem_u : binary32 op.RemU ≡ trapped Divide ∷ i32 1 ∷ i32 1 ∷ i32 7 ∷ i32 (2 ^ 31) ∷ i32 0 ∷ i32 0 ∷ i32 0 ∷ i32 3
      ∷ i32 5 ∷ i32 12 ∷ i32 0x3255579 ∷ []
  pub and : binary32 op.And ≡ map i32 (0 ∷ 2 ∷ 0 ∷ 6 ∷ (2 ^ 31) ∷ 1 ∷ (2 ^ 31) ∷ (2 ^ 32 - 1) ∷ 1 ∷ 0 ∷ 32 ∷ 0x2040078
      ∷ [])
  pub or : binary32 op.Or ≡ map i32 (7 ∷ 7 ∷ (2 ^ 32 - 5) ∷ (2 ^ 32 - 1) ∷ (2 ^ 32 - 1) ∷ (2 ^ 31 - 1) ∷ (2 ^ 31)
      ∷ (2 ^ 32 - 1) ∷ (2 ^ 31 + 31) ∷ (2 ^ 31 + 37) ∷ 0x12345679 ∷ 0x1F3F56FF ∷ [])
  pub xor : binary32 op.Xor ≡ map i32 (7 ∷ 5 ∷ (2 ^ 32 - 5) ∷ (2 ^ 32 - 7) ∷ (2 ^ 31 - 1) ∷ (2 ^ 31 - 2) ∷ 0 ∷ 0
      ∷ (2 ^ 31 + 30) ∷ (2 ^ 31 + 37) ∷ 0x12345659 ∷ 0x1D3B5687 ∷ [])
  pub shl : binary32 op.Shl ≡ map i32 (7 ∷ 28 ∷ (2 ^ 32 - 28) ∷ 0xC0000000 ∷ 0 ∷ (2 ^ 32 - 2) ∷ (2 ^ 31) ∷ (2 ^ 31)
      ∷ (2 ^ 31) ∷ (2 ^ 31 + 5) ∷ 0x2468ACF0 ∷ 0 ∷ [])
  pub shr_s : binary32 op.ShrS ≡ map i32 (7 ∷ 1 ∷ (2 ^ 32 - 2) ∷ 0 ∷ (2 ^ 32 - 1) ∷ 0x3FFFFFFF ∷ (2 ^ 31) ∷ (2 ^ 32 - 1)
      ∷ (2 ^ 32 - 1) ∷ (2 ^ 31 + 5) ∷ 0x91A2B3C ∷ 0 ∷ [])
  pub shr_u : binary32 op.ShrU ≡ map i32 (7 ∷ 1 ∷ 0x3FFFFFFE ∷ 0 ∷ 1 ∷ 0x3FFFFFFF ∷ (2 ^ 31) ∷ 1 ∷ 1 ∷ (2 ^ 31 + 5)
      ∷ 0x91A2B3C ∷ 0 ∷ [])
  pub rotl : binary32 op.Rotl ≡ map i32 (7 ∷ 28 ∷ (2 ^ 32 - 25) ∷ 0xC0000001 ∷ 0x40000000 ∷ (2 ^ 32 - 2) ∷ (2 ^ 31)
      ∷ (2 ^ 32 - 1) ∷ 0xC0000000 ∷ (2 ^ 31 + 5) ∷ 0x2468ACF0 ∷ 0x91A2B3C ∷ [])
  pub rotr : binary32 op.Rotr ≡ map i32 (7 ∷ 0xC0000001 ∷ (2 ^ 31 - 2) ∷ 28 ∷ 1 ∷ 0xBFFFFFFF ∷ (2 ^ 31) ∷ (2 ^ 32 - 1)
      ∷ 3 ∷ (2 ^ 31 + 5) ∷ 0x91A2B3C ∷ 0x2468ACF0 ∷ [])

pub record NumericRows64 : Type 0 where
  pub eqz : unary64 op.Eqz ≡ map i32 (1 ∷ 0 ∷ 0 ∷ 0 ∷ 0 ∷ 0 ∷ [])
  pub eq : binary64 op.Eq ≡ map i32 (0 ∷ 0 ∷ 0 ∷ 0 ∷ 0 ∷ 0 ∷ 1 ∷ 1 ∷ 0 ∷ 0 ∷ 0 ∷ 0 ∷ [])
  pub ne : binary64 op.Ne ≡ map i32 (1 ∷ 1 ∷ 1 ∷ 1 ∷ 1 ∷ 1 ∷ 0 ∷ 0 ∷ 1 ∷ 1 ∷ 1 ∷ 1 ∷ [])
  pub lt_s : binary64 op.LtS ≡ map i32 (0 ∷ 0 ∷ 1 ∷ 0 ∷ 1 ∷ 0 ∷ 0 ∷ 0 ∷ 1 ∷ 1 ∷ 0 ∷ 0 ∷ [])
  pub lt_u : binary64 op.LtU ≡ map i32 (0 ∷ 0 ∷ 0 ∷ 1 ∷ 1 ∷ 0 ∷ 0 ∷ 0 ∷ 0 ∷ 0 ∷ 0 ∷ 0 ∷ [])
  pub gt_s : binary64 op.GtS ≡ map i32 (1 ∷ 1 ∷ 0 ∷ 1 ∷ 0 ∷ 1 ∷ 0 ∷ 0 ∷ 0 ∷ 0 ∷ 1 ∷ 1 ∷ [])
  pub gt_u : binary64 op.GtU ≡ map i32 (1 ∷ 1 ∷ 1 ∷ 0 ∷ 0 ∷ 1 ∷ 0 ∷ 0 ∷ 1 ∷ 1 ∷ 1 ∷ 1 ∷ [])
  pub le_s : binary64 op.LeS ≡ map i32 (0 ∷ 0 ∷ 1 ∷ 0 ∷ 1 ∷ 0 ∷ 1 ∷ 1 ∷ 1 ∷ 1 ∷ 0 ∷ 0 ∷ [])
  pub le_u : binary64 op.LeU ≡ map i32 (0 ∷ 0 ∷ 0 ∷ 1 ∷ 1 ∷ 0 ∷ 1 ∷ 1 ∷ 0 ∷ 0 ∷ 0 ∷ 0 ∷ [])
  pub ge_s : binary64 op.GeS ≡ map i32 (1 ∷ 1 ∷ 0 ∷ 1 ∷ 0 ∷ 1 ∷ 1 ∷ 1 ∷ 0 ∷ 0 ∷ 1 ∷ 1 ∷ [])
  pub ge_u : binary64 op.GeU ≡ map i32 (1 ∷ 1 ∷ 1 ∷ 0 ∷ 0 ∷ 1 ∷ 1 ∷ 1 ∷ 1 ∷ 1 ∷ 1 ∷ 1 ∷ [])
  pub clz : unary64 op.Clz ≡ map i64 (64 ∷ 63 ∷ 0 ∷ 1 ∷ 0 ∷ 56 ∷ [])
  pub ctz : unary64 op.Ctz ≡ map i64 (64 ∷ 0 ∷ 63 ∷ 0 ∷ 0 ∷ 4 ∷ [])
  pub popcnt : outcomes (of_one (number.I64 op.Popcnt)) ((value.I64 0 ∷ []) ∷ (value.I64 1 ∷ []) ∷ (value.I64 240 ∷ [])
      ∷ (value.I64 4095 ∷ []) ∷ []) ≡ map i64 (0 ∷ 1 ∷ 4 ∷ 12 ∷ [])
  pub add : binary64 op.Add ≡ map i64 (7 ∷ 9 ∷ (2 ^ 64 - 5) ∷ 5 ∷ (2 ^ 63 - 1) ∷ (2 ^ 63) ∷ 0 ∷ (2 ^ 64 - 2)
      ∷ (2 ^ 63 + 64) ∷ (2 ^ 63 + 69) ∷ 0x123456789ABCE30 ∷ 0x222466698BACEEE ∷ [])
  pub sub : binary64 op.Sub ≡ map i64 (7 ∷ 5 ∷ (2 ^ 64 - 9) ∷ 9 ∷ (2 ^ 63 + 1) ∷ (2 ^ 63 - 2) ∷ 0 ∷ 0 ∷ (2 ^ 63 - 62)
      ∷ (2 ^ 63 - 59) ∷ 0x123456789ABCDAE ∷ 0x2444687A9CCCF0 ∷ [])
  pub mul : binary64 op.Mul ≡ map i64 (0 ∷ 14 ∷ (2 ^ 64 - 14) ∷ (2 ^ 64 - 14) ∷ (2 ^ 63) ∷ (2 ^ 63 - 1) ∷ 0 ∷ 1
      ∷ (2 ^ 63 + 63) ∷ 320 ∷ 0x49F49F49F49F49AF ∷ 0x8777655534232111 ∷ [])
  pub div_s : binary64 op.DivS
      ≡ trapped Divide ∷ i64 3 ∷ i64 (2 ^ 64 - 3) ∷ i64 (2 ^ 64 - 3) ∷ trapped Overflow ∷ i64 (2 ^ 63 - 1)
      ∷ i64 1 ∷ i64 1 ∷ i64 0xFDF7DF7DF7DF7DF8 ∷ i64 0xFE00000000000001 ∷ i64 0x47B28FA3DB856 ∷ i64 1 ∷ []
  pub div_u : binary64 op.DivU
      ≡ trapped Divide ∷ i64 3 ∷ i64 (2 ^ 63 - 4) ∷ i64 0 ∷ i64 0 ∷ i64 (2 ^ 63 - 1) ∷ i64 1 ∷ i64 1
      ∷ i64 0x208208208208208 ∷ i64 0x200000000000000 ∷ i64 0x47B28FA3DB856 ∷ i64 1 ∷ []
  pub rem_s : binary64 op.RemS ≡ trapped Divide ∷ i64 1 ∷ i64 (2 ^ 64 - 1) ∷ i64 1 ∷ i64 0 ∷ i64 0 ∷ i64 0 ∷ i64 0
      ∷ i64 (2 ^ 64 - 7) ∷ i64 (2 ^ 64 - 59) ∷ i64 25 ∷ i64 0x2444687A9CCCF0 ∷ []
  pub rem_u : binary64 op.RemU ≡ trapped Divide ∷ i64 1 ∷ i64 1 ∷ i64 7 ∷ i64 (2 ^ 63) ∷ i64 0 ∷ i64 0 ∷ i64 0 ∷ i64 9
      ∷ i64 5 ∷ i64 25 ∷ i64 0x2444687A9CCCF0 ∷ []
  pub and : binary64 op.And ≡ map i64 (0 ∷ 2 ∷ 0 ∷ 6 ∷ (2 ^ 63) ∷ 1 ∷ (2 ^ 63) ∷ (2 ^ 64 - 1) ∷ 1 ∷ 0 ∷ 65
      ∷ 0x230067090B00EF ∷ [])
  pub or : binary64 op.Or
      ≡ map i64 (7 ∷ 7 ∷ (2 ^ 64 - 5) ∷ (2 ^ 64 - 1) ∷ (2 ^ 64 - 1) ∷ (2 ^ 63 - 1) ∷ (2 ^ 63) ∷ (2 ^ 64 - 1)
      ∷ (2 ^ 63 + 63) ∷ (2 ^ 63 + 69) ∷ 0x123456789ABCDEF ∷ 0x1FF45FF8FAFCDFF ∷ [])
  pub xor : binary64 op.Xor ≡ map i64 (7 ∷ 5 ∷ (2 ^ 64 - 5) ∷ (2 ^ 64 - 7) ∷ (2 ^ 63 - 1) ∷ (2 ^ 63 - 2) ∷ 0 ∷ 0
      ∷ (2 ^ 63 + 62) ∷ (2 ^ 63 + 69) ∷ 0x123456789ABCDAE ∷ 0x1DC459886A4CD10 ∷ [])
  pub shl : binary64 op.Shl ≡ map i64 (7 ∷ 28 ∷ (2 ^ 64 - 28) ∷ 0xC000000000000000 ∷ 0 ∷ (2 ^ 64 - 2) ∷ (2 ^ 63)
      ∷ (2 ^ 63) ∷ (2 ^ 63) ∷ (2 ^ 63 + 5) ∷ 0x2468ACF13579BDE ∷ (2 ^ 63) ∷ [])
  pub shr_s : binary64 op.ShrS ≡ map i64 (7 ∷ 1 ∷ (2 ^ 64 - 2) ∷ 0 ∷ (2 ^ 64 - 1) ∷ 0x3FFFFFFFFFFFFFFF ∷ (2 ^ 63)
      ∷ (2 ^ 64 - 1) ∷ (2 ^ 64 - 1) ∷ (2 ^ 63 + 5) ∷ 0x91A2B3C4D5E6F7 ∷ 0 ∷ [])
  pub shr_u : binary64 op.ShrU ≡ map i64 (7 ∷ 1 ∷ 0x3FFFFFFFFFFFFFFE ∷ 0 ∷ 1 ∷ 0x3FFFFFFFFFFFFFFF ∷ (2 ^ 63) ∷ 1 ∷ 1
      ∷ (2 ^ 63 + 5) ∷ 0x91A2B3C4D5E6F7 ∷ 0 ∷ [])
  pub rotl : binary64 op.Rotl
      ≡ map i64 (7 ∷ 28 ∷ (2 ^ 64 - 25) ∷ 0xC000000000000001 ∷ 0x4000000000000000 ∷ (2 ^ 64 - 2) ∷ (2 ^ 63)
      ∷ (2 ^ 64 - 1) ∷ 0xC000000000000000 ∷ (2 ^ 63 + 5) ∷ 0x2468ACF13579BDE ∷ 0x8091A2B3C4D5E6F7 ∷ [])
  pub rotr : binary64 op.Rotr ≡ map i64 (7 ∷ 0xC000000000000001 ∷ (2 ^ 63 - 2) ∷ 28 ∷ 1 ∷ 0xBFFFFFFFFFFFFFFF ∷ (2 ^ 63)
      ∷ (2 ^ 64 - 1) ∷ 3 ∷ (2 ^ 63 + 5) ∷ 0x8091A2B3C4D5E6F7 ∷ 0x2468ACF13579BDE ∷ [])

pub record ConversionRows : Type 0 where
  pub wrap : outcomes (of_one number.Wrap)
      ((value.I64 5 ∷ []) ∷ (value.I64 (2 ^ 32 + 5) ∷ []) ∷ (value.I64 (2 ^ 31) ∷ []) ∷ (value.I64 (2 ^ 64 - 1) ∷ [])
      ∷ [])
      ≡ map i32 (5 ∷ 5 ∷ (2 ^ 31) ∷ (2 ^ 32 - 1) ∷ [])
  pub extend_s : outcomes (of_one number.ExtendS)
      ((value.I32 5 ∷ []) ∷ (value.I32 (2 ^ 31 - 1) ∷ []) ∷ (value.I32 (2 ^ 31) ∷ []) ∷ (value.I32 (2 ^ 32 - 1) ∷ [])
      ∷ [])
      ≡ map i64 (5 ∷ (2 ^ 31 - 1) ∷ (2 ^ 64 - 2 ^ 31) ∷ (2 ^ 64 - 1) ∷ [])
  pub extend_u : outcomes (of_one number.ExtendU)
      ((value.I32 5 ∷ []) ∷ (value.I32 (2 ^ 31 - 1) ∷ []) ∷ (value.I32 (2 ^ 31) ∷ []) ∷ (value.I32 (2 ^ 32 - 1) ∷ [])
      ∷ [])
      ≡ map i64 (5 ∷ (2 ^ 31 - 1) ∷ (2 ^ 31) ∷ (2 ^ 32 - 1) ∷ [])
