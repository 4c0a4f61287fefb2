use Rattle.std.proofs.Common.{◌≡◌, ℕ, [], ◌∷◌, Result, Ok, Err, IfOk, refl, sym, subst, arith}
use Rattle.std.specs.declared.alloc.AllocError.{AllocError}
use Rattle.mw_wasm.specs.declared.instructions.Instrs.{Instrs}
use Rattle.mw_wasm.specs.declared.numbers.IntOp.TheVariants.{DivS}
use Rattle.mw_wasm.specs.declared.numbers.NumOp.TheVariants as number
use Rattle.mw_wasm.specs.declared.numbers.StoreOp.TheVariants as store_op
use Rattle.mw_wasm.specs.declared.values.ValType.TheVariants.{I32, I64}
use Rattle.mw_wasm.specs.Syntax.{Code, const_i32, const_i64, numeric, store, unreachable, end, next}
use Rattle.mw_wasm.specs.Validity.{Context, of_end, of_unreachable, of_const_i32, of_const_i64, of_store, of_numeric}
use Rattle.mw_wasm.specs.Validity.{context_of}
use Rattle.mw_wasm.specs.Views.{code_of}
use Rattle.mw_wasm.proofs.ValidSteps.{on}
use Rattle.mw_tests.specs.KernelModules.{test_module, IsInitCode}
use Rattle.mw_tests.proofs.kernel.modules.init_code.Goals as goal

word_typed : (n : ℕ) → IsInitCode (next (const_i64 n) end)
word_typed n = on [] [] (I64 ∷ []) of_const_i64 of_end

stop_typed : IsInitCode (next unreachable end)
stop_typed = on [] [] (I64 ∷ []) of_unreachable of_end

quotient_typed : (x y : ℕ) → IsInitCode (next (const_i64 x) (next (const_i64 y) (next (numeric (number.I64 DivS)) end)))
quotient_typed x y =
    on [] [] (I64 ∷ []) of_const_i64 (
    on (I64 ∷ []) [] (I64 ∷ []) of_const_i64 (
    on [] (I64 ∷ I64 ∷ []) (I64 ∷ []) (of_numeric refl refl) of_end))

abbrev store_code : Code
store_code = next (const_i32 65529) (next (const_i64 1) (next (store store_op.I64 3 0) (next (const_i64 0) end)))

abbrev inside : Context
inside = record (context_of (test_module store_code)) { labels = (I64 ∷ []) ∷ []; results = I64 ∷ [] }

store_typed : IsInitCode store_code
store_typed =
    on [] [] (I32 ∷ []) of_const_i32 (
    on (I32 ∷ []) [] (I64 ∷ []) of_const_i64 (
    on [] (I32 ∷ I64 ∷ []) [] (of_store {c = inside} refl (omega arith) refl) (
    on [] [] (I64 ∷ []) of_const_i64 of_end)))

typed_as : (r : Result Instrs AllocError) (x : Code) → IsInitCode x → IfOk r (λ c. code_of c ≡ x)
    → IfOk r (λ c. IsInitCode (code_of c))
typed_as (Ok c) x h e = subst IsInitCode (sym e) h
typed_as (Err f) x h e = tt

pub returns-in-Word : goal.returns-in-Word
returns-in-Word c = typed_as c.word.result _ (word_typed c.in-Word.n) c.word.ensures

pub returns-in-Unreachable : goal.returns-in-Unreachable
returns-in-Unreachable c = typed_as c.stop.result _ stop_typed c.stop.ensures

pub returns-in-Divide : goal.returns-in-Divide
returns-in-Divide c = typed_as c.quotient.result _ (quotient_typed 1 0) c.quotient.ensures

pub returns-in-Overflow : goal.returns-in-Overflow
returns-in-Overflow c = typed_as c.quotient-in-Overflow.result _
    (quotient_typed 0x8000_0000_0000_0000 0xffff_ffff_ffff_ffff) c.quotient-in-Overflow.ensures

pub returns-in-Store : goal.returns-in-Store
returns-in-Store c = typed_as c.store_past_the_end.result _ store_typed c.store_past_the_end.ensures
