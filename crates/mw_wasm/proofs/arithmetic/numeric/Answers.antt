use Rattle.std.proofs.Common.{◌∙◌, subst}
use Rattle.mw_wasm.specs.declared.numbers.NumOp.TheVariants as num
use Rattle.mw_wasm.specs.declared.numbers.NumOp.{NumOp}
use Rattle.mw_wasm.specs.NumericTypes.{OperandsFit}
use Rattle.mw_wasm.proofs.NumericOperands.{number_result_of_i32}
use Rattle.mw_wasm.proofs.arithmetic.numeric.Goals as goal

pub returns-in-I32 : goal.returns-in-I32
returns-in-I32 c =
    let fits : OperandsFit (num.I32 c.in-I32.op) c.args.a c.args.b =
    subst (λ (o : NumOp). OperandsFit o c.args.a c.args.b) c.in-I32.is c.requires in
    let same = number_result_of_i32 c.in-I32.op c.args.a c.args.b c.low_bits.result c.low_bits-in-I32.result fits
    c.low_bits.ensures.all c.low_bits-in-I32.ensures.all in
    rw c.in-I32.is (c.integer32.ensures ∙ same)
