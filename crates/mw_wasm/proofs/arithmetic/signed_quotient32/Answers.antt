use Rattle.std.proofs.Common.{ap, sym, w32}
use Rattle.mw_wasm.specs.declared.values.ValType.TheVariants as type
use Rattle.mw_wasm.specs.Numerics.{as_value}
use Rattle.mw_wasm.proofs.SignedQuotients.{quotient_fits, quotient_overflows}
use Rattle.mw_wasm.proofs.arithmetic.signed_quotient32.Goals as goal

pub returns-in-Some : goal.returns-in-Some
returns-in-Some c =
    ap (as_value type.I32)
    (sym (quotient_fits w32 c.args.a c.args.b c.cast_signed.result c.cast_signed-2.result c.ranges.a.fits
    c.ranges.b.fits c.if-b-eq0.false c.cast_signed.ensures c.cast_signed-2.ensures c.in-Some.ensures.0.1
    c.in-Some.quotient c.in-Some.ensures.1 c.cast_unsigned.result c.cast_unsigned.ensures))

pub returns-in-None : goal.returns-in-None
returns-in-None c =
    ap (as_value type.I32)
    (sym (quotient_overflows w32 c.args.a c.args.b c.cast_signed.result c.cast_signed-2.result c.ranges.a.fits
    c.ranges.b.fits c.if-b-eq0.false c.cast_signed.ensures c.cast_signed-2.ensures c.in-None.ensures))
