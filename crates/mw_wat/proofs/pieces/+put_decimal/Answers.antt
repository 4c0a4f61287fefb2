use Rattle.std.proofs.Common.{arith}
use Rattle.mw_wat.proofs.TextParts.{digit_end}
use Rattle.mw_wat.proofs.pieces.+put_decimal.Goals as goal

pub returns : goal.returns
returns t c =
    digit_end c.put-2.result c.args.out.now.items c.put_decimal.new.out.items c.put-2.new.out.items c.args.value
    c.if-value-lt10.false (omega (arith, c.ranges.value.fits)) c.in_ok-put_decimal.ensures c.put-2.ensures
