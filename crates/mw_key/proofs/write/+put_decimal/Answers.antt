use Rattle.std.proofs.Common.{arith}
use Rattle.std.proofs.lemmas.Result.{IfOk-equal}
use Rattle.mw_key.proofs.Texts.{digit_written}
use Rattle.mw_key.proofs.write.+put_decimal.Goals as goal

pub returns : goal.returns
returns t c = IfOk-equal c.put-2.result _ _ _ c.put-2.ensures
    (digit_written c.args.text.now.items c.put_decimal.new.text.items c.args.number c.if-number-lt10.false
    (omega (arith, c.ranges.number.fits)) c.in_ok-put_decimal.ensures)
