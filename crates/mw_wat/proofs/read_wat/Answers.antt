use Rattle.mw_wat.proofs.TextAnswers.{answered_bad, answered_few, answered_found, answered_read}
use Rattle.mw_wat.proofs.read_wat.Goals as goal

pub returns-clause-read : goal.returns-clause-read
returns-clause-read c = answered_read c.args.bytes.now c.text_module.result c.text_module.ensures

pub returns-clause-found : goal.returns-clause-found
returns-clause-found c = answered_found c.args.bytes.now c.text_module.result c.text_module.ensures

pub returns-clause-bad : goal.returns-clause-bad
returns-clause-bad c = answered_bad c.args.bytes.now c.text_module.result c.text_module.ensures

pub returns-clause-few : goal.returns-clause-few
returns-clause-few c = answered_few c.args.bytes.now c.text_module.result c.text_module.ensures
