use Rattle.std.proofs.Common.{refl, arith}
use Rattle.mw_exec.proofs.JumpRules.{again_rule, again_spent}
use Rattle.mw_exec.proofs.jumps.again.Goals as goal

pub returns-then-state-eq0 : goal.returns-then-state-eq0
returns-then-state-eq0 c from = again_spent from c.args.state.now _ c.requires.inside c.if-state-eq0.true

pub returns : goal.returns
returns c from = again_rule from c.args.state.now _ c.requires.formed c.requires.inside record {
  stack = c.truncate.ensures.items;
  code = refl;
  place = refl;
  height = refl;
  waiting = refl;
  base = refl;
  locals = refl;
  fuel = omega arith;
}
