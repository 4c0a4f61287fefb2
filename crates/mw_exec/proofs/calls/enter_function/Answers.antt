use Rattle.std.proofs.Common.{refl, ap, ◌∙◌, ◌-◌, arith}
use Rattle.mw_wasm.specs.Views.{function_of, list_code}
use Rattle.mw_exec.specs.declared.state.Kind.TheVariants as kind
use Rattle.mw_exec.proofs.Surroundings.{rest_from}
use Rattle.mw_exec.proofs.CallRules.{enters_lost, enters_spent, enters_rule}
use Rattle.mw_exec.proofs.calls.enter_function.Goals as goal

pub returns-then-len-state : goal.returns-then-len-state
returns-then-len-state c = enters_lost (function_of c.args.function.now) c.args.kind.now c.args.state.now _
    c.requires.formed (omega (arith, c.args.state.now.stack.ok.0))

pub returns-then-state-eq0 : goal.returns-then-state-eq0
returns-then-state-eq0 c = enters_spent (function_of c.args.function.now) c.args.kind.now c.args.state.now _
    c.requires.formed (omega (arith, c.args.state.now.stack.ok.0)) c.if-state-eq0.true

pub returns : goal.returns
returns c = enters_rule (function_of c.args.function.now) c.args.kind.now c.gives_one.result
    (c.len-2.result - c.len-count.result) c.args.state.now _ c.requires.formed record {
      w = record {
        kind = kind.Frame c.gives_one.result c.args.state.now.base;
        code = c.args.state.now.code;
        at =
            c.args.state.now.at;
        height = c.args.state.now.height;
      };
      kind = refl;
      w_code = refl;
      w_at = refl;
      w_height = refl;
      arity = c.gives_one.ensures;
      split = omega (arith, c.args.state.now.stack.ok.0);
      order = omega (arith, c.args.state.now.stack.ok.0);
      stack = c.truncate.ensures.items;
      height = refl;
      locals = c.in_ok-push_locals.ensures
          ∙ rw (
            c.deref.ensures.value,
            c.as_slice.ensures,
            rest_from (c.len-2.result - c.len-count.result)
                c.args.state.now.stack.items,
          ) refl;
      base = c.len-base.ensures ∙ c.args.state.now.locals.ok.0;
      code = ap list_code c.as_slice-state.ensures;
      place = refl;
      waiting = c.in_ok-push.ensures.items;
      fuel = omega arith;
    }
