use Rattle.std.proofs.Common.{refl, ◌∙◌, length}
use Rattle.mw_exec.specs.declared.state.Kind.TheVariants as kind
use Rattle.mw_exec.specs.declared.state.Waiting.{Waiting}
use Rattle.mw_exec.proofs.InvokeRules.{begins_is, code_end}
use Rattle.mw_exec.proofs.invocation.begin.Goals as goal

pub returns : goal.returns
returns c =
    let w : Waiting = record {
      kind = kind.Frame c.gives_one.result 0;
      code = c.as_slice-body.result;
      at =
          length c.as_slice-body.result.now;
      height = 0;
    } in
    begins_is c.args.function.now c.args.kind.now c.args.args.now c.gives_one.result w _ c.args.fuel record {
      locals = c.in_ok-push_locals.ensures ∙ rw (c.new-locals.ensures.items, c.as_slice.ensures) refl;
      base = refl;
      stack = c.new.ensures.items;
      height = refl;
      code = c.as_slice-body.ensures;
      place = refl;
      waiting = c.in_ok-push.ensures.items ∙ rw c.new-waiting.ensures.items refl;
      kind = refl;
      w_height = refl;
      w_end = code_end c.as_slice-body.result.now;
      arity = c.gives_one.ensures;
    } refl
