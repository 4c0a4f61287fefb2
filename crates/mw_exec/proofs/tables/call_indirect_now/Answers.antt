use Rattle.std.proofs.Common.{arith, sym, ap, ◌∙◌, Some}
use Rattle.mw_exec.proofs.TableRules.{indirect_no_function, indirect_enters}
use Rattle.mw_exec.proofs.tables.call_indirect_now.Goals as goal

pub returns-then-f-len : goal.returns-then-f-len
returns-then-f-len c = indirect_no_function c.args.wasm.now c.args.held.now c.args.t c.in-Some.n c.in-Some-element.f
    c.args.state.now c.take_i32.new.state _ c.in-Some.ensures.some
    (sym c.element_at.ensures ∙ (c.in-Some-element_at.is ∙ ap (λ e. Some e) c.in-Some-element.is)) (omega arith)

pub returns-then-same_type : goal.returns-then-same_type
returns-then-same_type c = indirect_enters c.args.wasm.now c.args.held.now c.args.t c.in-Some.n c.in-Some-element.f
    c.args.state.now c.take_i32.new.state c.enter_function.new.state c.in-Some.ensures.some
    (sym c.element_at.ensures ∙ (c.in-Some-element_at.is ∙ ap (λ e. Some e) c.in-Some-element.is))
    c.enter_function.result c.get-function.result.now c.get-kind.result.now c.get.result.now c.get-function.ensures
    c.get-kind.ensures c.get.ensures (sym c.if-same_type.ensures) c.enter_function.ensures
