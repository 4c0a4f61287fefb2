use Rattle.std.proofs.Common.{arith, refl}
use Rattle.mw_wasm.specs.Views.{code_of}
use Rattle.mw_exec.proofs.TurnRules.{chosen_turns, where_more}
use Rattle.mw_exec.proofs.control.choose.Goals as goal

pub returns-then-n-eq0 : goal.returns-then-n-eq0
returns-then-n-eq0 c = chosen_turns c.block.result c.in-Some.n c.args.t (code_of c.args.a.now) (code_of c.args.b.now) _
    c.args.state.now c.take_i32.new.state c.block.new.state (rw c.if-n-eq0.true refl) c.in-Some.ensures.some
    c.block.ensures

pub returns-else-n-eq0 : goal.returns-else-n-eq0
returns-else-n-eq0 c = chosen_turns c.block-else-n-eq0.result c.in-Some.n c.args.t (code_of c.args.a.now)
    (code_of c.args.b.now) _ c.args.state.now c.take_i32.new.state c.block-else-n-eq0.new.state
    (where_more c.in-Some.n (code_of c.args.b.now) (code_of c.args.a.now) (omega arith)) c.in-Some.ensures.some
    c.block-else-n-eq0.ensures
