use Rattle.std.proofs.Common.{sym, ap, ◌∙◌, ◌++◌, map}
use Rattle.std.proofs.lemmas.List.{append-nil}
use Rattle.mw_wasm.specs.Store.{zero_of}
use Rattle.mw_exec.proofs.MappedSlices.{mapped_all}
use Rattle.mw_exec.proofs.calls.push_locals.Goals as goal

pub loop-t-init : goal.loop-t-init
loop-t-init c = sym (append-nil c.extend_from_slice.new.self.items)

pub returns : goal.returns
returns c = mapped_all zero_of c.args.further.now c.loop-t.t-index c.extend_from_slice.new.self.items
    c.loop-t.locals.items c.loop-t.invariant c.loop-t-test.false ∙ ap (λ xs. xs ++ map zero_of c.args.further.now)
    c.in_ok-extend_from_slice.ensures.items
