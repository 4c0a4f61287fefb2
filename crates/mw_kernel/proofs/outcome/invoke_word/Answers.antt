use Rattle.mw_exec.specs.InstanceStates.{store_in}
use Rattle.mw_kernel.proofs.WordEnds.{can_invoke, word_ends}
use Rattle.mw_kernel.proofs.outcome.invoke_word.Goals as goal

pub invoke-requires : goal.invoke-requires
invoke-requires c =
    record {
      can = can_invoke c.args.instance.now.wasm (store_in c.args.instance.now) c.args.name.now c.args.args.now
          c.requires;
    }

pub outcome_of-requires : goal.outcome_of-requires
outcome_of-requires c =
    let f = c.requires.is_there in
    (word_ends c.args.instance.now.wasm (store_in c.args.instance.now) (store_in c.invoke.new.self) c.args.name.now
    c.args.args.now c.args.fuel f.index c.in_ok-invoke.field-0 c.requires f.is_exported
    (c.in_ok-invoke.ensures.ends f.index f.is_exported)).one

pub returns-clause-ends : goal.returns-clause-ends
returns-clause-ends c = λ f e.
    (word_ends c.args.instance.now.wasm (store_in c.args.instance.now) (store_in c.invoke.new.self) c.args.name.now
    c.args.args.now c.args.fuel f c.in_ok-invoke.field-0 c.requires e (c.in_ok-invoke.ensures.ends f e)).ends
    c.outcome_of.result c.outcome_of.ensures

pub returns-clause-store : goal.returns-clause-store
returns-clause-store c =
    let f = c.requires.is_there in
    (word_ends c.args.instance.now.wasm (store_in c.args.instance.now) (store_in c.invoke.new.self) c.args.name.now
    c.args.args.now c.args.fuel f.index c.in_ok-invoke.field-0 c.requires f.is_exported
    (c.in_ok-invoke.ensures.ends f.index f.is_exported)).store c.outcome_of.result c.outcome_of.ensures
