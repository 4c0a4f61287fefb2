use Rattle.mw_term.specs.Terms.{ground_value_of}
use Rattle.mw_kernel.specs.KernelAnswers.{call_end}
use Rattle.mw_kernel.proofs.AnswerLemmas.{call_type_of}
use Rattle.mw_kernel.proofs.MeaningLemmas.{call_meant, kept_on}
use Rattle.mw_kernel.proofs.RunningLemmas.{call_leaves}
use Rattle.mw_kernel.proofs.StrayLemmas.{bad_call_is_stray, plays_on_after}
use Rattle.mw_kernel.proofs.running.Running.call.Goals as goal

pub returns-clause-left : goal.returns-clause-left
returns-clause-left c = call_leaves c.invoke.result c.args.self.now (ground_value_of c.args.argument.now) c.args.fuel
    c.invoke.ensures.runnable c.invoke.ensures.answers

pub returns-clause-means : goal.returns-clause-means
returns-clause-means c = call_meant c.invoke.result c.args.self.now (ground_value_of c.args.argument.now) c.args.fuel
    c.invoke.ensures.runnable c.requires.argument c.invoke.ensures.fits c.invoke.ensures.answers

pub returns-clause-keeps : goal.returns-clause-keeps
returns-clause-keeps c = kept_on c.invoke.result c.args.self.now c.invoke.new.self (ground_value_of c.args.argument.now)
    c.args.fuel c.requires.argument c.invoke.ensures.fits c.invoke.ensures.answers c.invoke.ensures.store
    c.invoke.ensures.same

pub returns-clause-types : goal.returns-clause-types
returns-clause-types c =
    let exported = c.invoke.ensures.runnable.call in
    call_type_of c.invoke.result c.args.self.now.result
    (call_end c.args.self.now exported.index (ground_value_of c.args.argument.now) c.args.fuel)
    (c.invoke.ensures.answers exported.index exported.is_exported)

pub returns-clause-stray : goal.returns-clause-stray
returns-clause-stray c = bad_call_is_stray c.invoke.result c.args.self.now (ground_value_of c.args.argument.now)
    c.args.fuel c.invoke.ensures.runnable c.requires.argument c.invoke.ensures.fits c.invoke.ensures.answers

pub returns-clause-plays : goal.returns-clause-plays
returns-clause-plays c = plays_on_after c.invoke.result c.args.self.now c.invoke.new.self
    (ground_value_of c.args.argument.now) c.args.fuel c.invoke.ensures.runnable c.requires.argument
    c.invoke.ensures.fits c.invoke.ensures.answers c.invoke.ensures.store c.invoke.ensures.same
