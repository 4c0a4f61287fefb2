use Rattle.std.proofs.Common.{IfErr, refl, ap, ◌∙◌, subst}
use Rattle.std.proofs.Math.Nat.{le_refl}
use Rattle.mw_machine.specs.KernelCalls.{IsNewlyBad}
use Rattle.mw_cached.specs.Following.{standing}
use Rattle.mw_cached.proofs.TellingLemmas.{follows_noted, noted_bad}
use Rattle.mw_cached.proofs.kernels.CachedKernelsKernels.run.Goals as goal

pub returns-clause-keeps : goal.returns-clause-keeps
returns-clause-keeps g c =
    let answered = c.answer-answer.new.self in
    let before = c.args.self.now in
    let functions = c.note.ensures.functions in (
      c.answer-answer.ensures.lent.0,
      c.answer-answer.ensures.lent.1,
      c.answer-answer.ensures.lent.2,
      follows_noted (standing before.state.now before.steps.now before.asked.now)
          (standing answered.state.now answered.steps.now answered.asked.now)
          (standing c.note.new.self answered.steps.now answered.asked.now) c.answer-answer.result
          c.answer-answer.ensures.follows
          c.answer-answer.ensures.unnoted (ap (λ f. f.functions.mode) functions ∙ c.stop_after.ensures.mode)
          (ap (λ f. f.cache) functions ∙ c.stop_after.ensures.cache) c.note.ensures.stored c.note.ensures.whole
          c.note.ensures.emitted refl refl
          c.answer-answer.ensures.stray c.note.ensures.noted,
    )

pub returns-clause-rises : goal.returns-clause-rises
returns-clause-rises g c =
    let spent = c.args.self.now.steps.now in c.answer-answer.ensures.follows.rises spent (le_refl spent)

pub returns-clause-faults : goal.returns-clause-faults
returns-clause-faults g c =
    let answered = c.answer-answer.new.self.state.now in
    let noted = c.note.new.self in
    subst (λ n. IfErr c.answer-answer.result (λ fault. IsNewlyBad fault n noted.bad noted.digest))
    c.answer-answer.ensures.unnoted.0
    (noted_bad c.answer-answer.result answered.bad noted.bad answered.digest noted.digest c.note.ensures.noted)
