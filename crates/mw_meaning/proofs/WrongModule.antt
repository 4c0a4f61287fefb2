-- Its init is lost without arguments, and standing for wants an answer.
use Rattle.std.proofs.Common.{◌≡◌, ℕ, [], Some, subst, pos}
use Rattle.mw_term.specs.Terms.{num, base, of_ground, int}
use Rattle.mw_term.specs.declared.term.Base.TheVariants.{Int}
use Rattle.mw_term.specs.Typing.{t_num}
use Rattle.mw_term.specs.Typable.{HasKernelType}
use Rattle.mw_wasm.specs.Instances.{invoked}
use Rattle.mw_wasm.specs.Invocations.{seven_of_two}
use Rattle.mw_wasm.proofs.Arguments.{two_parameters_want_two}
use Rattle.mw_meaning.specs.KernelMeaning.{gives, kernel_evaluation}
use Rattle.mw_meaning.specs.StandingFor.{AnswersAs}
use Rattle.mw_meaning.specs.WrongModule.{TwoParametersStandForNothing}

seven_typed : HasKernelType (num (pos 7)) (of_ground (base Int))
seven_typed = record { is_code = tt; closed = tt; typed = t_num }

same : {f : ℕ} → Some 0 ≡ Some f → f ≡ 0
same e = cc

pub two_parameters_stand_for_nothing : TwoParametersStandForNothing
unfolding kernel_evaluation
two_parameters_stand_for_nothing h =
    let means = h.means seven_typed in
    let answers : AnswersAs (gives (int (pos 7)) 0 0) (invoked seven_of_two h.store means.init [] 0) = means.run 0 in
    subst (λ e. AnswersAs (gives (int (pos 7)) 0 0) e) (two_parameters_want_two.with_none h.store 0)
    (subst (λ f. AnswersAs (gives (int (pos 7)) 0 0) (invoked seven_of_two h.store f [] 0)) (same means.is_init)
    answers)
