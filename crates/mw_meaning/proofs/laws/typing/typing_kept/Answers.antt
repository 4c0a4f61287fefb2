use Rattle.mw_meaning.specs.StagedMeaning.{outside}
use Rattle.mw_meaning.specs.Replies.{answering, AreTypedReplies}
use Rattle.mw_meaning.specs.TypingLaws.{AnyState}
use Rattle.mw_meaning.proofs.EvaluationTyping.{kernels_keep, replies_keep, staged_runs_are_typed, never_stuck}
use Rattle.mw_meaning.proofs.EvaluationTyping.{code_never_stuck, values_are_typed, built_code_is_typed, code_is_typed}
use Rattle.mw_meaning.proofs.EvaluationTyping.{closed_code_is_closed, runs_are_typed, runs_of_code_are_typed}
use Rattle.mw_meaning.proofs.EvaluationTyping.{lets_have_their_values, kernels_never_stuck, kernels_give_their_code}
use Rattle.mw_meaning.proofs.EvaluationTyping.{main_never_stuck, main_gives_its_ground}
use Rattle.mw_meaning.proofs.laws.typing.typing_kept.Goals as goal

pub returns : goal.returns
returns c = record {
  never_stuck = λ mode. never_stuck (outside mode) AnyState (λ s. s) (kernels_keep mode);
  code_never_stuck = λ mode. code_never_stuck (outside mode) AnyState (λ s. s) (kernels_keep mode);
  values_are_typed = λ mode. values_are_typed (outside mode) AnyState (λ s. s) (kernels_keep mode);
  built_code_is_typed = λ mode. built_code_is_typed (outside mode) AnyState (λ s. s) (kernels_keep mode);
  code_is_typed = λ mode. code_is_typed (outside mode) AnyState (λ s. s) (kernels_keep mode);
  closed_code_is_closed = λ mode. closed_code_is_closed (outside mode) AnyState (λ s. s) (kernels_keep mode);
  runs_are_typed = λ mode. runs_are_typed (outside mode) AnyState (λ s. s) (kernels_keep mode);
  staged_runs_are_typed = staged_runs_are_typed;
  runs_of_code_are_typed = λ mode. runs_of_code_are_typed (outside mode) AnyState (λ s. s) (kernels_keep mode);
  lets_have_their_values = λ mode. lets_have_their_values (outside mode) AnyState (λ s. s) (kernels_keep mode);
  kernels_never_stuck = λ mode. kernels_never_stuck (outside mode) AnyState (λ s. s) (kernels_keep mode);
  kernels_give_their_code = λ mode. kernels_give_their_code (outside mode) AnyState (λ s. s) (kernels_keep mode);
  main_never_stuck = λ mode. main_never_stuck (outside mode) AnyState (λ s. s) (kernels_keep mode);
  main_gives_its_ground = λ mode. main_gives_its_ground (outside mode) AnyState (λ s. s) (kernels_keep mode);
  replied_never_stuck = never_stuck answering AreTypedReplies (λ s. s.begun) replies_keep;
  replied_code_never_stuck = code_never_stuck answering AreTypedReplies (λ s. s.begun) replies_keep;
  replied_values_are_typed = values_are_typed answering AreTypedReplies (λ s. s.begun) replies_keep;
  replied_built_code_is_typed = built_code_is_typed answering AreTypedReplies (λ s. s.begun) replies_keep;
  replied_code_is_typed = code_is_typed answering AreTypedReplies (λ s. s.begun) replies_keep;
  replied_closed_code_is_closed = closed_code_is_closed answering AreTypedReplies (λ s. s.begun) replies_keep;
  replied_runs_are_typed = runs_are_typed answering AreTypedReplies (λ s. s.begun) replies_keep;
  replied_runs_of_code_are_typed = runs_of_code_are_typed answering AreTypedReplies (λ s. s.begun) replies_keep;
  replied_lets_have_their_values = lets_have_their_values answering AreTypedReplies (λ s. s.begun) replies_keep;
  replied_kernels_never_stuck = kernels_never_stuck answering AreTypedReplies (λ s. s.begun) replies_keep;
  replied_kernels_give_their_code = kernels_give_their_code answering AreTypedReplies (λ s. s.begun) replies_keep;
  replied_main_never_stuck = main_never_stuck answering AreTypedReplies (λ s. s.begun) replies_keep;
  replied_main_gives_its_ground = main_gives_its_ground answering AreTypedReplies (λ s. s.begun) replies_keep;
}
