use Rattle.std.proofs.Common.{List, refl}
use Rattle.std.specs.Prelude.{pos}
use Rattle.std.specs.Int.{int_wrap}
use Rattle.std.proofs.lemmas.List.Elements.{All-from_recursion}
use Rattle.mw_term.specs.Terms.{num, int, function, kept}
use Rattle.mw_term.specs.Typing.{TopLevel, t_num, v_int, v_function, v_kept}
use Rattle.mw_meaning.specs.Examples.{int_kernel, int_to_int}
use Rattle.mw_meaning.specs.StagedMeaning.{evaluation}
use Rattle.mw_meaning.specs.Replies.{replies, IsTypedReply, AreTypedReplies}
use Rattle.mw_meaning.specs.TypingExamples.{other_replies}
use Rattle.mw_meaning.proofs.laws.typing_examples.replies_are_taken.Goals as goal

typed : (tops : List TopLevel) → AreTypedReplies tops other_replies
typed tops =
    let first : IsTypedReply tops (replies (kept int_to_int (function (num (pos 0))) 1) 9) =
    (int_to_int, v_kept refl tt (v_function tt t_num)) in
    let second : IsTypedReply tops (replies (int (pos 3)) 9) = (int_kernel, v_int) in
    let third : IsTypedReply tops (replies (int (pos 4)) 9) = (int_kernel, v_int) in
    All-from_recursion (IsTypedReply tops) other_replies.to_come (first, (second, (third, tt)))

pub returns : goal.returns
unfolding evaluation int_wrap
returns c = record { in_order = refl; typed = typed; of_another_type = refl }
