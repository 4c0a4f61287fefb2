use Rattle.mw_types.proofs.Answering.{room, most_general, is_small, stays_within, answer_fine}
use Rattle.mw_types.proofs.Faults.{one_fault, fault_only, too_big_only, solved_only}
use Rattle.mw_types.proofs.solve.Goals as goal

pub answer-requires-clause-room : goal.answer-requires-clause-room
answer-requires-clause-room c = let r = c.in-Ok.ensures.ready in room _ _ _ r.stated.long r.all r.small

pub returns-in_ok-answer-in-Ok-clause-most_general : goal.returns-in_ok-answer-in-Ok-clause-most_general
returns-in_ok-answer-in-Ok-clause-most_general c = let x = c.in_ok-answer-in-Ok.ensures in
    most_general _ _ _ _ c.requires.within c.in-Ok.ensures.ready _ x.named _ x.each

pub returns-in_ok-answer-in-Ok-clause-small : goal.returns-in_ok-answer-in-Ok-clause-small
returns-in_ok-answer-in-Ok-clause-small c = let x = c.in_ok-answer-in-Ok.ensures in
    is_small _ _ _ _ c.requires.within c.in-Ok.ensures.ready _ x.named _ x.each

pub returns-in_ok-answer-in-Ok-clause-within : goal.returns-in_ok-answer-in-Ok-clause-within
returns-in_ok-answer-in-Ok-clause-within c = let x = c.in_ok-answer-in-Ok.ensures in
    stays_within _ _ _ _ c.requires.within c.in-Ok.ensures.ready _ x.named _ x.each

pub returns-in_ok-answer-in-Ok-clause-unsolvable : goal.returns-in_ok-answer-in-Ok-clause-unsolvable
returns-in_ok-answer-in-Ok-clause-unsolvable c k h = (one_fault _ _ _).fine_unsolvable k
    (answer_fine c.requires.within c.in-Ok.ensures.ready c.in_ok-answer-in-Ok.ensures) h

pub returns-in_ok-answer-in-Ok-clause-too_big : goal.returns-in_ok-answer-in-Ok-clause-too_big
returns-in_ok-answer-in-Ok-clause-too_big c k h = (one_fault _ _ _).fine_too_big k
    (answer_fine c.requires.within c.in-Ok.ensures.ready c.in_ok-answer-in-Ok.ensures) h

pub returns-in-Err-clause-fine : goal.returns-in-Err-clause-fine
returns-in-Err-clause-fine c h = solved_only _ _ _ c.in-Err.fault c.in-Err.ensures.fault h

pub returns-in-Err-clause-unsolvable : goal.returns-in-Err-clause-unsolvable
returns-in-Err-clause-unsolvable c k h = fault_only _ _ _ c.in-Err.fault k c.in-Err.ensures.fault h

pub returns-in-Err-clause-too_big : goal.returns-in-Err-clause-too_big
returns-in-Err-clause-too_big c k h = too_big_only _ _ _ c.in-Err.fault k c.in-Err.ensures.fault h
