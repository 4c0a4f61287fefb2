use Rattle.std.proofs.Common.{length, ◌-◌}
use Rattle.mw_lex.specs.Tokens.{tokens_of}
use Rattle.mw_lex.specs.Steps.{IsRead}
use Rattle.mw_lex.proofs.step.pieces.Given as goal

abbrev pub invariant-loop-at : goal.invariant-loop-at
invariant-loop-at l = IsRead l.bytes l.at (tokens_of l.tokens)

abbrev pub decreases-loop-at : goal.decreases-loop-at
decreases-loop-at l = length l.bytes - l.at
