use Rattle.mw_meaning.proofs.Plays.{stray_play}
use Rattle.mw_meaning.proofs.laws.standing.plays_end_stray.Goals as goal

pub returns : goal.returns
returns c = stray_play
