use Rattle.std.proofs.Common.{◌≡◌, arith}
use Rattle.std.proofs.lemmas.Grind.{common_steps}
use Rattle.mw_lex.specs.Pieces.{seen, front}
use Rattle.mw_lex.proofs.Fronts.{piece_within}
use Rattle.mw_lex.proofs.piece.front.Goals as goal

pub returns-in-35-clause-within : goal.returns-in-35-clause-within
returns-in-35-clause-within c =
    let e : seen c.comment.result ≡ front c.args.bytes.now = grind (arith, common_steps) in
    λ p. piece_within c.args.bytes.now c.comment.result p e

pub returns-in_default-clause-within : goal.returns-in_default-clause-within
returns-in_default-clause-within c =
    let e : seen c.a_mark.result ≡ front c.args.bytes.now = grind (arith, common_steps) in
    λ p. piece_within c.args.bytes.now c.a_mark.result p e
