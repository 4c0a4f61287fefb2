use Rattle.mw_types.proofs.Answering.{room, principal_of}
use Rattle.mw_types.proofs.principal_type.Goals as goal

pub type_at-requires-clause-room : goal.type_at-requires-clause-room
type_at-requires-clause-room c names =
    let r = c.in-Ok.ensures.ready in room _ _ _ r.stated.long r.all r.small names c.args.unknown c.requires.inside

pub returns-in_ok-type_at-in-Ok-clause-principal : goal.returns-in_ok-type_at-in-Ok-clause-principal
returns-in_ok-type_at-in-Ok-clause-principal c = principal_of _ _ _ _ c.args.unknown _ c.requires.within
    c.in-Ok.ensures.ready c.requires.inside c.in_ok-type_at-in-Ok.ensures
