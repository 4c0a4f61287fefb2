use Rattle.std.proofs.Common.{[], ◌≡◌, sym, ◌∙◌, arith}
use Rattle.std.proofs.lemmas.List.{nil_from_length}
use Rattle.mw_meaning.proofs.NewNames.{renamed-none}
use Rattle.mw_meaning.proofs.erasing.deeper.Goals as goal

pub returns-then-is_empty-clause-same : goal.returns-then-is_empty-clause-same
returns-then-is_empty-clause-same c =
    let none : c.args.names.now ≡ [] =
    nil_from_length c.args.names.now (grind (arith, c.is_empty.ensures, c.if-is_empty.true)) in
    λ x. renamed-none c.args.names.now none x c.args.depth ∙ sym (renamed-none c.args.names.now none x _)
