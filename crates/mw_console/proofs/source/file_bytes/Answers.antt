use Rattle.std.proofs.Common.{rules, ◌≡◌, ◌∙◌, ap, ◌++◌, Some}
use Rattle.mw_outside.specs.Lookup.{file_of}
use Rattle.mw_console.proofs.ReadLemmas.{rest_behind}
use Rattle.mw_console.proofs.source.file_bytes.Goals as goal

pub returns-clause-rest : goal.returns-clause-rest
returns-clause-rest g c =
    λ tells.
    let source = g.S.Source in
    let left = source.left c.start.new.self in
    let after = source.left c.read_up_to.new.source in
    let found : file_of (source.told c.args.source.now) c.args.name.now ≡ Some left =
    search (rules, c.in_ok-start.ensures.found tells) in
    let read = c.in_ok-read_up_to.ensures in
    rw found (rest_behind c.args.most left after (read.moved tells ∙ ap (λ bytes. bytes ++ after) (read.ok tells)))
