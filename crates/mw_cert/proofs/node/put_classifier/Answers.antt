use Rattle.std.proofs.Common.{ℕ, [], ◌∷◌, Option, subst}
use Rattle.mw_cert.specs.Nodes.{type_of_tree, PutsEnd}
use Rattle.mw_cert.proofs.Lines.{puts_end}
use Rattle.mw_cert.proofs.node.put_classifier.Goals as goal

pub returns-in_ok-put_classifier-in-Some-clause-puts : goal.returns-in_ok-put_classifier-in-Some-clause-puts
returns-in_ok-put_classifier-in-Some-clause-puts c =
    let types = type_of_tree c.args.node.now.solution in
    let number = c.in_ok-put_classifier-in-Some.field-0 in
    subst (λ (o : Option ℕ). PutsEnd types o c.args.writer.now c.put_classifier.new.self (number ∷ []))
    c.in-Some.ensures
    (puts_end types c.in-Some.classifier c.args.writer.now c.put_classifier.new.self number
    (c.in_ok-put_classifier-in-Some.ensures types))
