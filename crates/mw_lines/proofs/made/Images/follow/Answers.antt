use Rattle.std.proofs.Common.{None, sym, ◌∙◌, arith}
use Rattle.std.proofs.lemmas.Result.{IfOk-weaker}
use Rattle.mw_lines.specs.TypeLines.{line_of}
use Rattle.mw_lines.proofs.ImageSearch.{read, parts_within, adds_image, refuses_image, refuses_past}
use Rattle.mw_lines.proofs.made.Images.follow.Goals as goal

pub returns-in_default-get-2-clause-refused : goal.returns-in_default-get-2-clause-refused
returns-in_default-get-2-clause-refused c t =
    refuses_past c.args.root.now c.args.here.now c.args.self.now c.args.place c.in-Some.image
    (line_of c.in-Some-get.line)
    (read c.args.self.now.places.items c.args.place c.index.result.now None c.requires.within c.index.ensures ∙
    c.in-Some.is)
    (sym c.in-Some-get.ensures) (sym c.in_default-get-2.ensures)

pub step-requires : goal.step-requires
step-requires c =
    parts_within c.args.root.now c.args.place _ (line_of c.in-Some-get.line) c.requires.held (sym c.in-Some-get.ensures)
    (let w = c.requires.within in omega arith)

pub returns-clause-added : goal.returns-clause-added
returns-clause-added c =
    IfOk-weaker c.step.result _ _ (λ yes h t.
    adds_image c.args.root.now c.args.here.now c.args.self.now c.step.new.self c.args.place c.in-Some.image
    (line_of c.in-Some-get.line) (line_of c.in-Some-get-2.other)
    (read c.args.self.now.places.items c.args.place c.index.result.now None c.requires.within c.index.ensures ∙
    c.in-Some.is)
    (sym c.in-Some-get.ensures) (sym c.in-Some-get-2.ensures)
    (h t c.args.place (parts_within c.args.root.now c.args.place c.args.place (line_of c.in-Some-get.line)
    c.requires.held
    (sym c.in-Some-get.ensures) (omega arith)))) c.step.ensures.added

pub returns-clause-refused : goal.returns-clause-refused
returns-clause-refused c =
    IfOk-weaker c.step.result _ _ (λ yes h t.
    refuses_image c.args.root.now c.args.here.now c.args.self.now c.args.place c.in-Some.image
    (line_of c.in-Some-get.line) (line_of c.in-Some-get-2.other)
    (read c.args.self.now.places.items c.args.place c.index.result.now None c.requires.within c.index.ensures ∙
    c.in-Some.is)
    (sym c.in-Some-get.ensures) (sym c.in-Some-get-2.ensures) (h t)) c.step.ensures.refused
