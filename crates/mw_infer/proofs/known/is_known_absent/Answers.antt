use Rattle.std.proofs.Common.{◌≡◌, Some, ap, length, refl, sym, ◌∙◌}
use Rattle.std.proofs.lemmas.Bool.{ltb-true}
use Rattle.std.proofs.lemmas.Option.{slice_get_read}
use Rattle.std.specs.Prelude.{slice_get}
use Rattle.mw_infer.proofs.Knowing.{known-lacks, not_false}
use Rattle.mw_infer.proofs.known.is_known_absent.Goals as goal

pub returns-in-Some-Some : goal.returns-in-Some-Some
returns-in-Some-Some c p =
    let g : slice_get c.args.known.now c.root.result ≡ Some (Some c.in-Some-Some.set) =
    slice_get_read c.args.known.now (length c.args.known.now) c.root.result c.in-Some-Some.field-0.now refl
    (ltb-true _ _ (sym c.in-Some-Some.ensures.lookup.0)) c.in-Some-Some.ensures.lookup.1
    ∙ ap (λ x. Some x) c.in-Some-Some.field-0-is in
    known-lacks c.args.solved.now c.args.known.now c.in-Some-Some.set c.args.unknown c.root.result c.args.classifier
    c.requires.known c.requires.inside c.root.ensures.root g
    (sym c.contains.ensures ∙ not_false c.contains.result p)
