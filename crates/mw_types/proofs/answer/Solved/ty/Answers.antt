use Rattle.std.proofs.Common.{◌≡◌, length, ap, sym, subst, ◌∙◌, arith}
use Rattle.std.specs.Prelude.{slice_index_or, slice_get, Some}
use Rattle.mw_types.specs.declared.types.Ty.TheVariants.{Int}
use Rattle.std.proofs.lemmas.List.{length-map}
use Rattle.mw_types.proofs.Answering.{read_type}
use Rattle.mw_types.proofs.answer.Solved.ty.Goals as goal

pub index-requires : goal.index-requires
index-requires c =
    let e : length c.self.inside.roots.items ≡ length c.args.self.now.types =
    sym (length-map c.self.inside.roots.items (λ k. slice_index_or c.self.inside.trees.items k Int))
    ∙ ap (λ s. length s.types) c.self.view_is in
    omega (arith, e, c.requires, c.self.inside.roots.ok.0)

pub index-requires-2 : goal.index-requires-2
index-requires-2 c =
    let e : length c.self.inside.roots.items ≡ length c.args.self.now.types =
    sym (length-map c.self.inside.roots.items (λ k. slice_index_or c.self.inside.trees.items k Int))
    ∙ ap (λ s. length s.types) c.self.view_is in
    let p = c.self.invariant c.args.unknown c.index.result.now (omega (arith, e, c.requires)) in
    omega (arith, p, c.index.ensures, c.self.inside.trees.ok.0)

pub returns : goal.returns
returns c =
    let e : length c.self.inside.roots.items ≡ length c.args.self.now.types =
    sym (length-map c.self.inside.roots.items (λ k. slice_index_or c.self.inside.trees.items k Int))
    ∙ ap (λ s. length s.types) c.self.view_is in
    let p = c.self.invariant c.args.unknown c.index.result.now (omega (arith, e, c.requires)) in
    subst (λ s. slice_get s.types c.args.unknown ≡ Some c.index-2.result.now) c.self.view_is
    (read_type c.self.inside.roots.items c.self.inside.trees.items c.args.unknown c.index.result.now
    c.index-2.result.now (omega (arith, e, c.requires)) c.index.ensures (omega (arith, p, c.index.ensures))
    c.index-2.ensures)
