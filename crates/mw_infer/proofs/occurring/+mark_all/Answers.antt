use Rattle.std.proofs.Common.{◌∙◌, suc, ap, sym, inl, inr, arith}
use Rattle.mw_term.specs.Terms.{expression_of}
use Rattle.mw_infer.specs.CloseContents.{occurs_in}
use Rattle.mw_infer.specs.Occurring.{marked}
use Rattle.mw_infer.proofs.Marking.{marked-none, marked-in-one, marked-in-two, marked-both}
use Rattle.mw_infer.proofs.Owned.{size-positive}
use Rattle.mw_infer.proofs.occurring.+mark_all.Goals as goal

pub overflow_add-depth-in-Rec : goal.overflow_add-depth-in-Rec
overflow_add-depth-in-Rec t c =
    let h = rw c.in-Rec.is at c.requires in
    let x = size-positive (expression_of c.in-Rec.e.value) in
    search (arith, h, x)

pub returns-in-Int : goal.returns-in-Int
returns-in-Int t c =
    let none = sym (marked-none c.args.depth c.args.marks.now) in
    elim c.in-Int.is [
      | inl p ↦ let e = p.1 in rw e none
      | inr o ↦ elim o [
        | inl p ↦ let e = p.1 in rw e none
        | inr p ↦ let e = p.1 in rw e none
      ]
    ]

pub returns-in-Int-2 : goal.returns-in-Int-2
returns-in-Int-2 t c =
    let none = sym (marked-none c.args.depth c.args.marks.now) in
    elim c.in-Int.is [
      | inl p ↦ let e = p.1 in rw e none
      | inr o ↦ elim o [
        | inl p ↦ let e = p.1 in rw e none
        | inr p ↦ let e = p.1 in rw e none
      ]
    ]

pub returns-in-Int-3 : goal.returns-in-Int-3
returns-in-Int-3 t c =
    let none = sym (marked-none c.args.depth c.args.marks.now) in
    elim c.in-Int.is [
      | inl p ↦ let e = p.1 in rw e none
      | inr o ↦ elim o [
        | inl p ↦ let e = p.1 in rw e none
        | inr p ↦ let e = p.1 in rw e none
      ]
    ]

pub returns-in-Fun : goal.returns-in-Fun
returns-in-Fun t c = rw c.in-Fun.is
    ((rw c.deref.ensures at c.mark_all.ensures)
    ∙ marked-in-one (λ n. occurs_in n (expression_of c.in-Fun.e.value)) c.args.depth c.args.marks.now)

pub returns-in-Rec : goal.returns-in-Rec
returns-in-Rec t c = rw c.in-Rec.is
    ((rw c.deref-in-Rec.ensures at c.mark_all-in-Rec.ensures)
    ∙ marked-in-two (λ n. occurs_in n (expression_of c.in-Rec.e.value)) c.args.depth c.args.marks.now)

pub returns-in-Let : goal.returns-in-Let
returns-in-Let t c = rw c.in-Let.is
    ((rw c.deref-in-Let-2.ensures at c.mark_all-in-Let-2.ensures)
    ∙ marked-in-one (λ n. occurs_in n (expression_of c.in-Let.e.value)) c.args.depth _
    ∙ ap (λ ms. marked (λ n. occurs_in (suc n) (expression_of c.in-Let.e.value)) c.args.depth ms)
    (rw c.deref-in-Let.ensures at c.mark_all-in-Let.ensures)
    ∙ marked-both _ _ c.args.depth c.args.marks.now)

pub returns-in-If : goal.returns-in-If
returns-in-If t c = rw c.in-If.is
    ((rw c.deref-in-If-3.ensures at c.mark_all-in-If-3.ensures)
    ∙ ap (λ ms. marked (λ n. occurs_in n (expression_of c.in-If.b.value)) c.args.depth ms)
    ((rw c.deref-in-If-2.ensures at c.mark_all-in-If-2.ensures)
    ∙ ap (λ ms. marked (λ n. occurs_in n (expression_of c.in-If.a.value)) c.args.depth ms)
    (rw c.deref-in-If.ensures at c.mark_all-in-If.ensures))
    ∙ marked-both _ _ c.args.depth _
    ∙ marked-both _ _ c.args.depth c.args.marks.now)

pub returns-in-App : goal.returns-in-App
returns-in-App t c =
    let both = (rw c.deref-in-App-2.ensures at c.mark_all-in-App-2.ensures)
    ∙ ap (λ ms. marked (λ n. occurs_in n (expression_of c.in-App.b.value)) c.args.depth ms)
    (rw c.deref-in-App.ensures at c.mark_all-in-App.ensures)
    ∙ marked-both _ _ c.args.depth c.args.marks.now in
    elim c.in-App.is [
      | inl e ↦ rw e both
      | inr o ↦ elim o [
        | inl e ↦ rw e both
        | inr p ↦ let e = p.1 in rw e both
      ]
    ]
