use Rattle.std.proofs.Common.{rules, ◌≡◌, ◌+◌, ◌∙◌, length, replicate, false, refl, ap, arith}
use Rattle.mw_term.specs.Terms.{expression_of}
use Rattle.mw_conv.specs.Finding.{marked, marking}
use Rattle.mw_conv.proofs.Closures.{ok_map}
use Rattle.mw_conv.proofs.Finds.{nothing_found, app_found, prim_found, fst_found, snd_found, two_found, if_found}
use Rattle.mw_conv.proofs.Finds.{let_found, function_found}
use Rattle.mw_conv.proofs.find.Finder.+find.Goals as goal

pub find-returns-in-Int : goal.find-returns-in-Int
find-returns-in-Int t c = rw c.in-Int.is (nothing_found _ _ _ (λ i. refl) (λ d. refl) refl (search rules))

pub find-returns-in-Bool : goal.find-returns-in-Bool
find-returns-in-Bool t c = rw c.in-Bool.is (nothing_found _ _ _ (λ i. refl) (λ d. refl) refl tt)

pub find-returns-in-Glob : goal.find-returns-in-Glob
find-returns-in-Glob t c = rw c.in-Glob.is (nothing_found _ _ _ (λ i. refl) (λ d. refl) refl tt)

pub find-returns-in-Bracket : goal.find-returns-in-Bracket
find-returns-in-Bracket t c = rw c.in-Bracket.is (nothing_found _ _ _ (λ i. refl) (λ d. refl) refl tt)

pub find-returns-in-Escape : goal.find-returns-in-Escape
find-returns-in-Escape t c = rw c.in-Escape.is (nothing_found _ _ _ (λ i. refl) (λ d. refl) refl tt)

pub find-returns-in-Run : goal.find-returns-in-Run
find-returns-in-Run t c = rw c.in-Run.is (nothing_found _ _ _ (λ i. refl) (λ d. refl) refl tt)

pub find-returns-in-CloseCode : goal.find-returns-in-CloseCode
find-returns-in-CloseCode t c = rw c.in-CloseCode.is (nothing_found _ _ _ (λ i. refl) (λ d. refl) refl tt)

pub find-returns-in-OpenCode : goal.find-returns-in-OpenCode
find-returns-in-OpenCode t c = rw c.in-OpenCode.is (nothing_found _ _ _ (λ i. refl) (λ d. refl) refl tt)

pub find-returns-in-Lift : goal.find-returns-in-Lift
find-returns-in-Lift t c = rw c.in-Lift.is (nothing_found _ _ _ (λ i. refl) (λ d. refl) refl tt)

pub find-returns-in-LiftB : goal.find-returns-in-LiftB
find-returns-in-LiftB t c = rw c.in-LiftB.is (nothing_found _ _ _ (λ i. refl) (λ d. refl) refl tt)

pub find-returns-in-App : goal.find-returns-in-App
find-returns-in-App t c = rw (c.in-App.is, ← c.deref-in-App.ensures, ← c.deref-in-App-2.ensures)
    (ok_map _ _ _ (app_found _ _ _ _ _) c.find_two.ensures)

pub find-returns-in-Prim : goal.find-returns-in-Prim
find-returns-in-Prim t c = rw (c.in-Prim.is, ← c.deref-in-Prim.ensures, ← c.deref-in-Prim-2.ensures)
    (ok_map _ _ _ (prim_found _ _ _ _ _ _) c.find_two-in-Prim.ensures)

pub find-returns-in-Fst : goal.find-returns-in-Fst
find-returns-in-Fst t c = rw (c.in-Fst.is, ← c.deref-in-Fst.ensures)
    (ok_map _ _ _ (fst_found _ _ _ _) c.find-in-Fst.ensures)

pub find-returns-in-Snd : goal.find-returns-in-Snd
find-returns-in-Snd t c = rw (c.in-Snd.is, ← c.deref-in-Snd.ensures)
    (ok_map _ _ _ (snd_found _ _ _ _) c.find-in-Snd.ensures)

pub find-returns-in_ok-second-in-Let : goal.find-returns-in_ok-second-in-Let
find-returns-in_ok-second-in-Let t c =
    rw (c.in-Let.is, ← c.deref-in-Let.ensures, ← c.deref-in-Let-2.ensures)
    (let_found _ _ _ _ _ _ _ _ _ c.in_ok-first-in-Let.ensures c.in_ok-second-in-Let.ensures c.max.ensures)

pub find-returns-in_ok-rest-in-If : goal.find-returns-in_ok-rest-in-If
find-returns-in_ok-rest-in-If t c =
    rw (c.in-If.is, ← c.deref-in-If.ensures, ← c.deref-in-If-2.ensures, ← c.deref-in-If-3.ensures)
    (if_found _ _ _ _ _ _ _ _ _ _ c.in_ok-first-in-If.ensures c.in_ok-rest-in-If.ensures c.max-in-If.ensures)

pub find_two-returns : goal.find_two-returns
find_two-returns t c = two_found _ _ _ _ _ _ _ _ _ c.in_ok-first.ensures c.in_ok-second.ensures c.max.ensures

pub find_function-returns : goal.find_function-returns
find_function-returns t c =
    let e : c.len.result + c.args.under ≡ length c.args.self.now.marks.items + c.args.under = omega arith in
    let back = c.replace-inner.ensures.after ∙ c.replace-outer.ensures.value in
    function_found c.args.recursive (expression_of c.args.body.now) c.args.self.now c.find.new.self
    c.replace-outer.new.dest c.mark_all.new.marks c.push.new.self c.args.under c.in_ok-slots.slots c.in_ok-free.free
    (ap (λ bs. bs.items) c.replace-outer.ensures.after ∙ (c.in_ok-inner.ensures ∙ ap (λ n. replicate n false) e))
    (rw (← c.own_variables.ensures) c.in_ok-slots.ensures)
    (c.in_ok-free.ensures ∙ ap (λ bs. marked bs.items 0) c.replace-inner.ensures.value)
    (c.mark_all.ensures.marks ∙ (λ j. marking (back j).items (c.as_slice.ensures j)))
    (c.mark_all.ensures.length ∙ ap (λ bs. length bs.items) back) c.in_ok-push.ensures.items
