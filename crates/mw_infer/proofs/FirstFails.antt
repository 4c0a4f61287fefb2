-- The first front of a part's equations that fails.
use Rattle.std.proofs.Common.{◌≡◌, inl, inr, ℕ, zero, suc, ◌-◌, ◌<◌, ◌≤◌, List, [], ◌∷◌, length, take, ap, sym}
use Rattle.std.proofs.Common.{◌∙◌, arith}
use Rattle.mw_term.specs.Terms.{Expression}
use Rattle.mw_term.specs.Parts.{Place}
use Rattle.mw_types.specs.Equations.{TypeEquation, equations_of, Solves, Fine}
use Rattle.mw_types.specs.Types.{Assignment}
use Rattle.mw_types.proofs.Smallest.{too_big_not_small}
use Rattle.mw_types.specs.declared.types.Equations.{Equations}
use Rattle.mw_infer.specs.declared.failing.FailingPart.{FailingPart}
use Rattle.mw_infer.specs.Failing.{FirstFails, FailsAt, IsWhole}
use Rattle.mw_infer.specs.Inferring.{item_unknowns, item_classifiers, item_equations, least}
use Rattle.mw_infer.specs.Judging.{CanJudge}
use Rattle.mw_infer.specs.Owners.{item_owners}
use Rattle.mw_infer.specs.Schemes.{TopScheme}
use Rattle.mw_infer.proofs.Items.{item-within}
use Rattle.mw_infer.proofs.Owned.{owners-length}

none-solved : (a : Assignment) (es : List TypeEquation) → Solves a (take 0 es)
none-solved a [] = tt
none-solved a (e ∷ es) = tt

-- the front of no equations is fine
fails-later : {n m : ℕ} (es : List TypeEquation) (k : ℕ) → FirstFails n m es k → 0 < k
fails-later es zero (inl h) = absurd (h.unsolvable (least, none-solved least es))
fails-later es zero (inr h) = absurd (too_big_not_small h.too_big
    (record { by = least; solves = none-solved least es; small = λ u lt. omega arith }))
fails-later es (suc k) h = omega arith

fails-within : {n m : ℕ} (es : List TypeEquation) (k : ℕ) → FirstFails n m es k → k ≤ length es
fails-within es k (inl h) = h.within
fails-within es k (inr h) = h.within

fails-shorter : {n m : ℕ} (es : List TypeEquation) (k : ℕ) → FirstFails n m es k → 0 < k → Fine n m (take (k - 1) es)
fails-shorter es k (inl h) lt = h.shorter (k - 1) (omega arith)
fails-shorter es k (inr h) lt = h.shorter (k - 1) (omega arith)

fails-at : (schemes : List TopScheme) (place : Place) (e : Expression) (x : FailingPart)
    → x.equations.unknowns ≡ item_unknowns schemes e → x.equations.classifiers ≡ item_classifiers schemes e
    → equations_of x.equations.pairs ≡ item_equations schemes place e → x.owners.items ≡ item_owners place e
    → FirstFails x.equations.unknowns x.equations.classifiers (equations_of x.equations.pairs) x.front
    → FailsAt schemes place e x
fails-at schemes place e x u c q o f =
    record { unknowns = u; classifiers = c; equations = q; owners = o; fails = f }

-- what fails of a part that can be judged is whole
fails-whole : (schemes : List TopScheme) (place : Place) (e : Expression) (x : FailingPart) → CanJudge schemes e
    → FailsAt schemes place e x → IsWhole x
fails-whole schemes place e x j f =
    let lt = fails-later _ x.front f.fails in
    record {
      owners = ap length f.owners ∙ owners-length schemes place e j ∙ sym (ap length f.equations);
      within = rw (f.unknowns, f.classifiers, f.equations) (item-within schemes place e j.own);
      front = lt;
      low = fails-within _ x.front f.fails;
      shorter = fails-shorter _ x.front f.fails lt;
    }

pub fails-of : (schemes : List TopScheme) (place : Place) (e : Expression) (es : Equations) (k : ℕ) (x : FailingPart)
    → CanJudge schemes e → es.unknowns ≡ item_unknowns schemes e → es.classifiers ≡ item_classifiers schemes e
    → equations_of es.pairs ≡ item_equations schemes place e
    → FirstFails es.unknowns es.classifiers (equations_of es.pairs) k → x.equations ≡ es
    → x.owners.items ≡ item_owners place e → x.front ≡ k → FailsAt schemes place e x × IsWhole x
fails-of schemes place e es k x j u c q h p o g =
    let f = fails-at schemes place e x (ap (λ z. z.unknowns) p ∙ u) (ap (λ z. z.classifiers) p ∙ c)
    (ap (λ z. equations_of z.pairs) p ∙ q) o (rw (p, g) h) in
    (f, fails-whole schemes place e x j f)
