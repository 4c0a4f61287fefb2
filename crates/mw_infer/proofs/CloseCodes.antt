-- The codes of a term's closes: as many as closes, and none bigger than the term.
use Rattle.std.proofs.Common.{◌≡◌, ℕ, zero, suc, ◌+◌, ◌≤◌, List, [], ◌∷◌, ◌++◌, length, Some, refl}
use Rattle.std.proofs.Common.{ap, arith}
use Rattle.std.specs.Prelude.{slice_get}
use Rattle.std.specs.List.{AllByRecursion}
use Rattle.mw_term.specs.Terms.{Expression, fun, fix, app, bind, cond, pair, fst, snd, prim}
use Rattle.mw_term.specs.Terms.{bracket, escape, run, close, opened, lift, lift_b, size}
use Rattle.mw_term.specs.Types.{Level, live, under}
use Rattle.mw_infer.specs.CloseContents.{close_contents}
use Rattle.mw_infer.specs.Inferring.{item_closes}
use Rattle.mw_infer.specs.ItemEquations.{Slot, slot, closes}
use Rattle.mw_infer.specs.Judging.{CanJudge}
use Rattle.mw_infer.specs.Occurring.{CanCount}
use Rattle.mw_infer.specs.Schemes.{TopScheme}
use Rattle.mw_infer.proofs.Owned.{two, size-unknowns}

module _ (tops : List TopScheme) where
  codes-length : (o c : ℕ) (g : List Slot) (m : Level) (e : Expression)
      → length (closes tops o c g m e) ≡ length (close_contents e)
  codes-length o c g m (fun e) = codes-length (o + 2) c (slot m o ∷ g) m e
  codes-length o c g m (fix e) = codes-length (o + 3) c (slot m o ∷ slot m (o + 1) ∷ g) m e
  codes-length o c g m (app f a) = two _ _ _ _ (codes-length (o + 2) c g m f) (codes-length _ _ g m a)
  codes-length o c g m (bind d e) = two _ _ _ _ (codes-length (o + 3) c g m d) (codes-length _ _ (slot m o ∷ g) m e)
  codes-length o c g m (cond p a b) = two _ _ _ _
      (two _ _ _ _ (codes-length (o + 3) c g m p) (codes-length _ _ g m a)) (codes-length _ _ g m b)
  codes-length o c g m (pair a b) = two _ _ _ _ (codes-length (o + 2) c g m a) (codes-length _ _ g m b)
  codes-length o c g m (fst e) = codes-length (o + 2) c g m e
  codes-length o c g m (snd e) = codes-length (o + 2) c g m e
  codes-length o c g m (prim p a b) = two _ _ _ _ (codes-length (o + 2) c g m a) (codes-length _ _ g m b)
  codes-length o c g m (bracket e) = codes-length (o + 1) (c + 1) g (under c) e
  codes-length o c g m (escape e) = codes-length (o + 1) c g live e
  codes-length o c g m (run k e) = codes-length (o + 1) c g m e
  codes-length o c g m (close at e) = ap suc (codes-length (o + 2) (c + 1) g m e)
  codes-length o c g m (opened e) = codes-length (o + 2) (c + 1) g m e
  codes-length o c g m (lift e) = codes-length (o + 1) (c + 1) g m e
  codes-length o c g m (lift_b e) = codes-length (o + 1) (c + 1) g m e
  codes-length o c g m e = refl

  pub item-codes : (e : Expression) → length (item_closes tops e) ≡ length (close_contents e)
  item-codes e = codes-length 1 0 [] live e

  pub item-counts : (e : Expression) → CanJudge tops e → CanCount 0 e
  item-counts e j = let x = size-unknowns tops e in let y = j.unknowns in omega (arith, x, y)

-- each of these has at most so many nodes
abbrev AreFit : ℕ → List Expression → Type 0
AreFit n xs = AllByRecursion (λ x. size x ≤ n) xs

fit-append : (n : ℕ) (xs ys : List Expression) → AreFit n xs → AreFit n ys → AreFit n (xs ++ ys)
fit-append n [] ys p q = q
fit-append n (x ∷ xs) ys p q = (p.0, fit-append n xs ys p.1 q)

fit-at : (n k : ℕ) (xs : List Expression) (x : Expression) → AreFit n xs → slice_get xs k ≡ Some x → size x ≤ n
fit-at n k [] x p e = absurd (cc)
fit-at n zero (y ∷ xs) x p e = let q : y ≡ x = cc in rw q at p.0
fit-at n (suc k) (y ∷ xs) x p e = fit-at n k xs x p.1 e

codes-fit : (n : ℕ) (e : Expression) → size e ≤ n → AreFit n (close_contents e)
codes-fit n (fun e) h = codes-fit n e (omega arith)
codes-fit n (fix e) h = codes-fit n e (omega arith)
codes-fit n (app f a) h = fit-append n _ _ (codes-fit n f (omega arith)) (codes-fit n a (omega arith))
codes-fit n (bind d e) h = fit-append n _ _ (codes-fit n d (omega arith)) (codes-fit n e (omega arith))
codes-fit n (cond p a b) h = fit-append n _ _
    (fit-append n _ _ (codes-fit n p (omega arith)) (codes-fit n a (omega arith))) (codes-fit n b (omega arith))
codes-fit n (pair a b) h = fit-append n _ _ (codes-fit n a (omega arith)) (codes-fit n b (omega arith))
codes-fit n (fst e) h = codes-fit n e (omega arith)
codes-fit n (snd e) h = codes-fit n e (omega arith)
codes-fit n (prim p a b) h = fit-append n _ _ (codes-fit n a (omega arith)) (codes-fit n b (omega arith))
codes-fit n (bracket e) h = codes-fit n e (omega arith)
codes-fit n (escape e) h = codes-fit n e (omega arith)
codes-fit n (run k e) h = codes-fit n e (omega arith)
codes-fit n (close at e) h = (omega arith, codes-fit n e (omega arith))
codes-fit n (opened e) h = codes-fit n e (omega arith)
codes-fit n (lift e) h = codes-fit n e (omega arith)
codes-fit n (lift_b e) h = codes-fit n e (omega arith)
codes-fit n e h = tt

pub code-counts : (e x : Expression) (k : ℕ) → slice_get (close_contents e) k ≡ Some x → CanCount 0 e → CanCount 0 x
code-counts e x k q h = let s = fit-at (size e) k (close_contents e) x (codes-fit (size e) e (omega arith)) q in
    omega (arith, s, h)
