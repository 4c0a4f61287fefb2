-- Kernel terms without their labels, and which variables a kernel term may use.
use Rattle.std.specs.Prelude.{ℕ, zero, suc, ◌<◌}
use Rattle.mw_term.specs.Terms.{Expression, Value, KernelTerm, KernelValue, num, truth, var, fun, fix, app, bind, cond}
use Rattle.mw_term.specs.Terms.{pair, fst, snd, prim, done, int, bool, both, function, recursive}

-- the same term, with the labels of its functions forgotten
abbrev mutual
  pub unlabelled : KernelTerm → Expression
  unlabelled (num n) = num n
  unlabelled (truth b) = truth b
  unlabelled (var i) = var i
  unlabelled (fun free e) = fun (unlabelled e)
  unlabelled (fix free e) = fix (unlabelled e)
  unlabelled (app f a) = app (unlabelled f) (unlabelled a)
  unlabelled (bind d e) = bind (unlabelled d) (unlabelled e)
  unlabelled (cond c a b) = cond (unlabelled c) (unlabelled a) (unlabelled b)
  unlabelled (pair a b) = pair (unlabelled a) (unlabelled b)
  unlabelled (fst e) = fst (unlabelled e)
  unlabelled (snd e) = snd (unlabelled e)
  unlabelled (prim p a b) = prim p (unlabelled a) (unlabelled b)
  unlabelled (done v) = done (unlabelled_value v)

  pub unlabelled_value : KernelValue → Value
  unlabelled_value (int n) = int n
  unlabelled_value (bool b) = bool b
  unlabelled_value (both v w) = both (unlabelled_value v) (unlabelled_value w)
  unlabelled_value (function e) = function (unlabelled e)
  unlabelled_value (recursive e) = recursive (unlabelled e)

-- every free variable of the kernel term is below k, and the values in it are closed, as a kernel puts only closed ones
abbrev mutual
  pub KernelClosedBelow : ℕ → KernelTerm → Type 0
  KernelClosedBelow k (num n) = Unit {0}
  KernelClosedBelow k (truth b) = Unit {0}
  KernelClosedBelow k (var i) = i < k
  KernelClosedBelow k (fun free e) = KernelClosedBelow (suc k) e
  KernelClosedBelow k (fix free e) = KernelClosedBelow (suc (suc k)) e
  KernelClosedBelow k (app f a) = KernelClosedBelow k f × KernelClosedBelow k a
  KernelClosedBelow k (bind d e) = KernelClosedBelow k d × KernelClosedBelow (suc k) e
  KernelClosedBelow k (cond c a b) = KernelClosedBelow k c × KernelClosedBelow k a × KernelClosedBelow k b
  KernelClosedBelow k (pair a b) = KernelClosedBelow k a × KernelClosedBelow k b
  KernelClosedBelow k (fst e) = KernelClosedBelow k e
  KernelClosedBelow k (snd e) = KernelClosedBelow k e
  KernelClosedBelow k (prim p a b) = KernelClosedBelow k a × KernelClosedBelow k b
  KernelClosedBelow k (done v) = IsClosedKernelValue v

  pub IsClosedKernelValue : KernelValue → Type 0
  IsClosedKernelValue (int n) = Unit {0}
  IsClosedKernelValue (bool b) = Unit {0}
  IsClosedKernelValue (both v w) = IsClosedKernelValue v × IsClosedKernelValue w
  IsClosedKernelValue (function e) = KernelClosedBelow (suc zero) e
  IsClosedKernelValue (recursive e) = KernelClosedBelow (suc (suc zero)) e
