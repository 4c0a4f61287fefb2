-- Kernel terms with and without their labels, under substitution.
use Rattle.std.proofs.Common.{◌≡◌, ℕ, zero, suc, ◌≤◌, ◌<◌, refl, ap, ◌∙◌, sym, arith}
use Rattle.mw_term.specs.Terms.{Expression, Value, KernelTerm, KernelValue, num, truth, var, fun, fix, app, bind, cond}
use Rattle.mw_term.specs.Terms.{pair, fst, snd, prim, done, int, bool, both, function, recursive}
use Rattle.mw_term.specs.Substitution.{pick, shift, shift_value, substitute, substitute_value, instantiate}
use Rattle.mw_term.specs.Unlabelled.{unlabelled, unlabelled_value, KernelClosedBelow, IsClosedKernelValue}
use Rattle.mw_term.proofs.ClosedTerms.{raised-below, pick-below}

-- closed values are neither shifted nor changed by a substitution
mutual
  shift-unlabelled : (e : KernelTerm) (j k : ℕ) → j ≤ k → KernelClosedBelow j e → shift (unlabelled e) k ≡ unlabelled e
  shift-unlabelled (num n) j k le h = refl
  shift-unlabelled (truth b) j k le h = refl
  shift-unlabelled (var i) j k le h = ap var (raised-below k i (omega arith))
  shift-unlabelled (fun f e) j k le h = ap fun (shift-unlabelled e (suc j) (suc k) (omega arith) h)
  shift-unlabelled (fix f e) j k le h = ap fix (shift-unlabelled e (suc (suc j)) (suc (suc k)) (omega arith) h)
  shift-unlabelled (app f a) j k le h = rw (shift-unlabelled f j k le h.0, shift-unlabelled a j k le h.1) refl
  shift-unlabelled (bind d e) j k le h =
      rw (shift-unlabelled d j k le h.0, shift-unlabelled e (suc j) (suc k) (omega arith) h.1) refl
  shift-unlabelled (cond c a b) j k le h =
      rw (shift-unlabelled c j k le h.0, shift-unlabelled a j k le h.1, shift-unlabelled b j k le h.2) refl
  shift-unlabelled (pair a b) j k le h = rw (shift-unlabelled a j k le h.0, shift-unlabelled b j k le h.1) refl
  shift-unlabelled (fst e) j k le h = ap fst (shift-unlabelled e j k le h)
  shift-unlabelled (snd e) j k le h = ap snd (shift-unlabelled e j k le h)
  shift-unlabelled (prim p a b) j k le h = rw (shift-unlabelled a j k le h.0, shift-unlabelled b j k le h.1) refl
  shift-unlabelled (done v) j k le h = ap done (shift-unlabelled_value v k h)

  pub shift-unlabelled_value : (v : KernelValue) (k : ℕ) → IsClosedKernelValue v → shift_value (unlabelled_value v) k
      ≡ unlabelled_value v
  shift-unlabelled_value (int n) k h = refl
  shift-unlabelled_value (bool b) k h = refl
  shift-unlabelled_value (both v w) k h = rw (shift-unlabelled_value v k h.0, shift-unlabelled_value w k h.1) refl
  shift-unlabelled_value (function e) k h = ap function (shift-unlabelled e 1 (suc k) (omega arith) h)
  shift-unlabelled_value (recursive e) k h = ap recursive (shift-unlabelled e 2 (suc (suc k)) (omega arith) h)

mutual
  substitute-unlabelled : (e : KernelTerm) (j k : ℕ) (v : Value) → j ≤ k → KernelClosedBelow j e
      → substitute (unlabelled e) k v ≡ unlabelled e
  substitute-unlabelled (num n) j k v le h = refl
  substitute-unlabelled (truth b) j k v le h = refl
  substitute-unlabelled (var i) j k v le h = pick-below k i (done v) var (omega arith)
  substitute-unlabelled (fun f e) j k v le h = ap fun (substitute-unlabelled e (suc j) (suc k) _ (omega arith) h)
  substitute-unlabelled (fix f e) j k v le h =
      ap fix (substitute-unlabelled e (suc (suc j)) (suc (suc k)) _ (omega arith) h)
  substitute-unlabelled (app f a) j k v le h =
      rw (substitute-unlabelled f j k v le h.0, substitute-unlabelled a j k v le h.1) refl
  substitute-unlabelled (bind d e) j k v le h =
      rw (
        substitute-unlabelled d j k v le h.0,
        substitute-unlabelled e (suc j) (suc k) (shift_value v zero)
            (omega arith) h.1,
      ) refl
  substitute-unlabelled (cond c a b) j k v le h =
      rw (
        substitute-unlabelled c j k v le h.0,
        substitute-unlabelled a j k v le h.1,
        substitute-unlabelled b j k v le
            h.2,
      ) refl
  substitute-unlabelled (pair a b) j k v le h =
      rw (substitute-unlabelled a j k v le h.0, substitute-unlabelled b j k v le h.1) refl
  substitute-unlabelled (fst e) j k v le h = ap fst (substitute-unlabelled e j k v le h)
  substitute-unlabelled (snd e) j k v le h = ap snd (substitute-unlabelled e j k v le h)
  substitute-unlabelled (prim p a b) j k v le h =
      rw (substitute-unlabelled a j k v le h.0, substitute-unlabelled b j k v le h.1) refl
  substitute-unlabelled (done w) j k v le h = ap done (substitute-unlabelled_value w k v h)

  substitute-unlabelled_value : (w : KernelValue) (k : ℕ) (v : Value) → IsClosedKernelValue w
      → substitute_value (unlabelled_value w) k v ≡ unlabelled_value w
  substitute-unlabelled_value (int n) k v h = refl
  substitute-unlabelled_value (bool b) k v h = refl
  substitute-unlabelled_value (both u w) k v h =
      rw (substitute-unlabelled_value u k v h.0, substitute-unlabelled_value w k v h.1) refl
  substitute-unlabelled_value (function e) k v h = ap function (substitute-unlabelled e 1 (suc k) _ (omega arith) h)
  substitute-unlabelled_value (recursive e) k v h =
      ap recursive (substitute-unlabelled e 2 (suc (suc k)) _ (omega arith) h)

unlabelled-pick : (k i : ℕ) (v : KernelValue) (o : ℕ → KernelTerm) (p : ℕ → Expression)
    → ((j : ℕ) → unlabelled (o j) ≡ p j) → unlabelled (pick k i (done v) o) ≡ pick k i (done (unlabelled_value v)) p
unlabelled-pick zero zero v o p h = refl
unlabelled-pick zero (suc i) v o p h = h i
unlabelled-pick (suc k) zero v o p h = h zero
unlabelled-pick (suc k) (suc i) v o p h = unlabelled-pick k i v (λ j. o (suc j)) (λ j. p (suc j)) (λ j. h (suc j))

pick-holds : (P : KernelTerm → Type 0) (k m i : ℕ) (here : KernelTerm) (o : ℕ → KernelTerm) → k ≤ m → i < suc m → P here
    → ((j : ℕ) → j < m → P (o j)) → P (pick k i here o)
pick-holds P zero m zero here o le lt h g = h
pick-holds P zero m (suc i) here o le lt h g = g i (omega arith)
pick-holds P (suc k) m zero here o le lt h g = g zero (omega arith)
pick-holds P (suc k) zero (suc i) here o le lt h g = absurd (omega arith)
pick-holds P (suc k) (suc m) (suc i) here o le lt h g = pick-holds P k m i here (λ j. o (suc j)) (omega arith)
    (omega arith) h (λ j q. g (suc j) (omega arith))

pub KernelClosedBelow-instantiate : (e : KernelTerm) (k m : ℕ) (v : KernelValue) → k ≤ m → IsClosedKernelValue v
    → KernelClosedBelow (suc m) e → KernelClosedBelow m (instantiate e k v)
KernelClosedBelow-instantiate (num n) k m v le h s = tt
KernelClosedBelow-instantiate (truth b) k m v le h s = tt
KernelClosedBelow-instantiate (var i) k m v le h s = pick-holds (λ e. KernelClosedBelow m e) k m i (done v) var le s h
    (λ j q. q)
KernelClosedBelow-instantiate (fun f e) k m v le h s = KernelClosedBelow-instantiate e (suc k) (suc m) v (omega arith) h
    s
KernelClosedBelow-instantiate (fix f e) k m v le h s = KernelClosedBelow-instantiate e (suc (suc k)) (suc (suc m)) v
    (omega arith) h s
KernelClosedBelow-instantiate (app f a) k m v le h s =
    (KernelClosedBelow-instantiate f k m v le h s.0, KernelClosedBelow-instantiate a k m v le h s.1)
KernelClosedBelow-instantiate (bind d e) k m v le h s = (
  KernelClosedBelow-instantiate d k m v le h s.0,
  KernelClosedBelow-instantiate e (suc k) (suc m) v (omega arith) h
      s.1,
)
KernelClosedBelow-instantiate (cond c a b) k m v le h s = (
  KernelClosedBelow-instantiate c k m v le h s.0,
  KernelClosedBelow-instantiate a k m v le h s.1,
  KernelClosedBelow-instantiate b k m v le h s.2,
)
KernelClosedBelow-instantiate (pair a b) k m v le h s =
    (KernelClosedBelow-instantiate a k m v le h s.0, KernelClosedBelow-instantiate b k m v le h s.1)
KernelClosedBelow-instantiate (fst e) k m v le h s = KernelClosedBelow-instantiate e k m v le h s
KernelClosedBelow-instantiate (snd e) k m v le h s = KernelClosedBelow-instantiate e k m v le h s
KernelClosedBelow-instantiate (prim p a b) k m v le h s =
    (KernelClosedBelow-instantiate a k m v le h s.0, KernelClosedBelow-instantiate b k m v le h s.1)
KernelClosedBelow-instantiate (done w) k m v le h s = s

-- a closed value put for a variable, with and without labels
pub unlabelled-instantiate : (e : KernelTerm) (j k : ℕ) (v : KernelValue) → IsClosedKernelValue v
    → KernelClosedBelow j e → unlabelled (instantiate e k v) ≡ substitute (unlabelled e) k (unlabelled_value v)
unlabelled-instantiate (num n) j k v h s = refl
unlabelled-instantiate (truth b) j k v h s = refl
unlabelled-instantiate (var i) j k v h s = unlabelled-pick k i v var var (λ j. refl)
unlabelled-instantiate (fun f e) j k v h s =
    ap fun (unlabelled-instantiate e (suc j) (suc k) v h s ∙ ap (λ w. substitute (unlabelled e) (suc k) w)
    (sym (shift-unlabelled_value v zero h)))
unlabelled-instantiate (fix f e) j k v h s =
    ap fix (unlabelled-instantiate e (suc (suc j)) (suc (suc k)) v h s
    ∙ ap (λ w. substitute (unlabelled e) (suc (suc k)) w)
    (sym (ap (λ w. shift_value w zero) (shift-unlabelled_value v zero h) ∙ shift-unlabelled_value v zero h)))
unlabelled-instantiate (app f a) j k v h s =
    rw (unlabelled-instantiate f j k v h s.0, unlabelled-instantiate a j k v h s.1) refl
unlabelled-instantiate (bind d e) j k v h s =
    rw (
      unlabelled-instantiate d j k v h s.0,
      unlabelled-instantiate e (suc j) (suc k) v h s.1,
      shift-unlabelled_value v zero h,
    ) refl
unlabelled-instantiate (cond c a b) j k v h s =
    rw (
      unlabelled-instantiate c j k v h s.0,
      unlabelled-instantiate a j k v h s.1,
      unlabelled-instantiate b j k v h
          s.2,
    ) refl
unlabelled-instantiate (pair a b) j k v h s =
    rw (unlabelled-instantiate a j k v h s.0, unlabelled-instantiate b j k v h s.1) refl
unlabelled-instantiate (fst e) j k v h s = ap fst (unlabelled-instantiate e j k v h s)
unlabelled-instantiate (snd e) j k v h s = ap snd (unlabelled-instantiate e j k v h s)
unlabelled-instantiate (prim p a b) j k v h s =
    rw (unlabelled-instantiate a j k v h s.0, unlabelled-instantiate b j k v h s.1) refl
unlabelled-instantiate (done w) j k v h s = ap done (sym (substitute-unlabelled_value w k (unlabelled_value v) s))
