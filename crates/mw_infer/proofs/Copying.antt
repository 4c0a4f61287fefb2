-- Some of a part's equations, one after another.
use Rattle.std.proofs.Common.{◌≡◌, ℕ, zero, suc, ◌+◌, ◌<◌, Bool, true, false, cond, List, [], ◌∷◌, ◌++◌, take, length}
use Rattle.std.proofs.Common.{get_or, Option, Some, refl, ap, sym, ◌∙◌, arith}
use Rattle.std.specs.Prelude.{slice_get, slice_index_or, ◌-◌, Result, Ok, Err, IfOk}
use Rattle.std.proofs.Math.Seq.{take-length}
use Rattle.std.proofs.lemmas.List.{append-nil}
use Rattle.mw_types.specs.Types.{TypeExpression, Substitution, apply, Within, type_of}
use Rattle.mw_types.specs.Equations.{TypeEquation, AllWithin, MostGeneral, equation_of, equations_of}
use Rattle.mw_types.specs.declared.types.Equation.{Equation}
use Rattle.mw_types.proofs.Halving.{eqs_length}
use Rattle.mw_infer.specs.declared.failing.FailingPart.{FailingPart}
use Rattle.mw_infer.specs.Failing.{AreSides, is_among, without}
use Rattle.mw_infer.proofs.Emission.{equations_of-append}

pub get-at : {A : Type 0} (xs : List A) (i : ℕ) (d : A) → i < length xs
    → slice_get xs i ≡ Some (slice_index_or xs i d)
get-at [] i d lt = absurd (omega arith)
get-at (x ∷ xs) zero d lt = refl
get-at (x ∷ xs) (suc i) d lt = get-at xs i d (omega arith)

-- what stands at a place
pub some-at : {A : Type 0} (xs : List A) (i : ℕ) → i < length xs → (x : A) × (slice_get xs i ≡ Some x)
some-at [] i lt = absurd (omega arith)
some-at (x ∷ xs) zero lt = (x, refl)
some-at (x ∷ xs) (suc i) lt = some-at xs i (omega arith)

pub equation-at : (ps : List Equation) (i : ℕ) (x : Equation) → i < length ps → x ≡ get_or ps i x
    → slice_get (equations_of ps) i ≡ Some (equation_of x)
equation-at [] i x lt e = absurd (omega arith)
equation-at (p ∷ ps) zero x lt e = ap (λ z. Some (equation_of z)) (sym e)
equation-at (p ∷ ps) (suc i) x lt e = equation-at ps i x (omega arith) e

-- fronts
take-next : (es : List TypeEquation) (i : ℕ) (x : TypeEquation) → slice_get es i ≡ Some x
    → take (suc i) es ≡ take i es ++ (x ∷ [])
take-next [] i x e = absurd (cc)
take-next (y ∷ es) zero x e = let p : y ≡ x = cc in rw p refl
take-next (y ∷ es) (suc i) x e = ap (λ z. y ∷ z) (take-next es i x e)

pub front-more : (ps : List Equation) (i : ℕ) (x copy : Equation) (old new : List Equation) → i < length ps
    → x ≡ get_or ps i x → equation_of copy ≡ equation_of x → new ≡ old ++ (copy ∷ [])
    → equations_of old ≡ take i (equations_of ps) → equations_of new ≡ take (i + 1) (equations_of ps)
front-more ps i x copy old new lt e c n h =
    let s : i + 1 ≡ suc i = omega arith in
    ap equations_of n ∙ equations_of-append old (copy ∷ [])
    ∙ rw (s, h, c) (sym (take-next (equations_of ps) i (equation_of x) (equation-at ps i x lt e)))

-- the equations of none of some nodes
cond-append : {A : Type 0} (b : Bool) (x : A) (xs ys : List A) → cond b (xs ++ ys) (x ∷ (xs ++ ys))
    ≡ cond b xs (x ∷ xs) ++ ys
cond-append true x xs ys = refl
cond-append false x xs ys = refl

module _ (first end : ℕ) where
  without-next : (ns : List (Option ℕ)) (es : List TypeEquation) (i : ℕ) (n : Option ℕ) (x : TypeEquation)
      → slice_get ns i ≡ Some n → slice_get es i ≡ Some x → without first end (take (suc i) ns) (take (suc i) es)
      ≡ without first end (take i ns) (take i es) ++ cond (is_among first end n) [] (x ∷ [])
  without-next [] es i n x p q = absurd (cc)
  without-next (m ∷ ns) [] i n x p q = absurd (cc)
  without-next (m ∷ ns) (y ∷ es) zero n x p q = let e : m ≡ n = cc in let f : y ≡ x = cc in rw (e, f) refl
  without-next (m ∷ ns) (y ∷ es) (suc i) n x p q =
      rw (without-next ns es i n x p q)
      (cond-append (is_among first end m) y (without first end (take i ns) (take i es))
      (cond (is_among first end n) [] (x ∷ [])))

  -- one that is kept, and one that is left out
  pub rest-more : (ps : List Equation) (ns : List (Option ℕ)) (i : ℕ) (x copy : Equation) (n : Option ℕ)
      (old new : List Equation) → i < length ps → x ≡ get_or ps i x → slice_get ns i ≡ Some n
      → is_among first end n ≡ false → equation_of copy ≡ equation_of x → new ≡ old ++ (copy ∷ [])
      → equations_of old ≡ without first end (take i ns) (take i (equations_of ps))
      → equations_of new ≡ without first end (take (i + 1) ns) (take (i + 1) (equations_of ps))
  rest-more ps ns i x copy n old new lt e g out c m h =
      let s : i + 1 ≡ suc i = omega arith in
      let w = without-next ns (equations_of ps) i n (equation_of x) g (equation-at ps i x lt e) in
      ap equations_of m ∙ equations_of-append old (copy ∷ []) ∙ rw (s, h, c) (sym (rw out at w))

  pub rest-same : (ps : List Equation) (ns : List (Option ℕ)) (i : ℕ) (n : Option ℕ) (old : List Equation)
      → i < length ps → slice_get ns i ≡ Some n → is_among first end n ≡ true
      → equations_of old ≡ without first end (take i ns) (take i (equations_of ps))
      → equations_of old ≡ without first end (take (i + 1) ns) (take (i + 1) (equations_of ps))
  rest-same ps ns i n old lt g out h =
      let s : i + 1 ≡ suc i = omega arith in
      let x = some-at (equations_of ps) i (omega (arith, eqs_length ps)) in
      let w = without-next ns (equations_of ps) i n x.0 g x.1 in
      h ∙ rw s (sym (rw out at w ∙ append-nil _))

  pub rest-whole : (ns : List (Option ℕ)) (es : List TypeEquation) (i : ℕ) → i ≡ length ns → i ≡ length es
      → without first end (take i ns) (take i es) ≡ without first end ns es
  rest-whole ns es i p q =
      ap (λ k. without first end (take k ns) (take i es)) p ∙ rw (take-length ns)
      (ap (λ k. without first end ns (take k es)) q ∙ rw (take-length es) refl)

  -- they name their own numbers alone
  within-cond : (n m : ℕ) (b : Bool) (x : TypeEquation) (xs : List TypeEquation)
      → Within n m x.left × Within n m x.right → AllWithin n m xs → AllWithin n m (cond b xs (x ∷ xs))
  within-cond n m true x xs w h = h
  within-cond n m false x xs w h = (w, h)

  pub within-without : (n m : ℕ) (ns : List (Option ℕ)) (es : List TypeEquation) → AllWithin n m es
      → AllWithin n m (without first end ns es)
  within-without n m [] es h = h
  within-without n m (k ∷ ns) [] h = tt
  within-without n m (k ∷ ns) (x ∷ es) h = within-cond n m (is_among first end k) x (without first end ns es) h.0
      (within-without n m ns es h.1)

pub within-take : (n m k : ℕ) (es : List TypeEquation) → AllWithin n m es → AllWithin n m (take k es)
within-take n m zero es h = tt
within-take n m (suc k) [] h = tt
within-take n m (suc k) (x ∷ es) h = (h.0, within-take n m k es h.1)

pub within-at : (n m : ℕ) (es : List TypeEquation) (i : ℕ) (x : TypeEquation) → AllWithin n m es
    → slice_get es i ≡ Some x → Within n m x.left × Within n m x.right
within-at n m [] i x h e = absurd (cc)
within-at n m (y ∷ es) zero x h e = let p : y ≡ x = cc in rw (← p) h.0
within-at n m (y ∷ es) (suc i) x h e = within-at n m es i x h.1 e

pub equation-get : (ps : List Equation) (i : ℕ) (x : Equation) → slice_get ps i ≡ Some x
    → slice_get (equations_of ps) i ≡ Some (equation_of x)
equation-get [] i x e = absurd (cc)
equation-get (p ∷ ps) zero x e = let q : p ≡ x = cc in ap (λ z. Some (equation_of z)) q
equation-get (p ∷ ps) (suc i) x e = equation-get ps i x e

-- both sides of the equation at a place
pub sides-at : {A E : Type 0} (r : Result A E) (f g : A → TypeExpression) (x : FailingPart) (s : Substitution)
    (e : Equation)
    → MostGeneral x.equations.unknowns x.equations.classifiers (take (x.front - 1) (equations_of x.equations.pairs)) s
    → slice_get x.equations.pairs (x.front - 1) ≡ Some e → IfOk r (λ p. f p ≡ apply s (type_of e.left))
    → IfOk r (λ p. g p ≡ apply s (type_of e.right)) → IfOk r (λ p. AreSides x (f p) (g p))
sides-at (Ok p) f g x s e m h l r = (s, m, rw (equation-get x.equations.pairs (x.front - 1) e h) (l, r))
sides-at (Err z) f g x s e m h l r = tt
