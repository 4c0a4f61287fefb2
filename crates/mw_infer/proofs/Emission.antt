-- What is emitted one after another.
use Rattle.std.proofs.Common.{◌≡◌, ℕ, zero, suc, ◌+◌, List, [], ◌∷◌, ◌++◌, map, append_assoc, Some, refl, ap}
use Rattle.std.proofs.Common.{sym, subst, ◌∙◌, arith, Result, Ok, Err, OnOk}
use Rattle.std.specs.Prelude.{slice_get}
use Rattle.std.proofs.lemmas.List.{append-nil, map-append}
use Rattle.mw_types.specs.Equations.{TypeEquation, equation_of, equations_of}
use Rattle.mw_types.specs.declared.types.Equation.{Equation}
use Rattle.mw_infer.specs.declared.output.Emitted.{Emitted}
use Rattle.mw_infer.specs.declared.output.Output.{Output}
use Rattle.mw_term.specs.declared.term.Primitive.{Primitive}
use Rattle.mw_term.specs.Terms.{Expression, app, cond, pair, prim}
use Rattle.mw_term.specs.Types.{Level}
use Rattle.mw_infer.specs.ItemEquations.{Close, closes, Slot, equations, unknowns_of, classifiers_of}
use Rattle.mw_infer.specs.OwnParts.{AddsOwn}
use Rattle.mw_infer.specs.Schemes.{TopScheme, let_scheme, kernel_scheme, scheme_out_of_scope, AreOwn}
use Rattle.mw_infer.specs.Emitting.{close_of, meant, Adds, AddsTerm, AreLow}
use Rattle.mw_infer.specs.Sharing.{meaning}
use Rattle.mw_infer.specs.Views.{tops_of}

pub equations_of-append : (xs ys : List Equation) → equations_of (xs ++ ys) ≡ equations_of xs ++ equations_of ys
equations_of-append [] ys = refl
equations_of-append (x ∷ xs) ys = ap (λ z. equation_of x ∷ z) (equations_of-append xs ys)

-- one thing that was emitted
pub Adds-one : (old new : Output) (x : Emitted) → new.unknowns ≡ old.unknowns → new.classifiers ≡ old.classifiers
    → new.equations.items ≡ old.equations.items ++ (x ∷ []) → new.closes.items ≡ old.closes.items → new.names
    ≡ old.names → Adds old new 0 0 (meaning (tops_of old.names.now) x ∷ []) []
Adds-one old new x u c p q n = record {
  unknowns = omega (arith, u);
  classifiers = omega (arith, c);
  equations = rw (n, p) (map-append (meaning (tops_of old.names.now)) old.equations.items (x ∷ []));
  closes = rw q (sym (append-nil (map close_of old.closes.items)));
  names = n;
}

-- one thing after another
pub Adds-then : {a b d : Output} {n m k l : ℕ} {es fs : List TypeEquation} {xs ys : List Close} → Adds a b n m es xs
    → Adds b d k l fs ys → Adds a d (n + k) (m + l) (es ++ fs) (xs ++ ys)
Adds-then {a = a} {es = es} {fs = fs} {xs = xs} {ys = ys} p q = record {
  unknowns = omega (arith, p.unknowns, q.unknowns);
  classifiers = omega (arith, p.classifiers, q.classifiers);
  equations = q.equations ∙ rw p.equations (append_assoc (meant a) es fs);
  closes = q.closes ∙ rw p.closes (append_assoc (map close_of a.closes.items) xs ys);
  names = q.names ∙ p.names;
}

pub AreLow-at : (tops : List TopScheme) (i : ℕ) (x : TopScheme) → AreLow tops → Some x ≡ slice_get tops i
    → AreLow (x ∷ [])
AreLow-at [] i x h e = absurd (cc)
AreLow-at (let_scheme s ∷ tops) zero x h e = let p : let_scheme s ≡ x = cc in subst (λ y. AreLow (y ∷ [])) p (h.0, tt)
AreLow-at (kernel_scheme k ∷ tops) zero x h e = let p : kernel_scheme k ≡ x = cc in subst (λ y. AreLow (y ∷ [])) p tt
AreLow-at (scheme_out_of_scope ∷ tops) zero x h e = let p : scheme_out_of_scope ≡ x = cc in
    subst (λ y. AreLow (y ∷ [])) p tt
AreLow-at (let_scheme s ∷ tops) (suc i) x h e = AreLow-at tops i x h.1 e
AreLow-at (s ∷ tops) (suc i) x h e = AreLow-at tops i x h e

pub AreOwn-at : (tops : List TopScheme) (i : ℕ) (x : TopScheme) → AreOwn tops → Some x ≡ slice_get tops i
    → AreOwn (x ∷ [])
AreOwn-at [] i x h e = absurd (cc)
AreOwn-at (let_scheme s ∷ tops) zero x h e = let p : let_scheme s ≡ x = cc in subst (λ y. AreOwn (y ∷ [])) p (h.0, tt)
AreOwn-at (kernel_scheme k ∷ tops) zero x h e = let p : kernel_scheme k ≡ x = cc in subst (λ y. AreOwn (y ∷ [])) p tt
AreOwn-at (scheme_out_of_scope ∷ tops) zero x h e = let p : scheme_out_of_scope ≡ x = cc in
    subst (λ y. AreOwn (y ∷ [])) p tt
AreOwn-at (let_scheme s ∷ tops) (suc i) x h e = AreOwn-at tops i x h.1 e
AreOwn-at (s ∷ tops) (suc i) x h e = AreOwn-at tops i x h e

pub on-ok : {T E P Q : Type 0} (r : Result T E) → (P → Q) → OnOk r P → OnOk r Q
on-ok (Ok x) f h = f h
on-ok (Err e) f h = h

-- three things one after another
pub Adds-three : {a b d f : Output} {n m k l i j o p : ℕ} {es fs gs hs : List TypeEquation} {xs ys zs ws : List Close}
    → Adds a b n m es xs → Adds b d k l fs ys → Adds d f i j gs zs → o ≡ n + k + i → p ≡ m + l + j
    → hs ≡ es ++ (fs ++ gs) → ws ≡ xs ++ (ys ++ zs) → Adds a f o p hs ws
Adds-three {a = a} {es = es} {fs = fs} {gs = gs} {xs = xs} {ys = ys} {zs = zs} x y z s t u v = record {
  unknowns = omega (arith, x.unknowns, y.unknowns, z.unknowns, s);
  classifiers = omega (arith, x.classifiers, y.classifiers, z.classifiers, t);
  equations = z.equations ∙ rw (y.equations, x.equations, u)
      (append_assoc (meant a ++ es) fs gs ∙ append_assoc (meant a) es (fs ++ gs));
  closes = z.closes ∙ rw (y.closes, x.closes, v)
      (append_assoc (map close_of a.closes.items ++ xs) ys zs ∙ append_assoc (map close_of a.closes.items) xs
      (ys ++ zs));
  names = z.names ∙ y.names ∙ x.names;
}

-- two parts after what a node adds of its own
Adds-two : {old p q new : Output} {es : List TypeEquation} (tops : List TopScheme) (g : List Slot) (m : Level)
    (f a : Expression) → Adds old p 2 0 es [] → AddsTerm p q tops old.unknowns g m f
    → AddsTerm q new tops (old.unknowns + 1) g m a
    → Adds old new (2 + unknowns_of tops f + unknowns_of tops a) (classifiers_of tops f + classifiers_of tops a)
    (es ++ (equations tops old.unknowns (old.unknowns + 2) old.classifiers g m f
    ++ equations tops (old.unknowns + 1) (old.unknowns + 2 + unknowns_of tops f)
    (old.classifiers + classifiers_of tops f) g m a))
    (closes tops (old.unknowns + 2) old.classifiers g m f
    ++ closes tops (old.unknowns + 2 + unknowns_of tops f) (old.classifiers + classifiers_of tops f) g m a)
Adds-two {old = old} {p = p} {q = q} tops g m f a x y z =
    let b : p.unknowns ≡ old.unknowns + 2 = x.unknowns in
    let k : p.classifiers ≡ old.classifiers + 0 = x.classifiers in
    let c : p.classifiers ≡ old.classifiers = omega (arith, k) in
    let d : q.unknowns ≡ old.unknowns + 2 + unknowns_of tops f = omega (arith, b, y.unknowns) in
    let e : q.classifiers ≡ old.classifiers + classifiers_of tops f = omega (arith, c, y.classifiers) in
    Adds-three x y z (omega arith) (omega arith) (rw (b, c, d, e) refl) (rw (b, c, d, e) refl)

-- nodes with two parts
pub Adds-app : {old p q new : Output} (tops : List TopScheme) (u : ℕ) (g : List Slot) (m : Level) (f a : Expression)
    → AddsOwn old p tops u g m (app f a) → AddsTerm p q tops old.unknowns g m f
    → AddsTerm q new tops (old.unknowns + 1) g m a → AddsTerm old new tops u g m (app f a)
Adds-app tops u g m f a x y z = Adds-two tops g m f a x y z

pub Adds-pair : {old p q new : Output} (tops : List TopScheme) (u : ℕ) (g : List Slot) (m : Level) (f a : Expression)
    → AddsOwn old p tops u g m (pair f a) → AddsTerm p q tops old.unknowns g m f
    → AddsTerm q new tops (old.unknowns + 1) g m a → AddsTerm old new tops u g m (pair f a)
Adds-pair tops u g m f a x y z = Adds-two tops g m f a x y z

pub Adds-prim : {old p q new : Output} (tops : List TopScheme) (u : ℕ) (g : List Slot) (m : Level) (r : Primitive)
    (f a : Expression)
    → AddsOwn old p tops u g m (prim r f a) → AddsTerm p q tops old.unknowns g m f
    → AddsTerm q new tops (old.unknowns + 1) g m a → AddsTerm old new tops u g m (prim r f a)
Adds-prim tops u g m r f a x y z = Adds-two tops g m f a x y z

-- a node with three parts
pub Adds-cond : {old o p q new : Output} (tops : List TopScheme) (u : ℕ) (g : List Slot) (m : Level)
    (r f a : Expression) → AddsOwn old o tops u g m (cond r f a) → AddsTerm o p tops old.unknowns g m r
    → AddsTerm p q tops (old.unknowns + 1) g m f → AddsTerm q new tops (old.unknowns + 2) g m a
    → AddsTerm old new tops u g m (cond r f a)
Adds-cond {old = old} {o = o} {p = p} {q = q} tops u g m r f a w x y z =
    let b : o.unknowns ≡ old.unknowns + 3 = w.unknowns in
    let k : o.classifiers ≡ old.classifiers + 0 = w.classifiers in
    let c : o.classifiers ≡ old.classifiers = omega (arith, k) in
    let d : p.unknowns ≡ old.unknowns + 3 + unknowns_of tops r = omega (arith, b, x.unknowns) in
    let e : p.classifiers ≡ old.classifiers + classifiers_of tops r = omega (arith, c, x.classifiers) in
    let h : q.unknowns ≡ old.unknowns + 3 + unknowns_of tops r + unknowns_of tops f = omega (arith, d, y.unknowns) in
    let i : q.classifiers ≡ old.classifiers + classifiers_of tops r + classifiers_of tops f =
    omega (arith, e, y.classifiers) in
    Adds-three w (Adds-then x y) z (omega arith) (omega arith) (rw (b, c, d, e, h, i) refl)
    (rw (b, c, d, e, h, i) refl)
