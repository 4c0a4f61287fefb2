-- What solves the equations of a term and keeps its closes fresh types it.
use Rattle.std.proofs.Common.{◌≡◌, ℕ, ◌+◌, List, [], ◌∷◌, ◌++◌, map, Option, Some, refl, ap, sym, ◌∙◌}
use Rattle.std.specs.Prelude.{slice_get}
use Rattle.mw_term.specs.Terms.{Expression, num, truth, var, glob, fun, fix, app, bind, cond, pair, fst, snd, prim}
use Rattle.mw_term.specs.Terms.{bracket, escape, run, close, opened, lift, lift_b}
use Rattle.mw_term.specs.Types.{int_type, bool_type, function_type, Level, live, under, value as at_live, kernel_type}
use Rattle.mw_term.specs.Typing.{TopLevel, Typed, t_num, t_truth, t_var, t_let, t_kernel, t_fun, t_fix, t_app, t_bind}
use Rattle.mw_term.specs.Typing.{t_cond, t_pair, t_fst, t_snd, t_prim, t_bracket, t_escape, t_run, t_close, t_open}
use Rattle.mw_term.specs.Typing.{t_lift, t_lift_b}
use Rattle.mw_term.proofs.TypesFormed.{IsPlain-kernel_type}
use Rattle.mw_types.specs.Types.{Assignment, value}
use Rattle.mw_types.specs.Equations.{TypeEquation, Solves}
use Rattle.mw_infer.specs.Schemes.{Scheme, TopScheme, let_scheme, kernel_scheme}
use Rattle.mw_infer.specs.ItemEquations.{Slot, plain_slot, quoted_slot, slot, wrong, unknowns_of, classifiers_of}
use Rattle.mw_infer.specs.ItemEquations.{variable_equations, name_equations, equations, Close, closes}
use Rattle.mw_infer.specs.Inferring.{AreFresh, IsSchemeOf, AreSchemesOf}
use Rattle.mw_term.specs.FlatTypes.{formed_type}
use Rattle.mw_term.proofs.FlatTypes.{IsPlain-flat_type, IsFormed-formed_type, flat_type-plain, formed_type-plain}
use Rattle.mw_term.proofs.FlatTypes.{fitted, fitted-pair, fitted-function, fitted-plain, fitted-primitive}
use Rattle.mw_types.proofs.Expressions.{level_of, Fits-fitted}
use Rattle.mw_infer.proofs.Formed.{fitted_entry, fitted_entry-slot, IsAbsent-fitted, get-fitted}
use Rattle.mw_infer.proofs.Shifting.{from, value-shifted, let-of_scheme, kernel-of_scheme}
use Rattle.mw_types.proofs.Expressions.{value-kernel_expression, value-primitive_expression}

pub Solves-parts : (a : Assignment) (es fs : List TypeEquation) → Solves a (es ++ fs) → Solves a es × Solves a fs
Solves-parts a [] fs h = (tt, h)
Solves-parts a (e ∷ es) fs h = let r = Solves-parts a es fs h.1 in ((h.0, r.0), r.1)

pub AreFresh-parts : (a : Assignment) (xs ys : List Close) → AreFresh a (xs ++ ys) → AreFresh a xs × AreFresh a ys
AreFresh-parts a [] ys h = (tt, h)
AreFresh-parts a (x ∷ xs) ys h = let r = AreFresh-parts a xs ys h.1 in ((h.0, r.0), r.1)

pub Solves-three : (a : Assignment) (es fs gs : List TypeEquation) → Solves a ((es ++ fs) ++ gs) → Solves a es
    × Solves a fs × Solves a gs
Solves-three a es fs gs h = let p = Solves-parts a (es ++ fs) gs h in let q = Solves-parts a es fs p.0 in
    (q.0, q.1, p.1)

AreFresh-three : (a : Assignment) (xs ys zs : List Close) → AreFresh a ((xs ++ ys) ++ zs) → AreFresh a xs
    × AreFresh a ys × AreFresh a zs
AreFresh-three a xs ys zs h = let p = AreFresh-parts a (xs ++ ys) zs h in let q = AreFresh-parts a xs ys p.0 in
    (q.0, q.1, p.1)

pub no_wrong : {X : Type 0} (a : Assignment) → Solves a wrong → X
no_wrong a h = absurd (let e = h.0 in cc)

-- each instance of a scheme, made a type of the language, is a type of the definition
pub IsSchemeOf-typed : (tops : List TopLevel) (e : Expression) (s : Scheme) → IsSchemeOf tops e s → (b : Assignment)
    → Typed tops [] live e (formed_type (value b s.type))
IsSchemeOf-typed tops e s h b = let d = h.formed b in
    rw d.1 at ((h.types (value d.0 s.type)).1 record {
      formed = rw d.1 (IsFormed-formed_type (value b s.type));
      by =
          d.0;
      gives = refl;
    })

module _ (tops : List TopLevel) (schemes : List TopScheme) (known : AreSchemesOf tops tops schemes) (a : Assignment)
  where
    typed_variable : (u : ℕ) (g : List Slot) (m : Level) (i : ℕ) (s : Option Slot) → slice_get g i ≡ s
        → Solves a (variable_equations u m s) → Typed tops (map (fitted_entry a) g) (level_of a m) (var i)
        (fitted m (a.ty u))
    typed_variable u g live i (Some (plain_slot x)) e h =
        t_var (get-fitted a g i _ e ∙ ap (λ t. Some (at_live (formed_type t))) (sym h.0))
    typed_variable u g (under c) i (Some (quoted_slot b x)) e h =
        let p : a.classifier b ≡ a.classifier c = let q = h.1.0 in cc in
        t_var (get-fitted a g i _ e ∙ (rw (p, h.0) refl))
    typed_variable u g m i s e h = no_wrong a h

    typed_name : (u o c : ℕ) (g : List Slot) (m : Level) (i : ℕ) (s : Option TopScheme) → slice_get schemes i ≡ s
        → Solves a (name_equations u o c m s) → Typed tops (map (fitted_entry a) g) (level_of a m) (glob i)
        (fitted m (a.ty u))
    typed_name u o c g live i (Some (let_scheme s)) e h =
        let q = let-of_scheme tops tops schemes i s known e in
        t_let q.1 (rw (h.0 ∙ value-shifted a o c s.type) (IsSchemeOf-typed tops q.0 s q.2 (from a o c)))
    typed_name u o c g live i (Some (kernel_scheme k)) e h =
        rw (h.0, value-kernel_expression a k, flat_type-plain (kernel_type k) (IsPlain-kernel_type k))
        (t_kernel (kernel-of_scheme tops tops schemes i k known e))
    typed_name u o c g m i s e h = no_wrong a h

    -- the types of a term's fresh solution, each made one of its level, type the term
    pub solved_typed : (u o c : ℕ) (g : List Slot) (m : Level) (e : Expression)
        → Solves a (equations schemes u o c g m e)
        → AreFresh a (closes schemes o c g m e) → Typed tops (map (fitted_entry a) g) (level_of a m) e
        (fitted m (a.ty u))
    solved_typed u o c g m (num n) h f = rw (h.0, fitted-plain m int_type tt) t_num
    solved_typed u o c g m (truth b) h f = rw (h.0, fitted-plain m bool_type tt) t_truth
    solved_typed u o c g m (var i) h f = typed_variable u g m i (slice_get g i) refl h
    solved_typed u o c g m (glob i) h f = typed_name u o c g m i (slice_get schemes i) refl h
    solved_typed u o c g m (fun e) h f = rw (h.0, fitted-function m (a.ty o) (a.ty (o + 1)))
        (t_fun (Fits-fitted a m (a.ty o))
        (rw (fitted_entry-slot a m o) at (solved_typed (o + 1) (o + 2) c (slot m o ∷ g) m e h.1 f)))
    solved_typed u o c g m (fix e) h f =
        let p : fitted m (a.ty (o + 1)) ≡ function_type (fitted m (a.ty o)) (fitted m (a.ty (o + 2))) =
        ap (λ t. fitted m t) h.0 ∙ fitted-function m (a.ty o) (a.ty (o + 2)) in
        rw (h.1.0, p) (t_fix {m = level_of a m} {s = fitted m (a.ty o)} {t = fitted m (a.ty (o + 2))}
        (rw p at (Fits-fitted a m (a.ty (o + 1))))
        (rw (fitted_entry-slot a m o, fitted_entry-slot a m (o + 1), p) at
        (solved_typed (o + 2) (o + 3) c (slot m o ∷ slot m (o + 1) ∷ g) m e h.1.1 f)))
    solved_typed u o c g m (app d b) h f =
        let p = Solves-parts a (equations schemes o (o + 2) c g m d)
        (equations schemes (o + 1) (o + 2 + unknowns_of schemes d) (c + classifiers_of schemes d) g m b) h.1 in
        let q = AreFresh-parts a (closes schemes (o + 2) c g m d)
        (closes schemes (o + 2 + unknowns_of schemes d) (c + classifiers_of schemes d) g m b) f in
        t_app (rw (h.0, fitted-function m (a.ty (o + 1)) (a.ty u)) at (solved_typed o (o + 2) c g m d p.0 q.0))
        (solved_typed (o + 1) (o + 2 + unknowns_of schemes d) (c + classifiers_of schemes d) g m b p.1 q.1)
    solved_typed u o c g m (bind d e) h f =
        let p = Solves-parts a (equations schemes (o + 1) (o + 3) c g m d)
        (equations schemes (o + 2) (o + 3 + unknowns_of schemes d) (c + classifiers_of schemes d) (slot m o ∷ g) m e)
        h.1.1 in
        let q = AreFresh-parts a (closes schemes (o + 3) c g m d)
        (closes schemes (o + 3 + unknowns_of schemes d) (c + classifiers_of schemes d) (slot m o ∷ g) m e) f in
        rw h.1.0 (t_bind (rw (← h.0) at (solved_typed (o + 1) (o + 3) c g m d p.0 q.0))
        (rw (fitted_entry-slot a m o) at
        (solved_typed (o + 2) (o + 3 + unknowns_of schemes d) (c + classifiers_of schemes d) (slot m o ∷ g) m e p.1
        q.1)))
    solved_typed u o c g m (cond p d b) h f =
        let r = Solves-three a (equations schemes o (o + 3) c g m p)
        (equations schemes (o + 1) (o + 3 + unknowns_of schemes p) (c + classifiers_of schemes p) g m d)
        (equations schemes (o + 2) (o + 3 + unknowns_of schemes p + unknowns_of schemes d)
        (c + classifiers_of schemes p + classifiers_of schemes d) g m b) h.1.1.1 in
        let q = AreFresh-three a (closes schemes (o + 3) c g m p)
        (closes schemes (o + 3 + unknowns_of schemes p) (c + classifiers_of schemes p) g m d)
        (closes schemes (o + 3 + unknowns_of schemes p + unknowns_of schemes d)
        (c + classifiers_of schemes p + classifiers_of schemes d) g m b) f in
        t_cond (rw (h.0, fitted-plain m bool_type tt) at (solved_typed o (o + 3) c g m p r.0 q.0))
        (rw h.1.0 at (solved_typed (o + 1) (o + 3 + unknowns_of schemes p) (c + classifiers_of schemes p) g m d r.1
        q.1))
        (rw h.1.1.0 at (solved_typed (o + 2) (o + 3 + unknowns_of schemes p + unknowns_of schemes d)
        (c + classifiers_of schemes p + classifiers_of schemes d) g m b r.2 q.2))
    solved_typed u o c g m (pair d b) h f =
        let p = Solves-parts a (equations schemes o (o + 2) c g m d)
        (equations schemes (o + 1) (o + 2 + unknowns_of schemes d) (c + classifiers_of schemes d) g m b) h.1 in
        let q = AreFresh-parts a (closes schemes (o + 2) c g m d)
        (closes schemes (o + 2 + unknowns_of schemes d) (c + classifiers_of schemes d) g m b) f in
        rw (h.0, fitted-pair m (a.ty o) (a.ty (o + 1)))
        (t_pair (solved_typed o (o + 2) c g m d p.0 q.0)
        (solved_typed (o + 1) (o + 2 + unknowns_of schemes d) (c + classifiers_of schemes d) g m b p.1 q.1))
    solved_typed u o c g m (fst e) h f =
        t_fst (rw (h.0, fitted-pair m (a.ty u) (a.ty o)) at (solved_typed (o + 1) (o + 2) c g m e h.1 f))
    solved_typed u o c g m (snd e) h f =
        t_snd (rw (h.0, fitted-pair m (a.ty o) (a.ty u)) at (solved_typed (o + 1) (o + 2) c g m e h.1 f))
    solved_typed u o c g m (prim p d b) h f =
        let r = Solves-parts a (equations schemes o (o + 2) c g m d)
        (equations schemes (o + 1) (o + 2 + unknowns_of schemes d) (c + classifiers_of schemes d) g m b) h.1.1.1 in
        let q = AreFresh-parts a (closes schemes (o + 2) c g m d)
        (closes schemes (o + 2 + unknowns_of schemes d) (c + classifiers_of schemes d) g m b) f in
        t_prim (ap (λ t. fitted m t) (h.1.1.0 ∙ value-primitive_expression a p) ∙ fitted-primitive m p)
        (rw (h.0, fitted-plain m int_type tt) at (solved_typed o (o + 2) c g m d r.0 q.0))
        (rw (h.1.0, fitted-plain m int_type tt) at
        (solved_typed (o + 1) (o + 2 + unknowns_of schemes d) (c + classifiers_of schemes d) g m b r.1 q.1))
    solved_typed u o c g live (bracket e) h f =
        rw h.0 (t_bracket (IsPlain-flat_type (a.ty o)) (solved_typed o (o + 1) (c + 1) g (under c) e h.1 f))
    solved_typed u o c g (under b) (escape e) h f = t_escape (IsPlain-flat_type (a.ty u))
        (rw h.0 at (solved_typed o (o + 1) c g live e h.1 f))
    solved_typed u o c g live (run k e) h f =
        let v = value-kernel_expression a k in
        t_run (ap (λ t. formed_type t) (h.1.0 ∙ v) ∙ formed_type-plain (kernel_type k) (IsPlain-kernel_type k))
        (rw (h.1.0, v, formed_type-plain (kernel_type k) (IsPlain-kernel_type k))
        (rw (h.0, v, flat_type-plain (kernel_type k) (IsPlain-kernel_type k)) at
        (solved_typed o (o + 1) c g live e h.1.1 f)))
    solved_typed u o c g live (close at e) h f =
        rw h.1.0 (t_close (IsPlain-flat_type (a.ty o)) (IsAbsent-fitted a (a.classifier c) g f.0)
        (rw h.0 at (solved_typed (o + 1) (o + 2) (c + 1) g live e h.1.1 f.1)))
    solved_typed u o c g live (opened e) h f =
        rw h.1.0 (t_open (IsPlain-flat_type (a.ty o))
        (rw h.0 at (solved_typed (o + 1) (o + 2) (c + 1) g live e h.1.1 f)))
    solved_typed u o c g live (lift e) h f =
        rw h.1.0 (t_lift (rw h.0 at (solved_typed o (o + 1) (c + 1) g live e h.1.1 f)))
    solved_typed u o c g live (lift_b e) h f =
        rw h.1.0 (t_lift_b (rw h.0 at (solved_typed o (o + 1) (c + 1) g live e h.1.1 f)))
    solved_typed u o c g m e h f = no_wrong a h
