-- Equations in which the type of a name stands once have the solutions of those in which it stands at each use.
use Rattle.std.proofs.Common.{◌≡◌, ◌↔◌, ◌⊎◌, inl, inr, ℕ, zero, suc, ◌<◌, List, [], ◌∷◌, ◌++◌, map, length}
use Rattle.std.proofs.Common.{take, Some, refl, ap, sym, ◌∙◌, subst, arith}
use Rattle.std.specs.Prelude.{slice_get}
use Rattle.std.proofs.lemmas.Bool.{cases_lt}
use Rattle.std.proofs.lemmas.List.{length-append, map-append, take-append-le, take_all}
use Rattle.mw_types.specs.Types.{TypeExpression, int_ty, bool_ty, unknown, pair_ty, function_ty, code_ty, closed_ty}
use Rattle.mw_types.specs.Types.{Within, Assignment, Substitution, value}
use Rattle.mw_types.specs.Equations.{TypeEquation, AllWithin, Solves, MostGeneral, Fine, FirstUnsolvable}
use Rattle.mw_types.specs.Equations.{FirstTooBig, equation_of, equations_of}
use Rattle.mw_types.specs.declared.types.Equation.{Equation}
use Rattle.mw_infer.specs.declared.output.Emitted.{Emitted}
use Rattle.mw_infer.specs.declared.output.Emitted.TheVariants.{NameUse}
use Rattle.mw_infer.specs.declared.sharing.FirstUse.{FirstUse}
use Rattle.mw_infer.specs.ItemEquations.{equation, name_equations, unknowns_of_name, classifiers_of_name}
use Rattle.mw_infer.specs.declared.output.Output.{Output}
use Rattle.mw_infer.specs.Emitting.{Adds, AddsName}
use Rattle.mw_infer.specs.Views.{tops_of}
use Rattle.mw_infer.specs.Schemes.{TopScheme, let_scheme, kernel_scheme, scheme_out_of_scope, AreOwn, shifted}
use Rattle.mw_infer.specs.Schemes.{type_of_scheme}
use Rattle.mw_term.specs.Types.{live}
use Rattle.mw_infer.specs.Sharing.{Alike, AreUses, IsWhole, SharesUse, meaning, type_at, use_equation}
use Rattle.mw_infer.proofs.Emission.{equations_of-append}
use Rattle.mw_infer.proofs.Extending.{Solves-append}
use Rattle.mw_infer.proofs.Sound.{Solves-parts}
use Rattle.mw_infer.proofs.Within.{AllWithin-append}

within-parts : (n m : ℕ) (es fs : List TypeEquation) → AllWithin n m (es ++ fs) → AllWithin n m es × AllWithin n m fs
within-parts n m [] fs h = (tt, h)
within-parts n m (e ∷ es) fs h = let r = within-parts n m es fs h.1 in ((h.0, r.0), r.1)

-- of all equations
pub alike-all : (long short : List TypeEquation) → Alike long short → (a : Assignment) → Solves a long ↔ Solves a short
alike-all long short h a =
    rw (take_all (length long) long (omega arith), take_all (length long) short (omega (arith, h.count))) at
    (h.solved (length long) a)

-- an equation more on each side, which say the same of what solves the others
pub alike-more : (long short : List TypeEquation) (e f : TypeEquation) → Alike long short
    → ((a : Assignment) → Solves a long → (value a e.left ≡ value a e.right) ↔ (value a f.left ≡ value a f.right))
    → ((n m : ℕ) → AllWithin n m (long ++ (e ∷ [])) → Within n m f.left × Within n m f.right)
    → Alike (long ++ (e ∷ [])) (short ++ (f ∷ []))
alike-more long short e f h p w = record {
  count = omega (arith, h.count, length-append long (e ∷ []), length-append short (f ∷ []));
  solved = λ k a. elim (cases_lt (length long) k) [
    | inl lt ↦ rw (
      take_all k (long ++ (e ∷ [])) (omega (arith, length-append long (e ∷ []), lt)),
      take_all k (short ++ (f ∷ [])) (omega (arith, length-append short (f ∷ []), h.count, lt)),
    ) (
      (λ s. let r = Solves-parts a long (e ∷ []) s in
          Solves-append a short (f ∷ []) ((alike-all long short h a).0 r.0) ((p a r.0).0 r.1.0, tt)),
      (λ s. let r = Solves-parts a short (f ∷ []) s in let l = (alike-all long short h a).1 r.0 in
          Solves-append a long (e ∷ []) l ((p a l).1 r.1.0, tt)),
    )
    | inr le ↦ rw (
      take-append-le k long (e ∷ []) le,
      take-append-le k short (f ∷ []) (omega (arith, h.count, le)),
    ) (h.solved k a)
  ];
  within = λ n m q. AllWithin-append n m short (f ∷ []) (h.within n m (within-parts n m long (e ∷ []) q).0)
      (w n m q, tt);
}

-- the same equation on each side
pub alike-same : (long short : List TypeEquation) (e : TypeEquation) → Alike long short
    → Alike (long ++ (e ∷ [])) (short ++ (e ∷ []))
alike-same long short e h = alike-more long short e e h (λ a s. ((λ q. q), (λ q. q)))
    (λ n m q. (within-parts n m long (e ∷ []) q).1.0)

-- more equations say no less
pub uses-kept : (tops : List TopScheme) (es fs : List TypeEquation) (firsts : List FirstUse) → AreUses tops es firsts
    → AreUses tops (es ++ fs) firsts
uses-kept tops es fs firsts h = record {
  says = λ i f a g s. h.says i f a g (Solves-parts a es fs s).0;
  within = λ i f n m g w. h.within i f n m g (within-parts n m es fs w).0;
}

get-last : {A : Type 0} (xs : List A) (x y : A) (i : ℕ) → slice_get (xs ++ (x ∷ [])) i ≡ Some y
    → (slice_get xs i ≡ Some y) ⊎ (x ≡ y)
get-last [] x y zero e = inr (cc)
get-last [] x y (suc i) e = absurd (cc)
get-last (z ∷ xs) x y zero e = inl e
get-last (z ∷ xs) x y (suc i) e = get-last xs x y i e

-- the equation of a first use says what its unknown is
pub uses-more : (tops : List TopScheme) (es : List TypeEquation) (firsts : List FirstUse) (f : FirstUse)
    → AreUses tops es firsts → AreUses tops (es ++ (use_equation tops f.own f.name ∷ [])) (firsts ++ (f ∷ []))
uses-more tops es firsts f h = record {
  says = λ i g a q s.
      let r = Solves-parts a es (use_equation tops f.own f.name ∷ []) s in
      elim (get-last firsts f g i q) [
        | inl p ↦ h.says i g a p r.0
        | inr p ↦ subst (λ x. a.ty x.own ≡ value a (type_at (slice_get tops x.name))) p r.1.0
      ];
  within = λ i g n m q w.
      let r = within-parts n m es (use_equation tops f.own f.name ∷ []) w in
      elim (get-last firsts f g i q) [
        | inl p ↦ h.within i g n m p r.0
        | inr p ↦ subst (λ x. x.own < n) p r.1.0.0
      ];
}

-- a use of a name more
pub shared-more : (tops : List TopScheme) (long short : List TypeEquation) (old new : List FirstUse) (own name : ℕ)
    (e : Equation) → Alike long short → AreUses tops long old → SharesUse tops old new own name e
    → Alike (long ++ (use_equation tops own name ∷ [])) (short ++ (equation_of e ∷ []))
    × AreUses tops (long ++ (use_equation tops own name ∷ [])) new
shared-more tops long short old new own name e h u (inl p) =
    rw (p.0, p.1) (
      alike-same long short (use_equation tops own name) h,
      uses-more tops long old (record { name = name; own = own })
          u,
    )
shared-more tops long short old new own name e h u (inr p) =
    let first : ℕ = p.0 in
    let g = p.1.is in
    rw (p.2, p.3) (
      alike-more long short (use_equation tops own name) (equation (unknown own) (unknown first)) h
          (λ a s. let q = u.says p.1.at (record { name = name; own = first }) a g s in
          ((λ x. x ∙ sym q), (λ x. x ∙ q)))
          (λ n m w. let r = within-parts n m long (use_equation tops own name ∷ []) w in
          (r.1.0.0, u.within p.1.at (record { name = name; own = first }) n m g r.0)),
      uses-kept tops long (use_equation tops own name ∷ []) old u,
    )

-- an equation more of those that were emitted
one-more : (tops : List TopScheme) (es : List Emitted) (x : Emitted) (old new : List Equation) (e : Equation)
    (firsts : List FirstUse) → new ≡ old ++ (e ∷ [])
    → Alike (map (meaning tops) es ++ (meaning tops x ∷ [])) (equations_of old ++ (equation_of e ∷ []))
    × AreUses tops (map (meaning tops) es ++ (meaning tops x ∷ [])) firsts
    → Alike (map (meaning tops) (es ++ (x ∷ []))) (equations_of new)
    × AreUses tops (map (meaning tops) (es ++ (x ∷ []))) firsts
one-more tops es x old new e firsts n h =
    let m = map-append (meaning tops) es (x ∷ []) in
    let p = ap equations_of n ∙ equations_of-append old (e ∷ []) in (
      subst (λ s. Alike (map (meaning tops) (es ++ (x ∷ []))) s) (sym p)
          (subst (λ l. Alike l (equations_of old ++ (equation_of e ∷ []))) (sym m) h.0),
      subst (λ l. AreUses tops l firsts) (sym m) h.1,
    )

pub one-written : (tops : List TopScheme) (es : List Emitted) (x : Emitted) (old new : List Equation) (e : Equation)
    (firsts : List FirstUse) → new ≡ old ++ (e ∷ []) → equation_of e ≡ meaning tops x
    → Alike (map (meaning tops) es) (equations_of old) → AreUses tops (map (meaning tops) es) firsts
    → Alike (map (meaning tops) (es ++ (x ∷ []))) (equations_of new)
    × AreUses tops (map (meaning tops) (es ++ (x ∷ []))) firsts
one-written tops es x old new e firsts n q h u =
    one-more tops es x old new e firsts n (
      subst (λ y. Alike (map (meaning tops) es ++ (meaning tops x ∷ [])) (equations_of old ++ (y ∷ []))) (sym q)
          (alike-same (map (meaning tops) es) (equations_of old) (meaning tops x) h),
      uses-kept tops (map (meaning tops) es) (meaning tops x ∷ []) firsts u,
    )

pub one-shared : (tops : List TopScheme) (es : List Emitted) (x : Emitted) (old new : List Equation) (e : Equation)
    (firsts further : List FirstUse) (own name : ℕ) → new ≡ old ++ (e ∷ []) → x ≡ NameUse own name
    → SharesUse tops firsts further own name e → Alike (map (meaning tops) es) (equations_of old)
    → AreUses tops (map (meaning tops) es) firsts → Alike (map (meaning tops) (es ++ (x ∷ []))) (equations_of new)
    × AreUses tops (map (meaning tops) (es ++ (x ∷ []))) further
one-shared tops es x old new e firsts further own name n q s h u =
    one-more tops es x old new e further n
    (subst (λ y. Alike (map (meaning tops) es ++ (meaning tops y ∷ [])) (equations_of old ++ (equation_of e ∷ []))
    × AreUses tops (map (meaning tops) es ++ (meaning tops y ∷ [])) further) (sym q)
    (shared-more tops (map (meaning tops) es) (equations_of old) firsts further own name e h u s))

pub one-in_full : (tops : List TopScheme) (es : List Emitted) (x : Emitted) (old new : List Equation) (e : Equation)
    → new ≡ old ++ (e ∷ []) → equation_of e ≡ meaning tops x → equations_of old ≡ map (meaning tops) es
    → equations_of new ≡ map (meaning tops) (es ++ (x ∷ []))
one-in_full tops es x old new e n q h = ap equations_of n ∙ equations_of-append old (e ∷ [])
    ∙ ap (λ y. equations_of old ++ (y ∷ [])) q ∙ ap (λ l. l ++ (meaning tops x ∷ [])) h
    ∙ sym (map-append (meaning tops) es (x ∷ []))

-- what equations that are alike say of a solver's answer
pub general-alike : {n m : ℕ} {long short : List TypeEquation} {s : Substitution} → Alike long short
    → MostGeneral n m short s → MostGeneral n m long s
general-alike {long = long} {short = short} h g = record {
  sound = λ b. (alike-all long short h _).1 (g.sound b);
  general = λ a q. g.general a ((alike-all long short h a).0 q);
}

front-general : {n m : ℕ} {long short : List TypeEquation} {s : Substitution} (k : ℕ) → Alike long short
    → MostGeneral n m (take k short) s → MostGeneral n m (take k long) s
front-general k h g = record {
  sound = λ b. (h.solved k _).1 (g.sound b);
  general = λ a q. g.general a ((h.solved k a).0 q);
}

fine-alike : {n m : ℕ} {long short : List TypeEquation} (k : ℕ) → Alike long short → Fine n m (take k short)
    → Fine n m (take k long)
fine-alike k h f = (f.0, front-general k h f.1, f.2)

pub unsolvable-alike : {n m k : ℕ} {long short : List TypeEquation} → Alike long short
    → FirstUnsolvable n m short k → FirstUnsolvable n m long k
unsolvable-alike {k = k} h f = record {
  within = omega (arith, f.within, h.count);
  unsolvable = λ q. f.unsolvable (q.0, (h.solved k q.0).0 q.1);
  shorter = λ j lt. fine-alike j h (f.shorter j lt);
}

pub big-alike : {n m k : ℕ} {long short : List TypeEquation} → Alike long short → FirstTooBig n m short k
    → FirstTooBig n m long k
big-alike {k = k} h f = record {
  within = omega (arith, f.within, h.count);
  too_big = (f.too_big.0, front-general k h f.too_big.1, f.too_big.2, f.too_big.3, f.too_big.4);
  shorter = λ j lt. fine-alike j h (f.shorter j lt);
}

-- a type in which nothing is open is no other where it is shifted
whole-shifted : (o c : ℕ) (t : TypeExpression) → Within 0 0 t → shifted o c t ≡ t
whole-shifted o c int_ty w = refl
whole-shifted o c bool_ty w = refl
whole-shifted o c (unknown u) w = absurd (omega (arith, w))
whole-shifted o c (pair_ty s t) w = rw (whole-shifted o c s w.0, whole-shifted o c t w.1) refl
whole-shifted o c (function_ty s t) w = rw (whole-shifted o c s w.0, whole-shifted o c t w.1) refl
whole-shifted o c (code_ty d t) w = absurd (omega (arith, w.0))
whole-shifted o c (closed_ty t) w = rw (whole-shifted o c t w) refl

pub whole-use : (u o c : ℕ) (x : TopScheme) → IsWhole x → AreOwn (x ∷ []) → name_equations u o c live (Some x)
    ≡ equation (unknown u) (type_of_scheme x) ∷ []
whole-use u o c (let_scheme s) w h = ap (λ t. equation (unknown u) t ∷ [])
    (whole-shifted o c s.type (rw (w.0, w.1) at h.0))
whole-use u o c (kernel_scheme k) w h = refl
whole-use u o c scheme_out_of_scope w h = absurd w

none-open : (x : TopScheme) → IsWhole x → (unknowns_of_name (Some x) ≡ 0) × (classifiers_of_name (Some x) ≡ 0)
none-open (let_scheme s) w = w
none-open (kernel_scheme k) w = (refl, refl)
none-open scheme_out_of_scope w = absurd w

pub adds-use : (old new : Output) (u name : ℕ) (x : TopScheme) → IsWhole x → AreOwn (x ∷ [])
    → Some x ≡ slice_get (tops_of old.names.now) name
    → Adds old new 0 0 (use_equation (tops_of old.names.now) u name ∷ []) [] → AddsName old new u (Some x)
adds-use old new u name x w h g a =
    let e : use_equation (tops_of old.names.now) u name ∷ [] ≡ name_equations u old.unknowns old.classifiers live
    (Some x)
    = ap (λ s. equation (unknown u) (type_at s) ∷ []) (sym g) ∙ sym (whole-use u old.unknowns old.classifiers x w h) in
    let p = none-open x w in
    subst (λ n. Adds old new n (classifiers_of_name (Some x))
    (name_equations u old.unknowns old.classifiers live (Some x)) []) (sym p.0)
    (subst (λ m. Adds old new 0 m (name_equations u old.unknowns old.classifiers live (Some x)) []) (sym p.1)
    (subst (λ es. Adds old new 0 0 es []) e a))
