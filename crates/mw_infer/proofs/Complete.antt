-- Each type that a term has comes from a solution of its equations that keeps what was assigned before, and its closes
-- fresh.
use Rattle.std.proofs.Common.{◌≡◌, ℕ, zero, suc, ◌+◌, ◌<◌, List, [], ◌∷◌, ◌++◌, map, Some, refl, ap, sym, ◌∙◌, arith}
use Rattle.std.specs.Prelude.{slice_get}
use Rattle.mw_term.specs.declared.term.Base.{Base}
use Rattle.mw_term.specs.declared.term.Base.TheVariants.{Int, Bool}
use Rattle.mw_term.specs.Terms.{Expression, KernelType, var, glob}
use Rattle.mw_term.specs.Types.{TermType, int_type, bool_type, pair_type, function_type, code_type, closed_type, Level}
use Rattle.mw_term.specs.Types.{live, under, Entry, entry, base_type, kernel_type}
use Rattle.mw_term.specs.Typing.{TopLevel, let_item, kernel_item, Typed, t_num, t_truth, t_var, t_let, t_kernel, t_fun}
use Rattle.mw_term.specs.Typing.{t_fix, t_app, t_bind, t_cond, t_pair, t_fst, t_snd, t_prim, t_bracket, t_escape, t_run}
use Rattle.mw_term.specs.Typing.{t_close, t_open, t_lift, t_lift_b, t_done}
use Rattle.mw_types.specs.Types.{TypeExpression, unknown, pair_ty, Within, Assignment, value}
use Rattle.mw_types.specs.Equations.{TypeEquation, AllWithin, Solves, Agree}
use Rattle.mw_infer.specs.Schemes.{TopScheme}
use Rattle.mw_infer.specs.ItemEquations.{Slot, plain_slot, quoted_slot, slot, equation, unknowns_of, classifiers_of}
use Rattle.mw_infer.specs.ItemEquations.{variable_equations, function_equations, recursion_equations}
use Rattle.mw_infer.specs.ItemEquations.{application_equations, let_equations, condition_equations, pair_equations}
use Rattle.mw_infer.specs.ItemEquations.{primitive_equations, bracket_equations, escape_equations, run_equations}
use Rattle.mw_infer.specs.ItemEquations.{close_equations, open_equations, lift_equations, equations, closes}
use Rattle.mw_infer.specs.Inferring.{entry_of, AreSchemesOf}
use Rattle.mw_term.specs.Sources.{IsSource}
use Rattle.mw_types.proofs.Expressions.{level_of}
use Rattle.mw_infer.proofs.Shifting.{from, value-shifted, Within-shifted, scheme-of_let, scheme-of_kernel}
use Rattle.mw_types.proofs.Expressions.{value-base_expression, value-kernel_expression, value-primitive_expression}
use Rattle.mw_types.proofs.Expressions.{Within-base_expression, Within-kernel_expression, Within-primitive_expression}
use Rattle.mw_types.proofs.Verdicts.{value_agree}
use Rattle.mw_infer.proofs.Within.{variable-within}
use Rattle.mw_infer.proofs.Extending.{extended, extended-keeps, extended-ty, extended-classifier, started}
use Rattle.mw_infer.proofs.Extending.{started-starts, Ready, Grown, then, Own, Own-started, alone, first, ending}
use Rattle.mw_infer.proofs.Extending.{Ready-part, Ready-bound, Ready-gives, Ready-later, Ready-under, Ready-live}

-- the slot of a variable
find : (a : Assignment) (g : List Slot) (i : ℕ) (x : Entry) → slice_get (map (entry_of a) g) i ≡ Some x → (s : Slot)
    × (slice_get g i ≡ Some s) × (entry_of a s ≡ x)
find a [] i x e = absurd (cc)
find a (s ∷ g) zero x e = (s, refl, cc)
find a (s ∷ g) (suc i) x e = find a g i x e

variable-solved : (a : Assignment) (u : ℕ) (m : Level) (s : Slot) (t : TermType) → a.ty u ≡ t → entry_of a s
    ≡ entry (level_of a m) t → Solves a (variable_equations u m (Some s))
variable-solved a u live (plain_slot x) t e f = (e ∙ (let q : a.ty x ≡ t = cc in sym q), tt)
variable-solved a u live (quoted_slot k x) t e f = absurd (cc)
variable-solved a u (under d) (plain_slot x) t e f = absurd (cc)
variable-solved a u (under d) (quoted_slot k x) t e f = let q : a.ty x ≡ t = cc in let n : a.classifier k
    ≡ a.classifier d = cc in (e ∙ sym q, (rw n refl, tt))

-- a term with no part and no number of its own
still : (a : Assignment) (o c : ℕ) (es : List TypeEquation) → AllWithin o c es → Solves a es
    → Grown a o c (o + 0) (c + 0) es []
still a o c es w h = ending (omega arith) (omega arith)
    (alone (record {
      unknowns = omega arith;
      classifiers = omega arith;
      keeps =
          record { types = λ u lt. refl; classifiers = λ k lt. refl };
      within = w;
      below = tt;
      solves = h;
      fresh = tt;
    }))

module _ (tops : List TopLevel) (schemes : List TopScheme) (known : AreSchemesOf tops tops schemes) where
  abbrev SatisfiedAt : Assignment → ℕ → ℕ → ℕ → List Slot → Level → Expression → Type 0
  SatisfiedAt a u o c g m e = Grown a o c (o + unknowns_of schemes e) (c + classifiers_of schemes e)
      (equations schemes u o c g m e) (closes schemes o c g m e)

  found-var : (a : Assignment) (u o c : ℕ) (g : List Slot) (m : Level) (h : List Entry) (l : Level) (i : ℕ)
      (t : TermType) → Ready a u o c g m h l t → slice_get h i ≡ Some (entry l t) → SatisfiedAt a u o c g m (var i)
  found-var a u o c g m h l i t r e =
      let q = find a g i (entry (level_of a m) t) (rw (r.env, r.at) e) in
      still a o c _ (variable-within o c u g m i (slice_get g i) refl r.own r.slots r.level)
      (rw q.1 (variable-solved a u m q.0 t r.gives q.2))

  found-let : (a : Assignment) (u o c : ℕ) (g : List Slot) (h : List Entry) (i : ℕ) (e : Expression) (t : TermType)
      → Ready a u o c g live h live t → slice_get tops i ≡ Some (let_item e) → Typed tops [] live e t
      → SatisfiedAt a u o c g live (glob i)
  found-let a u o c g h i e t r q d =
      let s = scheme-of_let tops tops schemes i e known q in
      let n = (s.2.types t).0 d in
      let b = extended a o c n.by in
      let k = extended-keeps a o c n.by in
      let p : Agree s.0.unknowns s.0.classifiers n.by (from b o c) =
      record {
        types = λ v lt. sym (extended-ty a o c n.by v);
        classifiers = λ v lt.
            sym (extended-classifier a o c n.by v);
      } in
      rw s.1 (alone {b = b} (record {
        unknowns = omega arith;
        classifiers = omega arith;
        keeps = k;
        within = (
          (
            let z = r.own in omega arith,
            Within-shifted _ _ o c s.0.unknowns s.0.classifiers s.0.type s.2.within
                (omega arith) (omega arith),
          ),
          tt,
        );
        below = tt;
        solves = (
          sym (k.types u r.own) ∙ r.gives ∙ sym n.gives ∙ value_agree p s.0.type s.2.within
              ∙ sym (value-shifted b o c s.0.type),
          tt,
        );
        fresh = tt;
      }))

  found-kernel : (a : Assignment) (u o c : ℕ) (g : List Slot) (h : List Entry) (i : ℕ) (k : KernelType)
      → Ready a u o c g live h live (closed_type (kernel_type k)) → slice_get tops i ≡ Some (kernel_item k)
      → SatisfiedAt a u o c g live (glob i)
  found-kernel a u o c g h i k r q = rw (scheme-of_kernel tops tops schemes i k known q)
      (still a o c _ ((r.own, Within-kernel_expression o c k), tt) (
        r.gives ∙ rw (value-kernel_expression a k) refl,
        tt,
      ))

  -- what is found of a term's parts, from each assignment that is ready for them
  abbrev Part : ℕ → ℕ → ℕ → List Slot → Level → List Entry → Level → Expression → TermType → Type 0
  Part v p d g m h l e s = (b : Assignment) → Ready b v p d g m h l s → SatisfiedAt b v p d g m e

  -- a part of a pair: q is the pair's type, which is whole where this part has the type own and the other part the type
  -- other
  found-part : (a : Assignment) (u o c : ℕ) (g : List Slot) (m : Level) (h : List Entry) (l : Level) (e : Expression)
      (own other whole : TermType) (q : TypeExpression)
      → ((b : Assignment) → b.ty u ≡ own → b.ty o ≡ other → whole ≡ value b q) → (u < o → Within (o + 2) c q)
      → Ready a u o c g m h l own → Part (o + 1) (o + 2) c g m h l e whole
      → Grown a o c (o + (2 + unknowns_of schemes e)) (c + classifiers_of schemes e)
      (equation (unknown (o + 1)) q ∷ equations schemes (o + 1) (o + 2) c g m e) (closes schemes (o + 2) c g m e)
  found-part a u o c g m h l e own other whole q gives within r part =
      let z = started-starts a o c other whole other 0 in
      let y = r.own in
      let x = Own-started (equation (unknown (o + 1)) q ∷ []) (o + 2) c (omega arith) (omega arith) z
      ((omega arith, within y), tt)
      (z.second ∙ gives _ (Ready-gives z.keeps r) z.first, tt) in
      ending (omega arith) refl
      (first x (part _ (Ready-part (o + 1) (o + 2) c (omega arith) (omega arith) (omega arith) z.keeps z.second r)))

  -- both lifts, at a base type
  found-lift : (b : Base) (a : Assignment) (u o c : ℕ) (g : List Slot) (h : List Entry) (k : ℕ) (e : Expression)
      → Ready a u o c g live h live (code_type k (base_type b)) → Part o (o + 1) (c + 1) g live h live e (base_type b)
      → Grown a o c (o + (1 + unknowns_of schemes e)) (c + (1 + classifiers_of schemes e))
      (lift_equations u o c b ++ equations schemes o (o + 1) (c + 1) g live e)
      (closes schemes (o + 1) (c + 1) g live e)
  found-lift b a u o c g h k e r part =
      let z = started-starts a o c (base_type b) int_type int_type k in
      let y = r.own in
      let x = Own-started (lift_equations u o c b) (o + 1) (c + 1) (omega arith) (omega arith) z
      ((omega arith, Within-base_expression _ _ b), ((omega arith, (omega arith, Within-base_expression _ _ b)), tt)) (
        z.first ∙ sym (value-base_expression _ b),
        (
          Ready-gives z.keeps r
              ∙ rw (z.label, value-base_expression (started a o c (base_type b) int_type int_type k) b) refl,
          tt,
        ),
      ) in
      ending (omega arith) (omega arith)
      (first x (part _ (Ready-part o (o + 1) (c + 1) (omega arith) (omega arith) (omega arith) z.keeps z.first r)))

  -- each type of a term comes from a solution that goes on from an assignment which is ready for it
  pub typed_solved : {h : List Entry} {l : Level} {e : Expression} {t : TermType} (a : Assignment) (u o c : ℕ)
      (g : List Slot) (m : Level) → IsSource e → Ready a u o c g m h l t → Typed tops h l e t
      → SatisfiedAt a u o c g m e
  typed_solved a u o c g m w r t_num = still a o c _ ((r.own, tt), tt) (r.gives, tt)
  typed_solved a u o c g m w r t_truth = still a o c _ ((r.own, tt), tt) (r.gives, tt)
  typed_solved a u o c g m w r (t_var {i = i} {t = t} e) = found-var a u o c g m _ _ i t r e
  typed_solved a u o c g live w r (t_let {i = i} {e = e} {t = t} q d) = found-let a u o c g _ i e t r q d
  typed_solved a u o c g live w r (t_kernel {i = i} {k = k} q) = found-kernel a u o c g _ i k r q
  typed_solved a u o c g m w r (t_fun {s = s} {t = t} p d) =
      let z = started-starts a o c s t t 0 in
      let y = r.own in
      let x = Own-started (function_equations u o) (o + 2) c (omega arith) (omega arith) z
      ((omega arith, (omega arith, omega arith)), tt)
      (Ready-gives z.keeps r ∙ rw (z.first, z.second) refl, tt) in
      ending (omega arith) refl (first x (typed_solved _ (o + 1) (o + 2) c (slot m o ∷ g) m w
      (Ready-bound o (omega arith) z.first
      (Ready-part (o + 1) (o + 2) c (omega arith) (omega arith) (omega arith) z.keeps z.second r)) d))
  typed_solved a u o c g m w r (t_fix {s = s} {t = t} p d) =
      let z = started-starts a o c s (function_type s t) t 0 in
      let y = r.own in
      let x = Own-started (recursion_equations u o) (o + 3) c (omega arith) (omega arith) z
      ((omega arith, (omega arith, omega arith)), ((omega arith, omega arith), tt))
      (z.second ∙ rw (z.first, z.third) refl, (Ready-gives z.keeps r ∙ sym z.second, tt)) in
      ending (omega arith) refl (first x (typed_solved _ (o + 2) (o + 3) c (slot m o ∷ slot m (o + 1) ∷ g) m w
      (Ready-bound o (omega arith) z.first
      (Ready-bound (o + 1) (omega arith) z.second
      (Ready-part (o + 2) (o + 3) c (omega arith) (omega arith) (omega arith) z.keeps z.third r))) d))
  typed_solved a u o c g m w r (t_app {f = e} {s = s} {t = t} p q) =
      let z = started-starts a o c (function_type s t) s t 0 in
      let y = r.own in
      let x = Own-started (application_equations u o) (o + 2) c (omega arith) (omega arith) z
      ((omega arith, (omega arith, omega arith)), tt)
      (z.first ∙ rw (z.second, Ready-gives z.keeps r) refl, tt) in
      let one = typed_solved _ o (o + 2) c g m w.0
      (Ready-part o (o + 2) c (omega arith) (omega arith) (omega arith) z.keeps z.first r) p in
      let two = typed_solved one.by (o + 1) (o + 2 + unknowns_of schemes e) (c + classifiers_of schemes e) g m w.1
      (Ready-later (o + 1) (omega arith) (omega arith) (omega arith) z.keeps z.second one r) q in
      ending (omega arith) (omega arith) (first x (then one two))
  typed_solved a u o c g m w r (t_bind {d = d} {s = s} {t = t} p q) =
      let z = started-starts a o c s s t 0 in
      let y = r.own in
      let x = Own-started (let_equations u o) (o + 3) c (omega arith) (omega arith) z
      ((omega arith, omega arith), ((omega arith, omega arith), tt))
      (z.first ∙ sym z.second, (Ready-gives z.keeps r ∙ sym z.third, tt)) in
      let one = typed_solved _ (o + 1) (o + 3) c g m w.0
      (Ready-part (o + 1) (o + 3) c (omega arith) (omega arith) (omega arith) z.keeps z.second r) p in
      let i = one.unknowns in
      let two = typed_solved one.by (o + 2) (o + 3 + unknowns_of schemes d) (c + classifiers_of schemes d)
      (slot m o ∷ g) m w.1 (Ready-bound o (omega arith) (sym (one.keeps.types o (omega arith)) ∙ z.first)
      (Ready-later (o + 2) (omega arith) (omega arith) (omega arith) z.keeps z.third one r)) q in
      ending (omega arith) (omega arith) (first x (then one two))
  typed_solved a u o c g m w r (t_cond {c = k} {a = d} {t = t} p q s) =
      let z = started-starts a o c bool_type t t 0 in
      let y = r.own in
      let x = Own-started (condition_equations u o) (o + 3) c (omega arith) (omega arith) z
      ((omega arith, tt), ((omega arith, omega arith), ((omega arith, omega arith), tt)))
      (z.first, (z.second ∙ sym (Ready-gives z.keeps r), (z.third ∙ sym (Ready-gives z.keeps r), tt))) in
      let one = typed_solved _ o (o + 3) c g m w.0
      (Ready-part o (o + 3) c (omega arith) (omega arith) (omega arith) z.keeps z.first r) p in
      let two = typed_solved one.by (o + 1) (o + 3 + unknowns_of schemes k) (c + classifiers_of schemes k) g m w.1
      (Ready-later (o + 1) (omega arith) (omega arith) (omega arith) z.keeps z.second one r) q in
      let three = typed_solved two.by (o + 2) (o + 3 + unknowns_of schemes k + unknowns_of schemes d)
      (c + classifiers_of schemes k + classifiers_of schemes d) g m w.2
      (Ready-later (o + 2) (omega arith) (omega arith) (omega arith) z.keeps z.third (then one two) r) s in
      ending (omega arith) (omega arith) (first x (then (then one two) three))
  typed_solved a u o c g m w r (t_pair {a = d} {s = s} {t = t} p q) =
      let z = started-starts a o c s t t 0 in
      let y = r.own in
      let x = Own-started (pair_equations u o) (o + 2) c (omega arith) (omega arith) z
      ((omega arith, (omega arith, omega arith)), tt)
      (Ready-gives z.keeps r ∙ rw (z.first, z.second) refl, tt) in
      let one = typed_solved _ o (o + 2) c g m w.0
      (Ready-part o (o + 2) c (omega arith) (omega arith) (omega arith) z.keeps z.first r) p in
      let two = typed_solved one.by (o + 1) (o + 2 + unknowns_of schemes d) (c + classifiers_of schemes d) g m w.1
      (Ready-later (o + 1) (omega arith) (omega arith) (omega arith) z.keeps z.second one r) q in
      ending (omega arith) (omega arith) (first x (then one two))
  typed_solved a u o c g m w r (t_fst {g = h} {m = l} {e = e} {s = s} {t = t} p) =
      found-part a u o c g m h l e s t (pair_type s t) (pair_ty (unknown u) (unknown o)) (λ b x y. rw (x, y) refl)
      (λ lt. (omega arith, omega arith)) r (λ b x. typed_solved b (o + 1) (o + 2) c g m w x p)
  typed_solved a u o c g m w r (t_snd {g = h} {m = l} {e = e} {s = s} {t = t} p) =
      found-part a u o c g m h l e t s (pair_type s t) (pair_ty (unknown o) (unknown u)) (λ b x y. rw (x, y) refl)
      (λ lt. (omega arith, omega arith)) r (λ b x. typed_solved b (o + 1) (o + 2) c g m w x p)
  typed_solved a u o c g m w r (t_prim {p = k} {a = d} {t = t} v p q) =
      let z = started-starts a o c int_type int_type t 0 in
      let y = r.own in
      let x = Own-started (primitive_equations u o k) (o + 2) c (omega arith) (omega arith) z
      ((omega arith, tt), ((omega arith, tt), ((omega arith, Within-primitive_expression _ _ k), tt)))
      (z.first, (z.second, (Ready-gives z.keeps r ∙ v ∙ sym (value-primitive_expression _ k), tt))) in
      let one = typed_solved _ o (o + 2) c g m w.0
      (Ready-part o (o + 2) c (omega arith) (omega arith) (omega arith) z.keeps z.first r) p in
      let two = typed_solved one.by (o + 1) (o + 2 + unknowns_of schemes d) (c + classifiers_of schemes d) g m w.1
      (Ready-later (o + 1) (omega arith) (omega arith) (omega arith) z.keeps z.second one r) q in
      ending (omega arith) (omega arith) (first x (then one two))
  typed_solved a u o c g live w r (t_bracket {a = k} {t = t} p d) =
      let z = started-starts a o c t t t k in
      let y = r.own in
      let x = Own-started (bracket_equations u o c) (o + 1) (c + 1) (omega arith) (omega arith) z
      ((omega arith, (omega arith, omega arith)), tt)
      (Ready-gives z.keeps r ∙ rw (z.first, z.label) refl, tt) in
      ending (omega arith) (omega arith) (first x (typed_solved _ o (o + 1) (c + 1) g (under c) w
      (Ready-under c k (omega arith) z.label
      (Ready-part o (o + 1) (c + 1) (omega arith) (omega arith) (omega arith) z.keeps z.first r)) d))
  typed_solved a u o c g (under i) w r (t_escape {a = k} {t = t} p d) =
      let z = started-starts a o c (code_type k t) t t 0 in
      let y = r.own in
      let lt : i < c = r.level in
      let n : a.classifier i ≡ k = let q = r.at in cc in
      let x = Own-started (escape_equations u o i) (o + 1) c (omega arith) (omega arith) z
      ((omega arith, (lt, omega arith)), tt)
      (z.first ∙ rw (← z.keeps.classifiers i lt, n, Ready-gives z.keeps r) refl, tt) in
      ending (omega arith) refl (first x (typed_solved _ o (o + 1) c g live w
      (Ready-live (Ready-part o (o + 1) c (omega arith) (omega arith) (omega arith) z.keeps z.first r)) d))
  typed_solved a u o c g live w r (t_run {k = k} {t = t} q d) =
      let z = started-starts a o c (closed_type t) t t 0 in
      let y = r.own in
      let x = Own-started (run_equations u o k) (o + 1) c (omega arith) (omega arith) z
      ((omega arith, Within-kernel_expression _ _ k), ((omega arith, Within-kernel_expression _ _ k), tt)) (
        z.first ∙ ap closed_type (q ∙ sym (value-kernel_expression _ k)),
        (Ready-gives z.keeps r ∙ q ∙ sym (value-kernel_expression _ k), tt),
      ) in
      ending (omega arith) refl (first x (typed_solved _ o (o + 1) c g live w
      (Ready-part o (o + 1) c (omega arith) (omega arith) (omega arith) z.keeps z.first r) d))
  typed_solved a u o c g live w r (t_close {a = k} {at = at} {t = t} p absent d) =
      let z = started-starts a o c t (code_type k t) t k in
      let y = r.own in
      let q = Ready-part (o + 1) (o + 2) (c + 1) (omega arith) (omega arith) (omega arith) z.keeps z.second r in
      let x : Own a (started a o c t (code_type k t) t k) o c (o + 2) (c + 1) (close_equations u o c)
      (record { at = at; classifier = c; scope = g } ∷ []) = record {
        unknowns = omega arith;
        classifiers = omega arith;
        keeps = z.keeps;
        within = ((omega arith, (omega arith, omega arith)), ((omega arith, omega arith), tt));
        below = ((omega arith, q.slots), tt);
        solves = (z.second ∙ rw (z.first, z.label) refl, (Ready-gives z.keeps r ∙ rw z.first refl, tt));
        fresh = (rw (z.label, q.env) absent, tt);
      } in
      ending (omega arith) (omega arith) (first x (typed_solved _ (o + 1) (o + 2) (c + 1) g live w q d))
  typed_solved a u o c g live w r (t_open {a = k} {t = t} p d) =
      let z = started-starts a o c t (closed_type t) t k in
      let y = r.own in
      let x = Own-started (open_equations u o c) (o + 2) (c + 1) (omega arith) (omega arith) z
      ((omega arith, omega arith), ((omega arith, (omega arith, omega arith)), tt))
      (z.second ∙ rw z.first refl, (Ready-gives z.keeps r ∙ rw (z.first, z.label) refl, tt)) in
      ending (omega arith) (omega arith) (first x (typed_solved _ (o + 1) (o + 2) (c + 1) g live w
      (Ready-part (o + 1) (o + 2) (c + 1) (omega arith) (omega arith) (omega arith) z.keeps z.second r) d))
  typed_solved a u o c g live w r (t_lift {g = h} {a = k} {e = e} d) =
      found-lift Int a u o c g h k e r (λ b x. typed_solved b o (o + 1) (c + 1) g live w x d)
  typed_solved a u o c g live w r (t_lift_b {g = h} {a = k} {e = e} d) =
      found-lift Bool a u o c g h k e r (λ b x. typed_solved b o (o + 1) (c + 1) g live w x d)
  typed_solved a u o c g m w r (t_done v) = absurd w
  typed_solved a u o c g m w r d = let e = r.at in absurd (cc)
