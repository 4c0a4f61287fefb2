-- Under each assignment of a section's numbers, the node lines of a term are followed by its equations.
use Rattle.std.proofs.Common.{◌≡◌, ℕ, ◌+◌, ◌<◌, List, [], ◌∷◌, map, Option, Some, None, refl, ap, sym, ◌∙◌, arith}
use Rattle.std.specs.Prelude.{option_map, slice_get}
use Rattle.std.proofs.lemmas.Option.{slice_get-map}
use Rattle.mw_term.specs.declared.term.Base.TheVariants.{Int, Bool}
use Rattle.mw_term.specs.Terms.{Expression, num, truth, var, glob, fun, fix, app, bind, cond, pair, fst, snd, prim}
use Rattle.mw_term.specs.Terms.{bracket, escape, run, close, opened, lift, lift_b, size}
use Rattle.mw_term.specs.Types.{int_type, bool_type, function_type, code_type, closed_type}
use Rattle.mw_term.specs.Types.{TermType, Level, live, under, Entry, value as at_live, quoted, entry}
use Rattle.mw_types.specs.Types.{TypeExpression, int_ty, bool_ty, pair_ty, function_ty, code_ty, closed_ty, Assignment}
use Rattle.mw_types.specs.Types.{unknown, value, after}
use Rattle.mw_types.specs.Equations.{TypeEquation, AllWithin, Solves, Agree}
use Rattle.mw_types.proofs.Existence.{value_apply}
use Rattle.mw_types.proofs.Expressions.{level_of, value-kernel_expression}
use Rattle.mw_types.proofs.Expressions.{value-primitive_expression, Within-kernel_expression}
use Rattle.mw_types.proofs.Expressions.{Within-primitive_expression}
use Rattle.mw_types.proofs.Verdicts.{value_agree}
use Rattle.mw_infer.specs.Schemes.{TopScheme, let_scheme, kernel_scheme, scheme_out_of_scope, AreOwn}
use Rattle.mw_infer.specs.ItemEquations.{Slot, plain_slot, quoted_slot, slot, unknowns_of, classifiers_of}
use Rattle.mw_infer.specs.ItemEquations.{unknowns_of_name, classifiers_of_name, variable_equations, name_equations}
use Rattle.mw_infer.specs.ItemEquations.{function_equations, recursion_equations, application_equations}
use Rattle.mw_infer.specs.ItemEquations.{let_equations, condition_equations, pair_equations, primitive_equations}
use Rattle.mw_infer.specs.ItemEquations.{bracket_equations, escape_equations, run_equations, close_equations}
use Rattle.mw_infer.specs.ItemEquations.{open_equations}
use Rattle.mw_infer.specs.Inferring.{entry_of}
use Rattle.mw_infer.specs.Nodes.{plain_node, quoted_node}
use Rattle.mw_infer.proofs.Shifting.{from, value-shifted, Within-shifted}
use Rattle.mw_infer.proofs.Within.{variable-within, AreOwn-at}
use Rattle.mw_infer.proofs.Extending.{extended, extended-keeps, extended-ty, extended-classifier, started-starts}
use Rattle.mw_infer.proofs.Extending.{Ready, Own-started, Ready-part, Ready-bound, Ready-gives, Ready-later}
use Rattle.mw_infer.proofs.Extending.{Ready-under, Ready-live}
use Rattle.mw_infer.proofs.NodeLists.{plain as plain-within, quoted as quoted-within}
use Rattle.mw_recheck.specs.Notes.{Notes, BinderNote, plain_note, quoted_note, binder_note, TopNote, IsUse, Noted}
use Rattle.mw_general.specs.Telling.{root_of, AreRootsOf}
use Rattle.mw_general.proofs.NodeLineReadings.{Says, said}
use Rattle.mw_general.proofs.AssignmentExtensions.{Follows, next, alone, first, ending}
use Rattle.mw_general.proofs.Forms.{Followed, followed-part, followed-lift}

-- the entry that an assignment makes of what is known of a binder
abbrev noted_entry : Assignment → BinderNote → Entry
noted_entry b (plain_note t) = at_live (value b t)
noted_entry b (quoted_note c t) = quoted (b.classifier c) (value b t)

noted_entry-note : (b : Assignment) (m : Level) (t : TypeExpression)
    → noted_entry b (binder_note m t) ≡ entry (level_of b m) (value b t)
noted_entry-note b live t = refl
noted_entry-note b (under c) t = refl

variable-solved : (a : Assignment) (u : ℕ) (m : Level) (x : Option Slot) (t : TermType) → a.ty u ≡ t
    → option_map (entry_of a) x ≡ Some (entry (level_of a m) t) → Solves a (variable_equations u m x)
variable-solved a u live (Some (plain_slot x)) t e f = (e ∙ (let q : a.ty x ≡ t = cc in sym q), tt)
variable-solved a u (under d) (Some (quoted_slot k x)) t e f = let q : a.ty x ≡ t = cc in let n : a.classifier k
    ≡ a.classifier d = cc in (e ∙ sym q, (rw n refl, tt))
variable-solved a u m x t e f = absurd (cc)

module _ (p : Notes) (tops : List TopNote) (schemes : List TopScheme) (own : AreOwn schemes)
    (roots : AreRootsOf schemes tops) (b : Assignment) where
  -- a term with no part and no number of its own
  still : (a : Assignment) (u o c n : ℕ) (es : List TypeEquation) → u < o → AllWithin o c es → Solves a es
      → Says p b n (a.ty u ∷ []) [] → Follows p b a o c (o + 0) (c + 0) es n (n + 1) (plain_node (u ∷ []) ∷ [])
  still a u o c n es lt w h s = ending (omega arith) (omega arith) refl
      (alone {d = a} {q = o} {f = c} (plain_node (u ∷ []))
      (record {
        unknowns = omega arith;
        classifiers = omega arith;
        keeps = record { types = λ v i. refl; classifiers = λ k i. refl };
        within = w;
        below = tt;
        solves = h;
        fresh = tt;
      })
      (record { types = (lt, tt); classifier = tt }) s)

  -- what is known of the environment and the level of a term, and of its type
  abbrev ReadyFor : Assignment → ℕ → ℕ → ℕ → List Slot → Level → List BinderNote → Level → TypeExpression → Type 0
  ReadyFor a u o c g m h l t = Ready a u o c g m (map (noted_entry b) h) (level_of b l) (value b t)

  followed-var : (a : Assignment) (u o c n : ℕ) (g : List Slot) (m : Level) (h : List BinderNote) (l : Level) (i : ℕ)
      (t : TypeExpression) → ReadyFor a u o c g m h l t → slice_get h i ≡ Some (binder_note l t)
      → Says p b n (value b t ∷ []) [] → Followed p b schemes a u o c g m n (var i)
  followed-var a u o c n g m h l i t r e s =
      let q : option_map (entry_of a) (slice_get g i) ≡ Some (entry (level_of a m) (value b t)) =
      sym (slice_get-map (entry_of a) g i) ∙ ap (λ x. slice_get x i) r.env ∙ slice_get-map (noted_entry b) h i
      ∙ rw (e, noted_entry-note b l t, ← r.at) refl in
      still a u o c n _ r.own (variable-within o c u g m i (slice_get g i) refl r.own r.slots r.level)
      (variable-solved a u m (slice_get g i) (value b t) r.gives q) (rw r.gives s)

  followed-use : (a : Assignment) (u o c n : ℕ) (g : List Slot) (h : List BinderNote) (i : ℕ) (t : TypeExpression)
      (x : Option TopScheme) → slice_get schemes i ≡ x → ReadyFor a u o c g live h live t
      → IsUse live (option_map root_of x) t → Says p b n (value b t ∷ []) []
      → Follows p b a o c (o + unknowns_of_name x) (c + classifiers_of_name x) (name_equations u o c live x) n (n + 1)
      (plain_node (u ∷ []) ∷ [])
  followed-use a u o c n g h i t (Some (let_scheme s)) e r f w =
      let made = after b f.by in
      let d = extended a o c made in
      let k = extended-keeps a o c made in
      let z : d.ty u ≡ value b t = sym (k.types u r.own) ∙ r.gives in
      let y = AreOwn-at schemes i s own e in
      let x : Agree s.unknowns s.classifiers made (from d o c) =
      record {
        types = λ v lt. sym (extended-ty a o c made v);
        classifiers = λ v lt. sym (extended-classifier a o c made v);
      } in
      let lt = r.own in
      alone {d = d} (plain_node (u ∷ []))
      (record {
        unknowns = omega arith;
        classifiers = omega arith;
        keeps = k;
        within = (
          (
            omega arith,
            Within-shifted _ _ o c s.unknowns s.classifiers s.type y (omega arith) (omega arith),
          ),
          tt,
        );
        below = tt;
        solves = (
          z ∙ sym (ap (value b) f.gives) ∙ value_apply b f.by s.type ∙ value_agree x s.type y
              ∙ sym (value-shifted d o c s.type),
          tt,
        );
        fresh = tt;
      })
      (record { types = (omega arith, tt); classifier = tt }) (rw z w)
  followed-use a u o c n g h i t (Some (kernel_scheme k)) e r f w =
      still a u o c n _ r.own ((r.own, Within-kernel_expression o c k), tt)
      (r.gives ∙ rw (f, value-kernel_expression a k, value-kernel_expression b k) refl, tt) (rw r.gives w)
  followed-use a u o c n g h i t (Some scheme_out_of_scope) e r f w = absurd f
  followed-use a u o c n g h i t None e r f w = absurd f

  followed-glob : (a : Assignment) (u o c n : ℕ) (g : List Slot) (m : Level) (h : List BinderNote) (l : Level) (i : ℕ)
      (t : TypeExpression) → ReadyFor a u o c g m h l t → IsUse l (slice_get tops i) t
      → Says p b n (value b t ∷ []) [] → Followed p b schemes a u o c g m n (glob i)
  followed-glob a u o c n g live h live i t r f w =
      let e : tops ≡ map root_of schemes = roots in
      followed-use a u o c n g h i t (slice_get schemes i) refl r (rw (e, slice_get-map root_of schemes i) at f) w
  followed-glob a u o c n g (under d) h live i t r f w = absurd (let e = r.at in cc)
  followed-glob a u o c n g m h (under d) i t r f w = absurd f

  -- with one more binder
  bound : {a : Assignment} {u o c : ℕ} {g : List Slot} {m : Level} (h : List BinderNote) (l : Level)
      (s : TypeExpression) {t : TermType}
      → Ready a u o c g m (entry (level_of b l) (value b s) ∷ map (noted_entry b) h) (level_of b l) t
      → Ready a u o c g m (map (noted_entry b) (binder_note l s ∷ h)) (level_of b l) t
  bound h l s r = rw (noted_entry-note b l s) r

  pub followed : (a : Assignment) (u o c n : ℕ) (g : List Slot) (m : Level) (h : List BinderNote) (l : Level)
      (e : Expression) (t : TypeExpression) → ReadyFor a u o c g m h l t → Noted p tops h l n e t
      → Followed p b schemes a u o c g m n e
  followed a u o c n g m h l (num z) t r f =
      still a u o c n _ r.own ((r.own, tt), tt) (r.gives ∙ ap (value b) f.0, tt)
      (rw r.gives (said p b l n (t ∷ []) [] f.1))
  followed a u o c n g m h l (truth z) t r f =
      still a u o c n _ r.own ((r.own, tt), tt) (r.gives ∙ ap (value b) f.0, tt)
      (rw r.gives (said p b l n (t ∷ []) [] f.1))
  followed a u o c n g m h l (var i) t r f =
      followed-var a u o c n g m h l i t r f.0 (said p b l n (t ∷ []) [] f.1)
  followed a u o c n g m h l (glob i) t r f =
      followed-glob a u o c n g m h l i t r f.0 (said p b l n (t ∷ []) [] f.1)
  followed a u o c n g m h l (fun e) t r f =
      let z = started-starts a o c (value b f.0) (value b f.1) (value b f.1) 0 in
      let y = r.own in
      let x = Own-started (function_equations u o) (o + 2) c (omega arith) (omega arith) z
      ((omega arith, (omega arith, omega arith)), tt)
      (Ready-gives z.keeps r ∙ ap (value b) f.2 ∙ rw (z.first, z.second) refl, tt) in
      ending (omega arith) refl (omega arith)
      (first (plain_node (u ∷ o ∷ [])) x (plain-within (omega arith, (omega arith, tt)))
      (rw (Ready-gives z.keeps r, z.first) (said p b l n (t ∷ f.0 ∷ []) [] f.3))
      (followed _ (o + 1) (o + 2) c (n + 1) (slot m o ∷ g) m (binder_note l f.0 ∷ h) l e f.1
      (bound h l f.0 (Ready-bound o (omega arith) z.first
      (Ready-part (o + 1) (o + 2) c (omega arith) (omega arith) (omega arith) z.keeps z.second r))) f.4))
  followed a u o c n g m h l (fix e) t r f =
      let z = started-starts a o c (value b f.0) (value b t) (value b f.1) 0 in
      let y = r.own in
      let x = Own-started (recursion_equations u o) (o + 3) c (omega arith) (omega arith) z
      ((omega arith, (omega arith, omega arith)), ((omega arith, omega arith), tt))
      (z.second ∙ ap (value b) f.2 ∙ rw (z.first, z.third) refl, (Ready-gives z.keeps r ∙ sym z.second, tt)) in
      ending (omega arith) refl (omega arith)
      (first (plain_node (u ∷ (o + 1) ∷ o ∷ [])) x (plain-within (omega arith, (omega arith, (omega arith, tt))))
      (rw (Ready-gives z.keeps r, z.second, z.first) (said p b l n (t ∷ t ∷ f.0 ∷ []) [] f.3))
      (followed _ (o + 2) (o + 3) c (n + 1) (slot m o ∷ slot m (o + 1) ∷ g) m
      (binder_note l f.0 ∷ binder_note l t ∷ h) l e f.1
      (bound (binder_note l t ∷ h) l f.0 (Ready-bound o (omega arith) z.first
      (bound h l t (Ready-bound (o + 1) (omega arith) z.second
      (Ready-part (o + 2) (o + 3) c (omega arith) (omega arith) (omega arith) z.keeps z.third r))))) f.4))
  followed a u o c n g m h l (app d e) t r f =
      let z = started-starts a o c (function_type (value b f.0) (value b t)) (value b f.0) (value b t) 0 in
      let y = r.own in
      let x = Own-started (application_equations u o) (o + 2) c (omega arith) (omega arith) z
      ((omega arith, (omega arith, omega arith)), tt)
      (z.first ∙ rw (z.second, Ready-gives z.keeps r) refl, tt) in
      let one = followed _ o (o + 2) c (n + 1) g m h l d (function_ty f.0 t)
      (Ready-part o (o + 2) c (omega arith) (omega arith) (omega arith) z.keeps z.first r) f.2 in
      let two = followed one.grown.by (o + 1) (o + 2 + unknowns_of schemes d) (c + classifiers_of schemes d)
      (n + 1 + size d) g m h l e f.0
      (Ready-later (o + 1) (omega arith) (omega arith) (omega arith) z.keeps z.second one.grown r) f.3 in
      ending (omega arith) (omega arith) (omega arith)
      (first (plain_node (u ∷ [])) x (plain-within (omega arith, tt))
      (rw (Ready-gives z.keeps r) (said p b l n (t ∷ []) [] f.1)) (next one two))
  followed a u o c n g m h l (bind d e) t r f =
      let z = started-starts a o c (value b f.0) (value b f.0) (value b t) 0 in
      let y = r.own in
      let x = Own-started (let_equations u o) (o + 3) c (omega arith) (omega arith) z
      ((omega arith, omega arith), ((omega arith, omega arith), tt))
      (z.first ∙ sym z.second, (Ready-gives z.keeps r ∙ sym z.third, tt)) in
      let one = followed _ (o + 1) (o + 3) c (n + 1) g m h l d f.0
      (Ready-part (o + 1) (o + 3) c (omega arith) (omega arith) (omega arith) z.keeps z.second r) f.2 in
      let i = one.grown.unknowns in
      let two = followed one.grown.by (o + 2) (o + 3 + unknowns_of schemes d) (c + classifiers_of schemes d)
      (n + 1 + size d) (slot m o ∷ g) m (binder_note l f.0 ∷ h) l e t
      (bound h l f.0 (Ready-bound o (omega arith) (sym (one.grown.keeps.types o (omega arith)) ∙ z.first)
      (Ready-later (o + 2) (omega arith) (omega arith) (omega arith) z.keeps z.third one.grown r))) f.3 in
      ending (omega arith) (omega arith) (omega arith)
      (first (plain_node (u ∷ o ∷ [])) x (plain-within (omega arith, (omega arith, tt)))
      (rw (Ready-gives z.keeps r, z.first) (said p b l n (t ∷ f.0 ∷ []) [] f.1)) (next one two))
  followed a u o c n g m h l (cond k d e) t r f =
      let z = started-starts a o c bool_type (value b t) (value b t) 0 in
      let y = r.own in
      let x = Own-started (condition_equations u o) (o + 3) c (omega arith) (omega arith) z
      ((omega arith, tt), ((omega arith, omega arith), ((omega arith, omega arith), tt)))
      (z.first, (z.second ∙ sym (Ready-gives z.keeps r), (z.third ∙ sym (Ready-gives z.keeps r), tt))) in
      let one = followed _ o (o + 3) c (n + 1) g m h l k bool_ty
      (Ready-part o (o + 3) c (omega arith) (omega arith) (omega arith) z.keeps z.first r) f.1 in
      let two = followed one.grown.by (o + 1) (o + 3 + unknowns_of schemes k) (c + classifiers_of schemes k)
      (n + 1 + size k) g m h l d t
      (Ready-later (o + 1) (omega arith) (omega arith) (omega arith) z.keeps z.second one.grown r) f.2 in
      let both = next one two in
      let three = followed both.grown.by (o + 2) (o + 3 + unknowns_of schemes k + unknowns_of schemes d)
      (c + classifiers_of schemes k + classifiers_of schemes d) (n + 1 + size k + size d) g m h l e t
      (Ready-later (o + 2) (omega arith) (omega arith) (omega arith) z.keeps z.third both.grown r) f.3 in
      ending (omega arith) (omega arith) (omega arith)
      (first (plain_node (u ∷ [])) x (plain-within (omega arith, tt))
      (rw (Ready-gives z.keeps r) (said p b l n (t ∷ []) [] f.0)) (next both three))
  followed a u o c n g m h l (pair d e) t r f =
      let z = started-starts a o c (value b f.0) (value b f.1) (value b f.1) 0 in
      let y = r.own in
      let x = Own-started (pair_equations u o) (o + 2) c (omega arith) (omega arith) z
      ((omega arith, (omega arith, omega arith)), tt)
      (Ready-gives z.keeps r ∙ ap (value b) f.2 ∙ rw (z.first, z.second) refl, tt) in
      let one = followed _ o (o + 2) c (n + 1) g m h l d f.0
      (Ready-part o (o + 2) c (omega arith) (omega arith) (omega arith) z.keeps z.first r) f.4 in
      let two = followed one.grown.by (o + 1) (o + 2 + unknowns_of schemes d) (c + classifiers_of schemes d)
      (n + 1 + size d) g m h l e f.1
      (Ready-later (o + 1) (omega arith) (omega arith) (omega arith) z.keeps z.second one.grown r) f.5 in
      ending (omega arith) (omega arith) (omega arith)
      (first (plain_node (u ∷ [])) x (plain-within (omega arith, tt))
      (rw (Ready-gives z.keeps r) (said p b l n (t ∷ []) [] f.3)) (next one two))
  followed a u o c n g m h l (fst e) t r f =
      followed-part p b schemes a u o c g m _ _ n e (value b t) (value b f.0) (value b (pair_ty t f.0))
      (pair_ty (unknown u) (unknown o)) (λ d x y. rw (x, y) refl) (λ lt. (omega arith, omega arith)) r
      (said p b l n (t ∷ f.0 ∷ []) [] f.1)
      (λ i q. followed i (o + 1) (o + 2) c (n + 1) g m h l e (pair_ty t f.0) q f.2)
  followed a u o c n g m h l (snd e) t r f =
      followed-part p b schemes a u o c g m _ _ n e (value b t) (value b f.0) (value b (pair_ty f.0 t))
      (pair_ty (unknown o) (unknown u)) (λ d x y. rw (x, y) refl) (λ lt. (omega arith, omega arith)) r
      (said p b l n (t ∷ f.0 ∷ []) [] f.1)
      (λ i q. followed i (o + 1) (o + 2) c (n + 1) g m h l e (pair_ty f.0 t) q f.2)
  followed a u o c n g m h l (prim k d e) t r f =
      let z = started-starts a o c int_type int_type (value b t) 0 in
      let y = r.own in
      let v = ap (value b) f.0 ∙ value-primitive_expression b k in
      let x = Own-started (primitive_equations u o k) (o + 2) c (omega arith) (omega arith) z
      ((omega arith, tt), ((omega arith, tt), ((omega arith, Within-primitive_expression _ _ k), tt)))
      (z.first, (z.second, (Ready-gives z.keeps r ∙ v ∙ sym (value-primitive_expression _ k), tt))) in
      let one = followed _ o (o + 2) c (n + 1) g m h l d int_ty
      (Ready-part o (o + 2) c (omega arith) (omega arith) (omega arith) z.keeps z.first r) f.2 in
      let two = followed one.grown.by (o + 1) (o + 2 + unknowns_of schemes d) (c + classifiers_of schemes d)
      (n + 1 + size d) g m h l e int_ty
      (Ready-later (o + 1) (omega arith) (omega arith) (omega arith) z.keeps z.second one.grown r) f.3 in
      ending (omega arith) (omega arith) (omega arith)
      (first (plain_node (u ∷ [])) x (plain-within (omega arith, tt))
      (rw (Ready-gives z.keeps r) (said p b l n (t ∷ []) [] f.1)) (next one two))
  followed a u o c n g live h live (bracket e) t r f =
      let k = b.classifier f.0 in
      let z = started-starts a o c (value b f.1) (value b f.1) (value b f.1) k in
      let y = r.own in
      let x = Own-started (bracket_equations u o c) (o + 1) (c + 1) (omega arith) (omega arith) z
      ((omega arith, (omega arith, omega arith)), tt)
      (Ready-gives z.keeps r ∙ ap (value b) f.2 ∙ rw (z.first, z.label) refl, tt) in
      ending (omega arith) (omega arith) (omega arith)
      (first (quoted_node (u ∷ []) c) x (quoted-within (omega arith, tt) (omega arith))
      (rw (Ready-gives z.keeps r, z.label) (said p b live n (t ∷ []) (f.0 ∷ []) f.3))
      (followed _ o (o + 1) (c + 1) (n + 1) g (under c) h (under f.0) e f.1
      (Ready-under c k (omega arith) z.label
      (Ready-part o (o + 1) (c + 1) (omega arith) (omega arith) (omega arith) z.keeps z.first r)) f.4))
  followed a u o c n g live h (under k) (escape e) t r f = absurd (let i = r.at in cc)
  followed a u o c n g (under d) h (under k) (escape e) t r f =
      let z = started-starts a o c (code_type (b.classifier k) (value b t)) (value b t) (value b t) 0 in
      let y = r.own in
      let v : d < c = r.level in
      let i : a.classifier d ≡ b.classifier k = let q = r.at in cc in
      let x = Own-started (escape_equations u o d) (o + 1) c (omega arith) (omega arith) z
      ((omega arith, (v, omega arith)), tt)
      (z.first ∙ rw (← z.keeps.classifiers d v, i, Ready-gives z.keeps r) refl, tt) in
      ending (omega arith) refl (omega arith)
      (first (plain_node (u ∷ [])) x (plain-within (omega arith, tt))
      (rw (Ready-gives z.keeps r) (said p b (under k) n (t ∷ []) [] f.0))
      (followed _ o (o + 1) c (n + 1) g live h live e (code_ty k t)
      (Ready-live (Ready-part o (o + 1) c (omega arith) (omega arith) (omega arith) z.keeps z.first r)) f.1))
  followed a u o c n g live h live (run j e) t r f =
      let z = started-starts a o c (closed_type (value b t)) (value b t) (value b t) 0 in
      let y = r.own in
      let v = ap (value b) f.0 ∙ value-kernel_expression b j in
      let x = Own-started (run_equations u o j) (o + 1) c (omega arith) (omega arith) z
      ((omega arith, Within-kernel_expression _ _ j), ((omega arith, Within-kernel_expression _ _ j), tt)) (
        z.first ∙ ap closed_type (v ∙ sym (value-kernel_expression _ j)),
        (Ready-gives z.keeps r ∙ v ∙ sym (value-kernel_expression _ j), tt),
      ) in
      ending (omega arith) refl (omega arith)
      (first (plain_node (u ∷ [])) x (plain-within (omega arith, tt))
      (rw (Ready-gives z.keeps r) (said p b live n (t ∷ []) [] f.1))
      (followed _ o (o + 1) c (n + 1) g live h live e (closed_ty t)
      (Ready-part o (o + 1) c (omega arith) (omega arith) (omega arith) z.keeps z.first r) f.2))
  followed a u o c n g live h live (close at e) t r f =
      let k = b.classifier f.0 in
      let z = started-starts a o c (value b f.1) (code_type k (value b f.1)) (value b f.1) k in
      let y = r.own in
      let x = Own-started (close_equations u o c) (o + 2) (c + 1) (omega arith) (omega arith) z
      ((omega arith, (omega arith, omega arith)), ((omega arith, omega arith), tt)) (
        z.second ∙ rw (z.first, z.label) refl,
        (Ready-gives z.keeps r ∙ ap (value b) f.2 ∙ rw z.first refl, tt),
      ) in
      ending (omega arith) (omega arith) (omega arith)
      (first (quoted_node (u ∷ o ∷ []) c) x (quoted-within (omega arith, (omega arith, tt)) (omega arith))
      (rw (Ready-gives z.keeps r, z.first, z.label) (said p b live n (t ∷ f.1 ∷ []) (f.0 ∷ []) f.4))
      (followed _ (o + 1) (o + 2) (c + 1) (n + 1) g live h live e (code_ty f.0 f.1)
      (Ready-part (o + 1) (o + 2) (c + 1) (omega arith) (omega arith) (omega arith) z.keeps z.second r) f.5))
  followed a u o c n g live h live (opened e) t r f =
      let k = b.classifier f.0 in
      let z = started-starts a o c (value b f.1) (closed_type (value b f.1)) (value b f.1) k in
      let y = r.own in
      let x = Own-started (open_equations u o c) (o + 2) (c + 1) (omega arith) (omega arith) z
      ((omega arith, omega arith), ((omega arith, (omega arith, omega arith)), tt)) (
        z.second ∙ rw z.first refl,
        (Ready-gives z.keeps r ∙ ap (value b) f.2 ∙ rw (z.first, z.label) refl, tt),
      ) in
      ending (omega arith) (omega arith) (omega arith)
      (first (quoted_node (u ∷ o ∷ []) c) x (quoted-within (omega arith, (omega arith, tt)) (omega arith))
      (rw (Ready-gives z.keeps r, z.first, z.label) (said p b live n (t ∷ f.1 ∷ []) (f.0 ∷ []) f.3))
      (followed _ (o + 1) (o + 2) (c + 1) (n + 1) g live h live e (closed_ty f.1)
      (Ready-part (o + 1) (o + 2) (c + 1) (omega arith) (omega arith) (omega arith) z.keeps z.second r) f.4))
  followed a u o c n g live h live (lift e) t r f =
      followed-lift p b schemes Int a u o c g _ n (b.classifier f.0.0) e (rw f.0.1 at r)
      (rw f.0.1 at (said p b live n (t ∷ []) (f.0.0 ∷ []) f.0.2))
      (λ i q. followed i o (o + 1) (c + 1) (n + 1) g live h live e int_ty q f.1)
  followed a u o c n g live h live (lift_b e) t r f =
      followed-lift p b schemes Bool a u o c g _ n (b.classifier f.0.0) e (rw f.0.1 at r)
      (rw f.0.1 at (said p b live n (t ∷ []) (f.0.0 ∷ []) f.0.2))
      (λ i q. followed i o (o + 1) (c + 1) (n + 1) g live h live e bool_ty q f.1)
  followed a u o c n g (under k) h live e t r f = absurd (let i = r.at in cc)
  followed a u o c n g m h l e t r f = absurd f
