-- What a substitution that solves a term's equations says at its nodes follows the rules of a certificate.
use Rattle.std.proofs.Common.{◌≡◌, ℕ, ◌+◌, List, [], ◌∷◌, ◌++◌, map, length, Option, Some, None, refl, ap, sym, ◌∙◌}
use Rattle.std.proofs.Common.{arith}
use Rattle.std.specs.Prelude.{slice_get, option_to_list}
use Rattle.std.specs.Option.{option_map}
use Rattle.std.proofs.lemmas.Option.{slice_get-map}
use Rattle.mw_term.specs.declared.term.Base.{Base}
use Rattle.mw_term.specs.declared.term.Base.TheVariants.{Int, Bool}
use Rattle.mw_term.specs.declared.term.Primitive.{Primitive as Prim}
use Rattle.mw_term.specs.declared.term.Primitive.TheVariants.{Add}
use Rattle.mw_term.specs.Terms.{Expression, GroundType, KernelType, base, product, of_ground, to, num, truth, var, glob}
use Rattle.mw_term.specs.Terms.{fun, fix, app, bind, cond, pair, fst, snd, prim, bracket, escape, run, close, opened}
use Rattle.mw_term.specs.Terms.{lift, lift_b, done, size}
use Rattle.mw_term.specs.Types.{Level, live, under}
use Rattle.mw_types.specs.Types.{TypeExpression, int_ty, bool_ty, unknown, pair_ty, function_ty, code_ty, closed_ty}
use Rattle.mw_types.specs.Types.{Substitution, apply}
use Rattle.mw_types.specs.Expressions.{base_expression, ground_expression, kernel_expression, primitive_expression}
use Rattle.mw_lines.specs.TypeLines.{HoldsNoCode}
use Rattle.mw_recheck.specs.Notes.{Notes, AllFit, IsNodeLine, binder_note, TopNote, let_root, kernel_root, IsUse, Noted}
use Rattle.mw_infer.specs.Schemes.{Scheme, TopScheme, let_scheme, kernel_scheme, scheme_out_of_scope, shifted}
use Rattle.mw_infer.specs.ItemEquations.{Slot, plain_slot, quoted_slot, slot, wrong, unknowns_of, classifiers_of}
use Rattle.mw_infer.specs.ItemEquations.{variable_equations, name_equations, equations, closes}
use Rattle.mw_infer.specs.Nodes.{NodeNumbers, node_numbers, facts_at}
use Rattle.mw_agree.specs.Telling.{IsLineOf, Tell}
use Rattle.mw_agree.proofs.Unifiers.{Unifies, Unifies-parts, note_of, AreUnused, AreUnused-parts}
use Rattle.mw_agree.proofs.Levels.{AllAre, Levelled}
use Rattle.mw_agree.proofs.NodeCounts.{two, node_count}

-- a substitution changes no type without unknowns
apply-base : (s : Substitution) (b : Base) → apply s (base_expression b) ≡ base_expression b
apply-base s Int = refl
apply-base s Bool = refl

pub apply-ground : (s : Substitution) (t : GroundType) → apply s (ground_expression t) ≡ ground_expression t
apply-ground s (base b) = apply-base s b
apply-ground s (product p q) = rw (apply-ground s p, apply-ground s q) refl

pub apply-kernel : (s : Substitution) (k : KernelType) → apply s (kernel_expression k) ≡ kernel_expression k
apply-kernel s (of_ground t) = apply-ground s t
apply-kernel s (to p q) = rw (apply-ground s p, apply-ground s q) refl

apply-primitive : (s : Substitution) (p : Prim) → apply s (primitive_expression p) ≡ primitive_expression p
apply-primitive s Add = refl
apply-primitive s p = refl

-- a substitution of the numbers from these on
abbrev from : Substitution → ℕ → ℕ → Substitution
from s o c = record { ty = λ u. s.ty (o + u); classifier = λ d. s.classifier (c + d) }

apply-shifted : (s : Substitution) (o c : ℕ) (t : TypeExpression) → apply s (shifted o c t) ≡ apply (from s o c) t
apply-shifted s o c int_ty = refl
apply-shifted s o c bool_ty = refl
apply-shifted s o c (unknown u) = refl
apply-shifted s o c (pair_ty p q) = rw (apply-shifted s o c p, apply-shifted s o c q) refl
apply-shifted s o c (function_ty p q) = rw (apply-shifted s o c p, apply-shifted s o c q) refl
apply-shifted s o c (code_ty d t) = rw (apply-shifted s o c t) refl
apply-shifted s o c (closed_ty t) = rw (apply-shifted s o c t) refl

-- a let's root is its most general type, and a kernel is what it is
pub record RootsOf (schemes : List TopScheme) (tops : List TopNote) : Type 0 where
  pub lets : (i : ℕ) (r : Scheme) → slice_get schemes i ≡ Some (let_scheme r) → slice_get tops i
      ≡ Some (let_root r.type)
  pub kernels : (i : ℕ) (k : KernelType) → slice_get schemes i ≡ Some (kernel_scheme k)
      → slice_get tops i ≡ Some (kernel_root k)

-- the level that a substitution makes of one named by a classifier unknown
abbrev pub level_at : Substitution → Level → Level
level_at s live = live
level_at s (under c) = under (s.classifier c)

note_of-slot : (s : Substitution) (m : Level) (u : ℕ) → note_of s (slot m u) ≡ binder_note (level_at s m) (s.ty u)
note_of-slot s live u = refl
note_of-slot s (under c) u = refl

no_wrong : {X : Type 0} (s : Substitution) → Unifies s wrong → X
no_wrong s h = absurd (let e = h.0 in cc)

module _ (tops : List TopNote) (schemes : List TopScheme) (roots : RootsOf schemes tops) (s : Substitution)
    (R : Level → ℕ → Type 0) (flat : (c u : ℕ) → R (under c) u → HoldsNoCode (s.ty u)) (p : Notes) where
  all_fit : (m : Level) (us : List ℕ) → AllAre R m us → AllFit (level_at s m) (map s.ty us)
  all_fit live us h = tt
  all_fit (under c) [] h = tt
  all_fit (under c) (u ∷ us) h = (flat c u h.0, all_fit (under c) us h.1)

  line : (n : ℕ) (m : Level) (us : List ℕ) (k : Option ℕ) → AllAre R m us
      → IsLineOf p n (facts_at s (record { types = us; classifier = k }))
      → IsNodeLine p (level_at s m) n (map s.ty us) (option_to_list (option_map s.classifier k))
  line n m us k f h = record { lines = h.lines; line = h.line; named = h.named; fit = all_fit m us f }

  abbrev pub Told : ℕ → List NodeNumbers → Type 0
  Told n xs = Tell p n (map (facts_at s) xs)

  told-parts : (n : ℕ) (xs ys : List NodeNumbers) → Told n (xs ++ ys) → Told n xs × Told (n + length xs) ys
  told-parts n [] ys h = let e : n + 0 ≡ n = omega arith in (tt, rw e h)
  told-parts n (x ∷ xs) ys h =
      let r = told-parts (n + 1) xs ys h.1 in
      let e : n + length (x ∷ xs) ≡ n + 1 + length xs = omega arith in
      ((h.0, r.0), rw e r.1)

  -- a part's nodes, and what comes after them
  told : (u o c n : ℕ) (e : Expression) (ys : List NodeNumbers) → Told n (node_numbers schemes u o c e ++ ys)
      → Told n (node_numbers schemes u o c e) × Told (n + size e) ys
  told u o c n e ys h = let r = told-parts n (node_numbers schemes u o c e) ys h in
      (r.0, rw (node_count schemes u o c e) at r.1)

  variable : (u : ℕ) (g : List Slot) (m : Level) (i : ℕ) (x : Option Slot) → slice_get g i ≡ x
      → Unifies s (variable_equations u m x)
      → slice_get (map (note_of s) g) i ≡ Some (binder_note (level_at s m) (s.ty u))
  variable u g live i (Some (plain_slot x)) e h = slice_get-map (note_of s) g i ∙ rw (e, h.0) refl
  variable u g (under a) i (Some (quoted_slot b x)) e h =
      let q : s.classifier a ≡ s.classifier b = let z = h.1.0 in cc in
      slice_get-map (note_of s) g i ∙ rw (e, h.0, q) refl
  variable u g live i (Some (quoted_slot b x)) e h = no_wrong s h
  variable u g (under a) i (Some (plain_slot x)) e h = no_wrong s h
  variable u g live i None e h = no_wrong s h
  variable u g (under a) i None e h = no_wrong s h

  use_of : (u o c : ℕ) (m : Level) (i : ℕ) (x : Option TopScheme) → slice_get schemes i ≡ x
      → Unifies s (name_equations u o c m x) → IsUse (level_at s m) (slice_get tops i) (s.ty u)
  use_of u o c live i (Some (let_scheme r)) e h =
      rw (roots.lets i r e) (record { by = from s o c; gives = sym (apply-shifted s o c r.type) ∙ sym h.0 })
  use_of u o c live i (Some (kernel_scheme k)) e h = rw (roots.kernels i k e) (h.0 ∙ ap closed_ty (apply-kernel s k))
  use_of u o c live i (Some scheme_out_of_scope) e h = no_wrong s h
  use_of u o c live i None e h = no_wrong s h
  use_of u o c (under a) i x e h = no_wrong s h

  pub noted : (u o c n : ℕ) (g : List Slot) (m : Level) (e : Expression)
      → Unifies s (equations schemes u o c g m e) → AreUnused s (closes schemes o c g m e)
      → Levelled R schemes u o c m e → Told n (node_numbers schemes u o c e)
      → Noted p tops (map (note_of s) g) (level_at s m) n e (s.ty u)
  noted u o c n g m (num z) h f r t = (h.0, line n m (u ∷ []) None r t.0)
  noted u o c n g m (truth z) h f r t = (h.0, line n m (u ∷ []) None r t.0)
  noted u o c n g m (var i) h f r t = (variable u g m i (slice_get g i) refl h, line n m (u ∷ []) None r t.0)
  noted u o c n g m (glob i) h f r t = (use_of u o c m i (slice_get schemes i) refl h, line n m (u ∷ []) None r t.0)
  noted u o c n g m (fun e) h f r t = (
    s.ty o,
    s.ty (o + 1),
    h.0,
    line n m (u ∷ o ∷ []) None r.0 t.0,
    rw (note_of-slot s m o) at (noted (o + 1) (o + 2) c (n + 1) (slot m o ∷ g) m e h.1 f r.1 t.1),
  )
  noted u o c n g m (fix e) h f r t =
      let q = h.1.0 in (
        s.ty o,
        s.ty (o + 2),
        q ∙ h.0,
        rw (← q) at (line n m (u ∷ (o + 1) ∷ o ∷ []) None r.0 t.0),
        rw (note_of-slot s m o, note_of-slot s m (o + 1), ← q) at
            (noted (o + 2) (o + 3) c (n + 1) (slot m o ∷ slot m (o + 1) ∷ g) m e h.1.1 f r.1 t.1),
      )
  noted u o c n g m (app d b) h f r t =
      let x = Unifies-parts s (equations schemes o (o + 2) c g m d)
      (equations schemes (o + 1) (o + 2 + unknowns_of schemes d) (c + classifiers_of schemes d) g m b) h.1 in
      let y = AreUnused-parts s (closes schemes (o + 2) c g m d)
      (closes schemes (o + 2 + unknowns_of schemes d) (c + classifiers_of schemes d) g m b) f in
      let z = told o (o + 2) c (n + 1) d _ t.1 in (
        s.ty (o + 1),
        line n m (u ∷ []) None r.0 t.0,
        rw h.0 at (noted o (o + 2) c (n + 1) g m d x.0 y.0 r.1 z.0),
        noted (o + 1) (o + 2 + unknowns_of schemes d) (c + classifiers_of schemes d) (n + 1 + size d) g m b x.1 y.1
            r.2 z.1,
      )
  noted u o c n g m (bind d e) h f r t =
      let x = Unifies-parts s (equations schemes (o + 1) (o + 3) c g m d)
      (equations schemes (o + 2) (o + 3 + unknowns_of schemes d) (c + classifiers_of schemes d) (slot m o ∷ g) m e)
      h.1.1 in
      let y = AreUnused-parts s (closes schemes (o + 3) c g m d)
      (closes schemes (o + 3 + unknowns_of schemes d) (c + classifiers_of schemes d) (slot m o ∷ g) m e) f in
      let z = told (o + 1) (o + 3) c (n + 1) d _ t.1 in (
        s.ty o,
        line n m (u ∷ o ∷ []) None r.0 t.0,
        rw (← h.0) at (noted (o + 1) (o + 3) c (n + 1) g m d x.0 y.0 r.1 z.0),
        rw (note_of-slot s m o, ← h.1.0) at
            (noted (o + 2) (o + 3 + unknowns_of schemes d) (c + classifiers_of schemes d) (n + 1 + size d)
            (slot m o ∷ g) m e x.1 y.1 r.2 z.1),
      )
  noted u o c n g m (cond k a b) h f r t =
      let x = Unifies-parts s (equations schemes o (o + 3) c g m k
      ++ equations schemes (o + 1) (o + 3 + unknowns_of schemes k) (c + classifiers_of schemes k) g m a)
      (equations schemes (o + 2) (o + 3 + unknowns_of schemes k + unknowns_of schemes a)
      (c + classifiers_of schemes k + classifiers_of schemes a) g m b) h.1.1.1 in
      let v = Unifies-parts s (equations schemes o (o + 3) c g m k)
      (equations schemes (o + 1) (o + 3 + unknowns_of schemes k) (c + classifiers_of schemes k) g m a) x.0 in
      let y = AreUnused-parts s (closes schemes (o + 3) c g m k
      ++ closes schemes (o + 3 + unknowns_of schemes k) (c + classifiers_of schemes k) g m a)
      (closes schemes (o + 3 + unknowns_of schemes k + unknowns_of schemes a)
      (c + classifiers_of schemes k + classifiers_of schemes a) g m b) f in
      let w = AreUnused-parts s (closes schemes (o + 3) c g m k)
      (closes schemes (o + 3 + unknowns_of schemes k) (c + classifiers_of schemes k) g m a) y.0 in
      let i = told-parts (n + 1) (node_numbers schemes o (o + 3) c k
      ++ node_numbers schemes (o + 1) (o + 3 + unknowns_of schemes k) (c + classifiers_of schemes k) a) _ t.1 in
      let j = told o (o + 3) c (n + 1) k _ i.0 in
      let d : length (node_numbers schemes o (o + 3) c k
      ++ node_numbers schemes (o + 1) (o + 3 + unknowns_of schemes k) (c + classifiers_of schemes k) a)
      ≡ size k + size a = two _ _ _ _ (node_count schemes o (o + 3) c k)
      (node_count schemes (o + 1) (o + 3 + unknowns_of schemes k) (c + classifiers_of schemes k) a) in
      let l : n + 1 + (size k + size a) ≡ n + 1 + size k + size a = omega arith in (
        line n m (u ∷ []) None r.0 t.0,
        rw h.0 at (noted o (o + 3) c (n + 1) g m k v.0 w.0 r.1 j.0),
        rw h.1.0 at (noted (o + 1) (o + 3 + unknowns_of schemes k) (c + classifiers_of schemes k) (n + 1 + size k) g m
            a v.1 w.1 r.2 j.1),
        rw h.1.1.0 at (noted (o + 2) (o + 3 + unknowns_of schemes k + unknowns_of schemes a)
            (c + classifiers_of schemes k + classifiers_of schemes a) (n + 1 + size k + size a) g m b x.1 y.1 r.3
            (rw (d, l) at i.1)),
      )
  noted u o c n g m (pair d b) h f r t =
      let x = Unifies-parts s (equations schemes o (o + 2) c g m d)
      (equations schemes (o + 1) (o + 2 + unknowns_of schemes d) (c + classifiers_of schemes d) g m b) h.1 in
      let y = AreUnused-parts s (closes schemes (o + 2) c g m d)
      (closes schemes (o + 2 + unknowns_of schemes d) (c + classifiers_of schemes d) g m b) f in
      let z = told o (o + 2) c (n + 1) d _ t.1 in (
        s.ty o,
        s.ty (o + 1),
        h.0,
        line n m (u ∷ []) None r.0 t.0,
        noted o (o + 2) c (n + 1) g m d x.0 y.0 r.1 z.0,
        noted (o + 1) (o + 2 + unknowns_of schemes d) (c + classifiers_of schemes d) (n + 1 + size d) g m b x.1 y.1
            r.2 z.1,
      )
  noted u o c n g m (fst e) h f r t =
      (s.ty o, line n m (u ∷ o ∷ []) None r.0 t.0, rw h.0 at (noted (o + 1) (o + 2) c (n + 1) g m e h.1 f r.1 t.1))
  noted u o c n g m (snd e) h f r t =
      (s.ty o, line n m (u ∷ o ∷ []) None r.0 t.0, rw h.0 at (noted (o + 1) (o + 2) c (n + 1) g m e h.1 f r.1 t.1))
  noted u o c n g m (prim k d b) h f r t =
      let x = Unifies-parts s (equations schemes o (o + 2) c g m d)
      (equations schemes (o + 1) (o + 2 + unknowns_of schemes d) (c + classifiers_of schemes d) g m b) h.1.1.1 in
      let y = AreUnused-parts s (closes schemes (o + 2) c g m d)
      (closes schemes (o + 2 + unknowns_of schemes d) (c + classifiers_of schemes d) g m b) f in
      let z = told o (o + 2) c (n + 1) d _ t.1 in (
        h.1.1.0 ∙ apply-primitive s k,
        line n m (u ∷ []) None r.0 t.0,
        rw h.0 at (noted o (o + 2) c (n + 1) g m d x.0 y.0 r.1 z.0),
        rw h.1.0 at (noted (o + 1) (o + 2 + unknowns_of schemes d) (c + classifiers_of schemes d) (n + 1 + size d) g m
            b x.1 y.1 r.2 z.1),
      )
  noted u o c n g live (bracket e) h f r t = (
    s.classifier c,
    s.ty o,
    h.0,
    line n live (u ∷ []) (Some c) r.0 t.0,
    noted o (o + 1) (c + 1) (n + 1) g (under c) e h.1 f r.1 t.1,
  )
  noted u o c n g (under a) (bracket e) h f r t = no_wrong s h
  noted u o c n g live (escape e) h f r t = no_wrong s h
  noted u o c n g (under a) (escape e) h f r t =
      (line n (under a) (u ∷ []) None r.0 t.0, rw h.0 at (noted o (o + 1) c (n + 1) g live e h.1 f r.1 t.1))
  noted u o c n g live (run k e) h f r t =
      let q : s.ty o ≡ closed_ty (s.ty u) = h.0 ∙ ap closed_ty (sym h.1.0) in (
        h.1.0 ∙ apply-kernel s k,
        line n live (u ∷ []) None r.0 t.0,
        rw q at (noted o (o + 1) c (n + 1) g live e h.1.1 f r.1 t.1),
      )
  noted u o c n g (under a) (run k e) h f r t = no_wrong s h
  noted u o c n g live (close at e) h f r t = (
    s.classifier c,
    s.ty o,
    h.1.0,
    f.0,
    line n live (u ∷ o ∷ []) (Some c) r.0 t.0,
    rw h.0 at (noted (o + 1) (o + 2) (c + 1) (n + 1) g live e h.1.1 f.1 r.1 t.1),
  )
  noted u o c n g (under a) (close at e) h f r t = no_wrong s h
  noted u o c n g live (opened e) h f r t = (
    s.classifier c,
    s.ty o,
    h.1.0,
    line n live (u ∷ o ∷ []) (Some c) r.0 t.0,
    rw h.0 at (noted (o + 1) (o + 2) (c + 1) (n + 1) g live e h.1.1 f r.1 t.1),
  )
  noted u o c n g (under a) (opened e) h f r t = no_wrong s h
  noted u o c n g live (lift e) h f r t = (
    (s.classifier c, h.1.0, line n live (u ∷ []) (Some c) r.0 t.0),
    rw h.0 at (noted o (o + 1) (c + 1) (n + 1) g live e h.1.1 f r.1 t.1),
  )
  noted u o c n g (under a) (lift e) h f r t = no_wrong s h
  noted u o c n g live (lift_b e) h f r t = (
    (s.classifier c, h.1.0, line n live (u ∷ []) (Some c) r.0 t.0),
    rw h.0 at (noted o (o + 1) (c + 1) (n + 1) g live e h.1.1 f r.1 t.1),
  )
  noted u o c n g (under a) (lift_b e) h f r t = no_wrong s h
  noted u o c n g m (done v) h f r t = no_wrong s h
