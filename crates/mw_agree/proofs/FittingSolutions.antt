-- A solution of an item's equations in which each type fits the level of its node.
use Rattle.std.proofs.Common.{◌≡◌, ℕ, zero, suc, ◌+◌, ◌-◌, ◌<◌, ◌≤◌, List, [], ◌∷◌, Option, Some, refl, ap, sym}
use Rattle.std.proofs.Common.{◌∙◌, arith}
use Rattle.std.specs.Prelude.{slice_get}
use Rattle.mw_term.specs.Terms.{Expression, num, truth, var, glob, fun, fix, app, bind, cond, pair, fst, snd, prim}
use Rattle.mw_term.specs.Terms.{bracket, escape, run, close, opened, lift, lift_b}
use Rattle.mw_term.specs.Types.{TermType, int_type, bool_type, Level, live, under, Fits, kernel_type, closed_type}
use Rattle.mw_term.specs.Typing.{TopLevel}
use Rattle.mw_term.specs.FlatTypes.{flat_type, formed_type}
use Rattle.mw_term.proofs.MovedCode.{IsFormed-plain}
use Rattle.mw_term.proofs.TypesFormed.{IsPlain-kernel_type}
use Rattle.mw_term.proofs.FlatTypes.{fitted, fitted-pair, fitted-function, fitted-plain, fitted-primitive}
use Rattle.mw_term.proofs.FlatTypes.{IsPlain-flat_type, IsFormed-formed_type, flat_type-plain, formed_type-plain}
use Rattle.mw_types.specs.Types.{Assignment, value}
use Rattle.mw_types.specs.Equations.{Solves, Agree}
use Rattle.mw_types.proofs.Expressions.{value-kernel_expression, value-primitive_expression}
use Rattle.mw_types.proofs.Verdicts.{value_agree}
use Rattle.mw_infer.specs.Schemes.{TopScheme, let_scheme, kernel_scheme}
use Rattle.mw_infer.specs.ItemEquations.{Slot, plain_slot, quoted_slot, slot, unknowns_of, classifiers_of}
use Rattle.mw_infer.specs.ItemEquations.{unknowns_of_name, classifiers_of_name, variable_equations, name_equations}
use Rattle.mw_infer.specs.ItemEquations.{equations}
use Rattle.mw_infer.specs.Below.{SlotsBelow, LevelBelow}
use Rattle.mw_infer.specs.Inferring.{AreSchemesOf}
use Rattle.mw_infer.proofs.Shifting.{from, value-shifted, let-of_scheme}
use Rattle.mw_infer.proofs.Sound.{Solves-parts, Solves-three, no_wrong}
use Rattle.mw_infer.proofs.Within.{SlotsBelow-more, LevelBelow-more, SlotBelow-slot}
use Rattle.mw_infer.proofs.Extending.{extended, extended-keeps, extended-ty, extended-classifier, Agree-join}
use Rattle.mw_infer.proofs.Extending.{Agree-less, Solves-append}
use Rattle.mw_agree.proofs.Levels.{AllAre, Levelled}

-- an assignment that keeps what b says of the first o unknowns and the first c classifiers, and all that keep what it
-- says of the first p and the first l do so
pub record Reaches (b : Assignment) (o c p l : ℕ) (G : Assignment → Type 0) : Type 0 where
  pub by : Assignment
  pub keeps : Agree o c b by
  pub unknowns : o ≤ p
  pub classifiers : c ≤ l
  pub gives : (d : Assignment) → Agree p l by d → G d

abbrev both : {b : Assignment} {o c p l q k : ℕ} {G H : Assignment → Type 0} → (one : Reaches b o c p l G)
    → Reaches one.by p l q k H → Reaches b o c q k (λ d. G d × H d)
both {o = o} {c = c} {p = p} {l = l} one two = record {
  by = two.by;
  keeps = Agree-join one.keeps (Agree-less o c one.unknowns one.classifiers two.keeps);
  unknowns = let i = one.unknowns in let j = two.unknowns in omega arith;
  classifiers = let i = one.classifiers in let j = two.classifiers in omega arith;
  gives = λ d e. (
    one.gives d (Agree-join two.keeps (Agree-less p l two.unknowns two.classifiers e)),
    two.gives d e,
  );
}

finish : {b : Assignment} {o c p l : ℕ} {G H : Assignment → Type 0} → Reaches b o c p l G → (q k : ℕ) → p ≡ q → l ≡ k
    → ((d : Assignment) → Agree o c b d → G d → H d) → Reaches b o c q k H
finish {o = o} {c = c} one q k i j f = record {
  by = one.by;
  keeps = one.keeps;
  unknowns = let x = one.unknowns in omega arith;
  classifiers = let x = one.classifiers in omega arith;
  gives = λ d e.
      let e' = rw (← i, ← j) at e in
      f d (Agree-join one.keeps (Agree-less o c one.unknowns one.classifiers e')) (one.gives d e');
}

Agree-same : (o c : ℕ) (b : Assignment) → Agree o c b b
Agree-same o c b = record { types = λ u lt. refl; classifiers = λ k lt. refl }

fits : (m : Level) (t : TermType) → Fits m (fitted m t)
fits live t = IsFormed-formed_type t
fits (under c) t = IsPlain-flat_type t

-- the unknown is one of the first n, and its type fits the level
abbrev pub FitsAt : ℕ → Assignment → Level → ℕ → Type 0
FitsAt n d m v = (v < n) × Fits m (d.ty v)

module _ (tops : List TopLevel) (schemes : List TopScheme) (known : AreSchemesOf tops tops schemes) (a : Assignment)
    (n : ℕ) where
  -- what b makes of the slots is what a makes of them, made a type of their levels
  abbrev pub AreRefit : Assignment → List Slot → Type 0
  AreRefit b [] = Unit {0}
  AreRefit b (plain_slot x ∷ g) = (b.ty x ≡ formed_type (a.ty x)) × AreRefit b g
  AreRefit b (quoted_slot k x ∷ g) = ((b.classifier k ≡ a.classifier k) × (b.ty x ≡ flat_type (a.ty x)))
      × AreRefit b g

  abbrev pub IsRefitLevel : Assignment → Level → Type 0
  IsRefitLevel b live = Unit {0}
  IsRefitLevel b (under k) = b.classifier k ≡ a.classifier k

  pub record Env (b : Assignment) (o c : ℕ) (g : List Slot) (m : Level) : Type 0 where
    pub slots : SlotsBelow o c g
    pub level : LevelBelow c m
    pub refit : AreRefit b g
    pub at : IsRefitLevel b m

  refit-agree : {o c : ℕ} {b d : Assignment} → Agree o c b d → (g : List Slot) → SlotsBelow o c g → AreRefit b g
      → AreRefit d g
  refit-agree k [] w h = tt
  refit-agree k (plain_slot x ∷ g) w h = (sym (k.types x w.0) ∙ h.0, refit-agree k g w.1 h.1)
  refit-agree k (quoted_slot i x ∷ g) w h = (
    (sym (k.classifiers i w.0.0) ∙ h.0.0, sym (k.types x w.0.1) ∙ h.0.1),
    refit-agree k g w.1 h.1,
  )

  level-agree : {o c : ℕ} {b d : Assignment} → Agree o c b d → (m : Level) → LevelBelow c m → IsRefitLevel b m
      → IsRefitLevel d m
  level-agree k live w h = tt
  level-agree k (under i) w h = sym (k.classifiers i w) ∙ h

  later : {b d : Assignment} {o c : ℕ} {g : List Slot} {m : Level} (p l : ℕ) → o ≤ p → c ≤ l → Agree o c b d
      → Env b o c g m → Env d p l g m
  later {g = g} {m = m} p l i j k e = record {
    slots = SlotsBelow-more i j g e.slots;
    level = LevelBelow-more j m e.level;
    refit = refit-agree k g e.slots e.refit;
    at = level-agree k m e.level e.at;
  }

  refit-slot : (b : Assignment) (m : Level) (x : ℕ) (g : List Slot) → IsRefitLevel b m → b.ty x ≡ fitted m (a.ty x)
      → AreRefit b g → AreRefit b (slot m x ∷ g)
  refit-slot b live x g i e h = (e, h)
  refit-slot b (under k) x g i e h = ((i, e), h)

  bound : {b : Assignment} {o c : ℕ} {g : List Slot} {m : Level} (x : ℕ) → x < o → b.ty x ≡ fitted m (a.ty x)
      → Env b o c g m → Env b o c (slot m x ∷ g) m
  bound {b = b} {o = o} {c = c} {g = g} {m = m} x lt q e = record {
    slots = (SlotBelow-slot o c m x e.level lt, e.slots);
    level = e.level;
    refit = refit-slot b m x g e.at q e.refit;
    at = e.at;
  }

  to_live : {b : Assignment} {o c : ℕ} {g : List Slot} {m : Level} → Env b o c g m → Env b o c g live
  to_live e = record { slots = e.slots; level = tt; refit = e.refit; at = tt }

  to_under : {b : Assignment} {o c : ℕ} {g : List Slot} {m : Level} (k : ℕ) → k < c → b.classifier k ≡ a.classifier k
      → Env b o c g m → Env b o c g (under k)
  to_under k lt q e = record { slots = e.slots; level = lt; refit = e.refit; at = q }

  -- the numbers from o and c on have what a says of them, made types of a level
  record Stage (k : Level) (o c p l : ℕ) (d : Assignment) : Type 0 where
    types : (v : ℕ) → o ≤ v → v < p → d.ty v ≡ fitted k (a.ty v)
    classifiers : (w : ℕ) → c ≤ w → w < l → d.classifier w ≡ a.classifier w

  raised : Level → ℕ → ℕ → Assignment
  raised k o c = record { ty = λ i. fitted k (a.ty (o + i)); classifier = λ i. a.classifier (c + i) }

  raised-ty : (k : Level) (b : Assignment) (o c v : ℕ) → o ≤ v → (extended b o c (raised k o c)).ty v
      ≡ fitted k (a.ty v)
  unfolding raised
  raised-ty k b o c v i = let e : o + (v - o) ≡ v = omega arith in
      rw e at (extended-ty b o c (raised k o c) (v - o))

  raised-classifier : (k : Level) (b : Assignment) (o c w : ℕ) → c ≤ w → (extended b o c (raised k o c)).classifier w
      ≡ a.classifier w
  unfolding raised
  raised-classifier k b o c w i = let e : c + (w - c) ≡ w = omega arith in
      rw e at (extended-classifier b o c (raised k o c) (w - c))

  stage : (k : Level) (b : Assignment) (o c p l : ℕ) → o ≤ p → c ≤ l → Reaches b o c p l (Stage k o c p l)
  stage k b o c p l i j = record {
    by = extended b o c (raised k o c);
    keeps = extended-keeps b o c (raised k o c);
    unknowns = i;
    classifiers = j;
    gives = λ d e. record {
      types = λ v x y. sym (e.types v y) ∙ raised-ty k b o c v x;
      classifiers = λ w x y. sym (e.classifiers w y) ∙ raised-classifier k b o c w x;
    };
  }

  -- what is reached for a term
  abbrev pub Solved : ℕ → ℕ → ℕ → List Slot → Level → Expression → Assignment → Type 0
  Solved u o c g m e d = Solves d (equations schemes u o c g m e) × Levelled (FitsAt n d) schemes u o c m e

  abbrev pub Refit : Assignment → ℕ → ℕ → ℕ → List Slot → Level → Expression → Type 0
  Refit b u o c g m e = Reaches b o c (o + unknowns_of schemes e) (c + classifiers_of schemes e) (Solved u o c g m e)

  -- a number's type, fitted to the level, fits it
  own : (m : Level) (d : Assignment) (v : ℕ) → v < n → d.ty v ≡ fitted m (a.ty v) → FitsAt n d m v
  own m d v lt e = (lt, rw e (fits m (a.ty v)))

  slot_at : (d : Assignment) (g : List Slot) (i : ℕ) (x : Slot) → slice_get g i ≡ Some x → AreRefit d g
      → AreRefit d (x ∷ [])
  slot_at d [] i x e h = absurd (cc)
  slot_at d (plain_slot y ∷ g) zero x e h = let q : plain_slot y ≡ x = cc in rw (← q) (h.0, tt)
  slot_at d (quoted_slot k y ∷ g) zero x e h = let q : quoted_slot k y ≡ x = cc in rw (← q) (h.0, tt)
  slot_at d (plain_slot y ∷ g) (suc i) x e h = slot_at d g i x e h.1
  slot_at d (quoted_slot k y ∷ g) (suc i) x e h = slot_at d g i x e h.1

  solved-variable : (d : Assignment) (u : ℕ) (g : List Slot) (m : Level) (i : ℕ) (x : Option Slot)
      → slice_get g i ≡ x → Solves a (variable_equations u m x) → AreRefit d g → IsRefitLevel d m
      → d.ty u ≡ fitted m (a.ty u) → Solves d (variable_equations u m x)
  solved-variable d u g live i (Some (plain_slot x)) e h r l q =
      let s = slot_at d g i _ e r in (q ∙ ap (λ t. formed_type t) h.0 ∙ sym s.0, tt)
  solved-variable d u g (under k) i (Some (quoted_slot j x)) e h r l q =
      let s = slot_at d g i _ e r in
      let z : a.classifier k ≡ a.classifier j = let w = h.1.0 in cc in (
        q ∙ ap (λ t. flat_type t) h.0 ∙ sym s.0.1,
        (rw (let y : d.classifier k ≡ d.classifier j = l ∙ z ∙ sym s.0.0 in y) refl, tt),
      )
  solved-variable d u g m i x e h r l q = no_wrong a h

  -- a term with no number of its own
  still : (b : Assignment) (o c : ℕ) (G : Assignment → Type 0) → ((d : Assignment) → Agree o c b d → G d)
      → Reaches b o c (o + 0) (c + 0) G
  still b o c G f =
      let r : Reaches b o c o c G = record {
        by = b;
        keeps = Agree-same o c b;
        unknowns = omega arith;
        classifiers = omega arith;
        gives = f;
      } in
      finish r (o + 0) (c + 0) (omega arith) (omega arith) (λ d k h. h)

  abbrev Named : ℕ → ℕ → ℕ → Level → Option TopScheme → Assignment → Type 0
  Named u o c m x d = Solves d (name_equations u o c m x) × AllAre (FitsAt n d) m (u ∷ [])

  refit-name : (b : Assignment) (u o c : ℕ) (m : Level) (i : ℕ) (x : Option TopScheme) → slice_get schemes i ≡ x
      → u < o → u < n → Solves a (name_equations u o c m x) → b.ty u ≡ fitted m (a.ty u)
      → Reaches b o c (o + unknowns_of_name x) (c + classifiers_of_name x) (Named u o c m x)
  refit-name b u o c live i (Some (let_scheme s)) e lt le h q =
      let r = let-of_scheme tops tops schemes i s known e in
      let f = r.2.formed (from a o c) in
      let t = extended b o c f.0 in
      let k = extended-keeps b o c f.0 in
      let z : formed_type (a.ty u) ≡ value f.0 s.type =
      ap (λ y. formed_type y) (h.0 ∙ value-shifted a o c s.type) ∙ sym f.1 in
      record {
        by = t;
        keeps = k;
        unknowns = omega arith;
        classifiers = omega arith;
        gives = λ d y.
            let w : d.ty u ≡ formed_type (a.ty u) = sym (y.types u (omega arith)) ∙ sym (k.types u lt) ∙ q in
            let j : Agree s.unknowns s.classifiers f.0 (from d o c) = record {
              types = λ v l. sym (extended-ty b o c f.0 v) ∙ y.types (o + v) (omega arith);
              classifiers = λ v l. sym (extended-classifier b o c f.0 v) ∙ y.classifiers (c + v) (omega arith);
            } in (
              (w ∙ z ∙ value_agree j s.type r.2.within ∙ sym (value-shifted d o c s.type), tt),
              (own live d u le w, tt),
            );
      }
  refit-name b u o c live i (Some (kernel_scheme k)) e lt le h q = still b o c (Named u o c live (Some (kernel_scheme
      k))) (λ d y.
      let w : d.ty u ≡ formed_type (a.ty u) = sym (y.types u lt) ∙ q in
      let p = IsPlain-kernel_type k in (
        (
          w ∙ ap (λ y. formed_type y) (h.0 ∙ ap closed_type (value-kernel_expression a k))
              ∙ ap closed_type (flat_type-plain (kernel_type k) p) ∙ ap closed_type (sym (value-kernel_expression d k)),
          tt,
        ),
        (own live d u le w, tt),
      ))
  refit-name b u o c m i x e lt le h q = no_wrong a h

  -- flat content fits level 0 too
  own-flat : (d : Assignment) (v : ℕ) → v < n → d.ty v ≡ flat_type (a.ty v) → FitsAt n d live v
  own-flat d v lt e = (lt, rw e (IsFormed-plain (flat_type (a.ty v)) (IsPlain-flat_type (a.ty v))))

  -- what the assignments that keep what was there make of the type's unknown
  kept : (m : Level) (u : ℕ) {b d : Assignment} {o c : ℕ} → Agree o c b d → u < o → b.ty u ≡ fitted m (a.ty u)
      → d.ty u ≡ fitted m (a.ty u)
  kept m u k lt q = sym (k.types u lt) ∙ q

  here : {b : Assignment} {o c p l : ℕ} {G : Assignment → Type 0} → (r : Reaches b o c p l G) → G r.by
  here {p = p} {l = l} r = r.gives r.by (Agree-same p l r.by)

  -- a solution that goes on from one whose types fit their levels
  pub refit : (b : Assignment) (u o c : ℕ) (g : List Slot) (m : Level) (e : Expression) → u < o
      → o + unknowns_of schemes e ≤ n → Solves a (equations schemes u o c g m e) → b.ty u ≡ fitted m (a.ty u)
      → Env b o c g m → Refit b u o c g m e
  refit b u o c g m (num z) lt le h q env = still b o c (Solved u o c g m (num z)) (λ d k.
      let w = kept m u k lt q in
      ((w ∙ ap (λ t. fitted m t) h.0 ∙ fitted-plain m int_type tt, tt), (own m d u (omega arith) w, tt)))
  refit b u o c g m (truth z) lt le h q env = still b o c (Solved u o c g m (truth z)) (λ d k.
      let w = kept m u k lt q in
      ((w ∙ ap (λ t. fitted m t) h.0 ∙ fitted-plain m bool_type tt, tt), (own m d u (omega arith) w, tt)))
  refit b u o c g m (var i) lt le h q env = still b o c (Solved u o c g m (var i)) (λ d k.
      let w = kept m u k lt q in
      let v = later o c (omega arith) (omega arith) k env in
      (solved-variable d u g m i (slice_get g i) refl h v.refit v.at w, (own m d u (omega arith) w, tt)))
  refit b u o c g m (glob i) lt le h q env =
      refit-name b u o c m i (slice_get schemes i) refl lt (omega arith) h q
  refit b u o c g m (fun e) lt le h q env =
      let s = stage m b o c (o + 2) c (omega arith) (omega arith) in
      let x = here s in
      let v = bound o (omega arith) (x.types o (omega arith) (omega arith))
      (later (o + 2) c (omega arith) (omega arith) s.keeps env) in
      let r = refit s.by (o + 1) (o + 2) c (slot m o ∷ g) m e (omega arith) (omega arith) h.1
      (x.types (o + 1) (omega arith) (omega arith)) v in
      finish (both s r) _ _ (omega arith) refl (λ d k y.
      let w = kept m u k lt q in
      let i = y.0.types o (omega arith) (omega arith) in
      let j = y.0.types (o + 1) (omega arith) (omega arith) in (
        (w ∙ ap (λ t. fitted m t) h.0 ∙ fitted-function m (a.ty o) (a.ty (o + 1)) ∙ rw (i, j) refl, y.1.0),
        ((own m d u (omega arith) w, (own m d o (omega arith) i, tt)), y.1.1),
      ))
  refit b u o c g m (fix e) lt le h q env =
      let s = stage m b o c (o + 3) c (omega arith) (omega arith) in
      let x = here s in
      let v = bound o (omega arith) (x.types o (omega arith) (omega arith))
      (bound (o + 1) (omega arith) (x.types (o + 1) (omega arith) (omega arith))
      (later (o + 3) c (omega arith) (omega arith) s.keeps env)) in
      let r = refit s.by (o + 2) (o + 3) c (slot m o ∷ slot m (o + 1) ∷ g) m e (omega arith) (omega arith) h.1.1
      (x.types (o + 2) (omega arith) (omega arith)) v in
      finish (both s r) _ _ (omega arith) refl (λ d k y.
      let w = kept m u k lt q in
      let i = y.0.types o (omega arith) (omega arith) in
      let j = y.0.types (o + 1) (omega arith) (omega arith) in
      let l = y.0.types (o + 2) (omega arith) (omega arith) in (
        (
          j ∙ ap (λ t. fitted m t) h.0 ∙ fitted-function m (a.ty o) (a.ty (o + 2)) ∙ rw (i, l) refl,
          (w ∙ ap (λ t. fitted m t) h.1.0 ∙ sym j, y.1.0),
        ),
        ((own m d u (omega arith) w, (own m d (o + 1) (omega arith) j, (own m d o (omega arith) i, tt))), y.1.1),
      ))
  refit b u o c g m (app e f) lt le h q env =
      let p = Solves-parts a (equations schemes o (o + 2) c g m e)
      (equations schemes (o + 1) (o + 2 + unknowns_of schemes e) (c + classifiers_of schemes e) g m f) h.1 in
      let s = stage m b o c (o + 2) c (omega arith) (omega arith) in
      let x = here s in
      let v = later (o + 2) c (omega arith) (omega arith) s.keeps env in
      let r = refit s.by o (o + 2) c g m e (omega arith) (omega arith) p.0
      (x.types o (omega arith) (omega arith)) v in
      let z = (s.gives r.by r.keeps).types (o + 1) (omega arith) (omega arith) in
      let t = refit r.by (o + 1) (o + 2 + unknowns_of schemes e) (c + classifiers_of schemes e) g m f (omega arith)
      (omega arith) p.1 z (later _ _ r.unknowns r.classifiers r.keeps v) in
      finish (both (both s r) t) _ _ (omega arith) (omega arith) (λ d k y.
      let w = kept m u k lt q in
      let i = y.0.0.types o (omega arith) (omega arith) in
      let j = y.0.0.types (o + 1) (omega arith) (omega arith) in (
        (
          i ∙ ap (λ t. fitted m t) h.0 ∙ fitted-function m (a.ty (o + 1)) (a.ty u) ∙ rw (j, w) refl,
          Solves-append d _ _ y.0.1.0 y.1.0,
        ),
        ((own m d u (omega arith) w, tt), y.0.1.1, y.1.1),
      ))
  refit b u o c g m (bind e f) lt le h q env =
      let p = Solves-parts a (equations schemes (o + 1) (o + 3) c g m e)
      (equations schemes (o + 2) (o + 3 + unknowns_of schemes e) (c + classifiers_of schemes e) (slot m o ∷ g) m f)
      h.1.1 in
      let s = stage m b o c (o + 3) c (omega arith) (omega arith) in
      let x = here s in
      let v = later (o + 3) c (omega arith) (omega arith) s.keeps env in
      let r = refit s.by (o + 1) (o + 3) c g m e (omega arith) (omega arith) p.0
      (x.types (o + 1) (omega arith) (omega arith)) v in
      let z = s.gives r.by r.keeps in
      let l = r.unknowns in
      let t = refit r.by (o + 2) (o + 3 + unknowns_of schemes e) (c + classifiers_of schemes e) (slot m o ∷ g) m f
      (omega arith) (omega arith) p.1 (z.types (o + 2) (omega arith) (omega arith))
      (bound o (omega arith) (z.types o (omega arith) (omega arith)) (later _ _ r.unknowns r.classifiers r.keeps v)) in
      finish (both (both s r) t) _ _ (omega arith) (omega arith) (λ d k y.
      let w = kept m u k lt q in
      let i = y.0.0.types o (omega arith) (omega arith) in
      let j = y.0.0.types (o + 1) (omega arith) (omega arith) in
      let l = y.0.0.types (o + 2) (omega arith) (omega arith) in (
        (
          i ∙ ap (λ t. fitted m t) h.0 ∙ sym j,
          (w ∙ ap (λ t. fitted m t) h.1.0 ∙ sym l, Solves-append d _ _ y.0.1.0 y.1.0),
        ),
        ((own m d u (omega arith) w, (own m d o (omega arith) i, tt)), y.0.1.1, y.1.1),
      ))
  refit b u o c g m (cond x e f) lt le h q env =
      let p = Solves-three a (equations schemes o (o + 3) c g m x)
      (equations schemes (o + 1) (o + 3 + unknowns_of schemes x) (c + classifiers_of schemes x) g m e)
      (equations schemes (o + 2) (o + 3 + unknowns_of schemes x + unknowns_of schemes e)
      (c + classifiers_of schemes x + classifiers_of schemes e) g m f) h.1.1.1 in
      let s = stage m b o c (o + 3) c (omega arith) (omega arith) in
      let v = later (o + 3) c (omega arith) (omega arith) s.keeps env in
      let r = refit s.by o (o + 3) c g m x (omega arith) (omega arith) p.0
      ((here s).types o (omega arith) (omega arith)) v in
      let z = (s.gives r.by r.keeps).types (o + 1) (omega arith) (omega arith) in
      let v2 = later (o + 3 + unknowns_of schemes x) (c + classifiers_of schemes x) r.unknowns r.classifiers r.keeps
      v in
      let t = refit r.by (o + 1) (o + 3 + unknowns_of schemes x) (c + classifiers_of schemes x) g m e (omega arith)
      (omega arith) p.1 z v2 in
      let sr = both s r in
      let l = (sr.gives t.by t.keeps).0.types (o + 2) (omega arith) (omega arith) in
      let i = r.unknowns in
      let y = refit t.by (o + 2) (o + 3 + unknowns_of schemes x + unknowns_of schemes e)
      (c + classifiers_of schemes x + classifiers_of schemes e) g m f (omega arith) (omega arith) p.2 l
      (later _ _ t.unknowns t.classifiers t.keeps v2) in
      finish (both (both sr t) y) _ _ (omega arith) (omega arith) (λ d k y.
      let w = kept m u k lt q in
      let i = y.0.0.0.types o (omega arith) (omega arith) in
      let j = y.0.0.0.types (o + 1) (omega arith) (omega arith) in
      let l = y.0.0.0.types (o + 2) (omega arith) (omega arith) in (
        (
          i ∙ ap (λ t. fitted m t) h.0 ∙ fitted-plain m bool_type tt,
          (
            j ∙ ap (λ t. fitted m t) h.1.0 ∙ sym w,
            (
              l ∙ ap (λ t. fitted m t) h.1.1.0 ∙ sym w,
              Solves-append d _ _ (Solves-append d _ _ y.0.0.1.0 y.0.1.0) y.1.0,
            ),
          ),
        ),
        ((own m d u (omega arith) w, tt), y.0.0.1.1, y.0.1.1, y.1.1),
      ))
  refit b u o c g m (pair e f) lt le h q env =
      let p = Solves-parts a (equations schemes o (o + 2) c g m e)
      (equations schemes (o + 1) (o + 2 + unknowns_of schemes e) (c + classifiers_of schemes e) g m f) h.1 in
      let s = stage m b o c (o + 2) c (omega arith) (omega arith) in
      let x = here s in
      let v = later (o + 2) c (omega arith) (omega arith) s.keeps env in
      let r = refit s.by o (o + 2) c g m e (omega arith) (omega arith) p.0
      (x.types o (omega arith) (omega arith)) v in
      let z = (s.gives r.by r.keeps).types (o + 1) (omega arith) (omega arith) in
      let t = refit r.by (o + 1) (o + 2 + unknowns_of schemes e) (c + classifiers_of schemes e) g m f (omega arith)
      (omega arith) p.1 z (later _ _ r.unknowns r.classifiers r.keeps v) in
      finish (both (both s r) t) _ _ (omega arith) (omega arith) (λ d k y.
      let w = kept m u k lt q in
      let i = y.0.0.types o (omega arith) (omega arith) in
      let j = y.0.0.types (o + 1) (omega arith) (omega arith) in (
        (
          w ∙ ap (λ t. fitted m t) h.0 ∙ fitted-pair m (a.ty o) (a.ty (o + 1)) ∙ rw (i, j) refl,
          Solves-append d _ _ y.0.1.0 y.1.0,
        ),
        ((own m d u (omega arith) w, tt), y.0.1.1, y.1.1),
      ))
  refit b u o c g m (fst e) lt le h q env =
      let s = stage m b o c (o + 2) c (omega arith) (omega arith) in
      let r = refit s.by (o + 1) (o + 2) c g m e (omega arith) (omega arith) h.1
      ((here s).types (o + 1) (omega arith) (omega arith))
      (later (o + 2) c (omega arith) (omega arith) s.keeps env) in
      finish (both s r) _ _ (omega arith) refl (λ d k y.
      let w = kept m u k lt q in
      let i = y.0.types o (omega arith) (omega arith) in
      let j = y.0.types (o + 1) (omega arith) (omega arith) in (
        (j ∙ ap (λ t. fitted m t) h.0 ∙ fitted-pair m (a.ty u) (a.ty o) ∙ rw (i, w) refl, y.1.0),
        ((own m d u (omega arith) w, (own m d o (omega arith) i, tt)), y.1.1),
      ))
  refit b u o c g m (snd e) lt le h q env =
      let s = stage m b o c (o + 2) c (omega arith) (omega arith) in
      let r = refit s.by (o + 1) (o + 2) c g m e (omega arith) (omega arith) h.1
      ((here s).types (o + 1) (omega arith) (omega arith))
      (later (o + 2) c (omega arith) (omega arith) s.keeps env) in
      finish (both s r) _ _ (omega arith) refl (λ d k y.
      let w = kept m u k lt q in
      let i = y.0.types o (omega arith) (omega arith) in
      let j = y.0.types (o + 1) (omega arith) (omega arith) in (
        (j ∙ ap (λ t. fitted m t) h.0 ∙ fitted-pair m (a.ty o) (a.ty u) ∙ rw (i, w) refl, y.1.0),
        ((own m d u (omega arith) w, (own m d o (omega arith) i, tt)), y.1.1),
      ))
  refit b u o c g m (prim x e f) lt le h q env =
      let p = Solves-parts a (equations schemes o (o + 2) c g m e)
      (equations schemes (o + 1) (o + 2 + unknowns_of schemes e) (c + classifiers_of schemes e) g m f) h.1.1.1 in
      let s = stage m b o c (o + 2) c (omega arith) (omega arith) in
      let v = later (o + 2) c (omega arith) (omega arith) s.keeps env in
      let r = refit s.by o (o + 2) c g m e (omega arith) (omega arith) p.0
      ((here s).types o (omega arith) (omega arith)) v in
      let z = (s.gives r.by r.keeps).types (o + 1) (omega arith) (omega arith) in
      let t = refit r.by (o + 1) (o + 2 + unknowns_of schemes e) (c + classifiers_of schemes e) g m f (omega arith)
      (omega arith) p.1 z (later _ _ r.unknowns r.classifiers r.keeps v) in
      finish (both (both s r) t) _ _ (omega arith) (omega arith) (λ d k y.
      let w = kept m u k lt q in
      let i = y.0.0.types o (omega arith) (omega arith) in
      let j = y.0.0.types (o + 1) (omega arith) (omega arith) in (
        (
          i ∙ ap (λ t. fitted m t) h.0 ∙ fitted-plain m int_type tt,
          (
            j ∙ ap (λ t. fitted m t) h.1.0 ∙ fitted-plain m int_type tt,
            (
              w ∙ ap (λ t. fitted m t) (h.1.1.0 ∙ value-primitive_expression a x) ∙ fitted-primitive m x
                  ∙ sym (value-primitive_expression d x),
              Solves-append d _ _ y.0.1.0 y.1.0,
            ),
          ),
        ),
        ((own m d u (omega arith) w, tt), y.0.1.1, y.1.1),
      ))
  refit b u o c g live (bracket e) lt le h q env =
      let s = stage (under 0) b o c (o + 1) (c + 1) (omega arith) (omega arith) in
      let x = here s in
      let r = refit s.by o (o + 1) (c + 1) g (under c) e (omega arith) (omega arith) h.1
      (x.types o (omega arith) (omega arith))
      (to_under c (omega arith) (x.classifiers c (omega arith) (omega arith))
      (later (o + 1) (c + 1) (omega arith) (omega arith) s.keeps env)) in
      finish (both s r) _ _ (omega arith) (omega arith) (λ d k y.
      let w = kept live u k lt q in
      let i = y.0.types o (omega arith) (omega arith) in
      let j = y.0.classifiers c (omega arith) (omega arith) in (
        (w ∙ ap (λ t. formed_type t) h.0 ∙ rw (i, j) refl, y.1.0),
        ((own live d u (omega arith) w, tt), y.1.1),
      ))
  refit b u o c g (under z) (escape e) lt le h q env =
      let s = stage live b o c (o + 1) c (omega arith) (omega arith) in
      let r = refit s.by o (o + 1) c g live e (omega arith) (omega arith) h.1
      ((here s).types o (omega arith) (omega arith))
      (to_live (later (o + 1) c (omega arith) (omega arith) s.keeps env)) in
      finish (both s r) _ _ (omega arith) refl (λ d k y.
      let w = kept (under z) u k lt q in
      let i = y.0.types o (omega arith) (omega arith) in
      let j : d.classifier z ≡ a.classifier z = sym (k.classifiers z env.level) ∙ env.at in (
        (i ∙ ap (λ t. formed_type t) h.0 ∙ rw (w, j) refl, y.1.0),
        ((own (under z) d u (omega arith) w, tt), y.1.1),
      ))
  refit b u o c g live (run x e) lt le h q env =
      let s = stage live b o c (o + 1) c (omega arith) (omega arith) in
      let r = refit s.by o (o + 1) c g live e (omega arith) (omega arith) h.1.1
      ((here s).types o (omega arith) (omega arith)) (later (o + 1) c (omega arith) (omega arith) s.keeps env) in
      let z = IsPlain-kernel_type x in
      finish (both s r) _ _ (omega arith) refl (λ d k y.
      let w = kept live u k lt q in
      let i = y.0.types o (omega arith) (omega arith) in (
        (
          i ∙ ap (λ t. formed_type t) (h.0 ∙ ap closed_type (value-kernel_expression a x))
              ∙ ap closed_type (flat_type-plain (kernel_type x) z ∙ sym (value-kernel_expression d x)),
          (
            w ∙ ap (λ t. formed_type t) (h.1.0 ∙ value-kernel_expression a x)
                ∙ formed_type-plain (kernel_type x) z ∙ sym (value-kernel_expression d x),
            y.1.0,
          ),
        ),
        ((own live d u (omega arith) w, tt), y.1.1),
      ))
  refit b u o c g live (close at e) lt le h q env =
      let s = stage (under 0) b o c (o + 1) (c + 1) (omega arith) (omega arith) in
      let t = stage live s.by (o + 1) (c + 1) (o + 2) (c + 1) (omega arith) (omega arith) in
      let v = later (o + 2) (c + 1) (omega arith) (omega arith) t.keeps
      (later (o + 1) (c + 1) (omega arith) (omega arith) s.keeps env) in
      let r = refit t.by (o + 1) (o + 2) (c + 1) g live e (omega arith) (omega arith) h.1.1
      ((here t).types (o + 1) (omega arith) (omega arith)) v in
      finish (both (both s t) r) _ _ (omega arith) (omega arith) (λ d k y.
      let w = kept live u k lt q in
      let i = y.0.0.types o (omega arith) (omega arith) in
      let j = y.0.1.types (o + 1) (omega arith) (omega arith) in
      let l = y.0.0.classifiers c (omega arith) (omega arith) in (
        (
          j ∙ ap (λ t. formed_type t) h.0 ∙ rw (i, l) refl,
          (w ∙ ap (λ t. formed_type t) h.1.0 ∙ rw i refl, y.1.0),
        ),
        ((own live d u (omega arith) w, (own-flat d o (omega arith) i, tt)), y.1.1),
      ))
  refit b u o c g live (opened e) lt le h q env =
      let s = stage (under 0) b o c (o + 1) (c + 1) (omega arith) (omega arith) in
      let t = stage live s.by (o + 1) (c + 1) (o + 2) (c + 1) (omega arith) (omega arith) in
      let v = later (o + 2) (c + 1) (omega arith) (omega arith) t.keeps
      (later (o + 1) (c + 1) (omega arith) (omega arith) s.keeps env) in
      let r = refit t.by (o + 1) (o + 2) (c + 1) g live e (omega arith) (omega arith) h.1.1
      ((here t).types (o + 1) (omega arith) (omega arith)) v in
      finish (both (both s t) r) _ _ (omega arith) (omega arith) (λ d k y.
      let w = kept live u k lt q in
      let i = y.0.0.types o (omega arith) (omega arith) in
      let j = y.0.1.types (o + 1) (omega arith) (omega arith) in
      let l = y.0.0.classifiers c (omega arith) (omega arith) in (
        (
          j ∙ ap (λ t. formed_type t) h.0 ∙ rw i refl,
          (w ∙ ap (λ t. formed_type t) h.1.0 ∙ rw (i, l) refl, y.1.0),
        ),
        ((own live d u (omega arith) w, (own-flat d o (omega arith) i, tt)), y.1.1),
      ))
  refit b u o c g live (lift e) lt le h q env =
      let s = stage live b o c (o + 1) (c + 1) (omega arith) (omega arith) in
      let r = refit s.by o (o + 1) (c + 1) g live e (omega arith) (omega arith) h.1.1
      ((here s).types o (omega arith) (omega arith))
      (later (o + 1) (c + 1) (omega arith) (omega arith) s.keeps env) in
      finish (both s r) _ _ (omega arith) (omega arith) (λ d k y.
      let w = kept live u k lt q in
      let i = y.0.types o (omega arith) (omega arith) in
      let l = y.0.classifiers c (omega arith) (omega arith) in (
        (
          i ∙ ap (λ t. formed_type t) h.0,
          (w ∙ ap (λ t. formed_type t) h.1.0 ∙ rw l refl, y.1.0),
        ),
        ((own live d u (omega arith) w, tt), y.1.1),
      ))
  refit b u o c g live (lift_b e) lt le h q env =
      let s = stage live b o c (o + 1) (c + 1) (omega arith) (omega arith) in
      let r = refit s.by o (o + 1) (c + 1) g live e (omega arith) (omega arith) h.1.1
      ((here s).types o (omega arith) (omega arith))
      (later (o + 1) (c + 1) (omega arith) (omega arith) s.keeps env) in
      finish (both s r) _ _ (omega arith) (omega arith) (λ d k y.
      let w = kept live u k lt q in
      let i = y.0.types o (omega arith) (omega arith) in
      let l = y.0.classifiers c (omega arith) (omega arith) in (
        (
          i ∙ ap (λ t. formed_type t) h.0,
          (w ∙ ap (λ t. formed_type t) h.1.0 ∙ rw l refl, y.1.0),
        ),
        ((own live d u (omega arith) w, tt), y.1.1),
      ))
  refit b u o c g m e lt le h q env = no_wrong a h
