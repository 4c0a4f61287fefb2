-- A step of path halving.
use Rattle.std.proofs.Common.{◌≡◌, ◌≢◌, ℕ, ◌≤◌, ◌<◌, List, length, ap, sym, ◌∙◌, arith}
use Rattle.std.specs.Prelude.{slice_index_or, slice_set}
use Rattle.mw_types.specs.Forest.{Same, Joins}
use Rattle.mw_types.specs.Satisfying.{Sound, Step, Never}
use Rattle.mw_types.specs.declared.state.State.{State}
use Rattle.mw_types.specs.Shorter.{Shorter, FindsRoot}
use Rattle.mw_types.proofs.Lists.{same, other, is, get_other, get_here, set_length}
use Rattle.mw_types.proofs.Steps.{then_step, map_step}
use Rattle.mw_types.proofs.Link.{low_set, same_set, same_unset, set_same, halve_to, halve_from}

pub step_shorter : (ps qs : List ℕ) (from at up : ℕ) → Shorter ps qs from at → slice_index_or qs at 0 ≢ at
    → up ≡ slice_index_or qs (slice_index_or qs at 0) 0 → Shorter ps (slice_set qs at up) from up × (up < at)
step_shorter ps qs from at up h n e = (
  record {
    low = low_set qs at up (omega arith) inside h.low;
    long = set_length qs at up ∙ h.long;
    inside = omega (arith, h.long);
    roots = λ i r. elim (is at i) [
      | same q ↦ absurd (n (h.roots at (rw q r)))
      | other o ↦ get_other qs at i up 0 o ∙ h.roots i r
    ];
    roots_from = λ i il r. elim (is at i) [
      | same q ↦ absurd (let z = sym (get_here qs at up 0 inside) ∙ ap (λ x. slice_index_or (slice_set qs at up) x 0) q
          ∙ r in omega arith)
      | other o ↦ h.roots_from i il (sym (get_other qs at i up 0 o) ∙ r)
    ];
    types_to = λ v s. rw e (halve_to qs v at h.low inside (h.types_to v s));
    types_from = λ v s. h.types_from v (halve_from qs v at h.low inside (λ x. n (sym x)) (rw e at s));
    types_at = λ v s. h.types_at v s ∙ along v (h.types_to v s);
    classes_to = λ v s. rw e (halve_to qs v at h.low inside (h.classes_to v s));
    classes_from = λ v s. h.classes_from v (halve_from qs v at h.low inside (λ x. n (sym x)) (rw e at s));
    classes_at = λ v s. h.classes_at v s ∙ along v (h.classes_to v s);
  },
  omega arith,
)
  where
    inside : at < length qs
    inside = omega (arith, h.long, h.inside)

    first : slice_index_or qs at 0 < at
    first = let p = h.low at inside in omega arith

    second : up ≤ slice_index_or qs at 0
    second = let p = h.low (slice_index_or qs at 0) (omega arith) in omega arith

    along : {A : Type 0} (v : ℕ → A) → Same qs v → v at ≡ v up
    along v s = s at inside ∙ s (slice_index_or qs at 0) (omega arith) ∙ ap v (sym e)

-- a state whose ways are shorter says the same
pub shorter_step : (s t : State) (from at : ℕ) → Sound s → Shorter s.parent.items t.parent.items from at → t.shape.items
    ≡ s.shape.items → t.classifier.items ≡ s.classifier.items → t.waiting.items ≡ s.waiting.items
    → Step s t (λ a. a.ty from ≡ a.ty at)
shorter_step s t from at p h f g w = record {
  sound = record {
    low = h.low;
    low_classifiers = rw g p.low_classifiers;
    lengths = rw f (p.lengths ∙ sym h.long);
    bare = rw f (λ i lt n. p.bare i (omega (arith, h.long)) (λ e. n (h.roots i e)));
    inside = rw (f, g, h.long) p.inside;
    waiting = rw (w, h.long) p.waiting;
  };
  node_count = h.long;
  classifier_count = ap length g;
  shaped = λ n k i le lt o. let il : i < length s.parent.items = omega (arith, h.long) in
      rw f (k i le il (h.roots_from i il o));
  out = λ a k. let ty = h.types_from a.ty k.types in (
    record { types = ty; classifiers = rw g at k.classifiers; shapes = rw f at k.shapes; waits = rw w at k.waits },
    h.types_at a.ty ty,
  );
  back = λ a k x. let ty = h.types_to a.ty k.types in
      rw (f, g, w) (record { types = ty; classifiers = k.classifiers; shapes = k.shapes; waits = k.waits });
}

pub found : (s t : State) (from at : ℕ) → Sound s → Shorter s.parent.items t.parent.items from at → t.shape.items
    ≡ s.shape.items → t.classifier.items ≡ s.classifier.items → t.waiting.items ≡ s.waiting.items
    → FindsRoot s t from at
found s t from at p h f g w =
    record { step = shorter_step s t from at p h f g w; same = λ a k. h.types_at a.ty k.types }

-- two finds, and a link of what they found
pub linked_finds : {s t u v : State} {i j one two : ℕ} → FindsRoot s t i one → FindsRoot t u j two
    → Step u v (λ a. a.ty one ≡ a.ty two) → Step s v (λ a. a.ty i ≡ a.ty j)
linked_finds p q r = map_step (λ a h x. x.0.0 ∙ x.1 ∙ sym x.0.1)
    (λ a h e. let y = q.same a (p.step.back a h (p.same a h)) in ((p.same a h, y), sym (p.same a h) ∙ e ∙ y))
    (then_step (then_step p.step q.step) r)

pub never_finds : {s t u : State} {i j one two : ℕ} → FindsRoot s t i one → FindsRoot t u j two
    → Never u (λ a. a.ty one ≡ a.ty two) → Never s (λ a. a.ty i ≡ a.ty j)
never_finds p q n a h e = let z = p.step.back a h (p.same a h) in let y = q.step.back a z (q.same a z) in
    n a y (sym (p.same a h) ∙ e ∙ q.same a z)

pub found_same : {s t : State} {i r : ℕ} → FindsRoot s t i r → Step s t (λ a. Unit {0})
found_same p = map_step (λ a h x. tt) (λ a h x. p.same a h) p.step

-- two finds among the classifiers, and one root put under the other
pub joins_down : (cs ds es : List ℕ) (c d one two : ℕ) → Shorter cs ds c one → Shorter ds es d two → two < length es
    → slice_index_or es two 0 ≡ two → Joins cs (slice_set es two one) c d
joins_down cs ds es c d one two p q lt r v = (
  (λ s. let e = same_unset es v two one lt r s in
      let m = q.classes_from v e in
      let b = p.classes_from v m in
      (b, p.classes_at v b ∙ sym (set_same es v two one lt s) ∙ sym (q.classes_at v m))),
  (λ s f. let m = p.classes_to v s in
      same_set es v two one lt (q.classes_to v m) (sym (q.classes_at v m) ∙ sym f ∙ p.classes_at v s)),
)

pub joins_up : (cs ds es : List ℕ) (c d one two : ℕ) → Shorter cs ds c one → Shorter ds es d two → one < length es
    → slice_index_or es one 0 ≡ one → Joins cs (slice_set es one two) c d
joins_up cs ds es c d one two p q lt r v = (
  (λ s. let e = same_unset es v one two lt r s in
      let m = q.classes_from v e in
      let b = p.classes_from v m in
      (b, p.classes_at v b ∙ set_same es v one two lt s ∙ sym (q.classes_at v m))),
  (λ s f. let m = p.classes_to v s in
      same_set es v one two lt (q.classes_to v m) (sym (p.classes_at v s) ∙ f ∙ q.classes_at v m)),
)
