-- A program has one written certificate at most.
use Rattle.std.proofs.Common.{◌≡◌, ℕ, zero, suc, ◌<◌, List, [], ◌∷◌, length, Some, refl, sym, ap, ◌∙◌}
use Rattle.std.proofs.Common.{subst, arith}
use Rattle.std.specs.Prelude.{slice_get}
use Rattle.std.proofs.lemmas.Option.{same_Some}
use Rattle.mw_term.specs.Programs.{Definition, value as defines, kernel, PureProgram}
use Rattle.mw_types.specs.Types.{TypeExpression}
use Rattle.mw_types.specs.Expressions.{ground_expression}
use Rattle.mw_types.proofs.InOrder.{low, last, low_or_last}
use Rattle.mw_recheck.specs.Sections.{SectionLines}
use Rattle.mw_recheck.specs.Texts.{certificate_text}
use Rattle.mw_recheck.specs.Certificates.{Certified, IsRootOf, defined_term, notes_for_item, notes_for_main}
use Rattle.mw_written.specs.Written.{IsWrittenSection, IsMainRoot, IsWritten}
use Rattle.mw_written.specs.WrittenLaws.{WrittenCertify, CertificatesAreOne}
use Rattle.mw_written.proofs.OneSection.{one_section}

there : {A : Type 0} (xs : List A) (i : ℕ) → i < length xs → (x : A) × (slice_get xs i ≡ Some x)
there [] i h = absurd (omega arith)
there (x ∷ xs) zero h = (x, refl)
there (x ∷ xs) (suc i) h = there xs i (omega arith)

-- lists of one length whose elements are equal place by place
one_by_one : {A : Type 0} (xs ys : List A) → length xs ≡ length ys
    → ((i : ℕ) → i < length xs → slice_get xs i ≡ slice_get ys i) → xs ≡ ys
one_by_one [] [] e h = refl
one_by_one [] (y ∷ ys) e h = absurd (omega (arith, e))
one_by_one (x ∷ xs) [] e h = absurd (omega (arith, e))
one_by_one (x ∷ xs) (y ∷ ys) e h =
    let p = same_Some x y (h 0 (omega arith)) in
    rw (p, one_by_one xs ys (omega (arith, e)) (λ i lt. h (suc i) (omega arith))) refl

-- what an item sees depends on the roots before it alone
notes_before : (items : List Definition) (rs ss : List TypeExpression) (i : ℕ) → length rs ≡ length items
    → length ss ≡ length items → ((k : ℕ) → k < i → slice_get rs k ≡ slice_get ss k)
    → notes_for_item items rs i ≡ notes_for_item items ss i
notes_before [] rs ss i p q h = refl
notes_before (d ∷ items) [] ss i p q h = absurd (omega (arith, p))
notes_before (d ∷ items) (r ∷ rs) [] i p q h = absurd (omega (arith, q))
notes_before (d ∷ items) (r ∷ rs) (s ∷ ss) zero p q h = refl
notes_before (defines e ∷ items) (r ∷ rs) (s ∷ ss) (suc i) p q h =
    let same = same_Some r s (h 0 (omega arith)) in
    rw (same, notes_before items rs ss i (omega (arith, p)) (omega (arith, q)) (λ k lt. h (suc k) (omega arith))) refl
notes_before (kernel k e ∷ items) (r ∷ rs) (s ∷ ss) (suc i) p q h =
    rw (notes_before items rs ss i (omega (arith, p)) (omega (arith, q)) (λ k lt. h (suc k) (omega arith))) refl

module _ (p : PureProgram) (xs ys : List SectionLines) (v : IsWritten xs p) (w : IsWritten ys p) where
  -- the sections of an item, and its roots
  abbrev SameAt : ℕ → Type 0
  SameAt i = (slice_get xs i ≡ slice_get ys i) × (slice_get v.right.roots i ≡ slice_get w.right.roots i)

  same_item : (i : ℕ) → i < length p.items → ((k : ℕ) → k < i → SameAt k) → SameAt i
  same_item i lt before =
      let c = v.right in
      let d = w.right in
      let f = there p.items i lt in
      let x = there xs i (omega (arith, c.section_count)) in
      let y = there ys i (omega (arith, d.section_count)) in
      let r = there c.roots i (omega (arith, c.root_count)) in
      let s = there d.roots i (omega (arith, d.root_count)) in
      let notes = sym (notes_before p.items c.roots d.roots i c.root_count d.root_count (λ k h. (before k h).1)) in
      let a = c.item i f.0 x.0 r.0 f.1 x.1 r.1 in
      let b = d.item i f.0 y.0 s.0 f.1 y.1 s.1 in
      let one = one_section (notes_for_item p.items c.roots i) (defined_term f.0) (IsRootOf f.0) x.0 y.0 r.0 s.0 a.1
      (subst (λ tops. Certified tops (defined_term f.0) y.0 s.0) notes b.1) a.0 b.0
      (v.item i f.0 x.0 f.1 x.1)
      (subst (λ tops. IsWrittenSection tops (defined_term f.0) (IsRootOf f.0) y.0) notes
      (w.item i f.0 y.0 f.1 y.1)) in (
        x.1 ∙ ap (λ z. Some z) one.sections ∙ sym y.1,
        r.1 ∙ ap (λ z. Some z) one.roots ∙ sym s.1,
      )

  same_below : (n : ℕ) → (i : ℕ) → i < n → i < length p.items → SameAt i
  same_below zero i h lt = absurd (omega arith)
  same_below (suc n) i h lt = elim (low_or_last n i h) [
    | low a ↦ same_below n i a lt
    | last a ↦ same_item i lt (λ k b. same_below n k (omega arith) (omega arith))
  ]

  same_at : (i : ℕ) → i < length p.items → SameAt i
  same_at i lt = same_below (suc i) i (omega arith) lt

  same_roots : v.right.roots ≡ w.right.roots
  same_roots =
      let c = v.right.root_count in
      let d = w.right.root_count in
      one_by_one v.right.roots w.right.roots (c ∙ sym d) (λ i lt. (same_at i (omega (arith, c))).1)

  same_main : slice_get xs (length p.items) ≡ slice_get ys (length p.items)
  same_main =
      let c = v.right in
      let d = w.right in
      let t = ground_expression p.result in
      let x = there xs (length p.items) (omega (arith, c.section_count)) in
      let y = there ys (length p.items) (omega (arith, d.section_count)) in
      let notes = ap (λ rs. notes_for_main p.items rs) (sym same_roots) in
      let one = one_section (notes_for_main p.items c.roots) p.body (IsMainRoot p) x.0 y.0 t t (c.main x.0 x.1)
      (subst (λ tops. Certified tops p.body y.0 t) notes (d.main y.0 y.1)) refl refl (v.main x.0 x.1)
      (subst (λ tops. IsWrittenSection tops p.body (IsMainRoot p) y.0) notes (w.main y.0 y.1)) in
      x.1 ∙ ap (λ z. Some z) one.sections ∙ sym y.1

  pub same_sections : xs ≡ ys
  same_sections =
      let c = v.right.section_count in
      let d = w.right.section_count in
      one_by_one xs ys (c ∙ sym d) (λ i lt. elim (low_or_last (length p.items) i (omega (arith, c))) [
        | low a ↦ (same_at i a).0
        | last a ↦ rw a same_main
      ])

pub certificates_one : CertificatesAreOne
certificates_one p a b v w =
    v.1.text ∙ ap (λ xs. certificate_text xs) (same_sections p v.0 w.0 v.2 w.2) ∙ sym w.1.text

pub written_certify : WrittenCertify
written_certify p bytes v = (v.0, v.1, v.2.right)
