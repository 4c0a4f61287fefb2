-- Bytes are judged to certify a program exactly where they do.
use Rattle.std.proofs.Common.{◌≡◌, ℕ, zero, suc, ◌+◌, ◌≤◌, true, ◌&&◌, List, [], ◌∷◌, ◌++◌, drop}
use Rattle.std.proofs.Common.{length}
use Rattle.std.proofs.Common.{Option, Some, None, refl, sym, ap, ◌∙◌, subst, arith, append_assoc, codes}
use Rattle.std.proofs.Common.{get_or}
use Rattle.std.specs.Prelude.{slice_get}
use Rattle.std.specs.List.{flat_map}
use Rattle.std.proofs.lemmas.Option.{same_Some, slice_get-get_or}
use Rattle.std.proofs.lemmas.List.{append-nil, drop_all, length_push}
use Rattle.std.proofs.lemmas.List.Concat.{flat_map-append}
use Rattle.mw_term.specs.Programs.{Definition, value as defines, kernel, PureProgram}
use Rattle.mw_types.specs.Types.{TypeExpression, closed_ty}
use Rattle.mw_types.specs.Expressions.{ground_expression, kernel_expression}
use Rattle.mw_lines.specs.Deciding.{same_type}
use Rattle.mw_recheck.specs.Options.{◌>>=◌}
use Rattle.mw_recheck.specs.Sections.{SectionLines, FitsSection, FitSections}
use Rattle.mw_recheck.specs.Texts.{section_text, certificate_text}
use Rattle.mw_recheck.specs.Notes.{TopNote}
use Rattle.mw_recheck.specs.Certificates.{Certified, IsRootOf, defined_term, notes_for_item, notes_for_main, Certifies}
use Rattle.mw_recheck.specs.Reading.{behind}
use Rattle.mw_recheck.specs.Deciding.{note_seen, is_root, root_at, roots_at, is_end, main_at, program_judged, is_there}
use Rattle.mw_recheck.specs.Deciding.{certified}
use Rattle.mw_lines.proofs.NamedTypes.{and-both, slice_get-seam}
use Rattle.mw_lines.proofs.Candidates.{type_same, same_type-refl}
use Rattle.mw_recheck.proofs.NodeLines.{bound, bind_some, passed, chosen, drop_get}
use Rattle.mw_recheck.proofs.ReadNumbers.{behind_found, behind_there}
use Rattle.mw_recheck.proofs.JudgedSections.{root_found, root_there}

seen_next : (d : Definition) (items : List Definition) (t : TypeExpression) (ts : List TypeExpression) (i : ℕ)
    → notes_for_item (d ∷ items) (t ∷ ts) (suc i) ≡ note_seen d t ∷ notes_for_item items ts i
seen_next (defines e) items t ts i = refl
seen_next (kernel k e) items t ts i = refl

root_is : (d : Definition) (t : TypeExpression) → is_root d t ≡ true → IsRootOf d t
root_is (defines e) t h = tt
root_is (kernel k e) t h = type_same t (closed_ty (kernel_expression k)) h

is_root_from : (d : Definition) (t : TypeExpression) → IsRootOf d t → is_root d t ≡ true
is_root_from (defines e) t h = refl
is_root_from (kernel k e) t h = rw h (same_type-refl (closed_ty (kernel_expression k)))

-- the sections of items that see these names are right, one after the other
abbrev AreRight : List TopNote → List Definition → List SectionLines → List TypeExpression → Type 0
AreRight tops [] xs [] = Unit {0}
AreRight tops (d ∷ items) (x ∷ xs) (t ∷ ts) =
    IsRootOf d t × Certified tops (defined_term d) x t × AreRight (tops ++ note_seen d t ∷ []) items xs ts
AreRight _ _ _ _ = ⊥

-- each item's section is right for it
abbrev EachRight : List TopNote → List Definition → List SectionLines → List TypeExpression → Type 0
EachRight tops items xs ts = (i : ℕ) (d : Definition) (x : SectionLines) (t : TypeExpression)
    → slice_get items i ≡ Some d → slice_get xs i ≡ Some x → slice_get ts i ≡ Some t
    → IsRootOf d t × Certified (tops ++ notes_for_item items ts i) (defined_term d) x t

each_right : (tops : List TopNote) (items : List Definition) (xs : List SectionLines) (ts : List TypeExpression)
    → AreRight tops items xs ts → EachRight tops items xs ts
each_right tops (d ∷ items) (x ∷ xs) (t ∷ ts) r zero e y u h g k =
    let p : d ≡ e = cc in
    let q : x ≡ y = cc in
    let o : t ≡ u = cc in
    rw (sym p, sym q, sym o) (r.0, rw (append-nil tops) r.1)
each_right tops (d ∷ items) (x ∷ xs) (t ∷ ts) r (suc i) e y u h g k =
    let m = each_right (tops ++ note_seen d t ∷ []) items xs ts r.2 i e y u h g k in
    (m.0, rw (seen_next d items t ts i, ← (append_assoc tops (note_seen d t ∷ []) (notes_for_item items ts i))) m.1)
each_right tops [] xs ts r i e y u h g k = absurd (cc)
each_right tops _ _ _ r i e y u h g k = absurd r

all_right : (tops : List TopNote) (items : List Definition) (xs : List SectionLines) (ts : List TypeExpression)
    → length ts ≡ length items → length items ≤ length xs → EachRight tops items xs ts → AreRight tops items xs ts
all_right tops [] xs [] c l r = tt
all_right tops (d ∷ items) (x ∷ xs) (t ∷ ts) c l r =
    let first = r zero d x t refl refl refl in (
      first.0,
      rw (append-nil tops) at first.1,
      all_right (tops ++ note_seen d t ∷ []) items xs ts (omega (arith, c))
          (omega (arith, l)) (λ i e y u h g k.
          let m = r (suc i) e y u h g k in (
            m.0,
            rw (append_assoc tops (note_seen d t ∷ []) (notes_for_item items ts i), ← (seen_next d items t ts i))
                m.1,
          )),
    )
all_right tops _ _ _ c l r = absurd (omega (arith, c, l))

-- more sections may follow
right_before : (tops : List TopNote) (items : List Definition) (xs ys : List SectionLines) (ts : List TypeExpression)
    → AreRight tops items xs ts → AreRight tops items (xs ++ ys) ts
right_before tops [] xs ys [] r = tt
right_before tops (d ∷ items) (x ∷ xs) ys (t ∷ ts) r =
    (r.0, r.1, right_before (tops ++ note_seen d t ∷ []) items xs ys ts r.2)
right_before tops _ _ ys _ r = absurd r

record Roots (tops : List TopNote) (items : List Definition) (bytes : List ℕ) (y : List TypeExpression
    × List ℕ) : Type 0 where
  sections : List SectionLines
  text : bytes ≡ flat_map section_text sections ++ y.1
  fits : FitSections sections
  root_count : length y.0 ≡ length items
  section_count : length sections ≡ length items
  right : AreRight tops items sections y.0

roots_found : (tops : List TopNote) (items : List Definition) (bytes : List ℕ) (y : List TypeExpression × List ℕ)
    → roots_at tops items bytes ≡ Some y → Roots tops items bytes y
roots_found tops [] bytes y h =
    subst (λ z. Roots tops [] bytes z) (same_Some ([], bytes) y h)
    (record { sections = []; text = refl; fits = tt; root_count = refl; section_count = refl; right = tt })
roots_found tops (d ∷ items) bytes y h =
    let x = bound (root_at tops (defined_term d) bytes) _ y h in
    let c = passed (is_root d x.0.0) _ y x.2 in
    let z = bound (roots_at (tops ++ note_seen d x.0.0 ∷ []) items x.0.1) _ y c.1 in
    let m = roots_found (tops ++ note_seen d x.0.0 ∷ []) items x.0.1 z.0 z.1 in
    let s = root_found tops (defined_term d) bytes x.0 x.1 in
    subst (λ w. Roots tops (d ∷ items) bytes w) (same_Some (x.0.0 ∷ z.0.0, z.0.1) y z.2) (record {
      sections = s.0 ∷ m.sections;
      text = s.2 ∙ ap (λ l. section_text s.0 ++ l) m.text
          ∙ sym (append_assoc (section_text s.0) (flat_map section_text m.sections) z.0.1);
      fits = (s.1, m.fits);
      root_count = ap suc m.root_count;
      section_count = ap suc m.section_count;
      right = (root_is d x.0.0 c.0, s.3, m.right);
    })

-- where sections are right, the items' roots are answered
roots_there : (tops : List TopNote) (items : List Definition) (xs : List SectionLines) (ts : List TypeExpression)
    → AreRight tops items xs ts → FitSections xs
    → roots_at tops items (flat_map section_text xs) ≡ Some (ts, flat_map section_text (drop (length items) xs))
roots_there tops [] xs [] r f = refl
roots_there tops (d ∷ items) (x ∷ xs) (t ∷ ts) r f =
    bind_some (root_at tops (defined_term d) (section_text x ++ flat_map section_text xs)) _
    (t, flat_map section_text xs) (root_there tops (defined_term d) x t (flat_map section_text xs) f.0 r.1)
    ∙ rw (is_root_from d t r.0) (bind_some (roots_at (tops ++ note_seen d t ∷ []) items (flat_map section_text xs)) _
    (ts, flat_map section_text (drop (length items) xs))
    (roots_there (tops ++ note_seen d t ∷ []) items xs ts r.2 f.1))
roots_there tops _ _ _ r f = absurd r

no_section : SectionLines
no_section = record { types = []; nodes = [] }

is_end-nil : (bytes : List ℕ) → is_end bytes ≡ true → bytes ≡ []
is_end-nil [] h = refl
is_end-nil (b ∷ bytes) h = absurd (cc)

there : {A : Type 0} (o : Option A) → is_there o ≡ true → (x : A) × (o ≡ Some x)
there (Some x) h = (x, refl)
there None h = absurd (cc)

last_fits : (xs : List SectionLines) (x : SectionLines) → FitSections xs → FitsSection x → FitSections (xs ++ x ∷ [])
last_fits [] x f g = (g, tt)
last_fits (y ∷ xs) x f g = (f.0, last_fits xs x f.1 g)

fits_at : (xs : List SectionLines) (i : ℕ) (x : SectionLines) → FitSections xs → slice_get xs i ≡ Some x
    → FitsSection x
fits_at [] i x f h = absurd (cc)
fits_at (y ∷ xs) zero x f h = let p : y ≡ x = cc in rw (sym p) f.0
fits_at (y ∷ xs) (suc i) x f h = fits_at xs i x f.1 h

pub program_found : (bytes : List ℕ) (p : PureProgram) → certified bytes p ≡ true → Certifies bytes p
program_found bytes p h =
    let t = there (program_judged bytes p) h in
    let b = bound (behind (codes "cert1\n") bytes) _ t.0 t.1 in
    let r = bound (roots_at [] p.items b.0) _ t.0 b.2 in
    let f = roots_found [] p.items b.0 r.0 r.1 in
    let m = bound (root_at (notes_for_main p.items r.0.0) p.body r.0.1) _ t.0 r.2 in
    let c = chosen (same_type m.0.0 (ground_expression p.result) && is_end m.0.1) m.0.0 t.0 m.2 in
    let e = and-both (same_type m.0.0 (ground_expression p.result)) (is_end m.0.1) c.0 in
    let s = root_found (notes_for_main p.items r.0.0) p.body r.0.1 m.0 m.1 in
    let ground = type_same m.0.0 (ground_expression p.result) e.0 in
    let last : r.0.1 ≡ flat_map section_text (s.0 ∷ []) = s.2
    ∙ ap (λ l. section_text s.0 ++ l) (is_end-nil m.0.1 e.1) in (
      f.sections ++ s.0 ∷ [],
      record {
        fits = last_fits f.sections s.0 f.fits s.1;
        text = behind_found (codes "cert1\n") bytes b.0 b.1 ∙ ap (λ l. codes "cert1\n" ++ l) (f.text
            ∙ ap (λ l. flat_map section_text f.sections ++ l) last
            ∙ sym (flat_map-append section_text f.sections (s.0 ∷ [])));
      },
      record {
        roots = r.0.0;
        root_count = f.root_count;
        section_count = length_push f.sections s.0 ∙ ap (λ n. n + 1) f.section_count;
        item = each_right [] p.items (f.sections ++ s.0 ∷ []) r.0.0
            (right_before [] p.items f.sections (s.0 ∷ []) r.0.0 f.right);
        main = λ x k.
            let seam = rw f.section_count at (slice_get-seam f.sections s.0 []) in
            let q = same_Some s.0 x (sym seam ∙ k) in
            rw (sym q) (subst (λ u. Certified (notes_for_main p.items r.0.0) p.body s.0 u) ground s.3);
      },
    )

pub program_there : (bytes : List ℕ) (p : PureProgram) → Certifies bytes p → certified bytes p ≡ true
program_there bytes p h =
    let xs = h.0 in
    let c = h.2 in
    let main_notes = notes_for_main p.items c.roots in
    let right = all_right [] p.items xs c.roots c.root_count (omega (arith, c.section_count)) c.item in
    let x = get_or xs (length p.items) no_section in
    let g = slice_get-get_or xs (length p.items) no_section (omega (arith, c.section_count)) in
    let left = drop_get xs (length p.items) x g
    ∙ ap (λ l. x ∷ l) (drop_all (suc (length p.items)) xs (omega (arith, c.section_count))) in
    let s = root_there main_notes p.body x (ground_expression p.result) []
    (fits_at xs (length p.items) x h.1.fits g) (c.main x g) in
    let last : main_at main_notes p (flat_map section_text (drop (length p.items) xs))
    ≡ Some (ground_expression p.result) =
    ap (λ ys. main_at main_notes p (flat_map section_text ys)) left
    ∙ bind_some (root_at main_notes p.body (section_text x ++ [])) _ (ground_expression p.result, []) s
    ∙ rw (same_type-refl (ground_expression p.result)) refl in
    let all : program_judged (certificate_text xs) p ≡ Some (ground_expression p.result) =
    bind_some (behind (codes "cert1\n") (codes "cert1\n" ++ flat_map section_text xs))
    (λ b. roots_at [] p.items b >>= λ r. main_at (notes_for_main p.items r.0) p r.1)
    (flat_map section_text xs) (behind_there (codes "cert1\n") (flat_map section_text xs))
    ∙ bind_some (roots_at [] p.items (flat_map section_text xs)) (λ r. main_at (notes_for_main p.items r.0) p r.1)
    (c.roots, flat_map section_text (drop (length p.items) xs)) (roots_there [] p.items xs c.roots right h.1.fits)
    ∙ last in
    ap (λ b. is_there (program_judged b p)) h.1.text ∙ ap is_there all
