-- Sections that tell what inference tells of a program's nodes certify the program.
use Rattle.std.proofs.Common.{◌≡◌, ℕ, zero, suc, ◌+◌, ◌<◌, List, [], ◌∷◌, map, length, Some, refl, ap, sym, subst, ◌∙◌}
use Rattle.std.proofs.Common.{arith}
use Rattle.std.specs.Prelude.{slice_get}
use Rattle.mw_term.specs.Terms.{Expression, KernelType}
use Rattle.mw_term.specs.Programs.{Definition, value as defines, kernel, PureProgram}
use Rattle.mw_term.specs.Typing.{TopLevel, let_item, kernel_item}
use Rattle.mw_term.specs.Typable.{seen_by_item, seen_by_main}
use Rattle.mw_term.specs.Parts.{Part, part_of_item, part_of_main, an_item, main, IsResolved}
use Rattle.mw_types.specs.Types.{TypeExpression}
use Rattle.mw_types.specs.Expressions.{ground_expression}
use Rattle.mw_recheck.specs.Sections.{SectionLines}
use Rattle.mw_recheck.specs.Notes.{TopNote, let_root, kernel_root}
use Rattle.mw_recheck.specs.Certificates.{Certified, IsRootOf, notes_for_item, notes_for_main, defined_term}
use Rattle.mw_infer.specs.Schemes.{Scheme, TopScheme, let_scheme, IsInOrder}
use Rattle.mw_infer.specs.Inferring.{IsSchemeOf}
use Rattle.mw_infer.specs.Checking.{AreInOrder, ArePrincipal}
use Rattle.mw_infer.specs.Nodes.{NodeFacts, AreNodesOfPart, AreNodesOf}
use Rattle.mw_infer.proofs.Shifting.{let-of_scheme, kernel-of_scheme}
use Rattle.mw_infer.proofs.Extended.{Extends, IsSchemeOf-extended}
use Rattle.mw_infer.proofs.OneScheme.{one_scheme}
use Rattle.mw_infer.proofs.Progressing.{scoped-source}
use Rattle.mw_agree.specs.Telling.{with_numbers, root_of}
use Rattle.mw_agree.specs.Writing.{IsSectionOf, AreSectionsOf}
use Rattle.mw_agree.specs.CertLaws.{NoCodeUnderCode, InferredAreCertified}
use Rattle.mw_agree.proofs.CertificateRules.{RootsOf}
use Rattle.mw_agree.proofs.Parts.{part-root, part-asked, part-count, part-flat, part-agreed}
use Rattle.mw_agree.proofs.RootSchemes.{root-scheme}
use Rattle.mw_agree.proofs.VisibleNames.{item_sees, main_sees}

-- the root of a section
abbrev section_root : (facts : List NodeFacts) (x : SectionLines) → IsSectionOf facts x → TypeExpression
section_root facts x h = root_of (map (with_numbers h.numbers) facts)

-- those of the items' sections
roots_of : (items : List Definition) (parts : List (List NodeFacts)) (xs : List SectionLines) → AreSectionsOf parts xs
    → List TypeExpression
roots_of [] parts xs h = []
roots_of (d ∷ items) [] [] h = []
roots_of (d ∷ items) [] (x ∷ xs) h = absurd h
roots_of (d ∷ items) (facts ∷ parts) [] h = absurd h
roots_of (d ∷ items) (facts ∷ parts) (x ∷ xs) h = section_root facts x h.0 ∷ roots_of items parts xs h.1

roots-count : (items : List Definition) (parts : List (List NodeFacts)) (xs : List SectionLines)
    (h : AreSectionsOf parts xs) → length parts ≡ length items + 1 → length (roots_of items parts xs h) ≡ length items
unfolding roots_of
roots-count [] parts xs h e = refl
roots-count (d ∷ items) [] [] h e = absurd (omega arith)
roots-count (d ∷ items) [] (x ∷ xs) h e = absurd h
roots-count (d ∷ items) (facts ∷ parts) [] h e = absurd h
roots-count (d ∷ items) (facts ∷ parts) (x ∷ xs) h e = ap suc (roots-count items parts xs h.1 (omega arith))

sections-count : (parts : List (List NodeFacts)) (xs : List SectionLines) → AreSectionsOf parts xs
    → length xs ≡ length parts
sections-count [] [] h = refl
sections-count [] (x ∷ xs) h = absurd h
sections-count (facts ∷ parts) [] h = absurd h
sections-count (facts ∷ parts) (x ∷ xs) h = ap suc (sections-count parts xs h.1)

-- the section at an index, and what it tells
record At (parts : List (List NodeFacts)) (xs : List SectionLines) (i : ℕ) : Type 0 where
  facts : List NodeFacts
  lines : SectionLines
  part : slice_get parts i ≡ Some facts
  section : slice_get xs i ≡ Some lines
  is : IsSectionOf facts lines

section_at : (parts : List (List NodeFacts)) (xs : List SectionLines) → AreSectionsOf parts xs → (i : ℕ)
    (x : SectionLines) → slice_get xs i ≡ Some x → At parts xs i
section_at [] [] h i x e = absurd (cc)
section_at [] (y ∷ xs) h i x e = absurd h
section_at (facts ∷ parts) [] h i x e = absurd h
section_at (facts ∷ parts) (y ∷ xs) h zero x e =
    record { facts = facts; lines = y; part = refl; section = refl; is = h.0 }
section_at (facts ∷ parts) (y ∷ xs) h (suc i) x e = let r = section_at parts xs h.1 i x e in
    record { facts = r.facts; lines = r.lines; part = r.part; section = r.section; is = r.is }

-- the root of an item is that of its section
record RootAt (parts : List (List NodeFacts)) (xs : List SectionLines) (i : ℕ) (t : TypeExpression) : Type 0 where
  there : At parts xs i
  root : t ≡ section_root there.facts there.lines there.is

root_at : (items : List Definition) (parts : List (List NodeFacts)) (xs : List SectionLines)
    (h : AreSectionsOf parts xs) (i : ℕ) (t : TypeExpression) → slice_get (roots_of items parts xs h) i ≡ Some t
    → RootAt parts xs i t
unfolding roots_of
root_at [] parts xs h i t e = absurd (cc)
root_at (d ∷ items) [] [] h i t e = absurd (cc)
root_at (d ∷ items) [] (x ∷ xs) h i t e = absurd h
root_at (d ∷ items) (facts ∷ parts) [] h i t e = absurd h
root_at (d ∷ items) (facts ∷ parts) (x ∷ xs) h zero t e =
    record {
      there = record { facts = facts; lines = x; part = refl; section = refl; is = h.0 };
      root = let p : section_root facts x h.0 ≡ t = cc in sym p;
    }
root_at (d ∷ items) (facts ∷ parts) (x ∷ xs) h (suc i) t e =
    let r = root_at items parts xs h.1 i t e in
    let a = r.there in
    record {
      there = record { facts = a.facts; lines = a.lines; part = a.part; section = a.section; is = a.is };
      root = r.root;
    }

AreInOrder-at : (schemes : List TopScheme) (i : ℕ) (s : Scheme) → AreInOrder schemes → slice_get schemes i
    ≡ Some (let_scheme s) → IsInOrder s
AreInOrder-at [] i s w e = absurd (cc)
AreInOrder-at (let_scheme r ∷ schemes) zero s w e = let p : r ≡ s = cc in subst (λ y. IsInOrder y) p w.0
AreInOrder-at (let_scheme r ∷ schemes) (suc i) s w e = AreInOrder-at schemes i s w.1 e
AreInOrder-at (x ∷ schemes) zero s w e = absurd (cc)
AreInOrder-at (x ∷ schemes) (suc i) s w e = AreInOrder-at schemes i s w e

-- a let that is seen is an earlier item, with its root as its note
record Seen (items : List Definition) (roots : List TypeExpression) (notes : List TopNote) (j : ℕ) (e : Expression)
    : Type 0 where
  item : slice_get items j ≡ Some (defines e)
  root : TypeExpression
  at_root : slice_get roots j ≡ Some root
  note : slice_get notes j ≡ Some (let_root root)

seen_let : (items : List Definition) (roots : List TypeExpression) (i j : ℕ) (e : Expression) → length roots
    ≡ length items → slice_get (seen_by_item items i) j ≡ Some (let_item e)
    → Seen items roots (notes_for_item items roots i) j e × (j < i)
seen_let [] roots i j e n h = absurd (cc)
seen_let (d ∷ items) [] i j e n h = absurd (omega arith)
seen_let (d ∷ items) (t ∷ roots) zero j e n h = absurd (cc)
seen_let (defines f ∷ items) (t ∷ roots) (suc i) zero e n h = let p : f ≡ e = cc in
    (record { item = ap (λ z. Some (defines z)) p; root = t; at_root = refl; note = refl }, omega arith)
seen_let (kernel k f ∷ items) (t ∷ roots) (suc i) zero e n h = absurd (cc)
seen_let (defines f ∷ items) (t ∷ roots) (suc i) (suc j) e n h =
    let q = seen_let items roots i j e (omega arith) h in (
      record { item = q.0.item; root = q.0.root; at_root = q.0.at_root; note = q.0.note },
      omega (arith, q.1),
    )
seen_let (kernel k f ∷ items) (t ∷ roots) (suc i) (suc j) e n h =
    let q = seen_let items roots i j e (omega arith) h in (
      record { item = q.0.item; root = q.0.root; at_root = q.0.at_root; note = q.0.note },
      omega (arith, q.1),
    )

seen_kernel : {X : Type 0} (items : List Definition) (i j : ℕ) (k : KernelType)
    → slice_get (seen_by_item items i) j ≡ Some (kernel_item k) → X
seen_kernel [] i j k h = absurd (cc)
seen_kernel (d ∷ items) zero j k h = absurd (cc)
seen_kernel (defines f ∷ items) (suc i) zero k h = absurd (cc)
seen_kernel (kernel l f ∷ items) (suc i) zero k h = absurd (cc)
seen_kernel (defines f ∷ items) (suc i) (suc j) k h = seen_kernel items i j k h
seen_kernel (kernel l f ∷ items) (suc i) (suc j) k h = seen_kernel items i j k h

main_let : (items : List Definition) (roots : List TypeExpression) (j : ℕ) (e : Expression) → length roots
    ≡ length items → slice_get (seen_by_main items) j ≡ Some (let_item e)
    → Seen items roots (notes_for_main items roots) j e
main_let [] roots j e n h = absurd (cc)
main_let (d ∷ items) [] j e n h = absurd (omega arith)
main_let (defines f ∷ items) (t ∷ roots) zero e n h = let p : f ≡ e = cc in
    record { item = ap (λ z. Some (defines z)) p; root = t; at_root = refl; note = refl }
main_let (kernel k f ∷ items) (t ∷ roots) zero e n h = absurd (cc)
main_let (defines f ∷ items) (t ∷ roots) (suc j) e n h = let q = main_let items roots j e (omega arith) h in
    record { item = q.item; root = q.root; at_root = q.at_root; note = q.note }
main_let (kernel k f ∷ items) (t ∷ roots) (suc j) e n h = let q = main_let items roots j e (omega arith) h in
    record { item = q.item; root = q.root; at_root = q.at_root; note = q.note }

main_kernel : (items : List Definition) (roots : List TypeExpression) (j : ℕ) (k : KernelType) → length roots
    ≡ length items → slice_get (seen_by_main items) j ≡ Some (kernel_item k)
    → slice_get (notes_for_main items roots) j ≡ Some (kernel_root k)
main_kernel [] roots j k n h = absurd (cc)
main_kernel (d ∷ items) [] j k n h = absurd (omega arith)
main_kernel (defines f ∷ items) (t ∷ roots) zero k n h = absurd (cc)
main_kernel (kernel l f ∷ items) (t ∷ roots) zero k n h = let p : l ≡ k = cc in ap (λ z. Some (kernel_root z)) p
main_kernel (defines f ∷ items) (t ∷ roots) (suc j) k n h = main_kernel items roots j k (omega arith) h
main_kernel (kernel l f ∷ items) (t ∷ roots) (suc j) k n h = main_kernel items roots j k (omega arith) h

-- the same section, and the same root, by other names
renamed : (tops : List TopNote) (e : Expression) (lines x : SectionLines) (r t : TypeExpression) → lines ≡ x → r ≡ t
    → Certified tops e lines r → Certified tops e x t
renamed tops e lines x r t p q h = rw (← p, ← q) h

moved : (d : Definition) (tops : List TopNote) (e : Expression) (lines x : SectionLines) (r t : TypeExpression)
    → lines ≡ x → t ≡ r → IsRootOf d r × Certified tops e lines r → IsRootOf d t × Certified tops e x t
moved d tops e lines x r t p q h = rw (← p, q) h

module _ (p : PureProgram) (parts : List (List NodeFacts)) (xs : List SectionLines) (resolved : IsResolved p)
    (nodes : AreNodesOf p parts) (w : AreSectionsOf parts xs) where
  roots : List TypeExpression
  roots = roots_of p.items parts xs w

  count : length roots ≡ length p.items
  unfolding roots
  count = roots-count p.items parts xs w nodes.count

  -- a let's root is the scheme that its users have
  root-is : (j : ℕ) (e : Expression) (r : Scheme) (t : TypeExpression) (names : List TopLevel)
      → slice_get p.items j ≡ Some (defines e) → slice_get roots j ≡ Some t
      → Extends (seen_by_item p.items j) names → IsSchemeOf names e r → IsInOrder r → t ≡ r.type
  unfolding roots
  root-is j e r t names item at_root x scheme order =
      let f = root_at p.items parts xs w j t at_root in
      let part : Part = part_of_item (seen_by_item p.items j) (defines e) in
      let y = nodes.each j part f.there.facts (an_item item) f.there.part in
      let root = part-root part f.there.facts y f.there.is.numbers in
      let k = f.there.is.in_order in
      let s = root-scheme (seen_by_item p.items j) e f.there.facts
      (scoped-source _ _ _ e (resolved.scoped j part (an_item item))) y f.there.is.numbers k.0 k.1 (rw root at k.2) in
      let one = one_scheme names e r _ scheme (IsSchemeOf-extended (seen_by_item p.items j) names x e _ s) order
      (rw root at k.2) in
      let type : Scheme → TypeExpression = λ z. z.type in
      f.root ∙ root ∙ sym (ap type one)

  -- the names that item i sees, and those that main sees
  item-roots : (i : ℕ) (schemes : List TopScheme) → ArePrincipal (seen_by_item p.items i) schemes
      → RootsOf schemes (notes_for_item p.items roots i)
  item-roots i schemes h = record {
    lets = λ j r e.
        let names = seen_by_item p.items i in
        let q = let-of_scheme names names schemes j r h.of e in
        let s = seen_let p.items roots i j q.0 count q.1 in
        let x = item_sees p.items j i s.1 in
        s.0.note ∙ ap (λ z. Some (let_root z)) (root-is j q.0 r s.0.root names s.0.item s.0.at_root x q.2
        (AreInOrder-at schemes j r h.in_order e));
    kernels = λ j k e. let names = seen_by_item p.items i in
        seen_kernel p.items i j k (kernel-of_scheme names names schemes j k h.of e);
  }

  main-roots : (schemes : List TopScheme) → ArePrincipal (seen_by_main p.items) schemes
      → RootsOf schemes (notes_for_main p.items roots)
  main-roots schemes h = record {
    lets = λ j r e.
        let names = seen_by_main p.items in
        let q = let-of_scheme names names schemes j r h.of e in
        let s = main_let p.items roots j q.0 count q.1 in
        let x = main_sees p.items j in
        s.note ∙ ap (λ z. Some (let_root z)) (root-is j q.0 r s.root names s.item s.at_root x q.2
        (AreInOrder-at schemes j r h.in_order e));
    kernels = λ j k e. let names = seen_by_main p.items in
        main_kernel p.items roots j k count (kernel-of_scheme names names schemes j k h.of e);
  }

  -- a section is right for its part
  certified : (x : Part) (tops : List TopNote) (facts : List NodeFacts) (lines : SectionLines)
      (y : AreNodesOfPart x facts) → RootsOf y.schemes tops → (s : IsSectionOf facts lines)
      → Certified tops x.term lines (section_root facts lines s)
  certified x tops facts lines y known s = record {
    types = s.types;
    table = s.table;
    count = s.count ∙ part-count x facts y s.numbers;
    noted = part-agreed x facts y s.numbers tops known
        (record { types = s.types; nodes = lines.nodes }) s.told;
  }

  item : (i : ℕ) (d : Definition) (x : SectionLines) (t : TypeExpression) → slice_get p.items i ≡ Some d
      → slice_get xs i ≡ Some x → slice_get roots i ≡ Some t
      → IsRootOf d t × Certified (notes_for_item p.items roots i) (defined_term d) x t
  unfolding roots
  item i d x t here section at_root =
      let f = root_at p.items parts xs w i t at_root in
      let q : Some f.there.lines ≡ Some x = sym f.there.section ∙ section in
      let z : f.there.lines ≡ x = cc in
      moved d _ (defined_term d) _ x _ t z f.root (of d here f.there.facts f.there.lines f.there.part f.there.is)
    where
      of : (d : Definition) → slice_get p.items i ≡ Some d → (facts : List NodeFacts) (lines : SectionLines)
          → slice_get parts i ≡ Some facts → (s : IsSectionOf facts lines)
          → IsRootOf d (section_root facts lines s)
          × Certified (notes_for_item p.items roots i) (defined_term d) lines (section_root facts lines s)
      of (defines e) here facts lines part s =
          let y = nodes.each i (part_of_item (seen_by_item p.items i) (defines e)) facts (an_item here) part in
          (tt, certified _ _ facts lines y (item-roots i y.schemes y.principal) s)
      of (kernel k e) here facts lines part s =
          let y = nodes.each i (part_of_item (seen_by_item p.items i) (kernel k e)) facts (an_item here) part in
          (part-asked _ facts y s.numbers, certified _ _ facts lines y (item-roots i y.schemes y.principal) s)

  last : (x : SectionLines) → slice_get xs (length p.items) ≡ Some x
      → Certified (notes_for_main p.items roots) p.body x (ground_expression p.result)
  last x section =
      let f = section_at parts xs w (length p.items) x section in
      let q : Some f.lines ≡ Some x = sym f.section ∙ section in
      let z : f.lines ≡ x = cc in
      let y = nodes.each (length p.items) (part_of_main p) f.facts (main refl) f.part in
      let r : section_root f.facts f.lines f.is ≡ ground_expression p.result =
      part-asked (part_of_main p) f.facts y f.is.numbers in
      renamed _ p.body _ x _ _ z r
      (certified (part_of_main p) _ f.facts f.lines y (main-roots y.schemes y.principal) f.is)

pub inferred_certified : InferredAreCertified
inferred_certified p parts xs resolved nodes w = record {
  roots = roots p parts xs resolved nodes w;
  root_count = count p parts xs resolved nodes w;
  section_count = sections-count parts xs w ∙ nodes.count;
  item = λ i d x t a b c. item p parts xs resolved nodes w i d x t a b c;
  main = λ x a. last p parts xs resolved nodes w x a;
}

pub no_code_under_code : NoCodeUnderCode
no_code_under_code x facts r h = part-flat x facts h r
