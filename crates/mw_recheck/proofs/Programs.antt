-- A certified program is typable.
use Rattle.std.proofs.Common.{◌≡◌, ℕ, zero, suc, ◌<◌, List, [], ◌∷◌, length, Some, refl, ap, arith}
use Rattle.std.specs.Prelude.{slice_get}
use Rattle.std.proofs.lemmas.Option.{slice_get_within, slice_get-get_or}
use Rattle.std.proofs.Common.{get_or}
use Rattle.mw_term.specs.Terms.{Expression, KernelType}
use Rattle.mw_term.specs.Types.{int_type, live, kernel_type, ground_type}
use Rattle.mw_term.specs.Typing.{TopLevel, let_item, kernel_item, Typed}
use Rattle.mw_term.specs.Programs.{Definition, value as defines, kernel, PureProgram}
use Rattle.mw_term.specs.Typable.{seen_by_item, seen_by_main, IsTypableItem}
use Rattle.mw_term.proofs.TypesFormed.{IsPlain-kernel_type, IsPlain-ground_type}
use Rattle.mw_term.specs.FlatTypes.{formed_type}
use Rattle.mw_term.proofs.FlatTypes.{formed_type-formed, formed_type-plain, flat_type-plain}
use Rattle.mw_types.specs.Types.{TypeExpression, int_ty, Assignment, value}
use Rattle.mw_types.specs.Expressions.{ground_expression}
use Rattle.mw_types.proofs.Expressions.{value-kernel_expression, value-ground_expression}
use Rattle.mw_recheck.specs.Sections.{SectionLines}
use Rattle.mw_recheck.specs.Notes.{let_root, kernel_root}
use Rattle.mw_recheck.specs.Certificates.{Certified, notes_for_item, notes_for_main, defined_term, CertifiesBy}
use Rattle.mw_recheck.specs.CertificateLaws.{HasValues, CertifiedAreTypable, CertificatesAreTypings}
use Rattle.mw_recheck.proofs.Soundness.{Known, noted_typed}

-- each let that some names show, others show too
abbrev Covers : List TopLevel → List TopLevel → Type 0
Covers names seen = (k : ℕ) (e : Expression) → slice_get seen k ≡ Some (let_item e)
    → slice_get names k ≡ Some (let_item e)

-- a let among what an item knows is an earlier item
record Earlier (items : List Definition) (roots : List TypeExpression) (seen : List TopLevel) (k : ℕ)
    (r : TypeExpression) : Type 0 where
  e : Expression
  item : slice_get items k ≡ Some (defines e)
  root : slice_get roots k ≡ Some r
  name : slice_get seen k ≡ Some (let_item e)

later_let : {items : List Definition} {roots : List TypeExpression} {seen : List TopLevel} {k : ℕ} {r : TypeExpression}
    (d : Definition) (t : TypeExpression) (x : TopLevel) → Earlier items roots seen k r
    → Earlier (d ∷ items) (t ∷ roots) (x ∷ seen) (suc k) r
later_let d t x q = record { e = q.e; item = q.item; root = q.root; name = q.name }

first_let : (items : List Definition) (roots : List TypeExpression) (seen : List TopLevel) (e : Expression)
    (t r : TypeExpression) → t ≡ r → Earlier (defines e ∷ items) (t ∷ roots) (let_item e ∷ seen) 0 r
first_let items roots seen e t r p = record { e = e; item = refl; root = ap (λ x. Some x) p; name = refl }

earlier_let : (items : List Definition) (roots : List TypeExpression) (i k : ℕ) (r : TypeExpression)
    → slice_get (notes_for_item items roots i) k ≡ Some (let_root r)
    → Earlier items roots (seen_by_item items i) k r × (k < i)
earlier_let (defines e ∷ items) (t ∷ roots) (suc i) zero r h =
    (first_let items roots (seen_by_item items i) e t r (cc), omega arith)
earlier_let (defines e ∷ items) (t ∷ roots) (suc i) (suc k) r h =
    let q = earlier_let items roots i k r h in (later_let (defines e) t _ q.0, omega (arith, q.1))
earlier_let (kernel l e ∷ items) (t ∷ roots) (suc i) (suc k) r h =
    let q = earlier_let items roots i k r h in (later_let (kernel l e) t _ q.0, omega (arith, q.1))
earlier_let _ _ _ _ r h = absurd (cc)

no_kernel : {X : Type 0} (items : List Definition) (roots : List TypeExpression) (i k : ℕ) (l : KernelType)
    → slice_get (notes_for_item items roots i) k ≡ Some (kernel_root l) → X
no_kernel (defines e ∷ items) (t ∷ roots) (suc i) (suc k) l h = no_kernel items roots i k l h
no_kernel (kernel q e ∷ items) (t ∷ roots) (suc i) (suc k) l h = no_kernel items roots i k l h
no_kernel _ _ _ _ l h = absurd (cc)

main_let : (items : List Definition) (roots : List TypeExpression) (k : ℕ) (r : TypeExpression)
    → slice_get (notes_for_main items roots) k ≡ Some (let_root r) → Earlier items roots (seen_by_main items) k r
main_let (defines e ∷ items) (t ∷ roots) zero r h = first_let items roots (seen_by_main items) e t r (cc)
main_let (defines e ∷ items) (t ∷ roots) (suc k) r h = later_let (defines e) t _ (main_let items roots k r h)
main_let (kernel l e ∷ items) (t ∷ roots) (suc k) r h = later_let (kernel l e) t _ (main_let items roots k r h)
main_let _ _ _ r h = absurd (cc)

main_kernel : (items : List Definition) (roots : List TypeExpression) (k : ℕ) (l : KernelType)
    → slice_get (notes_for_main items roots) k ≡ Some (kernel_root l)
    → slice_get (seen_by_main items) k ≡ Some (kernel_item l)
main_kernel (defines e ∷ items) (t ∷ roots) (suc k) l h = main_kernel items roots k l h
main_kernel (kernel q e ∷ items) (t ∷ roots) zero l h = let p : q ≡ l = cc in ap (λ x. Some (kernel_item x)) p
main_kernel (kernel q e ∷ items) (t ∷ roots) (suc k) l h = main_kernel items roots k l h
main_kernel _ _ _ l h = absurd (cc)

-- a later item sees what an earlier one sees, and main too
seen_later : (items : List Definition) (k i : ℕ) → k < i → Covers (seen_by_item items i) (seen_by_item items k)
seen_later (d ∷ items) (suc k) zero lt j e h = absurd (omega (arith, lt))
seen_later (defines x ∷ items) (suc k) (suc i) lt zero e h = h
seen_later (defines x ∷ items) (suc k) (suc i) lt (suc j) e h = seen_later items k i (omega (arith, lt)) j e h
seen_later (kernel l x ∷ items) (suc k) (suc i) lt (suc j) e h = seen_later items k i (omega (arith, lt)) j e h
seen_later _ _ _ lt _ e h = absurd (cc)

seen_last : (items : List Definition) (k : ℕ) → Covers (seen_by_main items) (seen_by_item items k)
seen_last (defines x ∷ items) (suc k) zero e h = h
seen_last (defines x ∷ items) (suc k) (suc j) e h = seen_last items k j e h
seen_last (kernel l x ∷ items) (suc k) (suc j) e h = seen_last items k j e h
seen_last _ _ _ e h = absurd (cc)

no_section : SectionLines
no_section = record { types = []; nodes = [] }

least : Assignment
least = record { ty = λ u. int_type; classifier = λ c. c }

module _ (xs : List SectionLines) (p : PureProgram) (c : CertifiesBy xs p) where
  right : (i : ℕ) (d : Definition) (t : TypeExpression) → slice_get p.items i ≡ Some d → slice_get c.roots i ≡ Some t
      → (x : SectionLines) × Certified (notes_for_item p.items c.roots i) (defined_term d) x t
  right i d t h r =
      let within = slice_get_within p.items i d h in
      let s = slice_get-get_or xs i no_section (omega (arith, within, c.section_count)) in
      (get_or xs i no_section, (c.item i d (get_or xs i no_section) t h s r).1)

  root_at : (i : ℕ) (d : Definition) → slice_get p.items i ≡ Some d
      → (t : TypeExpression) × (slice_get c.roots i ≡ Some t)
  root_at i d h = let within = slice_get_within p.items i d h in (
    get_or c.roots i int_ty,
    slice_get-get_or c.roots i int_ty (omega (arith, within, c.root_count)),
  )

  -- each let before item n has its types wherever at least what it sees is seen
  abbrev Before : ℕ → Type 0
  Before n = (i : ℕ) → i < n → (names : List TopLevel) → Covers names (seen_by_item p.items i)
      → (e : Expression) (t : TypeExpression) → slice_get p.items i ≡ Some (defines e) → slice_get c.roots i ≡ Some t
      → (b : Assignment) → Typed names [] live e (formed_type (value b t))

  known_at : (n : ℕ) → Before n → (i : ℕ) → i < suc n → (names : List TopLevel) → Covers names (seen_by_item p.items i)
      → Known names (notes_for_item p.items c.roots i)
  known_at n before i lt names covers = record {
    lets = λ k r h.
        let q = earlier_let p.items c.roots i k r h in (
          q.0.e,
          covers k q.0.e q.0.name,
          λ b. before k (omega (
            arith,
            lt,
            q.1,
          )) names (λ j e g. covers j e (seen_later p.items k i q.1 j e g)) q.0.e r q.0.item q.0.root b,
        );
    kernels = λ k l h. no_kernel p.items c.roots i k l h;
  }

  let_typed : (n : ℕ) → Before n
  let_typed zero i lt names covers e t h r b = absurd (omega (arith, lt))
  let_typed (suc n) i lt names covers e t h r b =
      let x = right i (defines e) t h r in
      noted_typed (record {
        types = x.1.types;
        nodes =
            x.0.nodes;
      }) names (notes_for_item p.items c.roots i) (known_at n
      (let_typed n) i lt names covers) b [] live 0 e t x.1.noted

  known_last : Known (seen_by_main p.items) (notes_for_main p.items c.roots)
  known_last = record {
    lets = λ k r h.
        let q = main_let p.items c.roots k r h in (
          q.e,
          q.name,
          λ b. let_typed (suc k) k (omega arith) (seen_by_main p.items)
              (seen_last p.items k) q.e r q.item q.root b,
        );
    kernels = λ k l h. main_kernel p.items c.roots k l h;
  }

  typable_item : HasValues p → (i : ℕ) (d : Definition) → slice_get p.items i ≡ Some d
      → IsTypableItem (seen_by_item p.items i) d
  typable_item v i (defines e) h =
      let t = root_at i (defines e) h in (
        v i e h,
        formed_type (value least t.0),
        let_typed (suc i) i (omega arith) (seen_by_item p.items i)
            (λ k e g. g) e t.0 h t.1 least,
      )
  typable_item v i (kernel k e) h =
      let t = root_at i (kernel k e) h in
      let within = slice_get_within p.items i (kernel k e) h in
      let s = slice_get-get_or xs i no_section (omega (arith, within, c.section_count)) in
      let x = c.item i (kernel k e) (get_or xs i no_section) t.0 h s t.1 in
      let d = noted_typed (record {
        types = x.1.types;
        nodes =
            (get_or xs i no_section).nodes;
      }) (seen_by_item p.items i) (notes_for_item p.items c.roots i) (known_at i
      (let_typed i) i (omega arith) (seen_by_item p.items i) (λ k e g. g)) least [] live 0 e t.0 x.1.noted in
      rw (x.0, value-kernel_expression least k, flat_type-plain (kernel_type k) (IsPlain-kernel_type k)) at d

  typable_body : Typed (seen_by_main p.items) [] live p.body (ground_type p.result)
  typable_body =
      let s = slice_get-get_or xs (length p.items) no_section (omega (arith, c.section_count)) in
      let x = c.main (get_or xs (length p.items) no_section) s in
      let d = noted_typed (record {
        types = x.types;
        nodes =
            (get_or xs (length p.items) no_section).nodes;
      }) (seen_by_main p.items)
      (notes_for_main p.items c.roots) known_last least [] live 0 p.body (ground_expression p.result) x.noted in
      rw (
        value-ground_expression least p.result,
        formed_type-plain (ground_type p.result)
            (IsPlain-ground_type p.result),
      ) at d

pub certified_are_typable : CertifiedAreTypable
certified_are_typable bytes p v h = record {
  items = λ i d g. typable_item h.0 p h.2 v i d g;
  body = typable_body h.0 p h.2;
}

pub certificates_are_typings : CertificatesAreTypings
certificates_are_typings xs p c i e t b h r f =
    rw (formed_type-formed (value b t) f) at (let_typed xs p c (suc i) i (omega arith) (seen_by_item p.items i)
    (λ k e g. g) e t h r b)
