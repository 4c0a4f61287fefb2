-- A program has one refusal at most, and none where its types are well and small.
use Rattle.std.proofs.Common.{◌≡◌, ℕ, zero, suc, ◌<◌, List, [], ◌∷◌, take, length, Some, refl, ap, sym, subst, ◌∙◌}
use Rattle.std.proofs.Common.{arith}
use Rattle.std.specs.Prelude.{slice_get}
use Rattle.mw_term.specs.Programs.{Definition, value, kernel, PureProgram}
use Rattle.mw_term.specs.Types.{live}
use Rattle.mw_term.specs.Typing.{TopLevel, let_item, kernel_item, out_of_scope}
use Rattle.mw_term.specs.Typable.{seen_by_item, IsTypableItem, Typable}
use Rattle.mw_term.specs.declared.refusal.Refusal.{Refusal}
use Rattle.mw_types.specs.Types.{Assignment}
use Rattle.mw_types.specs.Equations.{TypeEquation, Solves, TooBig, Fine}
use Rattle.mw_types.proofs.Faults.{one_fault, small_of_fine}
use Rattle.mw_types.proofs.Smallest.{too_big_not_small}
use Rattle.mw_infer.specs.Schemes.{TopScheme, let_scheme, kernel_scheme, scheme_out_of_scope}
use Rattle.mw_term.specs.Sources.{IsSource}
use Rattle.mw_infer.specs.Inferring.{item_unknowns, item_classifiers, item_closes, IsTypableAt, item_equations}
use Rattle.mw_infer.specs.Inferring.{AreSchemesOf}
use Rattle.mw_term.specs.Parts.{Part, part_of_main, IsPart, an_item, main}
use Rattle.mw_infer.specs.Checking.{AreInOrder, ArePrincipal, TypeFault, not_closed, HasFault, unsolvable, oversized}
use Rattle.mw_infer.specs.Checking.{unclosed, IsFaultless, IsFirstRefusal, AreFaultless, NoneTooBig, IsWritten}
use Rattle.mw_infer.proofs.Items.{typable-solvable, typable-fresh}
use Rattle.mw_infer.proofs.OneScheme.{one_scheme}
use Rattle.mw_infer.proofs.FirstOpen.{closes-below, first_open-one, first_open-none}

-- the principal schemes of names are one list
schemes-one : (tops names : List TopLevel) (s r : List TopScheme) → AreSchemesOf tops names s
    → AreSchemesOf tops names r → AreInOrder s → AreInOrder r → s ≡ r
schemes-one tops [] [] [] h k p q = refl
schemes-one tops [] [] (y ∷ r) h k p q = absurd k
schemes-one tops [] (x ∷ s) r h k p q = absurd h
schemes-one tops (n ∷ names) [] r h k p q = absurd h
schemes-one tops (n ∷ names) (x ∷ s) [] h k p q = absurd k
schemes-one tops (let_item e ∷ names) (let_scheme x ∷ s) (let_scheme y ∷ r) h k p q =
    rw (one_scheme tops e x y h.0 k.0 p.0 q.0, schemes-one tops names s r h.1 k.1 p.1 q.1) refl
schemes-one tops (kernel_item l ∷ names) (kernel_scheme i ∷ s) (kernel_scheme j ∷ r) h k p q =
    rw (let z : i ≡ j = sym h.0 ∙ k.0 in z, schemes-one tops names s r h.1 k.1 p q) refl
schemes-one tops (out_of_scope ∷ names) (scheme_out_of_scope ∷ s) (scheme_out_of_scope ∷ r) h k p q =
    rw (schemes-one tops names s r h.1 k.1 p q) refl
schemes-one tops (let_item e ∷ names) (let_scheme x ∷ s) (y ∷ r) h k p q = absurd k.0
schemes-one tops (kernel_item l ∷ names) (kernel_scheme i ∷ s) (y ∷ r) h k p q = absurd k.0
schemes-one tops (out_of_scope ∷ names) (scheme_out_of_scope ∷ s) (y ∷ r) h k p q = absurd k.0
schemes-one tops (n ∷ names) (x ∷ s) (y ∷ r) h k p q = absurd h.0

pub principal-one : (names : List TopLevel) (s r : List TopScheme) → ArePrincipal names s → ArePrincipal names r → s ≡ r
principal-one names s r h k = schemes-one names names s r h.of k.of h.in_order k.in_order

-- one part stands at an index
pub get-length : {A : Type 0} (xs : List A) (x : A) → slice_get xs (length xs) ≡ Some x → ⊥
get-length [] x e = absurd (cc)
get-length (y ∷ xs) x e = get-length xs x e

pub part-one : (p : PureProgram) {i : ℕ} {x y : Part} → IsPart p i x → IsPart p i y → x ≡ y
part-one p {i = i} (an_item {d = d} a) (an_item {d = e} b) = let z : Some d ≡ Some e = sym a ∙ b in let q : d ≡ e =
    cc in rw q refl
part-one p {i = i} (an_item {d = d} a) (main b) = absurd (get-length p.items d (rw b at a))
part-one p {i = i} (main a) (an_item {d = d} b) = absurd (get-length p.items d (rw a at b))
part-one p {i = i} (main a) (main b) = refl

Solves-take : (a : Assignment) (es : List TypeEquation) (k : ℕ) → Solves a es → Solves a (take k es)
Solves-take a [] zero h = tt
Solves-take a [] (suc k) h = tt
Solves-take a (e ∷ es) zero h = tt
Solves-take a (e ∷ es) (suc k) h = (h.0, Solves-take a es k h.1)

-- a part with a type that its place asks has no fault, unless a type of it is too big
typable-fault : (x : Part) (schemes : List TopScheme) {f : TypeFault} → AreSchemesOf x.names x.names schemes
    → IsSource x.term
    → ((k : ℕ) → TooBig (item_unknowns schemes x.term) (item_classifiers schemes x.term)
    (take k (item_equations schemes x.place x.term)) → ⊥) → IsTypableAt x.names x.place x.term
    → HasFault schemes x.place x.term f → ⊥
typable-fault x schemes known source small t (unsolvable {k = k} h) = let a = typable-solvable x.names schemes known
    x.term source x.place t in h.unsolvable (a.0, Solves-take a.0 (item_equations schemes x.place x.term) k a.1)
typable-fault x schemes known source small t (oversized {k = k} h) = small k h.too_big
typable-fault x schemes known source small t (unclosed {s = s} {y = y} g l o) =
    first_open-none s (item_closes schemes x.term) y (typable-fresh x.names schemes known x.term source s x.place g t) o

-- each front of fine equations is small
fine-front : {n m : ℕ} (es : List TypeEquation) → Fine n m es → (k : ℕ) → TooBig n m (take k es) → ⊥
fine-front es f k b = let s = small_of_fine f in
    too_big_not_small b (record { by = s.by; solves = Solves-take s.by es k s.solves; small = s.small })

faultless-small : (x : Part) (schemes : List TopScheme) → ArePrincipal x.names schemes → IsFaultless x → (k : ℕ)
    → TooBig (item_unknowns schemes x.term) (item_classifiers schemes x.term)
    (take k (item_equations schemes x.place x.term)) → ⊥
faultless-small x schemes p h k f =
    let fine = subst (λ z. Fine (item_unknowns z x.term) (item_classifiers z x.term) (item_equations z x.place x.term))
    (principal-one x.names h.schemes schemes h.principal p) h.fine in
    fine-front (item_equations schemes x.place x.term) fine k f

pub faultless-fault : (x : Part) (schemes : List TopScheme) {f : TypeFault} → ArePrincipal x.names schemes
    → IsSource x.term → IsFaultless x → HasFault schemes x.place x.term f → ⊥
faultless-fault x schemes p source h f = typable-fault x schemes p.of source (faultless-small x schemes p h) h.typable f

-- a part has one fault at most
fault-one : (x : Part) (schemes : List TopScheme) {f g : TypeFault} → HasFault schemes x.place x.term f
    → HasFault schemes x.place x.term g → f ≡ g
fault-one x schemes (unsolvable a) (unsolvable b) = refl
fault-one x schemes (unsolvable {k = j} a) (oversized {k = k} b) =
    absurd ((one_fault (item_unknowns schemes x.term) (item_classifiers schemes x.term)
    (item_equations schemes x.place x.term)).apart j k a b)
fault-one x schemes (oversized {k = j} a) (unsolvable {k = k} b) =
    absurd ((one_fault (item_unknowns schemes x.term) (item_classifiers schemes x.term)
    (item_equations schemes x.place x.term)).apart k j b a)
fault-one x schemes (oversized a) (oversized b) = refl
fault-one x schemes (unsolvable {k = k} a) (unclosed {s = s} g l o) =
    absurd ((one_fault (item_unknowns schemes x.term) (item_classifiers schemes x.term)
    (item_equations schemes x.place x.term)).fine_unsolvable k (s, g, l) a)
fault-one x schemes (oversized {k = k} a) (unclosed {s = s} g l o) =
    absurd ((one_fault (item_unknowns schemes x.term) (item_classifiers schemes x.term)
    (item_equations schemes x.place x.term)).fine_too_big k (s, g, l) a)
fault-one x schemes (unclosed {s = s} g l o) (unsolvable {k = k} a) =
    absurd ((one_fault (item_unknowns schemes x.term) (item_classifiers schemes x.term)
    (item_equations schemes x.place x.term)).fine_unsolvable k (s, g, l) a)
fault-one x schemes (unclosed {s = s} g l o) (oversized {k = k} a) =
    absurd ((one_fault (item_unknowns schemes x.term) (item_classifiers schemes x.term)
    (item_equations schemes x.place x.term)).fine_too_big k (s, g, l) a)
fault-one x schemes (unclosed {s = s} {y = y} g l o) (unclosed {s = r} {y = z} h i q) =
    ap (λ v. not_closed v.at) (first_open-one (item_unknowns schemes x.term) (item_classifiers schemes x.term)
    (item_equations schemes x.place x.term) s r (item_closes schemes x.term) y z g h
    (closes-below schemes (item_unknowns schemes x.term) (item_classifiers schemes x.term) 1 0 [] live x.term
    (omega arith) (omega arith) tt tt) o q)

fault-here : (p : PureProgram) (i : ℕ) (x y : Part) (s r : List TopScheme) (f g : TypeFault) → IsPart p i x
    → IsPart p i y → ArePrincipal x.names s → ArePrincipal y.names r → HasFault s x.place x.term f
    → HasFault r y.place y.term g → f ≡ g
fault-here p i x y s r f g a b u v h k =
    let z : y ≡ x = part-one p b a in
    let w = subst (λ y. ArePrincipal y.names r) z v in
    fault-one x s h
    (subst (λ r. HasFault r x.place x.term g) (principal-one x.names r s w u)
    (subst (λ y. HasFault r y.place y.term g) z k))

data Order (i j : ℕ) : Type 0 where
  before : i < j → Order i j
  equal : i ≡ j → Order i j
  behind : j < i → Order i j

order : (i j : ℕ) → Order i j
order zero zero = equal refl
order zero (suc j) = before (omega arith)
order (suc i) zero = behind (omega arith)
order (suc i) (suc j) =
    elim (order i j) [ before p ↦ before (omega arith) | equal p ↦ equal (ap suc p) | behind p ↦ behind (omega arith) ]

module _ (p : PureProgram) (written : IsWritten p) where
  refusal-earlier : {q r : Refusal} → (a : IsFirstRefusal p q) → (b : IsFirstRefusal p r) → a.at < b.at → ⊥
  refusal-earlier a b lt = faultless-fault a.part a.schemes a.principal (written.sources a.at a.part a.is_part)
      (b.earlier a.at a.part lt a.is_part) a.has

  pub refusal-one : (q r : Refusal) → IsFirstRefusal p q → IsFirstRefusal p r → q ≡ r
  refusal-one q r a b = elim (order a.at b.at) [
    | before lt ↦ absurd (refusal-earlier a b lt)
    | behind lt ↦ absurd (refusal-earlier b a lt)
    | equal e ↦ a.refusal
        ∙ rw (
          e,
          fault-here p b.at a.part b.part a.schemes b.schemes a.fault b.fault
              (subst (λ i. IsPart p i a.part) e a.is_part) b.is_part a.principal b.principal a.has b.has,
        ) refl ∙ sym b.refusal
  ]

  pub faultless-refused : (r : Refusal) → AreFaultless p → IsFirstRefusal p r → ⊥
  faultless-refused r h a = faultless-fault a.part a.schemes a.principal (written.sources a.at a.part a.is_part)
      (h a.at a.part a.is_part) a.has

  typable-part : Typable p → {i : ℕ} {x : Part} → IsPart p i x → IsTypableAt x.names x.place x.term
  typable-part h (an_item {i = i} {d = value e} a) = let q = h.items i (value e) a in (q.1, q.2)
  typable-part h (an_item {i = i} {d = kernel k e} a) = h.items i (kernel k e) a
  typable-part h (main a) = h.body

  pub faultless-typable : AreFaultless p → Typable p
  faultless-typable h = record { items = go; body = (h (length p.items) (part_of_main p) (main refl)).typable }
    where
      go : (i : ℕ) (d : Definition) → slice_get p.items i ≡ Some d → IsTypableItem (seen_by_item p.items i) d
      go i (value e) a = let q = (h i _ (an_item a)).typable in (written.values i e a, q.0, q.1)
      go i (kernel k e) a = (h i _ (an_item a)).typable

  pub faultless-none_too_big : AreFaultless p → NoneTooBig p
  faultless-none_too_big h i x schemes k a q f = faultless-small x schemes q (h i x a) k f

  pub typable-refused : (r : Refusal) → Typable p → NoneTooBig p → IsFirstRefusal p r → ⊥
  typable-refused r h small a = typable-fault a.part a.schemes a.principal.of (written.sources a.at a.part a.is_part)
      (λ k f. small a.at a.part a.schemes k a.is_part a.principal f) (typable-part h a.is_part) a.has
