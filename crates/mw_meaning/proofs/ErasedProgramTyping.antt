-- The erased program of a typable program is typable.
use Rattle.std.proofs.Common.{◌≡◌, ℕ, zero, suc, ◌+◌, ◌<◌, List, [], ◌∷◌, length, Some, refl, ap, ◌∙◌, sym, subst}
use Rattle.std.proofs.Common.{arith}
use Rattle.std.specs.Prelude.{slice_get}
use Rattle.mw_term.specs.Terms.{Expression, KernelType, num, truth, glob, fun, fix, pair}
use Rattle.mw_term.specs.Sources.{IsSource}
use Rattle.mw_term.specs.Types.{TermType, live, Entry, value, ground_type, kernel_type}
use Rattle.mw_term.specs.Typing.{TopLevel, let_item, kernel_item, Typed, t_bind}
use Rattle.mw_term.specs.Typable.{seen_by_item, seen_by_main, IsTypableItem, Typable}
use Rattle.mw_term.specs.Programs.{Definition, value as defines, kernel, PureProgram, IsSyntacticValue}
use Rattle.mw_meaning.specs.PlainTerms.{PlainTerm, num, truth, glob, fun, fix, pair}
use Rattle.mw_meaning.specs.Erasure.{plain, term_of}
use Rattle.mw_meaning.specs.ErasedPrograms.{Naming, renamed, kernels_in, name_in, lets_of, inside_lets, AreSourceItems}
use Rattle.mw_meaning.specs.ErasedPrograms.{IsSourceProgram}
use Rattle.mw_meaning.specs.ErasureLaws.{ErasedProgramIsTypable}
use Rattle.mw_meaning.proofs.SettingValues.{seen_by_item-let, seen_by_main-let, seen_by_main-kernel}
use Rattle.mw_meaning.proofs.OtherPlaces.{no_kernel}
use Rattle.mw_meaning.proofs.ErasedTyping.{plain_type, plain_type-kernel_type, plain_type-ground_type, AllNames}
use Rattle.mw_meaning.proofs.ErasedTyping.{names_typed, LetStays, KernelStays, erased_typed}

-- item i is a let
abbrev pub IsLetOf : List Definition → ℕ → Type 0
IsLetOf items i = (e : Expression) × (slice_get items i ≡ Some (defines e))

-- a let is seen behind it
pub let-seen_by_item : (items : List Definition) (i j : ℕ) (e : Expression) → j < i → slice_get items j
    ≡ Some (defines e) → slice_get (seen_by_item items i) j ≡ Some (let_item e)
let-seen_by_item (d ∷ items) zero j e lt h = absurd (omega arith)
let-seen_by_item (defines d ∷ items) (suc i) zero e lt h = let p : d ≡ e = cc in rw p refl
let-seen_by_item (_ ∷ items) (suc i) (suc j) e lt h = let-seen_by_item items i j e (omega arith) h
let-seen_by_item _ i j e lt h = absurd (cc)

pub let-seen_by_main : (items : List Definition) (j : ℕ) (e : Expression) → slice_get items j ≡ Some (defines e)
    → slice_get (seen_by_main items) j ≡ Some (let_item e)
let-seen_by_main (defines d ∷ items) zero e h = let p : d ≡ e = cc in rw p refl
let-seen_by_main (_ ∷ items) (suc j) e h = let-seen_by_main items j e h
let-seen_by_main _ j e h = absurd (cc)

pub source_at : (items : List Definition) (i : ℕ) (e : Expression) → AreSourceItems items → slice_get items i
    ≡ Some (defines e) → IsSource e
source_at (defines d ∷ items) zero e s h = let p : d ≡ e = cc in subst IsSource p s.0
source_at (_ ∷ items) (suc i) e s h = source_at items i e s.1 h
source_at _ i e s h = absurd (cc)

pub kernel_source_at : (items : List Definition) (i : ℕ) (k : KernelType) (e : Expression) → AreSourceItems items
    → slice_get items i ≡ Some (kernel k e) → IsSource e
kernel_source_at (kernel t d ∷ items) zero k e s h = let p : d ≡ e = cc in subst IsSource p s.0
kernel_source_at (_ ∷ items) (suc i) k e s h = kernel_source_at items i k e s.1 h
kernel_source_at _ i k e s h = absurd (cc)

-- where a let stands among the lets, which begin with l
pub record LetPlace (r : Naming) (items : List Definition) (l i : ℕ) (e : Expression) (most : ℕ) : Type 0 where
  pub place : ℕ
  pub low : place < most
  pub named : (d : ℕ) → name_in items l d i ≡ glob (l + place)
  pub there : slice_get (lets_of r items) place ≡ Some (defines (term_of (renamed r zero (plain e))))

later : {r : Naming} {items : List Definition} {l i : ℕ} {e d : Expression} {most : ℕ}
    → LetPlace r items (suc l) i e most → LetPlace r (defines d ∷ items) l (suc i) e (suc most)
later {l = l} h = record {
  place = suc h.place;
  low = omega (arith, h.low);
  named = λ d. h.named d
      ∙ (let p : suc l + h.place ≡ l + suc h.place = omega arith in ap glob p);
  there = h.there;
}

at_first : {r : Naming} {items : List Definition} {l most : ℕ} {d e : Expression} → d ≡ e
    → LetPlace r (defines d ∷ items) l zero e (suc most)
at_first {l = l} p = record {
  place = zero;
  low = omega arith;
  named = λ d. (let q : l ≡ l + zero = omega arith in ap glob q);
  there = rw p refl;
}

past_kernel : {r : Naming} {items : List Definition} {l i : ℕ} {e d : Expression} {k : KernelType} {most : ℕ}
    → LetPlace r items l i e most → LetPlace r (kernel k d ∷ items) l (suc i) e most
past_kernel h = record { place = h.place; low = h.low; named = h.named; there = h.there }

pub let_place : (r : Naming) (items : List Definition) (l i : ℕ) (e : Expression) → slice_get items i ≡ Some (defines e)
    → LetPlace r items l i e (length (lets_of r items))
let_place r (defines d ∷ items) l zero e h = let p : d ≡ e = cc in at_first p
let_place r (defines d ∷ items) l (suc i) e h = later (let_place r items (suc l) i e h)
let_place r (kernel k d ∷ items) l (suc i) e h = past_kernel (let_place r items l i e h)
let_place r _ l i e h = absurd (cc)

-- the let that a let of the erased program comes from, with the places of those before it
pub record LetOrigin (r : Naming) (items : List Definition) (l j : ℕ) (d : Definition) : Type 0 where
  pub place : ℕ
  pub definition : Expression
  pub there : slice_get items place ≡ Some (defines definition)
  pub is : d ≡ defines (term_of (renamed r zero (plain definition)))
  pub before : (i : ℕ) (e : Expression) → i < place → slice_get items i ≡ Some (defines e) → LetPlace r items l i e j

pub let_origin : (r : Naming) (items : List Definition) (l j : ℕ) (d : Definition) → slice_get (lets_of r items) j
    ≡ Some d → LetOrigin r items l j d
let_origin r [] l j d h = absurd (cc)
let_origin r (defines e ∷ items) l zero d h =
    let p : d ≡ defines (term_of (renamed r zero (plain e))) = cc in
    record { place = zero; definition = e; there = refl; is = p; before = λ i x lt q. absurd (omega (arith, lt)) }
let_origin r (defines e ∷ items) l (suc j) d h =
    let p = let_origin r items (suc l) j d h in
    record { place = suc p.place; definition = p.definition; there = p.there; is = p.is; before = before p }
  where
    before : (p : LetOrigin r items (suc l) j d) (i : ℕ) (x : Expression) → i < suc p.place
        → slice_get (defines e ∷ items) i ≡ Some (defines x) → LetPlace r (defines e ∷ items) l i x (suc j)
    before p zero x lt q = let w : e ≡ x = cc in at_first w
    before p (suc i) x lt q = later (p.before i x (omega arith) q)
let_origin r (kernel k e ∷ items) l j d h =
    let p = let_origin r items l j d h in
    record { place = suc p.place; definition = p.definition; there = p.there; is = p.is; before = before p }
  where
    before : (p : LetOrigin r items l j d) (i : ℕ) (x : Expression) → i < suc p.place → slice_get (kernel k e ∷ items) i
        ≡ Some (defines x) → LetPlace r (kernel k e ∷ items) l i x j
    before p zero x lt q = absurd (cc)
    before p (suc i) x lt q = past_kernel (p.before i x (omega arith) q)

-- a syntactic value is one after erasure
syntactic : (r : Naming) (e : Expression) → IsSyntacticValue e → IsSyntacticValue (term_of (renamed r zero (plain e)))
syntactic r (num n) h = tt
syntactic r (truth b) h = tt
syntactic r (fun e) h = tt
syntactic r (fix e) h = tt
syntactic r (pair a b) h = (syntactic r a h.0, syntactic r b h.1)
syntactic r _ h = absurd h

-- the entries of the kernels' lets, inside them
abbrev entries : List Definition → List Entry → List Entry
entries [] g = g
entries (defines e ∷ items) g = entries items g
entries (kernel k e ∷ items) g = entries items (value (kernel_type k) ∷ g)

entries-get : (items : List Definition) (g : List Entry) (n : ℕ) → slice_get (entries items g) (kernels_in items + n)
    ≡ slice_get g n
entries-get [] g n = let p : zero + n ≡ n = omega arith in ap (λ i. slice_get g i) p
entries-get (defines e ∷ items) g n = entries-get items g n
entries-get (kernel k e ∷ items) g n = let p : suc (kernels_in items) + n ≡ kernels_in items + suc n = omega arith in
    ap (λ i. slice_get (entries items (value (kernel_type k) ∷ g)) i) p ∙ entries-get items (value (kernel_type k) ∷ g)
    (suc n)

kernel_stays : (items : List Definition) (l : ℕ) (g : List Entry) (i : ℕ) (k : KernelType) (e : Expression)
    → slice_get items i ≡ Some (kernel k e) → KernelStays (name_in items l) (entries items g) i k
kernel_stays [] l g i k e h = absurd (cc)
kernel_stays (defines d ∷ items) l g zero k e h = absurd (cc)
kernel_stays (defines d ∷ items) l g (suc i) k e h = let p = kernel_stays items (suc l) g i k e h in
    record { number = p.number; named = p.named; there = p.there }
kernel_stays (kernel t d ∷ items) l g zero k e h =
    let p : t ≡ k = cc in
    record {
      number = kernels_in items;
      named = λ d. refl;
      there =
          (let q : kernels_in items ≡ kernels_in items + zero = omega arith in
          ap (λ i. slice_get (entries items (value (kernel_type t) ∷ g)) i) q)
          ∙ entries-get items (value (kernel_type t) ∷ g) zero ∙ ap (λ t. Some (value (kernel_type t))) p;
    }
kernel_stays (kernel t d ∷ items) l g (suc i) k e h = let p = kernel_stays items l (value (kernel_type t) ∷ g) i k e
    h in record { number = p.number; named = p.named; there = p.there }

module _ (p : PureProgram) (source : IsSourceProgram p) (typable : Typable p) where
  abbrev pub r : Naming
  r = name_in p.items zero

  abbrev pub erased_lets : List Definition
  erased_lets = lets_of r p.items

  abbrev pub IsLet : ℕ → Type 0
  IsLet i = IsLetOf p.items i

  -- the names in an item are those of lets
  pub item_names : (i : ℕ) (e : Expression) (t : TermType) → IsSource e → Typed (seen_by_item p.items i) [] live e t
      → AllNames IsLet (plain e)
  item_names i e t s h = names_typed IsLet (λ j d q. (d, (seen_by_item-let p.items i j d q).0))
      (λ j k q. absurd (no_kernel p.items i j k q)) s h

  pub let_names : (i : ℕ) (e : Expression) → slice_get p.items i ≡ Some (defines e) → AllNames IsLet (plain e)
  let_names i e h =
      let d : IsTypableItem (seen_by_item p.items i) (defines e) = typable.items i (defines e) h in
      item_names i e d.1 (source_at p.items i e source.items h) d.2

  stays_in : (names : List TopLevel) (i : ℕ) (e : Expression) (most : ℕ) → slice_get p.items i ≡ Some (defines e)
      → (q : LetPlace r p.items zero i e most)
      → (slice_get erased_lets q.place ≡ Some (defines (term_of (renamed r zero (plain e)))) → slice_get names q.place
      ≡ Some (let_item (term_of (renamed r zero (plain e))))) → LetStays names r IsLet i e
  stays_in names i e most h q seen = record {
    number = q.place;
    named = λ d. q.named d ∙ (let z : zero + q.place ≡ q.place = omega arith in ap glob z);
    there = seen q.there;
    source = source_at p.items i e source.items h;
    lets = let_names i e h;
  }

  -- a let, in the erased program's main
  let_in_main : (j : ℕ) (e : Expression) → slice_get p.items j ≡ Some (defines e)
      → LetStays (seen_by_main erased_lets) r IsLet j e
  let_in_main j e h =
      let w = let_place r p.items zero j e h in
      stays_in (seen_by_main erased_lets) j e (length erased_lets) h w (λ z. let-seen_by_main erased_lets w.place _ z)

  no_kernel_in_main : (i : ℕ) (t : KernelType) → IsLet i → slice_get (seen_by_main p.items) i ≡ Some (kernel_item t) → ⊥
  no_kernel_in_main i t h q = let w = seen_by_main-kernel p.items i t q in let x = h.1 in let y = w.1 in cc

  -- a kernel's definition, inside any lets
  pub kernel_typed : (i : ℕ) (k : KernelType) (e : Expression) (g : List Entry) → slice_get p.items i
      ≡ Some (kernel k e) → Typed (seen_by_main erased_lets) g live (term_of (renamed r zero (plain e))) (kernel_type k)
  kernel_typed i k e g h =
      let d : IsTypableItem (seen_by_item p.items i) (kernel k e) = typable.items i (kernel k e) h in
      let s = kernel_source_at p.items i k e source.items h in
      subst (λ t. Typed (seen_by_main erased_lets) g live (term_of (renamed r zero (plain e))) t)
      (plain_type-kernel_type k)
      (erased_typed (seen_by_item p.items i) (seen_by_main erased_lets) r IsLet
      (λ j e h. let_in_main j e (seen_by_item-let p.items i j e h).0) (λ j t h q. no_kernel p.items i j t q) g
      IsLet (λ j t x q. absurd (no_kernel p.items i j t q)) s (item_names i e _ s d) d)

  inside_typed : (items : List Definition) (g : List Entry) (b : PlainTerm) (t : TermType)
      → ((i : ℕ) (k : KernelType) (e : Expression) (g : List Entry) → slice_get items i ≡ Some (kernel k e)
      → Typed (seen_by_main erased_lets) g live (term_of (renamed r zero (plain e))) (kernel_type k))
      → Typed (seen_by_main erased_lets) (entries items g) live (term_of b) t → Typed (seen_by_main erased_lets) g live
      (term_of (inside_lets r items b)) t
  inside_typed [] g b t ks h = h
  inside_typed (defines e ∷ items) g b t ks h = inside_typed items g b t (λ i k e g q. ks (suc i) k e g q) h
  inside_typed (kernel k e ∷ items) g b t ks h =
      t_bind (ks zero k e g refl) (inside_typed items (value (kernel_type k) ∷ g) b t (λ i k e g q. ks (suc i) k e g q)
      h)

  main_typed : Typed (seen_by_main erased_lets) [] live
      (term_of (inside_lets r p.items (renamed r zero (plain p.body)))) (ground_type p.result)
  main_typed =
      inside_typed p.items [] (renamed r zero (plain p.body)) (ground_type p.result) kernel_typed
      (subst (λ t. Typed (seen_by_main erased_lets) (entries p.items []) live (term_of (renamed r zero (plain p.body)))
      t) (plain_type-ground_type p.result)
      (erased_typed (seen_by_main p.items) (seen_by_main erased_lets) r IsLet
      (λ j e h. let_in_main j e (seen_by_main-let p.items j e h)) no_kernel_in_main
      (entries p.items []) (λ i. Unit {0})
      (λ i t x q. let w = seen_by_main-kernel p.items i t q in kernel_stays p.items zero [] i t w.0 w.1) source.body
      (names_typed (λ i. Unit {0}) (λ i e q. tt) (λ i k q. tt) source.body typable.body) typable.body))

  item_typed : (j : ℕ) (d : Definition) → slice_get erased_lets j ≡ Some d → IsTypableItem (seen_by_item erased_lets j)
      d
  item_typed j d h = subst (λ d. IsTypableItem (seen_by_item erased_lets j) d) (sym o.is)
      (syntactic r o.definition x.0, plain_type x.1, y)
    where
      o : LetOrigin r p.items zero j d
      o = let_origin r p.items zero j d h

      x : IsTypableItem (seen_by_item p.items o.place) (defines o.definition)
      x = typable.items o.place (defines o.definition) o.there

      s : IsSource o.definition
      s = source_at p.items o.place o.definition source.items o.there

      in_item : (i : ℕ) (e : Expression) → slice_get (seen_by_item p.items o.place) i ≡ Some (let_item e)
          → LetStays (seen_by_item erased_lets j) r IsLet i e
      in_item i e q =
          let z = seen_by_item-let p.items o.place i e q in
          let w = o.before i e z.1 z.0 in
          stays_in (seen_by_item erased_lets j) i e j z.0 w (λ y. let-seen_by_item erased_lets j w.place _ w.low y)

      y : Typed (seen_by_item erased_lets j) [] live (term_of (renamed r zero (plain o.definition))) (plain_type x.1)
      y = erased_typed (seen_by_item p.items o.place) (seen_by_item erased_lets j) r IsLet in_item
          (λ i t h q. no_kernel p.items o.place i t q) [] IsLet (λ i t q h. absurd (no_kernel p.items o.place i t h)) s
          (item_names o.place o.definition x.1 s x.2) x.2

pub erased_program_is_typable : ErasedProgramIsTypable
erased_program_is_typable p s h = record { items = item_typed p s h; body = main_typed p s h }
