-- One item more, and main.
use Rattle.std.proofs.Common.{◌≡◌, ℕ, zero, suc, ◌+◌, ◌<◌, ◌≤◌, List, [], ◌∷◌, ◌++◌, map, length, get_or, Option, Some}
use Rattle.std.proofs.Common.{refl, ap, sym, subst, ◌∙◌, arith}
use Rattle.std.proofs.lemmas.List.{length-append, length-map}
use Rattle.std.proofs.lemmas.Option.{slice_get_within}
use Rattle.std.specs.Prelude.{slice_get, slice_set}
use Rattle.mw_term.specs.Terms.{Expression, KernelType}
use Rattle.mw_term.specs.Programs.{Definition, value, kernel, PureProgram, program_of, definition_of}
use Rattle.mw_term.specs.Typing.{TopLevel, let_item, kernel_item, out_of_scope}
use Rattle.mw_term.specs.Typable.{seen_by_item, seen_by_main}
use Rattle.mw_term.specs.declared.program.Item.{Item}
use Rattle.mw_term.specs.declared.program.Program.{Program}
use Rattle.mw_term.specs.declared.refusal.Refusal.{Refusal}
use Rattle.mw_term.specs.declared.refusal.Stop.{Stop}
use Rattle.mw_term.specs.declared.refusal.Stop.TheVariants.{Refused, Memory}
use Rattle.mw_types.specs.Types.{TypeExpression}
use Rattle.mw_infer.specs.Schemes.{TopScheme, let_scheme, kernel_scheme, scheme_out_of_scope, type_of_scheme}
use Rattle.mw_types.specs.Expressions.{ground_expression}
use Rattle.mw_term.specs.Parts.{main_place}
use Rattle.mw_infer.specs.Inferring.{AreSchemesOf}
use Rattle.mw_term.specs.Stops.{IfRefused}
use Rattle.mw_term.specs.Parts.{Part, part_of_item, part_of_main, IsPart, an_item, main, IsResolved}
use Rattle.mw_infer.specs.Checking.{ArePrincipal, IsFaultless, IsFirstRefusal, AreFaultless, IsTypeOf, AreTypesOf}
use Rattle.mw_types.proofs.InOrder.{low, last, low_or_last}
use Rattle.mw_infer.specs.Judging.{CanJudge}
use Rattle.mw_infer.specs.Typings.{PartTypes}
use Rattle.mw_infer.specs.Progress.{Progress, IsFaultOf, Steps, Ends, revealed_to}
use Rattle.mw_infer.specs.Views.{scheme_of}
use Rattle.mw_infer.proofs.Extended.{Extends, Typed-extended, Typed-back}
use Rattle.mw_infer.proofs.Growing.{principal-first, principal-let, principal-kernel, principal-main, revealed}
use Rattle.mw_infer.proofs.Progressing.{scoped-source, can-judge, fine-faultless, fine-scheme, modest-let, modest-none}
use Rattle.mw_infer.proofs.Progressing.{modest-revealed}
use Rattle.mw_infer.proofs.Refusals.{part-one}
use Rattle.mw_infer.proofs.Shifting.{scheme-of_let, scheme-of_kernel}

pub earlier-next : (p : PureProgram) (i : ℕ) (y : Part) → ((j : ℕ) (x : Part) → j < i → IsPart p j x → IsFaultless x)
    → IsPart p i y → IsFaultless y → (j : ℕ) (x : Part) → j < suc i → IsPart p j x → IsFaultless x
earlier-next p i y h a f j x lt b = elim (low_or_last i j lt) [
  | low k ↦ h j x k b
  | last e ↦ subst (λ z. IsFaultless z) (part-one p (subst (λ n. IsPart p n y) (sym e) a) b) f
]

pub progress-first : (p : PureProgram) → Progress p 0 []
progress-first p =
    record { principal = principal-first p.items; modest = tt; earlier = λ j x lt a. absurd (omega arith) }

step-on : (p : PureProgram) (i : ℕ) (d : Definition) (schemes new : List TopScheme) (nodes : Option PartTypes)
    → IsResolved p
    → slice_get p.items i ≡ Some d → Progress p i schemes → Steps schemes d new nodes → Progress p (suc i) new
step-on p i (value e) schemes new nodes w g h s =
    let names = seen_by_item p.items i in
    let a : IsPart p i (part_of_item names (value e)) = an_item g in
    let source = scoped-source _ [] _ e (w.scoped i _ a) in
    let n = s.1.3 in
    rw s.2 (record {
      principal = principal-let p.items i e schemes (scheme_of s.0.known) g h.principal
          (fine-scheme names schemes e s.0 h.principal source s.1) n.in_order;
      modest = modest-let schemes (scheme_of s.0.known) h.modest n.unknowns n.classifiers;
      earlier = earlier-next p i _ h.earlier a (fine-faultless _ schemes s.0 h.principal source s.1);
    })
step-on p i (kernel k e) schemes new nodes w g h s =
    let names = seen_by_item p.items i in
    let a : IsPart p i (part_of_item names (kernel k e)) = an_item g in
    let source = scoped-source _ [] _ e (w.scoped i _ a) in
    rw s.2 (record {
      principal = principal-kernel p.items i k e schemes g h.principal;
      modest = modest-none schemes h.modest;
      earlier = earlier-next p i _ h.earlier a (fine-faultless _ schemes s.0 h.principal source s.1);
    })

pub progress-next : (p : PureProgram) (i : ℕ) (d : Definition) (schemes new : List TopScheme) (nodes : Option PartTypes)
    → IsResolved p → slice_get p.items i ≡ Some d → Progress p i schemes → Steps schemes d new nodes
    → Progress p (i + 1) new
progress-next p i d schemes new nodes w g h s = let e : i + 1 ≡ suc i = omega arith in
    rw e (step-on p i d schemes new nodes w g h s)

-- an item that is next can be judged, and its fault is the program's first refusal
pub item-judged : (p : PureProgram) (i : ℕ) (d : Definition) (schemes : List TopScheme) → IsResolved p
    → slice_get p.items i ≡ Some d → Progress p i schemes → CanJudge schemes (part_of_item [] d).term
item-judged p i (value e) schemes w g h = let a : IsPart p i (part_of_item (seen_by_item p.items i) (value e)) =
    an_item g in can-judge _ schemes e h.principal h.modest (w.scoped i _ a) (w.small i _ a)
item-judged p i (kernel k e) schemes w g h = let a : IsPart p i (part_of_item (seen_by_item p.items i) (kernel k e)) =
    an_item g in can-judge _ schemes e h.principal h.modest (w.scoped i _ a) (w.small i _ a)

-- a fault of a part is the first refusal where the parts before it have none
pub refused-part : (p : PureProgram) (i : ℕ) (x : Part) (schemes : List TopScheme) (r : Refusal) → IsPart p i x
    → ArePrincipal x.names schemes → ((j : ℕ) (y : Part) → j < i → IsPart p j y → IsFaultless y)
    → IsFaultOf schemes x.place x.term i r → IsFirstRefusal p r
refused-part p i x schemes r a q e f = record {
  at = i;
  part = x;
  is_part = a;
  schemes = schemes;
  principal = q;
  fault = f.0;
  has = f.1;
  refusal = f.2;
  earlier = e;
}

pub item-refused : (p : PureProgram) (i : ℕ) (d : Definition) (schemes : List TopScheme) (r : Refusal)
    → slice_get p.items i ≡ Some d → Progress p i schemes → IsFaultOf schemes (part_of_item [] d).place
    (part_of_item [] d).term i r → IsFirstRefusal p r
item-refused p i (value e) schemes r g h f = refused-part p i _ schemes r (an_item g) h.principal h.earlier f
item-refused p i (kernel k e) schemes r g h f = refused-part p i _ schemes r (an_item g) h.principal h.earlier f

-- the same of main, which sees the kernel items
pub all-revealed : (items : List Definition) (schemes : List TopScheme) → revealed_to (length items) items schemes
    ≡ revealed items schemes
all-revealed [] schemes = refl
all-revealed (value e ∷ items) [] = refl
all-revealed (kernel k e ∷ items) [] = refl
all-revealed (value e ∷ items) (s ∷ schemes) = ap (λ z. s ∷ z) (all-revealed items schemes)
all-revealed (kernel k e ∷ items) (s ∷ schemes) = ap (λ z. kernel_scheme k ∷ z) (all-revealed items schemes)

pub main-judged : (p : PureProgram) (schemes : List TopScheme) → IsResolved p → Progress p (length p.items) schemes
    → CanJudge (revealed p.items schemes) p.body
main-judged p schemes w h =
    let a : IsPart p (length p.items) (part_of_main p) = main refl in
    can-judge (seen_by_main p.items) (revealed p.items schemes) p.body (principal-main p.items schemes h.principal)
    (modest-revealed p.items schemes h.modest) (w.scoped _ _ a) (w.small _ _ a)

pub main-refused : (p : PureProgram) (schemes : List TopScheme) (r : Refusal) → Progress p (length p.items) schemes
    → IsFaultOf (revealed p.items schemes) (main_place p.result) p.body (length p.items) r → IsFirstRefusal p r
main-refused p schemes r h f = refused-part p (length p.items) (part_of_main p) (revealed p.items schemes) r (main refl)
    (principal-main p.items schemes h.principal) h.earlier f

pub all-faultless : (p : PureProgram) (schemes : List TopScheme) → Progress p (length p.items) schemes
    → IsFaultless (part_of_main p) → AreFaultless p
all-faultless p schemes h f j x a = part-faultless a
  where
    part-faultless : {i : ℕ} {x : Part} → IsPart p i x → IsFaultless x
    part-faultless (an_item {i = i} {d = d} g) = h.earlier i _ (slice_get_within p.items i d g) (an_item g)
    part-faultless (main e) = f

pub main-faultless : (p : PureProgram) (schemes : List TopScheme) (nodes : Option PartTypes) → IsResolved p
    → Progress p (length p.items) schemes → Ends (revealed p.items schemes) p.result p.body nodes → AreFaultless p
main-faultless p schemes nodes w h j =
    let b : IsPart p (length p.items) (part_of_main p) = main refl in
    all-faultless p schemes h
    (fine-faultless (part_of_main p) (revealed p.items schemes) j.0 (principal-main p.items schemes h.principal)
    (scoped-source _ [] _ p.body (w.scoped _ _ b)) j.1)

-- a kernel item that is revealed
set-same : (xs : List TopScheme) (n : ℕ) (items : List Definition) (e : Expression) → slice_get items n ≡ Some (value e)
    → revealed_to (suc n) items xs ≡ revealed_to n items xs
set-same xs n [] e g = absurd (cc)
set-same [] zero (d ∷ items) e g = refl
set-same [] (suc n) (d ∷ items) e g = refl
set-same (x ∷ xs) zero (value f ∷ items) e g = refl
set-same (x ∷ xs) zero (kernel k f ∷ items) e g = absurd (cc)
set-same (x ∷ xs) (suc n) (value f ∷ items) e g = ap (λ z. x ∷ z) (set-same xs n items e g)
set-same (x ∷ xs) (suc n) (kernel k f ∷ items) e g = ap (λ z. kernel_scheme k ∷ z) (set-same xs n items e g)

set-kernel : (xs : List TopScheme) (n : ℕ) (items : List Definition) (k : KernelType) (e : Expression)
    → slice_get items n ≡ Some (kernel k e) → slice_set (revealed_to n items xs) n (kernel_scheme k)
    ≡ revealed_to (suc n) items xs
set-kernel xs n [] k e g = absurd (cc)
set-kernel [] zero (d ∷ items) k e g = refl
set-kernel [] (suc n) (d ∷ items) k e g = refl
set-kernel (x ∷ xs) zero (value f ∷ items) k e g = absurd (cc)
set-kernel (x ∷ xs) zero (kernel l f ∷ items) k e g = let p : l ≡ k = cc in rw p refl
set-kernel (x ∷ xs) (suc n) (value f ∷ items) k e g = ap (λ z. x ∷ z) (set-kernel xs n items k e g)
set-kernel (x ∷ xs) (suc n) (kernel l f ∷ items) k e g = ap (λ z. kernel_scheme l ∷ z) (set-kernel xs n items k e g)

pub reveal-value : (xs ys : List TopScheme) (n : ℕ) (items : List Definition) (e : Expression) → slice_get items n
    ≡ Some (value e) → ys ≡ revealed_to n items xs → ys ≡ revealed_to (n + 1) items xs
reveal-value xs ys n items e g h = let i : n + 1 ≡ suc n = omega arith in rw i (h ∙ sym (set-same xs n items e g))

map-set : {A B : Type 0} (f : A → B) (xs : List A) (n : ℕ) (x : A) → map f (slice_set xs n x) ≡ slice_set (map f xs) n
    (f x)
map-set f [] n x = refl
map-set f (y ∷ xs) zero x = refl
map-set f (y ∷ xs) (suc n) x = ap (λ z. f y ∷ z) (map-set f xs n x)

pub reveal-kernel : {A : Type 0} (f : A → TopScheme) (xs : List TopScheme) (ys : List A) (n : ℕ)
    (items : List Definition) (k : KernelType) (e : Expression) (x : A) → slice_get items n ≡ Some (kernel k e)
    → f x ≡ kernel_scheme k → map f ys ≡ revealed_to n items xs → map f (slice_set ys n x) ≡ revealed_to (n + 1) items
    xs
reveal-kernel f xs ys n items k e x g p h = let i : n + 1 ≡ suc n = omega arith in
    rw i (map-set f ys n x ∙ rw (h, p) (set-kernel xs n items k e g))

-- an item at its place
pub get-map : {A B : Type 0} (f : A → B) (xs : List A) (i : ℕ) (x : A) → i < length xs → x ≡ get_or xs i x
    → slice_get (map f xs) i ≡ Some (f x)
get-map f [] i x lt e = absurd (omega arith)
get-map f (y ∷ xs) zero x lt e = ap (λ z. Some (f z)) (sym e)
get-map f (y ∷ xs) (suc i) x lt e = get-map f xs i x (omega arith) e

-- the types of all parts, by the schemes of main's names
Extends-item : (items : List Definition) (i : ℕ) → Extends (seen_by_item items i) (seen_by_main items)
Extends-item items i = record {
  lets = λ j e g. seen-main items i j (let_item e) g (λ q. cc);
  kernels = λ j k g. seen-main items i j (kernel_item k) g (λ q. cc);
}
  where
    seen-main : (items : List Definition) (i j : ℕ) (x : TopLevel) → slice_get (seen_by_item items i) j ≡ Some x
        → (x ≡ out_of_scope → ⊥) → slice_get (seen_by_main items) j ≡ Some x
    seen-main [] i j x g n = absurd (cc)
    seen-main (value f ∷ items) zero j x g n = absurd (cc)
    seen-main (kernel k f ∷ items) zero j x g n = absurd (cc)
    seen-main (value f ∷ items) (suc i) zero x g n = g
    seen-main (kernel k f ∷ items) (suc i) zero x g n = absurd (n (cc))
    seen-main (value f ∷ items) (suc i) (suc j) x g n = seen-main items i j x g n
    seen-main (kernel k f ∷ items) (suc i) (suc j) x g n = seen-main items i j x g n

main-at : (items : List Definition) (i : ℕ) (e : Expression) → slice_get items i ≡ Some (value e)
    → slice_get (seen_by_main items) i ≡ Some (let_item e)
main-at [] i e g = absurd (cc)
main-at (value f ∷ items) zero e g = let p : f ≡ e = cc in rw p refl
main-at (kernel k f ∷ items) zero e g = absurd (cc)
main-at (value f ∷ items) (suc i) e g = main-at items i e g
main-at (kernel k f ∷ items) (suc i) e g = main-at items i e g

main-at-kernel : (items : List Definition) (i : ℕ) (k : KernelType) (e : Expression) → slice_get items i
    ≡ Some (kernel k e) → slice_get (seen_by_main items) i ≡ Some (kernel_item k)
main-at-kernel [] i k e g = absurd (cc)
main-at-kernel (value f ∷ items) zero k e g = absurd (cc)
main-at-kernel (kernel l f ∷ items) zero k e g = let p : l ≡ k = cc in rw p refl
main-at-kernel (value f ∷ items) (suc i) k e g = main-at-kernel items i k e g
main-at-kernel (kernel l f ∷ items) (suc i) k e g = main-at-kernel items i k e g

length-main : (tops : List TopLevel) (items : List Definition) (schemes : List TopScheme)
    → AreSchemesOf tops (seen_by_main items) schemes → length schemes ≡ length items
length-main tops [] [] h = refl
length-main tops [] (s ∷ schemes) h = absurd h
length-main tops (value e ∷ items) [] h = absurd h
length-main tops (kernel k e ∷ items) [] h = absurd h
length-main tops (value e ∷ items) (s ∷ schemes) h = ap suc (length-main tops items schemes h.1)
length-main tops (kernel k e ∷ items) (s ∷ schemes) h = ap suc (length-main tops items schemes h.1)

type-at : (schemes : List TopScheme) (main_type t : TypeExpression) (i : ℕ) (s : TopScheme) → slice_get schemes i
    ≡ Some s → slice_get (map type_of_scheme schemes ++ (main_type ∷ [])) i ≡ Some t → t ≡ type_of_scheme s
type-at [] main_type t i s g e = absurd (cc)
type-at (x ∷ schemes) main_type t zero s g e = let p : x ≡ s = cc in let q : type_of_scheme x ≡ t = cc in sym q
    ∙ ap (λ z. type_of_scheme z) p
type-at (x ∷ schemes) main_type t (suc i) s g e = type-at schemes main_type t i s g e

type-last : (schemes : List TopScheme) (main_type t : TypeExpression)
    → slice_get (map type_of_scheme schemes ++ (main_type ∷ [])) (length schemes) ≡ Some t → t ≡ main_type
type-last [] main_type t e = cc
type-last (x ∷ schemes) main_type t e = type-last schemes main_type t e

pub types-of : (p : PureProgram) (schemes : List TopScheme) → AreFaultless p → ArePrincipal (seen_by_main p.items)
    schemes → AreTypesOf p (map type_of_scheme schemes ++ (ground_expression p.result ∷ []))
types-of p schemes h q =
    record {
      count = length-append (map type_of_scheme schemes) (ground_expression p.result ∷ [])
          ∙ ap (λ n. n + 1) (length-map schemes type_of_scheme ∙ length-main _ p.items schemes q.of);
      each = λ i x t a g. part-type a t g;
    }
  where
    part-type : {i : ℕ} {x : Part} → IsPart p i x → (t : TypeExpression)
        → slice_get (map type_of_scheme schemes ++ (ground_expression p.result ∷ [])) i ≡ Some t → IsTypeOf x x.place t
    part-type (an_item {i = i} {d = value e} a) t g =
        let names = seen_by_main p.items in
        let own = seen_by_item p.items i in
        let x = Extends-item p.items i in
        let s = scheme-of_let names names schemes i e q.of (main-at p.items i e a) in
        let z = type-at schemes (ground_expression p.result) t i (let_scheme s.0) s.1 g in
        let d = (h i _ (an_item a)).typable in
        rw z (λ u. (
          (λ k. (s.2.types u).0 (Typed-extended own names x k)),
          (λ k. Typed-back own names x d.1 ((s.2.types u).1 k)),
        ))
    part-type (an_item {i = i} {d = kernel k e} a) t g =
        let names = seen_by_main p.items in
        type-at schemes (ground_expression p.result) t i (kernel_scheme k)
        (scheme-of_kernel names names schemes i k q.of (main-at-kernel p.items i k e a)) g
    part-type (main {i = i} e) t g = type-last schemes (ground_expression p.result) t
        (rw (e ∙ sym (length-main _ p.items schemes q.of)) at g)

pub steps-length : (schemes : List TopScheme) (d : Definition) (new : List TopScheme) (nodes : Option PartTypes)
    → Steps schemes d new nodes → length new ≡ length schemes + 1
steps-length schemes (value e) new nodes s =
    ap length s.2 ∙ length-append schemes (let_scheme (scheme_of s.0.known) ∷ [])
steps-length schemes (kernel k e) new nodes s = ap length s.2 ∙ length-append schemes (scheme_out_of_scope ∷ [])

pub if-refused : (s : Stop) (f g : Refusal → Type 0) → ((r : Refusal) → f r → g r) → IfRefused f s → IfRefused g s
if-refused (Refused r) f g h x = h r x
if-refused (Memory e) f g h x = tt

-- after the last item
pub record AtEnd (p : PureProgram) (schemes new : List TopScheme) (i : ℕ) : Type 0 where
  pub progress : Progress p (length p.items) schemes
  pub shown : new ≡ revealed p.items schemes
  pub index : i ≡ length p.items

at-end : (p : PureProgram) (k i : ℕ) (schemes new : List TopScheme) → k ≡ length p.items → k ≤ i → i ≤ k
    → Progress p i schemes → new ≡ revealed_to k p.items schemes → AtEnd p schemes new i
at-end p k i schemes new e a b h r =
    let n : i ≡ length p.items = omega (arith, e, a, b) in
    record {
      progress = subst (λ j. Progress p j schemes) n h;
      shown = r ∙ ap (λ j. revealed_to j p.items schemes) e
          ∙ all-revealed p.items schemes;
      index = n;
    }

-- the same of the items of a program, as they are read
pub item-at : (q : Program) {xs : List Item} {i : ℕ} {x : Item} → xs ≡ q.items → i < length xs → x ≡ get_or xs i x
    → slice_get (program_of q).items i ≡ Some (definition_of x.kind)
item-at q {i = i} {x = x} e lt g = get-map (λ y. definition_of y.kind) q.items i x (rw e at lt) (rw e at g)

pub ended : (q : Program) {xs : List Item} {i : ℕ} {schemes new : List TopScheme} → xs ≡ q.items → length xs ≤ i
    → i ≤ length xs → Progress (program_of q) i schemes
    → new ≡ revealed_to (length xs) (map (λ y. definition_of y.kind) xs) schemes → AtEnd (program_of q) schemes new i
ended q {i = i} {schemes = schemes} {new = new} e a b h r =
    at-end (program_of q) (length q.items) i schemes new (sym (length-map q.items (λ y. definition_of y.kind)))
    (rw e at a) (rw e at b) h (rw e at r)
