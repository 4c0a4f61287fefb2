-- The principal schemes of the names that the next item sees, and of those that main sees.
use Rattle.std.proofs.Common.{◌≡◌, ℕ, zero, suc, List, [], ◌∷◌, ◌++◌, length, Some, refl, ap}
use Rattle.std.specs.Prelude.{slice_get}
use Rattle.mw_term.specs.Terms.{Expression, KernelType}
use Rattle.mw_term.specs.Programs.{Definition, value, kernel}
use Rattle.mw_term.specs.Typing.{TopLevel, let_item, kernel_item, out_of_scope}
use Rattle.mw_term.specs.Typable.{seen_by_item, seen_by_main}
use Rattle.mw_infer.specs.Schemes.{Scheme, TopScheme, let_scheme, kernel_scheme, scheme_out_of_scope, IsInOrder, AreOwn}
use Rattle.mw_infer.specs.Inferring.{IsSchemeOf, IsSchemeOfName, AreSchemesOf}
use Rattle.mw_infer.specs.Checking.{AreInOrder, ArePrincipal}
use Rattle.mw_infer.proofs.Extended.{Extends, AreSchemesOf-extended, IsSchemeOf-extended}

-- what the items after an item see of it
abbrev pub name_of : Definition → TopLevel
name_of (value e) = let_item e
name_of (kernel k e) = out_of_scope

pub seen-first : (items : List Definition) → seen_by_item items zero ≡ []
seen-first [] = refl
seen-first (value e ∷ items) = refl
seen-first (kernel k e ∷ items) = refl

pub seen-next : (items : List Definition) (i : ℕ) (d : Definition) → slice_get items i ≡ Some d
    → seen_by_item items (suc i) ≡ seen_by_item items i ++ (name_of d ∷ [])
seen-next [] i d e = absurd (cc)
seen-next (value f ∷ items) zero d e = let p : value f ≡ d = cc in rw (← p, seen-first items) refl
seen-next (kernel k f ∷ items) zero d e = let p : kernel k f ≡ d = cc in rw (← p, seen-first items) refl
seen-next (value f ∷ items) (suc i) d e = ap (λ z. let_item f ∷ z) (seen-next items i d e)
seen-next (kernel k f ∷ items) (suc i) d e = ap (λ z. out_of_scope ∷ z) (seen-next items i d e)

get-append : {A : Type 0} (xs ys : List A) (i : ℕ) (x : A) → slice_get xs i ≡ Some x → slice_get (xs ++ ys) i ≡ Some x
get-append [] ys i x e = absurd (cc)
get-append (z ∷ xs) ys zero x e = e
get-append (z ∷ xs) ys (suc i) x e = get-append xs ys i x e

Extends-append : (names more : List TopLevel) → Extends names (names ++ more)
Extends-append names more = record {
  lets = λ i e p. get-append names more i (let_item e) p;
  kernels = λ i k p.
      get-append names more i (kernel_item k) p;
}

AreSchemesOf-append : (tops names : List TopLevel) (schemes : List TopScheme) (n : TopLevel) (x : TopScheme)
    → AreSchemesOf tops names schemes → IsSchemeOfName tops n x → AreSchemesOf tops (names ++ (n ∷ []))
    (schemes ++ (x ∷ []))
AreSchemesOf-append tops [] [] n x h p = (p, tt)
AreSchemesOf-append tops [] (y ∷ schemes) n x h p = absurd h
AreSchemesOf-append tops (m ∷ names) [] n x h p = absurd h
AreSchemesOf-append tops (m ∷ names) (y ∷ schemes) n x h p = (h.0, AreSchemesOf-append tops names schemes n x h.1 p)

AreInOrder-let : (schemes : List TopScheme) (s : Scheme) → AreInOrder schemes → IsInOrder s
    → AreInOrder (schemes ++ (let_scheme s ∷ []))
AreInOrder-let [] s h p = (p, tt)
AreInOrder-let (let_scheme r ∷ schemes) s h p = (h.0, AreInOrder-let schemes s h.1 p)
AreInOrder-let (kernel_scheme k ∷ schemes) s h p = AreInOrder-let schemes s h p
AreInOrder-let (scheme_out_of_scope ∷ schemes) s h p = AreInOrder-let schemes s h p

AreInOrder-none : (schemes : List TopScheme) → AreInOrder schemes → AreInOrder (schemes ++ (scheme_out_of_scope ∷ []))
AreInOrder-none [] h = tt
AreInOrder-none (let_scheme r ∷ schemes) h = (h.0, AreInOrder-none schemes h.1)
AreInOrder-none (kernel_scheme k ∷ schemes) h = AreInOrder-none schemes h
AreInOrder-none (scheme_out_of_scope ∷ schemes) h = AreInOrder-none schemes h

pub principal-first : (items : List Definition) → ArePrincipal (seen_by_item items zero) []
principal-first items = rw (seen-first items) (record { of = tt; in_order = tt })

pub principal-let : (items : List Definition) (i : ℕ) (e : Expression) (schemes : List TopScheme) (s : Scheme)
    → slice_get items i ≡ Some (value e) → ArePrincipal (seen_by_item items i) schemes
    → IsSchemeOf (seen_by_item items i) e s → IsInOrder s → ArePrincipal (seen_by_item items (suc i))
    (schemes ++ (let_scheme s ∷ []))
principal-let items i e schemes s g h p q =
    let names = seen_by_item items i in
    let more = names ++ (let_item e ∷ []) in
    let x = Extends-append names (let_item e ∷ []) in
    rw (seen-next items i (value e) g) (record {
      of = AreSchemesOf-append more names schemes (let_item e) (let_scheme s)
          (AreSchemesOf-extended names more x names schemes h.of) (IsSchemeOf-extended names more x e s p);
      in_order = AreInOrder-let schemes s h.in_order q;
    })

pub principal-kernel : (items : List Definition) (i : ℕ) (k : KernelType) (e : Expression) (schemes : List TopScheme)
    → slice_get items i ≡ Some (kernel k e) → ArePrincipal (seen_by_item items i) schemes
    → ArePrincipal (seen_by_item items (suc i)) (schemes ++ (scheme_out_of_scope ∷ []))
principal-kernel items i k e schemes g h =
    let names = seen_by_item items i in
    let more = names ++ (out_of_scope ∷ []) in
    let x = Extends-append names (out_of_scope ∷ []) in
    rw (seen-next items i (kernel k e) g) (record {
      of = AreSchemesOf-append more names schemes out_of_scope scheme_out_of_scope
          (AreSchemesOf-extended names more x names schemes h.of) tt;
      in_order = AreInOrder-none schemes h.in_order;
    })

-- the schemes with those of the kernel items
abbrev pub revealed : List Definition → List TopScheme → List TopScheme
revealed [] schemes = schemes
revealed (d ∷ items) [] = []
revealed (value e ∷ items) (s ∷ schemes) = s ∷ revealed items schemes
revealed (kernel k e ∷ items) (s ∷ schemes) = kernel_scheme k ∷ revealed items schemes

lets-main : (items : List Definition) (i : ℕ) (e : Expression) → slice_get (seen_by_item items (length items)) i
    ≡ Some (let_item e) → slice_get (seen_by_main items) i ≡ Some (let_item e)
lets-main [] i e p = absurd (cc)
lets-main (value f ∷ items) zero e p = p
lets-main (kernel k f ∷ items) zero e p = absurd (cc)
lets-main (value f ∷ items) (suc i) e p = lets-main items i e p
lets-main (kernel k f ∷ items) (suc i) e p = lets-main items i e p

kernels-main : (items : List Definition) (i : ℕ) (k : KernelType) → slice_get (seen_by_item items (length items)) i
    ≡ Some (kernel_item k) → slice_get (seen_by_main items) i ≡ Some (kernel_item k)
kernels-main [] i k p = absurd (cc)
kernels-main (value f ∷ items) zero k p = absurd (cc)
kernels-main (kernel l f ∷ items) zero k p = absurd (cc)
kernels-main (value f ∷ items) (suc i) k p = kernels-main items i k p
kernels-main (kernel l f ∷ items) (suc i) k p = kernels-main items i k p

AreSchemesOf-revealed : (tops : List TopLevel) (items : List Definition) (schemes : List TopScheme)
    → AreSchemesOf tops (seen_by_item items (length items)) schemes → AreSchemesOf tops (seen_by_main items)
    (revealed items schemes)
AreSchemesOf-revealed tops [] schemes h = h
AreSchemesOf-revealed tops (value e ∷ items) [] h = absurd h
AreSchemesOf-revealed tops (kernel k e ∷ items) [] h = absurd h
AreSchemesOf-revealed tops (value e ∷ items) (s ∷ schemes) h = (h.0, AreSchemesOf-revealed tops items schemes h.1)
AreSchemesOf-revealed tops (kernel k e ∷ items) (s ∷ schemes) h = (refl, AreSchemesOf-revealed tops items schemes h.1)

AreInOrder-revealed : (items : List Definition) (schemes : List TopScheme) → AreInOrder schemes
    → AreInOrder (revealed items schemes)
AreInOrder-revealed [] schemes h = h
AreInOrder-revealed (value e ∷ items) (let_scheme s ∷ schemes) h = (h.0, AreInOrder-revealed items schemes h.1)
AreInOrder-revealed (kernel k e ∷ items) (let_scheme s ∷ schemes) h = AreInOrder-revealed items schemes h.1
AreInOrder-revealed (d ∷ items) (s ∷ schemes) h = AreInOrder-revealed items schemes h
AreInOrder-revealed (d ∷ items) [] h = tt

pub principal-main : (items : List Definition) (schemes : List TopScheme)
    → ArePrincipal (seen_by_item items (length items)) schemes → ArePrincipal (seen_by_main items)
    (revealed items schemes)
principal-main items schemes h =
    let names = seen_by_item items (length items) in
    let all = seen_by_main items in
    record {
      of = AreSchemesOf-revealed all items schemes
          (AreSchemesOf-extended names all (record { lets = lets-main items; kernels = kernels-main items }) names
          schemes h.of);
      in_order = AreInOrder-revealed items schemes h.in_order;
    }

-- principal schemes name their own numbers alone
AreOwn-schemes : (tops names : List TopLevel) (schemes : List TopScheme) → AreSchemesOf tops names schemes
    → AreOwn schemes
AreOwn-schemes tops [] [] h = tt
AreOwn-schemes tops [] (s ∷ schemes) h = absurd h
AreOwn-schemes tops (x ∷ names) [] h = absurd h
AreOwn-schemes tops (let_item e ∷ names) (let_scheme s ∷ schemes) h =
    (h.0.within, AreOwn-schemes tops names schemes h.1)
AreOwn-schemes tops (kernel_item k ∷ names) (kernel_scheme l ∷ schemes) h = AreOwn-schemes tops names schemes h.1
AreOwn-schemes tops (out_of_scope ∷ names) (scheme_out_of_scope ∷ schemes) h = AreOwn-schemes tops names schemes h.1
AreOwn-schemes tops (x ∷ names) (s ∷ schemes) h = absurd h.0

pub principal-own : (names : List TopLevel) (schemes : List TopScheme) → ArePrincipal names schemes → AreOwn schemes
principal-own names schemes h = AreOwn-schemes names names schemes h.of
