-- A program's first fault, and its first refusal.
use Rattle.std.proofs.Common.{◌≡◌, inl, inr, ℕ, List, [], length, Option, Some, None, IfSome, refl, sym, subst, arith}
use Rattle.std.specs.Prelude.{◌<◌, Result, Ok, Err, IfOk, slice_get}
use Rattle.mw_term.specs.Terms.{Expression}
use Rattle.mw_term.specs.Parts.{Place, main_place, Part, part_of_item, part_of_main, IsPart, an_item, main, IsResolved}
use Rattle.mw_term.specs.Programs.{Definition, value, kernel, PureProgram}
use Rattle.mw_term.specs.Sources.{IsSource}
use Rattle.mw_term.specs.Typable.{seen_by_item}
use Rattle.mw_term.specs.declared.refusal.Refusal.{Refusal}
use Rattle.mw_infer.specs.Checking.{ArePrincipal, TypeFault, ill_typed, too_big, not_closed, HasFault, unsolvable}
use Rattle.mw_infer.specs.Checking.{oversized, unclosed, IsFaultless, IsFirstRefusal, refusal_of}
use Rattle.mw_infer.specs.Faults.{Has, HasNone, FaultyAt, IsFaultOfProgram, IsFor, IsFaultOrMemory, part_at}
use Rattle.mw_infer.specs.Progress.{Progress, IsFaultOf}
use Rattle.mw_infer.specs.Schemes.{TopScheme}
use Rattle.mw_infer.specs.declared.faults.PartFault.{PartFault}
use Rattle.mw_infer.specs.declared.faults.PartFault.TheVariants.{Equations, Close}
use Rattle.mw_infer.proofs.Growing.{principal-main, revealed}
use Rattle.mw_infer.proofs.Items.{fresh-typable}
use Rattle.mw_infer.proofs.Progressing.{scoped-source, resolved-written}
use Rattle.mw_infer.proofs.Refusals.{faultless-fault, faultless-refused, refusal-one}
use Rattle.mw_infer.proofs.Stepping.{refused-part, all-faultless}

-- a fault and the refusal for it
fault-of : (schemes : List TopScheme) (place : Place) (e : Expression) (x : PartFault) → Has schemes place e x
    → (f : TypeFault) × HasFault schemes place e f × IsFor (refusal_of (part_at x) f) x
fault-of schemes place e (Equations x) h = elim h.0.fails [
  | inl q ↦ (
    ill_typed,
    unsolvable {k = x.front} (rw (h.0.unknowns, h.0.classifiers, h.0.equations) at q),
    (refl, q),
  )
  | inr q ↦ (
    too_big,
    oversized {k = x.front} (rw (h.0.unknowns, h.0.classifiers, h.0.equations) at q),
    (refl, q),
  )
]
fault-of schemes place e (Close x) h = (
  not_closed h.held.close.at,
  unclosed h.solves.general h.solves.small h.held.first,
  h.held.place,
)

refused-by : (p : PureProgram) (x : PartFault) → IsFaultOfProgram p x → (r : Refusal) × IsFirstRefusal p r × IsFor r x
refused-by p x h =
    let f = fault-of h.schemes h.part.place h.part.term x h.has in (
      refusal_of (part_at x) f.0,
      refused-part p (part_at x) h.part h.schemes (refusal_of (part_at x) f.0) h.is_part h.principal h.earlier
          (f.0, f.1, refl),
      f.2,
    )

-- a program has one first refusal
found-for : (p : PureProgram) (x : PartFault) (r : Refusal) → IsResolved p → IsFaultOfProgram p x → IsFirstRefusal p r
    → IsFor r x
found-for p x r w h k = let q = refused-by p x h in
    subst (λ z. IsFor z x) (refusal-one p (resolved-written p w) q.0 r q.1 k) q.2

none-faultless : (x : Part) (schemes : List TopScheme) → ArePrincipal x.names schemes → IsSource x.term
    → HasNone schemes x.place x.term → IsFaultless x
none-faultless x schemes p source n = record {
  schemes = schemes;
  principal = p;
  fine = (n.solution, n.solves.general, n.solves.small);
  typable = fresh-typable x.names schemes p.of x.term source n.solution x.place n.solves.general n.fresh;
}

-- the fault of a part where the parts before it have none
part-found : (p : PureProgram) (i : ℕ) (y : Part) (schemes : List TopScheme) (x : PartFault) → IsPart p i y
    → ArePrincipal y.names schemes → ((j : ℕ) (z : Part) → j < i → IsPart p j z → IsFaultless z)
    → Has schemes y.place y.term x → part_at x ≡ i → IsFaultOfProgram p x
part-found p i y schemes x a q before has at = record {
  part = y;
  is_part = subst (λ k. IsPart p k y) (sym at) a;
  schemes = schemes;
  principal = q;
  has = has;
  earlier = λ j z lt b. before j z (omega (arith, at, lt)) b;
}

-- of the next item
pub item-found : (p : PureProgram) (i : ℕ) (d : Definition) (schemes : List TopScheme) (x : PartFault)
    → slice_get p.items i ≡ Some d → Progress p i schemes
    → Has schemes (part_of_item [] d).place (part_of_item [] d).term x → part_at x ≡ i → IsFaultOfProgram p x
item-found p i (value e) schemes x g h has at = part-found p i _ schemes x (an_item g) h.principal h.earlier has at
item-found p i (kernel k e) schemes x g h has at = part-found p i _ schemes x (an_item g) h.principal h.earlier has at

-- an item that is refused has one
pub item-none : (p : PureProgram) (i : ℕ) (d : Definition) (schemes : List TopScheme) (r : Refusal) → IsResolved p
    → slice_get p.items i ≡ Some d → Progress p i schemes
    → HasNone schemes (part_of_item [] d).place (part_of_item [] d).term
    → IsFaultOf schemes (part_of_item [] d).place (part_of_item [] d).term i r → ⊥
item-none p i (value e) schemes r w g h n f =
    let x = part_of_item (seen_by_item p.items i) (value e) in
    let a : IsPart p i x = an_item g in
    let source = scoped-source _ [] _ e (w.scoped i x a) in
    faultless-fault x schemes h.principal source (none-faultless x schemes h.principal source n) f.1
item-none p i (kernel k e) schemes r w g h n f =
    let x = part_of_item (seen_by_item p.items i) (kernel k e) in
    let a : IsPart p i x = an_item g in
    let source = scoped-source _ [] _ e (w.scoped i x a) in
    faultless-fault x schemes h.principal source (none-faultless x schemes h.principal source n) f.1

-- the same of main
pub main-found : (p : PureProgram) (schemes : List TopScheme) (x : PartFault) → Progress p (length p.items) schemes
    → Has (revealed p.items schemes) (main_place p.result) p.body x → part_at x ≡ length p.items → IsFaultOfProgram p x
main-found p schemes x h has at = part-found p (length p.items) (part_of_main p) (revealed p.items schemes) x
    (main refl) (principal-main p.items schemes h.principal) h.earlier has at

pub main-none : (p : PureProgram) (schemes : List TopScheme) (r : Refusal) → IsResolved p
    → Progress p (length p.items) schemes → HasNone (revealed p.items schemes) (main_place p.result) p.body
    → IsFirstRefusal p r → ⊥
main-none p schemes r w h n k =
    let a : IsPart p (length p.items) (part_of_main p) = main refl in
    faultless-refused p (resolved-written p w) r
    (all-faultless p schemes h
    (none-faultless (part_of_main p) (revealed p.items schemes) (principal-main p.items schemes h.principal)
    (scoped-source _ [] _ p.body (w.scoped _ _ a)) n)) k

-- what the answer for a part says of the program
pub answer-found : {E : Type 0} (p : PureProgram) (schemes : List TopScheme) (place : Place) (e : Expression) (i : ℕ)
    (r : Result (Option PartFault) E) → ((x : PartFault) → Has schemes place e x → part_at x ≡ i → IsFaultOfProgram p x)
    → IfOk r (FaultyAt schemes place e i) → IfOk r (λ found. IfSome found (IsFaultOfProgram p))
answer-found p schemes place e i (Ok None) f h = tt
answer-found p schemes place e i (Ok (Some x)) f h = f x h.0 h.1
answer-found p schemes place e i (Err z) f h = tt

pub answer-first : {E : Type 0} (p : PureProgram) (schemes : List TopScheme) (place : Place) (e : Expression) (i : ℕ)
    (r : Result (Option PartFault) E) (k : Refusal) → IsResolved p
    → ((x : PartFault) → Has schemes place e x → part_at x ≡ i → IsFaultOfProgram p x)
    → (HasNone schemes place e → ⊥) → IsFirstRefusal p k → IfOk r (FaultyAt schemes place e i) → IsFaultOrMemory k r
answer-first p schemes place e i (Ok None) k w f n q h = absurd (n h)
answer-first p schemes place e i (Ok (Some x)) k w f n q h = found-for p x k w (f x h.0 h.1) q
answer-first p schemes place e i (Err z) k w f n q h = tt
