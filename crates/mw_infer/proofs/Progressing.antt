-- The check of a program, item by item.
use Rattle.std.proofs.Common.{◌≡◌, Bool, true, false, ℕ, zero, suc, ◌*◌, ◌^◌, ◌<◌, ◌≤◌, List, [], ◌∷◌, ◌++◌, map, refl}
use Rattle.std.proofs.Common.{ap, arith}
use Rattle.std.specs.Prelude.{slice_get}
use Rattle.mw_term.specs.Terms.{Expression, size, glob, fun, fix, app, bind, cond, pair, fst, snd}
use Rattle.mw_term.specs.Terms.{prim, bracket, escape, run, close, opened, lift, lift_b, done}
use Rattle.mw_term.specs.Programs.{Definition, value, kernel, PureProgram}
use Rattle.mw_term.specs.Typing.{TopLevel, let_item, kernel_item, out_of_scope}
use Rattle.mw_term.specs.Scoped.{IsScoped, is_seen}
use Rattle.mw_infer.specs.Schemes.{Scheme, TopScheme, let_scheme, kernel_scheme, scheme_out_of_scope, AreOwn}
use Rattle.mw_term.specs.Sources.{IsSource}
use Rattle.mw_infer.specs.ItemEquations.{unknowns_of_name, classifiers_of_name, unknowns_of, classifiers_of}
use Rattle.mw_infer.specs.Inferring.{item_unknowns, item_classifiers, IsSchemeOf, AreSchemesOf}
use Rattle.mw_term.specs.Parts.{let_place}
use Rattle.mw_infer.specs.Scoped.{has_scheme}
use Rattle.mw_term.specs.Parts.{Part, IsResolved}
use Rattle.mw_infer.specs.Checking.{ArePrincipal, IsFaultless, IsWritten}
use Rattle.mw_infer.specs.Emitting.{AreLow}
use Rattle.mw_infer.specs.Judging.{CanJudge, Judges}
use Rattle.mw_infer.specs.Progress.{AreModest}
use Rattle.mw_infer.specs.Views.{scheme_of}
use Rattle.mw_infer.specs.declared.judge.Verdict.TheVariants.{Fine}
use Rattle.mw_infer.specs.declared.judge.Judged.{Judged}
use Rattle.mw_infer.proofs.Within.{Within-more}
use Rattle.mw_infer.proofs.Items.{fresh-typable, most_general-scheme}
use Rattle.mw_infer.proofs.SameInstances.{IsSchemeOf-renumbered}
use Rattle.mw_infer.proofs.Growing.{revealed, principal-own}

-- what is scoped was written in a source
pub scoped-source : (names g : List Bool) (m : Bool) (e : Expression) → IsScoped names g m e → IsSource e
scoped-source names g m (fun e) h = scoped-source names (m ∷ g) m e h
scoped-source names g m (fix e) h = scoped-source names (m ∷ m ∷ g) m e h
scoped-source names g m (app f a) h = (scoped-source names g m f h.0, scoped-source names g m a h.1)
scoped-source names g m (bind d e) h = (scoped-source names g m d h.0, scoped-source names (m ∷ g) m e h.1)
scoped-source names g m (cond c a b) h =
    (scoped-source names g m c h.0, scoped-source names g m a h.1, scoped-source names g m b h.2)
scoped-source names g m (pair a b) h = (scoped-source names g m a h.0, scoped-source names g m b h.1)
scoped-source names g m (fst e) h = scoped-source names g m e h
scoped-source names g m (snd e) h = scoped-source names g m e h
scoped-source names g m (prim p a b) h = (scoped-source names g m a h.0, scoped-source names g m b h.1)
scoped-source names g m (bracket e) h = scoped-source names g true e h.1
scoped-source names g m (escape e) h = scoped-source names g false e h.1
scoped-source names g m (run k e) h = scoped-source names g false e h.1
scoped-source names g m (close at e) h = scoped-source names g false e h.1
scoped-source names g m (opened e) h = scoped-source names g false e h.1
scoped-source names g m (lift e) h = scoped-source names g false e h.1
scoped-source names g m (lift_b e) h = scoped-source names g false e h.1
scoped-source names g m (done v) h = absurd h
scoped-source names g m e h = tt

pub resolved-written : (p : PureProgram) → IsResolved p → IsWritten p
resolved-written p h =
    record {
      values = h.values;
      sources = λ i x a. scoped-source (map is_seen x.names) [] false x.term
          (h.scoped i x a);
    }

-- a name has a scheme where it is seen
seen-schemes : (tops names : List TopLevel) (schemes : List TopScheme) → AreSchemesOf tops names schemes
    → map is_seen names ≡ map has_scheme schemes
seen-schemes tops [] [] h = refl
seen-schemes tops [] (s ∷ schemes) h = absurd h
seen-schemes tops (x ∷ names) [] h = absurd h
seen-schemes tops (let_item e ∷ names) (let_scheme s ∷ schemes) h =
    ap (λ z. true ∷ z) (seen-schemes tops names schemes h.1)
seen-schemes tops (kernel_item k ∷ names) (kernel_scheme l ∷ schemes) h =
    ap (λ z. true ∷ z) (seen-schemes tops names schemes h.1)
seen-schemes tops (out_of_scope ∷ names) (scheme_out_of_scope ∷ schemes) h =
    ap (λ z. false ∷ z) (seen-schemes tops names schemes h.1)
seen-schemes tops (x ∷ names) (s ∷ schemes) h = absurd h.0

-- numbers of unknowns
modest-name : (schemes : List TopScheme) (i : ℕ) → AreModest schemes → (unknowns_of_name (slice_get schemes i) ≤ 10000)
    × (classifiers_of_name (slice_get schemes i) ≤ 10000)
modest-name [] i h = (omega arith, omega arith)
modest-name (let_scheme s ∷ schemes) zero h = h.0
modest-name (let_scheme s ∷ schemes) (suc i) h = modest-name schemes i h.1
modest-name (x ∷ schemes) zero h = (omega arith, omega arith)
modest-name (x ∷ schemes) (suc i) h = modest-name schemes i h

modest-term : (schemes : List TopScheme) (e : Expression) → AreModest schemes → (unknowns_of schemes e ≤ 10000 * size e)
    × (classifiers_of schemes e ≤ 10000 * size e)
modest-term schemes (glob i) h = modest-name schemes i h
modest-term schemes (fun e) h = let x = modest-term schemes e h in (omega (arith, x.0), omega (arith, x.1))
modest-term schemes (fix e) h = let x = modest-term schemes e h in (omega (arith, x.0), omega (arith, x.1))
modest-term schemes (app f a) h = let x = modest-term schemes f h in let y = modest-term schemes a h in
    (omega (arith, x.0, y.0), omega (arith, x.1, y.1))
modest-term schemes (bind d e) h = let x = modest-term schemes d h in let y = modest-term schemes e h in
    (omega (arith, x.0, y.0), omega (arith, x.1, y.1))
modest-term schemes (cond c a b) h = let x = modest-term schemes c h in let y = modest-term schemes a h in let z =
    modest-term schemes b h in (omega (arith, x.0, y.0, z.0), omega (arith, x.1, y.1, z.1))
modest-term schemes (pair a b) h = let x = modest-term schemes a h in let y = modest-term schemes b h in
    (omega (arith, x.0, y.0), omega (arith, x.1, y.1))
modest-term schemes (fst e) h = let x = modest-term schemes e h in (omega (arith, x.0), omega (arith, x.1))
modest-term schemes (snd e) h = let x = modest-term schemes e h in (omega (arith, x.0), omega (arith, x.1))
modest-term schemes (prim p a b) h = let x = modest-term schemes a h in let y = modest-term schemes b h in
    (omega (arith, x.0, y.0), omega (arith, x.1, y.1))
modest-term schemes (bracket e) h = let x = modest-term schemes e h in (omega (arith, x.0), omega (arith, x.1))
modest-term schemes (escape e) h = let x = modest-term schemes e h in (omega (arith, x.0), omega (arith, x.1))
modest-term schemes (run k e) h = let x = modest-term schemes e h in (omega (arith, x.0), omega (arith, x.1))
modest-term schemes (close at e) h = let x = modest-term schemes e h in (omega (arith, x.0), omega (arith, x.1))
modest-term schemes (opened e) h = let x = modest-term schemes e h in (omega (arith, x.0), omega (arith, x.1))
modest-term schemes (lift e) h = let x = modest-term schemes e h in (omega (arith, x.0), omega (arith, x.1))
modest-term schemes (lift_b e) h = let x = modest-term schemes e h in (omega (arith, x.0), omega (arith, x.1))
modest-term schemes e h = (omega arith, omega arith)

low-schemes : (schemes : List TopScheme) → AreModest schemes → AreOwn schemes → AreLow schemes
low-schemes [] h w = tt
low-schemes (let_scheme s ∷ schemes) h w =
    (let x = h.0.0 in let y = h.0.1 in Within-more (omega arith) (omega arith) s.type w.0, low-schemes schemes h.1 w.1)
low-schemes (kernel_scheme k ∷ schemes) h w = low-schemes schemes h w
low-schemes (scheme_out_of_scope ∷ schemes) h w = low-schemes schemes h w

-- a part of a resolved program can be judged
pub can-judge : (names : List TopLevel) (schemes : List TopScheme) (e : Expression) → ArePrincipal names schemes
    → AreModest schemes → IsScoped (map is_seen names) [] false e → size e < 2 ^ 32 → CanJudge schemes e
can-judge names schemes e p m s lt = record {
  scoped = rw (seen-schemes names names schemes p.of) at s;
  own = principal-own names schemes p;
  low = low-schemes schemes m (principal-own names schemes p);
  unknowns = let x = (modest-term schemes e m).0 in omega arith;
  classifiers = let x = (modest-term schemes e m).1 in omega arith;
}

-- a part that is judged fine has no fault
pub fine-faultless : (x : Part) (schemes : List TopScheme) (w : Judged) → ArePrincipal x.names schemes
    → IsSource x.term → Judges schemes x.place x.term (Fine w) → IsFaultless x
fine-faultless x schemes w p source j = record {
  schemes = schemes;
  principal = p;
  fine = (j.0, j.1.general, j.1.small);
  typable = fresh-typable x.names schemes p.of x.term source j.0 x.place j.1.general j.2;
}

-- and a let's type that is judged is its scheme
pub fine-scheme : (names : List TopLevel) (schemes : List TopScheme) (e : Expression) (w : Judged)
    → ArePrincipal names schemes → IsSource e → Judges schemes let_place e (Fine w)
    → IsSchemeOf names e (scheme_of w.known)
fine-scheme names schemes e w p source j =
    IsSchemeOf-renumbered names e
    (record { unknowns = item_unknowns schemes e; classifiers = item_classifiers schemes e; type = j.0.ty 0 })
    (scheme_of w.known) (most_general-scheme names schemes p.of e source j.0 j.1.general j.1.within j.2) j.3

pub modest-let : (schemes : List TopScheme) (s : Scheme) → AreModest schemes → s.unknowns ≤ 10000 → s.classifiers
    ≤ 10000 → AreModest (schemes ++ (let_scheme s ∷ []))
modest-let [] s h p q = ((p, q), tt)
modest-let (let_scheme r ∷ schemes) s h p q = (h.0, modest-let schemes s h.1 p q)
modest-let (kernel_scheme k ∷ schemes) s h p q = modest-let schemes s h p q
modest-let (scheme_out_of_scope ∷ schemes) s h p q = modest-let schemes s h p q

pub modest-none : (schemes : List TopScheme) → AreModest schemes → AreModest (schemes ++ (scheme_out_of_scope ∷ []))
modest-none [] h = tt
modest-none (let_scheme r ∷ schemes) h = (h.0, modest-none schemes h.1)
modest-none (s ∷ schemes) h = modest-none schemes h

pub modest-revealed : (items : List Definition) (schemes : List TopScheme) → AreModest schemes
    → AreModest (revealed items schemes)
modest-revealed [] schemes h = h
modest-revealed (value e ∷ items) (let_scheme s ∷ schemes) h = (h.0, modest-revealed items schemes h.1)
modest-revealed (kernel k e ∷ items) (let_scheme s ∷ schemes) h = modest-revealed items schemes h.1
modest-revealed (d ∷ items) (s ∷ schemes) h = modest-revealed items schemes h
modest-revealed (d ∷ items) [] h = tt
