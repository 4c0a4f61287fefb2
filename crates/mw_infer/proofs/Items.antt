-- The types of items by most general solutions of their equations.
use Rattle.std.proofs.Common.{◌≡◌, ℕ, ◌<◌, List, [], refl, ap, sym, ◌∙◌, arith}
use Rattle.mw_term.specs.Terms.{Expression, of_ground}
use Rattle.mw_term.specs.Types.{TermType, closed_type, live, ground_type, kernel_type}
use Rattle.mw_term.specs.Typing.{TopLevel, Typed}
use Rattle.mw_term.proofs.TypesFormed.{IsPlain-kernel_type, Typed-formed}
use Rattle.mw_types.specs.Types.{Within, Assignment, value, Substitution, after}
use Rattle.mw_types.specs.Equations.{AllWithin, Solves, Solvable, MostGeneral, StaysWithin}
use Rattle.mw_infer.specs.Schemes.{TopScheme, AreOwn}
use Rattle.mw_term.specs.Sources.{IsSource}
use Rattle.mw_infer.specs.ItemEquations.{equations}
use Rattle.mw_infer.specs.Inferring.{item_unknowns, item_classifiers, item_closes, IsTypableAt, own_equations}
use Rattle.mw_infer.specs.Inferring.{item_equations, AreFresh, least, IsInstance, IsSchemeOf, AreSchemesOf}
use Rattle.mw_term.specs.Parts.{Place, let_place, kernel_place, main_place}
use Rattle.mw_term.specs.FlatTypes.{formed_type}
use Rattle.mw_term.proofs.FlatTypes.{formed_type-formed, formed_type-plain, flat_type-plain, rename_type-formed_type}
use Rattle.mw_types.proofs.Expressions.{value-ground_expression, value-kernel_expression, Within-ground_expression}
use Rattle.mw_types.proofs.Expressions.{Within-kernel_expression}
use Rattle.mw_infer.proofs.Sound.{Solves-parts, solved_typed}
use Rattle.mw_infer.specs.Below.{ClosesBelow}
use Rattle.mw_infer.proofs.Within.{AllWithin-append, equations-within, AreFresh-agree}
use Rattle.mw_infer.proofs.Extending.{Solves-append, ending}
use Rattle.mw_infer.proofs.Complete.{typed_solved}
use Rattle.mw_infer.proofs.Renamed.{Typed-renamed}
use Rattle.mw_infer.proofs.Split.{AreFresh-least, split, joined, value-split, AreFresh-split}

own-within : (n m : ℕ) (place : Place) → 0 < n → AllWithin n m (own_equations place)
own-within n m let_place h = tt
own-within n m (kernel_place k) h = ((h, Within-kernel_expression n m k), tt)
own-within n m (main_place g) h = ((h, Within-ground_expression n m g), tt)

pub item-within : (schemes : List TopScheme) (place : Place) (e : Expression) → AreOwn schemes
    → AllWithin (item_unknowns schemes e) (item_classifiers schemes e) (item_equations schemes place e)
item-within schemes place e w = AllWithin-append _ _ (own_equations place) (equations schemes 0 1 0 [] live e)
    (own-within _ _ place (omega arith)) (equations-within schemes w _ _ 0 1 0 [] live e (omega arith) (omega arith)
    (omega arith) tt tt)

-- what an item's type solves its equations by
record Solved (schemes : List TopScheme) (place : Place) (e : Expression) (t : TermType) : Type 0 where
  by : Assignment
  gives : by.ty 0 ≡ t
  solves : Solves by (item_equations schemes place e)
  fresh : AreFresh by (item_closes schemes e)
  below : ClosesBelow (item_unknowns schemes e) (item_classifiers schemes e) (item_closes schemes e)

module _ (tops : List TopLevel) (schemes : List TopScheme) (known : AreSchemesOf tops tops schemes) (e : Expression)
  where
    -- a fresh solution types an item
    solution-typed : (a : Assignment) (place : Place) → Solves a (item_equations schemes place e)
        → AreFresh a (item_closes schemes e) → Typed tops [] live e (formed_type (a.ty 0))
    solution-typed a place h f = solved_typed tops schemes known a 0 1 0 [] live e
        (Solves-parts a (own_equations place) (equations schemes 0 1 0 [] live e) h).1 f

    typed-as_asked : (a : Assignment) (place : Place) → Solves a (own_equations place)
        → Typed tops [] live e (formed_type (a.ty 0)) → IsTypableAt tops place e
    typed-as_asked a let_place h d = (_, d)
    typed-as_asked a (kernel_place k) h d =
        rw (h.0, value-kernel_expression a k, flat_type-plain (kernel_type k) (IsPlain-kernel_type k)) at d
    typed-as_asked a (main_place g) h d =
        rw (h.0, value-ground_expression a g, formed_type-plain (ground_type g) (IsPlain-kernel_type (of_ground g))) at
        d

    solution-typable : (a : Assignment) (place : Place) → Solves a (item_equations schemes place e)
        → AreFresh a (item_closes schemes e) → IsTypableAt tops place e
    solution-typable a place h f =
        typed-as_asked a place (Solves-parts a (own_equations place) (equations schemes 0 1 0 [] live e) h).0
        (solution-typed a place h f)

    module _ (source : IsSource e) where
      typed-solved : (place : Place) (t : TermType) → ((a : Assignment) → a.ty 0 ≡ t → Solves a (own_equations place))
          → Typed tops [] live e t → Solved schemes place e t
      typed-solved place t own d =
          let m = typed_solved tops schemes known (record { ty = λ u. t; classifier = λ c. 0 }) 0 1 0 [] live source
          (record { own = omega arith; gives = refl; slots = tt; level = tt; env = refl; at = refl }) d in
          let g : m.by.ty 0 ≡ t = sym (m.keeps.types 0 (omega arith)) in
          record {
            by = m.by;
            gives = g;
            solves = Solves-append m.by (own_equations place) (equations schemes 0 1 0 [] live e) (own m.by g) m.solves;
            fresh = m.fresh;
            below = (ending refl (omega arith) m).below;
          }

      solved-at : (place : Place) → IsTypableAt tops place e → (t : TermType) × Solved schemes place e t
      solved-at let_place d = (d.0, typed-solved let_place d.0 (λ a p. tt) d.1)
      solved-at (kernel_place k) d =
          (_, typed-solved (kernel_place k) _ (λ a p. (p ∙ ap closed_type (sym (value-kernel_expression a k)), tt)) d)
      solved-at (main_place g) d =
          (_, typed-solved (main_place g) _ (λ a p. (p ∙ sym (value-ground_expression a g), tt)) d)

      pub typable-solvable : (place : Place) → IsTypableAt tops place e → Solvable (item_equations schemes place e)
      typable-solvable place d = let m = solved-at place d in (m.1.by, m.1.solves)

      module _ (s : Substitution) where
        pub typable-fresh : (place : Place) → MostGeneral (item_unknowns schemes e) (item_classifiers schemes e)
            (item_equations schemes place e) s → IsTypableAt tops place e
            → AreFresh (after least s) (item_closes schemes e)
        typable-fresh place g d =
            let m = (solved-at place d).1 in
            let q = g.general m.by m.solves in
            AreFresh-least q.0 s (item_closes schemes e) (AreFresh-agree q.1 (item_closes schemes e) m.below m.fresh)

        pub fresh-typable : (place : Place) → MostGeneral (item_unknowns schemes e) (item_classifiers schemes e)
            (item_equations schemes place e) s → AreFresh (after least s) (item_closes schemes e)
            → IsTypableAt tops place e
        fresh-typable place g f = solution-typable (after least s) place (g.sound least) f

        -- a let's types are the instances of its most general type
        type-instance : (t : TermType) → MostGeneral (item_unknowns schemes e) (item_classifiers schemes e)
            (item_equations schemes let_place e) s → Typed tops [] live e t → IsInstance (s.ty 0) t
        type-instance t g d =
            let m = typed-solved let_place t (λ a p. tt) d in
            let q = g.general m.by m.solves in
            record { formed = Typed-formed tt d; by = q.0; gives = sym (q.1.types 0 (omega arith)) ∙ m.gives }

        instance-typed : (b : Assignment) → MostGeneral (item_unknowns schemes e) (item_classifiers schemes e)
            (item_equations schemes let_place e) s → AreFresh (after least s) (item_closes schemes e)
            → Typed tops [] live e (formed_type (value b (s.ty 0)))
        instance-typed b g f =
            let r = joined b in
            rw (rename_type-formed_type r.0 (value (split b) (s.ty 0)), value-split b r.0 (s.ty 0) r.1) at
            (Typed-renamed tops r.0
            (solution-typed (after (split b) s) let_place (g.sound (split b))
            (AreFresh-split b s (item_closes schemes e) f)))

        pub most_general-scheme_within : (k l : ℕ) → Within k l (s.ty 0) → MostGeneral (item_unknowns schemes e)
            (item_classifiers schemes e) (item_equations schemes let_place e) s
            → AreFresh (after least s) (item_closes schemes e)
            → IsSchemeOf tops e (record { unknowns = k; classifiers = l; type = s.ty 0 })
        most_general-scheme_within k l w g f = record {
          within = w;
          types = λ t. (
            (λ d. type-instance t g d),
            (λ i. rw (i.gives, formed_type-formed t i.formed) at (instance-typed i.by g f)),
          );
          formed = λ b. let i = type-instance (formed_type (value b (s.ty 0))) g (instance-typed b g f) in
              (i.by, i.gives);
        }

        pub most_general-scheme : MostGeneral (item_unknowns schemes e) (item_classifiers schemes e)
            (item_equations schemes let_place e) s → StaysWithin (item_unknowns schemes e) (item_classifiers schemes e)
            s
            → AreFresh (after least s) (item_closes schemes e)
            → IsSchemeOf tops e
            (record { unknowns = item_unknowns schemes e; classifiers = item_classifiers schemes e; type = s.ty 0 })
        most_general-scheme g w f = most_general-scheme_within (item_unknowns schemes e) (item_classifiers schemes e)
            (w.types 0 (omega arith)) g f
