-- The notes of names are those of their schemes, where a let's root is its most general type.
use Rattle.std.proofs.Common.{◌≡◌, ℕ, zero, suc, ◌<◌, List, [], ◌∷◌, length, Some, refl, ap, arith}
use Rattle.std.specs.Prelude.{slice_get}
use Rattle.mw_term.specs.Terms.{Expression}
use Rattle.mw_term.specs.Programs.{Definition, value as defines, kernel}
use Rattle.mw_term.specs.Typing.{TopLevel}
use Rattle.mw_term.specs.Typable.{seen_by_item, seen_by_main}
use Rattle.mw_types.specs.Types.{TypeExpression}
use Rattle.mw_recheck.specs.Notes.{hidden, let_root, kernel_root}
use Rattle.mw_recheck.specs.Certificates.{notes_for_item, notes_for_main}
use Rattle.mw_infer.specs.Schemes.{Scheme, TopScheme, let_scheme, kernel_scheme, scheme_out_of_scope, IsInOrder}
use Rattle.mw_infer.specs.Inferring.{IsSchemeOf, AreSchemesOf}
use Rattle.mw_infer.specs.Checking.{AreInOrder}
use Rattle.mw_general.specs.Telling.{AreRootsOf}
use Rattle.mw_made.proofs.Lists.{same_list}

-- each let among the items, of those before item i, has its most general type as its root
abbrev pub RootsAre : List TopLevel → List Definition → List TypeExpression → ℕ → Type 0
RootsAre tops items roots i = (j : ℕ) (e : Expression) (r : Scheme) (t : TypeExpression) → j < i
    → slice_get items j ≡ Some (defines e) → slice_get roots j ≡ Some t → IsSchemeOf tops e r → IsInOrder r
    → t ≡ r.type

after_one : (tops : List TopLevel) (d : Definition) (items : List Definition) (t : TypeExpression)
    (roots : List TypeExpression) (i : ℕ) → RootsAre tops (d ∷ items) (t ∷ roots) (suc i)
    → RootsAre tops items roots i
after_one tops d items t roots i f j e r u lt a b s o = f (suc j) e r u (omega arith) a b s o

pub item_notes : (tops : List TopLevel) (items : List Definition) (roots : List TypeExpression) (i : ℕ)
    (schemes : List TopScheme) → length roots ≡ length items → AreSchemesOf tops (seen_by_item items i) schemes
    → AreInOrder schemes → RootsAre tops items roots i → AreRootsOf schemes (notes_for_item items roots i)
item_notes tops [] roots i [] n h o f = refl
item_notes tops [] roots i (s ∷ schemes) n h o f = absurd h
item_notes tops (d ∷ items) [] i schemes n h o f = absurd (omega (arith, n))
item_notes tops (d ∷ items) (t ∷ roots) zero [] n h o f = refl
item_notes tops (d ∷ items) (t ∷ roots) zero (s ∷ schemes) n h o f = absurd h
item_notes tops (defines e ∷ items) (t ∷ roots) (suc i) [] n h o f = absurd h
item_notes tops (kernel k e ∷ items) (t ∷ roots) (suc i) [] n h o f = absurd h
item_notes tops (defines e ∷ items) (t ∷ roots) (suc i) (let_scheme s ∷ schemes) n h o f =
    same_list _ _ _ _ (ap (λ u. let_root u) (f 0 e s t (omega arith) refl refl h.0 o.0))
    (item_notes tops items roots i schemes (omega (arith, n)) h.1 o.1
    (after_one tops (defines e) items t roots i f))
item_notes tops (kernel k e ∷ items) (t ∷ roots) (suc i) (scheme_out_of_scope ∷ schemes) n h o f =
    same_list hidden hidden _ _ refl
    (item_notes tops items roots i schemes (omega (arith, n)) h.1 o (after_one tops (kernel k e) items t roots i f))
item_notes tops (d ∷ items) (t ∷ roots) (suc i) (s ∷ schemes) n h o f = absurd h.0

pub main_notes : (tops : List TopLevel) (items : List Definition) (roots : List TypeExpression)
    (schemes : List TopScheme) → length roots ≡ length items → AreSchemesOf tops (seen_by_main items) schemes
    → AreInOrder schemes → RootsAre tops items roots (length items) → AreRootsOf schemes (notes_for_main items roots)
main_notes tops [] roots [] n h o f = refl
main_notes tops [] roots (s ∷ schemes) n h o f = absurd h
main_notes tops (d ∷ items) [] schemes n h o f = absurd (omega (arith, n))
main_notes tops (defines e ∷ items) (t ∷ roots) [] n h o f = absurd h
main_notes tops (kernel k e ∷ items) (t ∷ roots) [] n h o f = absurd h
main_notes tops (defines e ∷ items) (t ∷ roots) (let_scheme s ∷ schemes) n h o f =
    same_list _ _ _ _ (ap (λ u. let_root u) (f 0 e s t (omega arith) refl refl h.0 o.0))
    (main_notes tops items roots schemes (omega (arith, n)) h.1 o.1
    (after_one tops (defines e) items t roots (length items) f))
main_notes tops (kernel k e ∷ items) (t ∷ roots) (kernel_scheme l ∷ schemes) n h o f =
    same_list _ _ _ _ (ap (λ z. kernel_root z) h.0)
    (main_notes tops items roots schemes (omega (arith, n)) h.1 o
    (after_one tops (kernel k e) items t roots (length items) f))
main_notes tops (d ∷ items) (t ∷ roots) (s ∷ schemes) n h o f = absurd h.0
